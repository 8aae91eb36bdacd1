use Rattle.std.proofs.Common.{rules, ◌≡◌, ◌∙◌, [], sym, ap}
use Rattle.mls_follow.specs.FollowerModel.{checker_of, state_of}
use Rattle.mls_examine.specs.GroupInfos.{unaccepted}
use Rattle.mls_examine.proofs.InfoSteps.{is_content, is_signed, is_unsigned, unlisted}
use Rattle.mls_examine.proofs.current_infos.check_signature.Goals as goal

pub returns-then-is_empty-clause-unfit : goal.returns-then-is_empty-clause-unfit
returns-then-is_empty-clause-unfit g c =
    let none : c.in_ok-signatures.signatures.items ≡ [] = search rules in
    λ _. unlisted (g.C.SignatureCheck.meaning (checker_of c.args.follower.now)) (state_of c.args.follower.now) c.args.info.now c.requires
    (sym (rw c.tree.ensures at c.in_ok-signatures.ensures) ∙ none)

pub returns-then-not-is_empty-clause-unfit : goal.returns-then-not-is_empty-clause-unfit
returns-then-not-is_empty-clause-unfit g c =
    let G = g.C.SignatureCheck.meaning (checker_of c.args.follower.now) in
    let listed = rw c.tree.ensures at c.in_ok-signatures.ensures in
    let some : c.in_ok-signatures.signatures.items ≡ [] → ⊥ = λ e. search rules in
    let more : c.among-unaccepted.result ≡ [] → ⊥ = λ e. search rules in
    let same = (rw c.checker.ensures at c.among-unaccepted.ensures) ∙ ap (unaccepted G) listed in
    let unsigned = is_unsigned G (state_of c.args.follower.now) c.args.info.now c.requires (λ e. some (listed ∙ e)) (λ e. more (same ∙ e)) in
    λ _. (unsigned.0, unsigned.1, same)

pub returns-clause-content : goal.returns-clause-content
returns-clause-content g c =
    let some : c.in_ok-signatures.signatures.items ≡ [] → ⊥ = λ e. search rules in
    is_content (g.C.SignatureCheck.meaning (checker_of c.args.follower.now)) (state_of c.args.follower.now) c.args.info.now c.requires
    (λ e. some ((rw c.tree.ensures at c.in_ok-signatures.ensures) ∙ e))

pub returns-clause-signed : goal.returns-clause-signed
returns-clause-signed g c =
    let G = g.C.SignatureCheck.meaning (checker_of c.args.follower.now) in
    let listed = rw c.tree.ensures at c.in_ok-signatures.ensures in
    let some : c.in_ok-signatures.signatures.items ≡ [] → ⊥ = λ e. search rules in
    let none : c.among-unaccepted.result ≡ [] = search rules in
    let same = (rw c.checker.ensures at c.among-unaccepted.ensures) ∙ ap (unaccepted G) listed in
    is_signed G (state_of c.args.follower.now) c.args.info.now c.requires (λ e. some (listed ∙ e)) (sym same ∙ none)
