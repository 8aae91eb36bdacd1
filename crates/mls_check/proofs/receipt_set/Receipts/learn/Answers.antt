use Rattle.std.proofs.Common.{ℕ, List, ◌∷◌, ◌≡◌, false, sym, ap, ◌∙◌, subst, rules}
use Rattle.mls_check.specs.ReceiptSets.{has_digest, HaveSameDigests}
use Rattle.mls_check.proofs.ReceiptSets.{found-has, learnt-has}
use Rattle.mls_check.proofs.receipt_set.Receipts.learn.Goals as goal

pub returns-clause-learnt : goal.returns-clause-learnt
returns-clause-learnt c =
    subst (λ (old : List (List ℕ)). HaveSameDigests (c.args.digest ∷ old) c.insert.new.self.keys) c.self.view_is
    (learnt-has c.self.inside.digests c.insert.new.self c.args.digest c.in_ok-insert.ensures.updates.0)

pub returns-in_err-insert-clause-added : goal.returns-in_err-insert-clause-added
returns-in_err-insert-clause-added c =
    let lacks : has_digest c.args.self.now c.args.digest ≡ false =
    sym (ap (λ digests. has_digest digests c.args.digest) c.self.view_is) ∙ sym (found-has c.self.inside.digests.keys c.args.digest) ∙ c.in_err-insert.ensures.absent in
    search rules
