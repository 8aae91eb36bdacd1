use Rattle.std.proofs.Common.{◌∙◌, List, ℕ, ◌++◌, Some, inl, inr, sym, ap, flat_map}
use Rattle.std.proofs.lemmas.List.{append-nil}
use Rattle.mls_check.proofs.Contents.{is_signed-over, is_signed-content, sign_content-pieces}
use Rattle.mls_check.proofs.signatures.signed_in_pieces.Goals as goal

pub returns-in_default : goal.returns-in_default
returns-in_default g c =
    sym (is_signed-over (g.C.SignatureCheck.meaning c.args.checker.now) c.args.suite c.args.key.now c.args.label.now c.args.signature.now
    (flat_map (λ p. p.now) c.args.tbs.now) (inr c.in_default.ensures))

pub returns-then-label-gt-MAX_BODY : goal.returns-then-label-gt-MAX_BODY
returns-then-label-gt-MAX_BODY g c =
    sym (is_signed-over (g.C.SignatureCheck.meaning c.args.checker.now) c.args.suite c.args.key.now c.args.label.now c.args.signature.now
    (flat_map (λ p. p.now) c.args.tbs.now) (inl (rw c.as_bytes-label.ensures.value at c.if-label-gt-MAX_BODY.true)))

pub returns : goal.returns
returns g c =
    let label = c.args.label.now in
    let tbs = flat_map (λ p. p.now) c.args.tbs.now in
    let a = c.of-label_len.result in
    let b = c.of-tbs_len.result in
    let label_len = rw c.as_bytes-label.ensures.value at c.of-label_len.ensures in
    let tbs_len = rw c.in-Some.ensures.0 at c.of-tbs_len.ensures in
    let asked = rw (c.as_slice-3.ensures.value, c.in_ok-extend_from_slice.ensures.items, c.in_ok-content.ensures.items, c.as_slice.ensures, c.as_slice-2.ensures, c.as_bytes-label.ensures.value) at c.good.ensures in
    let pieces = sign_content-pieces label tbs a b label_len tbs_len ∙ ap (λ (t : List ℕ). Some (a ++ (label ++ (b ++ t)))) (append-nil tbs) in
    asked ∙ is_signed-content (g.C.SignatureCheck.meaning c.args.checker.now) c.args.suite c.args.key.now label c.args.signature.now tbs _ pieces
