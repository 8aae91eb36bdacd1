use Rattle.std.proofs.Common.{◌≡◌, ◌∙◌, ◌+◌, List, [], ◌∷◌, ◌++◌, take, ap, sym, subst}
use Rattle.std.proofs.lemmas.List.{take_more}
use Rattle.mls_signatures.specs.declared.shortened_signature.ShortenedSignature.{ShortenedSignature}
use Rattle.mls_signatures.proofs.ShortenedMarks.{Parts, of_parts, HasMarks, marks-next}
use Rattle.mls_signatures.proofs.duplicates.first_marks.Goals as goal

pub loop-entry-preserved : goal.loop-entry-preserved
loop-entry-preserved c =
    let list = c.args.list.now in
    let at = c.loop-entry.entry-index in
    let w = c.entry-item.result in
    let p : Parts = (w.suite, w.is_shortened, w.key_len, w.signature_len, c.as_slice-bytes.result) in
    let is : of_parts p ≡ w = λ i. record {
      suite = w.suite;
      is_shortened = w.is_shortened;
      key_len = w.key_len;
      signature_len = w.signature_len;
      bytes = c.as_slice-bytes.ensures i;
    } in
    let next : take (at + 1) list ≡ take at list ++ w ∷ [] =
    take_more list at w c.loop-entry-test.true ∙ ap (λ (x : ShortenedSignature). take at list ++ x ∷ []) (sym c.entry-item.is) in
    subst (λ (ws : List ShortenedSignature). HasMarks ws c.push.new.self.items c.insert.new.self) (sym next)
    (marks-next (take at list) c.loop-entry.marks.items c.loop-entry.seen c.loop-entry.invariant w p is
    c.in_ok-insert.field-0 c.in_ok-insert.ensures.added c.insert.new.self c.in_ok-insert.ensures.updates.0 c.push.new.self.items c.in_ok-push.ensures.items)
