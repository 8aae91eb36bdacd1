use Rattle.std.proofs.Common.{◌∙◌, sym, ap, List, ℕ}
use Rattle.std.proofs.lemmas.Slice.Eq.{bytes_eq-Decides}
use Rattle.mls_wire.specs.EncodedItems.{stored_items}
use Rattle.mls_wire.specs.StoredItems.{same_bytes}
use Rattle.mls_wire.proofs.borrowed.ItemsRef.is_same.Goals as goal

pub returns : goal.returns
returns g c =
    let f = g.T.Decode.reading in
    let one = c.self.inside.bytes.now in
    let two = c.other.inside.bytes.now in
    let decides = bytes_eq-Decides one two in (
      (λ yes. sym c.self.view_is ∙ ap (λ (b : List ℕ). stored_items f b) (decides.0 (sym c.eq.ensures ∙ yes)) ∙ c.other.view_is),
      (λ same. c.eq.ensures ∙ decides.1 (same_bytes g.T.Decode.encoding f g.met.T.Decode.exact g.met.T.Decode.long one two c.self.invariant c.other.invariant (c.self.view_is ∙ same ∙ sym c.other.view_is))),
    )
