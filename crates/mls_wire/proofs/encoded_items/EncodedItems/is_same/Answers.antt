use Rattle.std.proofs.Common.{◌∙◌, sym, ap, List, ℕ}
use Rattle.std.proofs.lemmas.Slice.Eq.{bytes_eq-Decides}
use Rattle.mls_wire.specs.EncodedItems.{stored_items}
use Rattle.mls_wire.specs.StoredItems.{same_bytes}
use Rattle.mls_wire.proofs.encoded_items.EncodedItems.is_same.Goals as goal

pub returns : goal.returns
returns g c =
    let f = g.T.Decode.reading in
    let one = c.as_slice.ensures.bytes in
    let two = c.as_slice-2.ensures.bytes in
    let decides = bytes_eq-Decides c.as_slice.result.now c.as_slice-2.result.now in (
      (λ yes. sym c.self.view_is ∙ ap (λ (b : List ℕ). stored_items f b) (sym one ∙ decides.0 (sym c.eq.ensures ∙ yes) ∙ two) ∙ c.other.view_is),
      (λ same. c.eq.ensures ∙ decides.1 (one ∙ same_bytes g.T.Decode.encoding f g.met.T.Decode.exact g.met.T.Decode.long c.self.inside.body c.other.inside.body c.self.invariant c.other.invariant (c.self.view_is ∙ same ∙ sym c.other.view_is) ∙ sym two)),
    )
