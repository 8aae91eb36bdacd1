use Rattle.std.proofs.Common.{◌∙◌, refl, sym, length}
use Rattle.std.proofs.lemmas.Bool.{eqb-true}
use Rattle.std.proofs.lemmas.List.{nil_from_length}
use Rattle.mls_wire.specs.StoredItems.{none_stored, nothing_stored}
use Rattle.mls_wire.proofs.encoded_items.EncodedItems.is_empty.Goals as goal

pub returns : goal.returns
returns g c =
    let same = c.as_slice.ensures.bytes in (
      (λ yes. sym c.self.view_is ∙ none_stored g.T.Decode.reading c.self.inside.body (sym same ∙ nil_from_length _ (eqb-true (length c.as_slice.result.now) 0 (sym c.is_empty.ensures ∙ yes)))),
      (λ none.
          let nothing = nothing_stored g.T.Decode.encoding g.T.Decode.reading g.met.T.Decode.exact g.met.T.Decode.long c.self.inside.body c.self.invariant (c.self.view_is ∙ none) in
          rw (c.is_empty.ensures, same, nothing) refl),
    )
