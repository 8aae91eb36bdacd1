use Rattle.std.proofs.Common.{◌∙◌, refl, sym, length}
use Rattle.std.proofs.lemmas.Bool.{eqb-true}
use Rattle.std.proofs.lemmas.List.{nil_from_length}
use Rattle.mls_wire.specs.StoredItems.{none_stored, nothing_stored}
use Rattle.mls_wire.proofs.borrowed.ItemsRef.is_empty.Goals as goal

pub returns : goal.returns
returns g c =
    let bytes = c.self.inside.bytes.now in (
      (λ yes. sym c.self.view_is ∙ none_stored g.T.Decode.reading bytes (nil_from_length _ (eqb-true (length bytes) 0 (sym c.is_empty.ensures ∙ yes)))),
      (λ none.
          let nothing = nothing_stored g.T.Decode.encoding g.T.Decode.reading g.met.T.Decode.exact g.met.T.Decode.long bytes c.self.invariant (c.self.view_is ∙ none) in
          rw (c.is_empty.ensures, nothing) refl),
    )
