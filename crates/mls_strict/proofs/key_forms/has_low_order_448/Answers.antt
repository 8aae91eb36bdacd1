use Rattle.std.proofs.Common.{◌≡◌, ◌∙◌, sym}
use Rattle.std.specs.List.{list_any}
use Rattle.std.specs.Str.{bytes_eq}
use Rattle.mls_strict.specs.declared.coordinates.TheConstants.{LOW_ORDER_448}
use Rattle.mls_strict.proofs.Constants.{low_order_448-found, low_order_448-otherwise}
use Rattle.mls_strict.proofs.key_forms.has_low_order_448.Goals as goal

pub returns-then-not-contains : goal.returns-then-not-contains
returns-then-not-contains c =
    sym (low_order_448-otherwise c.args.key.now c.requires (λ k. (c.type_inv.key k).fits) (sym c.contains.ensures.value ∙ c.if-not-contains.true))

pub returns : goal.returns
returns c =
    let h : c.contains-2.result ≡ list_any (λ y. bytes_eq y c.copy_from_slice.new.self) LOW_ORDER_448 = c.contains-2.ensures.value in
    h ∙ rw c.copy_from_slice.ensures.after (low_order_448-found c.args.key.now c.requires (λ k. (c.type_inv.key k).fits))
