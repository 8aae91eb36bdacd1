-- The items of a list, one after the other.
use Rattle.std.proofs.Common.{◌≡◌, ◌∙◌, ℕ, ◌+◌, ◌<◌, ◌∷◌, List, drop, get_or, length, sym, ap}
use Rattle.std.proofs.lemmas.List.{drop_more}
use Rattle.mls_apply.specs.declared.list_item.ListItem.{ListItem}

-- the rest of a list begins with its next item
pub next_item : (items : List ListItem) (i : ℕ) (x : ListItem) → i < length items → x ≡ get_or items i x → drop i items ≡ x ∷ drop (i + 1) items
next_item items i x lt e = drop_more items i x lt ∙ ap (λ y. y ∷ drop (i + 1) items) (sym e)
