-- Items that bring extensions, one after the other.
use Rattle.std.proofs.Common.{◌≡◌, List, [], ◌∷◌, Bool, true, false, not, ◌||◌, refl, ap}
use Rattle.std.specs.Prelude.{if◌then◌else◌}
use Rattle.std.specs.List.{list_any}
use Rattle.mls_apply.specs.declared.list_item.ListItem.{ListItem}
use Rattle.mls_apply.specs.ContextExtensions.{is_context_extensions, has_one_context_extensions}

-- no two of the items bring some, where one before them did or not
abbrev pub bring_after : Bool → List ListItem → Bool
bring_after b xs = if b then not (list_any is_context_extensions xs) else has_one_context_extensions xs

pub bring-none : (b : Bool) (x : ListItem) (xs : List ListItem) → is_context_extensions x ≡ false → bring_after b (x ∷ xs) ≡ bring_after b xs
bring-none true x xs e = ap (λ c. not (c || list_any is_context_extensions xs)) e
bring-none false x xs e = ap (λ c. if c then not (list_any is_context_extensions xs) else has_one_context_extensions xs) e

pub bring-first : (x : ListItem) (xs : List ListItem) → is_context_extensions x ≡ true → bring_after false (x ∷ xs) ≡ bring_after true xs
bring-first x xs e = ap (λ c. if c then not (list_any is_context_extensions xs) else has_one_context_extensions xs) e

pub bring-twice : (x : ListItem) (xs : List ListItem) → is_context_extensions x ≡ true → bring_after true (x ∷ xs) ≡ false
bring-twice x xs e = ap (λ c. not (c || list_any is_context_extensions xs)) e

pub bring-end : (b : Bool) → bring_after b [] ≡ true
bring-end true = refl
bring-end false = refl
