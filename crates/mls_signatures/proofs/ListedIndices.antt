-- Leaf indices that are in a list.
use Rattle.std.proofs.Common.{◌≡◌, ℕ, List, [], ◌∷◌, Bool, true, false, refl, sym}
use Rattle.std.specs.Prelude.{◌==◌, ⊤}
use Rattle.std.specs.List.{list_any}
use Rattle.std.proofs.lemmas.Bool.{eq-eqb, eqb-false, or_left, or_parts, or_right}
use Rattle.mls_apply.specs.Outline.{IsApart}

-- whether one is in a list
abbrev pub is_in : List ℕ → ℕ → Bool
is_in js j = list_any (λ k. k == j) js

-- each of some is in a list
abbrev pub AllIn : List ℕ → List ℕ → Type 0
AllIn ws [] = ⊤
AllIn ws (j ∷ js) = (is_in ws j ≡ true) × AllIn ws js

all_behind_one : (w : ℕ) (ws js : List ℕ) → AllIn ws js → AllIn (w ∷ ws) js
all_behind_one w ws [] h = tt
all_behind_one w ws (j ∷ js) h = (or_right (w == j) (is_in ws j) h.0, all_behind_one w ws js h.1)

-- a list has its own
pub all_in_itself : (js : List ℕ) → AllIn js js
all_in_itself [] = tt
all_in_itself (j ∷ js) = (or_left (j == j) (is_in js j) (eq-eqb j j refl), all_behind_one j js js (all_in_itself js))

-- one that is in no place of a list
pub apart_from : (js : List ℕ) (j : ℕ) → is_in js j ≡ false → IsApart js j
apart_from [] j e = tt
apart_from (k ∷ js) j e =
    let parts = or_parts (k == j) (is_in js j) e in (λ same. eqb-false k j parts.0 (sym same), apart_from js j parts.1)
