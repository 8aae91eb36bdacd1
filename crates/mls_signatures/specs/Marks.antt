-- The marked elements of a list.
-- Internal: no public contract uses this.
use Rattle.std.specs.Prelude.{Bool, List, [], ◌∷◌, cond}

-- `marked marks xs`: the elements of `xs` whose mark is true
abbrev pub marked : {X : Type 0} → List Bool → List X → List X
marked [] xs = []
marked (b ∷ bs) [] = []
marked (b ∷ bs) (x ∷ xs) = cond b (x ∷ marked bs xs) (marked bs xs)
