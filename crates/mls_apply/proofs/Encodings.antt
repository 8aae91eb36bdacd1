-- Which spellings there are, one after the other, and of what a tree's hash is made.
use Rattle.std.proofs.Common.{◌≡◌, ℕ, List, Option, Some, None, IsSome, refl, sym, subst}
use Rattle.std.specs.Prelude.{option_map}
use Rattle.std.specs.Int.{w8}
use Rattle.mls_wire.specs.Encoding.{◌⊕◌, number, vector, optional}
use Rattle.mls_nodes.specs.Layout as layout
use Rattle.mls_nodes.specs.declared.parent.ParentNode.{ParentNode}
use Rattle.mls_tree.specs.TreeHash.{hash_of_parent, parent_tree_hash_input}

-- what is there
pub taken_out : {A : Type 0} (o : Option A) → IsSome o → (x : A) × (o ≡ Some x)
taken_out None h = absurd (cc)
taken_out (Some x) h = (x, refl)

pub put_back : {A : Type 0} (o : Option A) (x : A) → o ≡ Some x → IsSome o
put_back {A} o x e = subst (λ (y : Option A). IsSome y) (sym e) refl

pub mapped : {A B : Type 0} (f : A → B) (o : Option A) → IsSome o → IsSome (option_map f o)
mapped f None h = absurd (cc)
mapped f (Some x) h = refl

pub mapped_some : {A B : Type 0} (f : A → B) (o : Option A) → IsSome (option_map f o) → IsSome o
mapped_some f None h = absurd (cc)
mapped_some f (Some x) h = refl

-- ---- one after the other

pub both_encoded : (a b : Option (List ℕ)) → IsSome a → IsSome b → IsSome (a ⊕ b)
unfolding ◌⊕◌
both_encoded None b p q = absurd (cc)
both_encoded (Some x) None p q = absurd (cc)
both_encoded (Some x) (Some y) p q = refl

pub left_encoded : (a b : Option (List ℕ)) → IsSome (a ⊕ b) → IsSome a
unfolding ◌⊕◌
left_encoded None b h = h
left_encoded (Some x) b h = refl

pub right_encoded : (a b : Option (List ℕ)) → IsSome (a ⊕ b) → IsSome b
unfolding ◌⊕◌
right_encoded None b h = absurd (cc)
right_encoded (Some x) None h = h
right_encoded (Some x) (Some y) h = refl

-- ---- a hash of a parent: both halves have one, and the parent a spelling

pub parts_some : (H : List ℕ → List ℕ) (p : Option ParentNode) (a b : Option (List ℕ)) → IsSome (hash_of_parent H p a b)
    → IsSome a × IsSome (optional layout.parent p) × IsSome b
parts_some H p None b h = absurd (cc)
parts_some H p (Some x) None h = absurd (cc)
parts_some H p (Some x) (Some y) h =
    let whole = mapped_some H (parent_tree_hash_input p x y) h in
    (refl, left_encoded (optional layout.parent p) (vector x ⊕ vector y) (right_encoded (number w8 2) (optional layout.parent p ⊕ vector x ⊕ vector y) whole), refl)
