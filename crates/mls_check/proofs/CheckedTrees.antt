-- The leaves of a tree are members of a group, or one rule fails first at one leaf: not both, and at no other.
use Rattle.std.proofs.Common.{◌≡◌, ℕ, zero, suc, ◌+◌, ◌<◌, Bool, true, false, List, Option, Some, None, ◌⊎◌, inl, inr, add-one, refl, sym, ◌∙◌, arith}
use Rattle.std.proofs.lemmas.Bool.{cases_Bool, cases_order}
use Rattle.mls_nodes.specs.declared.leaf.LeafNode.{LeafNode}
use Rattle.mls_nodes.specs.declared.required_capabilities.RequiredCapabilities.{RequiredCapabilities}
use Rattle.mls_tree.specs.Tree.{Tree, leaf_count, leaf_at}
use Rattle.mls_check.specs.Signatures.{VerifyFn}
use Rattle.mls_check.specs.LeafValidation.{all_leaves, member_rule, LeavesAreValid, FailsFirst, FailsLeafRule}
use Rattle.mls_check.proofs.Rules.{HoldBefore, before_more, LeavesAreValid-before}
use Rattle.mls_check.proofs.Leaves.{HoldsBelow, HoldsBelow-none, HoldsBelow-blank, HoldsBelow-set, FailsFirst-here, all_leaves-below, all_leaves-at}

module _ (test : ℕ → LeafNode → Bool) (t : Tree) where
  leaf_checked : (i : ℕ) (o : Option LeafNode) → leaf_at 0 t i ≡ o → HoldsBelow test t i → HoldsBelow test t (i + 1) ⊎ FailsFirst test t i
  leaf_checked i None e below = inl (HoldsBelow-blank test t i below e)
  leaf_checked i (Some x) e below =
      elim (cases_Bool (test i x)) [
        | inl passes ↦ inl (HoldsBelow-set test t i x below e passes)
        | inr fails ↦ inr (FailsFirst-here test t i x below e fails)
      ]

  leaves_checked : (n : ℕ) → HoldsBelow test t n ⊎ ((i : ℕ) × FailsFirst test t i)
  leaves_checked zero = inl (HoldsBelow-none test t)
  leaves_checked (suc n) =
      elim (leaves_checked n) [
        | inl below ↦ elim (leaf_checked n (leaf_at 0 t n) refl below) [
          | inl more ↦ inl (rw add-one at more)
          | inr fails ↦ inr (n, fails)
        ]
        | inr fails ↦ inr fails
      ]

  -- a test holds of all set leaves, or fails first at one
  pub first_checked : (all_leaves test 0 t ≡ true) ⊎ ((i : ℕ) × FailsFirst test t i)
  first_checked =
      elim (leaves_checked (leaf_count t)) [
        | inl below ↦ inl (all_leaves-below test t (leaf_count t) below (omega arith))
        | inr fails ↦ inr fails
      ]

  -- not both
  pub FailsFirst-not_all : (i : ℕ) → FailsFirst test t i → all_leaves test 0 t ≡ true → ⊥
  FailsFirst-not_all i fails all = let e = all_leaves-at test 0 t all i fails.node fails.set in let no : false ≡ true = sym fails.fails ∙ e in absurd cc

  earlier_leaf : (i j : ℕ) → FailsFirst test t i → FailsFirst test t j → i < j → ⊥
  earlier_leaf i j f g low = let e = g.smaller i f.node low f.set in let no : false ≡ true = sym f.fails ∙ e in absurd cc

  -- and at no other
  pub FailsFirst-unique : (i j : ℕ) → FailsFirst test t i → FailsFirst test t j → i ≡ j
  FailsFirst-unique i j f g =
      elim (cases_order i j) [
        | inl same ↦ same
        | inr (inl low) ↦ absurd (earlier_leaf i j f g low)
        | inr (inr high) ↦ absurd (earlier_leaf j i g f high)
      ]

module _ (G : VerifyFn) (suite : ℕ) (group_id : List ℕ) (required : RequiredCapabilities) (t : Tree) where
  rules_checked : (k : ℕ) → HoldBefore G suite group_id required t k ⊎ ((j i : ℕ) × FailsLeafRule G suite group_id required t j i)
  rules_checked zero = inl (record { at = λ j low. absurd (omega arith) })
  rules_checked (suc k) =
      elim (rules_checked k) [
        | inl earlier ↦ elim (first_checked (member_rule G suite group_id required t k) t) [
          | inl holds ↦ inl (before_more G suite group_id required t k earlier holds)
          | inr fails ↦ inr (k, fails.0, record { first = fails.1; earlier = earlier.at })
        ]
        | inr fails ↦ inr fails
      ]

  pub LeavesAreValid-checked : LeavesAreValid G suite group_id required t ⊎ ((k i : ℕ) × FailsLeafRule G suite group_id required t k i)
  LeavesAreValid-checked =
      elim (rules_checked 6) [
        | inl holds ↦ inl (LeavesAreValid-before G suite group_id required t holds)
        | inr fails ↦ inr fails
      ]

  pub FailsLeafRule-not_Members : (k i : ℕ) → FailsLeafRule G suite group_id required t k i → LeavesAreValid G suite group_id required t → ⊥
  FailsLeafRule-not_Members k i fails members = FailsFirst-not_all (member_rule G suite group_id required t k) t i fails.first (members.rules k)

  pub FailsLeafRule-unique : (k i l j : ℕ) → FailsLeafRule G suite group_id required t k i → FailsLeafRule G suite group_id required t l j → (k ≡ l) × (i ≡ j)
  FailsLeafRule-unique k i l j f g =
      elim (cases_order k l) [
        | inl same ↦ let h = rw same at f.first in (same, FailsFirst-unique (member_rule G suite group_id required t l) t i j h g.first)
        | inr (inl low) ↦ absurd (FailsFirst-not_all (member_rule G suite group_id required t k) t i f.first (g.earlier k low))
        | inr (inr high) ↦ absurd (FailsFirst-not_all (member_rule G suite group_id required t l) t j g.first (f.earlier l high))
      ]
