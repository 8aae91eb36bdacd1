-- The five rules of members, one after the other.
use Rattle.std.proofs.Common.{◌≡◌, ℕ, suc, ◌<◌, true, List, inl, inr, refl, arith}
use Rattle.std.proofs.lemmas.Bool.{cases_lt}
use Rattle.std.proofs.lemmas.Bool.Decides.{nat_tests}
use Rattle.mls_nodes.specs.declared.leaf.LeafNode.{LeafNode}
use Rattle.mls_nodes.specs.declared.required_capabilities.RequiredCapabilities.{RequiredCapabilities}
use Rattle.mls_tree.specs.Tree.{Tree, leaf_count}
use Rattle.mls_check.specs.Signatures.{VerifyFn}
use Rattle.mls_check.specs.LeafValidation.{all_leaves, member_rule, LeavesAreValid, FailsFirst, FailsLeafRule, supports_own_extensions, supports_required, supports_used_credentials, has_unique_signature_key, is_leaf_signed}
use Rattle.mls_check.proofs.Leaves.{all_leaves-below}

module _ (G : VerifyFn) (suite : ℕ) (group_id : List ℕ) (required : RequiredCapabilities) (t : Tree) where
  -- a rule holds at every set leaf
  abbrev pub Holds : ℕ → Type 0
  Holds k = all_leaves (member_rule G suite group_id required t k) 0 t ≡ true

  -- the rules below k hold
  pub record HoldBefore (k : ℕ) : Type 0 where
    pub at : (j : ℕ) → j < k → Holds j

  pub before_more : (k : ℕ) → HoldBefore k → Holds k → HoldBefore (suc k)
  before_more k earlier holds = record {
    at = λ j low.
        elim (cases_lt j k) [
          | inl before ↦ earlier.at j before
          | inr here ↦ let same : j ≡ k = omega arith in rw same holds
        ];
  }

  -- there are five rules
  pub no_rule : (k i : ℕ) (x : LeafNode) → 5 < k → member_rule G suite group_id required t k i x ≡ true
  unfolding member_rule
  no_rule k i x past = grind (arith, nat_tests)

  pub no_rule_zero : (i : ℕ) (x : LeafNode) → member_rule G suite group_id required t 0 i x ≡ true
  unfolding member_rule
  no_rule_zero i x = refl

  pub LeavesAreValid-before : HoldBefore 6 → LeavesAreValid G suite group_id required t
  LeavesAreValid-before earlier = record {
    rules = λ k. elim (cases_lt k 6) [
      | inl low ↦ earlier.at k low
      | inr past ↦ all_leaves-below (member_rule G suite group_id required t k) t (leaf_count t) (record { at = λ j x low set. no_rule k j x (omega arith) }) (omega arith)
    ];
  }

  pub before_first : HoldBefore 1
  before_first = record {
    at = λ j low.
        let none : j ≡ 0 = omega arith in
        rw none (all_leaves-below (member_rule G suite group_id required t 0) t (leaf_count t) (record { at = λ i x low set. no_rule_zero i x }) (omega arith));
  }

  -- each rule by its number
  pub extensions_hold : all_leaves (λ _ x. supports_own_extensions x) 0 t ≡ true → HoldBefore 2
  unfolding member_rule
  extensions_hold e = before_more 1 before_first e

  pub requirements_hold : HoldBefore 2 → all_leaves (λ _ x. supports_required required x) 0 t ≡ true → HoldBefore 3
  unfolding member_rule
  requirements_hold earlier e = before_more 2 earlier e

  pub credentials_hold : HoldBefore 3 → all_leaves (λ _ x. supports_used_credentials t x) 0 t ≡ true → HoldBefore 4
  unfolding member_rule
  credentials_hold earlier e = before_more 3 earlier e

  pub keys_hold : HoldBefore 4 → all_leaves (has_unique_signature_key t) 0 t ≡ true → HoldBefore 5
  unfolding member_rule
  keys_hold earlier e = before_more 4 earlier e

  pub signatures_hold : HoldBefore 5 → all_leaves (is_leaf_signed G suite group_id) 0 t ≡ true → LeavesAreValid G suite group_id required t
  unfolding member_rule
  signatures_hold earlier e = LeavesAreValid-before (before_more 5 earlier e)

  pub extensions_fail : (i : ℕ) → FailsFirst (λ _ x. supports_own_extensions x) t i → FailsLeafRule G suite group_id required t 1 i
  unfolding member_rule
  extensions_fail i f = record { first = f; earlier = before_first.at }

  pub requirements_fail : (i : ℕ) → HoldBefore 2 → FailsFirst (λ _ x. supports_required required x) t i → FailsLeafRule G suite group_id required t 2 i
  unfolding member_rule
  requirements_fail i earlier f = record { first = f; earlier = earlier.at }

  pub credentials_fail : (i : ℕ) → HoldBefore 3 → FailsFirst (λ _ x. supports_used_credentials t x) t i → FailsLeafRule G suite group_id required t 3 i
  unfolding member_rule
  credentials_fail i earlier f = record { first = f; earlier = earlier.at }

  pub keys_fail : (i : ℕ) → HoldBefore 4 → FailsFirst (has_unique_signature_key t) t i → FailsLeafRule G suite group_id required t 4 i
  unfolding member_rule
  keys_fail i earlier f = record { first = f; earlier = earlier.at }

  pub signatures_fail : (i : ℕ) → HoldBefore 5 → FailsFirst (is_leaf_signed G suite group_id) t i → FailsLeafRule G suite group_id required t 5 i
  unfolding member_rule
  signatures_fail i earlier f = record { first = f; earlier = earlier.at }
