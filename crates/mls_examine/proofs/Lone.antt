-- Leaf validation in the tree of one leaf alone.
use Rattle.std.proofs.Common.{◌≡◌, ℕ, zero, suc, ◌<◌, List, true, Some, refl, arith}
use Rattle.mls_nodes.specs.declared.leaf.LeafNode.{LeafNode}
use Rattle.mls_tree.specs.Tree.{leaf}
use Rattle.mls_check.specs.LeafValidation.{all_leaves, credential_type, has_unique_signature_key, member_rule, supports_credential, supports_own_extensions, supports_required, supports_used_credentials}
use Rattle.mls_check.specs.Signatures.{VerifyFn}
use Rattle.mls_examine.specs.PackageLaws.{LoneLeavesAreValid, no_requirements}

module _ (G : VerifyFn) (suite : ℕ) (group_id : List ℕ) (x : LeafNode) where
  abbrev Holds : ℕ → Type 0
  Holds rule = all_leaves (member_rule G suite group_id no_requirements (leaf (Some x)) rule) 0 (leaf (Some x)) ≡ true

  to_rules : ((rule : ℕ) → rule < 5 → Holds rule)
      → (supports_own_extensions x ≡ true) × (supports_credential x (credential_type x.credential) ≡ true)
  unfolding member_rule supports_used_credentials
  to_rules h = (h 1 (omega arith), h 3 (omega arith))

  from_rules : supports_own_extensions x ≡ true → supports_credential x (credential_type x.credential) ≡ true
      → (rule : ℕ) → rule < 5 → Holds rule
  unfolding member_rule supports_used_credentials supports_required has_unique_signature_key
  from_rules own used zero low = refl
  from_rules own used (suc zero) low = own
  from_rules own used (suc (suc zero)) low = refl
  from_rules own used (suc (suc (suc zero))) low = used
  from_rules own used (suc (suc (suc (suc zero)))) low = refl
  from_rules own used (suc (suc (suc (suc (suc rule))))) low = absurd (omega arith)

pub lone_leaves : LoneLeavesAreValid
lone_leaves G suite group_id x = (to_rules G suite group_id x, λ h. from_rules G suite group_id x h.0 h.1)
