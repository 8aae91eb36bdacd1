-- The models of the values with which the implementation merges a path. Internal: no public contract uses this.
use Rattle.std.specs.Prelude.{ℕ, List, [], ◌∷◌, map, Option}
use Rattle.mls_tree.specs.Tree.{Tree}
use Rattle.mls_msgs.specs.declared.commit.UpdatePath.{UpdatePath}
use Rattle.mls_apply.specs.RuleLists.{rule, first_failing}
use Rattle.mls_apply.specs.PathRules.{has_expected_hash}
use Rattle.mls_apply.specs.PathParents.{Change, PathParents}
use Rattle.mls_apply.specs.declared.refusal.Refusal.{Refusal}
use Rattle.mls_apply.specs.declared.refusal.Refusal.TheVariants.{PathParentHash}
use Rattle.mls_apply.specs.declared.new_parents.NewParent.{NewParent}
use Rattle.mls_apply.specs.declared.new_parents.NewParents.{NewParents}

-- `change_of p` is the model of a new parent.
abbrev pub change_of : NewParent → Change
change_of p = record { node_index = p.node_index; parent = p.node.value }

-- `path_parents_model p` is the model of the new parents of a path.
abbrev pub path_parents_model : NewParents → PathParents
path_parents_model p = record { changes = map change_of p.parents.items; hash = p.hash }

-- `hash_refusal H path t i` is the refusal by the last rule for paths.
abbrev pub hash_refusal : (List ℕ → List ℕ) → UpdatePath → Tree → ℕ → Option Refusal
hash_refusal H path t i = first_failing (rule PathParentHash (has_expected_hash H path t i) ∷ [])
