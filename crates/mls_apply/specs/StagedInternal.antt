-- The code of the model of a StagedTree, and the rules that its tree satisfies. Internal: no public contract uses this.
use Rattle.std.specs.Prelude.{◌≡◌, Bool, true}
use Rattle.std.specs.Coded.{Coded, Coded-set, coded_bool, coded×, code_by}
use Rattle.std.proofs.Common.{refl}
use Rattle.mls_nodes.specs.declared.context.GroupContext.{GroupContext}
use Rattle.mls_nodes.specs.declared.required_capabilities.RequiredCapabilities.{RequiredCapabilities}
use Rattle.mls_tree.specs.RatchetTreeInternal.{tree_coded}
use Rattle.mls_tree.specs.Tree.{Tree}
use Rattle.mls_check.specs.DistinctKeys.{has_distinct_keys}
use Rattle.mls_check.specs.LeafValidation.{LeavesAreValid}
use Rattle.mls_check.specs.Signatures.{VerifyFn}
use Rattle.mls_apply.specs.Staged.{Staged, IsSettled}

abbrev staged_parts : Staged → Tree × (Tree × (Bool × Bool))
staged_parts s = (s.base, (s.tree, (s.indexed, s.clean)))

abbrev staged_of_parts : Tree × (Tree × (Bool × Bool)) → Staged
staged_of_parts p = record { base = p.0; tree = p.1.0; indexed = p.1.1.0; clean = p.1.1.1 }

abbrev pub staged_coded : Coded Staged
staged_coded =
    code_by (Tree × (Tree × (Bool × Bool))) (coded× tree_coded (coded× tree_coded (coded× coded_bool coded_bool))) staged_parts staged_of_parts (λ _. refl)

-- `IsSettled` has at most one proof.
pub IsSettled-prop : (s : Staged) → IsProp (IsSettled s)
IsSettled-prop s g h = λ i. record {
  same = Coded-set tree_coded s.base s.tree g.same h.same i;
  clean = Coded-set coded_bool s.clean true g.clean h.clean i;
}

-- `SatisfiesTreeRules G context required t`: the tree has distinct encryption keys and valid leaf nodes, in a group
-- with this context that requires `required` (RFC 9420, 7.3 and 12.4.2).
pub record SatisfiesTreeRules (G : VerifyFn) (context : GroupContext) (required : RequiredCapabilities) (t : Tree) : Type 0 where
  pub distinct : has_distinct_keys t ≡ true
  pub members : LeavesAreValid G context.cipher_suite context.group_id required t
