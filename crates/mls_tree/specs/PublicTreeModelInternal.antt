-- The code of the model of a `PublicTree`. Internal: no public contract uses this.
use Rattle.std.specs.Prelude.{ℕ, List, Option}
use Rattle.std.specs.Coded.{Coded, coded_option, coded_list, coded_ℕ, coded×, code_by}
use Rattle.std.proofs.Common.{refl}
use Rattle.mls_tree.specs.RatchetTree.{RatchetTree}
use Rattle.mls_tree.specs.RatchetTreeInternal.{ratchet_tree_coded}
use Rattle.mls_tree.specs.PublicTreeModel.{KeptTree, plain}
use Rattle.mls_tree.specs.declared.hash_kind.HashKind.{HashKind}
use Rattle.mls_tree.specs.contracts.hash_kind.HashKind as hash-kind

-- The model as a pair, which has a code.
abbrev kept_tree_parts : KeptTree → RatchetTree × (Option HashKind × List (Option (List ℕ)))
kept_tree_parts t = (plain t, (t.kind, t.slots))

-- The model of such a pair.
abbrev kept_tree_of_parts : RatchetTree × (Option HashKind × List (Option (List ℕ))) → KeptTree
kept_tree_of_parts p = record { tree = p.0.tree; shape = p.0.shape; kind = p.1.0; slots = p.1.1 }

-- Models have codes.
abbrev pub kept_tree_coded : Coded KeptTree
kept_tree_coded =
    code_by (RatchetTree × (Option HashKind × List (Option (List ℕ))))
    (coded× ratchet_tree_coded (coded× (coded_option hash-kind.the_row.coded) (coded_list (coded_option (coded_list coded_ℕ))))) kept_tree_parts kept_tree_of_parts (λ _. refl)
