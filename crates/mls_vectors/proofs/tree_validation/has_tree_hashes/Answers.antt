use Rattle.std.proofs.Common.{ℕ, sym, subst, codes, arith}
use Rattle.std.proofs.lemmas.Result.{IfOk-weaker}
use Rattle.serde_json.specs.View.{view}
use Rattle.mls_tree.specs.PublicTreeModel.{plain}
use Rattle.mls_tree.specs.RatchetTree.{RatchetTree}
use Rattle.mls_tree.specs.Tree.{leaf_count}
use Rattle.mls_hash.specs.SuiteHash.{hash_of}
use Rattle.mls_vectors.specs.CheckModel.{IsKeptHash}
use Rattle.mls_vectors.specs.TreeValidation.{IsTreeHash}
use Rattle.mls_vectors.specs.VectorFile.{HasEntries}
use Rattle.mls_vectors.proofs.Columns.{leaves_low}
use Rattle.mls_vectors.proofs.Entries.{HasEntries-weaker, kept-tree_hash, tree_hash-kept}
use Rattle.mls_vectors.proofs.tree_validation.has_tree_hashes.Goals as goal

pub has_kept_hashes-requires : goal.has_kept_hashes-requires
has_kept_hashes-requires c = omega (arith, c.leaf_count.ensures, leaves_low (plain c.args.tree.now))

pub returns : goal.returns
returns c =
    let tree : RatchetTree = plain c.args.tree.now in
    let H = hash_of c.args.suite in
    let d = view c.args.vector.now in
    let hashes = c.in_ok-hashes.hashes in
    let all = c.in_ok-hashes.ensures.each in
    IfOk-weaker c.has_kept_hashes.result _ _ (λ b h. (
      λ t. HasEntries-weaker (IsKeptHash hashes) (IsTreeHash H tree.tree) (kept-tree_hash H tree.tree hashes all) (leaf_count tree.tree) (codes "tree_hashes") d (subst (λ (n : ℕ). HasEntries (IsKeptHash hashes) n (codes "tree_hashes") d) c.leaf_count.ensures (h.0 t)),
      λ t. h.1 (subst (λ (n : ℕ). HasEntries (IsKeptHash hashes) n (codes "tree_hashes") d) (sym c.leaf_count.ensures) (HasEntries-weaker (IsTreeHash H tree.tree) (IsKeptHash hashes) (tree_hash-kept H tree.tree hashes all) (leaf_count tree.tree) (codes "tree_hashes") d t)),
    )) c.has_kept_hashes.ensures
