use Rattle.std.proofs.Common.{arith, ◌-◌, ◌∙◌, sym}
use Rattle.std.proofs.lemmas.Bool.{false≢true}
use Rattle.std.proofs.lemmas.Bool.Decides.{Decides-eqb}
use Rattle.std.proofs.lemmas.Option.{none-some}
use Rattle.std.proofs.lemmas.Slice.Eq.{slice_eq-Decides}
use Rattle.mls_tree.specs.PublicTreeModel.{plain}
use Rattle.mls_tree.specs.RatchetTree.{RatchetTree}
use Rattle.mls_tree.proofs.Trees.{leaf_count-positive}
use Rattle.mls_check.proofs.Hashed.{same_hash, whole-hash}
use Rattle.mls_check.proofs.tree_validation.has_hash.Goals as goal

pub overflow_sub-root : goal.overflow_sub-root
overflow_sub-root c = let tree : RatchetTree = plain c.args.tree.now in omega (arith, c.leaf_count-root.ensures, leaf_count-positive tree.tree)

pub returns-in-Some : goal.returns-in-Some
returns-in-Some c H h =
    let tree : RatchetTree = plain c.args.tree.now in
    same_hash H tree c.leaf_count-root.result c.leaf_count-root.ensures c.in-Some.own c.args.hash.now c.eq.result
    (sym (h (c.leaf_count-root.result - 1)) ∙ sym c.in-Some.ensures)
    (slice_eq-Decides Decides-eqb _ _ _ c.eq.ensures) c.as_slice.ensures.bytes

pub returns-in-None : goal.returns-in-None
returns-in-None c H h =
    let tree : RatchetTree = plain c.args.tree.now in (
      λ f. absurd (false≢true f),
      λ e. absurd (none-some c.args.hash.now (c.in-None.ensures ∙ h (c.leaf_count-root.result - 1) ∙ whole-hash H tree c.leaf_count-root.result c.leaf_count-root.ensures ∙ e)),
    )
