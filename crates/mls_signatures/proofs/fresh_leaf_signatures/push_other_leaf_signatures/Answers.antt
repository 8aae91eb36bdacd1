use Rattle.std.proofs.Common.{◌∙◌, ◌∷◌, [], refl, sym, subst}
use Rattle.mls_signatures.specs.AddedLeaves.{AppendsSignatures, IsPackageIfNamed}
use Rattle.mls_signatures.specs.declared.added_leaves.AddedLeaf.{AddedLeaf}
use Rattle.mls_signatures.proofs.FreshLeaves.{of_others, of_others-none, of_others-one, of_others-step}
use Rattle.mls_signatures.proofs.LeafLists.{each-all, each-next}
use Rattle.mls_signatures.proofs.Repeats.{extends-none}
use Rattle.mls_signatures.proofs.fresh_leaf_signatures.push_other_leaf_signatures.Goals.{then-is_other+in_ok-push_leaf_signature, else-is_other}
use Rattle.mls_signatures.proofs.fresh_leaf_signatures.push_other_leaf_signatures.Goals as goal

pub is_other-requires : goal.is_other-requires
is_other-requires c = subst IsPackageIfNamed (sym c.leaf-item.is) (c.requires c.loop-leaf.leaf-index c.leaf-item.result c.loop-leaf-test.true)

pub loop-leaf-preserved : goal.loop-leaf-preserved
loop-leaf-preserved c =
    let suite = c.args.context.now.cipher_suite in
    let group_id = c.args.context.now.group_id in
    let f = of_others suite group_id in
    let old = c.loop-leaf.list in
    let x = c.leaf-item.result in
    each-next f (λ (y : AddedLeaf). f (y ∷ [])) (of_others-step suite group_id) refl c.args.leaves.now c.args.list.now
    c.loop-leaf.leaf-index old c.loop-leaf.invariant x x c.loop-leaf-test.true c.leaf-item.is c.if-is_other.list
    (elim c.if-is_other.branch [
      | then-is_other+in_ok-push_leaf_signature w ↦
          subst (λ ws. AppendsSignatures old ws c.if-is_other.list) (of_others-one suite group_id x (sym c.is_other.ensures ∙ w.if-is_other.true))
          (rw w.list-is w.in_ok-push_leaf_signature.ensures)
      | else-is_other w ↦
          subst (λ ws. AppendsSignatures old ws c.if-is_other.list) (sym (of_others-none suite group_id x (sym c.is_other.ensures ∙ w.if-is_other.false)))
          (rw w.list-is (extends-none old))
    ])

pub returns : goal.returns
returns c =
    let suite = c.args.context.now.cipher_suite in
    let group_id = c.args.context.now.group_id in
    let f = of_others suite group_id in
    each-all f (λ (y : AddedLeaf). f (y ∷ [])) (of_others-step suite group_id) refl c.args.leaves.now c.args.list.now
    c.loop-leaf.leaf-index c.loop-leaf.list c.loop-leaf.invariant c.loop-leaf-test.false
