use Rattle.std.proofs.Common.{◌≡◌, ◌*◌, ◌-◌, ◌/◌, ◌++◌, ◌∙◌, ap, sym, refl, subst, arith}
use Rattle.std.specs.Prelude.{is_some}
use Rattle.std.specs.List.{filter, range_with_len}
use Rattle.mls_tree.specs.Tree.{leaf_count, node_at}
use Rattle.mls_tree.specs.PublicTreeModel.{KeptTree}
use Rattle.mls_tree.proofs.ChangedNodeIndices.{Lists, few-leaves, lists_changes-one, lists_changes-no_whole, lists_changes-leaf, lists_changes-parent, lists_changes-in_lists, lists_changes-grown, lists_changes-truncated}
use Rattle.mls_tree.proofs.changed_nodes.push_changed.Goals as goal

pub returns-then-leaves-eq1-clause-leaves : goal.returns-then-leaves-eq1-clause-leaves
returns-then-leaves-eq1-clause-leaves c =
    let u = c.args.tree.now.tree in
    let old = c.args.out.now.items in
    let new = c.args.out.now.items in
    let n = c.args.leaves in
    let changes_listed : Lists u old new n 1 c.args.former.now = subst (λ f. Lists u old new n 1 f) (sym c.in-Extended.is) (lists_changes-one u old old n c.if-leaves-eq1.true refl) in
    changes_listed.count

pub returns-then-leaves-eq1-clause-node_indices : goal.returns-then-leaves-eq1-clause-node_indices
returns-then-leaves-eq1-clause-node_indices c =
    let u = c.args.tree.now.tree in
    let old = c.args.out.now.items in
    let new = c.args.out.now.items in
    let n = c.args.leaves in
    let changes_listed : Lists u old new n 1 c.args.former.now = subst (λ f. Lists u old new n 1 f) (sym c.in-Extended.is) (lists_changes-one u old old n c.if-leaves-eq1.true refl) in
    changes_listed.node_indices

pub returns-then-count-leaves-clause-leaves : goal.returns-then-count-leaves-clause-leaves
returns-then-count-leaves-clause-leaves c =
    let u = c.args.tree.now.tree in
    let old = c.args.out.now.items in
    let new = c.args.out.now.items in
    let n = c.args.leaves in
    let changes_listed : Lists u old new n n c.args.former.now = subst (λ f. Lists u old new n n f) (sym c.in-Truncated.is) (lists_changes-no_whole u old old n c.in-Truncated.whole (omega (arith, c.if-count-leaves.true, c.leaf_count-count.ensures, ap (λ (v : KeptTree). leaf_count v.tree) c.deref.ensures)) refl) in
    changes_listed.count

pub returns-then-count-leaves-clause-node_indices : goal.returns-then-count-leaves-clause-node_indices
returns-then-count-leaves-clause-node_indices c =
    let u = c.args.tree.now.tree in
    let old = c.args.out.now.items in
    let new = c.args.out.now.items in
    let n = c.args.leaves in
    let changes_listed : Lists u old new n n c.args.former.now = subst (λ f. Lists u old new n n f) (sym c.in-Truncated.is) (lists_changes-no_whole u old old n c.in-Truncated.whole (omega (arith, c.if-count-leaves.true, c.leaf_count-count.ensures, ap (λ (v : KeptTree). leaf_count v.tree) c.deref.ensures)) refl) in
    changes_listed.node_indices

pub returns-in_ok-push-in-Leaf-clause-leaves : goal.returns-in_ok-push-in-Leaf-clause-leaves
returns-in_ok-push-in-Leaf-clause-leaves c =
    let u = c.args.tree.now.tree in
    let old = c.args.out.now.items in
    let new = c.push.new.self.items in
    let n = c.args.leaves in
    let changes_listed : Lists u old new n n c.args.former.now = subst (λ f. Lists u old new n n f) (sym c.in-Leaf.is) (lists_changes-leaf u old new n c.in-Leaf.index c.in-Leaf.node (omega (arith, c.if-index-leaves.true)) c.in_ok-push-in-Leaf.ensures.items) in
    changes_listed.count

pub returns-in_ok-push-in-Leaf-clause-node_indices : goal.returns-in_ok-push-in-Leaf-clause-node_indices
returns-in_ok-push-in-Leaf-clause-node_indices c =
    let u = c.args.tree.now.tree in
    let old = c.args.out.now.items in
    let new = c.push.new.self.items in
    let n = c.args.leaves in
    let changes_listed : Lists u old new n n c.args.former.now = subst (λ f. Lists u old new n n f) (sym c.in-Leaf.is) (lists_changes-leaf u old new n c.in-Leaf.index c.in-Leaf.node (omega (arith, c.if-index-leaves.true)) c.in_ok-push-in-Leaf.ensures.items) in
    changes_listed.node_indices

pub returns-in_ok-push-in-Parent-clause-leaves : goal.returns-in_ok-push-in-Parent-clause-leaves
returns-in_ok-push-in-Parent-clause-leaves c =
    let u = c.args.tree.now.tree in
    let old = c.args.out.now.items in
    let new = c.push-in-Parent.new.self.items in
    let n = c.args.leaves in
    let changes_listed : Lists u old new n n c.args.former.now = subst (λ f. Lists u old new n n f) (sym c.in-Parent.is) (lists_changes-parent u old new n c.in-Parent.node_index c.in-Parent.node c.in_ok-push-in-Parent.ensures.items) in
    changes_listed.count

pub returns-in_ok-push-in-Parent-clause-node_indices : goal.returns-in_ok-push-in-Parent-clause-node_indices
returns-in_ok-push-in-Parent-clause-node_indices c =
    let u = c.args.tree.now.tree in
    let old = c.args.out.now.items in
    let new = c.push-in-Parent.new.self.items in
    let n = c.args.leaves in
    let changes_listed : Lists u old new n n c.args.former.now = subst (λ f. Lists u old new n n f) (sym c.in-Parent.is) (lists_changes-parent u old new n c.in-Parent.node_index c.in-Parent.node c.in_ok-push-in-Parent.ensures.items) in
    changes_listed.node_indices

pub returns-in_ok-push-in-AddedUnmerged-clause-leaves : goal.returns-in_ok-push-in-AddedUnmerged-clause-leaves
returns-in_ok-push-in-AddedUnmerged-clause-leaves c =
    let u = c.args.tree.now.tree in
    let old = c.args.out.now.items in
    let new = c.push-in-AddedUnmerged.new.self.items in
    let n = c.args.leaves in
    let changes_listed : Lists u old new n n c.args.former.now = subst (λ f. Lists u old new n n f) (sym c.in-AddedUnmerged.is) (lists_changes-in_lists u old new n c.in-AddedUnmerged.node_index c.in-AddedUnmerged.index c.in_ok-push-in-AddedUnmerged.ensures.items) in
    changes_listed.count

pub returns-in_ok-push-in-AddedUnmerged-clause-node_indices : goal.returns-in_ok-push-in-AddedUnmerged-clause-node_indices
returns-in_ok-push-in-AddedUnmerged-clause-node_indices c =
    let u = c.args.tree.now.tree in
    let old = c.args.out.now.items in
    let new = c.push-in-AddedUnmerged.new.self.items in
    let n = c.args.leaves in
    let changes_listed : Lists u old new n n c.args.former.now = subst (λ f. Lists u old new n n f) (sym c.in-AddedUnmerged.is) (lists_changes-in_lists u old new n c.in-AddedUnmerged.node_index c.in-AddedUnmerged.index c.in_ok-push-in-AddedUnmerged.ensures.items) in
    changes_listed.node_indices

pub returns-in_ok-push_non_blank-in-Extended-clause-leaves : goal.returns-in_ok-push_non_blank-in-Extended-clause-leaves
returns-in_ok-push_non_blank-in-Extended-clause-leaves c =
    let u = c.args.tree.now.tree in
    let old = c.args.out.now.items in
    let new = c.push_non_blank.new.out.items in
    let n = c.args.leaves in
    let changes_listed : Lists u old new n (n / 2) c.args.former.now = subst (λ f. Lists u old new n (n / 2) f) (sym c.in-Extended.is) (lists_changes-grown u old new n (n / 2) c.if-leaves-eq1.false refl c.in_ok-push_non_blank-in-Extended.ensures) in
    changes_listed.count

pub returns-in_ok-push_non_blank-in-Extended-clause-node_indices : goal.returns-in_ok-push_non_blank-in-Extended-clause-node_indices
returns-in_ok-push_non_blank-in-Extended-clause-node_indices c =
    let u = c.args.tree.now.tree in
    let old = c.args.out.now.items in
    let new = c.push_non_blank.new.out.items in
    let n = c.args.leaves in
    let changes_listed : Lists u old new n (n / 2) c.args.former.now = subst (λ f. Lists u old new n (n / 2) f) (sym c.in-Extended.is) (lists_changes-grown u old new n (n / 2) c.if-leaves-eq1.false refl c.in_ok-push_non_blank-in-Extended.ensures) in
    changes_listed.node_indices

pub returns-in_ok-push_non_blank-in-Truncated-clause-leaves : goal.returns-in_ok-push_non_blank-in-Truncated-clause-leaves
returns-in_ok-push_non_blank-in-Truncated-clause-leaves c =
    let u = c.args.tree.now.tree in
    let old = c.args.out.now.items in
    let new = c.push_non_blank-in-Truncated.new.out.items in
    let n = c.args.leaves in
    let m = c.leaf_count-count.result in
    let pushed =
    subst (λ (v : KeptTree). new ≡ old ++ filter (λ q. is_some (node_at v.tree q)) (range_with_len (2 * n - 1) (2 * (m - n)))) c.deref-in-Truncated.ensures
    c.in_ok-push_non_blank-in-Truncated.ensures
    in
    let changes_listed : Lists u old new n c.leaf_count-count.result c.args.former.now = subst (λ f. Lists u old new n c.leaf_count-count.result f) (sym c.in-Truncated.is) (lists_changes-truncated u old new n c.leaf_count-count.result c.in-Truncated.whole (c.leaf_count-count.ensures ∙ ap (λ (v : KeptTree). leaf_count v.tree) c.deref.ensures) c.if-count-leaves.false pushed) in
    changes_listed.count

pub returns-in_ok-push_non_blank-in-Truncated-clause-node_indices : goal.returns-in_ok-push_non_blank-in-Truncated-clause-node_indices
returns-in_ok-push_non_blank-in-Truncated-clause-node_indices c =
    let u = c.args.tree.now.tree in
    let old = c.args.out.now.items in
    let new = c.push_non_blank-in-Truncated.new.out.items in
    let n = c.args.leaves in
    let m = c.leaf_count-count.result in
    let pushed =
    subst (λ (v : KeptTree). new ≡ old ++ filter (λ q. is_some (node_at v.tree q)) (range_with_len (2 * n - 1) (2 * (m - n)))) c.deref-in-Truncated.ensures
    c.in_ok-push_non_blank-in-Truncated.ensures
    in
    let changes_listed : Lists u old new n c.leaf_count-count.result c.args.former.now = subst (λ f. Lists u old new n c.leaf_count-count.result f) (sym c.in-Truncated.is) (lists_changes-truncated u old new n c.leaf_count-count.result c.in-Truncated.whole (c.leaf_count-count.ensures ∙ ap (λ (v : KeptTree). leaf_count v.tree) c.deref.ensures) c.if-count-leaves.false pushed) in
    changes_listed.node_indices

pub overflow_mul-count : goal.overflow_mul-count
overflow_mul-count c = let w = c.deref.result.now in omega (arith, few-leaves w.tree w.shape, c.leaf_count-count.ensures)

pub push_non_blank-requires-in-Truncated : goal.push_non_blank-requires-in-Truncated
push_non_blank-requires-in-Truncated c = let w = c.deref.result.now in omega (arith, few-leaves w.tree w.shape, c.leaf_count-count.ensures)
