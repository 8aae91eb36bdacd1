use Rattle.std.proofs.Common.{List, ap, sym, ◌∙◌, subst, rules}
use Rattle.mls_tree.specs.declared.journal.UndoEntry.{UndoEntry}
use Rattle.mls_tree.specs.declared.journal.UndoEntry.TheVariants.{Parent}
use Rattle.mls_tree.specs.Journals.{all_undone}
use Rattle.mls_tree.specs.LoggedHashes.{AreRightEntries}
use Rattle.mls_tree.proofs.TakenBack.{parent-kept_back, parent-undone, blank-kept}
use Rattle.mls_tree.proofs.LoggedHashes.{hashes-entry}
use Rattle.mls_tree.proofs.journal.Journal.replace_parent.Goals as goal

pub returns-clause-before : goal.returns-clause-before
returns-clause-before c =
    parent-kept_back _ _ _ _ _ c.try_reserve.ensures.items _ _ _ c.requires c.replace_parent-node.ensures.put c.replace_parent-node.ensures.former c.push_reserved.ensures.items

pub returns-then-is_none-clause-before : goal.returns-then-is_none-clause-before
returns-then-is_none-clause-before c =
    ap (λ (xs : List UndoEntry). all_undone xs c.replace_parent-node.new.self.tree) c.try_reserve.ensures.items
    ∙ ap (all_undone c.args.self.now.formers.items)
    (blank-kept c.args.tree.now.tree c.replace_parent-node.new.self.tree c.args.node_index c.args.parent c.replace_parent-node.result c.requires (search rules) (search rules)
    c.replace_parent-node.ensures.put c.replace_parent-node.ensures.former)

pub returns-clause-hashes : goal.returns-clause-hashes
returns-clause-hashes c =
    hashes-entry _ _ _ (Parent c.args.node_index c.replace_parent-node.result) _ _ c.try_reserve.ensures.items
    (parent-undone _ _ _ _ _ c.requires c.replace_parent-node.ensures.put c.replace_parent-node.ensures.former) tt c.push_reserved.ensures.items

pub returns-then-is_none-clause-hashes : goal.returns-then-is_none-clause-hashes
returns-then-is_none-clause-hashes c =
    let same =
    blank-kept c.args.tree.now.tree c.replace_parent-node.new.self.tree c.args.node_index c.args.parent c.replace_parent-node.result c.requires (search rules) (search rules)
    c.replace_parent-node.ensures.put c.replace_parent-node.ensures.former
    in
    λ all. subst (λ (xs : List UndoEntry). AreRightEntries xs c.replace_parent-node.new.self.tree) (sym c.try_reserve.ensures.items) (subst (AreRightEntries c.args.self.now.formers.items) (sym same) all)
