use Rattle.mls_tree.specs.declared.journal.UndoEntry.TheVariants.{AddedUnmerged}
use Rattle.mls_tree.proofs.TakenBack.{in_lists-kept_back}
use Rattle.mls_tree.proofs.Entering.{true_gives}
use Rattle.mls_tree.proofs.LoggedHashes.{hashes-entry}
use Rattle.mls_tree.proofs.journal.Journal.insert_unmerged.Goals as goal

pub returns-then-branch-clause-before : goal.returns-then-branch-clause-before
returns-then-branch-clause-before c =
    in_lists-kept_back _ _ _ _ _ c.try_reserve.ensures.items c.args.node_index c.args.index
    (true_gives c.in_ok-insert_unmerged_at.field-0 c.if-branch.true c.in_ok-insert_unmerged_at.ensures.back) c.push_reserved.ensures.items

pub returns-then-branch-clause-hashes : goal.returns-then-branch-clause-hashes
returns-then-branch-clause-hashes c =
    hashes-entry _ _ _ (AddedUnmerged c.args.node_index c.args.index) _ _ c.try_reserve.ensures.items
    (true_gives c.in_ok-insert_unmerged_at.field-0 c.if-branch.true c.in_ok-insert_unmerged_at.ensures.back) tt c.push_reserved.ensures.items
