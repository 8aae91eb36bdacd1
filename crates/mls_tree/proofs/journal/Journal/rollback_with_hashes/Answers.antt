use Rattle.std.proofs.Common.{◌∙◌, sym, subst}
use Rattle.mls_tree.specs.LoggedHashes.{AreRightEntries}
use Rattle.mls_tree.proofs.TakenBack.{undone-step}
use Rattle.mls_tree.proofs.LoggedHashes.{entries-before_last}
use Rattle.mls_tree.proofs.journal.Journal.rollback_with_hashes.Goals as goal

pub rollback_with_hash-requires : goal.rollback_with_hash-requires
rollback_with_hash-requires c =
    let t = c.loop-entry.tree.tree in
    (entries-before_last c.pop.new.self.items c.in-Some.entry t (subst (λ xs. AreRightEntries xs t) c.in-Some.ensures.items c.loop-entry.invariant.hashes)).0

pub loop-entry-preserved : goal.loop-entry-preserved
loop-entry-preserved c =
    let t = c.loop-entry.tree.tree in
    let rest = c.pop.new.self.items in
    let split = c.in-Some.ensures.items in
    let before_last = entries-before_last rest c.in-Some.entry t (subst (λ xs. AreRightEntries xs t) split c.loop-entry.invariant.hashes) in
    record {
      same_before =
          undone-step t c.rollback_with_hash.new.tree.tree c.loop-entry.self.formers.items rest c.in-Some.entry split c.rollback_with_hash.ensures.tree
          ∙ c.loop-entry.invariant.same_before;
      hashes = subst (AreRightEntries rest) (sym c.rollback_with_hash.ensures.tree) before_last.1;
    }
