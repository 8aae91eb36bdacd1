use Rattle.std.proofs.Common.{◌≡◌, ◌∙◌, [], sym, ap, rules}
use Rattle.std.specs.declared.ops.Bound.TheVariants.{Included}
use Rattle.std.proofs.lemmas.Bool.{false≢true}
use Rattle.mls_tree.specs.PublicTreeModel.{plain}
use Rattle.mls_tree.specs.RatchetTree.{RatchetTree}
use Rattle.mls_tree.proofs.Descent.{leaf_count-limit}
use Rattle.mls_index.specs.RepeatedKeysInternal.{HasKeyBut}
use Rattle.mls_index.proofs.Entries.{sought-first, sought-more, increasing_first, increasing_more}
use Rattle.mls_index.proofs.Lookups.{none_among, first_among}
use Rattle.mls_index.proofs.entry_table.EntryTable.first_among.Goals as goal

pub loop-entry-init : goal.loop-entry-init
loop-entry-init c =
    let entries = c.args.self.now.entries in
    let is = c.into_iter-entry-iterator.ensures.into_iter_gives ∙ c.range-entry-items.ensures.between c.new.ensures.exhausted in
    record {
      sought = sought-first (λ p. ¬ HasKeyBut c.args.kind c.args.tree.now.tree c.args.key.now c.args.but p) entries c.args.number _ _
          c.into_iter-entry-iterator.result is (ap Included c.new.ensures.start) (ap Included c.new.ensures.end);
      increasing = increasing_first entries c.args.number _ _ c.into_iter-entry-iterator.result c.range-entry-items.ensures.ordered is
          (ap Included c.new.ensures.start) (ap Included c.new.ensures.end);
    }

pub loop-entry-preserved : goal.loop-entry-preserved
loop-entry-preserved c =
    let e = c.in-Some.entry.now in
    record {
      sought = sought-more (λ p. ¬ HasKeyBut c.args.kind c.args.tree.now.tree c.args.key.now c.args.but p) c.args.self.now.entries c.args.number e c.loop-entry.entry-iterator
          c.next.new.self c.in-Some.ensures.steps (λ h. false≢true (sym c.if-has_key_but.false ∙ c.has_key_but.ensures.1 h)) c.loop-entry.invariant.sought;
      increasing = increasing_more c.args.number e c.loop-entry.entry-iterator c.next.new.self c.in-Some.ensures.steps c.loop-entry.invariant.increasing;
    }

pub returns-then-has_key_but : goal.returns-then-has_key_but
returns-then-has_key_but c =
    let kept : RatchetTree = plain c.args.tree.now in
    first_among c.args.kind c.args.tree.now.tree c.args.key.now c.args.but c.args.self.now.entries c.args.number (leaf_count-limit kept)
    c.in-Some.entry.now c.loop-entry.entry-iterator c.next.new.self c.in-Some.ensures.steps c.loop-entry.invariant.sought c.loop-entry.invariant.increasing
    (c.has_key_but.ensures.0 c.if-has_key_but.true)

pub returns : goal.returns
returns c =
    let kept : RatchetTree = plain c.args.tree.now in
    let none : c.loop-entry.entry-iterator ≡ [] = search rules in
    none_among c.args.kind c.args.tree.now.tree c.args.key.now c.args.but c.args.self.now.entries c.args.number (leaf_count-limit kept)
    c.loop-entry.entry-iterator none c.loop-entry.invariant.sought
