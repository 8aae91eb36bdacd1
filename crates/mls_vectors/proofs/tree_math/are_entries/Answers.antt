use Rattle.std.proofs.Common.{sym, ap, subst, arith}
use Rattle.serde_json.specs.Data.{Items}
use Rattle.serde_json.specs.View.{items_view}
use Rattle.mls_vectors.specs.CheckModel.{relation}
use Rattle.mls_vectors.specs.TreeMath.{IsEntry}
use Rattle.mls_vectors.specs.VectorFile.{AreEntries}
use Rattle.mls_vectors.proofs.Entries.{AreEntries-length}
use Rattle.mls_vectors.proofs.tree_math.are_entries.Goals as goal

pub returns-then-entries-leaves : goal.returns-then-entries-leaves
returns-then-entries-leaves c = λ t e. (
  λ h. cc,
  λ h. absurd (omega (arith, AreEntries-length (IsEntry (relation c.args.column) t.tree) c.args.leaves 0 c.args.entries.now h, c.if-entries-leaves.true)),
)

pub loop-entry-preserved : goal.loop-entry-preserved
loop-entry-preserved c = record {
  left = omega (arith, c.loop-entry.invariant.left, c.in-Some.ensures.cases.1);
  same = λ t e.
      let all = c.loop-entry.invariant.same t e in
      let rest = ap items_view c.in-Some.ensures.cases.0 in
      let E = IsEntry (relation c.args.column) t.tree in
      let here = (c.is_entry.ensures t e).0 c.if-not-is_entry.false in (
        λ h. (subst (λ (vs : Items). AreEntries E c.args.leaves c.loop-entry.node_index vs) rest (all.0 h)).1,
        λ h. all.1 (subst (λ (vs : Items). AreEntries E c.args.leaves c.loop-entry.node_index vs) (sym rest) (here, h)),
      );
}
