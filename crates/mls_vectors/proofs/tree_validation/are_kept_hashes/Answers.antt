use Rattle.std.proofs.Common.{arith}
use Rattle.mls_vectors.specs.CheckModel.{IsKeptHash}
use Rattle.mls_vectors.proofs.Entries.{AreEntries-length}
use Rattle.mls_vectors.proofs.tree_validation.are_kept_hashes.Goals as goal

pub returns-then-entries-leaves : goal.returns-then-entries-leaves
returns-then-entries-leaves c = (
  λ h. cc,
  λ h. absurd (omega (arith, AreEntries-length (IsKeptHash c.args.hashes.now) c.args.leaves 0 c.args.entries.now h, c.if-entries-leaves.true)),
)
