use Rattle.std.proofs.Common.{inl, inr}
use Rattle.mls_nodes.proofs.Lengths.{suffix_free, suffix_of_update, suffix_of_commit}
use Rattle.mls_nodes.proofs.encoded_len.length_of_tbs_suffix.Goals as goal

pub returns-in-KeyPackage-clause-length : goal.returns-in-KeyPackage-clause-length
returns-in-KeyPackage-clause-length c = rw c.in-KeyPackage.is (suffix_free c.in-KeyPackage.field-0 c.args.group_id.now c.args.index)

pub returns-in-Update-clause-length : goal.returns-in-Update-clause-length
returns-in-Update-clause-length c =
    elim c.in-Update.is [
      | inl update ↦ rw update (suffix_of_update c.args.group_id.now c.args.index c.length_of_vector.result c.ranges.index.fits c.length_of_vector.ensures.length)
      | inr commit ↦ rw commit.1 (suffix_of_commit commit.0 c.args.group_id.now c.args.index c.length_of_vector.result c.ranges.index.fits c.length_of_vector.ensures.length)
    ]
