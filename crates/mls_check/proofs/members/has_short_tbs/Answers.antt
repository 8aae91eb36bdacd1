use Rattle.std.proofs.Common.{ap, length, arith}
use Rattle.std.proofs.lemmas.Bool.{OnTrue_from, leb-true}
use Rattle.mls_check.proofs.ContentLengths.{tbs_at_most}
use Rattle.mls_check.proofs.members.has_short_tbs.Goals as goal

pub returns : goal.returns
returns c =
    OnTrue_from _ _ (λ small. tbs_at_most c.args.leaf.now c.args.group_id.now c.encoded_len.result 1073741823 c.encoded_len.ensures.length c.as_slice.ensures.limit
    (omega (arith, leb-true _ _ small, ap length c.as_slice.ensures.bytes)))
