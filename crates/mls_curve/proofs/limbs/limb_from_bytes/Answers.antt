use Rattle.mls_curve.proofs.ByteLemmas.{big_endian_eight}
use Rattle.mls_curve.proofs.limbs.limb_from_bytes.Goals as goal

pub returns : goal.returns
returns c = λ n. big_endian_eight c.args.bytes.now c.args.i n c.from_be_bytes.result c.requires c.from_be_bytes.ensures
