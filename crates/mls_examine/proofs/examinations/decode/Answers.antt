use Rattle.std.proofs.Common.{refl}
use Rattle.mls_follow.proofs.ReadInProfile.{encodes, encodes_none}
use Rattle.mls_examine.proofs.examinations.decode.Goals as goal

pub returns-in-Ok-clause-read : goal.returns-in-Ok-clause-read
returns-in-Ok-clause-read c = encodes c.args.profile c.in-Ok.message c.args.bytes.now c.in-Ok.ensures.decoded

pub returns-in-Err-Wire-clause-unread : goal.returns-in-Err-Wire-clause-unread
returns-in-Err-Wire-clause-unread c =
    λ own. (refl, encodes_none c.args.profile c.args.bytes.now c.in-Err-Wire.field-0-0 (rw c.in-Err-Wire.field-0-is at c.in-Err-Wire.ensures.decoded))
