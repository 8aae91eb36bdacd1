use Rattle.std.proofs.Common.{refl}
use Rattle.mls_follow.specs.GroupModel.{group_state}
use Rattle.mls_follow.proofs.Storing.{file_made, file_unmade}
use Rattle.mls_follow.proofs.follower.Follower.encode_state.Goals as goal

pub returns-in-Ok-clause-encoded : goal.returns-in-Ok-clause-encoded
returns-in-Ok-clause-encoded g c =
    let w = c.in-Ok.ensures.stores in
    file_made (group_state c.args.self.now.group) c.in-Ok.content w.0 w.1 w.2 (λ v. v.items) c.file_of.result c.file_of.ensures

pub returns-in-Ok-clause-too_long : goal.returns-in-Ok-clause-too_long
returns-in-Ok-clause-too_long g c =
    let w = c.in-Ok.ensures.stores in
    file_unmade (group_state c.args.self.now.group) c.in-Ok.content w.0 w.1 w.2 (λ v. v.items) c.file_of.result c.file_of.ensures

pub returns-in-Err-Wire-clause-too_long : goal.returns-in-Err-Wire-clause-too_long
returns-in-Err-Wire-clause-too_long g c = rw c.too_long.ensures (λ own. (refl, c.in-Err-Wire.ensures.none (λ e. cc)))
