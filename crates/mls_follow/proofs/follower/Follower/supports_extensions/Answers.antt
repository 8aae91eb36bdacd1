use Rattle.mls_strict.proofs.TreeNodes.{types_supported}
use Rattle.mls_follow.proofs.follower.Follower.supports_extensions.Goals as goal

pub returns : goal.returns
returns g c =
    let group = c.args.self.now.group in
    rw (group.same_types, types_supported group.context.extensions c.args.leaf.now) at c.are_supported_by.ensures
