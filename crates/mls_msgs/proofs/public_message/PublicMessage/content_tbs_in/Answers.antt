use Rattle.mls_msgs.proofs.ContentTbs.{is_sized, front_is}
use Rattle.mls_msgs.proofs.public_message.PublicMessage.content_tbs_in.Goals as goal

pub unreachable-requires : goal.unreachable-requires
unreachable-requires c = is_sized c.args.self.now c.args.bytes.now c.requires.encoding c.in_default.ensures

pub slice_bounds-result-count : goal.slice_bounds-result-count
slice_bounds-result-count c = (front_is c.args.self.now c.args.bytes.now c.in-Some.after c.requires.encoding c.in-Some.ensures search).0

pub returns : goal.returns
returns c = (front_is c.args.self.now c.args.bytes.now c.in-Some.after c.requires.encoding c.in-Some.ensures search).1
