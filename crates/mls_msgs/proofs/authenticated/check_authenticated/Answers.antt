use Rattle.std.proofs.lemmas.Result.{IfOk-weaker}
use Rattle.mls_wire.specs.Input.{at}
use Rattle.mls_msgs.proofs.MembersRead.{authenticated_passes}
use Rattle.mls_msgs.proofs.authenticated.check_authenticated.Goals as goal

pub returns : goal.returns
returns c =
    let format = rw c.new-reader.ensures at c.in_ok-_wire_format.ensures.read in
    IfOk-weaker c.check_frame.result _ _
    (λ v h. authenticated_passes (at 0 c.args.bytes.now) c.read_frame_format.new.reader c.in_ok-_wire_format._wire_format format h) c.check_frame.ensures
