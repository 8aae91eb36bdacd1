use Rattle.mls_wire.specs.Devices.{IsWorking}
use Rattle.mls_follow.specs.FollowerModel.{state_of}
use Rattle.mls_start.specs.SignaturesLeft.{signatures_left}
use Rattle.mls_gate.proofs.VerifyLines.{Made}
use Rattle.mls_gate.proofs.signature_lines.write_verify_lines.Given as goal

-- the lines of the signatures that were made are written
abbrev pub invariant-signatures : goal.invariant-signatures
invariant-signatures g l =
    let s = state_of l.follower in
    Made (g.C.SignatureCheck.meaning l.checker) (signatures_left s l.fn.left) (signatures_left s l.left) l.made l.count (g.K.Sink.device l.fn.out).bytes (g.K.Sink.device l.out).bytes
    × IsWorking (g.K.Sink.device l.out)
