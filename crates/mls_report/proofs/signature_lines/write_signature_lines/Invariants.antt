use Rattle.std.proofs.Common.{◌≡◌, ◌++◌, List, length}
use Rattle.std.specs.Io.KnownBytes.{Appends}
use Rattle.mls_wire.specs.Devices.{IsWorking}
use Rattle.mls_follow.specs.FollowerModel.{state_of}
use Rattle.mls_signatures.specs.declared.signature_to_verify.SignatureToVerify.{SignatureToVerify}
use Rattle.mls_start.specs.SignaturesLeft.{signatures_left}
use Rattle.mls_report.specs.SignaturesReport.{needed_lines}
use Rattle.mls_report.proofs.signature_lines.write_signature_lines.Given as goal

-- the lines of the signatures before were written
abbrev pub invariant-signatures : goal.invariant-signatures
invariant-signatures g l =
    let s = state_of l.follower in
    ((front : List SignatureToVerify) × (signatures_left s l.fn.left ≡ front ++ signatures_left s l.left)
    × Appends (g.K.Sink.device l.fn.out).bytes (g.K.Sink.device l.out).bytes (needed_lines (g.R.SignatureCheck.meaning l.receipts) front))
    × IsWorking (g.K.Sink.device l.out)

abbrev pub decreases-signatures : goal.decreases-signatures
decreases-signatures g l = length (signatures_left (state_of l.follower) l.left)
