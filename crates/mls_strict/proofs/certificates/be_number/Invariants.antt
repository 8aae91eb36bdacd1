use Rattle.std.proofs.Common.{◌≡◌, ◌^◌, ◌<◌, drop}
use Rattle.mls_strict.specs.Certificates.{be_number}
use Rattle.mls_strict.proofs.certificates.be_number.Given as goal

abbrev pub invariant-loop-digit : goal.invariant-loop-digit
invariant-loop-digit l =
    record {
      below : l.number < 256 ^ l.digit-index;
      same : be_number l.number (drop l.digit-index l.digits) ≡ be_number 0 l.digits;
    }
