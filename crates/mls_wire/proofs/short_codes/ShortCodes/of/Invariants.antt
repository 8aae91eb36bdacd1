use Rattle.std.proofs.Common.{◌≡◌, take}
use Rattle.mls_wire.proofs.short_codes.ShortCodes.of.Given as goal

abbrev pub invariant-loop-code : goal.invariant-loop-code
invariant-loop-code l = l.short ≡ take l.code-index l.codes
