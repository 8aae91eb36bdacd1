use Rattle.std.proofs.Common.{ap, not, sym}
use Rattle.std.specs.Prelude.{option_map}
use Rattle.mls_signatures.proofs.fresh_leaf_signatures.is_other.Goals as goal

-- a pending Add is from a KeyPackage
pub returns-in-Some : goal.returns-in-Some
returns-in-Some c = sym (ap not (c.requires _ (ap (option_map (λ r. r.now)) c.in-Some.is)))
