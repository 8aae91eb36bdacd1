-- What is found of the bytes of a KeyPackage by itself: the first cause for which it is not good, or that it is good. `asked` is a
-- set of strict rules, `G` the verification function of a checker. Used by contracts.
use Rattle.std.specs.Prelude.{◌≢◌, ℕ, List, Bool, true, false, Ok, Err}
use Rattle.mls_wire.specs.ReadContracts.{DecodesInput}
use Rattle.mls_wire.specs.declared.fault.CodecFault.TheVariants.{Wire}
use Rattle.mls_check.specs.Signatures.{VerifyFn}
use Rattle.mls_msgs.specs.Profile.{message_in}
use Rattle.mls_msgs.specs.declared.key_package.KeyPackage.{KeyPackage}
use Rattle.mls_msgs.specs.declared.message.Message.{Message}
use Rattle.mls_msgs.specs.declared.message.Message.TheVariants as messages
use Rattle.mls_msgs.specs.declared.profile.Profile.TheVariants.{Members}
use Rattle.mls_msgs.specs.declared.rules.Rules.{Rules}
use Rattle.mls_examine.specs.Packages.{IsFactsOf, IsGoodPackage, IsUnfitPackage}
use Rattle.mls_examine.specs.declared.finding.PackageFinding.{PackageFinding}
use Rattle.mls_examine.specs.declared.finding.PackageFinding.TheVariants as findings
use Rattle.mls_examine.specs.declared.unfit.Unfit.TheVariants as unfit

-- `IsMessage bytes m`: the bytes of an input are the encoding of this message (RFC 9420, 6), in the members' profile.
abbrev pub IsMessage : List ℕ → Message → Type 0
IsMessage bytes m = DecodesInput (message_in Members) bytes (Ok m)

-- `IsPackage bytes k`: the bytes are the encoding of a message with this KeyPackage (6 and 10).
abbrev pub IsPackage : List ℕ → KeyPackage → Type 0
IsPackage bytes k = IsMessage bytes (messages.KeyPackage k)

-- `IsOtherMessage bytes`: the bytes are the encoding of a message without a KeyPackage.
abbrev pub IsOtherMessage : List ℕ → Type 0
IsOtherMessage bytes = (m : Message) × IsMessage bytes m × ((k : KeyPackage) → m ≢ messages.KeyPackage k)

-- `IsPackageFinding asked G bytes finding`: the first finding that applies: the bytes cannot be decoded, the message is not a
-- KeyPackage, the KeyPackage is not good by itself, for this reason, or it is good, and these are its facts.
abbrev pub IsPackageFinding : Rules → VerifyFn → List ℕ → PackageFinding → Type 0
IsPackageFinding asked G bytes (findings.Unreadable fault) =
    DecodesInput (message_in Members) bytes (Err (Wire fault))
IsPackageFinding asked G bytes findings.NotKeyPackage = IsOtherMessage bytes
IsPackageFinding asked G bytes (findings.Unfit e) =
    (k : KeyPackage) × IsPackage bytes k × (e ≢ unfit.OutOfMemory) × IsUnfitPackage G asked k e
IsPackageFinding asked G bytes (findings.Good facts) =
    (k : KeyPackage) × IsPackage bytes k × IsGoodPackage G asked k × IsFactsOf k facts

-- `is_good finding`: the KeyPackage is good by itself.
abbrev pub is_good : PackageFinding → Bool
is_good (findings.Unreadable fault) = false
is_good findings.NotKeyPackage = false
is_good (findings.Unfit e) = false
is_good (findings.Good facts) = true
