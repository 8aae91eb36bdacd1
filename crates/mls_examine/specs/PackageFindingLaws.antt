-- What is found of the bytes of a KeyPackage exists, and is a function of the bytes, of the strict rules that are asked and of
-- the verification function G. Used by contracts.
use Rattle.std.specs.Prelude.{◌≡◌, ℕ, List}
use Rattle.mls_check.specs.Signatures.{VerifyFn}
use Rattle.mls_msgs.specs.declared.rules.Rules.{Rules}
use Rattle.mls_examine.specs.PackageFindings.{IsPackageFinding}
use Rattle.mls_examine.specs.declared.finding.PackageFinding.{PackageFinding}
use Rattle.mls_examine.specs.declared.finding.PackageFinding.TheVariants as findings

-- `AreAlikeFindings finding other`: the findings are equal, except for which fault is named of bytes that are no message.
abbrev pub AreAlikeFindings : PackageFinding → PackageFinding → Type 0
AreAlikeFindings (findings.Unreadable fault) (findings.Unreadable other) = Unit {0}
AreAlikeFindings finding other = finding ≡ other

-- Of the bytes one thing is found.
abbrev pub PackageFindingIsUnique : Type 0
PackageFindingIsUnique =
    (asked : Rules) (G : VerifyFn) (bytes : List ℕ) (finding other : PackageFinding)
    → IsPackageFinding asked G bytes finding → IsPackageFinding asked G bytes other → AreAlikeFindings finding other

-- Something is found of any bytes.
abbrev pub PackageFindingExists : Type 0
PackageFindingExists =
    (asked : Rules) (G : VerifyFn) (bytes : List ℕ)
    → (finding : PackageFinding) × IsPackageFinding asked G bytes finding
