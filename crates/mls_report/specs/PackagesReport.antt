-- The reports on KeyPackages (docs/FORMATS.md): the line and the signatures of each, and how many are good. `n` is the number of a
-- KeyPackage, from 1 on. Used by contracts.
use Rattle.std.specs.Prelude.{ℕ, ◌+◌, ◌==◌, List, [], ◌∷◌, ◌++◌, Bool, true, false, codes, count_by, if◌then◌else◌, length}
use Rattle.std.specs.List.{list_all}
use Rattle.std.specs.Fmt.{decimal}
use Rattle.mls_examine.specs.PackageFindings.{is_good}
use Rattle.mls_examine.specs.UnfitNumbers.{name_of, number_of}
use Rattle.mls_examine.specs.declared.package_check.PackageFacts.{PackageFacts}
use Rattle.mls_examine.specs.declared.finding.PackageFinding.{PackageFinding}
use Rattle.mls_examine.specs.declared.finding.PackageFinding.TheVariants as findings
use Rattle.mls_examine.specs.declared.unfit.Unfit.{Unfit}
use Rattle.mls_examine.specs.declared.unfit.Unfit.TheVariants as unfit
use Rattle.mls_msgs.specs.StrictRules.{strict_name, strict_number}
use Rattle.mls_report.specs.FaultText.{member_fault_text, start_fault_text}
use Rattle.mls_report.specs.SignaturesReport.{signature_line}
use Rattle.mls_show.specs.FaultText.{wire_fault_text}
use Rattle.mls_show.specs.ValueTexts.{hex_text}
use Rattle.mls_show.specs.declared.verdict.Verdict.{Verdict}
use Rattle.mls_show.specs.declared.verdict.Verdict.TheVariants.{Yes, No}
use Rattle.mls_signatures.specs.declared.signature_to_verify.SignatureToVerify.{SignatureToVerify}

-- ---- what is found of one

-- `facts_text facts` is the KeyPackageRef of a good KeyPackage (RFC 9420, 5.2), its cipher suite, and the two ends of its
-- lifetime (7.2).
abbrev pub facts_text : PackageFacts → List ℕ
facts_text facts =
    hex_text facts.reference
    ++ (codes " " ++ (decimal facts.cipher_suite
    ++ (codes " " ++ (decimal facts.lifetime.not_before
    ++ (codes " " ++ decimal facts.lifetime.not_after)))))

-- `detail_text e` is what follows the name of a reason: the fault of a start or of a leaf node, the number of signatures that are
-- not accepted, or the number and the name of the strict rule.
abbrev pub detail_text : Unfit → List ℕ
detail_text (unfit.StartRefused fault) = codes " " ++ start_fault_text fault
detail_text (unfit.Member fault) = codes " " ++ member_fault_text fault
detail_text (unfit.Unsigned signatures) = codes " " ++ decimal (length signatures)
detail_text (unfit.Strict r) = codes " " ++ (decimal (strict_number r) ++ (codes " " ++ strict_name r))
detail_text e = []

-- `unfit_text e` is why a KeyPackage is not good, by number and name, with the detail of the reason.
abbrev pub unfit_text : Unfit → List ℕ
unfit_text e = decimal (number_of e) ++ (codes " " ++ (name_of e ++ detail_text e))

-- `package_text finding` is the text of what is found of a KeyPackage.
abbrev pub package_text : PackageFinding → List ℕ
package_text (findings.Unreadable fault) = codes "unreadable " ++ wire_fault_text fault
package_text findings.NotKeyPackage = codes "unreadable NotKeyPackage"
package_text (findings.Unfit e) = codes "unfit " ++ unfit_text e
package_text (findings.Good facts) = codes "good " ++ facts_text facts

-- `package_line n finding` is the line of the KeyPackage with the number `n`.
abbrev pub package_line : ℕ → PackageFinding → List ℕ
package_line n finding = decimal n ++ (codes " " ++ (package_text finding ++ codes "\n"))

-- ---- its signatures

-- `listed_lines ws` is the lines of these signatures.
abbrev pub listed_lines : List SignatureToVerify → List ℕ
listed_lines [] = []
listed_lines (w ∷ ws) = signature_line w ++ listed_lines ws

-- `is_readable finding`: the bytes are a message with a KeyPackage.
abbrev pub is_readable : PackageFinding → Bool
is_readable (findings.Unreadable fault) = false
is_readable findings.NotKeyPackage = false
is_readable (findings.Unfit e) = true
is_readable (findings.Good facts) = true

-- `unsigned_lines e` is the lines of the signatures that are not accepted, if nothing else keeps a KeyPackage from being
-- good.
abbrev pub unsigned_lines : Unfit → List ℕ
unsigned_lines (unfit.Unsigned signatures) = listed_lines signatures
unsigned_lines e = []

-- `package_signature_lines n finding` is the lines of `signatures` of the KeyPackage with the number `n`: those of its
-- signatures that are not accepted, if nothing else keeps it from being good; and if it cannot be read, its line.
abbrev pub package_signature_lines : ℕ → PackageFinding → List ℕ
package_signature_lines n (findings.Unreadable fault) = package_line n (findings.Unreadable fault)
package_signature_lines n findings.NotKeyPackage = package_line n findings.NotKeyPackage
package_signature_lines n (findings.Unfit e) = unsigned_lines e
package_signature_lines n (findings.Good facts) = []

-- ---- all of them

-- `count_line good all` is the line for how many of the KeyPackages are good.
abbrev pub count_line : ℕ → ℕ → List ℕ
count_line good all = codes "good " ++ (decimal good ++ (codes " of " ++ (decimal all ++ codes "\n")))

-- `count_verdict good all` is Yes if all are good, else No.
abbrev pub count_verdict : ℕ → ℕ → Verdict
count_verdict good all = if good == all then Yes else No

-- A report on KeyPackages: the lines of each, the last line, if there is one, and the verdict.
pub record PackagesReport : Type 0 where
  pub lines : ℕ → PackageFinding → List ℕ
  pub last : List PackageFinding → List ℕ
  pub verdict : List PackageFinding → Verdict

-- `lines_from r n found` is the lines of what is found of KeyPackages, the first of which has the number `n`.
abbrev pub lines_from : PackagesReport → ℕ → List PackageFinding → List ℕ
lines_from r n [] = []
lines_from r n (finding ∷ found) = r.lines n finding ++ lines_from r (n + 1) found

-- `good_count found` is how many are good.
abbrev pub good_count : List PackageFinding → ℕ
good_count found = count_by is_good found

-- `validation` is the report `validate-key-package`: a line for each, and how many are good. It is Yes if all are.
abbrev pub validation : PackagesReport
validation = record {
  lines = package_line;
  last = λ found. count_line (good_count found) (length found);
  verdict = λ found. count_verdict (good_count found) (length found);
}

-- `signature_listing` is the report `signatures` of KeyPackages. It is Yes if all can be read.
abbrev pub signature_listing : PackagesReport
signature_listing = record {
  lines = package_signature_lines;
  last = λ found. [];
  verdict = λ found. if list_all is_readable found then Yes else No;
}
