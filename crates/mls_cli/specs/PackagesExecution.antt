-- How a report on KeyPackages is executed: each file is read when its turn comes, after the lines of those before it were
-- written. F is what opens files, G the verification function of the checker, `asked` the strict rules, `r` the report. `out0`
-- and `out1` are the output before and after. Used by contracts.
use Rattle.std.specs.Prelude.{ℕ, List, [], ◌∷◌, ◌++◌, IfOk, IfErr, ◌≡◌}
use Rattle.std.specs.Io.KnownBytes.{Appends}
use Rattle.mls_wire.specs.Devices.{AppendsPrefix, Device}
use Rattle.mls_wire.specs.declared.fault.RunFault.{RunFault}
use Rattle.mls_wire.specs.declared.fault.RunFault.TheVariants.{Read, Write, Memory}
use Rattle.mls_check.specs.Signatures.{VerifyFn}
use Rattle.mls_msgs.specs.declared.rules.Rules.{Rules}
use Rattle.mls_examine.specs.PackageFindings.{IsPackageFinding}
use Rattle.mls_examine.specs.declared.finding.PackageFinding.{PackageFinding}
use Rattle.mls_report.specs.PackagesReport.{PackagesReport, lines_from}
use Rattle.mls_show.specs.declared.verdict.Verdict.{Verdict}
use Rattle.mls_program.specs.Files.{Opener, CannotReadFile, ReadsFile}
use Rattle.mls_program.specs.ReportResult.{ReportResult}

-- `text_before r rest found` is the text of the report after this was found of the first KeyPackages, if the files with the
-- names `rest` are still to be read: their lines, and after the last one the last line.
abbrev pub text_before : PackagesReport → List (List ℕ) → List PackageFinding → List ℕ
text_before r [] found = lines_from r 1 found ++ r.last found
text_before r (name ∷ rest) found = lines_from r 1 found

module _ {File : Type 0} (F : Opener File) (G : VerifyFn) (asked : Rules) where
  -- `FindsPackage name finding`: a file with this name was read to its end, and this is found of its bytes.
  pub record FindsPackage (name : List ℕ) (finding : PackageFinding) : Type 0 where
    pub bytes : List ℕ
    pub is_read : ReadsFile F name bytes
    pub is_found : IsPackageFinding asked G bytes finding

  -- `FindPackages names found`: this is found of files with these names, of one after the other.
  abbrev pub FindPackages : List (List ℕ) → List PackageFinding → Type 0
  FindPackages [] [] = Unit {0}
  FindPackages (name ∷ names) (finding ∷ found) = FindsPackage name finding × FindPackages names found
  FindPackages _ _ = ⊥

  module _ (r : PackagesReport) (names : List (List ℕ)) (out0 out1 : Device) where
    -- `ReportsPackages verdict`: all files were read, and the report was written whole.
    pub record ReportsPackages (verdict : Verdict) : Type 0 where
      pub found : List PackageFinding
      pub finds : FindPackages names found
      pub wrote : Appends out0.bytes out1.bytes (text_before r [] found)
      pub verdict_is : verdict ≡ r.verdict found

    -- `StopsAtFile fault`: a file cannot be opened or read. The lines of those before it were written whole.
    pub record StopsAtFile (fault : RunFault) : Type 0 where
      pub front : List (List ℕ)
      pub name : List ℕ
      pub rest : List (List ℕ)
      pub names_are : names ≡ front ++ name ∷ rest
      pub found : List PackageFinding
      pub finds : FindPackages front found
      pub lost : CannotReadFile F name fault
      pub wrote : Appends out0.bytes out1.bytes (lines_from r 1 found)

    -- `StopsInText`: a prefix of the text was written that follows from the first files. No line of a later one was.
    pub record StopsInText : Type 0 where
      pub front : List (List ℕ)
      pub rest : List (List ℕ)
      pub names_are : names ≡ front ++ rest
      pub found : List PackageFinding
      pub finds : FindPackages front found
      pub wrote : AppendsPrefix out0.bytes out1.bytes (text_before r rest found)

    -- `PackagesPart fault`: what was written if the report was not written whole, by the fault that is returned.
    abbrev pub PackagesPart : RunFault → Type 0
    PackagesPart Read = StopsAtFile Read
    PackagesPart Write = StopsInText
    PackagesPart Memory = StopsInText

    -- `ExecutesPackages outcome`: the report was written whole, or a part of it.
    pub record ExecutesPackages (outcome : ReportResult) : Type 0 where
      pub printed : IfOk outcome ReportsPackages
      pub part : IfErr outcome PackagesPart
