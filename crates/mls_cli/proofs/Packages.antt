-- KeyPackages that are read one after the other.
use Rattle.std.proofs.Common.{◌≡◌, ◌∙◌, ℕ, ◌+◌, ◌≤◌, List, [], ◌∷◌, ◌++◌, length, Bool, true, false, cond, refl, sym, ap, subst, inl, inr, append_assoc, append-nil, length-append, arith}
use Rattle.std.specs.Prelude.{◌&&◌, ◌⊎◌, ◌≢◌, if◌then◌else◌, IfOk, IfErr, OnErr, Ok, Err, Result}
use Rattle.std.specs.List.{list_all}
use Rattle.std.proofs.lemmas.List.Sums.{count_by-le-length, fold-append}
use Rattle.std.specs.Io.KnownBytes.{Appends}
use Rattle.mls_wire.proofs.KnownBytes.{Appends-trans}
use Rattle.mls_wire.specs.Devices.{AppendsPrefix, Device}
use Rattle.mls_wire.specs.declared.fault.RunFault.{RunFault}
use Rattle.mls_wire.specs.declared.fault.RunFault.TheVariants.{Read, Write, Memory}
use Rattle.mls_check.specs.Signatures.{VerifyFn}
use Rattle.mls_msgs.specs.declared.rules.Rules.{Rules}
use Rattle.mls_examine.specs.PackageFindings.{is_good}
use Rattle.mls_examine.specs.declared.finding.PackageFinding.{PackageFinding}
use Rattle.mls_program.specs.Files.{Opener, CannotReadFile}
use Rattle.mls_program.specs.ReportResult.{ReportResult}
use Rattle.mls_report.proofs.Replaying.{Appends-nil}
use Rattle.mls_report.proofs.StartLines.{prefix-behind, prefix-more}
use Rattle.mls_report.specs.PackagesReport.{PackagesReport, good_count, is_readable, lines_from}
use Rattle.mls_show.specs.declared.verdict.Verdict.{Verdict}
use Rattle.mls_show.specs.declared.verdict.Verdict.TheVariants.{Yes, No}
use Rattle.mls_cli.specs.PackagesExecution.{ExecutesPackages, FindPackages, FindsPackage, PackagesPart, ReportsPackages, StopsAtFile, StopsInText, text_before}

-- a fact that another one gives, if a call failed
pub failing : {T E P Q : Type 0} (r : Result T E) → (P → Q) → OnErr r P → OnErr r Q
failing (Ok x) f p = tt
failing (Err e) f p = f p

-- ---- one more finding

one_more_line : (r : PackagesReport) (n : ℕ) (found : List PackageFinding) (finding : PackageFinding) (k : ℕ) → k ≡ n + length found
    → lines_from r n (found ++ finding ∷ []) ≡ lines_from r n found ++ r.lines k finding
one_more_line r n [] finding k e =
    let same : n ≡ k = omega (arith, e) in
    append-nil (r.lines n finding) ∙ ap (λ i. r.lines i finding) same
one_more_line r n (x ∷ found) finding k e =
    ap (λ (text : List ℕ). r.lines n x ++ text) (one_more_line r (n + 1) found finding k (omega (arith, e)))
    ∙ sym (append_assoc (r.lines n x) (lines_from r (n + 1) found) (r.lines k finding))

pub one_more_good : (found : List PackageFinding) (finding : PackageFinding) (b : Bool) → b ≡ is_good finding
    → good_count (found ++ finding ∷ []) ≡ good_count found + (if b then 1 else 0)
one_more_good found finding b e =
    rw e (fold-append (λ (n : ℕ) (x : PackageFinding). n + cond (is_good x) 1 0) 0 found (finding ∷ []))

pub good_is_low : (found : List PackageFinding) → good_count found ≤ length found
good_is_low found = count_by-le-length is_good found

-- the verdict of the listing of signatures, after one more finding
abbrev pub listing_verdict : List PackageFinding → Verdict
listing_verdict found = if list_all is_readable found then Yes else No

one_more_readable : (found : List PackageFinding) (finding : PackageFinding) → is_readable finding ≡ true → listing_verdict (found ++ finding ∷ []) ≡ listing_verdict found
one_more_readable [] finding e = rw e refl
one_more_readable (x ∷ found) finding e = go (is_readable x) (one_more_readable found finding e)
  where
    go : (b : Bool) → listing_verdict (found ++ finding ∷ []) ≡ listing_verdict found
        → (if b && list_all is_readable (found ++ finding ∷ []) then Yes else No) ≡ (if b && list_all is_readable found then Yes else No)
    go true h = h
    go false h = refl

one_unreadable : (found : List PackageFinding) (finding : PackageFinding) → is_readable finding ≡ false → listing_verdict (found ++ finding ∷ []) ≡ No
one_unreadable [] finding e = rw e refl
one_unreadable (x ∷ found) finding e = go (is_readable x) (one_unreadable found finding e)
  where
    go : (b : Bool) → listing_verdict (found ++ finding ∷ []) ≡ No → (if b && list_all is_readable (found ++ finding ∷ []) then Yes else No) ≡ No
    go true h = h
    go false h = refl

pub listing_after : (found : List PackageFinding) (finding : PackageFinding) (b : Bool) → b ≡ is_readable finding
    → listing_verdict (found ++ finding ∷ []) ≡ (if b then listing_verdict found else No)
listing_after found finding true e = one_more_readable found finding (sym e)
listing_after found finding false e = one_unreadable found finding (sym e)

-- ---- the files so far

module _ {File : Type 0} (F : Opener File) (G : VerifyFn) (asked : Rules) where
  pub one_more_found : (names : List (List ℕ)) (found : List PackageFinding) (name : List ℕ) (finding : PackageFinding) → FindPackages F G asked names found
      → FindsPackage F G asked name finding → FindPackages F G asked (names ++ name ∷ []) (found ++ finding ∷ [])
  one_more_found [] [] name finding h f = (f, tt)
  one_more_found [] (x ∷ found) name finding h f = absurd h
  one_more_found (y ∷ names) [] name finding h f = absurd h
  one_more_found (y ∷ names) (x ∷ found) name finding h f = (h.0, one_more_found names found name finding h.1 f)

  module _ (r : PackagesReport) where
    -- what was found of the files so far, and their lines
    pub record SoFar (names : List (List ℕ)) (out0 out1 : Device) (all : ℕ) : Type 0 where
      pub found : List PackageFinding
      pub finds : FindPackages F G asked names found
      pub wrote : Appends out0.bytes out1.bytes (lines_from r 1 found)
      pub count : all ≡ length found

    -- of the same names
    pub moved : (names others : List (List ℕ)) (out0 out1 : Device) (all : ℕ) (P : List PackageFinding → Type 0) → names ≡ others
        → (h : SoFar names out0 out1 all) × P h.found → (h : SoFar others out0 out1 all) × P h.found
    moved names others out0 out1 all P same h = subst (λ (ns : List (List ℕ)). (k : SoFar ns out0 out1 all) × P k.found) same h

    abbrev pub nothing_yet : (out : Device) → SoFar [] out out 0
    nothing_yet out = record { found = []; finds = tt; wrote = Appends-nil out.bytes; count = refl }

    module _ (names : List (List ℕ)) (out0 out1 : Device) (all : ℕ) (h : SoFar names out0 out1 all) where
      -- the next file
      module _ (name : List ℕ) (finding : PackageFinding) (found : FindsPackage F G asked name finding) (number : ℕ) (next : number ≡ all + 1) where
        pub lines_are : lines_from r 1 (h.found ++ finding ∷ []) ≡ lines_from r 1 h.found ++ r.lines number finding
        lines_are = one_more_line r 1 h.found finding number (omega (arith, next, h.count))

        abbrev pub one_more : (out2 : Device) → Appends out1.bytes out2.bytes (r.lines number finding) → SoFar (names ++ name ∷ []) out0 out2 number
        one_more out2 w = record {
          found = h.found ++ finding ∷ [];
          finds = one_more_found names h.found name finding h.finds found;
          wrote = rw lines_are (Appends-trans out0.bytes out1.bytes out2.bytes (lines_from r 1 h.found) (r.lines number finding) h.wrote w);
          count = omega (arith, next, h.count, length-append h.found (finding ∷ []));
        }

        -- a prefix of its lines was written
        with_rest : (out2 : Device) (rest : List (List ℕ)) → AppendsPrefix out0.bytes out2.bytes (lines_from r 1 (h.found ++ finding ∷ []))
            → AppendsPrefix out0.bytes out2.bytes (text_before r rest (h.found ++ finding ∷ []))
        with_rest out2 [] p = prefix-more out0.bytes out2.bytes (lines_from r 1 (h.found ++ finding ∷ [])) (r.last (h.found ++ finding ∷ [])) p
        with_rest out2 (x ∷ rest) p = p

        pub stops_in_lines : (all_names rest : List (List ℕ)) (out2 : Device) → all_names ≡ (names ++ name ∷ []) ++ rest
            → AppendsPrefix out1.bytes out2.bytes (r.lines number finding) → StopsInText F G asked r all_names out0 out2
        stops_in_lines all_names rest out2 split p = record {
          front = names ++ name ∷ [];
          rest = rest;
          names_are = split;
          found = h.found ++ finding ∷ [];
          finds = one_more_found names h.found name finding h.finds found;
          wrote = with_rest out2 rest
              (rw lines_are (prefix-behind out0.bytes out1.bytes out2.bytes (lines_from r 1 h.found) (r.lines number finding) h.wrote p));
        }

      -- a file that cannot be read, and one that was not read
      module _ (all_names : List (List ℕ)) (name : List ℕ) (rest : List (List ℕ)) (split : all_names ≡ names ++ name ∷ rest) where
        pub stops_at_file : CannotReadFile F name Read → StopsAtFile F G asked r all_names out0 out1 Read
        stops_at_file lost = record {
          front = names;
          name = name;
          rest = rest;
          names_are = split;
          found = h.found;
          finds = h.finds;
          lost = lost;
          wrote = h.wrote;
        }

        pub stops_before : StopsInText F G asked r all_names out0 out1
        stops_before = record {
          front = names;
          rest = name ∷ rest;
          names_are = split;
          found = h.found;
          finds = h.finds;
          wrote = (lines_from r 1 h.found, [], sym (append-nil (lines_from r 1 h.found)), h.wrote);
        }

        -- by the fault
        pub part_at_file : (e : RunFault) → e ≢ Write → (e ≡ Memory) ⊎ CannotReadFile F name e → PackagesPart F G asked r all_names out0 out1 e
        part_at_file Read own (inl memory) = absurd cc
        part_at_file Read own (inr lost) = stops_at_file lost
        part_at_file Write own lost = absurd (own refl)
        part_at_file Memory own lost = stops_before

      -- after all files
      pub stops_at_end : (out2 : Device) → AppendsPrefix out1.bytes out2.bytes (r.last h.found) → StopsInText F G asked r names out0 out2
      stops_at_end out2 p = record {
        front = names;
        rest = [];
        names_are = sym (append-nil names);
        found = h.found;
        finds = h.finds;
        wrote = prefix-behind out0.bytes out1.bytes out2.bytes (lines_from r 1 h.found) (r.last h.found) h.wrote p;
      }

      pub reports : (out2 : Device) (verdict : Verdict) → Appends out1.bytes out2.bytes (r.last h.found) → verdict ≡ r.verdict h.found
          → ReportsPackages F G asked r names out0 out2 verdict
      reports out2 verdict w is = record {
        found = h.found;
        finds = h.finds;
        wrote = Appends-trans out0.bytes out1.bytes out2.bytes (lines_from r 1 h.found) (r.last h.found) h.wrote w;
        verdict_is = is;
      }

    -- ---- how the report ends

    module _ (names : List (List ℕ)) (out0 out1 : Device) where
      pub part_in_text : (e : RunFault) → e ≢ Read → StopsInText F G asked r names out0 out1 → PackagesPart F G asked r names out0 out1 e
      part_in_text Read own part = absurd (own refl)
      part_in_text Write own part = part
      part_in_text Memory own part = part

      pub fails : (outcome : ReportResult) (e : RunFault) → outcome ≡ Err e → PackagesPart F G asked r names out0 out1 e → ExecutesPackages F G asked r names out0 out1 outcome
      fails outcome e is part = subst (ExecutesPackages F G asked r names out0 out1) (sym is) (record { printed = tt; part = part })

      pub fails_in_text : (outcome : ReportResult) (e : RunFault) → outcome ≡ Err e → e ≢ Read → StopsInText F G asked r names out0 out1
          → ExecutesPackages F G asked r names out0 out1 outcome
      fails_in_text outcome e is own part = fails outcome e is (part_in_text e own part)

      pub ends : (outcome : ReportResult) → IfOk outcome (ReportsPackages F G asked r names out0 out1) → IfErr outcome (λ e. e ≢ Read)
          → OnErr outcome (StopsInText F G asked r names out0 out1) → ExecutesPackages F G asked r names out0 out1 outcome
      ends (Ok verdict) whole own part = record { printed = whole; part = tt }
      ends (Err e) whole own part = record { printed = tt; part = part_in_text e own part }
