-- The lines of a log, record by record.
use Rattle.std.proofs.Common.{◌≡◌, ◌≢◌, ℕ, ◌+◌, ◌<◌, ◌≤◌, List, [], ◌∷◌, ◌++◌, length, map, Bool, true, false, ◌&&◌, refl, sym, ap, ◌∙◌, subst, append_assoc, append-nil, length-append, arith, inl, inr}
use Rattle.std.specs.Prelude.{Option, Some, None, option_map}
use Rattle.std.specs.Io.KnownBytes.{Appends, Consumes}
use Rattle.mls_wire.specs.Encoding.{items, vector, length_form}
use Rattle.std.specs.Int.{to_be_bytes, w16, w32}
use Rattle.mls_wire.specs.EncodedSizes.{vector_size}
use Rattle.mls_wire.specs.IntegersExact.{wide16, wide32}
use Rattle.mls_wire.specs.LengthsExact.{form_1, form_2, form_4}
use Rattle.mls_wire.specs.Limits.{input_limit}
use Rattle.mls_wire.specs.OptionBind.{some_is}
use Rattle.mls_wire.specs.WriteSequences.{items_snoc}
use Rattle.mls_wire.specs.Logs.{IsRecord, IsIncomplete}
use Rattle.mls_wire.specs.Devices.{AppendsPrefix}
use Rattle.mls_wire.proofs.KnownBytes.{Appends-trans, Consumes-trans}
use Rattle.mls_wire.specs.declared.fault.RunFault.{RunFault}
use Rattle.mls_wire.specs.declared.fault.RunFault.TheVariants.{Read, Write, Memory}
use Rattle.mls_msgs.specs.declared.profile.Profile.{Profile}
use Rattle.mls_show.specs.InputReports.{ShowsMessage}
use Rattle.mls_show.specs.LogReport.{ShownRecord, AreShown, record_line, record_lines, last_line, is_yes, are_readable, log_verdict, IsLogEnd, records_left, record_limit, ReadsRecords, ShowsLog, StopsLog}
use Rattle.mls_show.specs.LogReportSteps.{WritesRecord, StopsAtRecord, WritesRecords}
use Rattle.mls_show.specs.declared.verdict.Verdict.{Verdict}

-- ---- one record more

AreShown-snoc : (profile : Profile) (rs : List ShownRecord) (r : ShownRecord) → AreShown profile rs → ShowsMessage profile r.body r.text r.verdict → AreShown profile (rs ++ r ∷ [])
AreShown-snoc profile [] r a b = (b, tt)
AreShown-snoc profile (x ∷ rs) r a b = (a.0, AreShown-snoc profile rs r a.1 b)

lines-snoc : (n : ℕ) (rs : List ShownRecord) (r : ShownRecord) (k : ℕ) → k ≡ n + length rs → record_lines n (rs ++ r ∷ []) ≡ record_lines n rs ++ record_line k r
lines-snoc n [] r k e =
    let same : n ≡ k = omega arith in
    append-nil (record_line n r) ∙ ap (λ i. record_line i r) same
lines-snoc n (x ∷ rs) r k e =
    ap (λ l. record_line n x ++ l) (lines-snoc (n + 1) rs r k (omega arith))
    ∙ sym (append_assoc (record_line n x) (record_lines (n + 1) rs) (record_line k r))

and-true : (b : Bool) → (b && true) ≡ b
and-true true = refl
and-true false = refl

and-swap : (a b : Bool) → (a && b) ≡ (b && a)
and-swap true true = refl
and-swap true false = refl
and-swap false true = refl
and-swap false false = refl

and-assoc : (a b c : Bool) → (a && (b && c)) ≡ ((a && b) && c)
and-assoc true b c = refl
and-assoc false b c = refl

readable-snoc : (rs : List ShownRecord) (r : ShownRecord) → are_readable (rs ++ r ∷ []) ≡ (are_readable rs && is_yes r.verdict)
readable-snoc [] r = and-true (is_yes r.verdict)
readable-snoc (x ∷ rs) r = ap (λ b. is_yes x.verdict && b) (readable-snoc rs r) ∙ and-assoc (is_yes x.verdict) (are_readable rs) (is_yes r.verdict)

bodies-snoc : (rs : List ShownRecord) (r : ShownRecord) → map (λ (x : ShownRecord). x.body) (rs ++ r ∷ []) ≡ map (λ (x : ShownRecord). x.body) rs ++ r.body ∷ []
bodies-snoc [] r = refl
bodies-snoc (x ∷ rs) r = ap (λ (l : List (List ℕ)). x.body ∷ l) (bodies-snoc rs r)

pub Consumes-nil : (a : Option (List ℕ)) → Consumes a a []
Consumes-nil None = tt
Consumes-nil (Some x) = refl

pub Appends-nil : (a : Option (List ℕ)) → Appends a a []
Appends-nil None = tt
Appends-nil (Some x) = sym (append-nil x)

none_encoded : items vector [] ≡ Some []
unfolding items
none_encoded = refl

-- the bytes of a record whose length has this size
record_bytes : (body front read : List ℕ) (k : ℕ) → length_form (length body) ≡ Some front → length front ≡ k → vector body ≡ Some read → length body + k ≡ length read
record_bytes body front read k form size e = some_is _ _ (vector_size body front k form size ∙ ap (option_map (length {A = ℕ})) e)

pub record_1 : (body read : List ℕ) → length body < 64 → vector body ≡ Some read → length body + 1 ≡ length read
record_1 body read lt e = record_bytes body (length body ∷ []) read 1 (form_1 (length body) lt) refl e

pub record_2 : (body read : List ℕ) → 64 ≤ length body → length body < 16384 → vector body ≡ Some read → length body + 2 ≡ length read
record_2 body read le lt e =
    let n = length body + 16384 in
    record_bytes body (to_be_bytes w16 n) read 2 (form_2 (length body) n le lt refl) (wide16.len n) e

pub record_4 : (body read : List ℕ) → 16384 ≤ length body → length body ≤ input_limit → vector body ≡ Some read → length body + 4 ≡ length read
record_4 body read le bound e =
    let n = length body + 2147483648 in
    record_bytes body (to_be_bytes w32 n) read 4 (form_4 (length body) n le (omega (arith, bound)) refl) (wide32.len n) e

-- The lines of the records so far were written, and nothing was read after them.
pub record SoFar (profile : Profile) (l0 l1 w0 w1 : Option (List ℕ)) (rs : List ShownRecord) (at : ℕ) (readable : Bool) : Type 0 where
  pub shown : AreShown profile rs
  pub read : List ℕ
  pub encoded : items vector (map (λ r. r.body) rs) ≡ Some read
  pub log_read : Consumes l0 l1 read
  pub wrote : Appends w0 w1 (record_lines 1 rs)
  pub at_is : at ≡ length read
  pub readable_is : readable ≡ are_readable rs

pub so_far-none : (profile : Profile) (l w : Option (List ℕ)) (at : ℕ) (readable : Bool) → at ≡ 0 → readable ≡ true → SoFar profile l l w w [] at readable
so_far-none profile l w at readable start so = record {
  shown = tt;
  read = [];
  encoded = none_encoded;
  log_read = Consumes-nil l;
  wrote = Appends-nil w;
  at_is = start;
  readable_is = so;
}

-- bytes were read after the records so far
pub reads_after : (profile : Profile) (l0 l1 l2 w0 w1 : Option (List ℕ)) (rs : List ShownRecord) (at : ℕ) (readable : Bool) (rest : List ℕ)
    → SoFar profile l0 l1 w0 w1 rs at readable → length rs ≤ record_limit → Consumes l1 l2 rest → ReadsRecords profile l0 l2 rs rest
reads_after profile l0 l1 l2 w0 w1 rs at readable rest f bound consumed = record {
  shown = f.shown;
  bounded = bound;
  read = f.read;
  encoded = f.encoded;
  log_read = Consumes-trans l0 l1 l2 _ _ f.log_read consumed;
}

-- a record was read after them, and its line is written
pub so_far-snoc : (profile : Profile) (l0 l1 l2 w0 w1 w2 : Option (List ℕ)) (rs : List ShownRecord) (at at' size n : ℕ) (readable one readable' : Bool) (body read : List ℕ)
    → SoFar profile l0 l1 w0 w1 rs at readable → n ≡ 1 + length rs → IsRecord read body → Consumes l1 l2 read
    → size ≡ length read → at' ≡ at + size → readable' ≡ (one && readable) → (wrote : WritesRecord profile n body w1 w2 one)
    → SoFar profile l0 l2 w0 w2 (rs ++ wrote.shown ∷ []) at' readable'
so_far-snoc profile l0 l1 l2 w0 w1 w2 rs at at' size n readable one readable' body read f count is_record consumed size_of sum both wrote =
    let r = wrote.shown in
    let one_more : vector r.body ≡ Some read = ap vector wrote.body_is ∙ is_record.encoded in
    record {
      shown = AreShown-snoc profile rs r f.shown wrote.is_shown;
      read = f.read ++ read;
      encoded = ap (items vector) (bodies-snoc rs r) ∙ items_snoc vector (map (λ (x : ShownRecord). x.body) rs) r.body f.read read f.encoded one_more;
      log_read = Consumes-trans l0 l1 l2 _ _ f.log_read consumed;
      wrote = subst (Appends w0 w2) (sym (lines-snoc 1 rs r n count)) (Appends-trans w0 w1 w2 _ _ f.wrote wrote.wrote);
      at_is = omega (arith, sum, f.at_is, size_of, length-append f.read read);
      readable_is = both ∙ and-swap one readable ∙ ap (λ (b : Bool). b && one) f.readable_is ∙ ap (λ (b : Bool). are_readable rs && b) wrote.readable_is ∙ sym (readable-snoc rs r);
    }

-- ---- where it stops

still : (rs : List ShownRecord) (most : ℕ) → most + length rs ≡ record_limit → most ≡ records_left rs
still rs most e = omega arith

module _ (profile : Profile) (l0 l1 l2 w0 w1 : Option (List ℕ)) (rs : List ShownRecord) (at most : ℕ) (readable : Bool)
    (f : SoFar profile l0 l1 w0 w1 rs at readable) (count : most + length rs ≡ record_limit) where
  bounded : length rs ≤ record_limit
  bounded = omega (arith, count)

  -- what comes next was not decided
  pub stops-reading : (read : List ℕ) (e : RunFault) → e ≢ Write → Consumes l1 l2 read → IsIncomplete most read → StopsLog profile l0 l2 w0 w1 e
  stops-reading read Read not_write consumed undecided = record {
    records = rs;
    rest = read;
    reads = reads_after profile l0 l1 l2 w0 w1 rs at readable read f bounded consumed;
    undecided = subst (λ k. IsIncomplete k read) (still rs most count) undecided;
    wrote = f.wrote;
  }
  stops-reading read Write not_write consumed undecided = absurd (not_write refl)
  stops-reading read Memory not_write consumed undecided = record {
    records = rs;
    rest = read;
    reads = reads_after profile l0 l1 l2 w0 w1 rs at readable read f bounded consumed;
    left_over = inl (subst (λ k. IsIncomplete k read) (still rs most count) undecided);
    wrote = f.wrote;
  }

  -- the line of a record was not written whole
  pub stops-in_record : (w2 : Option (List ℕ)) (n : ℕ) (body read : List ℕ) (e : RunFault) → n ≡ 1 + length rs → 0 < most → IsRecord read body → Consumes l1 l2 read
      → StopsAtRecord profile n body w1 w2 e → StopsLog profile l0 l2 w0 w2 e
  stops-in_record w2 n body read Read next below is_record consumed stops = absurd stops
  stops-in_record w2 n body read Write next below is_record consumed stops =
      let r = stops.shown in
      let same : n ≡ length rs + 1 = omega arith in
      let one_more : vector r.body ≡ Some read = ap vector stops.body_is ∙ is_record.encoded in
      inl (record {
        records = rs;
        last = r;
        reads = record {
          shown = AreShown-snoc profile rs r f.shown stops.is_shown;
          bounded = omega (arith, length-append rs (r ∷ []), count, below);
          read = f.read ++ read;
          encoded = ap (items vector) (bodies-snoc rs r) ∙ items_snoc vector (map (λ (x : ShownRecord). x.body) rs) r.body f.read read f.encoded one_more;
          log_read = subst (Consumes l0 l2) (sym (append-nil (f.read ++ read))) (Consumes-trans l0 l1 l2 _ _ f.log_read consumed);
        };
        part = stops.wrote.0;
        more = stops.wrote.1;
        line_is = ap (λ k. record_line k r) (sym same) ∙ stops.wrote.2;
        wrote = Appends-trans w0 w1 w2 _ _ f.wrote stops.wrote.3;
      })
  stops-in_record w2 n body read Memory next below is_record consumed stops = record {
    records = rs;
    rest = read;
    reads = reads_after profile l0 l1 l2 w0 w1 rs at readable read f bounded consumed;
    left_over = inr (inl (body, is_record));
    wrote = subst (Appends w0 w2) (append-nil (record_lines 1 rs)) (Appends-trans w0 w1 w2 _ _ f.wrote stops);
  }

  -- the log has ended or is broken
  pub all_written : (n : ℕ) (read : List ℕ) (broken : Bool) → n ≡ length rs → Consumes l1 l2 read → IsLogEnd most read l2 broken
      → WritesRecords profile l0 l2 w0 w1 n at readable broken
  unfolding reads_after
  all_written n read broken number consumed end = record {
    records = rs;
    rest = read;
    reads = reads_after profile l0 l1 l2 w0 w1 rs at readable read f bounded consumed;
    log_end = subst (λ k. IsLogEnd k read l2 broken) (still rs most count) end;
    wrote = f.wrote;
    count_is = number;
    at_is = f.at_is;
    readable_is = f.readable_is;
  }

-- ---- the last line

module _ (profile : Profile) (l0 l1 w0 w1 w2 : Option (List ℕ)) (n at : ℕ) (readable broken : Bool) (f : WritesRecords profile l0 l1 w0 w1 n at readable broken) where
  line_same : last_line broken n at ≡ last_line broken (length f.records) (length f.reads.read)
  line_same = ap (λ k. last_line broken k at) f.count_is ∙ ap (λ k. last_line broken (length f.records) k) f.at_is

  pub shows-log : (verdict : Verdict) → Appends w1 w2 (last_line broken n at) → verdict ≡ log_verdict broken readable → ShowsLog profile l0 l1 w0 w2 verdict
  shows-log verdict wrote is = record {
    records = f.records;
    rest = f.rest;
    broken = broken;
    reads = f.reads;
    log_end = f.log_end;
    wrote = subst (λ text. Appends w0 w2 (record_lines 1 f.records ++ text)) line_same (Appends-trans w0 w1 w2 _ _ f.wrote wrote);
    verdict_is = is ∙ ap (log_verdict broken) f.readable_is;
  }

  pub stops-in_last_line : AppendsPrefix w1 w2 (last_line broken n at) → StopsLog profile l0 l1 w0 w2 Write
  stops-in_last_line p = inr (record {
    records = f.records;
    rest = f.rest;
    broken = broken;
    reads = f.reads;
    log_end = f.log_end;
    part = p.0;
    more = p.1;
    line_is = sym line_same ∙ p.2;
    wrote = Appends-trans w0 w1 w2 _ _ f.wrote p.3;
  })

-- memory ran out before the last line
pub stops-without_memory : (profile : Profile) (l0 l1 w0 w1 : Option (List ℕ)) (n at : ℕ) (readable broken : Bool) → WritesRecords profile l0 l1 w0 w1 n at readable broken
    → StopsLog profile l0 l1 w0 w1 Memory
stops-without_memory profile l0 l1 w0 w1 n at readable broken f = record {
  records = f.records;
  rest = f.rest;
  reads = f.reads;
  left_over = inr (inr (broken, f.log_end));
  wrote = f.wrote;
}
