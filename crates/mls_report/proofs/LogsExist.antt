-- What is told of any bytes of a log, from a state on after which there is an answer to any message.
use Rattle.std.proofs.Common.{◌≡◌, ◌∙◌, ℕ, zero, suc, ◌-◌, ◌<◌, ◌≤◌, List, [], ◌∷◌, ◌++◌, length, take, drop, Bool, true, false, Option, Some, None, refl, sym, ap, subst, inl, inr, arith, append_assoc, append-nil, take-append-drop, length-take-le}
use Rattle.std.specs.Prelude.{◌⊎◌, nat_lt, nat_le, if◌then◌else◌}
use Rattle.std.proofs.lemmas.Bool.Decides.{nat_tests}
use Rattle.mls_wire.proofs.Logs.{length_cut, body_cut, body_bytes, size_found, size_refused, size_over}
use Rattle.mls_wire.specs.Input.{Input, at}
use Rattle.mls_wire.specs.Limits.{input_limit}
use Rattle.mls_wire.specs.Logs.{length_size, IsRecord, IsBadLength, IsTruncatedRecord, IsBrokenAt}
use Rattle.mls_wire.specs.Parsing.{length_at}
use Rattle.mls_wire.specs.Encoding.{length_form}
use Rattle.mls_check.specs.Signatures.{VerifyFn}
use Rattle.mls_follow.proofs.Holding.{IsSteady}
use Rattle.mls_follow.proofs.TimedAnswers.{timed_answer}
use Rattle.mls_follow.proofs.TimedRuns.{timed_steady}
use Rattle.mls_follow.specs.State.{State}
use Rattle.mls_follow.specs.TimedAnswers.{HasAnswerAt}
use Rattle.mls_report.proofs.TurnsOnce.{MessageLines}
use Rattle.mls_report.specs.Replay.{ProcessedMessage, IsLogEnd}

-- ---- what comes next in a log

-- a record, and what is behind it
pub record Begins (log : List ℕ) : Type 0 where
  pub body : List ℕ
  pub read : List ℕ
  pub after : List ℕ
  pub is_record : IsRecord read body
  pub log_is : log ≡ read ++ after

-- a break, and what is behind it
pub record Breaks (most : ℕ) (log : List ℕ) : Type 0 where
  pub rest : List ℕ
  pub left : List ℕ
  pub is_break : IsBrokenAt most rest (Some left)
  pub log_is : log ≡ rest ++ left

size_some : (first : ℕ) → 1 ≤ length_size first
unfolding length_size
size_some first = go (nat_lt first 64) (nat_lt first 128) (nat_lt first 192)
  where
    go : (a b c : Bool) → 1 ≤ (if a then 1 else if b then 2 else if c then 4 else 1)
    go true b c = omega arith
    go false true c = omega arith
    go false false true = omega arith
    go false false false = omega arith

-- bytes that begin with one: a record may come
module _ (most first : ℕ) (bytes : List ℕ) where
  abbrev pub Comes : Type 0
  Comes = Begins (first ∷ bytes) ⊎ Breaks (suc most) (first ∷ bytes)

  some_more : 0 < suc most
  some_more = omega arith

  cut_there : (rest : List ℕ) → first ∷ bytes ≡ rest → IsTruncatedRecord rest → Comes
  cut_there rest e cut = inr (record { rest = rest; left = []; is_break = inr (some_more, inr (cut, refl)); log_is = e ∙ sym (append-nil rest) })

  -- there is the whole length
  module _ (whole : length_size first ≤ length (first ∷ bytes)) where
    abbrev more : List ℕ
    more = take (length_size first - 1) bytes

    abbrev behind : List ℕ
    behind = drop (length_size first - 1) bytes

    parts : first ∷ bytes ≡ (first ∷ more) ++ behind
    parts = ap (λ (x : List ℕ). first ∷ x) (sym (take-append-drop (length_size first - 1) bytes))

    long : length (first ∷ more) ≡ length_size first
    long = let some = size_some first in let len = length-take-le (length_size first - 1) bytes (omega (arith, whole)) in omega (arith, len, some)

    bad_there : IsBadLength (first ∷ more) → Comes
    bad_there bad = inr (record { rest = first ∷ more; left = behind; is_break = inr (some_more, inl bad); log_is = parts })

    -- the length is that of a body
    by_body : (n : ℕ) → n ≤ input_limit → length_form n ≡ Some (first ∷ more) → (b : Bool) → nat_lt (length behind) n ≡ b → Comes
    by_body n le form true e =
        let lt : length behind < n = grind (arith, nat_tests) in
        cut_there (first ∷ (more ++ behind)) parts (body_cut n first more behind form le lt)
    by_body n le form false e =
        let ge : n ≤ length behind = grind (arith, nat_tests) in
        inl (record {
          body = take n behind;
          read = first ∷ (more ++ take n behind);
          after = drop n behind;
          is_record = body_bytes n first more (take n behind) form le (length-take-le n behind ge);
          log_is =
              parts
              ∙ ap (λ (x : List ℕ). (first ∷ more) ++ x) (sym (take-append-drop n behind))
              ∙ sym (append_assoc (first ∷ more) (take n behind) (drop n behind));
        })

    by_size : (n : ℕ) (j : Input) → length_at (at 0 (first ∷ more)) ≡ Some (n, j) → (b : Bool) → nat_le n input_limit ≡ b → Comes
    by_size n j e true f =
        by_body n (grind (arith, nat_tests)) (size_found (first ∷ more) first more refl long n j e) (nat_lt (length behind) n) refl
    by_size n j e false f = bad_there (size_over (first ∷ more) first more refl long n j e (grind (arith, nat_tests)))

    by_length : (o : Option (ℕ × Input)) → length_at (at 0 (first ∷ more)) ≡ o → Comes
    by_length None e = bad_there (size_refused (first ∷ more) first more refl long e)
    by_length (Some x) e = by_size x.0 x.1 e (nat_le x.0 input_limit) refl

  pub comes : Comes
  comes = go (nat_lt (length (first ∷ bytes)) (length_size first)) refl
    where
      go : (b : Bool) → nat_lt (length (first ∷ bytes)) (length_size first) ≡ b → Comes
      go true e = cut_there (first ∷ bytes) refl (length_cut first bytes (grind (arith, nat_tests)))
      go false e = let whole : length_size first ≤ length (first ∷ bytes) = grind (arith, nat_tests) in by_length whole (length_at (at 0 (first ∷ more whole))) refl

-- ---- all that is told

module _ (time : Option ℕ) (G : VerifyFn) where
  pub record IsLogReported (most : ℕ) (s : State) (log : List ℕ) : Type 0 where
    pub turns : List ProcessedMessage
    pub broken : Bool
    pub printed : MessageLines time G most s log turns broken

  none_told : (most : ℕ) (s : State) → IsLogReported most s []
  none_told most s = record {
    turns = [];
    broken = false;
    printed = record { taken = tt; bounded = omega arith; records = []; are_records = refl; rest = []; left = []; read = refl; log_end = (refl, refl) };
  }

  breaks_reported : (most : ℕ) (s : State) (log : List ℕ) → Breaks most log → IsLogReported most s log
  breaks_reported most s log b = record {
    turns = [];
    broken = true;
    printed = record {
      taken = tt;
      bounded = omega arith;
      records = [];
      are_records = refl;
      rest = b.rest;
      left = b.left;
      read = b.log_is;
      log_end = subst (λ (n : ℕ). IsLogEnd n b.rest (Some b.left) true) (omega arith) b.is_break;
    };
  }

  -- one message, and what is told behind it
  one_more : (most : ℕ) (s : State) (log : List ℕ) (n : Begins log) (answer : HasAnswerAt time G s n.body) → IsLogReported most answer.1 n.after → IsLogReported (suc most) s log
  one_more most s log n answer rest =
      let turn : ProcessedMessage = record { bytes = n.body; answer = answer.0; state = answer.1 } in
      let behind = rest.printed in
      let fewer = behind.bounded in
      record {
        turns = turn ∷ rest.turns;
        broken = rest.broken;
        printed = record {
          taken = (answer.2, behind.taken);
          bounded = omega (arith, fewer);
          records = n.read ++ behind.records;
          are_records = (n.read, behind.records, n.is_record, behind.are_records, refl);
          rest = behind.rest;
          left = behind.left;
          read =
              n.log_is
              ∙ ap (λ (x : List ℕ). n.read ++ x) behind.read
              ∙ sym (append_assoc n.read (behind.records ++ behind.rest) behind.left)
              ∙ ap (λ (x : List ℕ). x ++ behind.left) (sym (append_assoc n.read behind.records behind.rest));
          log_end = subst (λ (k : ℕ). IsLogEnd k behind.rest (Some behind.left) rest.broken) (omega (arith, fewer)) behind.log_end;
        };
      }

  -- in a steady state there is an answer to any message, and it leads to a steady state
  pub log_reported : (most : ℕ) (s : State) (log : List ℕ) → IsSteady s → IsLogReported most s log
  log_reported most s [] steady = none_told most s
  log_reported zero s (first ∷ bytes) steady =
      breaks_reported zero s (first ∷ bytes) (record { rest = first ∷ []; left = bytes; is_break = inl (refl, refl); log_is = refl })
  log_reported (suc most) s (first ∷ bytes) steady =
      elim (comes most first bytes) [
        | inl n ↦
            (let answer = timed_answer time G s steady.required n.body steady.held steady.requires in
            let still = timed_steady time G s n.body steady answer.0 answer.1 answer.2 in
            one_more most s (first ∷ bytes) n answer (log_reported most answer.1 n.after still))
        | inr b ↦ breaks_reported (suc most) s (first ∷ bytes) b
      ]
