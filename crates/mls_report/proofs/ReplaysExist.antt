-- A replay has a report, whatever the bytes of its inputs.
use Rattle.std.proofs.Common.{ℕ, zero, suc, [], ◌++◌, Bool, true, false, Some, None, refl, inl, inr, arith}
use Rattle.mls_start.proofs.FirstStates.{first_or_declined, first_steady}
use Rattle.mls_report.proofs.LogsExist.{IsLogReported, log_reported}
use Rattle.mls_report.specs.Finding.{finding_line}
use Rattle.mls_report.specs.Replay.{message_limit, IsVerdict, processed_lines, ending, refused_count, state_after}
use Rattle.mls_report.specs.ReportsExist.{ReplayExists}
use Rattle.mls_show.specs.declared.verdict.Verdict.{Verdict}
use Rattle.mls_show.specs.declared.verdict.Verdict.TheVariants.{Yes, No}

verdict_there : (broken : Bool) (refused : ℕ) → (verdict : Verdict) × IsVerdict broken refused verdict
verdict_there true refused = (No, inl refl)
verdict_there false zero = (Yes, (refl, refl))
verdict_there false (suc n) = (No, inr (λ e. omega (arith, e)))

pub some_replay : ReplayExists
some_replay time G i log_bytes =
    elim (first_or_declined G i) [
      | inl s ↦
          (let log : IsLogReported time G message_limit s.0 log_bytes = log_reported time G message_limit s.0 log_bytes (first_steady G i s.0 s.1) in
          let verdict = verdict_there log.broken (refused_count log.turns) in (
            processed_lines 1 log.turns ++ ending log.broken s.0 log.turns,
            verdict.0,
            record {
              log_left = Some log.printed.left;
              before = [];
              last = Some (state_after s.0 log.turns);
              replays = record {
                state = s.0;
                starts = s.1;
                reports = record {
                  turns = log.turns;
                  rest = log.printed.rest;
                  broken = log.broken;
                  follows = record { taken = log.printed.taken; bounded = log.printed.bounded; records = log.printed.records; are_records = log.printed.are_records; log_read = log.printed.read };
                  log_end = log.printed.log_end;
                  wrote = refl;
                  verdict_is = verdict.1;
                };
                last_is = refl;
              };
            },
          ))
      | inr f ↦ (
        finding_line f.0,
        No,
        record {
          log_left = Some log_bytes;
          before = [];
          last = None;
          replays = record { finding = f.0; declines = f.1; unread = refl; wrote = refl; verdict_is = refl };
        },
      )
    ]
