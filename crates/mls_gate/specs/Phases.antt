-- What the gate is at between two records (own format). Used by contracts.
use Rattle.std.specs.Prelude.{ℕ, Option}
use Rattle.mls_check.specs.Signatures.{VerifyFn}
use Rattle.mls_follow.specs.State.{State}
use Rattle.mls_start.specs.Inputs.{Inputs}
use Rattle.mls_show.specs.declared.verdict.Verdict.{Verdict}
use Rattle.mls_show.specs.declared.verdict.Verdict.TheVariants.{Yes, No}

-- `Opening i time G`: no follower has started yet from the inputs. `Following time G s`: a follower is in this state. `G` is
-- the verification function of what was learnt so far, `time` the time at which messages are judged, if one was passed.
pub data Phase : Type 0 where
  Opening : Inputs → Option ℕ → VerifyFn → Phase
  Following : Option ℕ → VerifyFn → State → Phase

-- `end_verdict phase` is the verdict if the input ends between two records: Yes if a follower has started, else No.
abbrev pub end_verdict : Phase → Verdict
end_verdict (Opening i time G) = No
end_verdict (Following time G s) = Yes
