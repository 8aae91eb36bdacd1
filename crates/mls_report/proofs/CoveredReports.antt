-- A replay by a checker that accepts each signature that `signatures` names is the one by a checker that accepts them all.
use Rattle.std.proofs.Common.{◌≡◌, ◌∙◌, List, [], ◌∷◌, ℕ, Option, Some, None, sym, ap, subst}
use Rattle.mls_tree.specs.RatchetTree.{RatchetTree}
use Rattle.mls_tree.specs.Tree.{Tree}
use Rattle.mls_check.specs.Signatures.{VerifyFn}
use Rattle.mls_msgs.specs.declared.rules.Rules.{Rules}
use Rattle.mls_msgs.specs.declared.group_info.GroupInfo.{GroupInfo}
use Rattle.mls_msgs.specs.declared.message.Message.{Message}
use Rattle.mls_follow.specs.CoveredLogs.{all_good, Covers, CoversStart, CoversMessage}
use Rattle.mls_follow.specs.Start.{IsStart}
use Rattle.mls_follow.specs.State.{State}
use Rattle.mls_follow.specs.TimedAnswers.{IsAnswerAt}
use Rattle.mls_follow.specs.Validity.{IsValidState}
use Rattle.mls_signatures.specs.SignaturesToVerify.{start_signatures}
use Rattle.mls_follow.specs.MessageSignatures.{message_signatures_in_state}
use Rattle.mls_signatures.specs.declared.signature_to_verify.SignatureToVerify.{SignatureToVerify}
use Rattle.mls_follow.proofs.Answering.{one_message}
use Rattle.mls_follow.proofs.CoveredLogs.{covered_starts}
use Rattle.mls_follow.proofs.TimedCovered.{covered_answers_at_times}
use Rattle.mls_follow.proofs.TimedRuns.{calls_at, timed_run}
use Rattle.mls_follow.proofs.Validity.{run_valid, start_valid}
use Rattle.mls_report.specs.CoveredReports.{CoversNeeded, CoversLogged, CoveredReportsReplay}
use Rattle.mls_report.specs.Replay.{AreProcessed}
use Rattle.mls_report.specs.SignaturesReport.{HasSignatures, LoggedMessage, HaveSignatures, turns_of}
use Rattle.mls_start.proofs.StartsOnce.{one_tree}
use Rattle.mls_msgs.specs.declared.profile.Profile.{Profile}

module _ (R : VerifyFn) where
  -- the signatures that a message wants are those that were named
  message_covered : (s : State) (bytes : List ℕ) (named : Option (List SignatureToVerify)) → HasSignatures s bytes named → CoversNeeded R named → CoversMessage R s bytes
  message_covered s bytes None none covers needed these = absurd (none these.message these.encoded)
  message_covered s bytes (Some qs) has_signatures covers needed these =
      let same : m ≡ n = one_message m n bytes has_signatures.encoded these.encoded in
      subst (Covers R) (has_signatures.same ∙ (ap (message_signatures_in_state s) same ∙ sym these.same)) covers
    where
      m : Message
      m = has_signatures.message

      n : Message
      n = these.message

  turns_covered : (s : State) (logged : List LoggedMessage) → IsValidState R s → AreProcessed None all_good s (turns_of logged) → HaveSignatures s logged → CoversLogged R logged
      → AreProcessed None R s (turns_of logged)
  turns_covered s [] v taken has_signatures covers = taken
  turns_covered s (a ∷ logged) v taken has_signatures covers =
      let turn = a.turn in
      let answer : IsAnswerAt None R s turn.bytes turn.answer turn.state =
      (covered_answers_at_times None R s turn.bytes turn.answer turn.state v (message_covered s turn.bytes a.needed has_signatures.0 covers.0)).1 taken.0 in
      let run = timed_run None R s turn.bytes turn.answer turn.state answer in
      let valid : IsValidState R turn.state = run_valid R s (calls_at turn.bytes turn.answer) turn.state v run in
      (answer, turns_covered turn.state logged valid taken.1 has_signatures.1 covers.1)

  -- the tree of a start is the one that it uses
  start_tree : (asked : Rules) (profile : Profile) (info : GroupInfo) (supplied : Option RatchetTree) (s : State) (needed : List SignatureToVerify) → IsStart asked profile all_good info supplied s → needed ≡ start_signatures info s.tree
      → Covers R needed → CoversStart R info supplied
  start_tree asked profile info supplied s needed start named covers t uses =
      let same : start.tree ≡ t = one_tree supplied info.extensions start.tree t start.has_signer.has_members.valid_tree.readable.has_tree.uses uses in
      subst (λ (u : Tree). Covers R (start_signatures info u)) (ap (λ (st : State). st.tree) start.state ∙ ap (λ (r : RatchetTree). r.tree) same)
      (subst (Covers R) named covers)

pub covered_replay : CoveredReportsReplay
covered_replay asked profile R info supplied s needed log0 log1 logged rest starts covers processes log =
    let start : IsStart asked profile R info supplied s =
    (covered_starts asked profile R info supplied s (start_tree R asked profile info supplied s needed starts.start starts.needed_is covers)).1 starts.start in (
      start,
      record {
        taken = turns_covered R s logged (start_valid asked profile R info supplied s start) processes.follows.taken processes.has_signatures log;
        bounded = processes.follows.bounded;
        records = processes.follows.records;
        are_records = processes.follows.are_records;
        log_read = processes.follows.log_read;
      },
    )
