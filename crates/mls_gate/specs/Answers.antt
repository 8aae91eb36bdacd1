-- The answer to a record of the gate's input: its lines, and the phase after it. `G` is the verification function of
-- what was learnt so far, `time` the time at which messages are judged, if one was passed. Used by contracts.
use Rattle.std.specs.Prelude.{◌≡◌, ◌⊎◌, ℕ, ◌+◌, List, [], ◌∷◌, ◌++◌, Bool, codes, drop, Option, Some, None, Result, Ok, Err, if◌then◌else◌}
use Rattle.std.specs.Fmt.{decimal}
use Rattle.mls_tree.specs.Tree.{member_count}
use Rattle.mls_check.specs.Signatures.{VerifyFn}
use Rattle.mls_signatures.specs.declared.signature_to_verify.SignatureToVerify.{SignatureToVerify}
use Rattle.mls_apply.specs.Refusals.{name_of, number_of}
use Rattle.mls_follow.specs.State.{State}
use Rattle.mls_follow.specs.StoredState.{EncodesState, HasNoFile}
use Rattle.mls_follow.specs.TimedAnswers.{IsAnswerAt}
use Rattle.mls_apply.specs.declared.refusal.Refusal.{Refusal}
use Rattle.mls_apply.specs.declared.refusal.Refusal.TheVariants.{Member}
use Rattle.mls_follow.specs.declared.taken.Taken.{Taken}
use Rattle.mls_follow.specs.declared.taken.Taken.TheVariants.{Proposal, Commit}
use Rattle.mls_report.specs.FaultText.{member_fault_text}
use Rattle.mls_report.specs.Finding.{finding_line}
use Rattle.mls_report.specs.Replay.{ended_text}
use Rattle.mls_report.specs.SignaturesReport.{HasSignatures, signature_line}
use Rattle.mls_show.specs.ValueTexts.{hex_text}
use Rattle.mls_start.specs.Inputs.{Inputs}
use Rattle.mls_start.specs.ReceiptBytes.{having_learnt}
use Rattle.mls_start.specs.StartFindings.{IsFirstState, Refuses}
use Rattle.mls_start.specs.declared.finding.Finding.{Finding}
use Rattle.mls_gate.specs.Phases.{Phase, Opening, Following}
use Rattle.mls_gate.specs.Requests.{request_of}
use Rattle.mls_gate.specs.declared.request.Request.{Request}
use Rattle.mls_gate.specs.declared.request.Request.TheVariants.{Learn, Begin, Query, Process, Time, Store}

-- ---- lines

-- `is_known G w`: `G` accepts the signature.
abbrev pub is_known : VerifyFn → SignatureToVerify → Bool
is_known G w = G w.suite w.key w.content w.signature

-- `verify_line G w` is the line of a signature, `verify` and the line of `signatures`, unless `G` accepts it.
abbrev pub verify_line : VerifyFn → SignatureToVerify → List ℕ
verify_line G w = if is_known G w then [] else codes "verify " ++ signature_line w

-- `verify_lines G needed` is the lines of the signatures of a list that `G` does not accept.
abbrev pub verify_lines : VerifyFn → List SignatureToVerify → List ℕ
verify_lines G [] = []
verify_lines G (w ∷ needed) = verify_line G w ++ verify_lines G needed

-- `unknown_one G w` is 0 if `G` accepts the signature, else 1.
abbrev pub unknown_one : VerifyFn → SignatureToVerify → ℕ
unknown_one G w = if is_known G w then 0 else 1

-- `unknown_count G needed` is how many signatures of a list `G` does not accept.
abbrev pub unknown_count : VerifyFn → List SignatureToVerify → ℕ
unknown_count G [] = 0
unknown_count G (w ∷ needed) = unknown_one G w + unknown_count G needed

-- `query_count_line n` is the line with this number.
abbrev pub query_count_line : ℕ → List ℕ
query_count_line n = codes "queried " ++ (decimal n ++ codes "\n")

-- `query_text G needed` is the lines of the signatures that `G` does not accept, and a last one with their number.
abbrev pub query_text : VerifyFn → List SignatureToVerify → List ℕ
query_text G needed = verify_lines G needed ++ query_count_line (unknown_count G needed)

-- `message_query G needed` is the answer to a query. Bytes that are no message have no signature.
abbrev pub message_query : VerifyFn → Option (List SignatureToVerify) → List ℕ
message_query G None = query_text G []
message_query G (Some needed) = query_text G needed

-- `ready_line s` is the line of a follower that has started or resumed: its epoch, its number of members, and its tree hash
-- (RFC 9420, 8.1).
abbrev pub ready_line : State → List ℕ
ready_line s =
    codes "ready epoch " ++ (decimal s.context.epoch
    ++ (codes " members " ++ (decimal (member_count s.tree)
    ++ (codes " tree " ++ (hex_text s.context.tree_hash ++ codes "\n")))))

-- `refusal_name e` is the name of a refusal, and for 25 also that of the fault of the leaf node (docs/FORMATS.md).
abbrev pub refusal_name : Refusal → List ℕ
refusal_name (Member fault) = codes "Member " ++ member_fault_text fault
refusal_name e = name_of e

-- `message_answer_line answer s` is the line of a processed message: the reference of a proposal (RFC 9420, 5.2); of a
-- commit the epoch that it begins, the tree hash and the confirmed transcript hash of that epoch (8.1), and whether the
-- group is over; or the number and the name of the refusal, and for 25 those of the fault of the leaf node.
abbrev pub message_answer_line : Result Taken Refusal → State → List ℕ
message_answer_line (Ok (Proposal reference)) s = codes "accepted proposal " ++ (hex_text reference ++ codes "\n")
message_answer_line (Ok (Commit epoch)) s =
    codes "accepted commit " ++ (decimal epoch
    ++ (codes " " ++ (hex_text s.context.tree_hash
    ++ (codes " " ++ (hex_text s.context.confirmed
    ++ (ended_text s.ended ++ codes "\n"))))))
message_answer_line (Err e) s = codes "refused " ++ (decimal (number_of e) ++ (codes " " ++ (refusal_name e ++ codes "\n")))

-- `stored_line bytes` is the line of a state that has this file.
abbrev pub stored_line : List ℕ → List ℕ
stored_line bytes = codes "state " ++ (hex_text bytes ++ codes "\n")

-- `no_file_line` is the line of a state that has no file.
abbrev pub no_file_line : List ℕ
no_file_line = codes "state TooLong\n"

-- `broken_line` is the line of a record that is none, or has no answer in the phase.
abbrev pub broken_line : List ℕ
broken_line = codes "broken\n"

-- ---- answers

-- `Goes text phase`: this text is written, and the gate goes on in the phase. `Ends text`: this text is written, and
-- the gate ends with the verdict No.
pub data Outcome : Type 0 where
  Goes : List ℕ → Phase → Outcome
  Ends : List ℕ → Outcome

-- `Begins i time G outcome`: a follower starts or resumes from the inputs, and the gate goes on with it; or none does, and
-- the gate ends with the line of `validate`.
abbrev pub Begins : Inputs → Option ℕ → VerifyFn → Outcome → Type 0
Begins i time G outcome =
    ((s : State) × IsFirstState G i s × (outcome ≡ Goes (ready_line s) (Following time G s)))
    ⊎ ((finding : Finding) × Refuses G i finding × (outcome ≡ Ends (finding_line finding)))

-- `Queries time G s message outcome`: the signatures of the message that `G` does not accept are listed. Nothing changes.
abbrev pub Queries : Option ℕ → VerifyFn → State → List ℕ → Outcome → Type 0
Queries time G s message outcome =
    (needed : Option (List SignatureToVerify)) × HasSignatures s message needed
    × (outcome ≡ Goes (message_query G needed) (Following time G s))

-- `Processes time G s message outcome`: the follower processes the message, at the time.
abbrev pub Processes : Option ℕ → VerifyFn → State → List ℕ → Outcome → Type 0
Processes time G s message outcome =
    (answer : Result Taken Refusal) × (new : State) × IsAnswerAt time G s message answer new
    × (outcome ≡ Goes (message_answer_line answer new) (Following time G new))

-- `StoresState time G s outcome`: the file of the state is written, or that it has none. Nothing changes.
abbrev pub StoresState : Option ℕ → VerifyFn → State → Outcome → Type 0
StoresState time G s outcome =
    ((bytes : List ℕ) × EncodesState s bytes × (outcome ≡ Goes (stored_line bytes) (Following time G s)))
    ⊎ (HasNoFile s × (outcome ≡ Goes no_file_line (Following time G s)))

-- `Responds phase request rest outcome`: the outcome of a request in a phase. `rest` is the record's body after its
-- letter.
abbrev pub Responds : Phase → Option Request → List ℕ → Outcome → Type 0
Responds (Opening i time G) (Some Learn) rest outcome = outcome ≡ Goes [] (Opening i time (having_learnt G rest))
Responds (Opening i time G) (Some (Time seconds)) rest outcome = outcome ≡ Goes [] (Opening i (Some seconds) G)
Responds (Opening i time G) (Some Begin) rest outcome = Begins i time G outcome
Responds (Following time G s) (Some Learn) rest outcome = outcome ≡ Goes [] (Following time (having_learnt G rest) s)
Responds (Following time G s) (Some (Time seconds)) rest outcome = outcome ≡ Goes [] (Following (Some seconds) G s)
Responds (Following time G s) (Some Query) rest outcome = Queries time G s rest outcome
Responds (Following time G s) (Some Process) rest outcome = Processes time G s rest outcome
Responds (Following time G s) (Some Store) rest outcome = StoresState time G s outcome
Responds _ _ rest outcome = outcome ≡ Ends broken_line

-- `Answers phase body outcome`: the outcome of a record with this body in a phase.
abbrev pub Answers : Phase → List ℕ → Outcome → Type 0
Answers phase body outcome = Responds phase (request_of body) (drop 1 body) outcome
