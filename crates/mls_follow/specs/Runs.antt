-- Runs of a follower: messages taken one after the other (own rule). `s` and `new` are the states before and after, G
-- is the verification function of the checker. Used by contracts.
use Rattle.std.specs.Prelude.{◌≡◌, ◌≢◌, ℕ, List, [], ◌∷◌, All, IsSome, Option, Result, Ok, Err}
use Rattle.mls_tree.specs.RatchetTree.{HasShape, RatchetTree}
use Rattle.mls_tree.specs.TreeHash.{tree_hash}
use Rattle.mls_hash.specs.SuiteHash.{hash_of}
use Rattle.mls_msgs.specs.Layout.{proposal}
use Rattle.mls_msgs.specs.declared.group_info.GroupInfo.{GroupInfo}
use Rattle.mls_msgs.specs.declared.profile.Profile.{Profile}
use Rattle.mls_check.specs.Signatures.{VerifyFn}
use Rattle.mls_nodes.specs.declared.required_capabilities.RequiredCapabilities.{RequiredCapabilities}
use Rattle.mls_nodes.specs.Requirements.{Requires}
use Rattle.mls_apply.specs.declared.refusal.Refusal.{Refusal}
use Rattle.mls_apply.specs.declared.refusal.Refusal.TheVariants.{OutOfMemory}
use Rattle.mls_follow.specs.State.{State}
use Rattle.mls_follow.specs.NextState.{Transition}
use Rattle.mls_follow.specs.Acceptance.{IsAcceptable, IsNext, IsFirstRefusal}
use Rattle.mls_follow.specs.Start.{IsStart}
use Rattle.mls_follow.specs.declared.taken.Taken.{Taken}
use Rattle.mls_msgs.specs.declared.rules.Rules.{Rules}

-- `IsTransition G s bytes result new`: `take` may return `result` and leave the state `new`. It accepts only what is
-- acceptable, and moves to the next state. It refuses only for the first rule that fails, or if it runs out of memory,
-- and leaves the state unchanged.
abbrev pub IsTransition : VerifyFn → State → List ℕ → Result Taken Refusal → State → Type 0
IsTransition G s bytes (Ok taken) new =
    IsAcceptable G s bytes × IsNext s bytes (record { taken = taken; state = new })
IsTransition G s bytes (Err e) new = (new ≡ s) × (e ≢ OutOfMemory → IsFirstRefusal G s bytes e)

-- A message that was passed to a follower, and its result.
pub record Call : Type 0 where
  pub bytes : List ℕ
  pub answer : Result Taken Refusal

-- `IsRun G s calls new`: calls one after the other lead from `s` to `new`.
abbrev pub IsRun : VerifyFn → State → List Call → State → Type 0
IsRun G s [] new = new ≡ s
IsRun G s (call ∷ calls) new =
    (mid : State) × IsTransition G s call.bytes call.answer mid × IsRun G mid calls new

-- `accepted_before bytes result rest` is `rest` with the message in front, if it was accepted.
abbrev pub accepted_before : List ℕ → Result Taken Refusal → List (List ℕ) → List (List ℕ)
accepted_before bytes (Ok _) rest = bytes ∷ rest
accepted_before bytes (Err _) rest = rest

-- `accepted calls` is the accepted messages of a run.
abbrev pub accepted : List Call → List (List ℕ)
accepted [] = []
accepted (call ∷ calls) = accepted_before call.bytes call.answer (accepted calls)

-- `IsFold s messages new`: the messages, each taken to the next state, lead from `s` to `new`.
abbrev pub IsFold : State → List (List ℕ) → State → Type 0
IsFold s [] new = new ≡ s
IsFold s (bytes ∷ rest) new = (step : Transition) × IsNext s bytes step × IsFold step.state rest new

-- After any run the state is the fold over the accepted messages.
abbrev pub RunsAreFolds : Type 0
RunsAreFolds =
    (G : VerifyFn) (s : State) (calls : List Call) (new : State) → IsRun G s calls new
    → IsFold s (accepted calls) new

-- `IsAnswer G s bytes answer new`: `take` may return `answer` and leave the state `new`, and the answer is not out of
-- memory.
pub record IsAnswer
    (G : VerifyFn) (s : State) (bytes : List ℕ) (answer : Result Taken Refusal) (new : State)
    : Type 0 where
  pub takes : IsTransition G s bytes answer new
  pub memory : answer ≡ Err OutOfMemory → ⊥

-- `HasAnswer G s bytes`: there is such an answer.
abbrev pub HasAnswer : VerifyFn → State → List ℕ → Type 0
HasAnswer G s bytes =
    (answer : Result Taken Refusal) × (new : State) × IsAnswer G s bytes answer new

-- There is at most one such answer, with one state after it.
abbrev pub AnswerIsUnique : Type 0
AnswerIsUnique =
    (G : VerifyFn) (s : State) (bytes : List ℕ) (a b : Result Taken Refusal) (x y : State)
    → IsAnswer G s bytes a x → IsAnswer G s bytes b y → (a ≡ b) × (x ≡ y)

-- `IsWellFormed s`: the tree has the shape of a tree, and what the state holds has an encoding. This holds when a
-- follower starts, and after any run.
pub record IsWellFormed (s : State) : Type 0 where
  pub shape : HasShape s.tree
  pub tree : IsSome (tree_hash (hash_of s.context.cipher_suite) 0 s.tree)
  pub known : All (λ k. IsSome (proposal k.proposal)) s.known

-- In a well-formed state whose required capabilities can be read, there is such an answer to any bytes.
abbrev pub AnswerExists : Type 0
AnswerExists =
    (G : VerifyFn) (s : State) (required : RequiredCapabilities) (bytes : List ℕ) → IsWellFormed s
    → Requires s.context required → HasAnswer G s bytes

-- After any run from a start, there is such an answer to any bytes.
abbrev pub RunsAreAnswered : Type 0
RunsAreAnswered =
    (asked : Rules) (profile : Profile) (G : VerifyFn) (info : GroupInfo) (supplied : Option RatchetTree) (first last : State)
    (calls : List Call) (bytes : List ℕ) → IsStart asked profile G info supplied first → IsRun G first calls last
    → HasAnswer G last bytes
