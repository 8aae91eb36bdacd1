-- Runs in which the checker learns signatures: between two messages it may come to accept more of them (own rule). `G`
-- and `K` are verification functions, `s` and `new` the states before and after. Used by contracts.
use Rattle.std.specs.Prelude.{◌≡◌, ℕ, List, [], ◌∷◌, map, is_ok, All, true, Option, Err}
use Rattle.mls_tree.specs.RatchetTree.{RatchetTree}
use Rattle.mls_check.specs.Signatures.{VerifyFn, Extends}
use Rattle.mls_msgs.specs.declared.group_info.GroupInfo.{GroupInfo}
use Rattle.mls_msgs.specs.declared.profile.Profile.{Profile}
use Rattle.mls_apply.specs.declared.refusal.Refusal.TheVariants.{OutOfMemory}
use Rattle.mls_follow.specs.State.{State}
use Rattle.mls_follow.specs.NextState.{Transition}
use Rattle.mls_follow.specs.Acceptance.{IsAcceptable, IsNext}
use Rattle.mls_follow.specs.Start.{IsStart}
use Rattle.mls_follow.specs.Runs.{Call, IsTransition, IsRun, IsFold, HasAnswer, accepted}
use Rattle.mls_follow.specs.Validity.{IsValidState}
use Rattle.mls_follow.specs.ProposalSignatures.{AreKnownSigned}
use Rattle.mls_follow.specs.StoredRuns.{IsInitialState}
use Rattle.mls_msgs.specs.declared.rules.Rules.{Rules}

-- ---- definitions

-- An event of a run: a message that was passed to the follower, with its answer; or that the checker answers by another
-- `VerifyFn` from then on.
pub data Event : Type 0 where
  Received : Call → Event
  Learned : VerifyFn → Event

-- `IsRisingRun G s events new`: the events lead from `s` to `new`, and the verification function is `G` at first. Each
-- message is processed by the current one. Each one that the checker learns extends the one before it.
abbrev pub IsRisingRun : VerifyFn → State → List Event → State → Type 0
IsRisingRun G s [] new = new ≡ s
IsRisingRun G s (Received call ∷ events) new =
    (mid : State) × IsTransition G s call.bytes call.answer mid × IsRisingRun G mid events new
IsRisingRun G s (Learned K ∷ events) new = Extends G K × IsRisingRun K s events new

-- `last_meaning G events` is the verification function after the events, if it is `G` before them.
abbrev pub last_meaning : VerifyFn → List Event → VerifyFn
last_meaning G [] = G
last_meaning G (Received _ ∷ events) = last_meaning G events
last_meaning G (Learned K ∷ events) = last_meaning K events

-- `received events` are the messages of a run, with their answers
abbrev pub received : List Event → List Call
received [] = []
received (Received call ∷ events) = call ∷ received events
received (Learned _ ∷ events) = received events

-- `AcceptsAll G s messages new`: each message is acceptable under `G` in the state to which those before it lead, and
-- all of them lead from `s` to `new`.
abbrev pub AcceptsAll : VerifyFn → State → List (List ℕ) → State → Type 0
AcceptsAll G s [] new = new ≡ s
AcceptsAll G s (bytes ∷ messages) new =
    (step : Transition) × IsAcceptable G s bytes × IsNext s bytes step × AcceptsAll G step.state messages new

-- `IsAccepted call`: the follower accepted the message.
abbrev pub IsAccepted : Call → Type 0
IsAccepted call = is_ok call.answer ≡ true

-- `HasMemory call`: the follower did not run out of memory on the message.
abbrev pub HasMemory : Call → Type 0
HasMemory call = call.answer ≡ Err OutOfMemory → ⊥

-- ---- theorems: what a checker that accepts more preserves

-- What is acceptable remains acceptable if more signatures are good. The state after it is the same, since `IsNext`
-- names no checker. A refusal need not remain.
abbrev pub AcceptancesStay : Type 0
AcceptancesStay =
    (G K : VerifyFn) (s : State) (bytes : List ℕ) → Extends G K → IsAcceptable G s bytes → IsAcceptable K s bytes

-- A follower that starts under a checker starts in the same state under each checker that extends it.
abbrev pub StartsStay : Type 0
StartsStay =
    (asked : Rules) (profile : Profile) (G K : VerifyFn) (info : GroupInfo) (supplied : Option RatchetTree) (s : State) → Extends G K
    → IsStart asked profile G info supplied s → IsStart asked profile K info supplied s

-- The last verification function of a rising run extends the first one.
abbrev pub RisingRunsExtend : Type 0
RisingRunsExtend =
    (G : VerifyFn) (s : State) (events : List Event) (new : State) → IsRisingRun G s events new
    → Extends G (last_meaning G events)

-- ---- theorems: rising runs

-- After a rising run the state is the fold of the next states over the accepted messages.
abbrev pub RisingRunsAreFolds : Type 0
RisingRunsAreFolds =
    (G : VerifyFn) (s : State) (events : List Event) (new : State) → IsRisingRun G s events new
    → IsFold s (accepted (received events)) new

-- Each accepted message of a rising run is also acceptable under the last verification function, in the state in which
-- it was accepted.
abbrev pub RisingRunsAreAccepted : Type 0
RisingRunsAreAccepted =
    (G : VerifyFn) (s : State) (events : List Event) (new : State) → IsRisingRun G s events new
    → AcceptsAll (last_meaning G events) s (accepted (received events)) new

-- Messages that are all acceptable make a run in which each is accepted.
abbrev pub AcceptedMakeRuns : Type 0
AcceptedMakeRuns =
    (G : VerifyFn) (s : State) (messages : List (List ℕ)) (new : State) → AcceptsAll G s messages new
    → (calls : List Call) × (map (λ call. call.bytes) calls ≡ messages) × All IsAccepted calls × IsRun G s calls new

-- Recovery: a follower with the last verification function from the start accepts each accepted message of a rising
-- run, in order and without the refused ones, and reaches the same state, unless it runs out of memory.
abbrev pub RecoveriesAccept : Type 0
RecoveriesAccept =
    (G : VerifyFn) (s : State) (events : List Event) (new other : State) (calls : List Call)
    → IsRisingRun G s events new → map (λ call. call.bytes) calls ≡ accepted (received events)
    → All HasMemory calls → IsRun (last_meaning G events) s calls other
    → All IsAccepted calls × (other ≡ new)

-- ---- theorems: what a follower may rely on after a rising run

-- A rising run leads from a valid state to one that is valid under the last verification function.
abbrev pub RisingRunsKeepValidity : Type 0
RisingRunsKeepValidity =
    (G : VerifyFn) (s : State) (events : List Event) (new : State) → IsValidState G s
    → IsRisingRun G s events new → IsValidState (last_meaning G events) new

-- The state after a rising run from a start is valid under the last verification function.
abbrev pub RisingFollowersAreValid : Type 0
RisingFollowersAreValid =
    (asked : Rules) (profile : Profile) (G : VerifyFn) (info : GroupInfo) (supplied : Option RatchetTree) (first last : State)
    (events : List Event)
    → IsStart asked profile G info supplied first → IsRisingRun G first events last
    → IsValidState (last_meaning G events) last

-- Each pending proposal after a rising run from a start or a resumption is signed, under the last verification function.
abbrev pub RisingFollowersKnowSigned : Type 0
RisingFollowersKnowSigned =
    (G : VerifyFn) (first last : State) (events : List Event) → IsInitialState G first → IsRisingRun G first events last
    → AreKnownSigned (last_meaning G events) last

-- After a rising run from a start there is an answer to any bytes, under the last verification function.
abbrev pub RisingRunsAreAnswered : Type 0
RisingRunsAreAnswered =
    (asked : Rules) (profile : Profile) (G : VerifyFn) (info : GroupInfo) (supplied : Option RatchetTree) (first last : State)
    (events : List Event)
    (bytes : List ℕ) → IsStart asked profile G info supplied first → IsRisingRun G first events last
    → HasAnswer (last_meaning G events) last bytes
