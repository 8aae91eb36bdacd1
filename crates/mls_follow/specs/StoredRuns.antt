-- Theorems on stored states: the file of a state, and runs from a state in which a follower resumes. Used by contracts.
use Rattle.std.specs.Prelude.{◌≡◌, ◌≢◌, ◌⊎◌, ℕ, List, [], length, Bool, true, false, Option, None}
use Rattle.mls_tree.specs.RatchetTree.{RatchetTree}
use Rattle.mls_hash.specs.SuiteHash.{hash_length}
use Rattle.mls_check.specs.GroupTree.{IsSupportedContext}
use Rattle.mls_check.specs.Signatures.{VerifyFn, Extends}
use Rattle.mls_msgs.specs.declared.group_info.GroupInfo.{GroupInfo}
use Rattle.mls_msgs.specs.Rules.{plain_rules}
use Rattle.mls_msgs.specs.declared.profile.Profile.{Profile}
use Rattle.mls_signatures.specs.Agreement.{AgreeOn}
use Rattle.mls_signatures.specs.SignaturesToVerify.{resumption_signatures}
use Rattle.mls_follow.specs.State.{State}
use Rattle.mls_follow.specs.Start.{IsStart}
use Rattle.mls_follow.specs.Runs.{Call, IsRun, HasAnswer}
use Rattle.mls_follow.specs.Validity.{IsValidState}
use Rattle.mls_follow.specs.StoredState.{EncodesState, HasNoFile, pending_contents}
use Rattle.mls_follow.specs.StrictnessKept.{IsStrictState}
use Rattle.mls_follow.specs.Resumption.{HoldEntries, IsResumed, IsResumeFault, added_misfit}
use Rattle.mls_follow.specs.declared.resume_fault.ResumeFault.{ResumeFault}
use Rattle.mls_follow.specs.declared.resume_fault.ResumeFault.TheVariants.{Unreadable, ChecksumDiffers, UnsupportedVersion, UnsupportedSuite, RequirementsUnreadable, Tree, Member, InterimLength, KnownInvalid, AddedInvalid, Strict, KnownStrict, OutOfMemory}
use Rattle.mls_msgs.specs.declared.rules.Rules.{Rules}

-- `bare_state s` is the state `s` without its strict rules, and without the references of those that the last commit added.
abbrev pub bare_state : State → State
bare_state s = record s { rules = plain_rules; added = None }

-- `IsResumable G s`: the state satisfies the conditions of a resumption: the context is supported, the tree and its leaf
-- nodes are valid, the interim transcript hash has the length of the suite's hashes, each pending proposal is acceptable after
-- those before it, the references of those that the last commit added fit, and the strict rules are met.
pub record IsResumable (G : VerifyFn) (s : State) : Type 0 where
  pub supported : IsSupportedContext s.context
  pub valid : IsValidState G s
  pub hashed : length s.interim ≡ hash_length s.context.cipher_suite
  pub held : HoldEntries G (record (bare_state s) { known = [] }) (pending_contents s) (bare_state s)
  pub added_fit : added_misfit s.context.cipher_suite s.tree s.added ≡ None
  pub strict : IsStrictState s

-- `IsInitialState G s`: a follower starts from a GroupInfo in the state, or resumes from a file in it.
abbrev pub IsInitialState : VerifyFn → State → Type 0
IsInitialState G s =
    ((asked : Rules) × (profile : Profile) × (info : GroupInfo) × (supplied : Option RatchetTree) × IsStart asked profile G info supplied s)
    ⊎ ((bytes : List ℕ) × IsResumed G bytes s)

-- ---- resumptions are determined

-- From bytes a follower resumes in at most one state.
abbrev pub ResumptionIsUnique : Type 0
ResumptionIsUnique = (G : VerifyFn) (bytes : List ℕ) (s t : State) → IsResumed G bytes s → IsResumed G bytes t → s ≡ t

-- If a follower resumes there is no fault.
abbrev pub ResumptionHasNoFault : Type 0
ResumptionHasNoFault =
    (G : VerifyFn) (bytes : List ℕ) (s : State) (fault : ResumeFault) → IsResumed G bytes s
    → fault ≢ OutOfMemory → IsResumeFault G bytes fault → ⊥

-- `is_unreadable fault`: the fault is `Unreadable`, with any cause.
abbrev pub is_unreadable : ResumeFault → Bool
is_unreadable (Unreadable cause) = true
is_unreadable ChecksumDiffers = false
is_unreadable UnsupportedVersion = false
is_unreadable UnsupportedSuite = false
is_unreadable RequirementsUnreadable = false
is_unreadable (Tree fault) = false
is_unreadable (Member fault) = false
is_unreadable InterimLength = false
is_unreadable (KnownInvalid n) = false
is_unreadable (AddedInvalid n) = false
is_unreadable (Strict fault) = false
is_unreadable (KnownStrict n) = false
is_unreadable OutOfMemory = false

-- There is at most one fault, except for the cause that `Unreadable` names.
abbrev pub ResumeFaultIsUnique : Type 0
ResumeFaultIsUnique =
    (G : VerifyFn) (bytes : List ℕ) (fault other : ResumeFault) → fault ≢ OutOfMemory → other ≢ OutOfMemory
    → IsResumeFault G bytes fault → IsResumeFault G bytes other
    → (fault ≡ other) ⊎ ((is_unreadable fault ≡ true) × (is_unreadable other ≡ true))

-- From any bytes a follower resumes, or there is a fault.
abbrev pub ResumptionOrFault : Type 0
ResumptionOrFault =
    (G : VerifyFn) (bytes : List ℕ)
    → ((s : State) × IsResumed G bytes s)
    ⊎ ((fault : ResumeFault) × (fault ≢ OutOfMemory) × IsResumeFault G bytes fault)

-- The signatures of a state determine whether a follower resumes in it.
abbrev pub SignaturesDetermineResumption : Type 0
SignaturesDetermineResumption =
    (G K : VerifyFn) (bytes : List ℕ) (s : State)
    → AgreeOn G K (resumption_signatures s.context s.tree s.known) → IsResumed G bytes s → IsResumed K bytes s

-- ---- stored states

-- A state has a file, or no bytes are its file.
abbrev pub StoredFileOrNone : Type 0
StoredFileOrNone = (s : State) → ((bytes : List ℕ) × EncodesState s bytes) ⊎ HasNoFile s

-- A state has at most one file.
abbrev pub StoredFileIsUnique : Type 0
StoredFileIsUnique = (s : State) (a b : List ℕ) → EncodesState s a → EncodesState s b → a ≡ b

-- Bytes are the file of at most one state.
abbrev pub StoredStateIsUnique : Type 0
StoredStateIsUnique = (bytes : List ℕ) (s t : State) → EncodesState s bytes → EncodesState t bytes → s ≡ t

-- From the file of a state that satisfies the conditions a follower resumes in this state.
abbrev pub ResumableStatesResume : Type 0
ResumableStatesResume =
    (G : VerifyFn) (s : State) (bytes : List ℕ) → IsResumable G s → EncodesState s bytes → IsResumed G bytes s

-- After any run from a start or a resumption the state satisfies the conditions.
abbrev pub FollowersAreResumable : Type 0
FollowersAreResumable =
    (G : VerifyFn) (first last : State) (calls : List Call) → IsInitialState G first → IsRun G first calls last
    → IsResumable G last

-- So from the file of a follower's state a follower resumes in this state.
abbrev pub FollowersResume : Type 0
FollowersResume =
    (G : VerifyFn) (first last : State) (calls : List Call) (bytes : List ℕ) → IsInitialState G first
    → IsRun G first calls last → EncodesState last bytes → IsResumed G bytes last

-- If a checker comes to accept more signatures, the state satisfies the conditions by it too.
abbrev pub ResumableStays : Type 0
ResumableStays = (G K : VerifyFn) (s : State) → Extends G K → IsResumable G s → IsResumable K s

-- ---- runs from a resumption

-- A follower resumes in a valid state.
abbrev pub ResumptionsAreValid : Type 0
ResumptionsAreValid = (G : VerifyFn) (bytes : List ℕ) (s : State) → IsResumed G bytes s → IsValidState G s

-- After any run from a resumption the state is valid.
abbrev pub ResumedRunsAreValid : Type 0
ResumedRunsAreValid =
    (G : VerifyFn) (bytes : List ℕ) (first last : State) (calls : List Call) → IsResumed G bytes first
    → IsRun G first calls last → IsValidState G last

-- After any run from a resumption there is a result for any bytes, other than out of memory.
abbrev pub ResumedRunsAreAnswered : Type 0
ResumedRunsAreAnswered =
    (G : VerifyFn) (bytes more : List ℕ) (first last : State) (calls : List Call) → IsResumed G bytes first
    → IsRun G first calls last → HasAnswer G last more
