-- What follows from the bytes of a GroupInfo and a tree, or of the file of a state: a follower starts or resumes, or the
-- first cause for which none does. `tree_bytes` is `None` if no tree is passed. `G` is the verification function of a
-- checker. Used by contracts.
use Rattle.std.specs.Prelude.{List, ℕ, Bool, true, false, not, Option, Some, None, ◌≡◌, ◌≢◌}
use Rattle.mls_nodes.specs.declared.fault.NodeFault.TheVariants as nodes
use Rattle.mls_tree.specs.RatchetTree.{RatchetTree}
use Rattle.mls_tree.specs.TreeDecoding.{IsTreeOf, IsNoTree}
use Rattle.mls_tree.specs.Tree.{member_count}
use Rattle.mls_check.specs.Signatures.{VerifyFn}
use Rattle.mls_msgs.specs.declared.group_info.GroupInfo.{GroupInfo}
use Rattle.mls_msgs.specs.declared.message.Message.{Message}
use Rattle.mls_msgs.specs.declared.message.Message.TheVariants as messages
use Rattle.mls_msgs.specs.declared.profile.Profile.{Profile}
use Rattle.mls_msgs.specs.declared.rules.Rules.{Rules}
use Rattle.mls_follow.specs.Acceptance.{EncodesNoMessage}
use Rattle.mls_follow.specs.AddedRules.{HasAddedRules, IsStrictRefused}
use Rattle.mls_follow.specs.State.{State, EncodesMessage}
use Rattle.mls_follow.specs.Start.{IsStart, IsStartFault}
use Rattle.mls_follow.specs.Resumption.{IsResumed, IsResumeFault}
use Rattle.mls_follow.specs.StoredRuns.{is_unreadable}
use Rattle.mls_follow.specs.declared.added_rules.StrictRefused.TheVariants as stricts
use Rattle.mls_follow.specs.declared.resume_fault.ResumeFault.TheVariants as resumes
use Rattle.mls_follow.specs.declared.start_fault.StartFault.TheVariants as starts
use Rattle.mls_start.specs.Finding.{is_valid}
use Rattle.mls_start.specs.Inputs.{Inputs, OfInfo, OfState}
use Rattle.mls_start.specs.declared.finding.Finding.{Finding}
use Rattle.mls_start.specs.declared.finding.Finding.TheVariants.{InfoUnreadable, NotGroupInfo, TreeUnreadable, StartRefused, StateRefused, StateNotStrict, Starts}
use Rattle.mls_start.specs.declared.finding.Started.{Started}

-- ---- what is read of a GroupInfo and a tree

-- `IsInfo profile bytes info`: the bytes are the encoding of a message in the profile, with this GroupInfo (RFC 9420, 6 and
-- 12.4.3).
abbrev pub IsInfo : Profile → List ℕ → GroupInfo → Type 0
IsInfo profile bytes info = EncodesMessage profile (messages.GroupInfo info) bytes

-- `IsOtherMessage profile bytes`: the bytes are a message in the profile, without a GroupInfo.
abbrev pub IsOtherMessage : Profile → List ℕ → Type 0
IsOtherMessage profile bytes =
    (m : Message) × EncodesMessage profile m bytes × ((info : GroupInfo) → m ≢ messages.GroupInfo info)

-- `IsSupplied bytes supplied`: `supplied` is the tree of the bytes, or there are none and no tree is passed.
abbrev pub IsSupplied : Option (List ℕ) → Option RatchetTree → Type 0
IsSupplied None None = Unit {0}
IsSupplied (Some bytes) (Some t) = IsTreeOf bytes t
IsSupplied _ _ = ⊥

-- `IsSuppliedUnread bytes`: a tree is passed, and its bytes are no ratchet_tree (RFC 9420, 12.4.3.3).
abbrev pub IsSuppliedUnread : Option (List ℕ) → Type 0
IsSuppliedUnread None = ⊥
IsSuppliedUnread (Some bytes) = IsNoTree bytes

-- `IsReadAs profile info_bytes tree_bytes info supplied`: the GroupInfo can be read, and the tree if one is passed.
pub record IsReadAs (profile : Profile) (info_bytes : List ℕ) (tree_bytes : Option (List ℕ)) (info : GroupInfo)
    (supplied : Option RatchetTree) : Type 0 where
  pub is_info : IsInfo profile info_bytes info
  pub is_supplied : IsSupplied tree_bytes supplied

-- ---- a follower

-- `IsStarted asked profile G info_bytes tree_bytes s`: a follower with this profile, and with these strict rules, starts in
-- this state from the bytes of a GroupInfo, and of a tree if one is passed.
pub record IsStarted (asked : Rules) (profile : Profile) (G : VerifyFn) (info_bytes : List ℕ)
    (tree_bytes : Option (List ℕ)) (s : State) : Type 0 where
  pub info : GroupInfo
  pub supplied : Option RatchetTree
  pub is_read : IsReadAs profile info_bytes tree_bytes info supplied
  pub start : IsStart asked profile G info supplied s

-- `IsResumedWith asked G bytes s`: a follower resumes from the bytes, and with these strict rules added it is in the state `s`.
pub record IsResumedWith (asked : Rules) (G : VerifyFn) (bytes : List ℕ) (s : State) : Type 0 where
  pub resumed : State
  pub is_resumed : IsResumed G bytes resumed
  pub is_added : HasAddedRules asked resumed s

-- `IsFirstState G i s`: a follower starts from the inputs in the state `s` (RFC 9420, 12.4.3), or resumes in it.
abbrev pub IsFirstState : VerifyFn → Inputs → State → Type 0
IsFirstState G (OfInfo asked profile info_bytes tree_bytes) s = IsStarted asked profile G info_bytes tree_bytes s
IsFirstState G (OfState asked bytes) s = IsResumedWith asked G bytes s

-- `started_of s` is what is said of the state in which a follower starts or resumes.
abbrev pub started_of : State → Started
started_of s = record {
  epoch = s.context.epoch;
  members = member_count s.tree;
  tree_hash = s.context.tree_hash;
}

-- ---- what is found

-- `IsStartFinding asked profile G info_bytes tree_bytes finding`: the first finding that applies, or that a follower starts.
abbrev pub IsStartFinding : Rules → Profile → VerifyFn → List ℕ → Option (List ℕ) → Finding → Type 0
IsStartFinding asked profile G info_bytes tree_bytes (InfoUnreadable fault) = EncodesNoMessage profile info_bytes
IsStartFinding asked profile G info_bytes tree_bytes NotGroupInfo = IsOtherMessage profile info_bytes
IsStartFinding asked profile G info_bytes tree_bytes (TreeUnreadable fault) =
    (info : GroupInfo) × IsInfo profile info_bytes info × IsSuppliedUnread tree_bytes × (fault ≢ nodes.OutOfMemory)
IsStartFinding asked profile G info_bytes tree_bytes (StartRefused fault) =
    (info : GroupInfo) × (supplied : Option RatchetTree) × IsReadAs profile info_bytes tree_bytes info supplied
    × (fault ≢ starts.OutOfMemory) × IsStartFault asked G info supplied fault
IsStartFinding asked profile G info_bytes tree_bytes (Starts started) =
    (s : State) × IsStarted asked profile G info_bytes tree_bytes s × (started ≡ started_of s)
IsStartFinding asked profile G info_bytes tree_bytes _ = ⊥

-- `IsStateFinding asked G bytes finding`: the first condition of a resumption that fails (own rules;
-- `mls_follow/specs/Resumption`), or else why the strict rules cannot be added (`mls_follow/specs/AddedRules`), or that a
-- follower resumes.
abbrev pub IsStateFinding : Rules → VerifyFn → List ℕ → Finding → Type 0
IsStateFinding asked G bytes (StateRefused fault) = (fault ≢ resumes.OutOfMemory) × IsResumeFault G bytes fault
IsStateFinding asked G bytes (StateNotStrict refused) =
    (s : State) × IsResumed G bytes s × (refused ≢ stricts.OutOfMemory) × IsStrictRefused asked s refused
IsStateFinding asked G bytes (Starts started) = (s : State) × IsResumedWith asked G bytes s × (started ≡ started_of s)
IsStateFinding asked G bytes _ = ⊥

-- `IsFindingOf G i finding`: the first cause for which no follower starts or resumes from the inputs, or that one does.
abbrev pub IsFindingOf : VerifyFn → Inputs → Finding → Type 0
IsFindingOf G (OfInfo asked profile info_bytes tree_bytes) finding =
    IsStartFinding asked profile G info_bytes tree_bytes finding
IsFindingOf G (OfState asked bytes) finding = IsStateFinding asked G bytes finding

-- `Declines G i finding`: no follower starts or resumes from the inputs, for this finding.
pub record Declines (G : VerifyFn) (i : Inputs) (finding : Finding) : Type 0 where
  pub found : IsFindingOf G i finding
  pub not_valid : is_valid finding ≡ false

-- `is_refusal finding`: the inputs can be read, and no follower starts or resumes.
abbrev pub is_refusal : Finding → Bool
is_refusal (StartRefused fault) = true
is_refusal (StateRefused fault) = not (is_unreadable fault)
is_refusal (StateNotStrict refused) = true
is_refusal _ = false

-- `Refuses G i finding`: the inputs can be read, and no follower starts or resumes, for this finding.
pub record Refuses (G : VerifyFn) (i : Inputs) (finding : Finding) : Type 0 where
  pub found : IsFindingOf G i finding
  pub refuses : is_refusal finding ≡ true
