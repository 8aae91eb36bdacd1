-- What the calls that validate a tree, start a follower and resume one return. `G` accepts the signatures with a receipt;
-- `i` is what a group is followed from; `old` and `new` are what a buffer holds before and after. Used by contracts.
use Rattle.std.specs.Prelude.{ℕ, ◌≡◌, ◌≢◌, List, [], ◌∷◌, Option, Some, None}
use Rattle.mls_check.specs.Signatures.{VerifyFn}
use Rattle.mls_msgs.specs.declared.profile.Profile.{Profile}
use Rattle.mls_msgs.specs.declared.rules.Rules.{Rules}
use Rattle.mls_signatures.specs.declared.signature_to_verify.SignatureToVerify.{SignatureToVerify}
use Rattle.mls_follow.specs.CoveredLogs.{all_good}
use Rattle.mls_follow.specs.State.{State}
use Rattle.mls_start.specs.Inputs.{Inputs, OfState}
use Rattle.mls_start.specs.StartFindings.{IsFirstState, Declines}
use Rattle.mls_start.specs.StartSignatures.{StartsWith}
use Rattle.mls_start.specs.TreeFinding.{IsTreeFinding}
use Rattle.mls_start.specs.declared.finding.Finding.{Finding}
use Rattle.mls_start.specs.declared.finding.Finding.TheVariants as findings
use Rattle.mls_c.specs.declared.group_follower.GroupFollower.{GroupFollower}
use Rattle.mls_c.specs.declared.input_verdict.InputVerdict.{InputVerdict}
use Rattle.mls_c.specs.Buffers.{IsPut}
use Rattle.mls_c.specs.Followers.{state_in, meaning_in}
use Rattle.mls_c.specs.Numbers.{verdict_of, plain_verdict, out_of_memory, other_profile}
use Rattle.mls_c.specs.Queries.{query_records}

-- `passed bytes` is the bytes that a caller passes, or `None` if there are none. No ratchet_tree is encoded by no bytes.
abbrev pub passed : List ℕ → Option (List ℕ)
passed [] = None
passed (b ∷ bytes) = Some (b ∷ bytes)

-- `RunsOut verdict`: an allocation failed.
abbrev pub RunsOut : InputVerdict → Type 0
RunsOut v = v ≡ plain_verdict out_of_memory

-- ---- a tree

-- `PutsFinding finding old new needed v`: the tree hash of a valid tree was put into the buffer; else the verdict is that of
-- the finding.
abbrev pub PutsFinding : Finding → List ℕ → List ℕ → ℕ → InputVerdict → Type 0
PutsFinding (findings.TreeValid tree_hash) old new needed v =
    IsPut tree_hash old new needed v.number × (v ≡ plain_verdict v.number)
PutsFinding finding old new needed v = (v ≡ verdict_of finding) × (new ≡ old) × (needed ≡ 0)

-- `PutsTreeFinding asked G context tree old new needed v`: the verdict is that of what is found of a GroupContext and its
-- tree by these strict rules (`mls_start`). If the tree is valid, its tree hash was put into the buffer.
pub data PutsTreeFinding (asked : Rules) (G : VerifyFn) (context tree old new : List ℕ) (needed : ℕ) (v : InputVerdict)
    : Type 0 where
  runs_out : RunsOut v → new ≡ old → needed ≡ 0 → PutsTreeFinding asked G context tree old new needed v
  finds : (finding : Finding) → IsTreeFinding asked G context tree finding → PutsFinding finding old new needed v
      → PutsTreeFinding asked G context tree old new needed v

-- ---- a start or a resumption

-- `RefusesStart G i v`: no follower starts or resumes, by these signatures, and the verdict is that of the finding.
pub record RefusesStart (G : VerifyFn) (i : Inputs) (v : InputVerdict) : Type 0 where
  pub finding : Finding
  pub declines : Declines G i finding
  pub verdict_is : v ≡ verdict_of finding

-- `ListsStart G i records`: a follower starts or resumes if every signature is good, and these are the records of the
-- signatures of the start or the resumption that `G` does not accept.
pub record ListsStart (G : VerifyFn) (i : Inputs) (records : List ℕ) : Type 0 where
  pub state : State
  pub signatures : List SignatureToVerify
  pub starts : StartsWith i state signatures
  pub records_are : records ≡ query_records G signatures

-- `QueriesStart G i old new needed v`: the records of the signatures of the start or the resumption that `G` does not accept
-- were put into the buffer; or no follower starts or resumes though every signature is good.
pub data QueriesStart (G : VerifyFn) (i : Inputs) (old new : List ℕ) (needed : ℕ) (v : InputVerdict) : Type 0 where
  runs_out : RunsOut v → new ≡ old → needed ≡ 0 → QueriesStart G i old new needed v
  refuses : RefusesStart all_good i v → new ≡ old → needed ≡ 0 → QueriesStart G i old new needed v
  lists : (records : List ℕ) (number : ℕ) → ListsStart G i records → IsPut records old new needed number
      → v ≡ plain_verdict number → QueriesStart G i old new needed v

-- `Starts profile G i held new v`: a follower with this profile starts or resumes, and takes the place of what the handle
-- held; or none does, or a state is of another profile, and the handle is as it was.
pub data Starts (profile : Profile) (G : VerifyFn) (i : Inputs) (held new : Option GroupFollower) (v : InputVerdict)
    : Type 0 where
  runs_out : RunsOut v → new ≡ held → Starts profile G i held new v
  refuses : RefusesStart G i v → new ≡ held → Starts profile G i held new v
  differs : (asked : Rules) (bytes : List ℕ) (s : State) → i ≡ OfState asked bytes → IsFirstState G i s → s.profile ≢ profile
      → v ≡ plain_verdict other_profile → new ≡ held → Starts profile G i held new v
  starts : (f : GroupFollower) → new ≡ Some f → IsFirstState G i (state_in f) → (state_in f).profile ≡ profile
      → meaning_in f ≡ G → v ≡ plain_verdict 0 → Starts profile G i held new v
