-- Strictness is kept (own rule): the context, the tree and the pending proposals of a follower meet its strict rules after
-- every message. Used by contracts.
use Rattle.std.specs.Prelude.{◌≡◌, List, Option}
use Rattle.mls_tree.specs.RatchetTree.{RatchetTree}
use Rattle.mls_check.specs.Signatures.{VerifyFn}
use Rattle.mls_msgs.specs.declared.group_info.GroupInfo.{GroupInfo}
use Rattle.mls_msgs.specs.declared.profile.Profile.{Profile}
use Rattle.mls_msgs.specs.declared.rules.Rules.{Rules}
use Rattle.mls_strict.specs.StrictTrees.{IsStrict}
use Rattle.mls_follow.specs.AddedRules.{AreKnownStrict, HasAddedRules}
use Rattle.mls_follow.specs.Runs.{Call, IsRun}
use Rattle.mls_follow.specs.Start.{IsStart}
use Rattle.mls_follow.specs.State.{State}

-- `IsStrictState s`: the context and the tree meet the strict rules of the state, and so does each pending proposal by itself.
pub record IsStrictState (s : State) : Type 0 where
  pub group : IsStrict s.rules s.context s.tree
  pub known : AreKnownStrict s.rules s.context s.known

-- ---- theorems

-- A follower starts in a strict state.
abbrev pub StartsAreStrict : Type 0
StartsAreStrict =
    (asked : Rules) (profile : Profile) (G : VerifyFn) (info : GroupInfo) (supplied : Option RatchetTree) (s : State)
    → IsStart asked profile G info supplied s → IsStrictState s

-- Every run keeps it strict.
abbrev pub RunsKeepStrictness : Type 0
RunsKeepStrictness = (G : VerifyFn) (s new : State) (calls : List Call) → IsStrictState s → IsRun G s calls new → IsStrictState new

-- No run changes the set of strict rules.
abbrev pub RunsKeepRules : Type 0
RunsKeepRules = (G : VerifyFn) (s new : State) (calls : List Call) → IsRun G s calls new → new.rules ≡ s.rules

-- After any run from a start by a set of strict rules, the context, the tree and the pending proposals meet them.
abbrev pub FollowersAreStrict : Type 0
FollowersAreStrict =
    (asked : Rules) (profile : Profile) (G : VerifyFn) (info : GroupInfo) (supplied : Option RatchetTree) (first last : State)
    (calls : List Call) → IsStart asked profile G info supplied first → IsRun G first calls last
    → (last.rules ≡ asked) × IsStrictState last

-- A strict state to which rules are added is strict.
abbrev pub AddedRulesKeepStrictness : Type 0
AddedRulesKeepStrictness = (asked : Rules) (s new : State) → IsStrictState s → HasAddedRules asked s new → IsStrictState new
