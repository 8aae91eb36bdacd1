-- What is found of some bytes exists, and is a function of the bytes and of the checker's verification function G; so is
-- the state in which a follower starts or resumes. Used by contracts.
use Rattle.std.specs.Prelude.{List, ℕ, true, ◌≡◌, ◌⊎◌}
use Rattle.mls_check.specs.Signatures.{VerifyFn}
use Rattle.mls_msgs.specs.Rules.{has_rule}
use Rattle.mls_msgs.specs.declared.rules.Rules.{Rules}
use Rattle.mls_follow.specs.State.{State}
use Rattle.mls_follow.specs.StoredRuns.{is_unreadable}
use Rattle.mls_follow.specs.StrictnessKept.{IsStrictState}
use Rattle.mls_follow.specs.Validity.{IsValidState}
use Rattle.mls_start.specs.Inputs.{Inputs, asked_by}
use Rattle.mls_start.specs.StartFindings.{IsFirstState, IsFindingOf, Declines}
use Rattle.mls_start.specs.TreeFinding.{IsTreeFinding}
use Rattle.mls_start.specs.declared.finding.Finding.{Finding}
use Rattle.mls_start.specs.declared.finding.Finding.TheVariants.{ContextUnreadable, InfoUnreadable, TreeUnreadable, StateRefused}

-- `AreAlike finding other`: the findings are equal, except for which fault is named of an input that cannot be read.
abbrev pub AreAlike : Finding → Finding → Type 0
AreAlike (ContextUnreadable fault) (ContextUnreadable other) = Unit {0}
AreAlike (InfoUnreadable fault) (InfoUnreadable other) = Unit {0}
AreAlike (TreeUnreadable fault) (TreeUnreadable other) = Unit {0}
AreAlike (StateRefused fault) (StateRefused other) =
    (fault ≡ other) ⊎ ((is_unreadable fault ≡ true) × (is_unreadable other ≡ true))
AreAlike finding other = finding ≡ other

-- ---- a context and a tree

-- Of the bytes of a context and of a tree one thing is found.
abbrev pub TreeFindingIsUnique : Type 0
TreeFindingIsUnique =
    (asked : Rules) (G : VerifyFn) (context_bytes tree_bytes : List ℕ) (finding other : Finding)
    → IsTreeFinding asked G context_bytes tree_bytes finding
    → IsTreeFinding asked G context_bytes tree_bytes other → AreAlike finding other

-- Something is found of the bytes of a context and of a tree.
abbrev pub TreeFindingExists : Type 0
TreeFindingExists =
    (asked : Rules) (G : VerifyFn) (context_bytes tree_bytes : List ℕ)
    → (finding : Finding) × IsTreeFinding asked G context_bytes tree_bytes finding

-- ---- what a group is followed from

-- Of the inputs one thing is found.
abbrev pub FindingIsUnique : Type 0
FindingIsUnique =
    (G : VerifyFn) (i : Inputs) (finding other : Finding) → IsFindingOf G i finding → IsFindingOf G i other
    → AreAlike finding other

-- Something is found of the inputs.
abbrev pub FindingExists : Type 0
FindingExists = (G : VerifyFn) (i : Inputs) → (finding : Finding) × IsFindingOf G i finding

-- From the inputs a follower starts or resumes in one state.
abbrev pub FirstStateIsUnique : Type 0
FirstStateIsUnique = (G : VerifyFn) (i : Inputs) (s other : State) → IsFirstState G i s → IsFirstState G i other → s ≡ other

-- A follower starts or resumes from the inputs, or there is a finding for which none does.
abbrev pub FirstStateOrFindingExists : Type 0
FirstStateOrFindingExists =
    (G : VerifyFn) (i : Inputs) → ((s : State) × IsFirstState G i s) ⊎ ((finding : Finding) × Declines G i finding)

-- The state in which a follower starts or resumes is valid: the tree is the valid one of the context, and its leaf nodes
-- are valid (RFC 9420, 7.3, 7.9.2 and 12.4.3.1).
abbrev pub FirstStatesAreValid : Type 0
FirstStatesAreValid = (G : VerifyFn) (i : Inputs) (s : State) → IsFirstState G i s → IsValidState G s

-- The state in which a follower starts or resumes has each strict rule that is asked. It is a strict state: its context, its
-- tree and its pending proposals meet its strict rules.
abbrev pub FirstStatesAreStrict : Type 0
FirstStatesAreStrict =
    (G : VerifyFn) (i : Inputs) (s : State) → IsFirstState G i s
    → ((n : ℕ) → has_rule (asked_by i) n ≡ true → has_rule s.rules n ≡ true) × IsStrictState s
