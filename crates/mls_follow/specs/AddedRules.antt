-- Adding strict rules to a state (own rule): only those are checked that the state lacks, and none is taken away. Used by
-- contracts.
use Rattle.std.specs.Prelude.{◌≡◌, ◌≢◌, ℕ, zero, suc, ◌&&◌, ◌||◌, not, List, [], ◌∷◌, None}
use Rattle.mls_nodes.specs.declared.context.GroupContext.{GroupContext}
use Rattle.mls_msgs.specs.Rules.{has_rule}
use Rattle.mls_msgs.specs.declared.rules.Rules.{Rules}
use Rattle.mls_strict.specs.ContentForms.{proposal_refusal}
use Rattle.mls_strict.specs.StrictTrees.{IsStrict, IsStrictFault}
use Rattle.mls_apply.specs.declared.list_item.KnownProposal.{KnownProposal}
use Rattle.mls_follow.specs.State.{State}
use Rattle.mls_follow.specs.declared.added_rules.StrictRefused.{StrictRefused}
use Rattle.mls_follow.specs.declared.added_rules.StrictRefused.TheVariants.{Group, Known, OutOfMemory}

-- `IsDifference asked has added`: `added` are the rules of `asked` that `has` lacks.
abbrev pub IsDifference : Rules → Rules → Rules → Type 0
IsDifference asked has added = (n : ℕ) → has_rule added n ≡ (has_rule asked n && not (has_rule has n))

-- `IsUnion asked has all`: `all` are the rules of `has` and of `asked`.
abbrev pub IsUnion : Rules → Rules → Rules → Type 0
IsUnion asked has all = (n : ℕ) → has_rule all n ≡ (has_rule has n || has_rule asked n)

-- `AreKnownStrict added context known`: each of the pending proposals meets the rules by itself.
abbrev pub AreKnownStrict : Rules → GroupContext → List KnownProposal → Type 0
AreKnownStrict added context [] = Unit {0}
AreKnownStrict added context (k ∷ known) =
    (proposal_refusal added context k.proposal ≡ None) × AreKnownStrict added context known

-- `FailsKnownAt added context known n`: of the pending proposals the n-th is the first that does not meet a rule. The first
-- one is 0.
abbrev pub FailsKnownAt : Rules → GroupContext → List KnownProposal → ℕ → Type 0
FailsKnownAt added context [] n = ⊥
FailsKnownAt added context (k ∷ known) zero = proposal_refusal added context k.proposal ≢ None
FailsKnownAt added context (k ∷ known) (suc n) =
    (proposal_refusal added context k.proposal ≡ None) × FailsKnownAt added context known n

-- `HasAddedRules asked s new`: `new` is the state `s` with the rules of `asked` too. The context, the tree and the pending
-- proposals meet those that it lacked.
pub record HasAddedRules (asked : Rules) (s new : State) : Type 0 where
  pub added : Rules
  pub is_difference : IsDifference asked s.rules added
  pub strict : IsStrict added s.context s.tree
  pub known : AreKnownStrict added s.context s.known
  pub all : Rules
  pub is_union : IsUnion asked s.rules all
  pub state : new ≡ record s { rules = all }

-- `FailsAdded asked s e added`: `added` are the rules of `asked` that the state lacks, and they are not met: by its context or
-- its tree, for this fault, else by the pending proposal with this number. `OutOfMemory` says nothing.
abbrev pub FailsAdded : Rules → State → StrictRefused → Rules → Type 0
FailsAdded asked s (Group fault) added = IsDifference asked s.rules added × IsStrictFault added s.context s.tree fault
FailsAdded asked s (Known n) added =
    IsDifference asked s.rules added × IsStrict added s.context s.tree × FailsKnownAt added s.context s.known n
FailsAdded asked s OutOfMemory added = Unit {0}

-- `IsStrictRefused asked s e`: the rules of `asked` cannot be added to the state, for this reason.
abbrev pub IsStrictRefused : Rules → State → StrictRefused → Type 0
IsStrictRefused asked s e = (added : Rules) × FailsAdded asked s e added
