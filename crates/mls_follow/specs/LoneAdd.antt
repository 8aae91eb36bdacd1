-- Whether a client can be added to a group that is followed, by its KeyPackage alone: the rules for the tree after a commit whose
-- list is this one Add (RFC 9420, 7.3, 12.1.1, 12.3 and 12.4.2), but for signatures. `s` is the state. Used by contracts.
use Rattle.std.specs.Prelude.{◌≡◌, false, List, [], ◌∷◌, Option, Some, None}
use Rattle.mls_nodes.specs.Requirements.{Requires}
use Rattle.mls_nodes.specs.declared.required_capabilities.RequiredCapabilities.{RequiredCapabilities}
use Rattle.mls_check.specs.DistinctKeys.{has_distinct_keys}
use Rattle.mls_check.specs.LeafValidation.{member_fault}
use Rattle.mls_check.specs.declared.members.MemberFault.{MemberFault}
use Rattle.mls_msgs.specs.declared.key_package.KeyPackage.{KeyPackage}
use Rattle.mls_apply.specs.AppliedList.{AppliedTree, with_members}
use Rattle.mls_apply.specs.RuleLists.{Rule, rule, first_failing}
use Rattle.mls_follow.specs.CoveredLogs.{all_good}
use Rattle.mls_follow.specs.State.{State}
use Rattle.mls_follow.specs.declared.lone_add.AddFault.{AddFault}
use Rattle.mls_follow.specs.declared.lone_add.AddFault.TheVariants.{KeyRepeated, Member, TooManyLeaves}

-- `with_client s k` is the tree of the state after the Add of the KeyPackage, with the leaf index of the client. `None` if the
-- group has as many members as a tree may have leaves, or an unmerged list would be too long. It is `outcome` of the list of
-- this one Add.
abbrev pub with_client : State → KeyPackage → Option AppliedTree
with_client s k = with_members (k.leaf_node ∷ []) s.tree

-- `lone_member_rules fault` is the rule that the leaf nodes of the tree after the Add are valid, which fails for this fault, if
-- there is one (RFC 9420, 7.3).
abbrev pub lone_member_rules : Option MemberFault → List (Rule AddFault)
lone_member_rules None = []
lone_member_rules (Some f) = rule (Member f) false ∷ []

-- `lone_add_rules s required o` is the rules for the tree after the Add, in a group that requires `required`: there is one, its
-- encryption keys are distinct, and its leaf nodes are valid if every signature is good (RFC 9420, 7.3 and 12.4.2).
abbrev pub lone_add_rules : State → RequiredCapabilities → Option AppliedTree → List (Rule AddFault)
lone_add_rules s required None = rule TooManyLeaves false ∷ []
lone_add_rules s required (Some g) =
    rule KeyRepeated (has_distinct_keys g.tree)
    ∷ lone_member_rules (member_fault all_good s.context.cipher_suite s.context.group_id required g.tree)

-- `CanBeAdded s k`: the rules for the tree after the Add hold, under what the group requires.
pub record CanBeAdded (s : State) (k : KeyPackage) : Type 0 where
  pub required : RequiredCapabilities
  pub requires : Requires s.context required
  pub rules_hold : first_failing (lone_add_rules s required (with_client s k)) ≡ None

-- `FailsAdd s k e`: the first of these rules that fails is that of this fault, under what the group requires.
pub record FailsAdd (s : State) (k : KeyPackage) (e : AddFault) : Type 0 where
  pub required : RequiredCapabilities
  pub requires : Requires s.context required
  pub fails : first_failing (lone_add_rules s required (with_client s k)) ≡ Some e
