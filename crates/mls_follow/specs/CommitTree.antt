-- The tree after a commit's proposal list and path, before it is checked. Internal: no public contract uses this.
use Rattle.std.specs.Prelude.{◌≡◌, ℕ, false, List, [], Option, None, Some, is_some, option_and_then}
use Rattle.std.specs.Coded.{Coded-set, Unit-prop, coded_option}
use Rattle.mls_tree.specs.Tree.{Tree, leaf}
use Rattle.mls_nodes.specs.declared.context.GroupContext.{GroupContext}
use Rattle.mls_msgs.specs.declared.commit.UpdatePath.{UpdatePath}
use Rattle.mls_msgs.specs.declared.framed_content.Sender.{Sender}
use Rattle.mls_msgs.specs.declared.framed_content.Sender.TheVariants as senders
use Rattle.mls_msgs.specs.Rules.{plain_rules}
use Rattle.mls_msgs.specs.declared.group_info.GroupInfo.{GroupInfo}
use Rattle.mls_msgs.specs.declared.profile.Profile.{Profile}
use Rattle.mls_msgs.specs.declared.profile.Profile.TheVariants as profiles
use Rattle.mls_apply.specs.ListRules.{list_refusal}
use Rattle.mls_apply.specs.AppliedList.{AppliedTree}
use Rattle.mls_apply.specs.RuleLists.{Rule}
use Rattle.mls_apply.specs.contracts.refusal.Refusal as refusal
use Rattle.mls_apply.specs.declared.list_item.ListItem.{ListItem}
use Rattle.mls_apply.specs.declared.refusal.Refusal.{Refusal}
use Rattle.mls_apply.specs.declared.refusal.Refusal.TheVariants.{TooManyLeaves}
use Rattle.mls_follow.specs.State.{State}
use Rattle.mls_follow.specs.MessageRules.{CommitterTree, committer_tree, fail_with, path_rules_of}
use Rattle.mls_msgs.specs.declared.rules.Rules.{Rules}

-- `in_context context` is a state with this context.
abbrev pub in_context : GroupContext → State
in_context context = record {
  profile = profiles.Members;
  rules = plain_rules;
  context = context;
  tree = leaf None;
  interim = [];
  known = [];
  ended = false;
  added = None;
}

-- `IsListed committer items path`: the proposal list satisfies its rules, if its committer is a member (RFC 9420,
-- 12.2).
abbrev pub IsListed : Sender → List ListItem → Option UpdatePath → Type 0
IsListed (senders.Member i) items path = list_refusal (senders.Member i) items (is_some path) ≡ None
IsListed (senders.External _) items path = Unit {0}
IsListed senders.NewMemberProposal items path = Unit {0}
IsListed senders.NewMemberCommit items path = Unit {0}

-- `IsListed` has at most one proof.
pub IsListed-prop : (committer : Sender) (items : List ListItem) (path : Option UpdatePath) → IsProp (IsListed committer items path)
IsListed-prop (senders.Member i) items path =
    Coded-set (coded_option refusal.the_row.coded) (list_refusal (senders.Member i) items (is_some path)) None
IsListed-prop (senders.External _) items path = Unit-prop
IsListed-prop senders.NewMemberProposal items path = Unit-prop
IsListed-prop senders.NewMemberCommit items path = Unit-prop

-- `committer_rules H path q` is the rules for a path, once its committer has a leaf (RFC 9420, 12.3 and 12.4.2).
abbrev pub committer_rules : (List ℕ → List ℕ) → Option UpdatePath → Option CommitterTree → List (Rule Refusal)
committer_rules H path None = fail_with TooManyLeaves
committer_rules H path (Some q) = path_rules_of H q.applied_tree q.leaf path

-- `change_rules H committer path o` is the rules for a path, in the tree after the list, if there is one.
abbrev pub change_rules : (List ℕ → List ℕ) → Sender → Option UpdatePath → Option AppliedTree → List (Rule Refusal)
change_rules H committer path o = committer_rules H path (option_and_then (committer_tree committer) o)

-- `initial_state_of_tree asked profile info t interim` is the state of a GroupInfo, a tree and an interim transcript hash,
-- with no pending proposals.
abbrev pub initial_state_of_tree : Rules → Profile → GroupInfo → Tree → List ℕ → State
initial_state_of_tree asked profile info t interim = record {
  profile = profile;
  rules = asked;
  context = info.context;
  tree = t;
  interim = interim;
  known = [];
  ended = false;
  added = None;
}
