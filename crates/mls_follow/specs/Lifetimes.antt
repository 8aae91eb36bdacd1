-- Lifetimes at a time that the caller passes, in seconds since 1970 (RFC 9420, 7.2, 7.3 and 10.1). No clock is read, and no
-- state has the time. Only an Add that a message has by value is judged: not what a commit names by reference, which was
-- judged when it came, and no leaf of the tree. Used by contracts.
use Rattle.std.specs.Prelude.{ℕ, nat_le, Bool, true, ◌&&◌, List, [], ◌∷◌, ◌++◌, Option, Some, None}
use Rattle.std.specs.List.{list_all}
use Rattle.mls_check.specs.Signatures.{VerifyFn}
use Rattle.mls_msgs.specs.declared.framed_content.Content.{Content}
use Rattle.mls_msgs.specs.declared.framed_content.Content.TheVariants as contents
use Rattle.mls_msgs.specs.declared.message.Message.{Message}
use Rattle.mls_msgs.specs.declared.message.Message.TheVariants as messages
use Rattle.mls_msgs.specs.declared.proposal.Proposal.{Proposal}
use Rattle.mls_msgs.specs.declared.proposal.Proposal.TheVariants as proposals
use Rattle.mls_msgs.specs.declared.proposal.ProposalOrRef.{ProposalOrRef}
use Rattle.mls_msgs.specs.declared.proposal.ProposalOrRef.TheVariants as entries
use Rattle.mls_nodes.specs.declared.leaf_source.LeafSource.{LeafSource}
use Rattle.mls_nodes.specs.declared.leaf_source.LeafSource.TheVariants as sources
use Rattle.mls_nodes.specs.declared.required_capabilities.RequiredCapabilities.{RequiredCapabilities}
use Rattle.mls_apply.specs.RuleLists.{Rule, rule}
use Rattle.mls_apply.specs.declared.refusal.Refusal.{Refusal}
use Rattle.mls_apply.specs.declared.refusal.Refusal.TheVariants.{LifetimeOutside}
use Rattle.mls_follow.specs.State.{State}
use Rattle.mls_follow.specs.StrictRules.{all_rules}

-- `includes now source`: the lifetime of a KeyPackage's leaf node includes the time (7.2). Other leaf nodes have none.
abbrev pub includes : ℕ → LeafSource → Bool
includes now (sources.KeyPackage lifetime) = nat_le lifetime.not_before now && nat_le now lifetime.not_after
includes now sources.Update = true
includes now (sources.Commit _) = true

-- `is_timely now p`: if the proposal is an Add, the lifetime of its leaf node includes the time (7.3, 10.1).
abbrev pub is_timely : ℕ → Proposal → Bool
is_timely now (proposals.Add kp) = includes now kp.leaf_node.source
is_timely now (proposals.Update _) = true
is_timely now (proposals.Remove _) = true
is_timely now (proposals.ContextExtensions _) = true
is_timely now (proposals.PreSharedKey _) = true
is_timely now (proposals.ReInit _) = true
is_timely now (proposals.ExternalInit _) = true

-- `entry_is_timely now e`: so is the entry of a proposal list. One by reference was judged when it came.
abbrev pub entry_is_timely : ℕ → ProposalOrRef → Bool
entry_is_timely now (entries.Proposal p) = is_timely now p
entry_is_timely now (entries.Reference _) = true

-- `content_is_timely now c`: so is the content.
abbrev pub content_is_timely : ℕ → Content → Bool
content_is_timely now (contents.Application _) = true
content_is_timely now (contents.Proposal p) = is_timely now p
content_is_timely now (contents.Commit c) = list_all (entry_is_timely now) c.proposals

-- `lifetime_rules now m` is the rule 53 for a message, if a time is passed.
abbrev pub lifetime_rules : Option ℕ → Message → List (Rule Refusal)
lifetime_rules None m = []
lifetime_rules (Some now) (messages.Public m) = rule LifetimeOutside (content_is_timely now m.auth.content.content) ∷ []
lifetime_rules (Some now) (messages.Unread _ _) = []
lifetime_rules (Some now) (messages.GroupInfo _) = []
lifetime_rules (Some now) (messages.KeyPackage _) = []

-- `all_rules_at now G s required m` is the rules for a message at this time, if one is passed: all others, and then 53.
abbrev pub all_rules_at : Option ℕ → VerifyFn → State → RequiredCapabilities → Message → List (Rule Refusal)
all_rules_at now G s required m = all_rules G s required m ++ lifetime_rules now m
