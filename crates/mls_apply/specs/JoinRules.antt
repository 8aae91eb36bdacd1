-- The rules for the proposal list of an external commit (RFC 9420, 12.2 and 12.4.3.2). Its sender joins the group: it has no
-- leaf yet. `es` is the list, `t` the ratchet tree of its epoch, `x` the leaf node of its path. Used by contracts.
use Rattle.std.specs.Prelude.{ℕ, ◌==◌, nat_le, ◌&&◌, ◌||◌, not, is_some, List, [], ◌∷◌, length, map, filter, filter_map, Bool, true, false, Option, Some, None}
use Rattle.std.specs.List.{list_all}
use Rattle.std.specs.Str.{bytes_eq}
use Rattle.mls_nodes.specs.declared.context.GroupContext.{GroupContext}
use Rattle.mls_nodes.specs.declared.credential.Credential.{Credential}
use Rattle.mls_nodes.specs.declared.credential.Credential.TheVariants.{Basic, X509}
use Rattle.mls_nodes.specs.declared.leaf.LeafNode.{LeafNode}
use Rattle.mls_tree.specs.Tree.{Tree, leaf_at}
use Rattle.mls_msgs.specs.declared.commit.Commit.{Commit}
use Rattle.mls_msgs.specs.declared.commit.UpdatePath.{UpdatePath}
use Rattle.mls_msgs.specs.declared.framed_content.Sender.TheVariants.{NewMemberCommit}
use Rattle.mls_msgs.specs.declared.proposal.Proposal.{Proposal}
use Rattle.mls_msgs.specs.declared.proposal.Proposal.TheVariants.{Add, Update, Remove, ContextExtensions, PreSharedKey, ReInit, ExternalInit}
use Rattle.mls_msgs.specs.declared.proposal.ProposalOrRef.{ProposalOrRef}
use Rattle.mls_msgs.specs.declared.proposal.ProposalOrRef.TheVariants as entries
use Rattle.mls_apply.specs.declared.refusal.Refusal.{Refusal}
use Rattle.mls_apply.specs.declared.refusal.Refusal.TheVariants.{PathMissing, JoinList, RemoveInvalid, PskInvalid, PskTwice, ResyncInvalid}
use Rattle.mls_apply.specs.declared.list_item.ListItem.{ListItem}
use Rattle.mls_apply.specs.ProposalRules.{valid_if_remove, valid_if_psk}
use Rattle.mls_apply.specs.PskProposals.{have_distinct_psks}
use Rattle.mls_apply.specs.RuleLists.{Rule, rule, first_failing}

-- ---- which proposals the list has

-- `is_join_proposal p`: an external commit may have the proposal (12.2).
abbrev pub is_join_proposal : Proposal → Bool
is_join_proposal (Add _) = false
is_join_proposal (Update _) = false
is_join_proposal (Remove _) = true
is_join_proposal (ContextExtensions _) = false
is_join_proposal (PreSharedKey _) = true
is_join_proposal (ReInit _) = false
is_join_proposal (ExternalInit _) = true

-- `is_external_init p`: the proposal is an ExternalInit (12.1.6).
abbrev pub is_external_init : Proposal → Bool
is_external_init (Add _) = false
is_external_init (Update _) = false
is_external_init (Remove _) = false
is_external_init (ContextExtensions _) = false
is_external_init (PreSharedKey _) = false
is_external_init (ReInit _) = false
is_external_init (ExternalInit _) = true

-- `is_remove p`: the proposal is a Remove (12.1.3).
abbrev pub is_remove : Proposal → Bool
is_remove (Add _) = false
is_remove (Update _) = false
is_remove (Remove _) = true
is_remove (ContextExtensions _) = false
is_remove (PreSharedKey _) = false
is_remove (ReInit _) = false
is_remove (ExternalInit _) = false

-- `value_of e` is the proposal of an entry, if the commit includes it by value (12.4).
abbrev pub value_of : ProposalOrRef → Option Proposal
value_of (entries.Proposal p) = Some p
value_of (entries.Reference _) = None

-- `is_value f e`: the commit includes the proposal of the entry by value, and `f` holds of it.
abbrev pub is_value : (Proposal → Bool) → ProposalOrRef → Bool
is_value f (entries.Proposal p) = f p
is_value f (entries.Reference _) = false

-- `value_count f es` is how many proposals by value satisfy `f`.
abbrev pub value_count : (Proposal → Bool) → List ProposalOrRef → ℕ
value_count f es = length (filter (is_value f) es)

-- `is_join_list es`: the list has no reference. It has one ExternalInit, at most one Remove, any number of PreSharedKeys,
-- and no other proposal, in any order (12.2, 12.4.3.2).
unfoldable pub is_join_list : List ProposalOrRef → Bool
is_join_list es =
    list_all (is_value is_join_proposal) es
    && value_count is_external_init es == 1
    && nat_le (value_count is_remove es) 1

-- `joiner_item p` is a proposal of the commit's own sender.
abbrev pub joiner_item : Proposal → ListItem
joiner_item p = record { sender = NewMemberCommit; proposal = p }

-- `join_items es` is the proposals that the commit includes by value, with its sender.
abbrev pub join_items : List ProposalOrRef → List ListItem
join_items es = map joiner_item (filter_map value_of es)

-- ---- the client that rejoins (12.4.3.2)

-- `are_same_certificates xs ys`: the two chains have equal certificates, in one order.
abbrev pub are_same_certificates : List (List ℕ) → List (List ℕ) → Bool
are_same_certificates [] [] = true
are_same_certificates [] (y ∷ ys) = false
are_same_certificates (x ∷ xs) [] = false
are_same_certificates (x ∷ xs) (y ∷ ys) = bytes_eq x y && are_same_certificates xs ys

-- `is_same_credential a b`: the two credentials are equal.
abbrev pub is_same_credential : Credential → Credential → Bool
is_same_credential (Basic a) (Basic b) = bytes_eq a b
is_same_credential (Basic a) (X509 ys) = false
is_same_credential (X509 xs) (Basic b) = false
is_same_credential (X509 xs) (X509 ys) = are_same_certificates xs ys

-- `is_successor old x`: the leaf node `x` may replace `old`. Its encryption key is another one, and it has the
-- credential or the signature key of `old` (12.4.3.2; the second part of the rule is own).
abbrev pub is_successor : LeafNode → LeafNode → Bool
is_successor old x =
    not (bytes_eq old.encryption_key x.encryption_key)
    && (is_same_credential old.credential x.credential || bytes_eq old.signature_key x.signature_key)

-- `is_successor_if_non_blank old x`: the leaf node `x` may replace `old`, if there is one (RFC 9420, 12.4.3.2).
abbrev pub is_successor_if_non_blank : Option LeafNode → LeafNode → Bool
is_successor_if_non_blank None x = true
is_successor_if_non_blank (Some old) x = is_successor old x

-- `valid_if_resync t x p`: if the proposal is a Remove, `x` may replace the leaf that it removes.
abbrev pub valid_if_resync : Tree → LeafNode → Proposal → Bool
valid_if_resync t x (Add _) = true
valid_if_resync t x (Update _) = true
valid_if_resync t x (Remove i) = is_successor_if_non_blank (leaf_at 0 t i) x
valid_if_resync t x (ContextExtensions _) = true
valid_if_resync t x (PreSharedKey _) = true
valid_if_resync t x (ReInit _) = true
valid_if_resync t x (ExternalInit _) = true

-- ---- the rules

-- `all_items f items`: `f` holds of each proposal of a list.
abbrev pub all_items : (Proposal → Bool) → List ListItem → Bool
all_items f items = list_all (λ x. f x.proposal) items

-- `join_item_rules context t x items` is the rules for the proposals by value, in their order.
abbrev pub join_item_rules : GroupContext → Tree → LeafNode → List ListItem → List (Rule Refusal)
join_item_rules context t x items =
    rule RemoveInvalid (all_items (valid_if_remove t) items) ∷
    rule PskInvalid (all_items (valid_if_psk context NewMemberCommit) items) ∷
    rule PskTwice (have_distinct_psks items) ∷
    rule ResyncInvalid (all_items (valid_if_resync t x) items) ∷ []

-- `join_list_rules context t x es` is the rules for the list, in their order.
abbrev pub join_list_rules : GroupContext → Tree → LeafNode → List ProposalOrRef → List (Rule Refusal)
join_list_rules context t x es = rule JoinList (is_join_list es) ∷ join_item_rules context t x (join_items es)

-- `path_of_join context t es path` is the rules for the list if there is a path.
abbrev pub path_of_join : GroupContext → Tree → List ProposalOrRef → Option UpdatePath → List (Rule Refusal)
path_of_join context t es None = []
path_of_join context t es (Some path) = join_list_rules context t path.leaf_node es

-- `join_rules context t c` is the rules for an external commit before its list is applied: there is a path, and the list
-- satisfies its rules.
abbrev pub join_rules : GroupContext → Tree → Commit → List (Rule Refusal)
join_rules context t c =
    rule PathMissing (is_some c.path) ∷ path_of_join context t c.proposals c.path

-- `join_refusal context t c` is the refusal of the first of them that fails.
unfoldable pub join_refusal : GroupContext → Tree → Commit → Option Refusal
join_refusal context t c = first_failing (join_rules context t c)
