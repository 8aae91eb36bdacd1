-- What an accepted message changes (RFC 9420, 8.1, 8.2, 11.2, 12.4 and 12.4.2). `s` is the state before it. Used by
-- contracts.
use Rattle.std.specs.Prelude.{ℕ, ◌+◌, Bool, false, List, [], ◌∷◌, ◌++◌, Option, Some, None, option_map, option_and_then}
use Rattle.mls_nodes.specs.declared.extension.Extension.{Extension}
use Rattle.mls_tree.specs.Tree.{Tree}
use Rattle.mls_tree.specs.TreeHash.{tree_hash}
use Rattle.mls_hash.specs.SuiteHash.{hash_of}
use Rattle.mls_msgs.specs.declared.authenticated.AuthenticatedParts.{AuthenticatedParts}
use Rattle.mls_msgs.specs.declared.commit.Commit.{Commit}
use Rattle.mls_msgs.specs.declared.framed_content.Content.{Content}
use Rattle.mls_msgs.specs.declared.framed_content.Content.TheVariants as contents
use Rattle.mls_msgs.specs.declared.framed_content.Sender.{Sender}
use Rattle.mls_msgs.specs.declared.framed_content.Sender.TheVariants as senders
use Rattle.mls_msgs.specs.declared.message.Message.{Message}
use Rattle.mls_msgs.specs.declared.message.Message.TheVariants as messages
use Rattle.mls_msgs.specs.declared.proposal.Proposal.{Proposal}
use Rattle.mls_apply.specs.declared.list_item.KnownProposal.{KnownProposal}
use Rattle.mls_apply.specs.declared.list_item.ListItem.{ListItem}
use Rattle.mls_apply.specs.PackageRefs.{added_references}
use Rattle.mls_apply.specs.ContextExtensions.{new_extensions}
use Rattle.mls_apply.specs.ListRules.{has_reinit}
use Rattle.mls_apply.specs.JoinRules.{join_items}
use Rattle.mls_apply.specs.ResolvedList.{resolved}
use Rattle.mls_apply.specs.AppliedList.{outcome}
use Rattle.mls_follow.specs.State.{State}
use Rattle.mls_follow.specs.MessageRules.{reference_of, changed_tree}
use Rattle.mls_apply.specs.Transcript.{confirmed_hash, interim_hash}
use Rattle.mls_follow.specs.declared.taken.Taken.{Taken}
use Rattle.mls_follow.specs.declared.taken.Taken.TheVariants as takens

-- The result of an accepted message, and the state after it.
pub record Transition : Type 0 where
  pub taken : Taken
  pub state : State

-- `pending_proposal a sender p reference` is a proposal of a sender as a pending one, with what its AuthenticatedContent `a`
-- has besides (RFC 9420, 6 and 12.4).
abbrev pub pending_proposal : AuthenticatedParts → Sender → Proposal → List ℕ → KnownProposal
pending_proposal a sender p reference = record {
  reference = reference;
  sender = sender;
  proposal = p;
  authenticated_data = a.content.authenticated;
  signature = a.signature;
}

-- `after_proposal s a sender p reference` is the step after a proposal of a sender: it is pending under its reference
-- (RFC 9420, 12.4).
abbrev pub after_proposal : State → AuthenticatedParts → Sender → Proposal → List ℕ → Transition
after_proposal s a sender p reference = record {
  taken = takens.Proposal reference;
  state = record s { known = s.known ++ pending_proposal a sender p reference ∷ [] };
}

-- `committed s t hash confirmed interim` is the step after a commit: the context of the next epoch (RFC 9420, 8.1), the
-- tree, the interim transcript hash (8.2), and no pending proposals (12.4).
abbrev pub committed : State → Tree → List ℕ → List ℕ → List ℕ → Transition
committed s t hash confirmed interim = record {
  taken = takens.Commit (s.context.epoch + 1);
  state = record s {
    context = record s.context {
      epoch = s.context.epoch + 1;
      tree_hash = hash;
      confirmed = confirmed;
    };
    tree = t;
    interim = interim;
    known = [];
  };
}

-- `after_tree s a t` is the step after a commit that leads to the tree `t`, with its tree hash (RFC 9420, 7.8) and the
-- transcript hashes (8.2).
abbrev pub after_tree : State → AuthenticatedParts → Tree → Option Transition
after_tree s a t =
    option_and_then (λ hash.
    option_and_then (λ confirmed.
    option_map (committed s t hash confirmed)
    (interim_hash (hash_of s.context.cipher_suite) confirmed a.confirmation_tag))
    (confirmed_hash (hash_of s.context.cipher_suite) s.interim a))
    (tree_hash (hash_of s.context.cipher_suite) 0 t)

-- `commit_tree s committer c items` is the tree after a commit with this proposal list (RFC 9420, 12.4.2 and 12.4.3.2).
abbrev pub commit_tree : State → Sender → Commit → Option (List ListItem) → Option Tree
commit_tree s committer c items =
    option_and_then (λ xs. changed_tree (hash_of s.context.cipher_suite) committer c.path (outcome xs s.tree)) items

-- `extensions_after present items` is the extensions of the next GroupContext, by the proposal list (RFC 9420, 12.1.7).
abbrev pub extensions_after : List Extension → Option (List ListItem) → List Extension
extensions_after present None = present
extensions_after present (Some items) = new_extensions present items

-- `is_over_after items`: the group is over after a commit with this list, which has a ReInit (RFC 9420, 11.2).
abbrev pub is_over_after : Option (List ListItem) → Bool
is_over_after None = false
is_over_after (Some items) = has_reinit items

-- `references_after items` is the KeyPackageRefs of the Adds of a proposal list (RFC 9420, 5.2 and 12.4.3.1).
abbrev pub references_after : Option (List ListItem) → List (List ℕ)
references_after None = []
references_after (Some items) = added_references items

-- `with_extensions s extensions ended added` is the state with `extensions` in its context (RFC 9420, 12.1.7), with `ended`
-- as whether the group is over (11.2), and with the KeyPackageRefs `added`.
abbrev pub with_extensions : State → List Extension → Bool → List (List ℕ) → State
with_extensions s extensions ended added =
    record s { context = record s.context { extensions = extensions }; ended = ended; added = Some added }

-- `with_list s items` is the state with what a proposal list changes besides the tree.
abbrev pub with_list : State → Option (List ListItem) → State
with_list s items =
    with_extensions s (extensions_after s.context.extensions items) (is_over_after items) (references_after items)

-- `after_commit s a committer c items` is the step after a commit with this proposal list (RFC 9420, 12.4.2).
abbrev pub after_commit : State → AuthenticatedParts → Sender → Commit → Option (List ListItem) → Option Transition
after_commit s a committer c items =
    option_and_then (after_tree (with_list s items) a) (commit_tree s committer c items)

-- `after_content s a i c` is the step after the content of a message of member i.
abbrev pub after_content : State → AuthenticatedParts → ℕ → Content → Option Transition
after_content s a i (contents.Application _) = None
after_content s a i (contents.Proposal p) =
    option_map (after_proposal s a (senders.Member i) p) (reference_of s.context a)
after_content s a i (contents.Commit c) =
    after_commit s a (senders.Member i) c (resolved (senders.Member i) s.known c.proposals)

-- `after_join s a c` is the step after the content of a message of a client that joins with a commit (RFC 9420, 12.4.3.2).
abbrev pub after_join : State → AuthenticatedParts → Content → Option Transition
after_join s a (contents.Application _) = None
after_join s a (contents.Proposal _) = None
after_join s a (contents.Commit c) = after_commit s a senders.NewMemberCommit c (Some (join_items c.proposals))

-- `after_outside s a sender c` is the step after the content of a message of a sender outside the group, which is a
-- proposal (RFC 9420, 12.1.8).
abbrev pub after_outside : State → AuthenticatedParts → Sender → Content → Option Transition
after_outside s a sender (contents.Application _) = None
after_outside s a sender (contents.Proposal p) =
    option_map (after_proposal s a sender p) (reference_of s.context a)
after_outside s a sender (contents.Commit _) = None

-- `after_sender s a sender` is the step after a message of a sender (RFC 9420, 6.1).
abbrev pub after_sender : State → AuthenticatedParts → Sender → Option Transition
after_sender s a (senders.Member i) = after_content s a i a.content.content
after_sender s a (senders.External k) = after_outside s a (senders.External k) a.content.content
after_sender s a senders.NewMemberProposal = after_outside s a senders.NewMemberProposal a.content.content
after_sender s a senders.NewMemberCommit = after_join s a a.content.content

-- `next s m` is the step after a message that satisfies the rules, which is a PublicMessage (RFC 9420, 6.2).
abbrev pub next : State → Message → Option Transition
next s (messages.Public m) = after_sender s m.auth m.auth.content.sender
next s (messages.Unread _ _) = None
next s (messages.GroupInfo _) = None
next s (messages.KeyPackage _) = None
