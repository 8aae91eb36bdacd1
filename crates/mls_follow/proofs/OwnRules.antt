-- No rule for a message is named want of memory.
use Rattle.std.proofs.Common.{ℕ, List, Option, Some, None}
use Rattle.std.specs.Prelude.{option_and_then}
use Rattle.mls_nodes.specs.declared.leaf.LeafNode.{LeafNode}
use Rattle.mls_nodes.specs.declared.required_capabilities.RequiredCapabilities.{RequiredCapabilities}
use Rattle.mls_tree.specs.Tree.{Tree, leaf_at}
use Rattle.mls_hash.specs.SuiteHash.{hash_of}
use Rattle.mls_check.specs.Signatures.{VerifyFn}
use Rattle.mls_check.specs.declared.members.MemberFault.{MemberFault}
use Rattle.mls_msgs.specs.declared.authenticated.AuthenticatedParts.{AuthenticatedParts}
use Rattle.mls_msgs.specs.declared.commit.Commit.{Commit}
use Rattle.mls_msgs.specs.declared.commit.UpdatePath.{UpdatePath}
use Rattle.mls_msgs.specs.declared.framed_content.Content.{Content}
use Rattle.mls_msgs.specs.declared.framed_content.Content.TheVariants as contents
use Rattle.mls_msgs.specs.declared.framed_content.Sender.{Sender}
use Rattle.mls_msgs.specs.declared.framed_content.Sender.TheVariants as senders
use Rattle.mls_msgs.specs.declared.message.Message.{Message}
use Rattle.mls_msgs.specs.declared.message.Message.TheVariants as messages
use Rattle.mls_msgs.specs.declared.profile.Profile.{Profile}
use Rattle.mls_msgs.specs.declared.profile.Profile.TheVariants.{Members, Full}
use Rattle.mls_msgs.specs.declared.proposal.Proposal.{Proposal}
use Rattle.mls_msgs.specs.declared.proposal.ProposalOrRef.{ProposalOrRef}
use Rattle.mls_signatures.specs.SigningKeys.{outside_key}
use Rattle.mls_apply.specs.declared.list_item.ListItem.{ListItem}
use Rattle.mls_apply.specs.declared.refusal.Refusal.{Refusal}
use Rattle.mls_apply.specs.declared.refusal.Refusal.TheVariants.{OutOfMemory}
use Rattle.mls_apply.specs.ContextExtensions.{proposed_extensions}
use Rattle.mls_apply.specs.ResolvedList.{resolved}
use Rattle.mls_apply.specs.AppliedList.{AppliedTree, outcome}
use Rattle.mls_apply.specs.JoinRules.{path_of_join, join_items}
use Rattle.mls_apply.specs.RuleLists.{Rule}
use Rattle.mls_apply.proofs.RuleLists.{AreOthers, no_rules, one_more, others_both}
use Rattle.mls_follow.specs.State.{State}
use Rattle.mls_follow.specs.MessageRules.{proposal_message_rules, member_rules, tree_rules, CommitterTree, committer_tree, resulting, path_rules_of, committer_tree_rules, applied_tree_rules, required_after, rules_with_requirements, proposal_list_rules, commit_rules, content_rules, leaf_rules, signed_proposal_rules, outside_content_rules, outside_rules, external_commit_rules, signed_commit_rules, joiner_rules, if_full, sender_rules, frame_rules, message_rules}

-- the first rule that fails is named otherwise
abbrev pub AreOwn : List (Rule Refusal) → Type 0
AreOwn rs = AreOthers OutOfMemory rs

module _ (G : VerifyFn) (s : State) (required : RequiredCapabilities) where
  of_members : (o : Option MemberFault) → AreOwn (member_rules o)
  of_members None = no_rules
  of_members (Some f) = one_more (λ e. cc) no_rules

  of_tree : (o : Option Tree) → AreOwn (tree_rules G s required o)
  of_tree None = no_rules
  of_tree (Some t) = one_more (λ e. cc) (of_members _)

  of_path : (H : List ℕ → List ℕ) (g : AppliedTree) (i : ℕ) (o : Option UpdatePath) → AreOwn (path_rules_of H g i o)
  of_path H g i None = no_rules
  of_path H g i (Some path) =
      one_more (λ e. cc) (one_more (λ e. cc) (one_more (λ e. cc) (one_more (λ e. cc) (one_more (λ e. cc) no_rules))))

  of_committer_tree : (path : Option UpdatePath) (q : Option CommitterTree) → AreOwn (committer_tree_rules G s required path q)
  of_committer_tree path None = one_more (λ e. cc) no_rules
  of_committer_tree path (Some q) =
      others_both (path_rules_of (hash_of s.context.cipher_suite) q.applied_tree q.leaf path) (tree_rules G s required (resulting (hash_of s.context.cipher_suite) q.applied_tree q.leaf path))
      (of_path (hash_of s.context.cipher_suite) q.applied_tree q.leaf path) (of_tree (resulting (hash_of s.context.cipher_suite) q.applied_tree q.leaf path))

  of_outcome : (committer : Sender) (path : Option UpdatePath) (o : Option AppliedTree) → AreOwn (applied_tree_rules G s required committer path o)
  of_outcome committer path o = of_committer_tree path (option_and_then (committer_tree committer) o)

of_under : (G : VerifyFn) (s : State) (committer : Sender) (path : Option UpdatePath) (o : Option AppliedTree) (required : Option RequiredCapabilities)
    → AreOwn (rules_with_requirements G s committer path o required)
of_under G s committer path o None = one_more (λ e. cc) no_rules
of_under G s committer path o (Some required) = of_outcome G s required committer path o

module _ (G : VerifyFn) (s : State) (required : RequiredCapabilities) where
  of_items : (i : ℕ) (c : Commit) (o : Option (List ListItem)) → AreOwn (proposal_list_rules G s required i c o)
  of_items i c None = one_more (λ e. cc) no_rules
  of_items i c (Some items) =
      one_more (λ e. cc) (one_more (λ e. cc) (one_more (λ e. cc) (one_more (λ e. cc) (one_more (λ e. cc) (one_more (λ e. cc) (one_more (λ e. cc)
      (one_more (λ e. cc) (one_more (λ e. cc) (one_more (λ e. cc) (one_more (λ e. cc) (one_more (λ e. cc) (one_more (λ e. cc) (one_more (λ e. cc)
      (of_under G s (senders.Member i) c.path (outcome items s.tree) (required_after required (proposed_extensions items))))))))))))))))

  of_offer : (a : AuthenticatedParts) (sender : Sender) (p : Proposal) → AreOwn (proposal_message_rules G s a sender p)
  of_offer a sender p =
      one_more (λ e. cc) (one_more (λ e. cc) (one_more (λ e. cc) (one_more (λ e. cc) (one_more (λ e. cc) (one_more (λ e. cc) (one_more (λ e. cc)
      (one_more (λ e. cc) no_rules)))))))

  of_commit : (i : ℕ) (c : Commit) → AreOwn (commit_rules G s required i c)
  of_commit i c = one_more (λ e. cc) (of_items i c (resolved (senders.Member i) s.known c.proposals))

  of_join_list : (es : List ProposalOrRef) (o : Option UpdatePath) → AreOwn (path_of_join s.context s.tree es o)
  of_join_list es None = no_rules
  of_join_list es (Some path) =
      one_more (λ e. cc) (one_more (λ e. cc) (one_more (λ e. cc) (one_more (λ e. cc) (one_more (λ e. cc) no_rules))))

  of_external_commit : (c : Commit) → AreOwn (external_commit_rules G s required c)
  of_external_commit c =
      let under =
      rules_with_requirements G s senders.NewMemberCommit c.path (outcome (join_items c.proposals) s.tree) (required_after required (proposed_extensions (join_items c.proposals))) in
      one_more (λ e. cc)
      (others_both (path_of_join s.context s.tree c.proposals c.path) under (of_join_list c.proposals c.path)
      (of_under G s senders.NewMemberCommit c.path (outcome (join_items c.proposals) s.tree) (required_after required (proposed_extensions (join_items c.proposals)))))

  module _ (a : AuthenticatedParts) where
    of_signed_commit : (c : Commit) (o : Option UpdatePath) → AreOwn (signed_commit_rules G s required a c o)
    of_signed_commit c None = one_more (λ e. cc) no_rules
    of_signed_commit c (Some path) = one_more (λ e. cc) (of_external_commit c)

    of_joiner : (c : Content) → AreOwn (joiner_rules G s required a c)
    of_joiner (contents.Application _) = one_more (λ e. cc) no_rules
    of_joiner (contents.Proposal _) = one_more (λ e. cc) no_rules
    of_joiner (contents.Commit c) = of_signed_commit c c.path

    of_content : (i : ℕ) (x : LeafNode) (c : Content) → AreOwn (content_rules G s required a i x c)
    of_content i x (contents.Application _) = one_more (λ e. cc) no_rules
    of_content i x (contents.Proposal p) = one_more (λ e. cc) (of_offer a (senders.Member i) p)
    of_content i x (contents.Commit c) = one_more (λ e. cc) (of_commit i c)

    of_leaf : (i : ℕ) (o : Option LeafNode) → AreOwn (leaf_rules G s required a i o)
    of_leaf i None = one_more (λ e. cc) no_rules
    of_leaf i (Some x) = of_content i x a.content.content

    of_signed : (sender : Sender) (p : Proposal) (o : Option (List ℕ)) → AreOwn (signed_proposal_rules G s a sender p o)
    of_signed sender p None = one_more (λ e. cc) no_rules
    of_signed sender p (Some key) = one_more (λ e. cc) (of_offer a sender p)

    of_outside_content : (sender : Sender) (o : Option (List ℕ)) (c : Content) → AreOwn (outside_content_rules G s a sender o c)
    of_outside_content sender o (contents.Application _) = one_more (λ e. cc) no_rules
    of_outside_content sender o (contents.Proposal p) = one_more (λ e. cc) (of_signed sender p o)
    of_outside_content sender o (contents.Commit c) = one_more (λ e. cc) no_rules

    of_outside : (sender : Sender) → AreOwn (outside_rules G s a sender)
    of_outside sender = one_more (λ e. cc) (of_outside_content sender (outside_key s.context sender a.content.content) a.content.content)

    of_full : (profile : Profile) (rs : List (Rule Refusal)) → AreOwn rs → AreOwn (if_full profile rs)
    of_full Members rs h = one_more (λ e. cc) no_rules
    of_full Full rs h = h

    of_sender : (sender : Sender) → AreOwn (sender_rules G s required a sender)
    of_sender (senders.Member i) = of_leaf i (leaf_at 0 s.tree i)
    of_sender (senders.External k) = of_full s.profile (outside_rules G s a (senders.External k)) (of_outside (senders.External k))
    of_sender senders.NewMemberProposal = of_full s.profile (outside_rules G s a senders.NewMemberProposal) (of_outside senders.NewMemberProposal)
    of_sender senders.NewMemberCommit = of_full s.profile (joiner_rules G s required a a.content.content) (of_joiner a.content.content)

    of_frame : AreOwn (frame_rules G s required a)
    of_frame = one_more (λ e. cc) (one_more (λ e. cc) (one_more (λ e. cc) (of_sender a.content.sender)))

  pub of_message : (m : Message) → AreOwn (message_rules G s required m)
  of_message (messages.Public p) = of_frame p.auth
  of_message (messages.Unread _ _) = one_more (λ e. cc) no_rules
  of_message (messages.GroupInfo _) = one_more (λ e. cc) no_rules
  of_message (messages.KeyPackage _) = one_more (λ e. cc) no_rules
