-- The rules for a message of a sender outside the group, by its profile.
use Rattle.std.proofs.Common.{◌≡◌, ℕ, Option, Result, refl, sym, ap, subst}
use Rattle.mls_nodes.specs.declared.required_capabilities.RequiredCapabilities.{RequiredCapabilities}
use Rattle.mls_check.specs.Signatures.{VerifyFn}
use Rattle.mls_msgs.specs.declared.authenticated.AuthenticatedParts.{AuthenticatedParts}
use Rattle.mls_msgs.specs.declared.framed_content.Sender.{Sender}
use Rattle.mls_msgs.specs.declared.framed_content.Sender.TheVariants as senders
use Rattle.mls_apply.specs.RuleLists.{first_failing}
use Rattle.mls_apply.specs.declared.refusal.Refusal.{Refusal}
use Rattle.mls_follow.specs.AcceptanceInternal.{Takes}
use Rattle.mls_follow.specs.State.{State}
use Rattle.mls_follow.specs.MessageRules.{if_full, joiner_rules, outside_rules}
use Rattle.mls_follow.specs.MessageRulesInternal.{sender_refusal}
use Rattle.mls_follow.specs.NextState.{Transition, after_join, after_outside, after_sender}
use Rattle.mls_follow.specs.declared.taken.Taken.{Taken}

module _ (G : VerifyFn) (s : State) (required : RequiredCapabilities) (a : AuthenticatedParts) (sender : Sender) where
  abbrev Outside : Option Refusal
  Outside = first_failing (if_full s.profile (outside_rules G s a sender))

  of_external : (k : ℕ) → sender_refusal G s required a (senders.External k) ≡ first_failing (if_full s.profile (outside_rules G s a (senders.External k)))
  unfolding sender_refusal
  of_external k = refl

  of_joiner : sender_refusal G s required a senders.NewMemberProposal ≡ first_failing (if_full s.profile (outside_rules G s a senders.NewMemberProposal))
  unfolding sender_refusal
  of_joiner = refl

  -- an external sender, and a client that proposes to join
  pub by_external : (k : ℕ) → sender ≡ senders.External k → sender_refusal G s required a sender ≡ Outside
  by_external k is =
      subst (λ (x : Sender). sender_refusal G s required a x ≡ first_failing (if_full s.profile (outside_rules G s a x))) (sym is) (of_external k)

  pub after_external : (k : ℕ) → sender ≡ senders.External k → after_sender s a sender ≡ after_outside s a sender a.content.content
  after_external k is = subst (λ (x : Sender). after_sender s a x ≡ after_outside s a x a.content.content) (sym is) refl

  pub after_joiner : sender ≡ senders.NewMemberProposal → after_sender s a sender ≡ after_outside s a sender a.content.content
  after_joiner is = subst (λ (x : Sender). after_sender s a x ≡ after_outside s a x a.content.content) (sym is) refl

  pub by_joiner : sender ≡ senders.NewMemberProposal → sender_refusal G s required a sender ≡ Outside
  by_joiner is =
      subst (λ (x : Sender). sender_refusal G s required a x ≡ first_failing (if_full s.profile (outside_rules G s a x))) (sym is) of_joiner

  -- a client that joins with a commit
  abbrev Joiner : Option Refusal
  Joiner = first_failing (if_full s.profile (joiner_rules G s required a a.content.content))

  of_committer : sender_refusal G s required a senders.NewMemberCommit ≡ Joiner
  unfolding sender_refusal
  of_committer = refl

  by_committer : sender ≡ senders.NewMemberCommit → sender_refusal G s required a sender ≡ Joiner
  by_committer is = subst (λ (x : Sender). sender_refusal G s required a x ≡ Joiner) (sym is) of_committer

  -- what is taken by the sender's rules is taken by those for the message
  module _ (strict : Option Transition → Option Refusal) (whole : Option Refusal) (header : whole ≡ sender_refusal G s required a sender) (r : Result Taken Refusal) (new : State) where
    pub member_taken : (i : ℕ) → sender ≡ senders.Member i → Takes strict (sender_refusal G s required a (senders.Member i)) (after_sender s a (senders.Member i)) s r new
        → Takes strict whole (after_sender s a sender) s r new
    member_taken i is h = rw header (subst (λ (x : Sender). Takes strict (sender_refusal G s required a x) (after_sender s a x) s r new) (sym is) h)

    pub outside_taken : sender_refusal G s required a sender ≡ Outside → after_sender s a sender ≡ after_outside s a sender a.content.content
        → Takes strict Outside (after_outside s a sender a.content.content) s r new → Takes strict whole (after_sender s a sender) s r new
    outside_taken own next h = rw (header, own, next) h

    pub joiner_taken : sender ≡ senders.NewMemberCommit → Takes strict Joiner (after_join s a a.content.content) s r new → Takes strict whole (after_sender s a sender) s r new
    joiner_taken is h = rw (header, by_committer is, ap (after_sender s a) is) h
