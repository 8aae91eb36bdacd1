-- What a follower's checker does not accept of a message's signatures is among those that no pending proposal has.
use Rattle.std.proofs.Common.{◌≡◌, ◌∙◌, List, ℕ, [], Bool, true, false, refl, sym, ap}
use Rattle.std.specs.Prelude.{if◌then◌else◌}
use Rattle.mls_check.specs.Signatures.{VerifyFn}
use Rattle.mls_msgs.specs.declared.message.Message.{Message}
use Rattle.mls_signatures.specs.AcceptedSignatures.{unaccepted}
use Rattle.mls_signatures.specs.SignaturesToVerify as lists
use Rattle.mls_signatures.specs.declared.signature_to_verify.SignatureToVerify.{SignatureToVerify}
use Rattle.mls_signatures.proofs.FreshSignatures.{fresh_signatures_suffice}
use Rattle.mls_follow.specs.FollowerInvariant.{HasAcceptedPending}
use Rattle.mls_follow.specs.MessageSignatures.{AreFreshSignaturesOf, HaveUnacceptedOf, fresh_signatures_in_state, message_signatures_in_state}
use Rattle.mls_follow.specs.State.{State}

module _ (G : VerifyFn) (s : State) (pending : HasAcceptedPending G s) where
  unless_ended : (b : Bool) (xs ys : List SignatureToVerify) → unaccepted G xs ≡ unaccepted G ys → unaccepted G (if b then [] else xs) ≡ unaccepted G (if b then [] else ys)
  unless_ended true xs ys e = refl
  unless_ended false xs ys e = e

  same_unaccepted : (m : Message) → unaccepted G (fresh_signatures_in_state s m) ≡ unaccepted G (message_signatures_in_state s m)
  same_unaccepted m =
      unless_ended s.ended (lists.fresh_message_signatures s.profile s.context s.known s.tree m) (lists.message_signatures s.profile s.context s.known s.tree m)
      (sym (fresh_signatures_suffice G s.profile s.context s.known s.tree m pending.accepted))

  pub fresh_unaccepted : (bytes : List ℕ) (needed : List SignatureToVerify) → AreFreshSignaturesOf s bytes needed → HaveUnacceptedOf G s bytes needed
  fresh_unaccepted bytes needed h = record {
    message = h.message;
    encoded = h.encoded;
    same = ap (unaccepted G) h.same ∙ same_unaccepted h.message;
  }
