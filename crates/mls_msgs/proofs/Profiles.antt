-- What was read of all values, told of those of a profile.
use Rattle.std.proofs.Common.{◌≡◌, ◌≤◌, ◌⊎◌, ℕ, List, length, Bool, true, false, Option, Some, None, Err, refl, sym, ap, inl, inr, ◌∙◌}
use Rattle.std.proofs.lemmas.Bool.{false≢true}
use Rattle.mls_wire.specs.Limits.{input_limit}
use Rattle.mls_wire.specs.ReadContracts.{DecodesAll, DecodesInput}
use Rattle.mls_wire.specs.ExactTheorems.{unambiguous}
use Rattle.mls_wire.specs.Encoding.{IsInjective}
use Rattle.mls_wire.specs.OptionBind.{allowed, some_is}
use Rattle.mls_wire.specs.declared.fault.CodecFault.{CodecFault}
use Rattle.mls_wire.specs.declared.fault.CodecFault.TheVariants as faults
use Rattle.mls_msgs.specs.Layout.{proposal}
use Rattle.mls_msgs.specs.Parsing.{proposal_at}
use Rattle.mls_msgs.specs.ProposalExact.{proposal_exact}
use Rattle.mls_msgs.specs.Authenticated.{authenticated_content}
use Rattle.mls_msgs.specs.FrameParsing.{authenticated_content_at}
use Rattle.mls_msgs.specs.AuthenticatedExact.{authenticated_content_exact}
use Rattle.mls_msgs.specs.Message.{message}
use Rattle.mls_msgs.specs.MessageParsing.{message_at}
use Rattle.mls_msgs.specs.MessageExact.{message_again, message_takes}
use Rattle.mls_msgs.specs.Profile.{is_in, tested, is_members_proposal, is_members_authenticated, is_members_message, proposal_in, authenticated_in, message_in}
use Rattle.mls_msgs.specs.declared.profile.Profile.{Profile}
use Rattle.mls_msgs.specs.declared.proposal.Proposal.{Proposal}
use Rattle.mls_msgs.specs.declared.authenticated.AuthenticatedParts.{AuthenticatedParts}
use Rattle.mls_msgs.specs.declared.message.Message.{Message}

module _ {A : Type 0} (test : A → Bool) (s : A → Option (List ℕ)) (once : IsInjective s) (bytes : List ℕ) where
  -- no value of which the test holds is spelled by the bytes
  abbrev Untold : Type 0
  Untold = (x : A) → tested test s x ≡ Some bytes → ⊥

  of_no_value : ((x : A) → s x ≡ Some bytes → ⊥) → Untold
  of_no_value none x e = none x (allowed (test x) (s x) bytes e).1

  of_another : (v : A) → s v ≡ Some bytes → test v ≡ false → Untold
  of_another v encoded fails x e =
      let a = allowed (test x) (s x) bytes e in
      absurd (false≢true (sym fails ∙ (ap test (once v x bytes encoded a.1) ∙ a.0)))

  -- a value of which the test holds is spelled as before
  pub test_holds : (v : A) → s v ≡ Some bytes → test v ≡ true → tested test s v ≡ Some bytes
  test_holds v encoded holds = rw holds encoded

  all_refused : Untold → (e : CodecFault) → DecodesAll (tested test s) bytes (Err e)
  all_refused none (faults.Wire f) = none
  all_refused none faults.OutOfMemory = tt

  input_refused : length bytes ≤ input_limit → Untold → (e : CodecFault) → DecodesInput (tested test s) bytes (Err e)
  input_refused le none (faults.Wire f) = λ x e _. none x e
  input_refused le none faults.OutOfMemory = le

  -- where the value that is spelled fails the test, and where none is spelled
  pub test_fails : (v : A) → s v ≡ Some bytes → test v ≡ false → (e : CodecFault) → DecodesAll (tested test s) bytes (Err e)
  test_fails v encoded fails = all_refused (of_another v encoded fails)

  pub nothing_encoded : ((x : A) → s x ≡ Some bytes → ⊥) → (e : CodecFault) → DecodesAll (tested test s) bytes (Err e)
  nothing_encoded none = all_refused (of_no_value none)

  pub input_fails : length bytes ≤ input_limit → (v : A) → s v ≡ Some bytes → test v ≡ false → (e : CodecFault) → DecodesInput (tested test s) bytes (Err e)
  input_fails le v encoded fails = input_refused le (of_another v encoded fails)

  pub input_nothing : length bytes ≤ input_limit → ((x : A) → s x ≡ Some bytes → ⊥) → (e : CodecFault) → DecodesInput (tested test s) bytes (Err e)
  input_nothing le none = input_refused le (of_no_value none)

-- bytes spell one proposal, one authenticated content and one message at most
pub proposal_once : IsInjective proposal
proposal_once = (unambiguous proposal proposal_at proposal_exact).once

pub authenticated_once : IsInjective authenticated_content
authenticated_once = (unambiguous authenticated_content authenticated_content_at authenticated_content_exact).once

pub message_once : IsInjective message
message_once x y text p q = some_is x y (sym (message_again x text p) ∙ message_again y text q)

pub proposal_determined : (profile : Profile) (v : Proposal) (bytes : List ℕ) → proposal v ≡ Some bytes → is_in profile (is_members_proposal v) ≡ true → proposal_in profile v ≡ Some bytes
unfolding proposal_in
proposal_determined profile v bytes = test_holds (λ x. is_in profile (is_members_proposal x)) proposal proposal_once bytes v

pub proposal_foreign : (profile : Profile) (v : Proposal) (bytes : List ℕ) (e : CodecFault) → proposal v ≡ Some bytes → is_in profile (is_members_proposal v) ≡ false
    → DecodesAll (proposal_in profile) bytes (Err e)
unfolding proposal_in
proposal_foreign profile v bytes e encoded fails = test_fails (λ x. is_in profile (is_members_proposal x)) proposal proposal_once bytes v encoded fails e

pub proposal_none : (profile : Profile) (bytes : List ℕ) (e : CodecFault) → ((x : Proposal) → proposal x ≡ Some bytes → ⊥) → DecodesAll (proposal_in profile) bytes (Err e)
unfolding proposal_in
proposal_none profile bytes e none = nothing_encoded (λ x. is_in profile (is_members_proposal x)) proposal proposal_once bytes none e

pub ruleset proposals_in = (proposal_determined, proposal_foreign, proposal_none)

pub authenticated_determined : (profile : Profile) (v : AuthenticatedParts) (bytes : List ℕ) → authenticated_content v ≡ Some bytes → is_in profile (is_members_authenticated v) ≡ true → authenticated_in profile v ≡ Some bytes
unfolding authenticated_in
authenticated_determined profile v bytes = test_holds (λ x. is_in profile (is_members_authenticated x)) authenticated_content authenticated_once bytes v

pub authenticated_foreign : (profile : Profile) (v : AuthenticatedParts) (bytes : List ℕ) (e : CodecFault) → authenticated_content v ≡ Some bytes → is_in profile (is_members_authenticated v) ≡ false
    → DecodesAll (authenticated_in profile) bytes (Err e)
unfolding authenticated_in
authenticated_foreign profile v bytes e encoded fails = test_fails (λ x. is_in profile (is_members_authenticated x)) authenticated_content authenticated_once bytes v encoded fails e

pub authenticated_none : (profile : Profile) (bytes : List ℕ) (e : CodecFault) → ((x : AuthenticatedParts) → authenticated_content x ≡ Some bytes → ⊥) → DecodesAll (authenticated_in profile) bytes (Err e)
unfolding authenticated_in
authenticated_none profile bytes e none = nothing_encoded (λ x. is_in profile (is_members_authenticated x)) authenticated_content authenticated_once bytes none e

pub ruleset authenticated_contents_in = (authenticated_determined, authenticated_foreign, authenticated_none)

pub message_determined : (profile : Profile) (v : Message) (bytes : List ℕ) → message_at bytes ≡ Some v → is_in profile (is_members_message v) ≡ true → message_in profile v ≡ Some bytes
unfolding message_in
message_determined profile v bytes found = test_holds (λ x. is_in profile (is_members_message x)) message message_once bytes v (message_takes bytes v found)

pub message_foreign : (profile : Profile) (v : Message) (bytes : List ℕ) (e : CodecFault) → length bytes ≤ input_limit → message_at bytes ≡ Some v
    → is_in profile (is_members_message v) ≡ false → DecodesInput (message_in profile) bytes (Err e)
unfolding message_in
message_foreign profile v bytes e le found fails = input_fails (λ x. is_in profile (is_members_message x)) message message_once bytes le v (message_takes bytes v found) fails e

pub message_none : (profile : Profile) (bytes : List ℕ) (e : CodecFault) → length bytes ≤ input_limit → message_at bytes ≡ None
    → DecodesInput (message_in profile) bytes (Err e)
unfolding message_in
message_none profile bytes e le found = input_nothing (λ x. is_in profile (is_members_message x)) message message_once bytes le
    (λ x encoded. let bad = sym found ∙ message_again x bytes encoded in absurd cc) e

-- what is encoded in a profile is in the profile, and is encoded
pub encoded_in : (profile : Profile) (m : Message) (bytes : List ℕ) → message_in profile m ≡ Some bytes
    → (is_in profile (is_members_message m) ≡ true) × (message m ≡ Some bytes)
unfolding message_in
encoded_in profile m bytes = allowed (is_in profile (is_members_message m)) (message m) bytes

-- bytes encode at most one message of a profile
pub messages_once : (profile : Profile) (m n : Message) (bytes : List ℕ) → message_in profile m ≡ Some bytes → message_in profile n ≡ Some bytes → m ≡ n
messages_once profile m n bytes p q = message_once m n bytes (encoded_in profile m bytes p).1 (encoded_in profile n bytes q).1

-- bytes encode a message of a profile, or none
pub message_or_none : (profile : Profile) (bytes : List ℕ) → ((m : Message) × (message_in profile m ≡ Some bytes)) ⊎ ((m : Message) → message_in profile m ≡ Some bytes → ⊥)
message_or_none profile bytes = go (message_at bytes) refl
  where
    of_value : (m : Message) → message_at bytes ≡ Some m → (b : Bool) → is_in profile (is_members_message m) ≡ b
        → ((n : Message) × (message_in profile n ≡ Some bytes)) ⊎ ((n : Message) → message_in profile n ≡ Some bytes → ⊥)
    of_value m found true t = inl (m, message_determined profile m bytes found t)
    of_value m found false t =
        inr (λ n e.
        let other = encoded_in profile n bytes e in
        let same : m ≡ n = message_once m n bytes (message_takes bytes m found) other.1 in
        false≢true (sym t ∙ (ap (λ (x : Message). is_in profile (is_members_message x)) same ∙ other.0)))

    go : (o : Option Message) → message_at bytes ≡ o → ((n : Message) × (message_in profile n ≡ Some bytes)) ⊎ ((n : Message) → message_in profile n ≡ Some bytes → ⊥)
    go None e = inr (λ n h. let bad = sym e ∙ message_again n bytes (encoded_in profile n bytes h).1 in absurd cc)
    go (Some m) e = of_value m e (is_in profile (is_members_message m)) refl

pub ruleset messages_in = (message_determined, message_foreign, message_none)
