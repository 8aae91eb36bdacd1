-- The answers at a time that is passed are those without one, but for lifetimes.
use Rattle.std.proofs.Common.{◌≡◌, ◌≢◌, ◌∙◌, ℕ, ◌≤◌, List, [], ◌∷◌, Bool, true, false, Option, Some, None, option_map, Result, Ok, Err, refl, sym, ap, subst, inl, inr, arith}
use Rattle.std.specs.Prelude.{◌⊎◌}
use Rattle.std.proofs.lemmas.Option.{none-some, same_Some}
use Rattle.mls_nodes.proofs.RequiredOnce.{Requires-one}
use Rattle.mls_nodes.specs.Requirements.{Requires}
use Rattle.mls_nodes.specs.declared.required_capabilities.RequiredCapabilities.{RequiredCapabilities}
use Rattle.mls_check.specs.Signatures.{VerifyFn}
use Rattle.mls_msgs.specs.Message.{message}
use Rattle.mls_msgs.specs.MessageExact.{message_again}
use Rattle.mls_msgs.specs.StrictRules.{strict_number}
use Rattle.mls_msgs.specs.declared.message.Message.{Message}
use Rattle.mls_msgs.specs.declared.message.Message.TheVariants as messages
use Rattle.mls_msgs.specs.declared.rules.Rules.{Rules}
use Rattle.mls_msgs.specs.declared.strict_rule.StrictRule.{StrictRule}
use Rattle.mls_msgs.specs.declared.strict_rule.StrictRule.TheVariants as rules
use Rattle.mls_apply.specs.Refusals.{number_of}
use Rattle.mls_apply.specs.RuleLists.{rule, first_failing}
use Rattle.mls_apply.specs.declared.refusal.Refusal.{Refusal}
use Rattle.mls_apply.specs.declared.refusal.Refusal.TheVariants as refusals
use Rattle.mls_apply.proofs.RuleLists.{first_failing-left, first_failing-right, passed_both}
use Rattle.mls_follow.specs.Acceptance.{IsAcceptable, IsFirstRefusal}
use Rattle.mls_follow.specs.Lifetimes.{all_rules_at, content_is_timely, lifetime_rules}
use Rattle.mls_follow.specs.MessageRules.{message_rules}
use Rattle.mls_follow.specs.Runs.{IsAnswer}
use Rattle.mls_follow.specs.State.{State, EncodesMessage}
use Rattle.mls_follow.specs.StrictRules.{all_rules}
use Rattle.mls_follow.specs.StrictRuns.{Includes, first_failed, with_rules}
use Rattle.mls_follow.specs.TimedAcceptance.{IsAcceptableAt, IsFirstRefusalAt}
use Rattle.mls_follow.specs.TimedAnswers.{AcceptedOrOutside, FewerAcceptAtTimes, FewerRefuseAtTimes, HasAnswerAt, IsAnswerAt, MoreRefuseAtTimes, RefusalsStayAtTimes, TimedAnswerExists, TimedAnswerIsUnique}
use Rattle.mls_follow.specs.declared.taken.Taken.{Taken}
use Rattle.mls_follow.proofs.Answering.{only_answer}
use Rattle.mls_follow.proofs.Deciding.{an_answer}
use Rattle.mls_follow.proofs.FewerRules.{fewer_accept, least_refuses, more_refuse, plain_kept_by}
use Rattle.mls_follow.proofs.Timed.{timed_accepted}

-- ---- the rule of lifetimes

-- no message fails it but for a lifetime
for_lifetime : (now : Option ℕ) (m : Message) (e : Refusal) → first_failing (lifetime_rules now m) ≡ Some e → e ≡ refusals.LifetimeOutside
for_lifetime None m e h = absurd (none-some e h)
for_lifetime (Some now) (messages.Public p) e h = by_test (content_is_timely now p.auth.content.content) h
  where
    by_test : (b : Bool) → first_failing (rule refusals.LifetimeOutside b ∷ []) ≡ Some e → e ≡ refusals.LifetimeOutside
    by_test true h = absurd (none-some e h)
    by_test false h = sym (same_Some refusals.LifetimeOutside e h)
for_lifetime (Some now) (messages.Unread _ _) e h = absurd (none-some e h)
for_lifetime (Some now) (messages.GroupInfo _) e h = absurd (none-some e h)
for_lifetime (Some now) (messages.KeyPackage _) e h = absurd (none-some e h)

-- nor is it out of memory
lifetime_no_memory : (f : Refusal) → f ≡ refusals.LifetimeOutside → ◌≡◌ {A = Result Taken Refusal} (Err f) (Err refusals.OutOfMemory) → ⊥
lifetime_no_memory f e same = absurd cc

module _ (now : Option ℕ) (G : VerifyFn) (s : State) (bytes : List ℕ) where
  -- what the other rules accept, and this one too
  accepted_at : (a : IsAcceptable G s bytes) → first_failing (lifetime_rules now a.message) ≡ None → IsAcceptableAt now G s bytes
  accepted_at a timely = record {
    message = a.message;
    encoded = a.encoded;
    required = a.required;
    requires = a.requires;
    rules_hold = first_failing-right (all_rules G s a.required a.message) (lifetime_rules now a.message) a.rules_hold ∙ timely;
  }

  -- what the other rules accept, and this one refuses
  outside_at : (a : IsAcceptable G s bytes) (e : Refusal) → first_failing (lifetime_rules now a.message) ≡ Some e → IsFirstRefusalAt now G s bytes e
  outside_at a e fails = inr (record {
    message = a.message;
    encoded = a.encoded;
    required = a.required;
    requires = a.requires;
    fails = first_failing-right (all_rules G s a.required a.message) (lifetime_rules now a.message) a.rules_hold ∙ fails;
  })

  pub refusal_at : (e : Refusal) → IsFirstRefusal G s bytes e → IsFirstRefusalAt now G s bytes e
  refusal_at e (inl none) = inl none
  refusal_at e (inr h) = inr (record {
    message = h.message;
    encoded = h.encoded;
    required = h.required;
    requires = h.requires;
    fails = first_failing-left (all_rules G s h.required h.message) (lifetime_rules now h.message) e h.fails;
  })

  -- the lifetimes are in order
  timely : (h : IsAcceptableAt now G s bytes) → first_failing (lifetime_rules now h.message) ≡ None
  timely h = (passed_both (all_rules G s h.required h.message) (lifetime_rules now h.message) (record { none = h.rules_hold })).1.none

pub refusals_stay_at_times : RefusalsStayAtTimes
refusals_stay_at_times now G s bytes e h = refusal_at now G s bytes e h

pub accepted_or_outside : AcceptedOrOutside
accepted_or_outside now G s bytes a = by_rule (first_failing (lifetime_rules (Some now) a.message)) refl
  where
    by_rule : (o : Option Refusal) → first_failing (lifetime_rules (Some now) a.message) ≡ o
        → IsAcceptableAt (Some now) G s bytes ⊎ IsFirstRefusalAt (Some now) G s bytes refusals.LifetimeOutside
    by_rule None e = inl (accepted_at (Some now) G s bytes a e)
    by_rule (Some f) e =
        inr (subst (IsFirstRefusalAt (Some now) G s bytes) (for_lifetime (Some now) a.message f e) (outside_at (Some now) G s bytes a f e))

-- ---- there is one answer

-- bytes are the encoding of one message
same_message : (bytes : List ℕ) (m n : Message) → message m ≡ Some bytes → message n ≡ Some bytes → m ≡ n
same_message bytes m n a b = same_Some m n (sym (message_again m bytes a) ∙ message_again n bytes b)

module _ (now : Option ℕ) (G : VerifyFn) (s : State) (bytes : List ℕ) where
  -- what two readings of the bytes say of the rules is one
  same_rules : (m n : Message) (p q : RequiredCapabilities) → message m ≡ Some bytes → message n ≡ Some bytes → Requires s.context p → Requires s.context q
      → first_failing (all_rules_at now G s p m) ≡ first_failing (all_rules_at now G s q n)
  same_rules m n p q a b u v =
      λ i. first_failing (all_rules_at now G s (Requires-one s.context p q u v i) (same_message bytes m n a b i))

  never_both : (e : Refusal) → IsAcceptableAt now G s bytes → IsFirstRefusalAt now G s bytes e → ⊥
  never_both e a (inl none) = none.1 a.message a.encoded
  never_both e a (inr f) =
      none-some e (sym a.rules_hold
      ∙ same_rules a.message f.message a.required f.required a.encoded.encoded f.encoded.encoded a.requires f.requires ∙ f.fails)

  one_refusal : (e f : Refusal) → IsFirstRefusalAt now G s bytes e → IsFirstRefusalAt now G s bytes f → e ≡ f
  one_refusal e f (inl a) (inl b) = a.0 ∙ sym b.0
  one_refusal e f (inl a) (inr b) = absurd (a.1 b.message b.encoded)
  one_refusal e f (inr a) (inl b) = absurd (b.1 a.message a.encoded)
  one_refusal e f (inr a) (inr b) =
      same_Some e f (sym a.fails
      ∙ same_rules a.message b.message a.required b.required a.encoded.encoded b.encoded.encoded a.requires b.requires ∙ b.fails)

  own : (e : Refusal) → (◌≡◌ {A = Result Taken Refusal} (Err e) (Err refusals.OutOfMemory) → ⊥) → e ≢ refusals.OutOfMemory
  own e memory same = memory (ap Err same)

  pub without : (taken : Taken) (new : State) → IsAnswerAt now G s bytes (Ok taken) new → IsAnswer G s bytes (Ok taken) new
  without taken new h = record { takes = (timed_accepted now G s bytes h.takes.0, h.takes.1); memory = λ e. absurd cc }

  one_answer : (a b : Result Taken Refusal) (x y : State) → IsAnswerAt now G s bytes a x → IsAnswerAt now G s bytes b y → (a ≡ b) × (x ≡ y)
  one_answer (Ok t) (Ok u) x y p q = only_answer G s bytes (Ok t) (Ok u) x y (without t x p) (without u y q)
  one_answer (Ok t) (Err f) x y p q = absurd (never_both f p.takes.0 (q.takes.1 (own f q.memory)))
  one_answer (Err e) (Ok u) x y p q = absurd (never_both e q.takes.0 (p.takes.1 (own e p.memory)))
  one_answer (Err e) (Err f) x y p q =
      (ap Err (one_refusal e f (p.takes.1 (own e p.memory)) (q.takes.1 (own f q.memory))), p.takes.0 ∙ sym q.takes.0)

  -- the answer at a time is that without one, or a refusal for a lifetime
  at_time : (answer : Result Taken Refusal) (new : State) → IsAnswer G s bytes answer new → HasAnswerAt now G s bytes
  at_time (Ok taken) new h = by_rule (first_failing (lifetime_rules now h.takes.0.message)) refl
    where
      by_rule : (o : Option Refusal) → first_failing (lifetime_rules now h.takes.0.message) ≡ o → HasAnswerAt now G s bytes
      by_rule None e = (Ok taken, new, record { takes = (accepted_at now G s bytes h.takes.0 e, h.takes.1); memory = h.memory })
      by_rule (Some f) e = (
        Err f,
        s,
        record {
          takes = (refl, λ _. outside_at now G s bytes h.takes.0 f e);
          memory = λ same. lifetime_no_memory f (for_lifetime now h.takes.0.message f e) same;
        },
      )
  at_time (Err e) new h = (
    Err e,
    new,
    record { takes = (h.takes.0, λ mine. refusal_at now G s bytes e (h.takes.1 mine)); memory = h.memory },
  )

pub one_timed_answer : TimedAnswerIsUnique
one_timed_answer now G s bytes a b x y p q = one_answer now G s bytes a b x y p q

pub timed_answer : TimedAnswerExists
timed_answer now G s required bytes held requires =
    let h = an_answer G s required bytes held requires in at_time now G s bytes h.0 h.1 h.2

-- ---- fewer rules at one time

strict_bounded : (r : StrictRule) → strict_number r ≤ 53
strict_bounded rules.TagLength = omega arith
strict_bounded rules.ExtensionRepeated = omega arith
strict_bounded rules.ExtensionMisplaced = omega arith
strict_bounded rules.ExtensionUnreadable = omega arith
strict_bounded rules.KeyForm = omega arith
strict_bounded rules.CiphertextForm = omega arith
strict_bounded rules.GroupUnlisted = omega arith
strict_bounded rules.DefaultListed = omega arith
strict_bounded rules.LifetimeEmpty = omega arith
strict_bounded rules.CertificateKey = omega arith
strict_bounded rules.PskAhead = omega arith
strict_bounded rules.GroupExtensionUnsupported = omega arith
strict_bounded rules.PointOffCurve = omega arith

module _ (now : Option ℕ) (G : VerifyFn) (s : State) (asked more : Rules) (bytes : List ℕ) (includes : Includes more asked) where
  fewer_at : IsAcceptableAt now G (with_rules s more) bytes → IsAcceptableAt now G (with_rules s asked) bytes
  fewer_at h =
      let a = timed_accepted now G (with_rules s more) bytes h in
      let b = fewer_accept G s asked more bytes includes a in
      let same = ap (λ (m : Message). first_failing (lifetime_rules now m)) (same_message bytes b.message h.message b.encoded.encoded h.encoded.encoded) in
      accepted_at now G (with_rules s asked) bytes b (same ∙ timely now G (with_rules s more) bytes h)

  fewer_outside : (e : Refusal) → IsAcceptable G (with_rules s more) bytes → IsFirstRefusalAt now G (with_rules s more) bytes e → IsFirstRefusalAt now G (with_rules s asked) bytes e
  fewer_outside e a (inl none) = absurd (none.1 a.message a.encoded)
  fewer_outside e a (inr f) =
      let b = fewer_accept G s asked more bytes includes a in
      let same = ap (λ (m : Message). first_failing (lifetime_rules now m)) (same_message bytes b.message a.message b.encoded.encoded a.encoded.encoded) in
      let fails = sym (first_failing-right (all_rules G (with_rules s more) a.required a.message) (lifetime_rules now a.message) a.rules_hold)
      ∙ same_rules now G (with_rules s more) bytes a.message f.message a.required f.required a.encoded.encoded f.encoded.encoded a.requires f.requires ∙ f.fails in
      outside_at now G (with_rules s asked) bytes b e (same ∙ fails)

  abbrev MoreRefused : Refusal → Type 0
  MoreRefused e = (f : Refusal) × IsFirstRefusalAt now G (with_rules s more) bytes f × (number_of f ≤ number_of e)

  -- a refusal without the time stays, or an earlier one comes
  more_plain : (e : Refusal) → IsFirstRefusal G (with_rules s asked) bytes e → MoreRefused e
  more_plain e h =
      let w = more_refuse G s asked more bytes e includes h in
      (w.0, refusal_at now G (with_rules s more) bytes w.0 w.1, w.4)

  -- what fewer rules accept, more rules refuse for a strict one, or for a lifetime as well
  more_outside : (a : IsAcceptable G (with_rules s asked) bytes) → first_failing (lifetime_rules now a.message) ≡ Some refusals.LifetimeOutside → MoreRefused refusals.LifetimeOutside
  more_outside a fails = by_rules (first_failing (all_rules G (with_rules s more) a.required a.message)) refl
    where
      encoded : EncodesMessage (with_rules s more).profile a.message bytes
      encoded = record { encoded = a.encoded.encoded; allowed = a.encoded.allowed; bounded = a.encoded.bounded }

      plain : first_failing (message_rules G s a.required a.message) ≡ None
      plain = plain_kept_by G s a.required asked a.message a.rules_hold

      by_first : (o : Option StrictRule) → first_failed more s a.message ≡ o → (f : Refusal) → option_map refusals.Strict o ≡ Some f
          → IsFirstRefusalAt now G (with_rules s more) bytes f → MoreRefused refusals.LifetimeOutside
      by_first None e f same h = absurd (none-some f same)
      by_first (Some r) e f same h =
          let le : number_of (refusals.Strict r) ≤ 53 = strict_bounded r in
          (f, h, subst (λ (x : Refusal). number_of x ≤ 53) (same_Some (refusals.Strict r) f same) le)

      by_rules : (o : Option Refusal) → first_failing (all_rules G (with_rules s more) a.required a.message) ≡ o → MoreRefused refusals.LifetimeOutside
      by_rules None e = (
        refusals.LifetimeOutside,
        outside_at now G (with_rules s more) bytes
            (record { message = a.message; encoded = encoded; required = a.required; requires = a.requires; rules_hold = e })
            refusals.LifetimeOutside fails,
        omega arith,
      )
      by_rules (Some f) e =
          by_first (first_failed more s a.message) refl f (sym (least_refuses G s more a.required a.message plain) ∙ e)
          (refusal_at now G (with_rules s more) bytes f
          (inr (record { message = a.message; encoded = encoded; required = a.required; requires = a.requires; fails = e })))

  more_at : (e : Refusal) → IsFirstRefusalAt now G (with_rules s asked) bytes e → MoreRefused e
  more_at e (inl none) = more_plain e (inl none)
  more_at e (inr h) = by_rules (first_failing (all_rules G (with_rules s asked) h.required h.message)) refl
    where
      by_rules : (o : Option Refusal) → first_failing (all_rules G (with_rules s asked) h.required h.message) ≡ o → MoreRefused e
      by_rules None kept =
          let a : IsAcceptable G (with_rules s asked) bytes = record { message = h.message; encoded = h.encoded; required = h.required; requires = h.requires; rules_hold = kept } in
          let late : first_failing (lifetime_rules now h.message) ≡ Some e =
          sym (first_failing-right (all_rules G (with_rules s asked) h.required h.message) (lifetime_rules now h.message) kept) ∙ h.fails in
          let is = for_lifetime now h.message e late in
          subst MoreRefused (sym is) (more_outside a (late ∙ ap Some is))
      by_rules (Some f) fails =
          let same : f ≡ e = same_Some f e (sym (first_failing-left (all_rules G (with_rules s asked) h.required h.message) (lifetime_rules now h.message) f fails) ∙ h.fails) in
          more_plain e (inr (record { message = h.message; encoded = h.encoded; required = h.required; requires = h.requires; fails = fails ∙ ap Some same }))

pub fewer_accept_at_times : FewerAcceptAtTimes
fewer_accept_at_times now G s asked more bytes includes h = fewer_at now G s asked more bytes includes h

pub more_refuse_at_times : MoreRefuseAtTimes
more_refuse_at_times now G s asked more bytes e includes h = more_at now G s asked more bytes includes e h

pub fewer_refuse_at_times : FewerRefuseAtTimes
fewer_refuse_at_times now G s asked more bytes e includes a h = fewer_outside now G s asked more bytes includes e a h
