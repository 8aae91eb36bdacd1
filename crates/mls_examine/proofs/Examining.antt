-- Examinations: any bytes have one answer, and more signatures that are good let more fit.
use Rattle.std.proofs.Common.{◌≡◌, ◌≢◌, ◌∙◌, ◌⊎◌, ℕ, List, None, refl, sym, ap, subst, inl, inr}
use Rattle.mls_check.specs.Signatures.{Extends, VerifyFn}
use Rattle.mls_msgs.specs.Rules.{plain_rules}
use Rattle.mls_msgs.specs.declared.message.Message.{Message}
use Rattle.mls_msgs.specs.declared.message.Message.TheVariants as messages
use Rattle.mls_msgs.specs.declared.profile.Profile.{Profile}
use Rattle.mls_signatures.specs.declared.signature_to_verify.SignatureToVerify.{SignatureToVerify}
use Rattle.mls_follow.specs.Acceptance.{EncodesNoMessage}
use Rattle.mls_follow.specs.CoveredLogs.{all_good}
use Rattle.mls_follow.specs.State.{State, EncodesMessage}
use Rattle.mls_follow.specs.Validity.{IsValidState}
use Rattle.mls_follow.proofs.Answering.{one_message}
use Rattle.mls_start.specs.Inputs.{OfInfo}
use Rattle.mls_start.specs.StartFindings.{IsFindingOf}
use Rattle.mls_start.specs.declared.finding.Finding.{Finding}
use Rattle.mls_start.specs.declared.finding.Finding.TheVariants as findings
use Rattle.mls_start.proofs.FirstStates.{some_finding}
use Rattle.mls_examine.specs.Examinations.{IsExamined, IsExaminedAs, IsUnfit, IsUnfitAs}
use Rattle.mls_examine.specs.GroupLaws.{ExaminationExists, ExaminationsAreCovered, ExaminationsStay, ExaminedIsNotUnfit, ExaminedIsUnique, UnfitIsUnique}
use Rattle.mls_examine.specs.PackageLaws.{AcceptsEach}
use Rattle.mls_examine.specs.declared.examinations.Examined.{Examined}
use Rattle.mls_examine.specs.declared.examinations.Examined.TheVariants as examined
use Rattle.mls_examine.specs.declared.unfit.Unfit.{Unfit}
use Rattle.mls_examine.specs.declared.unfit.Unfit.TheVariants as unfit
use Rattle.mls_examine.proofs.Deciding.{facts_are_unique}
use Rattle.mls_examine.proofs.ExaminedInfos.{covered_fits, fit_info_stays, info_facts, info_or_not, not_fit_and_unfit, one_info_facts, one_info_reason}
use Rattle.mls_examine.proofs.ExaminedPackages.{addable_or_not, addable_stays, covered_is_addable, facts_exist, not_both, one_reason}

-- ---- what bytes encode

module _ (profile : Profile) (bytes : List ℕ) where
  abbrev MessageOrNone : Type 0
  MessageOrNone = ((m : Message) × EncodesMessage profile m bytes) ⊎ EncodesNoMessage profile bytes

  by_finding : (finding : Finding) → IsFindingOf all_good (OfInfo plain_rules profile bytes None) finding → MessageOrNone
  by_finding (findings.InfoUnreadable fault) h = inr h
  by_finding findings.NotGroupInfo h = inl (h.0, h.1)
  by_finding (findings.TreeUnreadable fault) h = inl (messages.GroupInfo h.0, h.1)
  by_finding (findings.StartRefused fault) h = inl (messages.GroupInfo h.0, h.2.is_info)
  by_finding (findings.Starts started) h = inl (messages.GroupInfo h.1.info, h.1.is_read.is_info)
  by_finding (findings.ContextUnreadable fault) h = absurd h
  by_finding findings.UnsupportedVersion h = absurd h
  by_finding findings.UnsupportedSuite h = absurd h
  by_finding findings.RequirementsUnreadable h = absurd h
  by_finding (findings.TreeRefused fault) h = absurd h
  by_finding (findings.MembersRefused fault) h = absurd h
  by_finding (findings.TreeNotStrict fault) h = absurd h
  by_finding (findings.StateRefused fault) h = absurd h
  by_finding (findings.StateNotStrict refused) h = absurd h
  by_finding (findings.TreeValid hash) h = absurd h

  message_or_none : MessageOrNone
  message_or_none = let found = some_finding all_good (OfInfo plain_rules profile bytes None) in by_finding found.0 found.1

-- ---- there is an answer

module _ (G : VerifyFn) (s : State) (bytes : List ℕ) (valid : IsValidState G s) where
  abbrev Answered : Type 0
  Answered = ((x : Examined) × IsExamined G s bytes x) ⊎ ((e : Unfit) × (e ≢ unfit.OutOfMemory) × IsUnfit G s bytes e)

  of_message : (m : Message) → EncodesMessage s.profile m bytes → Answered
  of_message (messages.Public p) is =
      inr (unfit.PublicMessage, (λ same. absurd cc), inr (record { message = messages.Public p; encoded = is; unfit_as = refl }))
  of_message (messages.Unread format body) is =
      inr (unfit.Malformed, (λ same. absurd cc), inr (record { message = messages.Unread format body; encoded = is; unfit_as = refl }))
  of_message (messages.KeyPackage k) is =
      elim (addable_or_not G s k valid.required valid.requires) [
        | inl a ↦
            let facts = facts_exist s a.required k a.no_fault in
            inl (examined.Package facts.0, record { message = messages.KeyPackage k; encoded = is; fit = (a, facts.1) })
        | inr e ↦ inr (e.0, e.1, inr (record { message = messages.KeyPackage k; encoded = is; unfit_as = e.2 }))
      ]
  of_message (messages.GroupInfo info) is =
      elim (info_or_not G s info bytes is) [
        | inl a ↦
            let facts = info_facts s info in
            inl (examined.Info facts.0, record { message = messages.GroupInfo info; encoded = is; fit = (a, facts.1) })
        | inr e ↦ inr (e.0, e.1, inr (record { message = messages.GroupInfo info; encoded = is; unfit_as = e.2 }))
      ]

  answered : Answered
  answered =
      elim (message_or_none s.profile bytes) [
        | inl m ↦ of_message m.0 m.1
        | inr none ↦ inr (unfit.Malformed, (λ same. absurd cc), inl (refl, none))
      ]

pub examination_exists : ExaminationExists
examination_exists G s bytes valid = answered G s bytes valid

-- ---- there is no other

module _ (G : VerifyFn) (s : State) (bytes : List ℕ) where
  fit_or_unfit : (m : Message) (x : Examined) (e : Unfit) → EncodesMessage s.profile m bytes → IsExaminedAs G s m x → IsUnfitAs G s m e → ⊥
  fit_or_unfit (messages.KeyPackage k) (examined.Package facts) e is a b = not_both G s k e a.0 b
  fit_or_unfit (messages.KeyPackage k) (examined.Info facts) e is a b = a
  fit_or_unfit (messages.GroupInfo info) (examined.Package facts) e is a b = a
  fit_or_unfit (messages.GroupInfo info) (examined.Info facts) e is a b = not_fit_and_unfit G s info bytes is e a.0 b
  fit_or_unfit (messages.Public p) x e is a b = a
  fit_or_unfit (messages.Unread format body) x e is a b = a

  not_unfit : (x : Examined) (e : Unfit) → IsExamined G s bytes x → IsUnfit G s bytes e → ⊥
  not_unfit x e a (inl none) = none.1 a.message a.encoded
  not_unfit x e a (inr b) =
      fit_or_unfit b.message x e b.encoded (subst (λ (m : Message). IsExaminedAs G s m x) (one_message a.message b.message bytes a.encoded b.encoded) a.fit) b.unfit_as

  one_as : (m : Message) (x y : Examined) → IsExaminedAs G s m x → IsExaminedAs G s m y → x ≡ y
  one_as (messages.KeyPackage k) (examined.Package facts) (examined.Package other) a b = ap examined.Package (facts_are_unique k facts other a.1 b.1)
  one_as (messages.KeyPackage k) (examined.Package facts) (examined.Info other) a b = absurd b
  one_as (messages.KeyPackage k) (examined.Info facts) y a b = absurd a
  one_as (messages.GroupInfo info) (examined.Package facts) y a b = absurd a
  one_as (messages.GroupInfo info) (examined.Info facts) (examined.Package other) a b = absurd b
  one_as (messages.GroupInfo info) (examined.Info facts) (examined.Info other) a b = ap examined.Info (one_info_facts s info facts other a.1 b.1)
  one_as (messages.Public p) x y a b = absurd a
  one_as (messages.Unread format body) x y a b = absurd a

  one_examined : (x y : Examined) → IsExamined G s bytes x → IsExamined G s bytes y → x ≡ y
  one_examined x y a b =
      one_as b.message x y (subst (λ (m : Message). IsExaminedAs G s m x) (one_message a.message b.message bytes a.encoded b.encoded) a.fit) b.fit

  module _ (valid : IsValidState G s) where
    one_unfit_as : (m : Message) (e f : Unfit) → EncodesMessage s.profile m bytes → IsUnfitAs G s m e → IsUnfitAs G s m f → e ≡ f
    one_unfit_as (messages.KeyPackage k) e f is a b = one_reason G s k valid.required valid.requires e f a b
    one_unfit_as (messages.GroupInfo info) e f is a b = one_info_reason G s info bytes is e f a b
    one_unfit_as (messages.Public p) e f is a b = a ∙ sym b
    one_unfit_as (messages.Unread format body) e f is a b = a ∙ sym b

    one_unfit : (e f : Unfit) → IsUnfit G s bytes e → IsUnfit G s bytes f → e ≡ f
    one_unfit e f (inl a) (inl b) = a.0 ∙ sym b.0
    one_unfit e f (inl a) (inr b) = absurd (a.1 b.message b.encoded)
    one_unfit e f (inr a) (inl b) = absurd (b.1 a.message a.encoded)
    one_unfit e f (inr a) (inr b) =
        one_unfit_as b.message e f b.encoded
        (subst (λ (m : Message). IsUnfitAs G s m e) (one_message a.message b.message bytes a.encoded b.encoded) a.unfit_as) b.unfit_as

pub examined_is_not_unfit : ExaminedIsNotUnfit
examined_is_not_unfit G s bytes x e a b = not_unfit G s bytes x e a b

pub examined_is_unique : ExaminedIsUnique
examined_is_unique G s bytes x y a b = one_examined G s bytes x y a b

pub unfit_is_unique : UnfitIsUnique
unfit_is_unique G s bytes e f valid a b = one_unfit G s bytes valid e f a b

-- ---- a checker that accepts more

module _ (G K : VerifyFn) (s : State) (bytes : List ℕ) (more : Extends G K) where
  stays_as : (m : Message) (x : Examined) → IsExaminedAs G s m x → IsExaminedAs K s m x
  stays_as (messages.KeyPackage k) (examined.Package facts) a = (addable_stays G K s k more a.0, a.1)
  stays_as (messages.KeyPackage k) (examined.Info facts) a = a
  stays_as (messages.GroupInfo info) (examined.Package facts) a = a
  stays_as (messages.GroupInfo info) (examined.Info facts) a = (fit_info_stays G K s info more a.0, a.1)
  stays_as (messages.Public p) x a = a
  stays_as (messages.Unread format body) x a = a

  module _ (qs : List SignatureToVerify) (each : AcceptsEach K qs) where
    covered_as : (m : Message) → EncodesMessage s.profile m bytes → IsUnfitAs G s m (unfit.Unsigned qs) → (x : Examined) × IsExamined K s bytes x
    covered_as (messages.KeyPackage k) is h =
        let facts = facts_exist s h.required k h.no_fault in
        (examined.Package facts.0, record { message = messages.KeyPackage k; encoded = is; fit = (covered_is_addable G K s k qs h more each, facts.1) })
    covered_as (messages.GroupInfo info) is h =
        let facts = info_facts s info in
        (examined.Info facts.0, record { message = messages.GroupInfo info; encoded = is; fit = (covered_fits G K s info qs h more each, facts.1) })
    covered_as (messages.Public p) is h = absurd cc
    covered_as (messages.Unread format body) is h = absurd cc

    covered : IsUnfit G s bytes (unfit.Unsigned qs) → (x : Examined) × IsExamined K s bytes x
    covered (inl none) = let bad = none.0 in absurd cc
    covered (inr h) = covered_as h.message h.encoded h.unfit_as

pub examinations_stay : ExaminationsStay
examinations_stay G K s bytes x more a = record { message = a.message; encoded = a.encoded; fit = stays_as G K s bytes more a.message x a.fit }

pub examinations_are_covered : ExaminationsAreCovered
examinations_are_covered G K s bytes qs h more each = covered G K s bytes more qs each h
