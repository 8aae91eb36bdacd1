-- A follower resumes from a file with strict rules added, in one state, or there is one finding for which none does.
use Rattle.std.proofs.Common.{◌≡◌, ◌≢◌, ◌∙◌, ℕ, List, false, refl, sym, ap, subst, inl, inr}
use Rattle.std.specs.Prelude.{◌⊎◌}
use Rattle.mls_check.specs.Signatures.{VerifyFn}
use Rattle.mls_msgs.specs.declared.rules.Rules.{Rules}
use Rattle.mls_follow.proofs.Resumable.{resumed_resumable}
use Rattle.mls_follow.proofs.Resumed.{one_resumption, no_resume_fault, one_resume_fault}
use Rattle.mls_follow.proofs.ResumedOrNot.{some_resumption}
use Rattle.mls_follow.proofs.StrictnessKept.{added_rules_keep_strictness}
use Rattle.mls_follow.specs.AddedRules.{HasAddedRules, IsStrictRefused}
use Rattle.mls_follow.specs.Resumption.{IsResumed}
use Rattle.mls_follow.specs.State.{State}
use Rattle.mls_follow.specs.StrictnessKept.{IsStrictState}
use Rattle.mls_follow.specs.declared.added_rules.StrictRefused.{StrictRefused}
use Rattle.mls_follow.specs.declared.added_rules.StrictRefused.TheVariants as stricts
use Rattle.mls_start.specs.Finding.{is_valid}
use Rattle.mls_start.specs.FindingLaws.{AreAlike}
use Rattle.mls_start.specs.Inputs.{OfState}
use Rattle.mls_start.specs.StartFailures.{Says}
use Rattle.mls_start.specs.StartFindings.{Declines, IsResumedWith, IsStateFinding, started_of}
use Rattle.mls_start.specs.StartSteps.{IsNotStrict}
use Rattle.mls_start.specs.declared.finding.Finding.{Finding}
use Rattle.mls_start.specs.declared.finding.Finding.TheVariants.{StateRefused, StateNotStrict, Starts}
use Rattle.mls_start.specs.declared.start_bytes.StartFailure.{StartFailure}
use Rattle.mls_start.specs.declared.start_bytes.StartFailure.TheVariants.{Found, OutOfMemory}
use Rattle.mls_follow.proofs.AddedOnce.{added_or_refused, one_added, no_refusal, one_refused}

module _ (asked : Rules) (G : VerifyFn) (bytes : List ℕ) where
  -- two resumptions are in one state
  moved : (P : State → Type 0) (s t : State) → IsResumed G bytes s → IsResumed G bytes t → P s → P t
  moved P s t a b h = subst P (one_resumption G bytes s t a b) h

  pub one_resumed_with : (s t : State) → IsResumedWith asked G bytes s → IsResumedWith asked G bytes t → s ≡ t
  one_resumed_with s t a b =
      one_added asked b.resumed s t
      (moved (λ (u : State). HasAddedRules asked u s) a.resumed b.resumed a.is_resumed b.is_resumed a.is_added) b.is_added

  -- where a follower resumes with the rules, nothing speaks against adding them
  no_refusal_with : (s u : State) (refused : StrictRefused) → IsResumedWith asked G bytes s → IsResumed G bytes u → refused ≢ stricts.OutOfMemory
      → IsStrictRefused asked u refused → ⊥
  no_refusal_with s u refused h resumed own fails =
      no_refusal asked h.resumed s refused own h.is_added
      (moved (λ (v : State). IsStrictRefused asked v refused) u h.resumed resumed h.is_resumed fails)

  pub one_state_finding : (f g : Finding) → IsStateFinding asked G bytes f → IsStateFinding asked G bytes g → AreAlike f g
  one_state_finding (StateRefused x) (StateRefused y) a b = one_resume_fault G bytes x y a.0 b.0 a.1 b.1
  one_state_finding (StateRefused x) (StateNotStrict y) a b = absurd (no_resume_fault G bytes b.0 x b.1 a.0 a.1)
  one_state_finding (StateRefused x) (Starts y) a b = absurd (no_resume_fault G bytes b.1.resumed x b.1.is_resumed a.0 a.1)
  one_state_finding (StateNotStrict x) (StateRefused y) a b = absurd (no_resume_fault G bytes a.0 y a.1 b.0 b.1)
  one_state_finding (StateNotStrict x) (StateNotStrict y) a b =
      ap StateNotStrict (one_refused asked b.0 x y a.2 b.2 (moved (λ (u : State). IsStrictRefused asked u x) a.0 b.0 a.1 b.1 a.3) b.3)
  one_state_finding (StateNotStrict x) (Starts y) a b = absurd (no_refusal_with b.0 a.0 x b.1 a.1 a.2 a.3)
  one_state_finding (Starts x) (StateRefused y) a b = absurd (no_resume_fault G bytes a.1.resumed y a.1.is_resumed b.0 b.1)
  one_state_finding (Starts x) (StateNotStrict y) a b = absurd (no_refusal_with a.0 b.0 y a.1 b.1 b.2 b.3)
  one_state_finding (Starts x) (Starts y) a b = ap Starts (a.2 ∙ ap started_of (one_resumed_with a.0 b.0 a.1 b.1) ∙ sym b.2)
  one_state_finding (StateRefused x) _ a b = absurd b
  one_state_finding (StateNotStrict x) _ a b = absurd b
  one_state_finding (Starts x) _ a b = absurd b
  one_state_finding _ _ a b = absurd a

  -- a follower resumes, or something is found for which none does
  pub resumed_with_or_not : ((s : State) × IsResumedWith asked G bytes s)
      ⊎ ((finding : Finding) × IsStateFinding asked G bytes finding × (is_valid finding ≡ false))
  resumed_with_or_not =
      elim (some_resumption G bytes) [
        | inl r ↦
            elim (added_or_refused asked r.0) [
              | inl s ↦ inl (s.0, record { resumed = r.0; is_resumed = r.1; is_added = s.1 })
              | inr f ↦ inr (StateNotStrict f.0, (r.0, r.1, f.1, f.2), refl)
            ]
        | inr f ↦ inr (StateRefused f.0, (f.1, f.2), refl)
      ]

  -- what is said where the rules cannot be added
  pub says_not_strict : (s : State) → IsResumed G bytes s → (failure : StartFailure) → Says (IsNotStrict asked s) failure
      → Says (Declines G (OfState asked bytes)) failure
  says_not_strict s resumed (Found finding) h =
      subst (Declines G (OfState asked bytes)) (sym h.finding_is) (record { found = (s, resumed, h.not_out_of_memory, h.fails); not_valid = refl })
  says_not_strict s resumed OutOfMemory h = tt

  -- a follower resumes in a state that meets the strict rules of the file
  pub resumed_with_strict : (s : State) → IsResumedWith asked G bytes s → IsStrictState s
  resumed_with_strict s h = added_rules_keep_strictness asked h.resumed s (resumed_resumable G bytes h.resumed h.is_resumed).strict h.is_added
