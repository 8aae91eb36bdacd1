-- The pending proposals of a file: they lead to one state or fail at one entry, and one of the two there is.
use Rattle.std.proofs.Common.{◌≡◌, ◌∙◌, ℕ, zero, suc, List, [], ◌∷◌, ◌≤◌, length, Bool, true, false, Option, Some, None, Result, Ok, Err, ◌++◌, refl, sym, ap, subst, inl, inr}
use Rattle.std.specs.Prelude.{◌⊎◌}
use Rattle.std.proofs.lemmas.Bool.{false≢true}
use Rattle.std.proofs.lemmas.Option.{none-some, same_Some}
use Rattle.mls_wire.specs.Limits.{input_limit}
use Rattle.mls_check.specs.Signatures.{VerifyFn}
use Rattle.mls_follow.proofs.Readings.{fits_or_not, same_or_not}
use Rattle.mls_msgs.specs.Message.{message}
use Rattle.mls_msgs.specs.Profile.{is_in, is_members_message}
use Rattle.mls_msgs.specs.declared.authenticated.AuthenticatedParts.{AuthenticatedParts}
use Rattle.mls_apply.specs.declared.refusal.Refusal.{Refusal}
use Rattle.mls_follow.specs.State.{State, EncodesMessage}
use Rattle.mls_follow.specs.Runs.{IsAnswer, IsTransition}
use Rattle.mls_follow.specs.Resumption.{FailsEntry, HoldEntries, Holds, entry_message}
use Rattle.mls_follow.specs.declared.taken.Taken.{Taken}
use Rattle.mls_follow.specs.declared.taken.Taken.TheVariants as takens
use Rattle.mls_follow.proofs.Answering.{only_answer}
use Rattle.mls_follow.proofs.Deciding.{an_answer}
use Rattle.mls_follow.proofs.Holding.{IsSteady, taken_steady}

module _ (G : VerifyFn) where
  -- a transition that is accepted is an answer
  accepted_answer : (s : State) (bytes : List ℕ) (taken : Taken) (new : State) → IsTransition G s bytes (Ok taken) new → IsAnswer G s bytes (Ok taken) new
  accepted_answer s bytes taken new h = record { takes = h; memory = λ e. cc }

  -- two encodings of an entry's message are equal
  same_bytes : (s : State) (a : AuthenticatedParts) (b c : List ℕ) → EncodesMessage s.profile (entry_message a) b → EncodesMessage s.profile (entry_message a) c → b ≡ c
  same_bytes s a b c p q = same_Some b c (sym p.encoded ∙ q.encoded)

  -- an entry that is held is the answer to its message
  held_answer : (s : State) (a : AuthenticatedParts) (bytes : List ℕ) (answer : Result Taken Refusal) (x new : State)
      → EncodesMessage s.profile (entry_message a) bytes → IsAnswer G s bytes answer x → (h : Holds G s a new)
      → (answer ≡ Ok (takens.Proposal h.accepts.reference)) × (x ≡ new)
  held_answer s a bytes answer x new e is h =
      only_answer G s bytes answer (Ok (takens.Proposal h.accepts.reference)) x new is
      (accepted_answer s bytes (takens.Proposal h.accepts.reference) new
      (subst (λ (b : List ℕ). IsTransition G s b (Ok (takens.Proposal h.accepts.reference)) new)
      (same_bytes s a h.accepts.bytes bytes h.accepts.encoded e) h.accepts.accepted))

  pub one_held : (s : State) (a : AuthenticatedParts) (t u : State) → Holds G s a t → Holds G s a u → t ≡ u
  one_held s a t u p q =
      (held_answer s a p.accepts.bytes (Ok (takens.Proposal p.accepts.reference)) t u p.accepts.encoded
      (accepted_answer s p.accepts.bytes (takens.Proposal p.accepts.reference) t p.accepts.accepted) q).1

  pub one_new : (s : State) (es : List AuthenticatedParts) (t u : State) → HoldEntries G s es t → HoldEntries G s es u → t ≡ u
  one_new s [] t u p q = p ∙ sym q
  one_new s (a ∷ es) t u p q =
      one_new q.0 es t u (subst (λ (mid : State). HoldEntries G mid es t) (one_held s a p.0 q.0 p.1 q.1) p.2) q.2

  pub not_both : (s : State) (es : List AuthenticatedParts) (new : State) (n : ℕ) → HoldEntries G s es new → FailsEntry G s es n → ⊥
  not_both s [] new n p q = q
  not_both s (a ∷ es) new zero p q = q p.0 p.1
  not_both s (a ∷ es) new (suc n) p q =
      not_both q.0 es new n (subst (λ (mid : State). HoldEntries G mid es new) (one_held s a p.0 q.0 p.1 q.1) p.2) q.2

  pub one_failing : (s : State) (es : List AuthenticatedParts) (m n : ℕ) → FailsEntry G s es m → FailsEntry G s es n → m ≡ n
  one_failing s [] m n p q = absurd p
  one_failing s (a ∷ es) zero zero p q = refl
  one_failing s (a ∷ es) zero (suc n) p q = absurd (p q.0 q.1)
  one_failing s (a ∷ es) (suc m) zero p q = absurd (q p.0 p.1)
  one_failing s (a ∷ es) (suc m) (suc n) p q =
      ap suc (one_failing q.0 es m n (subst (λ (mid : State). FailsEntry G mid es m) (one_held s a p.0 q.0 p.1 q.1) p.2) q.2)

  -- ---- one of the two there is

  module _ (s : State) (steady : IsSteady s) (a : AuthenticatedParts) where
    abbrev HeldOrNot : Type 0
    HeldOrNot = ((new : State) × Holds G s a new) ⊎ ((new : State) → Holds G s a new → ⊥)

    by_answer : (bytes : List ℕ) → EncodesMessage s.profile (entry_message a) bytes → a.wire_format ≡ 1
        → (answer : Result Taken Refusal) (new : State) → IsAnswer G s bytes answer new → HeldOrNot
    by_answer bytes e format (Ok (takens.Proposal reference)) new is =
        inl (new, record { format = format; accepts = record { bytes = bytes; encoded = e; reference = reference; accepted = is.takes } })
    by_answer bytes e format (Ok (takens.Commit epoch)) new is =
        inr (λ other h. (let same = (held_answer s a bytes (Ok (takens.Commit epoch)) new other e is h).0 in absurd (cc)))
    by_answer bytes e format (Err refusal) new is =
        inr (λ other h. (let same = (held_answer s a bytes (Err refusal) new other e is h).0 in absurd (cc)))

    by_bytes : (bytes : List ℕ) → EncodesMessage s.profile (entry_message a) bytes → a.wire_format ≡ 1 → HeldOrNot
    by_bytes bytes e format =
        let w = an_answer G s steady.required bytes steady.held steady.requires in
        by_answer bytes e format w.0 w.1 w.2

    by_length : (bytes : List ℕ) → message (entry_message a) ≡ Some bytes → is_in s.profile (is_members_message (entry_message a)) ≡ true
        → a.wire_format ≡ 1 → HeldOrNot
    by_length bytes e allowed format =
        elim (fits_or_not bytes) [
          | inl le ↦ by_bytes bytes (record { encoded = e; allowed = allowed; bounded = le }) format
          | inr long ↦ inr (λ other h. long (subst (λ (b : List ℕ). length b ≤ input_limit)
              (same_Some h.accepts.bytes bytes (sym h.accepts.encoded.encoded ∙ e)) h.accepts.encoded.bounded))
        ]

    by_profile : (b : Bool) → is_in s.profile (is_members_message (entry_message a)) ≡ b → (bytes : List ℕ) → message (entry_message a) ≡ Some bytes
        → a.wire_format ≡ 1 → HeldOrNot
    by_profile true allowed bytes e format = by_length bytes e allowed format
    by_profile false other bytes e format = inr (λ new h. false≢true (sym other ∙ h.accepts.encoded.allowed))

    by_message : (o : Option (List ℕ)) → message (entry_message a) ≡ o → a.wire_format ≡ 1 → HeldOrNot
    by_message None none format = inr (λ new h. none-some h.accepts.bytes (sym none ∙ h.accepts.encoded.encoded))
    by_message (Some bytes) e format = by_profile (is_in s.profile (is_members_message (entry_message a))) refl bytes e format

    one_held_or_not : HeldOrNot
    one_held_or_not =
        elim (same_or_not a.wire_format 1) [
          | inl format ↦ by_message (message (entry_message a)) refl format
          | inr other ↦ inr (λ new h. other h.format)
        ]

  abbrev HoldsOrFails : State → List AuthenticatedParts → Type 0
  HoldsOrFails s es = ((new : State) × HoldEntries G s es new) ⊎ ((n : ℕ) × FailsEntry G s es n)

  by_rest : (s : State) (a : AuthenticatedParts) (es : List AuthenticatedParts) (mid : State) → Holds G s a mid → HoldsOrFails mid es → HoldsOrFails s (a ∷ es)
  by_rest s a es mid h (inl rest) = inl (rest.0, (mid, h, rest.1))
  by_rest s a es mid h (inr fails) = inr (suc fails.0, (mid, h, fails.1))

  pub held_or_not : (s : State) → IsSteady s → (es : List AuthenticatedParts) → HoldsOrFails s es
  held_or_not s steady [] = inl (s, refl)
  held_or_not s steady (a ∷ es) =
      elim (one_held_or_not s steady a) [
        | inl h ↦ by_rest s a es h.0 h.1
            (held_or_not h.0 (taken_steady G s steady h.1.accepts.bytes (Ok (takens.Proposal h.1.accepts.reference)) h.0 h.1.accepts.accepted) es)
        | inr none ↦ inr (zero, none)
      ]

  -- ---- one more

  pub held_more : (s : State) (es : List AuthenticatedParts) (mid : State) (a : AuthenticatedParts) (new : State) → HoldEntries G s es mid → Holds G mid a new
      → HoldEntries G s (es ++ a ∷ []) new
  held_more s [] mid a new h more = (new, subst (λ (t : State). Holds G t a new) h more, refl)
  held_more s (b ∷ bs) mid a new h more = (h.0, h.1, held_more h.0 bs mid a new h.2 more)
