-- From bytes a follower resumes in one state or there is one fault, and one of the two there is.
use Rattle.std.proofs.Common.{◌≡◌, ◌≢◌, ◌∙◌, ℕ, List, true, Some, None, refl, sym, ap, subst, inl, inr}
use Rattle.std.specs.Prelude.{◌⊎◌}
use Rattle.std.proofs.lemmas.Option.{none-some, same_Some}
use Rattle.mls_wire.specs.ExactTheorems.{one_value}
use Rattle.mls_nodes.specs.declared.required_capabilities.RequiredCapabilities.{RequiredCapabilities}
use Rattle.mls_tree.specs.RatchetTree.{RatchetTree}
use Rattle.mls_check.proofs.GroupTreeAnswers.{fault-no_members, group_tree_fault-unique}
use Rattle.mls_check.specs.GroupTree.{IsSupportedContext, HasMembers, FailsSuite, IsGroupTreeFault}
use Rattle.mls_check.specs.Signatures.{VerifyFn}
use Rattle.mls_check.specs.declared.group_tree.GroupTreeFault.{GroupTreeFault}
use Rattle.mls_check.specs.declared.group_tree.GroupTreeFault.TheVariants as groups
use Rattle.mls_state.specs.Layout.{state_file}
use Rattle.mls_state.specs.Parsing.{state_file_at}
use Rattle.mls_state.specs.StateExact.{state_file_exact}
use Rattle.mls_state.specs.StateFile.{HasChecksum}
use Rattle.mls_state.specs.declared.state.FollowerState.{FollowerState}
use Rattle.mls_follow.specs.State.{State}
use Rattle.mls_follow.specs.StoredState.{IsTreeBody, IsIntact}
use Rattle.mls_follow.specs.AddedRules.{HasAddedRules, IsStrictRefused}
use Rattle.mls_follow.specs.Resumption.{IsReadableFile, HasInterim, FailsEntry, FailsInterim, FailsStrict, HoldEntries, added_misfit, IsStateOf, IsContentFault, IsResumed, IsUnreadableFile, HasOtherChecksum, InFile, IsResumeFault, base_state}
use Rattle.mls_follow.specs.ResumptionParts.{resume_fault_of, resume_fault_of_strict}
use Rattle.mls_follow.specs.StoredRuns.{ResumptionIsUnique, ResumptionHasNoFault, ResumeFaultIsUnique, is_unreadable}
use Rattle.mls_follow.specs.declared.resume_fault.ResumeFault.{ResumeFault}
use Rattle.mls_follow.specs.declared.resume_fault.ResumeFault.TheVariants.{Unreadable, ChecksumDiffers, UnsupportedVersion, UnsupportedSuite, RequirementsUnreadable, Tree, Member, InterimLength, KnownInvalid, AddedInvalid, Strict, KnownStrict, OutOfMemory}
use Rattle.mls_follow.specs.declared.added_rules.StrictRefused.{StrictRefused}
use Rattle.mls_follow.specs.declared.added_rules.StrictRefused.TheVariants as refused
use Rattle.mls_follow.proofs.AddedOnce.{no_refusal, one_added, one_refused}
use Rattle.mls_follow.proofs.Pending.{one_new, not_both, one_failing}
use Rattle.mls_follow.proofs.StoredStates.{same_content, same_tree}

-- ---- of a content

module _ (G : VerifyFn) (c : FollowerState) (t : RatchetTree) where
  abbrev Own : RatchetTree → Type 0
  Own u = u ≡ t

  -- what follows the interim transcript hash: an entry, a reference of those that were added, or a strict rule
  abbrev pub Late : ResumeFault → Type 0
  Late f =
      ((n : ℕ) × (f ≡ KnownInvalid n) × FailsEntry G (base_state c t) c.known n)
      ⊎ (((n : ℕ) × (f ≡ AddedInvalid n) × (s : State) × HoldEntries G (base_state c t) c.known s × (added_misfit c.context.cipher_suite t.tree c.added ≡ Some n))
      ⊎ ((e : StrictRefused) × (f ≡ resume_fault_of_strict e) × (e ≢ refused.OutOfMemory) × (s : State) × HoldEntries G (base_state c t) c.known s
      × (added_misfit c.context.cipher_suite t.tree c.added ≡ None) × IsStrictRefused c.rules (record s { added = c.added }) e))

  -- the stage at which a fault is found
  abbrev pub Stage : ResumeFault → Type 0
  Stage f =
      ((f ≡ UnsupportedVersion) × (c.context.version ≢ 1))
      ⊎ (((f ≡ UnsupportedSuite) × FailsSuite c.context)
      ⊎ (((g : GroupTreeFault) × (f ≡ resume_fault_of g) × (g ≢ groups.OutOfMemory) × IsGroupTreeFault G c.context Own g)
      ⊎ (((f ≡ InterimLength) × FailsInterim G c t)
      ⊎ (HasInterim G c t × Late f))))

  strict_late : (e : StrictRefused) → e ≢ refused.OutOfMemory → FailsStrict G c t e → HasInterim G c t × Late (resume_fault_of_strict e)
  strict_late e own h =
      let plain = h.is_plain in
      (plain.has_interim, inr (inr (e, refl, own, plain.with_pending, plain.held, plain.added_fit, subst (λ (s : State). IsStrictRefused c.rules s e) plain.state h.fails)))

  stage : (f : ResumeFault) → f ≢ OutOfMemory → IsContentFault G c t f → Stage f
  stage (Unreadable cause) own h = absurd h
  stage ChecksumDiffers own h = absurd h
  stage UnsupportedVersion own h = inl (refl, h)
  stage UnsupportedSuite own h = inr (inl (refl, h))
  stage RequirementsUnreadable own h = inr (inr (inl (groups.RequirementsUnreadable, refl, (λ e. cc), h)))
  stage (Tree f) own h = inr (inr (inl (groups.Tree f, refl, (λ e. cc), h)))
  stage (Member f) own h = inr (inr (inl (groups.Member f, refl, (λ e. cc), h)))
  stage InterimLength own h = inr (inr (inr (inl (refl, h))))
  stage (KnownInvalid n) own h = inr (inr (inr (inr (h.has_interim, inl (n, refl, h.fails)))))
  stage (AddedInvalid n) own h = inr (inr (inr (inr (h.has_interim, inr (inl (n, refl, h.with_pending, h.held, h.misfit))))))
  stage (Strict fault) own h = inr (inr (inr (inr (strict_late (refused.Group fault) (λ e. cc) h))))
  stage (KnownStrict n) own h = inr (inr (inr (inr (strict_late (refused.Known n) (λ e. cc) h))))
  stage OutOfMemory own h = absurd (own refl)

  -- the context of a later stage is supported
  fault_followed : (g : GroupTreeFault) → g ≢ groups.OutOfMemory → IsGroupTreeFault G c.context Own g → IsSupportedContext c.context
  fault_followed groups.RequirementsUnreadable own h = h.has_tree.supported
  fault_followed (groups.Tree f) own h = h.readable.has_tree.supported
  fault_followed (groups.Member f) own h = h.valid_tree.readable.has_tree.supported
  fault_followed groups.OutOfMemory own h = absurd (own refl)

  members_followed : (required : RequiredCapabilities) → HasMembers G c.context Own t required → IsSupportedContext c.context
  members_followed required h = h.valid_tree.readable.has_tree.supported

  no_members : (required : RequiredCapabilities) (g : GroupTreeFault) → g ≢ groups.OutOfMemory → HasMembers G c.context Own t required → IsGroupTreeFault G c.context Own g → ⊥
  no_members required g own h f = fault-no_members G c.context t required g h f own

  not_supported : FailsSuite c.context → IsSupportedContext c.context → ⊥
  not_supported f h = f.unsupported h.suite

  -- with all entries the state is one
  one_pending : (r s : State) → HoldEntries G (base_state c t) c.known r → HoldEntries G (base_state c t) c.known s → r ≡ s
  one_pending r s a b = one_new G (base_state c t) c.known r s a b

  one_late : (f g : ResumeFault) → Late f → Late g → f ≡ g
  one_late f g (inl a) (inl b) = a.1 ∙ ap KnownInvalid (one_failing G (base_state c t) c.known a.0 b.0 a.2 b.2) ∙ sym b.1
  one_late f g (inl a) (inr (inl b)) = absurd (not_both G (base_state c t) c.known b.2 a.0 b.3 a.2)
  one_late f g (inl a) (inr (inr b)) = absurd (not_both G (base_state c t) c.known b.3 a.0 b.4 a.2)
  one_late f g (inr (inl a)) (inl b) = absurd (not_both G (base_state c t) c.known a.2 b.0 a.3 b.2)
  one_late f g (inr (inl a)) (inr (inl b)) = a.1 ∙ ap AddedInvalid (same_Some a.0 b.0 (sym a.4 ∙ b.4)) ∙ sym b.1
  one_late f g (inr (inl a)) (inr (inr b)) = absurd (none-some a.0 (sym b.5 ∙ a.4))
  one_late f g (inr (inr a)) (inl b) = absurd (not_both G (base_state c t) c.known a.3 b.0 a.4 b.2)
  one_late f g (inr (inr a)) (inr (inl b)) = absurd (none-some b.0 (sym a.5 ∙ b.4))
  one_late f g (inr (inr a)) (inr (inr b)) =
      a.1 ∙ ap resume_fault_of_strict (one_refused c.rules (record b.3 { added = c.added }) a.0 b.0 a.2 b.2
      (subst (λ (s : State). IsStrictRefused c.rules (record s { added = c.added }) a.0) (one_pending a.3 b.3 a.4 b.4) a.6) b.6) ∙ sym b.1

  no_late : (s : State) (f : ResumeFault) → IsStateOf G c t s → Late f → ⊥
  no_late s f h (inl a) = not_both G (base_state c t) c.known h.is_plain.with_pending a.0 h.is_plain.held a.2
  no_late s f h (inr (inl a)) = none-some a.0 (sym h.is_plain.added_fit ∙ a.4)
  no_late s f h (inr (inr a)) =
      no_refusal c.rules h.without_rules s a.0 a.2 h.made_strict
      (subst (λ (u : State). IsStrictRefused c.rules u a.0)
      (ap (λ (u : State). record u { added = c.added }) (one_pending a.3 h.is_plain.with_pending a.4 h.is_plain.held) ∙ sym h.is_plain.state) a.6)

  one_stage : (f g : ResumeFault) → Stage f → Stage g → f ≡ g
  one_stage f g (inl a) (inl b) = a.0 ∙ sym b.0
  one_stage f g (inl a) (inr (inl b)) = absurd (a.1 b.1.version)
  one_stage f g (inl a) (inr (inr (inl b))) = absurd (a.1 (fault_followed b.0 b.2 b.3).version)
  one_stage f g (inl a) (inr (inr (inr (inl b)))) = absurd (a.1 (members_followed b.1.required b.1.has_members).version)
  one_stage f g (inl a) (inr (inr (inr (inr b)))) = absurd (a.1 (members_followed b.0.required b.0.has_members).version)
  one_stage f g (inr (inl a)) (inl b) = absurd (b.1 a.1.version)
  one_stage f g (inr (inl a)) (inr (inl b)) = a.0 ∙ sym b.0
  one_stage f g (inr (inl a)) (inr (inr (inl b))) = absurd (not_supported a.1 (fault_followed b.0 b.2 b.3))
  one_stage f g (inr (inl a)) (inr (inr (inr (inl b)))) = absurd (not_supported a.1 (members_followed b.1.required b.1.has_members))
  one_stage f g (inr (inl a)) (inr (inr (inr (inr b)))) = absurd (not_supported a.1 (members_followed b.0.required b.0.has_members))
  one_stage f g (inr (inr (inl a))) (inl b) = absurd (b.1 (fault_followed a.0 a.2 a.3).version)
  one_stage f g (inr (inr (inl a))) (inr (inl b)) = absurd (not_supported b.1 (fault_followed a.0 a.2 a.3))
  one_stage f g (inr (inr (inl a))) (inr (inr (inl b))) =
      a.1 ∙ ap resume_fault_of (group_tree_fault-unique G c.context t a.0 b.0 a.2 b.2 a.3 b.3) ∙ sym b.1
  one_stage f g (inr (inr (inl a))) (inr (inr (inr (inl b)))) = absurd (no_members b.1.required a.0 a.2 b.1.has_members a.3)
  one_stage f g (inr (inr (inl a))) (inr (inr (inr (inr b)))) = absurd (no_members b.0.required a.0 a.2 b.0.has_members a.3)
  one_stage f g (inr (inr (inr (inl a)))) (inl b) = absurd (b.1 (members_followed a.1.required a.1.has_members).version)
  one_stage f g (inr (inr (inr (inl a)))) (inr (inl b)) = absurd (not_supported b.1 (members_followed a.1.required a.1.has_members))
  one_stage f g (inr (inr (inr (inl a)))) (inr (inr (inl b))) = absurd (no_members a.1.required b.0 b.2 a.1.has_members b.3)
  one_stage f g (inr (inr (inr (inl a)))) (inr (inr (inr (inl b)))) = a.0 ∙ sym b.0
  one_stage f g (inr (inr (inr (inl a)))) (inr (inr (inr (inr b)))) = absurd (a.1.other b.0.hashed)
  one_stage f g (inr (inr (inr (inr a)))) (inl b) = absurd (b.1 (members_followed a.0.required a.0.has_members).version)
  one_stage f g (inr (inr (inr (inr a)))) (inr (inl b)) = absurd (not_supported b.1 (members_followed a.0.required a.0.has_members))
  one_stage f g (inr (inr (inr (inr a)))) (inr (inr (inl b))) = absurd (no_members a.0.required b.0 b.2 a.0.has_members b.3)
  one_stage f g (inr (inr (inr (inr a)))) (inr (inr (inr (inl b)))) = absurd (b.1.other a.0.hashed)
  one_stage f g (inr (inr (inr (inr a)))) (inr (inr (inr (inr b)))) = one_late f g a.1 b.1

  -- where a follower resumes there is no stage
  no_stage : (s : State) (f : ResumeFault) → IsStateOf G c t s → Stage f → ⊥
  no_stage s f h (inl a) = a.1 (members_followed h.is_plain.has_interim.required h.is_plain.has_interim.has_members).version
  no_stage s f h (inr (inl a)) = not_supported a.1 (members_followed h.is_plain.has_interim.required h.is_plain.has_interim.has_members)
  no_stage s f h (inr (inr (inl a))) = no_members h.is_plain.has_interim.required a.0 a.2 h.is_plain.has_interim.has_members a.3
  no_stage s f h (inr (inr (inr (inl a)))) = a.1.other h.is_plain.has_interim.hashed
  no_stage s f h (inr (inr (inr (inr a)))) = no_late s f h a.1

  pub one_content_fault : (f g : ResumeFault) → f ≢ OutOfMemory → g ≢ OutOfMemory → IsContentFault G c t f → IsContentFault G c t g → f ≡ g
  one_content_fault f g own other a b = one_stage f g (stage f own a) (stage g other b)

  pub no_content_fault : (s : State) (f : ResumeFault) → f ≢ OutOfMemory → IsStateOf G c t s → IsContentFault G c t f → ⊥
  no_content_fault s f own h a = no_stage s f h (stage f own a)

-- ---- of bytes

module _ (G : VerifyFn) (bytes : List ℕ) where
  -- what fails: reading, the checksum, or a condition of the content
  abbrev Kind : ResumeFault → Type 0
  Kind f =
      ((is_unreadable f ≡ true) × IsUnreadableFile bytes)
      ⊎ (((f ≡ ChecksumDiffers) × HasOtherChecksum bytes)
      ⊎ InFile bytes (λ c t. IsContentFault G c t f))

  kind : (f : ResumeFault) → f ≢ OutOfMemory → IsResumeFault G bytes f → Kind f
  kind (Unreadable cause) own h = inl (refl, h)
  kind ChecksumDiffers own h = inr (inl (refl, h))
  kind UnsupportedVersion own h = inr (inr h)
  kind UnsupportedSuite own h = inr (inr h)
  kind RequirementsUnreadable own h = inr (inr h)
  kind (Tree f) own h = inr (inr h)
  kind (Member f) own h = inr (inr h)
  kind InterimLength own h = inr (inr h)
  kind (KnownInvalid n) own h = inr (inr h)
  kind (AddedInvalid n) own h = inr (inr h)
  kind (Strict fault) own h = inr (inr h)
  kind (KnownStrict n) own h = inr (inr h)
  kind OutOfMemory own h = absurd (own refl)

  -- an intact file is readable
  readable : (c : FollowerState) (t : RatchetTree) (h : IsIntact bytes c t) → IsReadableFile bytes h.file.file t
  readable c t h = record {
    encoded = h.file.encoded;
    bounded = h.bounded;
    tree = subst (λ (d : FollowerState). IsTreeBody d.tree t) (sym h.file.state) h.tree;
  }

  -- and has its checksum
  no_other : (c : FollowerState) (t : RatchetTree) → IsIntact bytes c t → HasOtherChecksum bytes → ⊥
  no_other c t h o =
      o.3 (subst HasChecksum (one_value state_file state_file_at state_file_exact h.file.file o.0 bytes h.file.encoded o.2.encoded) h.file.checked)

  same_fault : (f : ResumeFault) (a b : FollowerState) (t u : RatchetTree) → IsIntact bytes a t → IsIntact bytes b u → IsContentFault G a t f → IsContentFault G b u f
  same_fault f a b t u p q h =
      subst (λ (v : RatchetTree). IsContentFault G b v f) (same_tree bytes a b t u p q)
      (subst (λ (d : FollowerState). IsContentFault G d t f) (same_content bytes a b t u p q) h)

  same_state : (s : State) (a b : FollowerState) (t u : RatchetTree) → IsIntact bytes a t → IsIntact bytes b u → IsStateOf G a t s → IsStateOf G b u s
  same_state s a b t u p q h =
      subst (λ (v : RatchetTree). IsStateOf G b v s) (same_tree bytes a b t u p q)
      (subst (λ (d : FollowerState). IsStateOf G d t s) (same_content bytes a b t u p q) h)

  one_kind : (f g : ResumeFault) → f ≢ OutOfMemory → g ≢ OutOfMemory → Kind f → Kind g → (f ≡ g) ⊎ ((is_unreadable f ≡ true) × (is_unreadable g ≡ true))
  one_kind f g own other (inl a) (inl b) = inr (a.0, b.0)
  one_kind f g own other (inl a) (inr (inl b)) = absurd (a.1 b.1.0 b.1.1 b.1.2)
  one_kind f g own other (inl a) (inr (inr b)) = absurd (a.1 b.2.file.file b.1 (readable b.0 b.1 b.2))
  one_kind f g own other (inr (inl a)) (inl b) = absurd (b.1 a.1.0 a.1.1 a.1.2)
  one_kind f g own other (inr (inl a)) (inr (inl b)) = inl (a.0 ∙ sym b.0)
  one_kind f g own other (inr (inl a)) (inr (inr b)) = absurd (no_other b.0 b.1 b.2 a.1)
  one_kind f g own other (inr (inr a)) (inl b) = absurd (b.1 a.2.file.file a.1 (readable a.0 a.1 a.2))
  one_kind f g own other (inr (inr a)) (inr (inl b)) = absurd (no_other a.0 a.1 a.2 b.1)
  one_kind f g own other (inr (inr a)) (inr (inr b)) =
      inl (one_content_fault G b.0 b.1 f g own other (same_fault f a.0 b.0 a.1 b.1 a.2 b.2 a.3) b.3)

  no_kind : (s : State) (f : ResumeFault) → f ≢ OutOfMemory → IsResumed G bytes s → Kind f → ⊥
  no_kind s f own h (inl a) = a.1 h.intact.file.file h.tree (readable h.content h.tree h.intact)
  no_kind s f own h (inr (inl a)) = no_other h.content h.tree h.intact a.1
  no_kind s f own h (inr (inr a)) =
      no_content_fault G a.0 a.1 s f own (same_state s h.content a.0 h.tree a.1 h.intact a.2 h.state) a.3

-- a content is that of one state
one_state_of : (G : VerifyFn) (c : FollowerState) (t : RatchetTree) (r s : State) → IsStateOf G c t r → IsStateOf G c t s → r ≡ s
one_state_of G c t r s p q =
    let same : p.without_rules ≡ q.without_rules =
    p.is_plain.state
    ∙ ap (λ (u : State). record u { added = c.added }) (one_new G (base_state c t) c.known p.is_plain.with_pending q.is_plain.with_pending p.is_plain.held q.is_plain.held)
    ∙ sym q.is_plain.state in
    one_added c.rules q.without_rules r s (subst (λ (u : State). HasAddedRules c.rules u r) same p.made_strict) q.made_strict

pub one_resumption : ResumptionIsUnique
one_resumption G bytes s r p q =
    one_state_of G q.content q.tree s r (same_state G bytes s p.content q.content p.tree q.tree p.intact q.intact p.state) q.state

pub no_resume_fault : ResumptionHasNoFault
no_resume_fault G bytes s fault h own f = no_kind G bytes s fault own h (kind G bytes fault own f)

pub one_resume_fault : ResumeFaultIsUnique
one_resume_fault G bytes f g own other a b = one_kind G bytes f g own other (kind G bytes f own a) (kind G bytes g other b)
