-- GroupInfos of a group: one fits, or there is one reason why not; and what more signatures that are good change.
use Rattle.std.proofs.Common.{◌≡◌, ◌≢◌, ◌∙◌, ◌⊎◌, ℕ, ◌<◌, ◌≤◌, List, [], ◌∷◌, Bool, true, false, Option, Some, None, refl, sym, ap, subst, inl, inr, arith}
use Rattle.std.specs.Prelude.{is_some, nat_lt}
use Rattle.std.proofs.lemmas.Bool.{cases_Bool, cases_lt, leb-true}
use Rattle.std.proofs.lemmas.Option.{none-some, same_Some}
use Rattle.mls_nodes.specs.Requirements.{extension_of}
use Rattle.mls_tree.specs.RatchetTree.{RatchetTree}
use Rattle.mls_tree.specs.Tree.{leaf_at}
use Rattle.mls_check.specs.Signatures.{Extends, VerifyFn}
use Rattle.mls_msgs.specs.declared.group_info.GroupInfo.{GroupInfo}
use Rattle.mls_msgs.specs.declared.message.Message.TheVariants as messages
use Rattle.mls_apply.specs.RuleLists.{first_failing}
use Rattle.mls_apply.proofs.RuleLists.{AreKept, AreOthers, no_rules, one_more, others_both, passed}
use Rattle.mls_signatures.specs.SignaturesToVerify.{info_signatures, start_signatures}
use Rattle.mls_signatures.specs.declared.signature_to_verify.SignatureToVerify.{SignatureToVerify}
use Rattle.mls_follow.specs.CoveredLogs.{all_good}
use Rattle.mls_follow.specs.Start.{IsStart, IsStartFault}
use Rattle.mls_follow.specs.State.{State}
use Rattle.mls_follow.specs.declared.start_fault.StartFault.{StartFault}
use Rattle.mls_follow.specs.declared.start_fault.StartFault.TheVariants as starts
use Rattle.mls_start.specs.Inputs.{Inputs, OfInfo}
use Rattle.mls_start.specs.StartFindings.{Declines, IsFirstState, IsInfo, IsReadAs, IsSupplied}
use Rattle.mls_start.specs.declared.finding.Finding.{Finding}
use Rattle.mls_start.specs.declared.finding.Finding.TheVariants as findings
use Rattle.mls_follow.proofs.Answering.{one_message}
use Rattle.mls_start.proofs.FindingsOnce.{one_info}
use Rattle.mls_start.proofs.FirstStates.{alike_declines, first_or_declined, first_or_declines, one_first}
use Rattle.mls_examine.specs.CurrentInfos.{IsUnfitCurrent, context_rules, current_fault, epoch_rules, has_content, is_signed_by, part_rules}
use Rattle.mls_examine.specs.Examinations.{AreInfoFacts, IsFitInfo, IsUnfitInfo}
use Rattle.mls_examine.specs.GroupInfos.{has_usable_external_pub, info_rules, unaccepted}
use Rattle.mls_examine.specs.LaterInfos.{BreaksLaterRule, IsUnfitLater, IsUnsignedLater, StartsTrusting, is_known_signer, later_rules}
use Rattle.mls_examine.specs.PackageLaws.{AcceptsEach}
use Rattle.mls_examine.specs.declared.group_infos.InfoFacts.{InfoFacts}
use Rattle.mls_examine.specs.declared.unfit.Unfit.{Unfit}
use Rattle.mls_examine.specs.declared.unfit.Unfit.TheVariants as unfit
use Rattle.mls_examine.proofs.CurrentRules.{after_context, after_epoch, context_others, epoch_others, kept_rules, last_rules, part_others}
use Rattle.mls_examine.proofs.Faults.{apart, is_ruled}
use Rattle.mls_examine.proofs.GroupAccepting.{covered_each, none_if_all, none_stays, signed_by_if_all, signed_by_stays}

-- ---- the present epoch

fault_others : (s : State) (info : GroupInfo) (e : Unfit) → is_ruled e ≡ false → current_fault s info ≡ Some e → ⊥
unfolding current_fault
fault_others s info e other h =
    (others_both (context_rules s info) (after_context s info) (context_others s info e other)
    (others_both (epoch_rules s info) (after_epoch s info) (epoch_others s info e other)
    (others_both (part_rules s info) (last_rules s info) (part_others s info e other) (one_more (apart _ e refl other) no_rules)))).never h

-- the reason that is a rule's
pub current_is_reason : (G : VerifyFn) (s : State) (info : GroupInfo) (e : Unfit) → is_ruled e ≡ true → current_fault s info ≡ Some e → IsUnfitCurrent G s info e
current_is_reason G s info unfit.Malformed ruled h = h
current_is_reason G s info unfit.PublicMessage ruled h = h
current_is_reason G s info unfit.GroupOver ruled h = h
current_is_reason G s info unfit.LastEpoch ruled h = h
current_is_reason G s info unfit.WrongGroup ruled h = h
current_is_reason G s info unfit.WrongVersion ruled h = h
current_is_reason G s info unfit.WrongSuite ruled h = h
current_is_reason G s info unfit.PastEpoch ruled h = h
current_is_reason G s info unfit.TreeHashDiffers ruled h = h
current_is_reason G s info unfit.ConfirmedDiffers ruled h = h
current_is_reason G s info unfit.ExtensionsDiffer ruled h = h
current_is_reason G s info unfit.TagDiffers ruled h = h
current_is_reason G s info unfit.SignerNotMember ruled h = h
current_is_reason G s info unfit.TreeDiffers ruled h = h
current_is_reason G s info (unfit.StartRefused fault) ruled h = h
current_is_reason G s info unfit.SignerUnknown ruled h = h
current_is_reason G s info unfit.ExternalPubInvalid ruled h = h
current_is_reason G s info unfit.LeafSource ruled h = h
current_is_reason G s info unfit.InitKeyReused ruled h = h
current_is_reason G s info unfit.TooManyLeaves ruled h = h
current_is_reason G s info unfit.KeyRepeated ruled h = h
current_is_reason G s info (unfit.Member fault) ruled h = h
current_is_reason G s info (unfit.Unsigned qs) ruled h = absurd cc
current_is_reason G s info (unfit.Strict r) ruled h = h
current_is_reason G s info unfit.OutOfMemory ruled h = absurd cc

-- a reason is a rule's, or the signature is
current_reason_is : (G : VerifyFn) (s : State) (info : GroupInfo) (e : Unfit) → IsUnfitCurrent G s info e
    → (current_fault s info ≡ Some e)
    ⊎ ((current_fault s info ≡ None) × (is_signed_by G info (leaf_at 0 s.tree info.signer) ≡ false)
    × (e ≡ unfit.Unsigned (unaccepted G (info_signatures info (leaf_at 0 s.tree info.signer)))))
current_reason_is G s info unfit.Malformed h = inl h
current_reason_is G s info unfit.PublicMessage h = inl h
current_reason_is G s info unfit.GroupOver h = inl h
current_reason_is G s info unfit.LastEpoch h = inl h
current_reason_is G s info unfit.WrongGroup h = inl h
current_reason_is G s info unfit.WrongVersion h = inl h
current_reason_is G s info unfit.WrongSuite h = inl h
current_reason_is G s info unfit.PastEpoch h = inl h
current_reason_is G s info unfit.TreeHashDiffers h = inl h
current_reason_is G s info unfit.ConfirmedDiffers h = inl h
current_reason_is G s info unfit.ExtensionsDiffer h = inl h
current_reason_is G s info unfit.TagDiffers h = inl h
current_reason_is G s info unfit.SignerNotMember h = inl h
current_reason_is G s info unfit.TreeDiffers h = inl h
current_reason_is G s info (unfit.StartRefused fault) h = inl h
current_reason_is G s info unfit.SignerUnknown h = inl h
current_reason_is G s info unfit.ExternalPubInvalid h = inl h
current_reason_is G s info unfit.LeafSource h = inl h
current_reason_is G s info unfit.InitKeyReused h = inl h
current_reason_is G s info unfit.TooManyLeaves h = inl h
current_reason_is G s info unfit.KeyRepeated h = inl h
current_reason_is G s info (unfit.Member fault) h = inl h
current_reason_is G s info (unfit.Unsigned qs) h = inr (h.0, h.1, ap unfit.Unsigned h.2)
current_reason_is G s info (unfit.Strict r) h = inl h
current_reason_is G s info unfit.OutOfMemory h = inl h

module _ (G : VerifyFn) (s : State) (info : GroupInfo) where
  abbrev CurrentOrNot : Type 0
  CurrentOrNot =
      ((current_fault s info ≡ None) × (is_signed_by G info (leaf_at 0 s.tree info.signer) ≡ true))
      ⊎ ((e : Unfit) × (e ≢ unfit.OutOfMemory) × IsUnfitCurrent G s info e)

  ruled_or_not : (e : Unfit) (b : Bool) → is_ruled e ≡ b → current_fault s info ≡ Some e → CurrentOrNot
  ruled_or_not e true ruled h =
      inr (e, (λ same. fault_others s info unfit.OutOfMemory refl (h ∙ ap Some same)), current_is_reason G s info e ruled h)
  ruled_or_not e false other h = absurd (fault_others s info e other h)

  by_fault : (o : Option Unfit) → current_fault s info ≡ o → CurrentOrNot
  by_fault (Some e) h = ruled_or_not e (is_ruled e) refl h
  by_fault None h =
      elim (cases_Bool (is_signed_by G info (leaf_at 0 s.tree info.signer))) [
        | inl holds ↦ inl (h, holds)
        | inr fails ↦ inr (unfit.Unsigned (unaccepted G (info_signatures info (leaf_at 0 s.tree info.signer))), (λ same. absurd cc), (h, fails, refl))
      ]

  current_or_not : CurrentOrNot
  current_or_not = by_fault (current_fault s info) refl

  one_current : (e f : Unfit) → IsUnfitCurrent G s info e → IsUnfitCurrent G s info f → e ≡ f
  one_current e f a b =
      elim (current_reason_is G s info e a) [
        | inl fault ↦
            elim (current_reason_is G s info f b) [
              | inl other ↦ same_Some e f (sym fault ∙ other)
              | inr bad ↦ absurd (none-some e (sym bad.0 ∙ fault))
            ]
        | inr bad ↦
            elim (current_reason_is G s info f b) [
              | inl other ↦ absurd (none-some f (sym bad.0 ∙ other))
              | inr also ↦ bad.2 ∙ sym also.2
            ]
      ]

  not_unfit_current : (e : Unfit) → current_fault s info ≡ None → is_signed_by G info (leaf_at 0 s.tree info.signer) ≡ true → IsUnfitCurrent G s info e → ⊥
  not_unfit_current e none signed b =
      elim (current_reason_is G s info e b) [
        | inl fault ↦ none-some e (sym none ∙ fault)
        | inr bad ↦ let both = sym signed ∙ bad.1 in absurd cc
      ]

-- ---- a later epoch

-- why a GroupInfo of a later epoch does not fit
data LaterReason (G : VerifyFn) (s : State) (info : GroupInfo) (e : Unfit) : Type 0 where
  refused : (fault : StartFault) → fault ≢ starts.OutOfMemory → IsStartFault s.rules all_good info None fault → e ≡ unfit.StartRefused fault → LaterReason G s info e
  broken : BreaksLaterRule s info e → LaterReason G s info e
  unsigned : (qs : List SignatureToVerify) → IsUnsignedLater G s info qs → e ≡ unfit.Unsigned qs → LaterReason G s info e

later_reason_is : (G : VerifyFn) (s : State) (info : GroupInfo) (e : Unfit) → IsUnfitLater G s info e → LaterReason G s info e
later_reason_is G s info unfit.Malformed h = broken h
later_reason_is G s info unfit.PublicMessage h = broken h
later_reason_is G s info unfit.GroupOver h = broken h
later_reason_is G s info unfit.LastEpoch h = broken h
later_reason_is G s info unfit.WrongGroup h = broken h
later_reason_is G s info unfit.WrongVersion h = broken h
later_reason_is G s info unfit.WrongSuite h = broken h
later_reason_is G s info unfit.PastEpoch h = broken h
later_reason_is G s info unfit.TreeHashDiffers h = broken h
later_reason_is G s info unfit.ConfirmedDiffers h = broken h
later_reason_is G s info unfit.ExtensionsDiffer h = broken h
later_reason_is G s info unfit.TagDiffers h = broken h
later_reason_is G s info unfit.SignerNotMember h = broken h
later_reason_is G s info unfit.TreeDiffers h = broken h
later_reason_is G s info (unfit.StartRefused fault) h = refused fault h.0 h.1 refl
later_reason_is G s info unfit.SignerUnknown h = broken h
later_reason_is G s info unfit.ExternalPubInvalid h = broken h
later_reason_is G s info unfit.LeafSource h = broken h
later_reason_is G s info unfit.InitKeyReused h = broken h
later_reason_is G s info unfit.TooManyLeaves h = broken h
later_reason_is G s info unfit.KeyRepeated h = broken h
later_reason_is G s info (unfit.Member fault) h = broken h
later_reason_is G s info (unfit.Unsigned qs) h = unsigned qs h refl
later_reason_is G s info (unfit.Strict r) h = broken h
later_reason_is G s info unfit.OutOfMemory h = broken h

module _ (s : State) (info : GroupInfo) (bytes : List ℕ) (read : IsInfo s.profile bytes info) where
  abbrev inputs : Inputs
  inputs = OfInfo s.rules s.profile bytes None

  first_of : (new : State) → StartsTrusting s info new → IsFirstState all_good inputs new
  first_of new h = record { info = info; supplied = None; is_read = record { is_info = read; is_supplied = tt }; start = h }

  start_of : (new : State) → IsFirstState all_good inputs new → StartsTrusting s info new
  start_of new h =
      subst (λ (i : GroupInfo). StartsTrusting s i new) (one_info s.profile bytes h.info info h.is_read.is_info read)
      (by_supplied h.supplied h.is_read.is_supplied h.start)
    where
      by_supplied : (supplied : Option RatchetTree) → IsSupplied None supplied → IsStart s.rules s.profile all_good h.info supplied new
          → StartsTrusting s h.info new
      by_supplied None given start = start
      by_supplied (Some t) given start = absurd given

  declined : (fault : StartFault) → fault ≢ starts.OutOfMemory → IsStartFault s.rules all_good info None fault → Declines all_good inputs (findings.StartRefused fault)
  declined fault own h = record { found = (info, None, record { is_info = read; is_supplied = tt }, own, h); not_valid = refl }

  fault_of : (finding : Finding) → Declines all_good inputs finding
      → (fault : StartFault) × (fault ≢ starts.OutOfMemory) × IsStartFault s.rules all_good info None fault
  fault_of (findings.StartRefused fault) d = (fault, d.found.3, same_fault d.found.0 d.found.1 d.found.2 d.found.4)
    where
      by_supplied : (other : GroupInfo) (supplied : Option RatchetTree) → IsSupplied None supplied → IsStartFault s.rules all_good other supplied fault
          → IsStartFault s.rules all_good other None fault
      by_supplied other None given h = h
      by_supplied other (Some t) given h = absurd given

      same_fault : (other : GroupInfo) (supplied : Option RatchetTree) → IsReadAs s.profile bytes None other supplied
          → IsStartFault s.rules all_good other supplied fault → IsStartFault s.rules all_good info None fault
      same_fault other supplied is h =
          subst (λ (i : GroupInfo). IsStartFault s.rules all_good i None fault) (one_info s.profile bytes other info is.is_info read)
          (by_supplied other supplied is.is_supplied h)
  fault_of (findings.InfoUnreadable fault) d = absurd (d.found (messages.GroupInfo info) read)
  fault_of findings.NotGroupInfo d =
      absurd (d.found.2 info (one_message d.found.0 (messages.GroupInfo info) bytes d.found.1 read))
  fault_of (findings.TreeUnreadable fault) d = absurd d.found.2
  fault_of (findings.Starts x) d = let bad = d.not_valid in absurd cc
  fault_of (findings.ContextUnreadable fault) d = absurd d.found
  fault_of findings.UnsupportedVersion d = absurd d.found
  fault_of findings.UnsupportedSuite d = absurd d.found
  fault_of findings.RequirementsUnreadable d = absurd d.found
  fault_of (findings.TreeRefused fault) d = absurd d.found
  fault_of (findings.MembersRefused fault) d = absurd d.found
  fault_of (findings.TreeNotStrict fault) d = absurd d.found
  fault_of (findings.StateRefused fault) d = absurd d.found
  fault_of (findings.StateNotStrict cause) d = absurd d.found
  fault_of (findings.TreeValid hash) d = absurd d.found

  one_start : (new other : State) → StartsTrusting s info new → StartsTrusting s info other → new ≡ other
  one_start new other a b = one_first all_good inputs new other (first_of new a) (first_of other b)

  one_refusal : (fault other : StartFault) → fault ≢ starts.OutOfMemory → other ≢ starts.OutOfMemory → IsStartFault s.rules all_good info None fault
      → IsStartFault s.rules all_good info None other → fault ≡ other
  one_refusal fault other own also a b =
      let same : findings.StartRefused fault ≡ findings.StartRefused other =
      alike_declines all_good inputs (findings.StartRefused fault) (findings.StartRefused other) (declined fault own a) (declined other also b) in
      cc

  starts_or_not : ((new : State) × StartsTrusting s info new)
      ⊎ ((fault : StartFault) × (fault ≢ starts.OutOfMemory) × IsStartFault s.rules all_good info None fault)
  starts_or_not =
      elim (first_or_declined all_good inputs) [
        | inl h ↦ inl (h.0, start_of h.0 h.1)
        | inr d ↦ inr (fault_of d.0 d.1)
      ]

  not_both_starts : (new : State) (fault : StartFault) → StartsTrusting s info new → fault ≢ starts.OutOfMemory
      → IsStartFault s.rules all_good info None fault → ⊥
  not_both_starts new fault a own b = first_or_declines all_good inputs (findings.StartRefused fault) new (declined fault own b) (first_of new a)

  module _ (G : VerifyFn) where
    -- that it is of a later epoch is known
    abbrev Vouched : State → Type 0
    Vouched new =
        StartsTrusting s info new × (first_failing (later_rules s info new.tree) ≡ None) × (unaccepted G (start_signatures info new.tree) ≡ [])

    abbrev LaterOrNot : Type 0
    LaterOrNot = ((new : State) × Vouched new) ⊎ ((e : Unfit) × (e ≢ unfit.OutOfMemory) × IsUnfitLater G s info e)

    by_signatures : (new : State) (qs : List SignatureToVerify) → StartsTrusting s info new → first_failing (later_rules s info new.tree) ≡ None
        → unaccepted G (start_signatures info new.tree) ≡ qs → LaterOrNot
    by_signatures new [] h none is = inl (new, (h, none, is))
    by_signatures new (q ∷ qs) h none is =
        inr (
          unfit.Unsigned (q ∷ qs),
          (λ same. absurd cc),
          record { new = new; starts = h; no_fault = none; some = λ e. absurd cc; signatures = sym is },
        )

    by_rules : (new : State) (a b : Bool) → StartsTrusting s info new → is_known_signer s.tree (leaf_at 0 new.tree info.signer) ≡ a
        → has_usable_external_pub s info ≡ b → LaterOrNot
    by_rules new false b h p q = inr (unfit.SignerUnknown, (λ same. absurd cc), record { new = new; starts = h; fails = rw p refl })
    by_rules new true false h p q = inr (unfit.ExternalPubInvalid, (λ same. absurd cc), record { new = new; starts = h; fails = rw (p, q) refl })
    by_rules new true true h p q = by_signatures new (unaccepted G (start_signatures info new.tree)) h (rw (p, q) refl) refl

    later_or_not : LaterOrNot
    later_or_not =
        elim starts_or_not [
          | inl h ↦ by_rules h.0 (is_known_signer s.tree (leaf_at 0 h.0.tree info.signer)) (has_usable_external_pub s info) h.1 refl refl
          | inr f ↦ inr (unfit.StartRefused f.0, (λ same. absurd cc), (f.1, f.2))
        ]

    one_later : (e f : Unfit) → LaterReason G s info e → LaterReason G s info f → e ≡ f
    one_later e f (refused x own h is) (refused y also k other) = is ∙ ap unfit.StartRefused (one_refusal x y own also h k) ∙ sym other
    one_later e f (refused x own h is) (broken b) = absurd (not_both_starts b.new x b.starts own h)
    one_later e f (refused x own h is) (unsigned qs b other) = absurd (not_both_starts b.new x b.starts own h)
    one_later e f (broken a) (refused y also k other) = absurd (not_both_starts a.new y a.starts also k)
    one_later e f (broken a) (broken b) =
        same_Some e f (sym a.fails ∙ ap (λ (n : State). first_failing (later_rules s info n.tree)) (one_start a.new b.new a.starts b.starts) ∙ b.fails)
    one_later e f (broken a) (unsigned qs b other) =
        absurd (none-some e (sym b.no_fault ∙ ap (λ (n : State). first_failing (later_rules s info n.tree)) (one_start b.new a.new b.starts a.starts) ∙ a.fails))
    one_later e f (unsigned qs a is) (refused y also k other) = absurd (not_both_starts a.new y a.starts also k)
    one_later e f (unsigned qs a is) (broken b) =
        absurd (none-some f (sym a.no_fault ∙ ap (λ (n : State). first_failing (later_rules s info n.tree)) (one_start a.new b.new a.starts b.starts) ∙ b.fails))
    one_later e f (unsigned qs a is) (unsigned rs b other) =
        is ∙ ap unfit.Unsigned (a.signatures
        ∙ ap (λ (n : State). unaccepted G (start_signatures info n.tree)) (one_start a.new b.new a.starts b.starts) ∙ sym b.signatures) ∙ sym other

    not_unfit_later : (new : State) (e : Unfit) → Vouched new → LaterReason G s info e → ⊥
    not_unfit_later new e v (refused x own h is) = not_both_starts new x v.0 own h
    not_unfit_later new e v (broken b) =
        none-some e (sym v.1 ∙ ap (λ (n : State). first_failing (later_rules s info n.tree)) (one_start new b.new v.0 b.starts) ∙ b.fails)
    not_unfit_later new e v (unsigned qs b is) =
        b.some (b.signatures ∙ ap (λ (n : State). unaccepted G (start_signatures info n.tree)) (one_start b.new new b.starts v.0) ∙ v.2)

-- ---- in any epoch

info_others : (s : State) (info : GroupInfo) (e : Unfit) → is_ruled e ≡ false → AreOthers e (info_rules s info)
info_others s info e other =
    one_more (apart _ e refl other) (one_more (apart _ e refl other) (one_more (apart _ e refl other) (one_more (apart _ e refl other)
    (one_more (apart _ e refl other) no_rules))))

info_rules_others : (s : State) (info : GroupInfo) (e : Unfit) → is_ruled e ≡ false → first_failing (info_rules s info) ≡ Some e → ⊥
info_rules_others s info e other h = (info_others s info e other).never h

-- a GroupInfo that satisfies the rules is of the present epoch or of a later one
pub not_past : (s : State) (info : GroupInfo) → first_failing (info_rules s info) ≡ None → s.context.epoch ≤ info.context.epoch
not_past s info h =
    let kept : AreKept (info_rules s info) = record { none = h } in
    let version = passed (passed kept).1 in
    let suite = passed version.1 in
    let epoch = passed suite.1 in
    leb-true s.context.epoch info.context.epoch epoch.0

module _ (G : VerifyFn) (s : State) (info : GroupInfo) (bytes : List ℕ) (read : IsInfo s.profile bytes info) where
  abbrev InfoOrNot : Type 0
  InfoOrNot = IsFitInfo G s info ⊎ ((e : Unfit) × (e ≢ unfit.OutOfMemory) × IsUnfitInfo G s info e)

  in_present : first_failing (info_rules s info) ≡ None → info.context.epoch ≡ s.context.epoch → CurrentOrNot G s info → InfoOrNot
  in_present fits same (inl h) = inl (inl (record { fits = fits; present = same; no_fault = h.0; signed = h.1 }))
  in_present fits same (inr h) = inr (h.0, h.1, inr (inl (fits, same, h.2)))

  in_later : first_failing (info_rules s info) ≡ None → s.context.epoch < info.context.epoch → LaterOrNot s info bytes read G → InfoOrNot
  in_later fits later (inl h) =
      inl (inr (record { fits = fits; later = later; new = h.0; starts = h.1.0; no_fault = h.1.1; signed = h.1.2 }))
  in_later fits later (inr h) = inr (h.0, h.1, inr (inr (fits, later, h.2)))

  by_info_rules : (o : Option Unfit) → first_failing (info_rules s info) ≡ o → InfoOrNot
  by_info_rules (Some e) h = inr (e, (λ same. info_rules_others s info unfit.OutOfMemory refl (h ∙ ap Some same)), inl h)
  by_info_rules None h =
      elim (cases_lt s.context.epoch info.context.epoch) [
        | inl later ↦ in_later h later (later_or_not s info bytes read G)
        | inr le ↦ in_present h (let from = not_past s info h in omega (arith, le, from)) (current_or_not G s info)
      ]

  pub info_or_not : InfoOrNot
  info_or_not = by_info_rules (first_failing (info_rules s info)) refl

  pub one_info_reason : (e f : Unfit) → IsUnfitInfo G s info e → IsUnfitInfo G s info f → e ≡ f
  one_info_reason e f (inl a) (inl b) = same_Some e f (sym a ∙ b)
  one_info_reason e f (inl a) (inr (inl b)) = absurd (none-some e (sym b.0 ∙ a))
  one_info_reason e f (inl a) (inr (inr b)) = absurd (none-some e (sym b.0 ∙ a))
  one_info_reason e f (inr (inl a)) (inl b) = absurd (none-some f (sym a.0 ∙ b))
  one_info_reason e f (inr (inr a)) (inl b) = absurd (none-some f (sym a.0 ∙ b))
  one_info_reason e f (inr (inl a)) (inr (inl b)) = one_current G s info e f a.2 b.2
  one_info_reason e f (inr (inl a)) (inr (inr b)) = let same = a.1 in let later = b.1 in absurd (omega (arith, same, later))
  one_info_reason e f (inr (inr a)) (inr (inl b)) = let later = a.1 in let same = b.1 in absurd (omega (arith, same, later))
  one_info_reason e f (inr (inr a)) (inr (inr b)) =
      one_later s info bytes read G e f (later_reason_is G s info e a.2) (later_reason_is G s info f b.2)

  pub not_fit_and_unfit : (e : Unfit) → IsFitInfo G s info → IsUnfitInfo G s info e → ⊥
  not_fit_and_unfit e (inl a) (inl b) = none-some e (sym a.fits ∙ b)
  not_fit_and_unfit e (inr a) (inl b) = none-some e (sym a.fits ∙ b)
  not_fit_and_unfit e (inl a) (inr (inl b)) = not_unfit_current G s info e a.no_fault a.signed b.2
  not_fit_and_unfit e (inl a) (inr (inr b)) = let same = a.present in let later = b.1 in absurd (omega (arith, same, later))
  not_fit_and_unfit e (inr a) (inr (inl b)) = let later = a.later in let same = b.1 in absurd (omega (arith, same, later))
  not_fit_and_unfit e (inr a) (inr (inr b)) =
      not_unfit_later s info bytes read G a.new e (a.starts, a.no_fault, a.signed) (later_reason_is G s info e b.2)

-- ---- what is known of it

pub info_facts : (s : State) (info : GroupInfo) → (facts : InfoFacts) × AreInfoFacts s info facts
info_facts s info = (
  record {
    is_later = nat_lt s.context.epoch info.context.epoch;
    epoch = info.context.epoch;
    has_tree = is_some (extension_of 2 info.extensions);
    has_external_pub = is_some (extension_of 4 info.extensions);
  },
  record { later = refl; epoch = refl; tree = refl; external_pub = refl },
)

pub one_info_facts : (s : State) (info : GroupInfo) (facts other : InfoFacts) → AreInfoFacts s info facts → AreInfoFacts s info other → facts ≡ other
one_info_facts s info facts other a b = λ i. record {
  is_later = (a.later ∙ sym b.later) i;
  epoch = (a.epoch ∙ sym b.epoch) i;
  has_tree = (a.tree ∙ sym b.tree) i;
  has_external_pub = (a.external_pub ∙ sym b.external_pub) i;
}

-- ---- a checker that accepts more

pub fit_info_stays : (G K : VerifyFn) (s : State) (info : GroupInfo) → Extends G K → IsFitInfo G s info → IsFitInfo K s info
fit_info_stays G K s info more (inl a) =
    inl (record { fits = a.fits; present = a.present; no_fault = a.no_fault; signed = signed_by_stays G K more info (leaf_at 0 s.tree info.signer) a.signed })
fit_info_stays G K s info more (inr a) =
    inr (record {
      fits = a.fits;
      later = a.later;
      new = a.new;
      starts = a.starts;
      no_fault = a.no_fault;
      signed = none_stays G K more (start_signatures info a.new.tree) a.signed;
    })

-- what the rules of the present epoch say of the signer and of what is signed
signer_and_content : (s : State) (info : GroupInfo) → current_fault s info ≡ None
    → (is_some (leaf_at 0 s.tree info.signer) ≡ true) × (has_content info ≡ true)
signer_and_content s info none =
    let kept = kept_rules s info none in
    let tag = passed kept.epoch in
    let signer = passed tag.1 in
    (signer.0, (passed kept.last).0)

pub covered_fits : (G K : VerifyFn) (s : State) (info : GroupInfo) (qs : List SignatureToVerify) → IsUnfitInfo G s info (unfit.Unsigned qs) → Extends G K → AcceptsEach K qs
    → IsFitInfo K s info
covered_fits G K s info qs (inl h) more each = absurd (info_rules_others s info (unfit.Unsigned qs) refl h)
covered_fits G K s info qs (inr (inl h)) more each =
    let u = h.2 in
    let known = signer_and_content s info u.0 in
    let all = covered_each G K more (info_signatures info (leaf_at 0 s.tree info.signer)) (subst (AcceptsEach K) u.2 each) in
    inl (record {
      fits = h.0;
      present = h.1;
      no_fault = u.0;
      signed = signed_by_if_all K info (leaf_at 0 s.tree info.signer) known.0 known.1 all;
    })
covered_fits G K s info qs (inr (inr h)) more each =
    let u = h.2 in
    inr (record {
      fits = h.0;
      later = h.1;
      new = u.new;
      starts = u.starts;
      no_fault = u.no_fault;
      signed = none_if_all K (start_signatures info u.new.tree) (covered_each G K more (start_signatures info u.new.tree) (subst (AcceptsEach K) u.signatures each));
    })
