-- What the steps of an examination of a GroupInfo find out, as the reasons why it does not fit.
use Rattle.std.proofs.Common.{◌≡◌, ◌≢◌, ◌∙◌, ◌<◌, ◌≤◌, List, [], Bool, true, false, Some, None, Result, Ok, Err, IfErr, OnOk, refl, inl, inr, arith}
use Rattle.std.specs.Prelude.{is_some}
use Rattle.std.proofs.lemmas.Bool.Decides.{Decides-eqb}
use Rattle.mls_tree.specs.Tree.{Tree, leaf_at}
use Rattle.mls_check.specs.Signatures.{VerifyFn}
use Rattle.mls_msgs.specs.declared.group_info.GroupInfo.{GroupInfo}
use Rattle.mls_apply.specs.RuleLists.{first_failing}
use Rattle.mls_apply.proofs.RuleLists.{AreKept, AreOthers, no_rules, one_more, passed}
use Rattle.mls_signatures.specs.SignaturesToVerify.{info_signatures}
use Rattle.mls_signatures.specs.declared.signature_to_verify.SignatureToVerify.{SignatureToVerify}
use Rattle.mls_follow.specs.State.{State}
use Rattle.mls_examine.specs.CurrentInfos.{IsUnfitCurrent, context_rules, current_fault, epoch_rules, has_content, is_signed_by, part_rules}
use Rattle.mls_examine.specs.CurrentInternal.{IsUnfitSignature}
use Rattle.mls_examine.specs.Examinations.{IsFitInfo, IsUnfitInfo}
use Rattle.mls_examine.specs.GroupInfos.{info_rules, unaccepted}
use Rattle.mls_examine.specs.LaterInfos.{IsUnfitLater, StartsTrusting, later_rules}
use Rattle.mls_examine.specs.LaterInternal.{IsUnfitStarted, IsVouchedFor, VouchesFor}
use Rattle.mls_examine.specs.declared.unfit.Unfit.{Unfit}
use Rattle.mls_examine.specs.declared.unfit.Unfit.TheVariants as unfit
use Rattle.mls_examine.proofs.CurrentRules.{after_parts, context_fails, context_others, epoch_fails, epoch_others, part_fails, part_others}
use Rattle.mls_examine.proofs.ExaminedInfos.{current_is_reason, not_past}
use Rattle.mls_examine.proofs.Faults.{is_ruled}
use Rattle.mls_examine.proofs.GroupAccepting.{all_if_none, has_content_if_some, no_content_if_none, signed_by_if_all, unsigned_by_if_some}

-- a reason is that of a rule where no rule has another one
ruled : (e : Unfit) (b : Bool) → is_ruled e ≡ b → (is_ruled e ≡ false → ⊥) → is_ruled e ≡ true
ruled e true is others = is
ruled e false is others = absurd (others is)

-- ---- the present epoch

module _ (G : VerifyFn) (s : State) (info : GroupInfo) where
  pub context_is_reason : (e : Unfit) → first_failing (context_rules s info) ≡ Some e → IsUnfitCurrent G s info e
  context_is_reason e h =
      current_is_reason G s info e (ruled e (is_ruled e) refl (λ other. (context_others s info e other).never h)) (context_fails s info e h)

  module _ (context : first_failing (context_rules s info) ≡ None) where
    pub epoch_is_reason : (e : Unfit) → first_failing (epoch_rules s info) ≡ Some e → IsUnfitCurrent G s info e
    epoch_is_reason e h =
        current_is_reason G s info e (ruled e (is_ruled e) refl (λ other. (epoch_others s info e other).never h)) (epoch_fails s info context e h)

    module _ (epoch : first_failing (epoch_rules s info) ≡ None) where
      pub part_is_reason : (e : Unfit) → first_failing (part_rules s info) ≡ Some e → IsUnfitCurrent G s info e
      part_is_reason e h =
          current_is_reason G s info e (ruled e (is_ruled e) refl (λ other. (part_others s info e other).never h)) (part_fails s info context epoch e h)

      module _ (parts : first_failing (part_rules s info) ≡ None) where
        pub content_holds : has_content info ≡ true → current_fault s info ≡ None
        content_holds e = after_parts s info context epoch parts ∙ rw e refl

        no_content : has_content info ≡ false → current_fault s info ≡ Some unfit.Malformed
        no_content e = after_parts s info context epoch parts ∙ rw e refl

        pub signature_is_reason : (e : Unfit) → IsUnfitSignature G s info e → IsUnfitCurrent G s info e
        signature_is_reason unfit.Malformed h = no_content h
        signature_is_reason unfit.PublicMessage h = absurd h
        signature_is_reason unfit.GroupOver h = absurd h
        signature_is_reason unfit.LastEpoch h = absurd h
        signature_is_reason unfit.WrongGroup h = absurd h
        signature_is_reason unfit.WrongVersion h = absurd h
        signature_is_reason unfit.WrongSuite h = absurd h
        signature_is_reason unfit.PastEpoch h = absurd h
        signature_is_reason unfit.TreeHashDiffers h = absurd h
        signature_is_reason unfit.ConfirmedDiffers h = absurd h
        signature_is_reason unfit.ExtensionsDiffer h = absurd h
        signature_is_reason unfit.TagDiffers h = absurd h
        signature_is_reason unfit.SignerNotMember h = absurd h
        signature_is_reason unfit.TreeDiffers h = absurd h
        signature_is_reason (unfit.StartRefused fault) h = absurd h
        signature_is_reason unfit.SignerUnknown h = absurd h
        signature_is_reason unfit.ExternalPubInvalid h = absurd h
        signature_is_reason unfit.LeafSource h = absurd h
        signature_is_reason unfit.InitKeyReused h = absurd h
        signature_is_reason unfit.TooManyLeaves h = absurd h
        signature_is_reason unfit.KeyRepeated h = absurd h
        signature_is_reason (unfit.Member fault) h = absurd h
        signature_is_reason (unfit.Unsigned qs) h = (content_holds h.0, h.1, h.2)
        signature_is_reason (unfit.Strict r) h = absurd h
        signature_is_reason unfit.OutOfMemory h = absurd h

        pub answered_current : {A : Type 0} (r : Result A Unfit) → IfErr r (λ e. e ≢ unfit.OutOfMemory → IsUnfitSignature G s info e)
            → IfErr r (λ e. e ≢ unfit.OutOfMemory → IsUnfitCurrent G s info e)
        answered_current (Ok x) h = tt
        answered_current (Err e) h = λ own. signature_is_reason e (h own)

        pub answered_faultless : {A : Type 0} (r : Result A Unfit) → OnOk r (has_content info ≡ true) → OnOk r (current_fault s info ≡ None)
        answered_faultless (Ok x) h = content_holds h
        answered_faultless (Err e) h = tt

-- the signer of whose leaf the rules hold is a member
pub signer_set : (s : State) (info : GroupInfo) → first_failing (epoch_rules s info) ≡ None → is_some (leaf_at 0 s.tree info.signer) ≡ true
signer_set s info h =
    let kept : AreKept (epoch_rules s info) = record { none = h } in
    (passed (passed kept).1).0

-- the signature, by those that are not accepted
module _ (G : VerifyFn) (s : State) (info : GroupInfo) (set : is_some (leaf_at 0 s.tree info.signer) ≡ true) where
  abbrev listed : List SignatureToVerify
  listed = info_signatures info (leaf_at 0 s.tree info.signer)

  pub unlisted : listed ≡ [] → IsUnfitSignature G s info unfit.Malformed
  unlisted e = no_content_if_none info (leaf_at 0 s.tree info.signer) set e

  module _ (some : listed ≡ [] → ⊥) where
    pub is_content : has_content info ≡ true
    is_content = has_content_if_some info (leaf_at 0 s.tree info.signer) some

    pub is_unsigned : (unaccepted G listed ≡ [] → ⊥) → IsUnfitSignature G s info (unfit.Unsigned (unaccepted G listed))
    is_unsigned more = (is_content, unsigned_by_if_some G info (leaf_at 0 s.tree info.signer) more, refl)

    pub is_signed : unaccepted G listed ≡ [] → is_signed_by G info (leaf_at 0 s.tree info.signer) ≡ true
    is_signed none = signed_by_if_all G info (leaf_at 0 s.tree info.signer) set is_content (all_if_none G listed none)

-- ---- a later epoch

module _ (G : VerifyFn) (s : State) (info : GroupInfo) where
  module _ (new : State) (starts : StartsTrusting s info new) where
    none_other : (e : Unfit) → (unfit.SignerUnknown ≡ e → ⊥) → (unfit.ExternalPubInvalid ≡ e → ⊥) → AreOthers e (later_rules s info new.tree)
    none_other e a b = one_more a (one_more b no_rules)

    pub started_is_reason : (e : Unfit) → IsUnfitStarted G s info new.tree e → IsUnfitLater G s info e
    started_is_reason unfit.Malformed h = record { new = new; starts = starts; fails = h }
    started_is_reason unfit.PublicMessage h = record { new = new; starts = starts; fails = h }
    started_is_reason unfit.GroupOver h = record { new = new; starts = starts; fails = h }
    started_is_reason unfit.LastEpoch h = record { new = new; starts = starts; fails = h }
    started_is_reason unfit.WrongGroup h = record { new = new; starts = starts; fails = h }
    started_is_reason unfit.WrongVersion h = record { new = new; starts = starts; fails = h }
    started_is_reason unfit.WrongSuite h = record { new = new; starts = starts; fails = h }
    started_is_reason unfit.PastEpoch h = record { new = new; starts = starts; fails = h }
    started_is_reason unfit.TreeHashDiffers h = record { new = new; starts = starts; fails = h }
    started_is_reason unfit.ConfirmedDiffers h = record { new = new; starts = starts; fails = h }
    started_is_reason unfit.ExtensionsDiffer h = record { new = new; starts = starts; fails = h }
    started_is_reason unfit.TagDiffers h = record { new = new; starts = starts; fails = h }
    started_is_reason unfit.SignerNotMember h = record { new = new; starts = starts; fails = h }
    started_is_reason unfit.TreeDiffers h = record { new = new; starts = starts; fails = h }
    started_is_reason (unfit.StartRefused fault) h = absurd ((none_other (unfit.StartRefused fault) (λ e. cc) (λ e. cc)).never h)
    started_is_reason unfit.SignerUnknown h = record { new = new; starts = starts; fails = h }
    started_is_reason unfit.ExternalPubInvalid h = record { new = new; starts = starts; fails = h }
    started_is_reason unfit.LeafSource h = record { new = new; starts = starts; fails = h }
    started_is_reason unfit.InitKeyReused h = record { new = new; starts = starts; fails = h }
    started_is_reason unfit.TooManyLeaves h = record { new = new; starts = starts; fails = h }
    started_is_reason unfit.KeyRepeated h = record { new = new; starts = starts; fails = h }
    started_is_reason (unfit.Member fault) h = record { new = new; starts = starts; fails = h }
    started_is_reason (unfit.Unsigned qs) h = record { new = new; starts = starts; no_fault = h.0; some = h.1; signatures = h.2 }
    started_is_reason (unfit.Strict r) h = record { new = new; starts = starts; fails = h }
    started_is_reason unfit.OutOfMemory h = record { new = new; starts = starts; fails = h }

    pub answered_started : {A : Type 0} (r : Result A Unfit) → IfErr r (λ e. e ≢ unfit.OutOfMemory → IsUnfitStarted G s info new.tree e)
        → IfErr r (λ e. e ≢ unfit.OutOfMemory → IsUnfitLater G s info e)
    answered_started (Ok x) h = tt
    answered_started (Err e) h = λ own. started_is_reason e (h own)

    pub answered_vouched : {A : Type 0} (r : Result A Unfit) → OnOk r (VouchesFor G s info new.tree) → OnOk r (IsVouchedFor G s info)
    answered_vouched (Ok x) h = record { new = new; starts = starts; vouched = h }
    answered_vouched (Err e) h = tt

-- who does not vouch
module _ (G : VerifyFn) (s : State) (info : GroupInfo) (t : Tree) where
  others : (qs : List SignatureToVerify) → AreOthers (unfit.Unsigned qs) (later_rules s info t)
  others qs = one_more (λ e. cc) (one_more (λ e. cc) no_rules)

  unsigned_other : (qs : List SignatureToVerify) → first_failing (later_rules s info t) ≡ Some (unfit.Unsigned qs) → ⊥
  unsigned_other qs h = (others qs).never h

  pub broken_started : (e : Unfit) → first_failing (later_rules s info t) ≡ Some e → IsUnfitStarted G s info t e
  broken_started unfit.Malformed h = h
  broken_started unfit.PublicMessage h = h
  broken_started unfit.GroupOver h = h
  broken_started unfit.LastEpoch h = h
  broken_started unfit.WrongGroup h = h
  broken_started unfit.WrongVersion h = h
  broken_started unfit.WrongSuite h = h
  broken_started unfit.PastEpoch h = h
  broken_started unfit.TreeHashDiffers h = h
  broken_started unfit.ConfirmedDiffers h = h
  broken_started unfit.ExtensionsDiffer h = h
  broken_started unfit.TagDiffers h = h
  broken_started unfit.SignerNotMember h = h
  broken_started unfit.TreeDiffers h = h
  broken_started (unfit.StartRefused fault) h = h
  broken_started unfit.SignerUnknown h = h
  broken_started unfit.ExternalPubInvalid h = h
  broken_started unfit.LeafSource h = h
  broken_started unfit.InitKeyReused h = h
  broken_started unfit.TooManyLeaves h = h
  broken_started unfit.KeyRepeated h = h
  broken_started (unfit.Member fault) h = h
  broken_started (unfit.Unsigned qs) h = absurd (unsigned_other qs h)
  broken_started (unfit.Strict r) h = h
  broken_started unfit.OutOfMemory h = h

-- ---- any epoch

-- the cipher suite is that of the state
pub same_suite : (s : State) (info : GroupInfo) → first_failing (info_rules s info) ≡ None → info.context.cipher_suite ≡ s.context.cipher_suite
same_suite s info h =
    let kept : AreKept (info_rules s info) = record { none = h } in
    let version = passed (passed kept).1 in
    (Decides-eqb info.context.cipher_suite s.context.cipher_suite).0 (passed version.1).0

module _ (G : VerifyFn) (s : State) (info : GroupInfo) (fits : first_failing (info_rules s info) ≡ None) where
  module _ {A : Type 0} (later : s.context.epoch < info.context.epoch) where
    pub answered_later : (r : Result A Unfit) → OnOk r (IsVouchedFor G s info) → OnOk r (IsFitInfo G s info)
    answered_later (Ok x) h = inr (record {
      fits = fits;
      later = later;
      new = h.new;
      starts = h.starts;
      no_fault = h.vouched.no_fault;
      signed = h.vouched.signed;
    })
    answered_later (Err e) h = tt

    pub answered_unfit_later : (r : Result A Unfit) → IfErr r (λ e. e ≢ unfit.OutOfMemory → IsUnfitLater G s info e)
        → IfErr r (λ e. e ≢ unfit.OutOfMemory → IsUnfitInfo G s info e)
    answered_unfit_later (Ok x) h = tt
    answered_unfit_later (Err e) h = λ own. inr (inr (fits, later, h own))

  present : info.context.epoch ≤ s.context.epoch → info.context.epoch ≡ s.context.epoch
  present at_most = let from = not_past s info fits in omega (arith, at_most, from)

  module _ {A : Type 0} (at_most : info.context.epoch ≤ s.context.epoch) where
    pub answered_present : (r : Result A Unfit) → OnOk r (current_fault s info ≡ None) → OnOk r (is_signed_by G info (leaf_at 0 s.tree info.signer) ≡ true)
        → OnOk r (IsFitInfo G s info)
    answered_present (Ok x) h signed = inl (record { fits = fits; present = present at_most; no_fault = h; signed = signed })
    answered_present (Err e) h signed = tt

    pub answered_unfit_present : (r : Result A Unfit) → IfErr r (λ e. e ≢ unfit.OutOfMemory → IsUnfitCurrent G s info e)
        → IfErr r (λ e. e ≢ unfit.OutOfMemory → IsUnfitInfo G s info e)
    answered_unfit_present (Ok x) h = tt
    answered_unfit_present (Err e) h = λ own. inr (inl (fits, present at_most, h own))
