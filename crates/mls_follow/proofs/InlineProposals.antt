-- The proposals in a commit itself, judged one after the other.
use Rattle.std.proofs.Common.{◌≡◌, ◌∙◌, List, [], ◌∷◌, Bool, true, false, Some, None, refl, sym, ap}
use Rattle.std.specs.Prelude.{◌&&◌}
use Rattle.std.proofs.lemmas.Option.{none-some, same_Some}
use Rattle.mls_nodes.specs.declared.context.GroupContext.{GroupContext}
use Rattle.mls_msgs.specs.declared.framed_content.Sender.{Sender}
use Rattle.mls_msgs.specs.declared.proposal.Proposal.{Proposal}
use Rattle.mls_msgs.specs.declared.proposal.Proposal.TheVariants.{Add, Update, Remove, ContextExtensions, PreSharedKey, ReInit, ExternalInit}
use Rattle.mls_msgs.specs.declared.proposal.ProposalOrRef.{ProposalOrRef}
use Rattle.mls_msgs.specs.declared.proposal.ProposalOrRef.TheVariants as entries
use Rattle.mls_tree.specs.Tree.{Tree}
use Rattle.mls_check.specs.Signatures.{VerifyFn}
use Rattle.mls_apply.specs.ProposalRules.{checked_rules, proposal_rules, valid_if_add, valid_if_update, valid_if_remove, valid_if_extensions, valid_if_psk, valid_if_reinit, all_inline}
use Rattle.mls_apply.specs.RuleLists.{Rule, rule, first_failing}
use Rattle.mls_apply.specs.Senders.{is_present}
use Rattle.mls_apply.specs.declared.refusal.Refusal.{Refusal}
use Rattle.mls_apply.specs.declared.refusal.Refusal.TheVariants as refusals
use Rattle.mls_follow.specs.InlineValidity.{all_valid, both_valid, entry_validity, list_validity, invalid_by, validity_rules}
use Rattle.mls_follow.specs.declared.proposals_by_value.Validity.{Validity}

-- a rule that holds is passed
past_first : (e : Refusal) (b : Bool) (rs : List (Rule Refusal)) → b ≡ true → first_failing (rule e b ∷ rs) ≡ first_failing rs
past_first e true rs h = refl
past_first e false rs h = absurd cc

-- one rule alone may fail: what it says is what is found
module _ (fault : Refusal) (make : Bool → Validity) where
  only : (own : Refusal) (b : Bool) → make true ≡ all_valid → make false ≡ invalid_by own
      → first_failing (rule own b ∷ []) ≡ Some fault → make b ≡ invalid_by fault
  only own true t f h = absurd (none-some fault h)
  only own false t f h = f ∙ ap invalid_by (same_Some own fault h)

none_fails : (make : Bool → Validity) (own : Refusal) (b : Bool) → make true ≡ all_valid → first_failing (rule own b ∷ []) ≡ None → make b ≡ all_valid
none_fails make own true t h = t
none_fails make own false t h = absurd (none-some own (sym h))

module _ (G : VerifyFn) (context : GroupContext) (t : Tree) (sender : Sender) where
  -- what is found of one proposal
  abbrev Of : Proposal → Validity
  Of p = entry_validity G context t sender (entries.Proposal p)

  faulty : (p : Proposal) (fault : Refusal) → first_failing (proposal_rules G context t sender p) ≡ Some fault → Of p ≡ invalid_by fault
  faulty (Add k) fault h = only fault (λ b. record all_valid { adds = b }) refusals.AddInvalid (valid_if_add G context (Add k)) refl refl h
  faulty (Update x) fault h = only fault (λ b. record all_valid { updates = b }) refusals.UpdateInvalid (valid_if_update G context t sender (Update x)) refl refl h
  faulty (Remove i) fault h = only fault (λ b. record all_valid { removes = b }) refusals.RemoveInvalid (valid_if_remove t (Remove i)) refl refl h
  faulty (ContextExtensions es) fault h = only fault (λ b. record all_valid { extensions = b }) refusals.ContextExtensionsInvalid (valid_if_extensions (ContextExtensions es)) refl refl h
  faulty (PreSharedKey id) fault h = only fault (λ b. record all_valid { psks = b }) refusals.PskInvalid (valid_if_psk context sender (PreSharedKey id)) refl refl h
  faulty (ReInit r) fault h = only fault (λ b. record all_valid { reinits = b }) refusals.ReInitInvalid (valid_if_reinit context (ReInit r)) refl refl h
  faulty (ExternalInit output) fault h = ap invalid_by (same_Some refusals.ExternalInitMisplaced fault h)

  faultless : (p : Proposal) → first_failing (proposal_rules G context t sender p) ≡ None → Of p ≡ all_valid
  faultless (Add k) h = none_fails (λ b. record all_valid { adds = b }) refusals.AddInvalid (valid_if_add G context (Add k)) refl h
  faultless (Update x) h = none_fails (λ b. record all_valid { updates = b }) refusals.UpdateInvalid (valid_if_update G context t sender (Update x)) refl h
  faultless (Remove i) h = none_fails (λ b. record all_valid { removes = b }) refusals.RemoveInvalid (valid_if_remove t (Remove i)) refl h
  faultless (ContextExtensions es) h = none_fails (λ b. record all_valid { extensions = b }) refusals.ContextExtensionsInvalid (valid_if_extensions (ContextExtensions es)) refl h
  faultless (PreSharedKey id) h = none_fails (λ b. record all_valid { psks = b }) refusals.PskInvalid (valid_if_psk context sender (PreSharedKey id)) refl h
  faultless (ReInit r) h = none_fails (λ b. record all_valid { reinits = b }) refusals.ReInitInvalid (valid_if_reinit context (ReInit r)) refl h
  faultless (ExternalInit output) h = absurd (none-some refusals.ExternalInitMisplaced (sym h))

  module _ (set : is_present t sender ≡ true) where
    -- a proposal that is refused for a fault
    pub entry_invalid : (p : Proposal) (fault : Refusal) → first_failing (checked_rules G context t sender p) ≡ Some fault → invalid_by fault ≡ Of p
    entry_invalid p fault h = sym (faulty p fault (sym (past_first refusals.SenderNotMember (is_present t sender) (proposal_rules G context t sender p) set) ∙ h))

    -- a proposal that isn't
    pub entry_valid : (p : Proposal) → first_failing (checked_rules G context t sender p) ≡ None → all_valid ≡ Of p
    entry_valid p h = sym (faultless p (sym (past_first refusals.SenderNotMember (is_present t sender) (proposal_rules G context t sender p) set) ∙ h))

-- ---- one entry after the other

and_true : (a : Bool) → (a && true) ≡ a
and_true true = refl
and_true false = refl

and_assoc : (a b c : Bool) → (a && (b && c)) ≡ ((a && b) && c)
and_assoc true b c = refl
and_assoc false b c = refl

both_assoc : (a b c : Validity) → both_valid a (both_valid b c) ≡ both_valid (both_valid a b) c
both_assoc a b c = λ i. record {
  adds = and_assoc a.adds b.adds c.adds i;
  updates = and_assoc a.updates b.updates c.updates i;
  removes = and_assoc a.removes b.removes c.removes i;
  extensions = and_assoc a.extensions b.extensions c.extensions i;
  psks = and_assoc a.psks b.psks c.psks i;
  reinits = and_assoc a.reinits b.reinits c.reinits i;
  external_inits = and_assoc a.external_inits b.external_inits c.external_inits i;
}

both_all : (a : Validity) → both_valid a all_valid ≡ a
both_all a = λ i. record {
  adds = and_true a.adds i;
  updates = and_true a.updates i;
  removes = and_true a.removes i;
  extensions = and_true a.extensions i;
  psks = and_true a.psks i;
  reinits = and_true a.reinits i;
  external_inits = and_true a.external_inits i;
}

module _ (G : VerifyFn) (context : GroupContext) (t : Tree) (committer : Sender) where
  -- a list and its first entry
  list_step : (e : ProposalOrRef) (es : List ProposalOrRef)
      → list_validity G context t committer (e ∷ es) ≡ both_valid (entry_validity G context t committer e) (list_validity G context t committer es)
  unfolding all_inline
  list_step e es = refl

  list_end : list_validity G context t committer [] ≡ all_valid
  unfolding all_inline
  list_end = refl

  both_own : (v : Validity) → both_valid all_valid v ≡ v
  both_own v = refl

  pub checked_first : (es rest : List ProposalOrRef) (first : Validity) → rest ≡ es → first ≡ all_valid
      → list_validity G context t committer es ≡ both_valid first (list_validity G context t committer rest)
  checked_first es rest first same all =
      sym (both_own (list_validity G context t committer es))
      ∙ (λ i. both_valid (sym all i) (list_validity G context t committer (sym same i)))

  pub checked_more : (whole so_far now new : Validity) (e : ProposalOrRef) (rest tail : List ProposalOrRef) → rest ≡ e ∷ tail
      → whole ≡ both_valid so_far (list_validity G context t committer rest) → now ≡ entry_validity G context t committer e → new ≡ both_valid so_far now
      → whole ≡ both_valid new (list_validity G context t committer tail)
  checked_more whole so_far now new e rest tail split known here more =
      known
      ∙ ap (λ es. both_valid so_far (list_validity G context t committer es)) split
      ∙ ap (both_valid so_far) (list_step e tail)
      ∙ both_assoc so_far (entry_validity G context t committer e) (list_validity G context t committer tail)
      ∙ ap (λ v. both_valid (both_valid so_far v) (list_validity G context t committer tail)) (sym here)
      ∙ ap (λ v. both_valid v (list_validity G context t committer tail)) (sym more)

  -- the first rule that fails, where none is left
  pub checked_all : (es : List ProposalOrRef) (so_far : Validity) (rest : List ProposalOrRef) → rest ≡ []
      → list_validity G context t committer es ≡ both_valid so_far (list_validity G context t committer rest)
      → first_failing (validity_rules (list_validity G context t committer es)) ≡ first_failing (validity_rules so_far)
  checked_all es so_far rest none known =
      ap (λ v. first_failing (validity_rules v))
      (known
      ∙ ap (λ ys. both_valid so_far (list_validity G context t committer ys)) none
      ∙ ap (both_valid so_far) list_end
      ∙ both_all so_far)
