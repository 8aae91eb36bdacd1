-- What a state keeps to which strict rules are added, and what it has then.
use Rattle.std.proofs.Common.{◌≡◌, ◌∙◌, ℕ, Bool, true, false, sym, ap, subst}
use Rattle.std.specs.Prelude.{◌||◌}
use Rattle.mls_check.specs.Signatures.{VerifyFn}
use Rattle.mls_msgs.specs.Rules.{has_rule}
use Rattle.mls_msgs.specs.declared.rules.Rules.{Rules}
use Rattle.mls_follow.proofs.Holding.{IsSteady}
use Rattle.mls_follow.proofs.StrictnessKept.{added_rules_keep_strictness}
use Rattle.mls_follow.specs.AddedRules.{HasAddedRules}
use Rattle.mls_follow.specs.State.{State}
use Rattle.mls_follow.specs.StoredRuns.{IsResumable}
use Rattle.mls_follow.specs.StrictnessKept.{IsStrictState}
use Rattle.mls_follow.specs.Validity.{IsValidState}

-- ---- what is kept

module _ (asked : Rules) (s new : State) (h : HasAddedRules asked s new) where
  pub added_valid : (G : VerifyFn) → IsValidState G s → IsValidState G new
  added_valid G v =
      subst (IsValidState G) (sym h.state) (record { valid = v.valid; required = v.required; requires = v.requires; members = v.members })

  pub added_steady : IsSteady s → IsSteady new
  added_steady v =
      subst IsSteady (sym h.state) (record {
        held = record { shape = v.held.shape; tree = v.held.tree; known = v.held.known };
        required = v.required;
        requires = v.requires;
      })

  pub added_resumable : (G : VerifyFn) → IsResumable G s → IsResumable G new
  added_resumable G v =
      let valid = v.valid in
      let strict : IsStrictState (record s { rules = h.all }) = subst IsStrictState h.state (added_rules_keep_strictness asked s new v.strict h) in
      subst (IsResumable G) (sym h.state) (record {
        supported = v.supported;
        valid = record { valid = valid.valid; required = valid.required; requires = valid.requires; members = valid.members };
        hashed = v.hashed;
        held = v.held;
        added_fit = v.added_fit;
        strict = strict;
      })

-- ---- what the state has then

has_asked : (has asked all : Bool) → all ≡ (has || asked) → asked ≡ true → all ≡ true
has_asked true asked all union e = union
has_asked false asked all union e = union ∙ e

pub added_asked : (asked : Rules) (s new : State) → HasAddedRules asked s new → (n : ℕ) → has_rule asked n ≡ true → has_rule new.rules n ≡ true
added_asked asked s new h n e =
    ap (λ (t : State). has_rule t.rules n) h.state ∙ has_asked (has_rule s.rules n) (has_rule asked n) (has_rule h.all n) (h.is_union n) e
