-- The invariants of a follower's state (RFC 9420, 7.3, 12.4, 12.4.2 and 13.4). Internal: no public contract uses this.
use Rattle.std.specs.Prelude.{◌≡◌, Bool, true}
use Rattle.std.specs.Coded.{Coded-set, coded_bool}
use Rattle.mls_nodes.specs.declared.required_capabilities.RequiredCapabilities.{RequiredCapabilities}
use Rattle.mls_nodes.specs.Requirements.{Requires}
use Rattle.mls_check.specs.DistinctKeys.{has_distinct_keys}
use Rattle.mls_check.specs.LeafValidation.{LeavesAreValid, all_leaves, member_rule}
use Rattle.mls_check.specs.Signatures.{VerifyFn}
use Rattle.mls_msgs.specs.Rules.{has_rule}
use Rattle.mls_signatures.specs.AcceptedSignatures.{are_from_packages, are_pending_accepted}
use Rattle.mls_follow.specs.State.{State}
use Rattle.mls_follow.specs.StrictRules.{supports_extensions}

-- `HasUniqueKeysAndValidLeaves G s`: the state's tree has distinct encryption keys, and its leaf nodes are valid under
-- what the context requires, by the checker's verification function G. If the follower has strict rule 51, they support the
-- types of the context's extensions (RFC 9420, 13.4).
pub record HasUniqueKeysAndValidLeaves (G : VerifyFn) (s : State) : Type 0 where
  pub distinct : has_distinct_keys s.tree ≡ true
  pub members : (required : RequiredCapabilities) → Requires s.context required
      → LeavesAreValid G s.context.cipher_suite s.context.group_id required s.tree
  pub supported : has_rule s.rules 51 ≡ true → supports_extensions s.context.extensions s.tree ≡ true

bool_set : (x y : Bool) → IsProp (x ≡ y)
bool_set x y = Coded-set coded_bool x y

-- `HasUniqueKeysAndValidLeaves` has at most one proof.
pub HasUniqueKeysAndValidLeaves-prop : (G : VerifyFn) (s : State) → IsProp (HasUniqueKeysAndValidLeaves G s)
HasUniqueKeysAndValidLeaves-prop G s x y = λ i. record {
  distinct = bool_set (has_distinct_keys s.tree) true x.distinct y.distinct i;
  members = λ required requires. record {
    rules = λ k. bool_set (all_leaves (member_rule G s.context.cipher_suite s.context.group_id required s.tree k) 0 s.tree) true
        ((x.members required requires).rules k) ((y.members required requires).rules k) i;
  };
  supported = λ asked. bool_set (supports_extensions s.context.extensions s.tree) true (x.supported asked) (y.supported asked) i;
}

-- `HasAcceptedPending G s`: the checker's verification function G accepts the signatures of each pending proposal: those of an
-- Add's leaf node and KeyPackage (RFC 9420, 12.1.1), and that of an Update's leaf node (12.1.2). The leaf node of each pending Add
-- is from a KeyPackage (10.1).
pub record HasAcceptedPending (G : VerifyFn) (s : State) : Type 0 where
  pub accepted : are_pending_accepted G s.context s.known ≡ true
  pub packages : are_from_packages s.known ≡ true

-- `HasAcceptedPending` has at most one proof.
pub HasAcceptedPending-prop : (G : VerifyFn) (s : State) → IsProp (HasAcceptedPending G s)
HasAcceptedPending-prop G s x y = λ i. record {
  accepted = bool_set (are_pending_accepted G s.context s.known) true x.accepted y.accepted i;
  packages = bool_set (are_from_packages s.known) true x.packages y.packages i;
}
