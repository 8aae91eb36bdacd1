-- What is found by the strict rules: of a context and its valid tree, and of a follower that has resumed.
use Rattle.std.proofs.Common.{◌≡◌, ◌≢◌, ℕ, List, refl, sym, subst}
use Rattle.mls_nodes.specs.declared.context.GroupContext.{GroupContext}
use Rattle.mls_nodes.specs.declared.required_capabilities.RequiredCapabilities.{RequiredCapabilities}
use Rattle.mls_tree.specs.RatchetTree.{RatchetTree}
use Rattle.mls_tree.specs.TreeDecoding.{IsTreeOf}
use Rattle.mls_check.specs.GroupTree.{HasMembers}
use Rattle.mls_check.specs.Signatures.{VerifyFn}
use Rattle.mls_msgs.specs.declared.rules.Rules.{Rules}
use Rattle.mls_follow.specs.AddedRules.{HasAddedRules, IsStrictRefused}
use Rattle.mls_follow.specs.Resumption.{IsResumed}
use Rattle.mls_follow.specs.State.{State}
use Rattle.mls_follow.specs.declared.added_rules.StrictRefused.{StrictRefused}
use Rattle.mls_follow.specs.declared.added_rules.StrictRefused.TheVariants as stricts
use Rattle.mls_start.specs.Inputs.{OfState}
use Rattle.mls_start.specs.StartFailures.{Says}
use Rattle.mls_start.specs.StartFindings.{IsResumedWith, Declines}
use Rattle.mls_start.specs.StartSteps.{IsNotStrict, SaysIfStrict}
use Rattle.mls_start.specs.TreeFinding.{IsContext, IsTreeFinding}
use Rattle.mls_start.specs.declared.finding.Finding.{Finding}
use Rattle.mls_start.specs.declared.finding.Finding.TheVariants.{StateNotStrict, TreeNotStrict, TreeValid}
use Rattle.mls_start.specs.declared.start_bytes.StartFailure.{StartFailure}
use Rattle.mls_start.specs.declared.start_bytes.StartFailure.TheVariants.{Found, OutOfMemory}

-- ---- a context and its tree

module _ (asked : Rules) (G : VerifyFn) (context_bytes tree_bytes : List ℕ) (c : GroupContext) (t : RatchetTree) (required : RequiredCapabilities)
    (context : IsContext context_bytes c) (members : HasMembers G c (IsTreeOf tree_bytes) t required) where
  pub found_if_strict : (finding : Finding) → SaysIfStrict asked c t.tree finding → IsTreeFinding asked G context_bytes tree_bytes finding
  found_if_strict (TreeNotStrict fault) says = (c, t, required, context, members, says)
  found_if_strict (TreeValid hash) says = (c, t, required, context, members, says.0, says.1)
  found_if_strict _ says = absurd says

-- ---- a follower that has resumed

module _ (asked : Rules) (s : State) where
  pub says_not_strict : (refused : StrictRefused) → IsStrictRefused asked s refused → (failure : StartFailure)
      → Says (λ finding. (refused ≢ stricts.OutOfMemory) × (finding ≡ StateNotStrict refused)) failure → Says (IsNotStrict asked s) failure
  says_not_strict refused fails (Found finding) h = record { refused = refused; not_out_of_memory = h.0; fails = fails; finding_is = h.1 }
  says_not_strict refused fails OutOfMemory h = tt

  module _ (G : VerifyFn) (bytes : List ℕ) (is_resumed : IsResumed G bytes s) where
    pub resumed_with : (new : State) → HasAddedRules asked s new → IsResumedWith asked G bytes new
    resumed_with new added = record { resumed = s; is_resumed = is_resumed; is_added = added }

    pub declines_not_strict : (failure : StartFailure) → Says (IsNotStrict asked s) failure → Says (Declines G (OfState asked bytes)) failure
    declines_not_strict (Found finding) h =
        subst (Declines G (OfState asked bytes)) (sym h.finding_is) (record {
          found = (s, is_resumed, h.not_out_of_memory, h.fails);
          not_valid = refl;
        })
    declines_not_strict OutOfMemory h = tt
