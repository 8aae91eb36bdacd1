use Rattle.std.proofs.Common.{refl, subst, inl, inr}
use Rattle.std.proofs.lemmas.Result.{IfOk-weaker}
use Rattle.serde_json.specs.View.{view}
use Rattle.mls_tree.specs.PublicTreeModel.{plain}
use Rattle.mls_hash.specs.SuiteHash.{hash_of}
use Rattle.mls_apply.specs.declared.list_item.ListItem.{ListItem}
use Rattle.mls_vectors.specs.CheckModel.{outcome_of}
use Rattle.mls_vectors.specs.TreeOperations.{IsItemOutcome}
use Rattle.mls_vectors.proofs.tree_operations.proposal_outcome.Goals as goal

pub returns-in-Some : goal.returns-in-Some
returns-in-Some c =
    IfOk-weaker c.item_outcome-outcome.result _ _ (λ o h. inr (record {
      operands = record {
        suite = c.args.suite;
        has_suite = c.requires.suite;
        tree = plain c.args.tree.now;
        has_tree = c.requires.tree;
        item = record { sender = c.in-Some.sender; proposal = c.args.proposal };
        has_proposal = c.requires.proposal;
        has_sender = c.in-Some.ensures.some;
      };
      outcome_is = subst (λ (x : ListItem). IsItemOutcome (hash_of c.args.suite) c.args.tree.now.tree x (view c.args.vector.now) (outcome_of o)) c.new-item.ensures h;
    })) c.item_outcome-outcome.ensures

pub returns-in-None : goal.returns-in-None
returns-in-None c = inl (inr ((c.args.suite, c.requires.suite), inr ((plain c.args.tree.now, c.requires.tree), inr ((c.args.proposal, c.requires.proposal), inl (refl, λ h. c.in-None.ensures.none h.0 h.1)))))
