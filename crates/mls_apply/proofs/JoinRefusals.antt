-- The refusals of an external commit by its path and by its list: those of the rules for its proposals are other ones.
use Rattle.std.proofs.Common.{◌≡◌, ◌∙◌, ◌∷◌, List, true, Option, Some, None, IsSome, sym}
use Rattle.std.specs.Prelude.{is_some}
use Rattle.std.proofs.lemmas.Bool.{false≢true}
use Rattle.mls_nodes.specs.declared.context.GroupContext.{GroupContext}
use Rattle.mls_nodes.specs.declared.leaf.LeafNode.{LeafNode}
use Rattle.mls_tree.specs.Tree.{Tree}
use Rattle.mls_msgs.specs.declared.commit.Commit.{Commit}
use Rattle.mls_msgs.specs.declared.commit.UpdatePath.{UpdatePath}
use Rattle.mls_msgs.specs.declared.proposal.ProposalOrRef.{ProposalOrRef}
use Rattle.mls_apply.specs.declared.refusal.Refusal.TheVariants.{PathMissing, JoinList}
use Rattle.mls_apply.specs.declared.list_item.ListItem.{ListItem}
use Rattle.mls_apply.specs.JoinRules.{is_join_list, join_items, join_item_rules, join_list_rules, path_of_join, join_refusal}
use Rattle.mls_apply.specs.RuleLists.{rule, first_failing}
use Rattle.mls_apply.proofs.RuleLists.{AreOthers, no_rules, one_more, it_fails}

module _ (context : GroupContext) (t : Tree) where
  -- the rules for the proposals have other names
  items_no_path : (x : LeafNode) (items : List ListItem) → AreOthers PathMissing (join_item_rules context t x items)
  items_no_path x items = one_more (λ e. cc) (one_more (λ e. cc) (one_more (λ e. cc) (one_more (λ e. cc) no_rules)))

  items_no_list : (x : LeafNode) (items : List ListItem) → AreOthers JoinList (join_item_rules context t x items)
  items_no_list x items = one_more (λ e. cc) (one_more (λ e. cc) (one_more (λ e. cc) (one_more (λ e. cc) no_rules)))

  path_there : (es : List ProposalOrRef) (o : Option UpdatePath) → IsSome o
      → first_failing (rule PathMissing (is_some o) ∷ path_of_join context t es o) ≡ Some PathMissing → ⊥
  path_there es None has h = false≢true has
  path_there es (Some path) has h =
      let others : AreOthers PathMissing (join_list_rules context t path.leaf_node es) = one_more (λ e. cc) (items_no_path path.leaf_node (join_items es)) in
      others.never h

  list_there : (es : List ProposalOrRef) (o : Option UpdatePath) → is_join_list es ≡ true
      → first_failing (rule PathMissing (is_some o) ∷ path_of_join context t es o) ≡ Some JoinList → ⊥
  list_there es None list h =
      let others : AreOthers JoinList (rule PathMissing (is_some {T = UpdatePath} None) ∷ path_of_join context t es None) = one_more (λ e. cc) no_rules in
      others.never h
  list_there es (Some path) list h =
      false≢true
      (sym (it_fails JoinList (is_join_list es) (join_item_rules context t path.leaf_node (join_items es)) (items_no_list path.leaf_node (join_items es)) h)
      ∙ list)

  -- a commit that has a path is not refused for it, and one whose list is that of an external commit not for that
  pub not_path_missing : (c : Commit) → IsSome c.path → join_refusal context t c ≡ Some PathMissing → ⊥
  unfolding join_refusal
  not_path_missing c has h = path_there c.proposals c.path has h

  pub not_join_list : (c : Commit) → is_join_list c.proposals ≡ true → join_refusal context t c ≡ Some JoinList → ⊥
  unfolding join_refusal
  not_join_list c list h = list_there c.proposals c.path list h
