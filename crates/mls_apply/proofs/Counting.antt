-- The ciphertexts of a path's nodes, counted one node after the other.
use Rattle.std.proofs.Common.{◌≡◌, ◌≢◌, ℕ, ◌+◌, ◌*◌, ◌<◌, ◌≤◌, Bool, true, false, not, ◌&&◌, List, map, drop, length, get_or, Option, Some, None, sym, ap, ◌∙◌, arith}
use Rattle.std.specs.Prelude.{◌==◌, option_map, IsSome, IfSome}
use Rattle.std.specs.BTreeSet.{BTreeSet, contains}
use Rattle.std.specs.List.{filter, list_any}
use Rattle.std.specs.Ordering.{nat_cmp}
use Rattle.std.proofs.lemmas.Bool.Decides.{nat_tests}
use Rattle.std.proofs.lemmas.List.{drop_more, drop_all}
use Rattle.std.proofs.lemmas.List.Elements.{filter_agree}
use Rattle.mls_msgs.specs.declared.commit.PathNode.{PathNode}
use Rattle.mls_msgs.specs.declared.commit.UpdatePath.{UpdatePath}
use Rattle.mls_tree.specs.Tree.{leaf_count, Subtree}
use Rattle.mls_tree.specs.Paths.{resolution, filtered_direct_path}
use Rattle.mls_apply.specs.AppliedList.{AppliedTree}
use Rattle.mls_apply.specs.PathRules.{has_ciphertexts, have_counts, without_added}
use Rattle.mls_apply.specs.PathParents.{resolution_of, away_resolution}
use Rattle.mls_apply.proofs.Paths.{copath_resolutions-filtered}

-- what is told of the resolution of a subtree that stands somewhere, by another word for the subtree
pub resolution_of-mapped : (found needed : Option Subtree) (leaves : ℕ) (f : List ℕ → Bool) (b : Bool) → found ≡ needed → IsSome found
    → IfSome (option_map (λ s. resolution leaves s.first s.tree) found) (λ node_indices. b ≡ f node_indices) → b ≡ f (resolution_of leaves needed)
resolution_of-mapped None needed leaves f b same some mapped = absurd (cc)
resolution_of-mapped (Some s) needed leaves f b same some mapped = mapped ∙ ap (λ o. f (resolution_of leaves o)) same

module _ (added : List ℕ) (s : BTreeSet ℕ) (has : (p : ℕ) → contains nat_cmp s p ≡ list_any (λ j. p == 2 * j) added)
    (f : ℕ → List ℕ) (node_indices : List ℕ) (nodes : List PathNode) (k : ℕ) (node : PathNode) (node_index count : ℕ)
    (low : k < length node_indices) (inside : k < length nodes) (here : node ≡ get_or nodes k node) (at : node_index ≡ get_or node_indices k 0)
    (counted : count ≡ length (filter (λ p. not (contains nat_cmp s p)) (f node_index))) where
  counts_split : have_counts added (map f (drop k node_indices)) (drop k nodes)
      ≡ (length node.ciphertexts == count && have_counts added (map f (drop (k + 1) node_indices)) (drop (k + 1) nodes))
  counts_split =
      (λ i. have_counts added (map f (drop_more node_indices k 0 low i)) (drop_more nodes k node inside i))
      ∙ (λ i. length (sym here i).ciphertexts == length (without_added added (f (sym at i))) && have_counts added (map f (drop (k + 1) node_indices)) (drop (k + 1) nodes))
      ∙ ap (λ n. length node.ciphertexts == n && have_counts added (map f (drop (k + 1) node_indices)) (drop (k + 1) nodes))
      (sym (counted ∙ ap length (filter_agree (λ p. not (contains nat_cmp s p)) (λ p. not (list_any (λ j. p == 2 * j) added)) (λ p. ap not (has p)) (f node_index))))

  -- a node with another number
  pub counts-differ : length node.ciphertexts ≢ count → have_counts added (map f (drop k node_indices)) (drop k nodes) ≡ false
  counts-differ other =
      let e : (length node.ciphertexts == count) ≡ false = grind (arith, nat_tests) in
      counts_split ∙ ap (λ b. b && have_counts added (map f (drop (k + 1) node_indices)) (drop (k + 1) nodes)) e

  -- a node with this number
  pub counts-agree : length node.ciphertexts ≡ count → have_counts added (map f (drop k node_indices)) (drop k nodes) ≡ have_counts added (map f (drop (k + 1) node_indices)) (drop (k + 1) nodes)
  counts-agree same =
      let e : (length node.ciphertexts == count) ≡ true = grind (arith, nat_tests) in
      counts_split ∙ ap (λ b. b && have_counts added (map f (drop (k + 1) node_indices)) (drop (k + 1) nodes)) e

-- no node is left
pub counts-end : (added : List ℕ) (f : ℕ → List ℕ) (node_indices : List ℕ) (nodes : List PathNode) (k : ℕ) → length node_indices ≤ k → length nodes ≤ k
    → have_counts added (map f (drop k node_indices)) (drop k nodes) ≡ true
counts-end added f node_indices nodes k a b = λ i. have_counts added (map f (drop_all k node_indices a i)) (drop_all k nodes b i)

-- what was counted over the filtered direct path
pub has_ciphertexts-counted : (path : UpdatePath) (g : AppliedTree) (i : ℕ) (added node_indices : List ℕ) (nodes : List PathNode) (b : Bool)
    → added ≡ g.added → node_indices ≡ filtered_direct_path (leaf_count g.tree) 0 g.tree i → nodes ≡ path.nodes
    → b ≡ have_counts added (map (away_resolution g.tree i) node_indices) nodes → has_ciphertexts path g i ≡ b
unfolding has_ciphertexts
has_ciphertexts-counted path g i added node_indices nodes b a p n e =
    ap (λ rs. have_counts g.added rs path.nodes) (copath_resolutions-filtered g.tree i)
    ∙ (λ j. have_counts (sym a j) (map (away_resolution g.tree i) (sym p j)) (sym n j))
    ∙ sym e
