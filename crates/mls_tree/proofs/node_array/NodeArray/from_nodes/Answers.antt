use Rattle.std.proofs.Common.{sym, ◌∙◌, arith, subst, refl, ◌≡◌, ◌+◌, ◌*◌, length, map}
use Rattle.std.specs.Prelude.{slice_get}
use Rattle.mls_nodes.specs.NodeValues.{entry_value}
use Rattle.mls_tree.specs.NodeArray.{FitsNodeIndex, IsNoLength, ratchet_tree_in, tree_in}
use Rattle.mls_tree.specs.Tree.{listing}
use Rattle.mls_tree.specs.TreeInternal.{leaves_at}
use Rattle.mls_tree.specs.TreeSizes.{IsListing, IsTooLong}
use Rattle.mls_tree.specs.declared.error.TreeError.TheVariants.{BadShape}
use Rattle.mls_tree.proofs.Refusals.{IsBad, bad_length, bad-ok, bad-too_many, bad-shape, IsTooLong-height, no_refusal-ok}
use Rattle.mls_tree.proofs.Listings.{listing-fits, IsArrayOf-fits}
use Rattle.mls_tree.proofs.Arrays.{listing-array}
use Rattle.mls_tree.proofs.node_array.NodeArray.from_nodes.Goals as goal

-- the length holds no tree
bad_size : (c : goal.In-Err) → IsBad c.in-Err.error c.args.nodes.items
bad_size c = bad_length c.in-Err.error c.args.nodes.items (subst (λ n. IsNoLength c.in-Err.error n) (c.len.ensures ∙ c.args.nodes.ok.0) c.in-Err.ensures)

pub returns-in-Err-clause-is_listing : goal.returns-in-Err-clause-is_listing
returns-in-Err-clause-is_listing c = bad-ok (Unit {0}) _ c.args.nodes.items c.args.nodes c.in-Err.error (bad_size c)

pub returns-in-Err-clause-too_many_leaves : goal.returns-in-Err-clause-too_many_leaves
returns-in-Err-clause-too_many_leaves c = bad-too_many _ _ c.args.nodes.items c.args.nodes c.in-Err.error (bad_size c)

pub returns-in-Err-clause-bad_shape : goal.returns-in-Err-clause-bad_shape
returns-in-Err-clause-bad_shape c = bad-shape _ _ c.args.nodes.items c.args.nodes c.in-Err.error (bad_size c)

-- a node is of the wrong kind
long : (c : goal.Then-not-all_fit) → length c.args.nodes.items + 1 ≡ 2 * leaves_at c.in-Ok.height
long c = omega (arith, c.in-Ok.ensures.1, c.len.ensures, c.args.nodes.ok.0)

bad_kind : (c : goal.Then-not-all_fit) → IsBad BadShape c.args.nodes.items
bad_kind c = record {
  none = λ (t, e). absurd (cc (c.if-not-all_fit.ensures.1 (λ p. subst (λ v. FitsNodeIndex p (slice_get v p)) (sym c.as_slice.ensures.value) (listing-fits t.tree c.args.nodes.items e p))));
  cause = IsTooLong-height (length c.args.nodes.items) c.in-Ok.height c.in-Ok.ensures.0 (long c);
}

pub returns-then-not-all_fit-clause-is_listing : goal.returns-then-not-all_fit-clause-is_listing
returns-then-not-all_fit-clause-is_listing c = bad-ok (Unit {0}) _ c.args.nodes.items c.args.nodes BadShape (bad_kind c)

pub returns-then-not-all_fit-clause-too_many_leaves : goal.returns-then-not-all_fit-clause-too_many_leaves
returns-then-not-all_fit-clause-too_many_leaves c = bad-too_many _ _ c.args.nodes.items c.args.nodes BadShape (bad_kind c)

pub returns-then-not-all_fit-clause-bad_shape : goal.returns-then-not-all_fit-clause-bad_shape
returns-then-not-all_fit-clause-bad_shape c = bad-shape _ _ c.args.nodes.items c.args.nodes BadShape (bad_kind c)

-- they are the nodes of a tree
found : (c : goal.After-result-1) → listing (tree_in c.args.nodes.items c.in-Ok.height 0) ≡ map entry_value c.args.nodes.items
found c =
    sym (listing-array c.args.nodes.items c.in-Ok.height
    (IsArrayOf-fits c.args.nodes.items c.as_slice.result.now c.in-Ok.height c.as_slice.ensures.value
    (omega (arith, c.in-Ok.ensures.1, c.len.ensures, c.args.nodes.ok.0)) (c.if-not-all_fit.ensures.0 refl)))

tree : (c : goal.After-result-1) → IsListing (map entry_value c.args.nodes.items)
tree c = (ratchet_tree_in c.args.nodes.items c.in-Ok.height c.in-Ok.ensures.0, found c)

pub returns-clause-tree : goal.returns-clause-tree
returns-clause-tree c = found c

pub returns-clause-is_listing : goal.returns-clause-is_listing
returns-clause-is_listing c = (λ h. tree c, λ h. refl)

pub returns-clause-too_many_leaves : goal.returns-clause-too_many_leaves
returns-clause-too_many_leaves c =
    no_refusal-ok _ _ (IsTooLong (length c.args.nodes.items))
    (IsTooLong-height (length c.args.nodes.items) c.in-Ok.height c.in-Ok.ensures.0 (omega (arith, c.in-Ok.ensures.1, c.len.ensures, c.args.nodes.ok.0)))

pub returns-clause-bad_shape : goal.returns-clause-bad_shape
returns-clause-bad_shape c = no_refusal-ok _ _ _ (λ (p : (¬ IsListing (map entry_value c.args.nodes.items)) × ¬ IsTooLong (length c.args.nodes.items)). p.0 (tree c))
