use Rattle.std.proofs.Common.{◌≡◌, ◌∙◌, ◌+◌, ◌<◌, ℕ, List, ◌∷◌, ap, drop, get_or, length, arith, refl, sym, subst, add-one, drop-cons, not, Vec, Global, Bor}
use Rattle.mls_tree.proofs.Entering.{has-number}
use Rattle.mls_tree.proofs.MergedLists.{IsMerging, merging-start, merging-present, merging-absent}
use Rattle.mls_tree.proofs.merged_parents.merged_list.Goals as goal
use Rattle.mls_tree.proofs.merged_parents.merged_list.Goals.{then-is_none+in_ok-extend_from_slice+in_ok-push, else-is_none}

pub loop-index-init : goal.loop-index-init
loop-index-init c = merging-start _ _ _ _ _ refl c.in_ok-merged.ensures.items c.as_slice-rest.ensures.items c.requires

pub loop-index-preserved : goal.loop-index-preserved
loop-index-preserved c =
    let k = c.loop-index.index-index in
    let list : List ℕ = c.args.list.now in
    let indices : List ℕ = c.args.indices.now in
    let i = get_or indices k 0 in
    let inside : k < length indices = omega (arith, c.loop-index-test.true) in
    let next : drop k indices ≡ i ∷ drop (k + 1) indices = rw (add-one, drop-cons indices k 0 inside) refl in
    elim c.if-is_none.branch [
      | then-is_none+in_ok-extend_from_slice+in_ok-push w ↦
          subst (λ (v : List ℕ). IsMerging list indices (drop (k + 1) indices) v c.if-is_none.rest.now) (sym (ap (λ (v : Vec ℕ Global). v.items) w.merged-is))
          (subst (λ (v : Bor (List ℕ)). IsMerging list indices (drop (k + 1) indices) w.push.new.self.items v.now) (sym w.rest-is)
          (merging-absent list indices (drop k indices) c.loop-index.merged.items c.loop-index.rest.now i (drop (k + 1) indices) next c.loop-index.invariant
          _ _ _ _ w.split_leaves.ensures.whole w.split_leaves.ensures.front w.split_leaves.ensures.rest w.in_ok-extend_from_slice.ensures.items w.in_ok-push.ensures.items
          (has-number i list c.position.result _ c.position.ensures (c.is_none.ensures ∙ ap not w.if-is_none.true))))
      | else-is_none w ↦
          subst (λ (v : List ℕ). IsMerging list indices (drop (k + 1) indices) v c.if-is_none.rest.now) (sym (ap (λ (v : Vec ℕ Global). v.items) w.merged-is))
          (subst (λ (v : Bor (List ℕ)). IsMerging list indices (drop (k + 1) indices) c.loop-index.merged.items v.now) (sym w.rest-is)
          (merging-present list indices (drop k indices) c.loop-index.merged.items c.loop-index.rest.now i (drop (k + 1) indices) next c.loop-index.invariant
          (has-number i list c.position.result _ c.position.ensures (c.is_none.ensures ∙ ap not w.if-is_none.false))))
    ]
