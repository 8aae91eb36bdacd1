use Rattle.std.proofs.Common.{ap, ◌∙◌, sym, ℕ, List, Some, None, length, arith, not, Bool}
use Rattle.std.specs.Prelude.{nat_le, if◌then◌else◌}
use Rattle.std.proofs.lemmas.List.Sums.{prefix_len-le-length}
use Rattle.mls_tree.specs.TreeOperations.{insert_before}
use Rattle.mls_tree.proofs.Lists.{insert_number-absent, insert_before-length}
use Rattle.mls_tree.proofs.Entering.{has-number, made-before}
use Rattle.mls_tree.proofs.unmerged_leaves.with_number.Goals as goal

pub returns-then-is_some : goal.returns-then-is_some
returns-then-is_some c =
    let present = has-number c.args.number c.args.list.now c.position.result _ c.position.ensures (sym c.is_some.ensures ∙ c.if-is_some.true) in
    sym (ap (λ (b : Bool). if b then None else Some (insert_before c.args.number c.args.list.now)) present)

pub split_at-requires : goal.split_at-requires
split_at-requires c =
    omega (arith, c.insertion_point.ensures, prefix_len-le-length (λ x. not (nat_le c.args.number x)) c.args.list.now, ap length c.as_slice-leaves.ensures.items)

pub unreachable-requires : goal.unreachable-requires
unreachable-requires c =
    let list : List ℕ = c.args.list.now in
    let absent = has-number c.args.number list c.position.result _ c.position.ensures (sym c.is_some.ensures ∙ c.if-is_some.false) in
    let made = made-before c.args.number list c.as_slice-leaves.result.now c.insertion_point.result _ _ _ _ _ _ c.as_slice-leaves.ensures.items c.insertion_point.ensures
    c.split_at.ensures.front c.split_at.ensures.back c.in_ok-items.ensures.items c.in_ok-extend_from_slice.ensures.items c.in_ok-push.ensures.items c.in_ok-extend_from_slice-2.ensures.items in
    omega (arith, c.in_default.ensures.1, ap length made, insert_before-length c.args.number list, insert_number-absent c.args.number list absent, c.requires)

pub returns : goal.returns
returns c =
    let list : List ℕ = c.args.list.now in
    let absent = has-number c.args.number list c.position.result _ c.position.ensures (sym c.is_some.ensures ∙ c.if-is_some.false) in
    let made = made-before c.args.number list c.as_slice-leaves.result.now c.insertion_point.result _ _ _ _ _ _ c.as_slice-leaves.ensures.items c.insertion_point.ensures
    c.split_at.ensures.front c.split_at.ensures.back c.in_ok-items.ensures.items c.in_ok-extend_from_slice.ensures.items c.in_ok-push.ensures.items c.in_ok-extend_from_slice-2.ensures.items in
    ap (λ (xs : List ℕ). Some xs) (c.in-Ok.ensures ∙ made) ∙ sym (ap (λ (b : Bool). if b then None else Some (insert_before c.args.number list)) absent)
