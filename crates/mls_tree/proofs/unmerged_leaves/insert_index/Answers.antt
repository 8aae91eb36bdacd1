use Rattle.std.proofs.Common.{ap, ◌∙◌, sym, ℕ, List, insert, arith, not, Bool}
use Rattle.std.specs.Prelude.{nat_le, if◌then◌else◌}
use Rattle.std.proofs.lemmas.List.Sums.{prefix_len-le-length}
use Rattle.mls_tree.specs.TreeOperations.{insert_before, without_number}
use Rattle.mls_tree.proofs.Lists.{insert_number-present, insert_number-absent}
use Rattle.mls_tree.proofs.Entering.{has-number, before-first, in_lists-left}
use Rattle.mls_tree.proofs.unmerged_leaves.insert_index.Goals as goal

pub returns-then-is_some-clause-in_lists : goal.returns-then-is_some-clause-in_lists
returns-then-is_some-clause-in_lists c =
    sym (insert_number-present c.args.number c.args.list.now (has-number c.args.number c.args.list.now c.position.result _ c.position.ensures (sym c.is_some.ensures ∙ c.if-is_some.true)))

pub insert-requires-clause-inside : goal.insert-requires-clause-inside
insert-requires-clause-inside c = omega (arith, c.insertion_point-at.ensures, prefix_len-le-length (λ x. not (nat_le c.args.number x)) c.args.list.now)

pub insert-requires-clause-capacity : goal.insert-requires-clause-capacity
insert-requires-clause-capacity c =
    let absent = has-number c.args.number c.args.list.now c.position.result _ c.position.ensures (sym c.is_some.ensures ∙ c.if-is_some.false) in
    omega (arith, c.requires, insert_number-absent c.args.number c.args.list.now absent)

pub returns-clause-in_lists : goal.returns-clause-in_lists
returns-clause-in_lists c =
    let list : List ℕ = c.args.list.now in
    let absent = has-number c.args.number list c.position.result _ c.position.ensures (sym c.is_some.ensures ∙ c.if-is_some.false) in
    c.in_ok-insert.ensures.changed ∙ ap (λ k. insert list k c.args.number) c.insertion_point-at.ensures ∙ sym (before-first c.args.number list)
    ∙ sym (ap (λ (b : Bool). if b then list else insert_before c.args.number list) absent)

pub returns-clause-back : goal.returns-clause-back
returns-clause-back c =
    let list : List ℕ = c.args.list.now in
    let absent = has-number c.args.number list c.position.result _ c.position.ensures (sym c.is_some.ensures ∙ c.if-is_some.false) in
    ap (λ (xs : List ℕ). without_number c.args.number xs) (c.in_ok-insert.ensures.changed ∙ ap (λ k. insert list k c.args.number) c.insertion_point-at.ensures ∙ sym (before-first c.args.number list))
    ∙ in_lists-left c.args.number list absent
