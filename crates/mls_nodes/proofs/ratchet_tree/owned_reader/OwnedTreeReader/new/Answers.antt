use Rattle.std.proofs.Common.{ℕ, List, refl, sym, ap, length, ◌∙◌, arith, ◌≤◌}
use Rattle.std.proofs.lemmas.Result.{err_from_is_err_and}
use Rattle.mls_wire.specs.Input.{at}
use Rattle.mls_wire.specs.Parsing.{body_at}
use Rattle.mls_nodes.proofs.RestOfTree.{no_vector}
use Rattle.mls_nodes.proofs.OwnedBytes.{vector_parts, whole_unread}
use Rattle.mls_nodes.proofs.ratchet_tree.owned_reader.OwnedTreeReader.new.Goals as goal

pub returns-in_err-body-clause-starts : goal.returns-in_err-body-clause-starts
returns-in_err-body-clause-starts c =
    let p = err_from_is_err_and c.from_residual.result c.from_residual.ensures.1 in
    let same = rw c.deref.ensures at c.as_slice.ensures.value in
    rw (p.1) (λ nodes e le. no_vector c.args.bytes.items (ap (λ (s : List ℕ). body_at (at 0 s)) (sym same) ∙ c.in_err-body.ensures.vector (omega (arith, ap length same, le))) nodes e)

pub invariant_of-result-2 : goal.invariant_of-result-2
invariant_of-result-2 c =
    let same = rw c.deref.ensures at c.as_slice.ensures.value in
    let parts = vector_parts c.as_slice.result.now c.in_ok-body.body c.in_ok-body.field-0-1 c.in_ok-body.ensures.vector.1 in
    (omega arith, omega (arith, parts.2, ap length same, ap length c.left-body_len.ensures, c.position-next.ensures))

pub returns-clause-starts : goal.returns-clause-starts
returns-clause-starts c =
    let same = rw c.deref.ensures at c.as_slice.ensures.value in
    let few : length c.args.bytes.items ≤ 268435456 = omega (arith, ap length same, c.in_ok-body.ensures.vector.0) in
    (few, refl, whole_unread c.args.bytes.items c.as_slice.result.now c.in_ok-body.body c.in_ok-body.field-0-1 c.position-next.result (length c.left-body_len.result.now) same c.in_ok-body.ensures.vector.1 c.position-next.ensures (ap length c.left-body_len.ensures))
