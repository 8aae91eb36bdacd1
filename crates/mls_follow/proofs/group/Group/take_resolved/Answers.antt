use Rattle.std.proofs.Common.{Some, refl, ap, sym}
use Rattle.std.proofs.lemmas.Result.{err_from_is_err_and}
use Rattle.mls_follow.proofs.group.Group.take_resolved.Goals as goal

-- what is then required of members can't be read
pub returns-in_err-required : goal.returns-in_err-required
returns-in_err-required g c =
    let p = err_from_is_err_and c.from_residual.result c.from_residual.ensures.1 in
    let refused = rw c.as_slice.ensures.value at c.in_err-required.ensures.refused in
    rw (p.1, p.2) (tt, tt, λ own. (let r = refused own in rw (r.1 c.args.self.now.required) (ap Some (sym r.0))), refl)

pub apply_commit-requires-clause-requirements : goal.apply_commit-requires-clause-requirements
apply_commit-requires-clause-requirements g c =
    let required = rw c.as_slice.ensures.value at c.in_ok-required.ensures.required in
    required c.args.self.now.required

pub returns : goal.returns
returns g c =
    let required = rw c.as_slice.ensures.value at c.in_ok-required.ensures.required in
    rw (required c.args.self.now.required) c.apply_commit.ensures
