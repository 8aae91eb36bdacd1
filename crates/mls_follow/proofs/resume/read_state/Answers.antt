use Rattle.std.proofs.Common.{◌≤◌, ℕ, List, length, subst}
use Rattle.std.proofs.lemmas.Result.{err_from_is_err_and}
use Rattle.mls_wire.specs.Limits.{input_limit}
use Rattle.mls_state.specs.StateFile.{IsFileOf}
use Rattle.mls_follow.proofs.Resuming.{unreadable_fault, treeless_content, no_tree_read, fault_again}
use Rattle.mls_follow.proofs.resume.read_state.Goals as goal

pub returns-in_err-content-clause-refused : goal.returns-in_err-content-clause-refused
returns-in_err-content-clause-refused c =
    let p = err_from_is_err_and c.from_residual.result c.from_residual.ensures.1 in
    rw (p.1, p.2) (fault_again _ _ _ c.as_slice.ensures.value c.in_err-content.ensures.refused)

pub returns-in-Ok-clause-intact : goal.returns-in-Ok-clause-intact
returns-in-Ok-clause-intact c = (
  c.in_ok-content.content,
  record {
    file = subst (λ (bytes : List ℕ). IsFileOf bytes c.in_ok-content.content) c.as_slice.ensures.value c.in_ok-content.ensures.file;
    bounded = subst (λ (bytes : List ℕ). length bytes ≤ input_limit) c.as_slice.ensures.value c.in_ok-content.ensures.bounded;
    tree = c.in-Ok.ensures.tree;
  },
  c.in-Ok.ensures.rest,
)

pub returns-in-Err-clause-refused : goal.returns-in-Err-clause-refused
returns-in-Err-clause-refused c = λ G.
    let content = c.in_ok-content.content in
    let file : IsFileOf c.args.bytes.items content = subst (λ (bytes : List ℕ). IsFileOf bytes content) c.as_slice.ensures.value c.in_ok-content.ensures.file in
    rw c.from.ensures (unreadable_fault G c.args.bytes.items c.in-Err.fault
    (λ own. treeless_content c.args.bytes.items content file (no_tree_read content.tree c.in-Err.fault c.in-Err.ensures.tree own)))
