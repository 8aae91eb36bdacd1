use Rattle.std.proofs.Common.{◌≡◌, ℕ, List, sym, subst}
use Rattle.std.proofs.lemmas.Result.{IfOk-weaker}
use Rattle.mls_tree.specs.PublicTreeModel.{plain}
use Rattle.mls_tree.specs.RatchetTree.{RatchetTree}
use Rattle.mls_tree.specs.TreeDecoding.{IsTreeOf}
use Rattle.mls_check.proofs.GroupTrees.{members_too, requirements_too, invalid_too, strangers_too}
use Rattle.mls_check.specs.GroupTree.{FailsValid, FailsMembers}
use Rattle.mls_start.proofs.Hashes.{length_valid}
use Rattle.mls_start.proofs.StrictFindings.{found_if_strict}
use Rattle.mls_start.proofs.trees.check_parsed_tree.Goals as goal

-- a tree that is this one has these bytes too
too : (t : RatchetTree) (bytes : List ℕ) → IsTreeOf bytes t → (u : RatchetTree) → u ≡ t → IsTreeOf bytes u
too t bytes h u e = subst (IsTreeOf bytes) (sym e) h

pub check_strict_tree-requires-clause-hash : goal.check_strict_tree-requires-clause-hash
check_strict_tree-requires-clause-hash g c =
    length_valid c.args.context.now.cipher_suite c.args.context.now.tree_hash c.args.tree.now.tree c.in-Ok.ensures.members.valid_tree.valid

pub returns-in-Ok : goal.returns-in-Ok
returns-in-Ok g c =
    let G = g.C.SignatureCheck.meaning c.args.checker.now in
    let context = c.args.context.now in
    let t = plain c.args.tree.now in
    let required = c.in-Ok.required in
    λ context_bytes tree_bytes h given.
    (let members = members_too G context (λ u. u ≡ t) (IsTreeOf tree_bytes) (too t tree_bytes given) t required c.in-Ok.ensures.members in
    IfOk-weaker c.check_strict_tree.result _ _
    (found_if_strict c.args.rules.asked G context_bytes tree_bytes context t required h members) c.check_strict_tree.ensures)

pub returns-in-Err-RequirementsUnreadable : goal.returns-in-Err-RequirementsUnreadable
returns-in-Err-RequirementsUnreadable g c =
    let t = plain c.args.tree.now in
    let fails = rw c.in-Err-RequirementsUnreadable.field-0-is at c.in-Err-RequirementsUnreadable.ensures.refused in
    λ context_bytes tree_bytes h given. (
      c.args.context.now,
      h,
      requirements_too (g.C.SignatureCheck.meaning c.args.checker.now) c.args.context.now (λ u. u ≡ t) (IsTreeOf tree_bytes) (too t tree_bytes given) fails,
    )

pub returns-in-Err-Tree : goal.returns-in-Err-Tree
returns-in-Err-Tree g c =
    let G = g.C.SignatureCheck.meaning c.args.checker.now in
    let context = c.args.context.now in
    let t = plain c.args.tree.now in
    let fails = rw c.in-Err-Tree.field-0-is at c.in-Err-Tree.ensures.refused in
    λ context_bytes tree_bytes h given. (
      context,
      h,
      subst (FailsValid context (IsTreeOf tree_bytes)) (sym c.in-Err-Tree.fault-is)
          (invalid_too G context (λ u. u ≡ t) (IsTreeOf tree_bytes) (too t tree_bytes given) c.in-Err-Tree.fault fails),
    )

pub returns-in-Err-Member : goal.returns-in-Err-Member
returns-in-Err-Member g c =
    let G = g.C.SignatureCheck.meaning c.args.checker.now in
    let context = c.args.context.now in
    let t = plain c.args.tree.now in
    let fails = rw c.in-Err-Member.field-0-is at c.in-Err-Member.ensures.refused in
    λ context_bytes tree_bytes h given. (
      context,
      h,
      subst (FailsMembers G context (IsTreeOf tree_bytes)) (sym c.in-Err-Member.fault-is)
          (strangers_too G context (λ u. u ≡ t) (IsTreeOf tree_bytes) (too t tree_bytes given) c.in-Err-Member.fault fails),
    )
