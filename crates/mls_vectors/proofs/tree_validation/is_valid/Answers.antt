use Rattle.std.proofs.Common.{ℕ, List, ◌∙◌, sym, subst}
use Rattle.std.proofs.lemmas.Option.{same_Some}
use Rattle.std.proofs.lemmas.Result.{IfOk-weaker}
use Rattle.mls_tree.specs.PublicTreeModel.{plain}
use Rattle.mls_tree.specs.RatchetTree.{RatchetTree}
use Rattle.mls_hash.specs.SuiteHash.{hash_of}
use Rattle.mls_check.specs.ValidTree.{Valid}
use Rattle.mls_vectors.proofs.tree_validation.is_valid.Goals as goal

pub returns : goal.returns
returns c =
    let tree : RatchetTree = plain c.args.tree.now in
    let own = c.whole_hash-hash.ensures in
    let held = c.in_ok-context.ensures.hash in
    IfOk-weaker c.is_valid_in.result _ _ (λ b h. (
      λ t. (c.in_ok-context.context.tree_hash, h.0 t),
      λ v. h.1 (subst (λ (hash : List ℕ). Valid (hash_of c.args.suite) hash tree.tree) (same_Some _ _ (sym v.1.hashed ∙ own) ∙ sym held) v.1),
    )) c.is_valid_in.ensures
