use Rattle.std.proofs.Common.{refl}
use Rattle.mls_signatures.proofs.LeafLists.{outcome_none}
use Rattle.mls_signatures.proofs.Repeats.{extends-none}
use Rattle.mls_signatures.proofs.external_commit_signatures.apply_and_push_seated_signature.Goals as goal

-- no tree is after the list
pub returns-in-Err-NoSuchLeaf-clause-signatures : goal.returns-in-Err-NoSuchLeaf-clause-signatures
returns-in-Err-NoSuchLeaf-clause-signatures c =
    let known = rw c.in-Err-NoSuchLeaf.field-0-is at c.in-Err-NoSuchLeaf.ensures in
    rw (outcome_none c.args.items.now c.args.tree.now.tree (known.no_such_leaf refl)) (extends-none c.args.list.now)
