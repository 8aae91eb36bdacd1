use Rattle.std.proofs.Common.{◌∙◌, ap, subst, Some}
use Rattle.mls_hash.specs.SuiteHash.{hash_of}
use Rattle.mls_check.specs.DistinctKeys.{HasUniqueKeyAt}
use Rattle.mls_check.specs.FirstFailureInternal.{IsFirstFailureIn}
use Rattle.mls_check.specs.ParentHashValid.{IsParentHashValidAt}
use Rattle.mls_check.proofs.tree_validation.validate_tree_by.Goals as goal

pub returns-in-Some-3-clause-first_fault : goal.returns-in-Some-3-clause-first_fault
returns-in-Some-3-clause-first_fault c = record {
  hashed = (c.has_hash.ensures (hash_of c.args.suite) c.requires.hashes).0 c.if-not-has_hash.false ∙ ap Some c.as_slice.ensures.bytes;
  sorted = c.in_default.ensures;
  consistent = c.in_default-first_inconsistent_unmerged.ensures;
  distinct = subst (λ o. IsFirstFailureIn (HasUniqueKeyAt c.args.tree.now.tree) o) c.in_default-2.is c.in_ok-node_index.ensures;
  first = subst (λ o. IsFirstFailureIn (IsParentHashValidAt (hash_of c.args.suite) c.args.tree.now.tree) o) c.in-Some-3.is c.in_ok-node_index-2.ensures;
}

pub returns-clause-valid : goal.returns-clause-valid
returns-clause-valid c = record {
  hashed = (c.has_hash.ensures (hash_of c.args.suite) c.requires.hashes).0 c.if-not-has_hash.false ∙ ap Some c.as_slice.ensures.bytes;
  sorted = c.in_default.ensures;
  consistent = c.in_default-first_inconsistent_unmerged.ensures;
  distinct = subst (λ o. IsFirstFailureIn (HasUniqueKeyAt c.args.tree.now.tree) o) c.in_default-2.is c.in_ok-node_index.ensures;
  parent_hashes = subst (λ o. IsFirstFailureIn (IsParentHashValidAt (hash_of c.args.suite) c.args.tree.now.tree) o) c.in_default-3.is c.in_ok-node_index-2.ensures;
}
