use Rattle.std.proofs.Common.{◌≡◌, ◌∙◌, ◌++◌, ap, refl, subst, sym}
use Rattle.std.specs.Prelude.{All, OnOk}
use Rattle.mls_signatures.specs.AddedLeaves.{AreOfValues, AppendsSignatures, HasPackageNames, IsAfter, IsListed, IsPackageIfNamed, NamesAre, ValuesAre, indices, leaf_nodes, leaves_of}
use Rattle.mls_apply.specs.AppliedList.{applied_tree, new_members}
use Rattle.mls_signatures.specs.SignaturesToVerify.{path_signatures, signatures_at}
use Rattle.mls_signatures.proofs.AddedLeaves.{if_fresh, named_packages, outline_after, outline_count}
use Rattle.mls_signatures.proofs.LeafLists.{outcome_none}
use Rattle.mls_signatures.proofs.Repeats.{extends-none}
use Rattle.mls_signatures.proofs.commit_signatures.apply_and_push_signatures.Goals as goal

-- no tree is after the list
pub returns-in-Err-NoSuchLeaf-clause-signatures : goal.returns-in-Err-NoSuchLeaf-clause-signatures
returns-in-Err-NoSuchLeaf-clause-signatures c =
    let known = rw c.in-Err-NoSuchLeaf.field-0-is at c.in-Err-NoSuchLeaf.ensures in
    rw (outcome_none c.args.items.now c.args.tree.now.tree (known.no_such_leaf refl)) (extends-none c.args.list.now)

pub returns-in-Err-TooManyLeaves-clause-signatures : goal.returns-in-Err-TooManyLeaves-clause-signatures
returns-in-Err-TooManyLeaves-clause-signatures c =
    let known = rw c.in-Err-TooManyLeaves.field-0-is at c.in-Err-TooManyLeaves.ensures in
    rw ((known.too_many_leaves refl).1) (extends-none c.args.list.now)

pub added_leaves-leaves-requires : goal.added_leaves-leaves-requires
added_leaves-leaves-requires c =
    rw c.as_slice.ensures (outline_count c.args.items.now c.args.tree.now.tree c.check_list_fits.new.self.tree c.in-Ok.added c.in-Ok.ensures.outline)

pub returns-clause-signatures : goal.returns-clause-signatures
returns-clause-signatures c =
    let commit = c.args.commit.now in
    let context = commit.context.now in
    let items = c.args.items.now in
    let added = c.in-Ok.added in
    let o = c.in-Ok.ensures.outline in
    let leaves = c.as_slice-2.result.now in
    let node_indices : indices leaves ≡ added = ap indices c.as_slice-2.ensures.value ∙ c.in_ok-leaves.ensures.indices ∙ c.as_slice.ensures in
    let nodes : leaf_nodes leaves ≡ new_members items = ap leaf_nodes c.as_slice-2.ensures.value ∙ c.in_ok-leaves.ensures.leaf_nodes in
    let after : IsAfter o.tree c.tree.result.now.tree leaves =
    subst (λ u. IsAfter o.tree u leaves) (sym c.tree.ensures) (outline_after items c.args.tree.now.tree c.check_list_fits.new.self.tree added o leaves node_indices nodes) in
    rw o.is
    (subst
    (λ js.
    OnOk c.push_new_leaf_signatures-answer.result
    (AppendsSignatures c.args.list.now
    (signatures_at context.cipher_suite context.group_id o.tree (leaves_of commit.leaves items (applied_tree o.tree js)) ++ path_signatures context commit.committer commit.commit.now.path)
    c.push_new_leaf_signatures-answer.new.list))
    node_indices (c.push_new_leaf_signatures-answer.ensures o.tree after))

pub push_new_leaf_signatures-answer-requires-clause-listed : goal.push_new_leaf_signatures-answer-requires-clause-listed
push_new_leaf_signatures-answer-requires-clause-listed c =
    let commit = c.args.commit.now in
    let context = commit.context.now in
    let list = c.args.list.now in
    subst (λ xs. AreOfValues (IsListed context list) xs) (sym c.as_slice-2.ensures.value)
    (c.in_ok-leaves.ensures.by_value context list (subst (λ es. ValuesAre (IsListed context list) es c.args.items.now) (sym c.as_slice-entries.ensures) c.requires.listed))

pub push_new_leaf_signatures-answer-requires-clause-packages : goal.push_new_leaf_signatures-answer-requires-clause-packages
push_new_leaf_signatures-answer-requires-clause-packages c =
    let commit = c.args.commit.now in
    let entries = commit.commit.now.proposals in
    let items = c.args.items.now in
    if_fresh commit.leaves (HasPackageNames entries items) (All IsPackageIfNamed c.as_slice-2.result.now)
    (λ (h : HasPackageNames entries items).
    subst (λ xs. All IsPackageIfNamed xs) (sym c.as_slice-2.ensures.value)
    (named_packages entries items c.in_ok-leaves.leaves.items h
    (c.in_ok-leaves.ensures.named h.leaf_named (subst (λ es. NamesAre h.leaf_named es items) (sym c.as_slice-entries.ensures) h.are))))
    c.requires.packages
