-- A good KeyPackage in an Add.
use Rattle.std.proofs.Common.{◌≡◌, ◌∙◌, ℕ, List, [], true, refl, sym, ap}
use Rattle.std.specs.Prelude.{Option, codes}
use Rattle.std.proofs.lemmas.Bool.{eq-eqb}
use Rattle.mls_wire.specs.Encoding.{◌⊕◌}
use Rattle.mls_nodes.specs.declared.leaf.LeafNode.{LeafNode}
use Rattle.mls_nodes.specs.Layout.{unsigned_leaf}
use Rattle.mls_nodes.specs.LeafNodeTBS.{leaf_tbs}
use Rattle.mls_check.specs.LeafValidation.{is_leaf_signed}
use Rattle.mls_check.specs.Signatures.{VerifyFn, is_signed_text}
use Rattle.mls_check.proofs.Elements.{and-left, and-right}
use Rattle.mls_apply.specs.ProposalRules.{fits_group, is_from_key_package, is_package_signed, is_valid_add}
use Rattle.mls_apply.proofs.RuleLists.{passed}
use Rattle.mls_examine.specs.PackageLaws.{GoodPackagesCanBeAdded}
use Rattle.mls_examine.proofs.Faults.{form_kept}
use Rattle.mls_examine.proofs.Signable.{suffix_is_empty}

-- what the leaf node of a KeyPackage signs is the same in each group
same_tbs : (x : LeafNode) (group_id : List ℕ) → is_from_key_package x.source ≡ true → leaf_tbs x [] 0 ≡ leaf_tbs x group_id 0
unfolding leaf_tbs
same_tbs x group_id source =
    ap (λ (s : Option (List ℕ)). unsigned_leaf x ⊕ s) (suffix_is_empty x.source [] 0 source ∙ sym (suffix_is_empty x.source group_id 0 source))

signed_in_group : (G : VerifyFn) (suite : ℕ) (group_id : List ℕ) (x : LeafNode) → is_from_key_package x.source ≡ true
    → is_leaf_signed G suite [] 0 x ≡ is_leaf_signed G suite group_id 0 x
unfolding is_leaf_signed
signed_in_group G suite group_id x source =
    ap (λ (o : Option (List ℕ)). is_signed_text G suite x.signature_key (codes "MLS 1.0 LeafNodeTBS") o x.signature) (same_tbs x group_id source)

pub good_packages_can_be_added : GoodPackagesCanBeAdded
unfolding is_valid_add fits_group
good_packages_can_be_added G asked k context v s good =
    let form = passed (passed (form_kept asked k good.no_fault)).1 in
    let source = passed form.1 in
    let init_key = passed source.1 in
    let of_leaf = and-left (is_leaf_signed G k.cipher_suite [] 0 k.leaf_node) (is_package_signed G k.cipher_suite k) good.signed in
    let own = and-right (is_leaf_signed G k.cipher_suite [] 0 k.leaf_node) (is_package_signed G k.cipher_suite k) good.signed in
    let in_group = sym (signed_in_group G k.cipher_suite context.group_id k.leaf_node source.0) ∙ of_leaf in
    let version = eq-eqb k.version context.version (sym v) in
    let suite = eq-eqb k.cipher_suite context.cipher_suite (sym s) in
    rw (version, suite, s, source.0, init_key.0, in_group, own) refl
