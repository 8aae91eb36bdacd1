-- Leaf nodes without extensions, with a basic credential.
use Rattle.std.proofs.Common.{◌≡◌, ◌∙◌, ℕ, ◌+◌, ◌<◌, List, Some, None, true, sym, ap, subst, arith, inl, inr}
use Rattle.std.specs.List.{list_all}
use Rattle.std.proofs.lemmas.Bool.{cases_lt}
use Rattle.std.proofs.lemmas.Option.{none-some, same_Some}
use Rattle.mls_nodes.specs.PlainLeaf.{IsPlain}
use Rattle.mls_nodes.specs.declared.extension.Extension.{Extension}
use Rattle.mls_nodes.specs.declared.leaf.LeafNode.{LeafNode}
use Rattle.mls_tree.specs.Tree.{Tree, leaf_count, leaf_at}
use Rattle.mls_check.specs.LeafValidation.{all_leaves, credential_type, supports_credential, supports_extension, supports_own_extensions, supports_used_credentials}
use Rattle.mls_check.specs.PlainLeaves.{ArePlain}
use Rattle.mls_check.proofs.Leaves.{all_leaves-below}

-- those below leaf i
abbrev ArePlainBelow : Tree → ℕ → Type 0
ArePlainBelow t i = (j : ℕ) (x : LeafNode) → j < i → leaf_at 0 t j ≡ Some x → IsPlain x

pub plain_more : (t : Tree) (i : ℕ) (y : LeafNode) → ArePlainBelow t i → leaf_at 0 t i ≡ Some y → IsPlain y → ArePlainBelow t (i + 1)
plain_more t i y below set here j x low e = elim (cases_lt j i) [
  | inl before ↦ below j x before e
  | inr after ↦
      let same : j ≡ i = omega (arith, low, after) in
      subst IsPlain (same_Some y x (sym set ∙ ap (leaf_at 0 t) (sym same) ∙ e)) here
]

pub plain_blank : (t : Tree) (i : ℕ) → ArePlainBelow t i → leaf_at 0 t i ≡ None → ArePlainBelow t (i + 1)
plain_blank t i below blank j x low e = elim (cases_lt j i) [
  | inl before ↦ below j x before e
  | inr after ↦
      let same : j ≡ i = omega (arith, low, after) in
      absurd (none-some x (sym blank ∙ ap (leaf_at 0 t) (sym same) ∙ e))
]

-- one has no extension that it does not list
one_extensions : (x : LeafNode) → IsPlain x → supports_own_extensions x ≡ true
unfolding supports_own_extensions
one_extensions x p = ap (λ (es : List Extension). list_all (λ e. supports_extension x e.kind) es) p.no_extensions

pub plain_extensions : (t : Tree) → ArePlain t → all_leaves (λ _ x. supports_own_extensions x) 0 t ≡ true
plain_extensions t p =
    all_leaves-below (λ _ x. supports_own_extensions x) t (leaf_count t) (record { at = λ j x low e. one_extensions x (p j x e) }) (omega arith)

-- one supports the credential type of each
one_credentials : (t : Tree) → ArePlain t → (x : LeafNode) → IsPlain x → supports_used_credentials t x ≡ true
unfolding supports_used_credentials
one_credentials t p x own =
    all_leaves-below (λ _ other. supports_credential x (credential_type other.credential)) t (leaf_count t)
    (record { at = λ j other low e. ap (λ c. supports_credential x (credential_type c)) (p j other e).basic.1 ∙ own.supported })
    (omega arith)

pub plain_credentials : (t : Tree) → ArePlain t → all_leaves (λ _ x. supports_used_credentials t x) 0 t ≡ true
plain_credentials t p =
    all_leaves-below (λ _ x. supports_used_credentials t x) t (leaf_count t) (record { at = λ j x low e. one_credentials t p x (p j x e) }) (omega arith)
