-- The credential types in use, collected leaf by leaf.
use Rattle.std.proofs.Common.{◌≡◌, ◌≢◌, ℕ, ◌<◌, ◌≤◌, Bool, true, false, not, ◌&&◌, ◌||◌, Some, refl, sym, ◌∙◌, arith, inl, inr}
use Rattle.std.specs.Prelude.{IsTrue, ◌↔◌}
use Rattle.std.proofs.lemmas.Bool.{cases_Bool}
use Rattle.mls_nodes.specs.declared.credential.Credential.{Credential}
use Rattle.mls_nodes.specs.declared.credential.Credential.TheVariants.{Basic, X509}
use Rattle.mls_nodes.specs.declared.leaf.LeafNode.{LeafNode}
use Rattle.mls_tree.specs.Tree.{Tree, leaf_count, leaf_at}
use Rattle.mls_check.specs.LeafValidation.{credential_type, supports_credential, supports_used_credentials}
use Rattle.mls_check.specs.LeafValidationInternal.{IsCredentialUsed}
use Rattle.mls_check.proofs.Leaves.{all_leaves-below, all_leaves-at, leaf_at-low}

-- whether a credential type was seen among the leaves below i
pub record TypeSeen (t : Tree) (kind i : ℕ) (seen : Bool) : Type 0 where
  pub used : seen ≡ true → IsCredentialUsed t kind
  pub unused : seen ≡ false → (j : ℕ) (x : LeafNode) → j < i → leaf_at 0 t j ≡ Some x → credential_type x.credential ≢ kind

-- all leaves were seen
pub TypeSeen-all : (t : Tree) (kind i : ℕ) (seen : Bool) → TypeSeen t kind i seen → leaf_count t ≤ i → IsTrue seen ↔ IsCredentialUsed t kind
TypeSeen-all t kind i true h end = (λ e. h.used e, λ used. refl)
TypeSeen-all t kind i false h end = (
  λ e. h.used e,
  λ used. absurd (h.unused refl used.0 used.1 (omega (arith, leaf_at-low 0 t used.0 used.1 used.2)) used.2 used.3),
)

-- ---- what a leaf supports of the types in use

supports_type : (x : LeafNode) (c : Credential) → (credential_type c ≡ 1 → supports_credential x 1 ≡ true) → (credential_type c ≡ 2 → supports_credential x 2 ≡ true) → supports_credential x (credential_type c) ≡ true
supports_type x (Basic identity) one two = one refl
supports_type x (X509 chain) one two = two refl

-- a leaf that supports both types, where they are in use, supports each leaf's
supports_used : (t : Tree) (x : LeafNode) (basic x509 : Bool) → (IsTrue basic ↔ IsCredentialUsed t 1) → (IsTrue x509 ↔ IsCredentialUsed t 2)
    → (basic ≡ true → supports_credential x 1 ≡ true) → (x509 ≡ true → supports_credential x 2 ≡ true) → supports_used_credentials t x ≡ true
unfolding supports_used_credentials
supports_used t x basic x509 b c one two =
    all_leaves-below (λ _ other. supports_credential x (credential_type other.credential)) t (leaf_count t)
    (record { at = λ j other low set. supports_type x other.credential (λ e. one (b.1 (j, other, set, e))) (λ e. two (c.1 (j, other, set, e))) })
    (omega arith)

-- a leaf that lacks a type in use doesn't
lacks_used : (t : Tree) (x : LeafNode) (kind : ℕ) → IsCredentialUsed t kind → supports_credential x kind ≡ false → supports_used_credentials t x ≡ false
unfolding supports_used_credentials
lacks_used t x kind used lacks =
    elim (cases_Bool (supports_used_credentials t x)) [
      | inl all ↦
          let e = all_leaves-at (λ _ other. supports_credential x (credential_type other.credential)) 0 t all used.0 used.1 used.2 in
          let f : supports_credential x kind ≡ true = rw used.3 at e in
          let no : false ≡ true = sym lacks ∙ f in absurd cc
      | inr some ↦ some
    ]

types_used : (t : Tree) (x : LeafNode) (basic x509 one two : Bool) → (IsTrue basic ↔ IsCredentialUsed t 1) → (IsTrue x509 ↔ IsCredentialUsed t 2) → supports_credential x 1 ≡ one → supports_credential x 2 ≡ two
    → ((not basic || one) && (not x509 || two)) ≡ supports_used_credentials t x
types_used t x true x509 false two b c e f = sym (lacks_used t x 1 (b.0 refl) e)
types_used t x true true true false b c e f = sym (lacks_used t x 2 (c.0 refl) f)
types_used t x true true true true b c e f = sym (supports_used t x true true b c (λ _. e) (λ _. f))
types_used t x true false true two b c e f = sym (supports_used t x true false b c (λ _. e) (λ no. absurd cc))
types_used t x false true one false b c e f = sym (lacks_used t x 2 (c.0 refl) f)
types_used t x false true one true b c e f = sym (supports_used t x false true b c (λ no. absurd cc) (λ _. f))
types_used t x false false one two b c e f = sym (supports_used t x false false b c (λ no. absurd cc) (λ no. absurd cc))

-- what a test of the types in use tells
pub supports_types-used : (t : Tree) (x : LeafNode) (basic x509 : Bool) → (IsTrue basic ↔ IsCredentialUsed t 1) → (IsTrue x509 ↔ IsCredentialUsed t 2)
    → ((not basic || supports_credential x 1) && (not x509 || supports_credential x 2)) ≡ supports_used_credentials t x
supports_types-used t x basic x509 b c = types_used t x basic x509 (supports_credential x 1) (supports_credential x 2) b c refl refl
