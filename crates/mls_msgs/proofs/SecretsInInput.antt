-- The encrypted secrets in an input, one after the other.
use Rattle.std.proofs.Common.{◌≡◌, ◌∙◌, ℕ, zero, suc, ◌≤◌, List, [], ◌∷◌, length, map, eqb, Option, Some, None, Result, Ok, Err, refl, sym, ap, subst, inl, inr, arith}
use Rattle.std.specs.Prelude.{IsSome, unwrap_or}
use Rattle.mls_wire.specs.declared.fault.WireFault.{WireFault}
use Rattle.mls_wire.specs.Input.{Input}
use Rattle.mls_wire.specs.Encoding.{vector}
use Rattle.mls_wire.specs.EncodedItems.{Skips}
use Rattle.mls_wire.specs.ReadContracts.{Reads, IsEncodedAt}
use Rattle.mls_wire.specs.Parsing.{◌>>=◌, vector_at, items_at}
use Rattle.mls_wire.specs.VectorsExact.{vector_exact}
use Rattle.mls_wire.specs.ExactReads.{Gives-reads}
use Rattle.mls_wire.specs.OptionBind.{some_is, bind_some, chosen_parts}
use Rattle.mls_wire.specs.StoredItems.{first_of, none_left_of}
use Rattle.mls_msgs.specs.Ciphertext.{ciphertext_at}
use Rattle.mls_msgs.specs.Welcome.{encrypted_group_secrets}
use Rattle.mls_msgs.specs.WelcomeExact.{encrypted_group_secrets_exact, encrypted_group_secrets_long}
use Rattle.mls_msgs.specs.EncryptedGroupSecrets.{encrypted_group_secrets_at}
use Rattle.mls_msgs.specs.ReferencesLeft.{secrets_left, references_in}
use Rattle.mls_msgs.specs.declared.ciphertexts.Ciphertext.{Ciphertext}
use Rattle.mls_msgs.specs.declared.welcome.EncryptedGroupSecrets.{EncryptedGroupSecrets}

-- ---- those for one new member

pub both_skipped : {B : Type 0} (i j k : Input) (reference : List ℕ) (r : Result B WireFault) → vector_at i ≡ Some (reference, j) → Skips ciphertext_at j k r → Skips encrypted_group_secrets_at i k r
unfolding encrypted_group_secrets_at
both_skipped i j k reference (Ok done) e h = (record { new_member = reference; encrypted_group_secrets = h.0 }, rw (e, h.1) refl)
both_skipped i j k reference (Err fault) e h = rw (e, h) refl

no_reference : (i j : Input) (e : WireFault) → Reads vector i j (Err e) → encrypted_group_secrets_at i ≡ None
unfolding encrypted_group_secrets_at
no_reference i j e h = let a = (Gives-reads vector vector_at vector_exact i j (Err e) h).0 in rw a refl

no_secrets : (i j : Input) (reference : List ℕ) → IsEncodedAt vector reference i j → ciphertext_at j ≡ None → encrypted_group_secrets_at i ≡ None
unfolding encrypted_group_secrets_at
no_secrets i j reference h none =
    let a : vector_at i ≡ Some (reference, j) = Gives-reads vector vector_at vector_exact i j (Ok reference) h in
    rw (a, none) refl

both : (i j k : Input) (reference : List ℕ) (c : Ciphertext) → IsEncodedAt vector reference i j → ciphertext_at j ≡ Some (c, k)
    → encrypted_group_secrets_at i ≡ Some (record { new_member = reference; encrypted_group_secrets = c }, k)
unfolding encrypted_group_secrets_at
both i j k reference c h e =
    let a : vector_at i ≡ Some (reference, j) = Gives-reads vector vector_at vector_exact i j (Ok reference) h in
    rw (a, e) refl

-- ---- those that are left

abbrev member_of : EncryptedGroupSecrets → List ℕ
member_of s = s.new_member

first_left : (i : Input) → (i.left ≡ [] → ⊥) → IsSome (secrets_left i)
    → (x : EncryptedGroupSecrets) × (j : Input) × (encrypted_group_secrets_at i ≡ Some (x, j)) × IsSome (secrets_left j) × (references_in i ≡ x.new_member ∷ references_in j)
first_left i some h =
    let first = first_of encrypted_group_secrets encrypted_group_secrets_at encrypted_group_secrets_exact encrypted_group_secrets_long i some h in
    (first.0, first.1, first.2, first.3, ap (map member_of) first.4)

pub none_left : (i : Input) → i.left ≡ [] → references_in i ≡ []
none_left i e = ap (map member_of) (none_left_of encrypted_group_secrets encrypted_group_secrets_at encrypted_group_secrets_exact encrypted_group_secrets_long i e)

pub always_reference : (i j : Input) (e : WireFault) → (i.left ≡ [] → ⊥) → IsSome (secrets_left i) → Reads vector i j (Err e) → ⊥
always_reference i j e some h r = let bad = sym (no_reference i j e r) ∙ (first_left i some h).2 in absurd cc

pub always_secrets : (i j : Input) (reference : List ℕ) → (i.left ≡ [] → ⊥) → IsSome (secrets_left i) → IsEncodedAt vector reference i j → ciphertext_at j ≡ None → ⊥
always_secrets i j reference some h r none = let bad = sym (no_secrets i j reference r none) ∙ (first_left i some h).2 in absurd cc

pub first_taken : (i j k : Input) (reference : List ℕ) (c : Ciphertext) → (i.left ≡ [] → ⊥) → IsSome (secrets_left i) → IsEncodedAt vector reference i j → ciphertext_at j ≡ Some (c, k)
    → IsSome (secrets_left k) × (references_in i ≡ reference ∷ references_in k)
first_taken i j k reference c some h r e =
    let first = first_left i some h in
    let same = some_is _ _ (sym first.2 ∙ both i j k reference c r e) in
    subst (λ (p : EncryptedGroupSecrets × Input). IsSome (secrets_left p.1) × (references_in i ≡ p.0.new_member ∷ references_in p.1)) same (first.3, first.4)

-- ---- how many there are

items_fit : {A : Type 0} (f : Input → Option (A × Input)) (n : ℕ) (i : Input) (xs : List A) → items_at f n i ≡ Some xs → length xs ≤ n
unfolding items_at
items_fit {A = A} f zero i xs e = elim (chosen_parts (eqb (length i.left) 0) (Some []) None xs e) [
  | inl a ↦ let is : [] ≡ xs = some_is [] xs a.1 in omega (arith, ap (length {A = A}) is)
  | inr a ↦ absurd cc
]
items_fit {A = A} f (suc n) i xs e = elim (chosen_parts (eqb (length i.left) 0) (Some []) (f i >>= λ x. items_at f n x.1 >>= λ ys. Some (x.0 ∷ ys)) xs e) [
  | inl a ↦ let is : [] ≡ xs = some_is [] xs a.1 in omega (arith, ap (length {A = A}) is)
  | inr a ↦
      let b = bind_some (f i) (λ x. items_at f n x.1 >>= λ ys. Some (x.0 ∷ ys)) xs a.1 in
      let d = bind_some (items_at f n b.0.1) (λ ys. Some (b.0.0 ∷ ys)) xs b.2 in
      let is : b.0.0 ∷ d.0 ≡ xs = some_is (b.0.0 ∷ d.0) xs d.2 in
      omega (arith, items_fit f n b.0.1 d.0 d.1, ap (length {A = A}) is)
]

length-members : (xs : List EncryptedGroupSecrets) → length (map member_of xs) ≡ length xs
length-members [] = refl
length-members (x ∷ xs) = ap suc (length-members xs)

fit_or_none : (o : Option (List EncryptedGroupSecrets)) (n : ℕ) → ((xs : List EncryptedGroupSecrets) → o ≡ Some xs → length xs ≤ n) → length (map member_of (unwrap_or o [])) ≤ n
fit_or_none None n h = omega arith
fit_or_none (Some xs) n h = omega (arith, h xs refl, length-members xs)

-- there are no more references than bytes
pub references_fit : (i : Input) → length (references_in i) ≤ length i.left
references_fit i = fit_or_none (secrets_left i) (length i.left) (λ xs e. items_fit encrypted_group_secrets_at (length i.left) i xs e)
