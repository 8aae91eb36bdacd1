-- Credentials as they are encoded: two are equal if their encodings are.
use Rattle.std.proofs.Common.{◌≡◌, ◌∙◌, ℕ, ◌-◌, ◌≤◌, List, [], ◌∷◌, ◌++◌, length, take, true, cond, Option, Some, None, inl, inr, refl, sym, ap, subst, arith}
use Rattle.std.specs.Int.{w16}
use Rattle.std.specs.Prelude.{nat_eq}
use Rattle.std.specs.Str.{bytes_eq}
use Rattle.std.proofs.lemmas.Bool.{and_parts, cases_Bool}
use Rattle.std.proofs.lemmas.List.{length-append, take_at}
use Rattle.std.proofs.lemmas.Slice.Eq.{bytes_eq-Decides}
use Rattle.mls_wire.specs.Input.{Input}
use Rattle.mls_wire.specs.OptionBind.{bind_some, some_is, chosen_parts, allowed}
use Rattle.mls_wire.specs.Parsing.{◌>>=◌, number_at, body_at, vector_at, list_at, items_at}
use Rattle.mls_nodes.specs.Layout.{credential}
use Rattle.mls_nodes.specs.Parsing.{credential_at}
use Rattle.mls_nodes.specs.NodesExact.{credential_exact}
use Rattle.mls_nodes.specs.declared.credential.Credential.{Credential}
use Rattle.mls_nodes.specs.declared.credential.Credential.TheVariants.{Basic, X509}
use Rattle.mls_apply.specs.JoinRules.{are_same_certificates, is_same_credential}

-- ---- where the encoding of a credential ends

-- the type is a number
pub no_kind : (i j : Input) (x : Credential) → credential_at i ≡ Some (x, j) → number_at w16 i ≡ None → ⊥
unfolding credential_at
no_kind i j x e none =
    let a = bind_some (number_at w16 i) _ (x, j) e in
    let bad = sym none ∙ a.1 in absurd cc

-- a list is a vector of the same bytes
vector_of_list : (k j : Input) (xs : List (List ℕ)) → list_at vector_at k ≡ Some (xs, j) → (body : List ℕ) × (vector_at k ≡ Some (body, j))
unfolding list_at vector_at
vector_of_list k j xs e =
    let a = bind_some (body_at k) _ (xs, j) e in
    let b = bind_some (items_at vector_at (length a.0.0.left) a.0.0) _ (xs, j) a.2 in
    let end : a.0.1 ≡ j = ap (λ (p : List (List ℕ) × Input). p.1) (some_is (b.0, a.0.1) (xs, j) b.2) in
    (a.0.0.left, ap (λ (o : Option (Input × Input)). o >>= λ b. Some (b.0.left, b.1)) a.1 ∙ ap (λ (n : Input). Some (a.0.0.left, n)) end)

-- what is read of a kind
abbrev identity_at : Input → Option (Credential × Input)
identity_at k = vector_at k >>= λ x. Some (Basic x.0, x.1)

abbrev chain_at : Input → Option (Credential × Input)
chain_at k = list_at vector_at k >>= λ x. Some (X509 x.0, x.1)

identity_read : (k j : Input) (x : Credential) → identity_at k ≡ Some (x, j) → (body : List ℕ) × (vector_at k ≡ Some (body, j))
identity_read k j x e =
    let a = bind_some (vector_at k) (λ (y : List ℕ × Input). Some (Basic y.0, y.1)) (x, j) e in
    let end : a.0.1 ≡ j = ap (λ (p : Credential × Input). p.1) (some_is (Basic a.0.0, a.0.1) (x, j) a.2) in
    (a.0.0, a.1 ∙ ap (λ (n : Input). Some (a.0.0, n)) end)

chain_read : (k j : Input) (x : Credential) → chain_at k ≡ Some (x, j) → (body : List ℕ) × (vector_at k ≡ Some (body, j))
chain_read k j x e =
    let a = bind_some (list_at vector_at k) (λ (y : List (List ℕ) × Input). Some (X509 y.0, y.1)) (x, j) e in
    let end : a.0.1 ≡ j = ap (λ (p : Credential × Input). p.1) (some_is (X509 a.0.0, a.0.1) (x, j) a.2) in
    vector_of_list k j a.0.0 (a.1 ∙ ap (λ (n : Input). Some (a.0.0, n)) end)

kind_read : (k j : Input) (kind : ℕ) (x : Credential) → cond (nat_eq kind 1) (identity_at k) (cond (nat_eq kind 2) (chain_at k) None) ≡ Some (x, j)
    → (body : List ℕ) × (vector_at k ≡ Some (body, j))
kind_read k j kind x e = elim (chosen_parts (nat_eq kind 1) (identity_at k) (cond (nat_eq kind 2) (chain_at k) None) (x, j) e) [
  | inl basic ↦ identity_read k j x basic.1
  | inr other ↦ chain_read k j x (allowed (nat_eq kind 2) (chain_at k) (x, j) other.1).1
]

-- the body is a vector, after which the credential ends
pub body_read : (i j k : Input) (kind : ℕ) (x : Credential) → credential_at i ≡ Some (x, j) → number_at w16 i ≡ Some (kind, k)
    → (body : List ℕ) × (vector_at k ≡ Some (body, j))
unfolding credential_at
body_read i j k kind x e is =
    let a = bind_some (number_at w16 i) (λ (y : ℕ × Input). cond (nat_eq y.0 1) (identity_at y.1) (cond (nat_eq y.0 2) (chain_at y.1) None)) (x, j) e in
    let r = kind_read a.0.1 j a.0.0 x a.2 in
    let there : a.0.1 ≡ k = ap (λ (p : ℕ × Input). p.1) (some_is a.0 (kind, k) (sym a.1 ∙ is)) in
    (r.0, ap vector_at (sym there) ∙ r.1)

pub no_body : (i j k : Input) (kind : ℕ) (x : Credential) → credential_at i ≡ Some (x, j) → number_at w16 i ≡ Some (kind, k) → vector_at k ≡ None → ⊥
no_body i j k kind x e is none =
    let r = body_read i j k kind x e is in
    let bad = sym none ∙ r.1 in absurd cc

-- the bytes before what is left encode the credential
front_is : (i j : Input) (x : Credential) → credential_at i ≡ Some (x, j) → (front : List ℕ) × (credential x ≡ Some front) × (i.left ≡ front ++ j.left)
front_is i j x e = let t = (credential_exact.takes i x j e).1 in (t.0, t.1, t.2)

pub front_length : (i j k m : Input) (kind : ℕ) (body : List ℕ) (x : Credential) → credential_at i ≡ Some (x, j) → number_at w16 i ≡ Some (kind, k)
    → vector_at k ≡ Some (body, m) → length m.left ≤ length i.left
front_length i j k m kind body x e is read =
    let r = body_read i j k kind x e is in
    let end : j ≡ m = ap (λ (p : List ℕ × Input). p.1) (some_is (r.0, j) (body, m) (sym r.1 ∙ read)) in
    let t = front_is i j x e in
    omega (arith, ap length t.2, length-append t.0 j.left, ap (λ (n : Input). length n.left) end)

pub front_encodes : (i j k m : Input) (kind : ℕ) (body : List ℕ) (x : Credential) → credential_at i ≡ Some (x, j) → number_at w16 i ≡ Some (kind, k)
    → vector_at k ≡ Some (body, m) → credential x ≡ Some (take (length i.left - length m.left) i.left)
front_encodes i j k m kind body x e is read =
    let r = body_read i j k kind x e is in
    let end : j ≡ m = ap (λ (p : List ℕ × Input). p.1) (some_is (r.0, j) (body, m) (sym r.1 ∙ read)) in
    let t = front_is i j x e in
    let n : length i.left - length m.left ≡ length t.0 = omega (arith, ap length t.2, length-append t.0 j.left, ap (λ (l : Input). length l.left) end) in
    t.1 ∙ ap (λ (b : List ℕ). Some b) (sym (ap (take (length i.left - length m.left)) t.2 ∙ take_at t.0 j.left (length i.left - length m.left) (sym n)))

-- ---- equal credentials

same_chain : (xs : List (List ℕ)) → are_same_certificates xs xs ≡ true
same_chain [] = refl
same_chain (x ∷ xs) = rw ((bytes_eq-Decides x x).1 refl, same_chain xs) refl

equal_chains : (xs ys : List (List ℕ)) → are_same_certificates xs ys ≡ true → xs ≡ ys
equal_chains [] [] e = refl
equal_chains [] (y ∷ ys) e = absurd cc
equal_chains (x ∷ xs) [] e = absurd cc
equal_chains (x ∷ xs) (y ∷ ys) e =
    let both = and_parts _ _ e in
    let first = (bytes_eq-Decides x y).0 both.0 in
    let others = equal_chains xs ys both.1 in
    λ i. first i ∷ others i

same_credential : (x : Credential) → is_same_credential x x ≡ true
same_credential (Basic identity) = (bytes_eq-Decides identity identity).1 refl
same_credential (X509 chain) = same_chain chain

equal_credentials : (x y : Credential) → is_same_credential x y ≡ true → x ≡ y
equal_credentials (Basic a) (Basic b) e = ap Basic ((bytes_eq-Decides a b).0 e)
equal_credentials (Basic a) (X509 ys) e = absurd cc
equal_credentials (X509 xs) (Basic b) e = absurd cc
equal_credentials (X509 xs) (X509 ys) e = ap X509 (equal_chains xs ys e)

-- an encoding is that of one credential
one_credential : (x y : Credential) (front : List ℕ) → credential x ≡ Some front → credential y ≡ Some front → x ≡ y
one_credential x y front e f =
    let a = credential_exact.again x front [] 0 tt e in
    let b = credential_exact.again y front [] 0 tt f in
    ap (λ (p : Credential × Input). p.0) (some_is _ _ (sym a ∙ b))

pub decided : (x y : Credential) (front other : List ℕ) → credential x ≡ Some front → credential y ≡ Some other → bytes_eq front other ≡ is_same_credential x y
decided x y front other e f = elim (cases_Bool (bytes_eq front other)) [
  | inl same ↦
      (let text = (bytes_eq-Decides front other).0 same in
      let one = one_credential x y front e (f ∙ ap (λ (b : List ℕ). Some b) (sym text)) in
      same ∙ sym (subst (λ (z : Credential). is_same_credential x z ≡ true) one (same_credential x)))
  | inr differ ↦ elim (cases_Bool (is_same_credential x y)) [
    | inl equal ↦
        (let one = equal_credentials x y equal in
        let text : front ≡ other = some_is front other (sym e ∙ (ap credential one ∙ f)) in
        (bytes_eq-Decides front other).1 text ∙ sym equal)
    | inr unequal ↦ differ ∙ sym unequal
  ]
]
