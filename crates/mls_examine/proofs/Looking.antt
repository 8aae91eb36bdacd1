-- What is found in a loop: the signatures that are not accepted, and a leaf with a signature key.
use Rattle.std.proofs.Common.{◌≡◌, ◌∙◌, ℕ, zero, suc, ◌+◌, ◌≤◌, List, [], ◌∷◌, ◌++◌, length, take, Bool, true, false, Some, refl, sym, ap, inl, inr, arith}
use Rattle.std.specs.Prelude.{not, slice_get, if◌then◌else◌}
use Rattle.std.specs.Str.{bytes_eq}
use Rattle.std.proofs.lemmas.Bool.{cases_Bool}
use Rattle.std.proofs.lemmas.List.Elements.{filter-append}
use Rattle.std.proofs.lemmas.Option.{none-some, same_Some}
use Rattle.mls_nodes.specs.declared.leaf.LeafNode.{LeafNode}
use Rattle.mls_tree.specs.Tree.{Tree, leaf_at, leaf_count}
use Rattle.mls_check.specs.LeafValidation.{all_leaves}
use Rattle.mls_check.specs.Signatures.{VerifyFn}
use Rattle.mls_check.proofs.Leaves.{HoldsBelow, all_leaves-at, all_leaves-below}
use Rattle.mls_signatures.specs.declared.signature_to_verify.SignatureToVerify.{SignatureToVerify}
use Rattle.mls_examine.specs.GroupInfos.{unaccepted}
use Rattle.mls_examine.specs.LaterInfos.{has_signature_key}
use Rattle.mls_examine.specs.Packages.{is_accepted}

-- ---- the signatures before an index, and one more

take_more : {X : Type 0} (xs : List X) (i : ℕ) (x : X) → slice_get xs i ≡ Some x → take (suc i) xs ≡ take i xs ++ x ∷ []
take_more [] i x e = absurd (none-some x e)
take_more (y ∷ ys) zero x e = ap (λ z. z ∷ []) (same_Some y x e)
take_more (y ∷ ys) (suc i) x e = ap (λ zs. y ∷ zs) (take_more ys i x e)

module _ (G : VerifyFn) (qs : List SignatureToVerify) (i : ℕ) (q : SignatureToVerify) (there : slice_get qs i ≡ Some q) where
  pub one_more : unaccepted G (take (i + 1) qs) ≡ unaccepted G (take i qs) ++ unaccepted G (q ∷ [])
  one_more =
      let next : i + 1 ≡ suc i = omega arith in
      ap (λ n. unaccepted G (take n qs)) next ∙ ap (unaccepted G) (take_more qs i q there)
      ∙ filter-append (λ p. not (is_accepted G p)) (take i qs) (q ∷ [])

append_nil : (xs : List SignatureToVerify) → xs ++ [] ≡ xs
append_nil [] = refl
append_nil (x ∷ xs) = ap (λ ys. x ∷ ys) (append_nil xs)

module _ (G : VerifyFn) (xs : List SignatureToVerify) (q : SignatureToVerify) where
  pub accepted_alone : is_accepted G q ≡ true → xs ≡ xs ++ unaccepted G (q ∷ [])
  accepted_alone e = sym (ap (λ (b : Bool). xs ++ (if not b then q ∷ [] else [])) e ∙ append_nil xs)

  pub rejected_alone : is_accepted G q ≡ false → xs ++ q ∷ [] ≡ xs ++ unaccepted G (q ∷ [])
  rejected_alone e = sym (ap (λ (b : Bool). xs ++ (if not b then q ∷ [] else [])) e)

pub take_whole : {X : Type 0} (xs : List X) (i : ℕ) → length xs ≤ i → take i xs ≡ xs
take_whole [] zero h = refl
take_whole [] (suc i) h = refl
take_whole (x ∷ xs) zero h = absurd (omega (arith, h))
take_whole (x ∷ xs) (suc i) h = ap (λ ys. x ∷ ys) (take_whole xs i (omega (arith, h)))

-- ---- a leaf with a signature key

abbrev pub other_key : List ℕ → ℕ → LeafNode → Bool
other_key key i x = not (bytes_eq x.signature_key key)

pub key_found : (t : Tree) (key : List ℕ) (i : ℕ) (x : LeafNode) → leaf_at 0 t i ≡ Some x → bytes_eq x.signature_key key ≡ true → has_signature_key t key ≡ true
key_found t key i x at same =
    elim (cases_Bool (all_leaves (other_key key) 0 t)) [
      | inl holds ↦ let bad = sym (ap not same) ∙ all_leaves-at (other_key key) 0 t holds i x at in absurd cc
      | inr fails ↦ ap not fails
    ]

pub key_missing : (t : Tree) (key : List ℕ) (i : ℕ) → HoldsBelow (other_key key) t i → leaf_count t ≤ i → has_signature_key t key ≡ false
key_missing t key i below le = ap not (all_leaves-below (other_key key) t i below le)
