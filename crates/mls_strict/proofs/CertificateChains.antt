-- The first certificate of a list that is read.
use Rattle.std.proofs.Common.{◌≡◌, ◌∙◌, ℕ, ◌<◌, false, List, [], ◌∷◌, length, Some, None, refl, sym, ap, arith}
use Rattle.std.specs.Prelude.{IsSome, unwrap_or}
use Rattle.mls_wire.specs.Encoding.{vector}
use Rattle.mls_wire.specs.Input.{Input}
use Rattle.mls_wire.specs.ListLoops.{shortens}
use Rattle.mls_wire.specs.OptionBind.{some_is}
use Rattle.mls_wire.specs.Parsing.{items_at, vector_at}
use Rattle.mls_wire.specs.StoredItems.{first_of, none_left_of}
use Rattle.mls_wire.specs.VectorsExact.{vector_exact, vector_long}
use Rattle.mls_nodes.specs.declared.credential.Credential.TheVariants.{X509}
use Rattle.mls_strict.specs.Certificates.{certificate_key, certifies, is_key}

module _ (key : List ℕ) (i : Input) (chain : List (List ℕ)) (all : items_at vector_at (length i.left) i ≡ Some chain) where
  are_some : IsSome (items_at vector_at (length i.left) i)
  are_some = rw all refl

  pub certifies-first : (j : Input) (x : List ℕ) → vector_at i ≡ Some (x, j) → certifies key (X509 chain) ≡ is_key key (certificate_key x)
  certifies-first j x e =
      let shorter : length j.left < length i.left = shortens vector vector_at vector_exact vector_long i x j e in
      let first = first_of vector vector_at vector_exact vector_long i (λ none. let empty = ap length none in absurd (omega arith)) are_some in
      let same = some_is _ _ (sym first.2 ∙ e) in
      let front : chain ≡ first.0 ∷ unwrap_or (items_at vector_at (length first.1.left) first.1) [] = rw all at first.4 in
      rw front (ap (λ p. is_key key (certificate_key p.0)) same)

  certifies-by : (left : List ℕ) → i.left ≡ left → vector_at i ≡ None → certifies key (X509 chain) ≡ false
  certifies-by [] empty none =
      let nothing : chain ≡ [] = rw all at (none_left_of vector vector_at vector_exact vector_long i empty) in rw nothing refl
  certifies-by (b ∷ bs) more none =
      let first = first_of vector vector_at vector_exact vector_long i (λ empty. let bad = sym more ∙ empty in absurd cc) are_some in
      let bad = sym none ∙ first.2 in absurd cc

  pub certifies-none : vector_at i ≡ None → certifies key (X509 chain) ≡ false
  certifies-none none = certifies-by i.left refl none
