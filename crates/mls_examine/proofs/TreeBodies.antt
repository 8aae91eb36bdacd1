-- Whether bytes are the encoding of a tree, by what is asked one after the other.
use Rattle.std.proofs.Common.{◌≡◌, ◌∙◌, ℕ, ◌<◌, ◌≤◌, List, length, Bool, true, false, Result, Ok, Err, IfOk, refl, sym, arith}
use Rattle.std.specs.Prelude.{◌==◌, ◌&&◌, nat_le}
use Rattle.std.proofs.lemmas.Bool.{and_left, and_right, le-leb}
use Rattle.std.proofs.lemmas.Bool.Decides.{nat_tests}
use Rattle.mls_wire.specs.Limits.{input_limit}
use Rattle.mls_nodes.specs.RatchetTreeEncoding.{full_size, ratchet_tree, trimmed}
use Rattle.mls_tree.specs.Tree.{Tree, listing}
use Rattle.mls_examine.specs.CurrentInfos.{encodes_tree, has_bytes}

module _ (t : Tree) (body : List ℕ) where
  abbrev same_bytes : Bool
  same_bytes = has_bytes (ratchet_tree (trimmed (listing t))) body

  abbrev is_full : Bool
  is_full = full_size (length (trimmed (listing t))) == length (listing t)

  abbrev is_short : Bool
  is_short = nat_le (length body) input_limit

  not_short : input_limit < length body → is_short ≡ false
  not_short h = grind (arith, nat_tests)

  pub too_long : input_limit < length body → encodes_tree t body ≡ false
  unfolding encodes_tree
  too_long h = and_right (same_bytes && is_full) is_short (not_short h)

  pub not_full : is_full ≡ false → encodes_tree t body ≡ false
  unfolding encodes_tree
  not_full h = and_left (same_bytes && is_full) is_short (and_right same_bytes is_full h)

  both_there : (a b c : Bool) → b ≡ true → c ≡ true → (a && b && c) ≡ a
  both_there true b c p q = rw (p, q) refl
  both_there false b c p q = refl

  pub by_bytes : length body ≤ input_limit → is_full ≡ true → encodes_tree t body ≡ same_bytes
  unfolding encodes_tree
  by_bytes short full = both_there same_bytes is_full is_short full (le-leb (length body) input_limit short)

  pub by_entries : {E : Type 0} → length body ≤ input_limit → is_full ≡ true → (r : Result Bool E) → IfOk r (λ same. same ≡ same_bytes)
      → IfOk r (λ same. same ≡ encodes_tree t body)
  by_entries short full (Ok same) h = h ∙ sym (by_bytes short full)
  by_entries short full (Err e) h = tt
