-- The encodings of which hash inputs are made, fed to a hasher one after the other.
use Rattle.std.proofs.Common.{◌≡◌, ℕ, suc, ◌+◌, ◌*◌, ◌<◌, ◌≤◌, Bool, true, false, cond, List, [], ◌∷◌, ◌++◌, length, take, get_or, Some, refl, sym, ap, subst, ◌∙◌, append_assoc, length-append, arith}
use Rattle.std.specs.Prelude.{All, not, ◌==◌}
use Rattle.std.specs.Int.{w32}
use Rattle.std.proofs.lemmas.Bool.{eq-eqb, le-leb}
use Rattle.std.proofs.lemmas.List.{append-nil, take_all}
use Rattle.std.proofs.lemmas.List.Elements.{filter_more}
use Rattle.std.proofs.lemmas.List.Filters.{length-filter_both}
use Rattle.std.proofs.lemmas.List.Folds.{list_any_at}
use Rattle.mls_wire.specs.Encoding.{number, length_form, vector, items, list}
use Rattle.mls_wire.specs.WriteSequences.{items_snoc, sized_makes}
use Rattle.mls_wire.specs.OptionBind.{some_is}
use Rattle.mls_wire.specs.EncodingConcat.{joined, join}
use Rattle.mls_wire.specs.IntegersExact.{number_below, wide32}
use Rattle.mls_nodes.specs.Layout as layout
use Rattle.mls_hash.specs.declared.hasher.Hasher.{Hasher}
use Rattle.mls_hash.specs.HasherModel.{HoldsMessage, HoldsMore}
use Rattle.mls_hash.specs.WithoutLeaves.{is_among, without}

without_low : (L xs : List ℕ) → length (without L xs) ≤ length xs
without_low L xs = omega (arith, length-filter_both (λ i. not (is_among L i)) (λ i. not (not (is_among L i))) (λ i. refl) xs)

-- ---- the numbers that are kept

module _ (L xs : List ℕ) (i : ℕ) (lt : i < length xs) where
  kept_less : is_among L (get_or xs i 0) ≡ true → without L (take (i + 1) xs) ≡ without L (take i xs)
  kept_less e =
      filter_more (λ j. not (is_among L j)) xs i 0 lt
      ∙ ap (λ (b : Bool). without L (take i xs) ++ cond (not b) (get_or xs i 0 ∷ []) []) e ∙ append-nil (without L (take i xs))

  kept_more : is_among L (get_or xs i 0) ≡ false → without L (take (i + 1) xs) ≡ without L (take i xs) ++ get_or xs i 0 ∷ []
  kept_more e =
      filter_more (λ j. not (is_among L j)) xs i 0 lt
      ∙ ap (λ (b : Bool). without L (take i xs) ++ cond (not b) (get_or xs i 0 ∷ []) []) e

  pub count_less : (k m : ℕ) → is_among L (get_or xs i 0) ≡ true → k ≡ length (without L (take i xs)) → m ≡ k → m ≡ length (without L (take (i + 1) xs))
  count_less k m e a b = b ∙ a ∙ ap length (sym (kept_less e))

  pub count_more : (k m : ℕ) → is_among L (get_or xs i 0) ≡ false → k ≡ length (without L (take i xs)) → m ≡ k + 1 → m ≡ length (without L (take (i + 1) xs))
  count_more k m e a b = omega (arith, ap length (kept_more e), length-append (without L (take i xs)) (get_or xs i 0 ∷ []))

  pub held_less : (old mid new : Hasher) → is_among L (get_or xs i 0) ≡ true → HoldsMore (items (number w32) (without L (take i xs))) old mid → new ≡ mid
      → HoldsMore (items (number w32) (without L (take (i + 1) xs))) old new
  held_less old mid new e so_far same =
      subst (λ (k : Hasher). HoldsMore (items (number w32) (without L (take (i + 1) xs))) old k) (sym same)
      (subst (λ (ys : List ℕ). HoldsMore (items (number w32) ys) old mid) (sym (kept_less e)) so_far)

  pub held_more : (old mid fed new : Hasher) → is_among L (get_or xs i 0) ≡ false → HoldsMore (items (number w32) (without L (take i xs))) old mid
      → HoldsMore (number w32 (get_or xs i 0)) mid fed → new ≡ fed → HoldsMore (items (number w32) (without L (take (i + 1) xs))) old new
  held_more old mid fed new e so_far more same H m h =
      let s = so_far H m h in
      let t = more H (m ++ s.0) s.2 in
      let both : HoldsMessage H new ((m ++ s.0) ++ t.0) = subst (λ (k : Hasher). HoldsMessage H k ((m ++ s.0) ++ t.0)) (sym same) t.2 in (
        s.0 ++ t.0,
        ap (λ (ys : List ℕ). items (number w32) ys) (kept_more e) ∙ items_snoc (number w32) (without L (take i xs)) (get_or xs i 0) s.0 t.0 s.1 t.1,
        subst (λ (x : List ℕ). HoldsMessage H new x) (append_assoc m s.0 t.0) both,
      )

pub nothing_held : (L : List ℕ) (hasher : Hasher) → HoldsMore (items (number w32) (without L [])) hasher hasher
unfolding items
nothing_held L hasher H m h = ([], refl, subst (λ (x : List ℕ). HoldsMessage H hasher x) (sym (append-nil m)) h)

pub held_all : (L xs : List ℕ) (i : ℕ) (old new : Hasher) → length xs ≤ i → HoldsMore (items (number w32) (without L (take i xs))) old new
    → HoldsMore (items (number w32) (without L xs)) old new
held_all L xs i old new le h = subst (λ (ys : List ℕ). HoldsMore (items (number w32) (without L ys)) old new) (take_all i xs le) h

pub counted_all : (L xs : List ℕ) (i k : ℕ) → length xs ≤ i → k ≡ length (without L (take i xs)) → k ≡ length (without L xs)
counted_all L xs i k le a = a ∙ ap (λ (ys : List ℕ). length (without L ys)) (take_all i xs le)

pub kept_low : (L xs : List ℕ) (k n : ℕ) → k ≡ length (without L xs) → length xs ≤ n → k ≤ n
kept_low L xs k n e le = omega (arith, without_low L xs)

numbers_length : (xs t : List ℕ) → items (number w32) xs ≡ Some t → length t ≡ 4 * length xs
unfolding items
numbers_length [] t e = omega (arith, ap length (some_is [] t e))
numbers_length (x ∷ xs) t e =
    let a = joined (number w32 x) (items (number w32) xs) t e in
    let b = number_below w32 x a.0 a.2 in
    omega (arith, ap length a.4, length-append a.0 a.1, numbers_length xs a.1 a.3, ap length b.1, wide32.len x)

-- ---- a list of unmerged leaves

-- fed as its length and its numbers
pub unmerged_held : (L xs : List ℕ) (k : ℕ) (old mid new : Hasher) → k ≡ length (without L xs) → length xs ≤ 1048576 → HoldsMore (length_form (4 * k)) old mid
    → HoldsMore (items (number w32) (without L xs)) mid new → HoldsMore (layout.unmerged (without L xs)) old new
unfolding layout.unmerged list vector
unmerged_held L xs k old mid new e le first second H m h =
    let f = first H m h in
    let s = second H (m ++ f.0) f.2 in
    let count : 4 * k ≡ length s.0 = omega (arith, numbers_length (without L xs) s.0 s.1) in
    let begins : length_form (length s.0) ≡ Some f.0 = ap length_form (sym count) ∙ f.1 in
    let fewer : length (without L xs) ≤ 1048576 = omega (arith, without_low L xs) in (
      f.0 ++ s.0,
      rw (le-leb (length (without L xs)) 1048576 fewer) (sized_makes (items (number w32) (without L xs)) s.0 s.1 ∙ join (length_form (length s.0)) (Some s.0) f.0 s.0 begins refl),
      subst (λ (x : List ℕ). HoldsMessage H new x) (append_assoc m f.0 s.0) s.2,
    )

-- a list without its own numbers
without-among : (L xs : List ℕ) → All (λ x. is_among L x ≡ true) xs → without L xs ≡ []
without-among L [] h = refl
without-among L (x ∷ xs) h =
    let here : is_among L x ≡ true = h 0 0 (omega arith) in
    rw here (without-among L xs (λ k d lt. h (suc k) d (omega arith)))

without-own : (L xs : List ℕ) → L ≡ xs → without L xs ≡ []
without-own L xs e =
    ap (λ (ys : List ℕ). without ys xs) e ∙ without-among xs xs (λ k d lt. list_any_at (λ y. y == get_or xs k d) xs k d lt (eq-eqb _ _ refl))

-- where no number is kept, the length is the whole list
pub none_held : (L xs : List ℕ) (old new : Hasher) → L ≡ xs → length xs ≤ 1048576 → HoldsMore (length_form 0) old new → HoldsMore (layout.unmerged (without L xs)) old new
none_held L xs old new e le h =
    unmerged_held L xs 0 old new new (sym (ap length (without-own L xs e))) le h
    (subst (λ (ys : List ℕ). HoldsMore (items (number w32) ys) new new) (sym (without-own L xs e)) (nothing_held L new))
