-- The first of some proposals with a reference, by an index of the references.
use Rattle.std.proofs.Common.{◌≡◌, ◌∙◌, ℕ, zero, suc, List, [], ◌∷◌, ◌++◌, Vec, Bool, true, false, cond, Option, Some, None, length, map, refl, sym, ap, subst, option_map, arith}
use Rattle.std.specs.Prelude.{if◌then◌else◌, is_some, MatchOption, ◌<◌, ◌≤◌}
use Rattle.std.specs.Borrow.{Bor}
use Rattle.std.specs.List.{HoldsAt, slice_index_or}
use Rattle.std.specs.BTreeMap.{insert_entry}
use Rattle.std.specs.Cmp.Lexicographic.{slice_cmp, texts_ties, nat_list_eq_equiv, bytes_decides}
use Rattle.std.specs.Map.{lookup}
use Rattle.std.specs.Ordering.{nat_cmp, is_eq, match_ordering}
use Rattle.std.specs.declared.cmp.Ordering.{Ordering}
use Rattle.std.specs.declared.cmp.Ordering.TheVariants.{Less, Equal, Greater}
use Rattle.std.specs.Str.{bytes_eq}
use Rattle.std.proofs.lemmas.Map.Lookups.{exact_bytes}
use Rattle.std.proofs.lemmas.List.{map-append, length-map}
use Rattle.std.proofs.lemmas.Option.{same_Some}
use Rattle.std.proofs.lemmas.Cmp.{tied_itself, nat_list_cmp_total}
use Rattle.mls_apply.specs.ResolvedList.{find_known}
use Rattle.mls_apply.specs.PendingIndex.{position_of, known_fingerprint, AreFingerprints}
use Rattle.mls_apply.specs.declared.list_item.KnownProposal.{KnownProposal}

-- the proposal at the position is the first one
pub first_found : (ks : List KnownProposal) (r : List ℕ) (i : ℕ) → position_of ks r ≡ Some i
    → (i < length ks) × ((d : KnownProposal) → find_known ks r ≡ Some (slice_index_or ks i d))
first_found [] r i e = absurd (cc)
first_found (k ∷ ks) r i e = go (first_found ks r) (bytes_eq k.reference r) e
  where
    append_parent_hash : ((j : ℕ) → position_of ks r ≡ Some j → (j < length ks) × ((d : KnownProposal) → find_known ks r ≡ Some (slice_index_or ks j d)))
        → (o : Option ℕ) → position_of ks r ≡ o → option_map suc o ≡ Some i
        → (i < length (k ∷ ks)) × ((d : KnownProposal) → find_known ks r ≡ Some (slice_index_or (k ∷ ks) i d))
    append_parent_hash less None q f = absurd (cc)
    append_parent_hash less (Some j) q f =
        subst (λ n. (n < length (k ∷ ks)) × ((d : KnownProposal) → find_known ks r ≡ Some (slice_index_or (k ∷ ks) n d))) (same_Some (suc j) i f)
        (omega (arith, (less j q).0), λ d. (less j q).1 d)

    go : ((j : ℕ) → position_of ks r ≡ Some j → (j < length ks) × ((d : KnownProposal) → find_known ks r ≡ Some (slice_index_or ks j d)))
        → (b : Bool) → (if b then Some 0 else option_map suc (position_of ks r)) ≡ Some i
        → (i < length (k ∷ ks)) × ((d : KnownProposal) → (if b then Some k else find_known ks r) ≡ Some (slice_index_or (k ∷ ks) i d))
    go less true f =
        subst (λ n. (n < length (k ∷ ks)) × ((d : KnownProposal) → Some k ≡ Some (slice_index_or (k ∷ ks) n d))) (same_Some 0 i f)
        (omega arith, λ d. refl)
    go less false f = append_parent_hash less (position_of ks r) refl f

-- what a look-up at the position gives is the first one
pub found_at : (ks : List KnownProposal) (r : List ℕ) (i : ℕ) → position_of ks r ≡ Some i → (o : Option (Bor KnownProposal))
    → MatchOption o (length ks ≤ i) (λ x. (i < length ks) × HoldsAt (λ y. x.now ≡ y) ks i)
    → option_map (λ x. x.now) o ≡ find_known ks r
found_at ks r i e None m = absurd (omega (arith, m, (first_found ks r i e).0))
found_at ks r i e (Some x) m = ap Some (m.1 x.now) ∙ sym ((first_found ks r i e).1 x.now)

-- where there is no position, no proposal has the reference
pub none_found : (ks : List KnownProposal) (r : List ℕ) → position_of ks r ≡ None → find_known ks r ≡ None
none_found [] r e = refl
none_found (k ∷ ks) r e = go (none_found ks r) (bytes_eq k.reference r) e
  where
    append_parent_hash : (o : Option ℕ) → (o ≡ None → find_known ks r ≡ None) → option_map suc o ≡ None → find_known ks r ≡ None
    append_parent_hash None less f = less refl
    append_parent_hash (Some j) less f = absurd (cc)

    go : (position_of ks r ≡ None → find_known ks r ≡ None)
        → (b : Bool) → (if b then Some 0 else option_map suc (position_of ks r)) ≡ None → (if b then Some k else find_known ks r) ≡ None
    go less true f = absurd (cc)
    go less false f = append_parent_hash (position_of ks r) less f

-- the first of two positions that there is
abbrev or_else : Option ℕ → Option ℕ → Option ℕ
or_else (Some i) o = Some i
or_else None o = o

-- one proposal more stands behind the others
appended : (ks : List KnownProposal) (k : KnownProposal) (r : List ℕ)
    → position_of (ks ++ k ∷ []) r ≡ or_else (position_of ks r) (if bytes_eq k.reference r then Some (length ks) else None)
appended [] k r = go (bytes_eq k.reference r) 0
  where
    go : (b : Bool) (n : ℕ) → (if b then Some n else option_map suc None) ≡ or_else None (if b then Some n else None)
    go true n = refl
    go false n = refl
appended (x ∷ ks) k r = go (appended ks k r) (bytes_eq x.reference r)
  where
    inner : (p : Option ℕ) (b : Bool)
        → option_map suc (or_else p (if b then Some (length ks) else None)) ≡ or_else (option_map suc p) (if b then Some (length (x ∷ ks)) else None)
    inner (Some i) b = refl
    inner None true = refl
    inner None false = refl

    go : position_of (ks ++ k ∷ []) r ≡ or_else (position_of ks r) (if bytes_eq k.reference r then Some (length ks) else None)
        → (c : Bool) → (if c then Some 0 else option_map suc (position_of (ks ++ k ∷ []) r))
        ≡ or_else (if c then Some 0 else option_map suc (position_of ks r)) (if bytes_eq k.reference r then Some (length (x ∷ ks)) else None)
    go less true = refl
    go less false = ap (option_map suc) less ∙ inner (position_of ks r) (bytes_eq k.reference r)

at_none : (p : Option ℕ) → p ≡ or_else p None
at_none None = refl
at_none (Some j) = refl

-- a position stays the first one
at_some : (p : Option ℕ) (n : ℕ) → is_some p ≡ true → p ≡ or_else p (Some n)
at_some None n e = absurd (cc)
at_some (Some j) n e = refl

-- a proposal whose reference another one has is found at no position
pub known_again : (ks : List KnownProposal) (k : KnownProposal) → is_some (position_of ks k.reference) ≡ true
    → (r : List ℕ) → position_of ks r ≡ position_of (ks ++ k ∷ []) r
known_again ks k known r = go (bytes_eq k.reference r) refl ∙ sym (appended ks k r)
  where
    go : (b : Bool) → bytes_eq k.reference r ≡ b → position_of ks r ≡ or_else (position_of ks r) (if b then Some (length ks) else None)
    go false q = at_none (position_of ks r)
    go true q =
        at_some (position_of ks r) (length ks)
        (subst (λ (s : List ℕ). is_some (position_of ks s) ≡ true) ((bytes_decides k.reference r).0 q) known)

module _ {A : Type 0} where
  -- whether a key of the index is this reference
  abbrev pub is_key : List ℕ → Vec ℕ A → Bool
  is_key r key = is_eq (slice_cmp nat_cmp r key.items)

  abbrev pub order : Vec ℕ A → Vec ℕ A → Ordering
  order x y = slice_cmp nat_cmp x.items y.items

  -- what is found once a key has a position
  inserted : (r : List ℕ) (es : List (Vec ℕ A × ℕ)) (key : Vec ℕ A) (n : ℕ)
      → lookup (is_key r) (insert_entry order es key n) ≡ cond (is_key r key) (Some n) (lookup (is_key r) es)
  inserted r [] key n = refl
  inserted r (e ∷ es) key n = go (inserted r es key n) (order key e.0) refl
    where
      same : (b : Bool) → cond b (Some n) (lookup (is_key r) es) ≡ cond b (Some n) (cond b (Some e.1) (lookup (is_key r) es))
      same true = refl
      same false = refl

      apart : (b c : Bool) → (b ≡ true → c ≡ true → ⊥)
          → cond b (Some e.1) (cond c (Some n) (lookup (is_key r) es)) ≡ cond c (Some n) (cond b (Some e.1) (lookup (is_key r) es))
      apart true true never = absurd (never refl refl)
      apart true false never = refl
      apart false true never = refl
      apart false false never = refl

      both : order key e.0 ≡ Greater → is_key r e.0 ≡ true → is_key r key ≡ true → ⊥
      both greater first second =
          let one = (bytes_decides r e.0.items).0 (texts_ties r e.0.items ∙ first) in
          let two = (bytes_decides r key.items).0 (texts_ties r key.items ∙ second) in
          let equal : order key e.0 ≡ Equal = subst (λ (l : List ℕ). slice_cmp nat_cmp key.items l ≡ Equal) (sym two ∙ one) (tied_itself nat_list_cmp_total key.items) in
          absurd (cc)

      go : lookup (is_key r) (insert_entry order es key n) ≡ cond (is_key r key) (Some n) (lookup (is_key r) es)
          → (o : Ordering) → order key e.0 ≡ o
          → lookup (is_key r) (match_ordering o ((key, n) ∷ e ∷ es) ((e.0, n) ∷ es) (e ∷ insert_entry order es key n))
          ≡ cond (is_key r key) (Some n) (cond (is_key r e.0) (Some e.1) (lookup (is_key r) es))
      go less Less q = refl
      go less Equal q =
          ap (λ (l : List ℕ). cond (is_eq (slice_cmp nat_cmp r l)) (Some n) (lookup (is_key r) es)) (sym (exact_bytes key.items e.0.items q))
          ∙ same (is_key r key)
          ∙ ap (λ (l : List ℕ). cond (is_key r key) (Some n) (cond (is_eq (slice_cmp nat_cmp r l)) (Some e.1) (lookup (is_key r) es))) (exact_bytes key.items e.0.items q)
      go less Greater q =
          ap (λ (o : Option ℕ). cond (is_key r e.0) (Some e.1) o) less
          ∙ apart (is_key r e.0) (is_key r key) (both q)

  -- the index once a proposal with a new reference is known
  pub staged_nodes : (ks : List KnownProposal) (k : KnownProposal) (es : List (Vec ℕ A × ℕ)) (key : Vec ℕ A) (n : ℕ)
      → key.items ≡ k.reference → n ≡ length ks → is_some (position_of ks k.reference) ≡ false
      → ((r : List ℕ) → lookup (is_key r) es ≡ position_of ks r)
      → (r : List ℕ) → lookup (is_key r) (insert_entry order es key n) ≡ position_of (ks ++ k ∷ []) r
  staged_nodes ks k es key n same counted unknown indexed r =
      inserted r es key n
      ∙ ap (λ (l : List ℕ). cond (is_eq (slice_cmp nat_cmp r l)) (Some n) (lookup (is_key r) es)) same
      ∙ ap (λ (b : Bool). cond b (Some n) (lookup (is_key r) es)) (sym (texts_ties r k.reference) ∙ nat_list_eq_equiv.symm r k.reference)
      ∙ ap (λ (o : Option ℕ). cond (bytes_eq k.reference r) (Some n) o) (indexed r)
      ∙ go (bytes_eq k.reference r) refl
      ∙ sym (appended ks k r)
    where
      both : (p : Option ℕ) → is_some p ≡ false → Some n ≡ or_else p (Some (length ks))
      both None f = ap Some counted
      both (Some j) f = absurd (cc)

      go : (b : Bool) → bytes_eq k.reference r ≡ b → cond b (Some n) (position_of ks r) ≡ or_else (position_of ks r) (if b then Some (length ks) else None)
      go false q = at_none (position_of ks r)
      go true q =
          both (position_of ks r)
          (subst (λ (s : List ℕ). is_some (position_of ks s) ≡ false) ((bytes_decides k.reference r).0 q) unknown)

-- ---- fingerprints

-- one fingerprint more
pub prints_more : (ks new : List KnownProposal) (k : KnownProposal) (prints more : List ℕ) → AreFingerprints ks prints
    → new ≡ ks ++ k ∷ [] → more ≡ prints ++ known_fingerprint k ∷ [] → AreFingerprints new more
prints_more ks new k prints more are e f =
    ap (map known_fingerprint) e
    ∙ map-append known_fingerprint ks (k ∷ [])
    ∙ ap (λ ys. ys ++ known_fingerprint k ∷ []) are
    ∙ sym f

-- there are as many fingerprints as proposals
pub prints_length : (ks : List KnownProposal) (prints : List ℕ) → AreFingerprints ks prints → length prints ≡ length ks
prints_length ks prints are = ap length (sym are) ∙ length-map ks known_fingerprint

-- the fingerprint at a position is that of the proposal there
pub print_at : (ks : List KnownProposal) (prints : List ℕ) (i : ℕ) (k : KnownProposal) (f : ℕ)
    → AreFingerprints ks prints → i < length ks → k ≡ slice_index_or ks i k → f ≡ slice_index_or prints i f → f ≡ known_fingerprint k
print_at [] prints i k f are lt at is = absurd (omega (arith, lt))
print_at (x ∷ ks) [] i k f are lt at is = absurd (cc)
print_at (x ∷ ks) (y ∷ prints) zero k f are lt at is = is ∙ sym (heads are) ∙ ap known_fingerprint (sym at)
  where
    heads : known_fingerprint x ∷ map known_fingerprint ks ≡ y ∷ prints → known_fingerprint x ≡ y
    heads e = cc
print_at (x ∷ ks) (y ∷ prints) (suc i) k f are lt at is = print_at ks prints i k f (tails are) (omega (arith, lt)) at is
  where
    tails : known_fingerprint x ∷ map known_fingerprint ks ≡ y ∷ prints → map known_fingerprint ks ≡ prints
    tails e = cc
