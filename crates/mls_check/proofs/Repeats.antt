-- Keys that stand at a later place, for a walk from the last place down.
use Rattle.std.proofs.Common.{◌≡◌, ℕ, ◌+◌, ◌*◌, ◌-◌, ◌<◌, ◌≤◌, Bool, true, false, cond, List, Option, Some, None, Ordering, MatchOption, refl, sym, ap, ◌∙◌, subst, arith, inl, inr, Bor, BTreeSet, Decides}
use Rattle.std.specs.Prelude.{option_map, ◌⊎◌, ◌||◌, not}
use Rattle.std.specs.Ordering.{nat_cmp, is_eq}
use Rattle.std.specs.Cmp.Lexicographic.{slice_cmp, texts_ties, bytes_decides}
use Rattle.std.specs.BTreeSet.{contains, IsEmpty, Updates}
use Rattle.std.specs.List.{list_any}
use Rattle.std.proofs.lemmas.Option.{same_Some, none-some}
use Rattle.std.proofs.lemmas.Bool.{cases_lt, cases_order, false≢true}
use Rattle.std.proofs.lemmas.Bool.Decides.{Decides-at, Decides-like, Decides-or}
use Rattle.mls_tree.specs.Tree.{Tree, leaf_count, entry_of}
use Rattle.mls_check.specs.DistinctKeys.{encryption_key_at, HaveOneKey, HasUniqueKeyAt, IsDistinct, encryption_key}
use Rattle.mls_check.specs.FirstFailureInternal.{IsFirstFailureIn}
use Rattle.mls_check.proofs.Outside.{outside_above}
use Rattle.mls_check.proofs.Differing.{AreApart}

-- the order of a set of slices
abbrev pub by_bytes : Bor (List ℕ) → Bor (List ℕ) → Ordering
by_bytes x y = slice_cmp nat_cmp x.now y.now

-- some place from `low` on has the key
pub record HasKey (t : Tree) (low : ℕ) (key : List ℕ) : Type 0 where
  pub node_index : ℕ
  pub from : low ≤ node_index
  pub is : encryption_key_at t node_index ≡ Some key

-- the set has just the keys of the places from `low` on
abbrev pub HoldsKeys : Tree → ℕ → BTreeSet (Bor (List ℕ)) → Type 0
HoldsKeys t low set = (k : Bor (List ℕ)) → Decides (contains by_bytes set k) (HasKey t low k.now)

-- some later place has the key of place p
pub record HasLater (t : Tree) (p : ℕ) : Type 0 where
  pub other : ℕ
  pub after : p < other
  pub one_key : HaveOneKey t p other

-- the first place from `low` on that has a later one
abbrev pub IsFirstLater : Tree → ℕ → Option ℕ → Type 0
IsFirstLater t low o =
    MatchOption o ((p : ℕ) → low ≤ p → ¬ HasLater t p) (λ m. (low ≤ m) × HasLater t m × ((p : ℕ) → low ≤ p → p < m → ¬ HasLater t p))

pub record Walked (t : Tree) (low : ℕ) (set : BTreeSet (Bor (List ℕ))) (first : Option ℕ) : Type 0 where
  pub held : HoldsKeys t low set
  pub found : IsFirstLater t low first

same_bytes : (a b : List ℕ) → Decides (is_eq (slice_cmp nat_cmp a b)) (a ≡ b)
same_bytes a b = Decides-at _ _ (sym (texts_ties a b)) (bytes_decides a b)

pub no_key_above : (t : Tree) (n p : ℕ) → n + 1 ≡ 2 * leaf_count t → n ≤ p → encryption_key_at t p ≡ None
no_key_above t n p e l = ap (λ o. option_map encryption_key (entry_of o)) (outside_above t p n e l)

pub walked-start : (t : Tree) (n : ℕ) (set : BTreeSet (Bor (List ℕ))) → n + 1 ≡ 2 * leaf_count t → IsEmpty set → Walked t n set None
walked-start t n set e h = record {
  held = λ k. (λ w. absurd (false≢true (sym (ap (λ ks. list_any (λ x. is_eq (by_bytes k x)) ks) h) ∙ w)), λ w. absurd (none-some _ (sym (no_key_above t n w.node_index e w.from) ∙ w.is)));
  found = λ p l w. none-some _ (sym (no_key_above t n p e l) ∙ w.one_key.here);
}

-- a place without a later one changes nothing
first_later-same : (t : Tree) (low : ℕ) → 0 < low → (o : Option ℕ) → IsFirstLater t low o → (HasLater t (low - 1) → ⊥) → IsFirstLater t (low - 1) o
first_later-same t low pos None f n = λ p l h. elim (cases_lt p low) [ inl u ↦ n (subst (λ v. HasLater t v) (omega arith) h) | inr g ↦ f p g h ]
first_later-same t low pos (Some m) f n =
    (omega (arith, f.0), f.1, λ p l u h. elim (cases_lt p low) [ inl v ↦ n (subst (λ v. HasLater t v) (omega arith) h) | inr g ↦ f.2 p g u h ])

either : (b c : Bool) → cond b true c ≡ (b || c)
either true c = refl
either false c = refl

module _ (t : Tree) (low : ℕ) (set : BTreeSet (Bor (List ℕ))) (first : Option ℕ) (pos : 0 < low) (w : Walked t low set first) where
  wider : (k : List ℕ) → HasKey t low k → HasKey t (low - 1) k
  wider k h = record { node_index = h.node_index; from = omega (arith, h.from); is = h.is }

  here_or_later : (k : List ℕ) → HasKey t (low - 1) k → (encryption_key_at t (low - 1) ≡ Some k) ⊎ HasKey t low k
  here_or_later k h =
      elim (cases_lt h.node_index low) [
        | inl u ↦ inl (let e : low - 1 ≡ h.node_index = omega (arith, h.from) in ap (λ p. encryption_key_at t p) e ∙ h.is)
        | inr g ↦ inr (record { node_index = h.node_index; from = g; is = h.is })
      ]

  -- at a blank place nothing changes
  pub walked-blank : encryption_key_at t (low - 1) ≡ None → Walked t (low - 1) set first
  walked-blank b = record {
    held = λ k. (
      λ e. wider k.now ((w.held k).0 e),
      λ h. elim (here_or_later k.now h) [ inl e ↦ absurd (none-some _ (sym b ∙ e)) | inr g ↦ (w.held k).1 g ],
    );
    found = first_later-same t low pos first w.found (λ l. none-some _ (sym b ∙ l.one_key.here));
  }

  module _ (k : Bor (List ℕ)) (e : encryption_key_at t (low - 1) ≡ Some k.now) (new : BTreeSet (Bor (List ℕ))) (u : Updates by_bytes set new k true) where
    held-more : HoldsKeys t (low - 1) new
    held-more q =
        Decides-at _ _ (u.0 q ∙ either (is_eq (by_bytes k q)) (contains by_bytes set q))
        (Decides-like _
        (λ (o : (k.now ≡ q.now) ⊎ HasKey t low q.now). elim o [
          | inl s ↦ record { node_index = low - 1; from = omega arith; is = e ∙ ap Some s }
          | inr h ↦ wider q.now h
        ])
        (λ h. elim (here_or_later q.now h) [ inl s ↦ inl (same_Some k.now q.now (sym e ∙ s)) | inr g ↦ inr g ])
        (Decides-or _ _ (same_bytes k.now q.now) (w.held q)))

    -- a key that was met already
    pub walked-met : contains by_bytes set k ≡ true → Walked t (low - 1) new (Some (low - 1))
    walked-met m =
        let h = (w.held k).0 m in
        record {
          held = held-more;
          found = (omega arith, record { other = h.node_index; after = omega (arith, h.from); one_key = record { key = k.now; here = e; there = h.is } }, λ p l v. absurd (omega arith));
        }

    -- a key that is new
    pub walked-new : contains by_bytes set k ≡ false → Walked t (low - 1) new first
    walked-new m = record {
      held = held-more;
      found = first_later-same t low pos first w.found (λ l.
          let s : l.one_key.key ≡ k.now = same_Some _ _ (sym l.one_key.here ∙ e) in
          false≢true (sym m ∙ (w.held k).1 (record { node_index = l.other; from = omega (arith, l.after); is = l.one_key.there ∙ ap Some s })));
    }

own_key : (t : Tree) (p : ℕ) → ((q : ℕ) → q ≤ p → ¬ HasLater t q) → HasUniqueKeyAt t p
own_key t p none q n h =
    elim (cases_order p q) [
      | inl e ↦ n (sym e)
      | inr (inl l) ↦ none p (omega arith) (record { other = q; after = l; one_key = h })
      | inr (inr g) ↦ none q (omega arith) (record { other = p; after = g; one_key = record { key = h.key; here = h.there; there = h.here } })
    ]

-- at the end of the walk
pub walked-end : (t : Tree) (set : BTreeSet (Bor (List ℕ))) (first : Option ℕ) (low : ℕ) → low ≡ 0 → Walked t low set first → IsFirstFailureIn (HasUniqueKeyAt t) first
walked-end t set first low z w = go first (subst (λ v. IsFirstLater t v first) z w.found)
  where
    go : (o : Option ℕ) → IsFirstLater t 0 o → IsFirstFailureIn (HasUniqueKeyAt t) o
    go None f = λ p. own_key t p (λ q _. f q (omega arith))
    go (Some m) f = record {
      fails = λ h. h f.1.other (λ e. let l = f.1.after in omega arith) f.1.one_key;
      earlier = λ p l. own_key t p (λ q u. f.2 q (omega arith) (omega arith));
    }

-- keys that are apart at all places of the tree are so everywhere
pub distinct-apart : (t : Tree) (n : ℕ) → n + 1 ≡ 2 * leaf_count t → AreApart (encryption_key_at t) n
    → IsDistinct t
distinct-apart t n e apart p = own_key t p (λ q _ w.
    let one = w.one_key in
    elim (cases_lt w.other n) [
      | inl low ↦ apart q w.other one.key w.after low one.here one.there
      | inr high ↦ none-some _ (sym (no_key_above t n w.other e high) ∙ one.there)
    ])

-- what an insertion into a set answers
pub met : (a b : Bool) → a ≡ not b → a ≡ false → b ≡ true
met a true e f = refl
met a false e f = absurd (false≢true (sym f ∙ e))

pub unmet : (a b : Bool) → a ≡ not b → a ≡ true → b ≡ false
unmet a true e f = absurd (false≢true (sym e ∙ f))
unmet a false e f = refl
