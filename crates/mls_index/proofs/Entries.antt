-- Entries of a number and a node index, in sets and in lists.
use Rattle.std.proofs.Common.{◌≡◌, ◌≢◌, ◌∙◌, ◌⊎◌, ℕ, ◌<◌, ◌≤◌, List, [], ◌∷◌, ◌++◌, Bool, true, false, not, cond, eqb, inl, inr, refl, sym, ap, subst, arith, BTreeSet}
use Rattle.std.specs.Prelude.{◌||◌, ◌&&◌}
use Rattle.std.specs.Bool.{OnFalse}
use Rattle.std.specs.List.{list_any, filter, AllByRecursion}
use Rattle.std.specs.List.Sorted.{IsStrictlySortedBy}
use Rattle.std.specs.BTreeSet.{contains, IsFromIterResult, Updates, IsUnchanged, keys_between}
use Rattle.std.specs.BTreeMap.{is_at}
use Rattle.std.specs.BTreeMap.Range.{range_contains}
use Rattle.std.specs.declared.cmp.Ordering.TheVariants.{Less}
use Rattle.std.specs.declared.ops.Bound.{Bound}
use Rattle.std.specs.declared.ops.Bound.TheVariants.{Included, Unbounded}
use Rattle.std.proofs.lemmas.Bool.{cases_Bool, cases_eq, false≢true, and_parts}
use Rattle.std.proofs.lemmas.Bool.Decides.{nat_tests}
use Rattle.std.proofs.lemmas.List.Folds.{list_any-append}
use Rattle.std.proofs.lemmas.Map.Keys.{sorted_head, sorted_tail}
use Rattle.mls_index.specs.IncrementalCheck.{contains_node_index}
use Rattle.mls_index.specs.EntryTable.{entry_cmp, has_entry, contains_entry}

-- ---- one entry

pub same_entry : (b p c q : ℕ) → is_at (entry_cmp (b, p)) (c, q) ≡ true → (b ≡ c) × (p ≡ q)
same_entry b p c q e =
    elim (cases_eq b c) [
      | inl same ↦ elim (cases_eq p q) [
        | inl same' ↦ (same, same')
        | inr other ↦ absurd (grind (arith, nat_tests, e, same, other))
      ]
      | inr other ↦ absurd (grind (arith, nat_tests, e, other))
    ]

-- the entries after one more
pub record WithEntry (s n : BTreeSet (ℕ × ℕ)) (b p : ℕ) : Type 0 where
  pub here : has_entry n b p ≡ true
  pub remaining : (c q : ℕ) → has_entry s c q ≡ true → has_entry n c q ≡ true
  pub only : (c q : ℕ) → has_entry n c q ≡ true → (has_entry s c q ≡ true) ⊎ ((b ≡ c) × (p ≡ q))

-- the entries after one less
pub record WithoutEntry (s n : BTreeSet (ℕ × ℕ)) (b p : ℕ) : Type 0 where
  pub gone : has_entry n b p ≡ false
  pub only : (c q : ℕ) → has_entry n c q ≡ true → has_entry s c q ≡ true
  pub remaining : (c q : ℕ) → has_entry s c q ≡ true → (has_entry n c q ≡ true) ⊎ ((b ≡ c) × (p ≡ q))

pub staged : (s n : BTreeSet (ℕ × ℕ)) (b p : ℕ) → Updates entry_cmp s n (b, p) true → WithEntry s n b p
unfolding has_entry
staged s n b p u = record {
  here = u.1;
  remaining = λ c q had. elim (cases_Bool (is_at (entry_cmp (b, p)) (c, q))) [
    | inl at ↦ u.0 (c, q) ∙ rw at refl
    | inr off ↦ u.2 (c, q) off ∙ had
  ];
  only = λ c q has. elim (cases_Bool (is_at (entry_cmp (b, p)) (c, q))) [
    | inl at ↦ inr (same_entry b p c q at)
    | inr off ↦ inl (sym (u.2 (c, q) off) ∙ has)
  ];
}

pub removed : (s n : BTreeSet (ℕ × ℕ)) (b p : ℕ) → Updates entry_cmp s n (b, p) false → WithoutEntry s n b p
unfolding has_entry
removed s n b p u = record {
  gone = u.1;
  only = λ c q has. elim (cases_Bool (is_at (entry_cmp (b, p)) (c, q))) [
    | inl at ↦ absurd (false≢true (sym (u.0 (c, q) ∙ rw at refl) ∙ has))
    | inr off ↦ sym (u.2 (c, q) off) ∙ has
  ];
  remaining = λ c q had. elim (cases_Bool (is_at (entry_cmp (b, p)) (c, q))) [
    | inl at ↦ inr (same_entry b p c q at)
    | inr off ↦ inl (u.2 (c, q) off ∙ had)
  ];
}

pub unchanged : (s n : BTreeSet (ℕ × ℕ)) → IsUnchanged s n → (c q : ℕ) → has_entry n c q ≡ has_entry s c q
unfolding has_entry
unchanged s n e c q = ap (list_any (is_at (entry_cmp (c, q)))) e

pub contained : (s : BTreeSet (ℕ × ℕ)) (b p : ℕ) (v : Bool) → contains entry_cmp s (b, p) ≡ v → has_entry s b p ≡ v
unfolding has_entry
contained s b p v e = e

pub empty-entries : (s : BTreeSet (ℕ × ℕ)) → s.keys ≡ [] → (b p : ℕ) → has_entry s b p ≡ false
unfolding has_entry
empty-entries s e b p = ap (list_any (is_at (entry_cmp (b, p)))) e

pub if_not : (v : Bool) → not v ≡ false → v ≡ true
if_not true e = refl
if_not false e = absurd (false≢true (sym e))

-- what an insertion says: whether the entry is new
pub if_old : (added : Bool) (P : Type 0) → added ≡ false → OnFalse added P → P
if_old true P old h = absurd (false≢true (sym old))
if_old false P old h = h

pub if_new : (added had : Bool) → added ≡ true → added ≡ not had → had ≡ false
if_new added true new e = absurd (false≢true (sym e ∙ new))
if_new added false new e = refl

-- ---- lists of entries

pub or_right : (a : Bool) → (a || true) ≡ true
or_right true = refl
or_right false = refl

pub or_cases : (a b : Bool) → (a || b) ≡ true → (a ≡ true) ⊎ (b ≡ true)
or_cases true b e = inl refl
or_cases false b e = inr e

pub or_left : (a b : Bool) → a ≡ true → (a || b) ≡ true
or_left a b e = rw e refl

and_both : (a b : Bool) → a ≡ true → b ≡ true → (a && b) ≡ true
and_both a b e f = rw (e, f) refl

pub own : (p : ℕ) → eqb p p ≡ true
own p = grind (arith, nat_tests)

pub equal : (p q : ℕ) → eqb p q ≡ true → p ≡ q
equal p q e = grind (arith, nat_tests)

abbrev pub is_entry : ℕ → ℕ → ℕ × ℕ → Bool
is_entry b p e = eqb e.0 b && eqb e.1 p

is_entry-same : (b p : ℕ) (e : ℕ × ℕ) → is_entry b p e ≡ true → (e.0 ≡ b) × (e.1 ≡ p)
is_entry-same b p e h = let parts = and_parts (eqb e.0 b) (eqb e.1 p) h in (equal e.0 b parts.0, equal e.1 p parts.1)

pub is_entry-own : (b p : ℕ) → is_entry b p (b, p) ≡ true
is_entry-own b p = and_both (eqb b b) (eqb p p) (own b) (own p)

pub lists-nil : (es : List (ℕ × ℕ)) → es ≡ [] → (b p : ℕ) → contains_entry es b p ≡ true → ⊥
unfolding contains_entry
lists-nil es e b p h = false≢true (sym (ap (list_any (is_entry b p)) e) ∙ h)

pub lists-kept : (es fs : List (ℕ × ℕ)) (b p : ℕ) → contains_entry es b p ≡ true → contains_entry (es ++ fs) b p ≡ true
unfolding contains_entry
lists-kept es fs b p h = list_any-append (is_entry b p) es fs ∙ or_left (list_any (is_entry b p) es) (list_any (is_entry b p) fs) h

pub lists-last : (es : List (ℕ × ℕ)) (b p : ℕ) → contains_entry (es ++ (b, p) ∷ []) b p ≡ true
unfolding contains_entry
lists-last es b p =
    list_any-append (is_entry b p) es ((b, p) ∷ []) ∙ (let h : list_any (is_entry b p) ((b, p) ∷ []) ≡ true = or_left (is_entry b p (b, p)) false (is_entry-own b p) in
    ap (λ v. list_any (is_entry b p) es || v) h ∙ or_right (list_any (is_entry b p) es))

pub lists-added : (es : List (ℕ × ℕ)) (b p c q : ℕ) → contains_entry (es ++ (b, p) ∷ []) c q ≡ true → (contains_entry es c q ≡ true) ⊎ ((b ≡ c) × (p ≡ q))
unfolding contains_entry
lists-added es b p c q h =
    elim (or_cases (list_any (is_entry c q) es) (list_any (is_entry c q) ((b, p) ∷ [])) (sym (list_any-append (is_entry c q) es ((b, p) ∷ [])) ∙ h)) [
      | inl old ↦ inl old
      | inr new ↦ elim (or_cases (is_entry c q (b, p)) false new) [
        | inl at ↦ inr (is_entry-same c q (b, p) at)
        | inr never ↦ absurd (false≢true never)
      ]
    ]

-- ---- a set that is made of a list

any_same : (f g : ℕ × ℕ → Bool) → ((e : ℕ × ℕ) → f e ≡ g e) → (es : List (ℕ × ℕ)) → list_any f es ≡ list_any g es
any_same f g same [] = refl
any_same f g same (e ∷ es) = λ i. same e i || any_same f g same es i

at_own : (b p : ℕ) → is_at (entry_cmp (b, p)) (b, p) ≡ true
at_own b p = grind (arith, nat_tests)

same_test : (b p : ℕ) (e : ℕ × ℕ) → is_at (entry_cmp (b, p)) e ≡ is_entry b p e
same_test b p e = elim (cases_Bool (is_at (entry_cmp (b, p)) e)) [
  | inl at ↦ (let same = same_entry b p e.0 e.1 at in at ∙ sym (and_both (eqb e.0 b) (eqb e.1 p) (subst (λ c. eqb c b ≡ true) same.0 (own b)) (subst (λ q. eqb q p ≡ true) same.1 (own p))))
  | inr off ↦ elim (cases_Bool (is_entry b p e)) [
    | inl hit ↦
        (let same = is_entry-same b p e hit in
        let there : is_at (entry_cmp (b, p)) e ≡ true = subst (λ c. is_at (entry_cmp (b, p)) (c, e.1) ≡ true) (sym same.0) (subst (λ q. is_at (entry_cmp (b, p)) (b, q) ≡ true) (sym same.1) (at_own b p)) in
        absurd (false≢true (sym off ∙ there)))
    | inr miss ↦ off ∙ sym miss
  ]
]

pub from_list : (es : List (ℕ × ℕ)) (n : BTreeSet (ℕ × ℕ)) → IsFromIterResult entry_cmp es n → (b p : ℕ) → has_entry n b p ≡ contains_entry es b p
unfolding has_entry contains_entry
from_list es n made b p = made.0 (b, p) ∙ any_same (is_at (entry_cmp (b, p))) (is_entry b p) (same_test b p) es

-- the entries of a set are those of its list
pub of_keys : (s : BTreeSet (ℕ × ℕ)) (b p : ℕ) → has_entry s b p ≡ contains_entry s.keys b p
unfolding has_entry contains_entry
of_keys s b p = any_same (is_at (entry_cmp (b, p))) (is_entry b p) (same_test b p) s.keys

-- the first of a list, or one of the others
pub lists-head : (e : ℕ × ℕ) (es : List (ℕ × ℕ)) (b p : ℕ) → contains_entry (e ∷ es) b p ≡ true
    → ((e.0 ≡ b) × (e.1 ≡ p)) ⊎ (contains_entry es b p ≡ true)
unfolding contains_entry
lists-head e es b p h =
    elim (or_cases (is_entry b p e) (list_any (is_entry b p) es) h) [
      | inl at ↦ inl (is_entry-same b p e at)
      | inr more ↦ inr more
    ]

pub lists-first : (e : ℕ × ℕ) (es : List (ℕ × ℕ)) (b p : ℕ) → contains_entry (e ∷ es) b p ≡ true → (e.1 ≡ p) ⊎ (contains_entry es b p ≡ true)
lists-first e es b p h = elim (lists-head e es b p h) [ inl at ↦ inl at.1 | inr more ↦ inr more ]

-- ---- places of a list

pub listed-here : (r : ℕ) (rest : List ℕ) → contains_node_index (r ∷ rest) r ≡ true
listed-here r rest = ap (λ (b : Bool). b || contains_node_index rest r) (own r)

pub listed-other : (r p : ℕ) (rest : List ℕ) → p ≢ r → contains_node_index (r ∷ rest) p ≡ contains_node_index rest p
listed-other r p rest other = let t : eqb r p ≡ false = grind (arith, nat_tests) in ap (λ (b : Bool). b || contains_node_index rest p) t

pub listed-more : (r p : ℕ) (rest : List ℕ) → contains_node_index rest p ≡ true → contains_node_index (r ∷ rest) p ≡ true
listed-more r p rest e = ap (λ b. eqb r p || b) e ∙ or_right (eqb r p)

-- ---- entries of one number

filtered : (test : ℕ × ℕ → Bool) (b q : ℕ) → test (b, q) ≡ true → (es : List (ℕ × ℕ)) → list_any (is_at (entry_cmp (b, q))) es ≡ true
    → list_any (is_entry b q) (filter test es) ≡ true
filtered test b q passes [] h = absurd (false≢true h)
filtered test b q passes (e ∷ es) h =
    elim (or_cases (is_at (entry_cmp (b, q)) e) (list_any (is_at (entry_cmp (b, q))) es) h) [
      | inl at ↦
          (let is = same_entry b q e.0 e.1 at in
          let passes' : test e ≡ true = subst (λ c. test (c, e.1) ≡ true) is.0 (subst (λ r. test (b, r) ≡ true) is.1 passes) in
          let own' : is_entry b q e ≡ true = subst (λ c. is_entry b q (c, e.1) ≡ true) is.0 (subst (λ r. is_entry b q (b, r) ≡ true) is.1 (is_entry-own b q)) in
          ap (λ v. list_any (is_entry b q) (cond v (e ∷ filter test es) (filter test es))) passes' ∙ or_left (is_entry b q e) (list_any (is_entry b q) (filter test es)) own')
      | inr more ↦
          (let rest = filtered test b q passes es more in
          elim (cases_Bool (test e)) [
            | inl passed ↦
                ap (λ v. list_any (is_entry b q) (cond v (e ∷ filter test es) (filter test es))) passed
                ∙ (ap (λ v. is_entry b q e || v) rest ∙ or_right (is_entry b q e))
            | inr failed ↦ ap (λ v. list_any (is_entry b q) (cond v (e ∷ filter test es) (filter test es))) failed ∙ rest
          ])
    ]

passes_range : (b q : ℕ) → q ≤ 4294967295 → range_contains entry_cmp (Included (b, 0)) (Included (b, 4294967295)) (b, q) ≡ true
passes_range b q low = grind (arith, nat_tests)

-- what the range of a number shows: an entry of each node index
pub in_range : (s : BTreeSet (ℕ × ℕ)) (b : ℕ) (lo hi : Bound (ℕ × ℕ)) (r : List (ℕ × ℕ)) → r ≡ keys_between entry_cmp lo hi s
    → lo ≡ Included (b, 0) → hi ≡ Included (b, 4294967295) → (q : ℕ) → q ≤ 4294967295 → has_entry s b q ≡ true → contains_entry r b q ≡ true
unfolding has_entry contains_entry
in_range s b lo hi r is from to q low has =
    ap (list_any (is_entry b q)) (is ∙ (ap (λ l. keys_between entry_cmp l hi s) from ∙ ap (λ h. keys_between entry_cmp (Included (b, 0)) h s) to))
    ∙ filtered (range_contains entry_cmp (Included (b, 0)) (Included (b, 4294967295))) b q (passes_range b q low) s.keys has

-- ---- their order

-- the node indices of a number's entries rise
abbrev pub RisesFrom : ℕ → ℕ × ℕ → List (ℕ × ℕ) → Type 0
RisesFrom b e es = (q : ℕ) → contains_entry es b q ≡ true → e.1 < q

abbrev pub AreIncreasing : ℕ → List (ℕ × ℕ) → Type 0
AreIncreasing b [] = Unit {0}
AreIncreasing b (e ∷ es) = RisesFrom b e es × AreIncreasing b es

-- an entry before others of a list is below what a filter lets through
pub below_listed : (k : ℕ × ℕ) (test : ℕ × ℕ → Bool) (ks : List (ℕ × ℕ)) → AllByRecursion (λ y. entry_cmp k y ≡ Less) ks
    → (b q : ℕ) → contains_entry (filter test ks) b q ≡ true → entry_cmp k (b, q) ≡ Less
unfolding contains_entry
below_listed k test [] h b q on = absurd (false≢true on)
below_listed k test (y ∷ ys) h b q on =
    elim (cases_Bool (test y)) [
      | inl passed ↦ elim (or_cases (is_entry b q y) (list_any (is_entry b q) (filter test ys)) (ap (λ v. list_any (is_entry b q) (cond v (y ∷ filter test ys) (filter test ys))) (sym passed) ∙ on)) [
        | inl at ↦
            (let is = is_entry-same b q y at in
            subst (λ c. entry_cmp k (c, q) ≡ Less) is.0 (subst (λ r. entry_cmp k (y.0, r) ≡ Less) is.1 h.0))
        | inr more ↦ below_listed k test ys h.1 b q more
      ]
      | inr failed ↦ below_listed k test ys h.1 b q (ap (λ v. list_any (is_entry b q) (cond v (y ∷ filter test ys) (filter test ys))) (sym failed) ∙ on)
    ]

of_number : (b : ℕ) (k : ℕ × ℕ) → range_contains entry_cmp (Included (b, 0)) (Included (b, 4294967295)) k ≡ true → k.0 ≡ b
of_number b k h = grind (arith, nat_tests)

less_node_index : (b q : ℕ) (k : ℕ × ℕ) → k.0 ≡ b → entry_cmp k (b, q) ≡ Less → k.1 < q
less_node_index b q k same less = grind (arith, nat_tests)

increasing_filter : (b : ℕ) (ks : List (ℕ × ℕ)) → IsStrictlySortedBy entry_cmp ks
    → AreIncreasing b (filter (range_contains entry_cmp (Included (b, 0)) (Included (b, 4294967295))) ks)
increasing_filter b [] h = tt
increasing_filter b (k ∷ ks) h =
    let test = range_contains entry_cmp (Included (b, 0)) (Included (b, 4294967295)) in
    let rest = increasing_filter b ks (sorted_tail entry_cmp k ks h) in
    elim (cases_Bool (test k)) [
      | inl passed ↦
          subst (λ v. AreIncreasing b (cond v (k ∷ filter test ks) (filter test ks))) (sym passed)
          (λ q on. less_node_index b q k (of_number b k passed) (below_listed k test ks (sorted_head entry_cmp k ks h) b q on), rest)
      | inr failed ↦ subst (λ v. AreIncreasing b (cond v (k ∷ filter test ks) (filter test ks))) (sym failed) rest
    ]

-- those that a range shows rise
pub increasing_first : (s : BTreeSet (ℕ × ℕ)) (b : ℕ) (lo hi : Bound (ℕ × ℕ)) (r : List (ℕ × ℕ)) → IsStrictlySortedBy entry_cmp s.keys
    → r ≡ keys_between entry_cmp lo hi s → lo ≡ Included (b, 0) → hi ≡ Included (b, 4294967295) → AreIncreasing b r
increasing_first s b lo hi r sorted is from to =
    subst (AreIncreasing b) (sym (is ∙ (ap (λ l. keys_between entry_cmp l hi s) from ∙ ap (λ h. keys_between entry_cmp (Included (b, 0)) h s) to)))
    (increasing_filter b s.keys sorted)

pub increasing_more : (b : ℕ) (e : ℕ × ℕ) (all rest : List (ℕ × ℕ)) → all ≡ e ∷ rest → AreIncreasing b all → AreIncreasing b rest
increasing_more b e all rest cut h = (subst (AreIncreasing b) cut h).1

-- ---- the first entry of a number, or above it

passes_from : (b q : ℕ) → range_contains entry_cmp (Included (b, 0)) Unbounded (b, q) ≡ true
passes_from b q = grind (arith, nat_tests)

-- an entry of a number is in the range from it
pub in_from : (s : BTreeSet (ℕ × ℕ)) (b q : ℕ) → has_entry s b q ≡ true → contains_entry (keys_between entry_cmp (Included (b, 0)) Unbounded s) b q ≡ true
unfolding has_entry contains_entry
in_from s b q has = filtered (range_contains entry_cmp (Included (b, 0)) Unbounded) b q (passes_from b q) s.keys has

pub no_first : (s : BTreeSet (ℕ × ℕ)) (b : ℕ) → keys_between entry_cmp (Included (b, 0)) Unbounded s ≡ [] → (q : ℕ) → has_entry s b q ≡ true → ⊥
no_first s b none q has = lists-nil (keys_between entry_cmp (Included (b, 0)) Unbounded s) none b q (in_from s b q has)

-- ---- a search among them

-- of each node index with an entry of a number something holds, or its entry is still to come
pub record IsSought (P : ℕ → Type 0) (s : BTreeSet (ℕ × ℕ)) (b : ℕ) (rest : List (ℕ × ℕ)) : Type 0 where
  pub at : (q : ℕ) → q ≤ 4294967295 → has_entry s b q ≡ true → (P q) ⊎ (contains_entry rest b q ≡ true)

module _ (P : ℕ → Type 0) (s : BTreeSet (ℕ × ℕ)) (b : ℕ) where
  pub sought-first : (lo hi : Bound (ℕ × ℕ)) (r : List (ℕ × ℕ)) → r ≡ keys_between entry_cmp lo hi s
      → lo ≡ Included (b, 0) → hi ≡ Included (b, 4294967295) → IsSought P s b r
  sought-first lo hi r is from to = record { at = λ q low has. inr (in_range s b lo hi r is from to q low has) }

  pub sought-more : (e : ℕ × ℕ) (all rest : List (ℕ × ℕ)) → all ≡ e ∷ rest → P e.1 → IsSought P s b all → IsSought P s b rest
  sought-more e all rest cut here h = record {
    at = λ q low has. elim (h.at q low has) [
      | inl met ↦ inl met
      | inr left ↦ elim (lists-first e rest b q (ap (λ es. contains_entry es b q) (sym cut) ∙ left)) [
        | inl same ↦ inl (subst P same here)
        | inr more ↦ inr more
      ]
    ];
  }

  pub sought-all : (rest : List (ℕ × ℕ)) → rest ≡ [] → IsSought P s b rest → (q : ℕ) → q ≤ 4294967295 → has_entry s b q ≡ true → P q
  sought-all rest none h q low has = elim (h.at q low has) [
    | inl met ↦ met
    | inr left ↦ absurd (lists-nil rest none b q left)
  ]
