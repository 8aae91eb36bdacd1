-- The steps by which tables of entries are made, and by which entries come and go.
use Rattle.std.proofs.Common.{◌≡◌, ◌≢◌, ◌∙◌, ◌⊎◌, ℕ, zero, suc, ◌+◌, ◌*◌, ◌<◌, ◌≤◌, List, [], ◌∷◌, ◌++◌, length, true, false, Option, Some, None, inl, inr, refl, sym, ap, subst, arith, BTreeSet}
use Rattle.std.specs.Prelude.{nat_lt, option_map, slice_get, slice_set, unwrap_or}
use Rattle.std.proofs.lemmas.Bool.{and_parts, cases_Bool, cases_eq, cases_lt, false≢true}
use Rattle.std.proofs.lemmas.Bool.Decides.{nat_tests}
use Rattle.std.proofs.lemmas.Option.{none-some, same_Some}
use Rattle.mls_tree.specs.Tree.{Tree, leaf_count, node_at}
use Rattle.mls_tree.proofs.Arrays.{slice_get-set_same, slice_get-set_other}
use Rattle.mls_nodes.specs.Fingerprints.{fingerprint}
use Rattle.mls_nodes.specs.KeyPrefix.{key_prefix}
use Rattle.mls_check.specs.DistinctKeys.{encryption_key}
use Rattle.mls_check.proofs.Repeats.{no_key_above}
use Rattle.mls_index.specs.NodeKeys.{node_key, key_at_node}
use Rattle.mls_index.specs.EntryTable.{has_entry, contains_entry, base_at, is_entered, HaveDistinctNumbers, IsTableOf, TableHasBase}
use Rattle.mls_index.specs.EntryTableInternal.{number_at, HasListed, ListsFirst, ListsAll, listed_at, AddsOnly, HasLeft, HasEntered, HasSettled, AreSettled}
use Rattle.mls_index.specs.declared.node_key.KeyKind.{KeyKind}
use Rattle.mls_index.specs.declared.node_key.KeyKind.TheVariants.{Encryption, Signature}
use Rattle.mls_index.specs.declared.node_key.KeyNumber.{KeyNumber}
use Rattle.mls_index.specs.declared.node_key.KeyNumber.TheVariants.{Prefix, Fingerprint}
use Rattle.mls_index.specs.declared.entry_table.KeyList.{KeyList}
use Rattle.mls_index.specs.declared.entry_table.EntryTable.{EntryTable}
use Rattle.mls_index.proofs.Entries.{WithEntry, WithoutEntry, lists-nil, lists-kept, lists-last, lists-added, listed-other}

-- ---- keys at places

no_node : {X Y : Type 0} (f : X → Y) (o : Option X) → option_map f o ≡ None → o ≡ None
no_node f None e = refl
no_node f (Some x) e = absurd (none-some (f x) (sym e))

no_key : (kind : KeyKind) → node_key kind None ≡ None
no_key Encryption = refl
no_key Signature = refl

-- no key stands above the last place
key-above : (kind : KeyKind) (t : Tree) (n p : ℕ) → n + 1 ≡ 2 * leaf_count t → n ≤ p → key_at_node kind t p ≡ None
key-above kind t n p e high = ap (node_key kind) (no_node encryption_key (node_at t p) (no_key_above t n p e high)) ∙ no_key kind

pub key-low : (kind : KeyKind) (t : Tree) (n p : ℕ) (key : List ℕ) → n + 1 ≡ 2 * leaf_count t → key_at_node kind t p ≡ Some key → p < n
key-low kind t n p key e is = elim (cases_lt p n) [
  | inl low ↦ low
  | inr high ↦ absurd (none-some key (sym (key-above kind t n p e high) ∙ is))
]

number-above : (choice : KeyNumber) (kind : KeyKind) (t : Tree) (p : ℕ) → key_at_node kind t p ≡ None → number_at choice kind t p ≡ None
number-above Prefix kind t p none = ap (option_map key_prefix) none
number-above Fingerprint kind t p none = ap (option_map fingerprint) none

get-last : (xs : List (Option ℕ)) (o : Option ℕ) → unwrap_or (slice_get (xs ++ o ∷ []) (length xs)) None ≡ o
get-last [] o = refl
get-last (x ∷ xs) o = get-last xs o

pub length-last : (xs : List (Option ℕ)) (o : Option ℕ) → length (xs ++ o ∷ []) ≡ length xs + 1
length-last [] o = refl
length-last (x ∷ xs) o = omega (arith, length-last xs o)

get-before : (xs ys : List (Option ℕ)) (p : ℕ) → p < length xs → unwrap_or (slice_get (xs ++ ys) p) None ≡ unwrap_or (slice_get xs p) None
get-before [] ys p low = absurd (omega (arith, low))
get-before (x ∷ xs) ys zero low = refl
get-before (x ∷ xs) ys (suc p) low = get-before xs ys p (omega (arith, low))

get-beyond : (xs : List (Option ℕ)) (p : ℕ) → length xs ≤ p → unwrap_or (slice_get xs p) None ≡ None
get-beyond [] p high = refl
get-beyond (x ∷ xs) zero high = absurd (omega (arith, high))
get-beyond (x ∷ xs) (suc p) high = get-beyond xs p (omega (arith, high))

get-blank : (xs : List (Option ℕ)) (p : ℕ) → unwrap_or (slice_get (xs ++ None ∷ []) p) None ≡ unwrap_or (slice_get xs p) None
get-blank [] zero = refl
get-blank [] (suc p) = refl
get-blank (x ∷ xs) zero = refl
get-blank (x ∷ xs) (suc p) = get-blank xs p

pub base-beyond : (k : EntryTable) (p : ℕ) → length k.numbers ≤ p → base_at k p ≡ None
unfolding base_at
base-beyond k p high = get-beyond k.numbers p high

pub base-same : (k n : EntryTable) → n.numbers ≡ k.numbers → (p : ℕ) → base_at n p ≡ base_at k p
unfolding base_at
base-same k n e p = ap (λ xs. unwrap_or (slice_get xs p) None) e

pub base-blank : (k n : EntryTable) → n.numbers ≡ k.numbers ++ None ∷ [] → (p : ℕ) → base_at n p ≡ base_at k p
unfolding base_at
base-blank k n e p = ap (λ xs. unwrap_or (slice_get xs p) None) e ∙ get-blank k.numbers p

base-set : (k n : EntryTable) (p : ℕ) (o : Option ℕ) → n.numbers ≡ slice_set k.numbers p o → p < length k.numbers
    → base_at n p ≡ o
unfolding base_at
base-set k n p o e low = ap (λ xs. unwrap_or (slice_get xs p) None) e ∙ ap (λ r. unwrap_or r None) (slice_get-set_same k.numbers p o low)

base-unset : (k n : EntryTable) (p : ℕ) (o : Option ℕ) → n.numbers ≡ slice_set k.numbers p o → (q : ℕ) → q ≢ p
    → base_at n q ≡ base_at k q
unfolding base_at
base-unset k n p o e q other = ap (λ xs. unwrap_or (slice_get xs q) None) e ∙ ap (λ r. unwrap_or r None) (slice_get-set_other k.numbers p q o other)

-- whether there is this number
is_it : (o : Option ℕ) (b : ℕ) → (o ≡ Some b) ⊎ (o ≢ Some b)
is_it None b = inr (λ e. none-some b e)
is_it (Some c) b = elim (cases_eq c b) [
  | inl same ↦ inl (ap Some same)
  | inr other ↦ inr (λ e. other (same_Some c b e))
]

-- each entry is of what stands at places, or came
pub only_cases : (x : ℕ → Option ℕ) (k : EntryTable) → TableHasBase x k → (b p : ℕ) → has_entry k.entries b p ≡ true
    → (x p ≡ Some b) ⊎ (contains_entry k.came.items b p ≡ true)
only_cases x k h b p has = elim (cases_Bool (contains_entry k.came.items b p)) [
  | inl came ↦ inr came
  | inr old ↦ inl (h.only b p has old)
]

only_from : (x : ℕ → Option ℕ) (k : EntryTable)
    → ((b p : ℕ) → has_entry k.entries b p ≡ true → (x p ≡ Some b) ⊎ (contains_entry k.came.items b p ≡ true))
    → (b p : ℕ) → has_entry k.entries b p ≡ true → contains_entry k.came.items b p ≡ false → x p ≡ Some b
only_from x k cases b p has none = elim (cases b p has) [
  | inl old ↦ old
  | inr came ↦ absurd (false≢true (sym none ∙ came))
]

-- ---- a table is made

listed-last : (k n : KeyList) (o : Option ℕ) → n.numbers ≡ k.numbers ++ o ∷ [] → listed_at n (length k.numbers) ≡ o
unfolding listed_at
listed-last k n o e = ap (λ xs. unwrap_or (slice_get xs (length k.numbers)) None) e ∙ get-last k.numbers o

listed-before : (k n : KeyList) (o : Option ℕ) → n.numbers ≡ k.numbers ++ o ∷ [] → (p : ℕ) → p < length k.numbers
    → listed_at n p ≡ listed_at k p
unfolding listed_at
listed-before k n o e p low = ap (λ xs. unwrap_or (slice_get xs p) None) e ∙ get-before k.numbers (o ∷ []) p low

listed-beyond : (k : KeyList) (p : ℕ) → length k.numbers ≤ p → listed_at k p ≡ None
unfolding listed_at
listed-beyond k p high = get-beyond k.numbers p high

pub listed-first : (x : ℕ → Option ℕ) (k : KeyList) → k.entries.items ≡ [] → k.numbers ≡ [] → ListsFirst x 0 k
listed-first x k entries numbers = record {
  count = ap length numbers;
  base = λ p low. absurd (omega (arith, low));
  all = λ b p low e. absurd (omega (arith, low));
  only = λ b p has. absurd (lists-nil k.entries.items entries b p has);
}

pub listed-more : (x : ℕ → Option ℕ) (k n : KeyList) (p : ℕ) (o : Option ℕ) → x p ≡ o → n.numbers ≡ k.numbers ++ o ∷ []
    → HasListed o p k.entries.items n.entries.items → ListsFirst x p k → ListsFirst x (p + 1) n
listed-more x k n p o is e w h = record {
  count = ap length e ∙ length-last k.numbers o ∙ ap (λ m. m + 1) h.count;
  base = λ q low. elim (cases_eq q p) [
    | inl same ↦ ap (listed_at n) (same ∙ sym h.count) ∙ listed-last k n o e ∙ sym is ∙ ap x (sym same)
    | inr other ↦
        (let less : q < p = omega (arith, low, other) in
        listed-before k n o e q (subst (λ m. q < m) (sym h.count) less) ∙ h.base q less)
  ];
  all = λ b q low there. elim (cases_eq q p) [
    | inl same ↦ subst (λ r. contains_entry n.entries.items b r ≡ true) (sym same) (w.here b (sym is ∙ ap x (sym same) ∙ there))
    | inr other ↦ (let less : q < p = omega (arith, low, other) in w.remaining b q (h.all b q less there))
  ];
  only = λ b q has. elim (w.only b q has) [
    | inl had ↦ (let old = h.only b q had in let low : q < p + 1 = omega (arith, old.0) in (low, old.1))
    | inr new ↦ (let low : q < p + 1 = omega (arith, new.1) in (low, ap x (sym new.1) ∙ is ∙ new.0))
  ];
}

pub listed-all : (choice : KeyNumber) (kind : KeyKind) (t : Tree) (n : ℕ) (k : KeyList) → n + 1 ≡ 2 * leaf_count t
    → ListsFirst (number_at choice kind t) n k → ListsAll (number_at choice kind t) k
listed-all choice kind t n k e h = record {
  base = λ p. elim (cases_lt p n) [
    | inl low ↦ h.base p low
    | inr high ↦ listed-beyond k p (subst (λ m. m ≤ p) (sym h.count) high) ∙ sym (above p high)
  ];
  all = λ b p is. elim (cases_lt p n) [
    | inl low ↦ h.all b p low is
    | inr high ↦ absurd (none-some b (sym (above p high) ∙ is))
  ];
  only = λ b p has. (h.only b p has).1;
}
  where
    above : (p : ℕ) → n ≤ p → number_at choice kind t p ≡ None
    above p high = number-above choice kind t p (key-above kind t n p e high)

-- one more in the list
pub list-some : (b p : ℕ) (es fs : List (ℕ × ℕ)) → fs ≡ es ++ (b, p) ∷ [] → HasListed (Some b) p es fs
list-some b p es fs e = record {
  here = λ c f. subst (λ d. contains_entry fs d p ≡ true) (same_Some b c f) (subst (λ gs. contains_entry gs b p ≡ true) (sym e) (lists-last es b p));
  remaining = λ c q had. subst (λ gs. contains_entry gs c q ≡ true) (sym e) (lists-kept es ((b, p) ∷ []) c q had);
  only = λ c q has. elim (lists-added es b p c q (subst (λ gs. contains_entry gs c q ≡ true) e has)) [
    | inl had ↦ inl had
    | inr new ↦ inr (ap Some new.0, new.1)
  ];
}

base-listed : (k : KeyList) (t : EntryTable) → t.numbers ≡ k.numbers → (p : ℕ) → base_at t p ≡ listed_at k p
unfolding base_at listed_at
base-listed k t e p = ap (λ xs. unwrap_or (slice_get xs p) None) e

-- a table of the keys in a list
pub table-made : (x : ℕ → Option ℕ) (k : KeyList) (t : EntryTable) → ListsAll x k → t.numbers ≡ k.numbers → t.came.items ≡ []
    → ((b p : ℕ) → has_entry t.entries b p ≡ contains_entry k.entries.items b p) → IsTableOf x t
table-made x k t h numbers came entries = record {
  between = record {
    base = λ p. base-listed k t numbers p ∙ h.base p;
    all = λ b p is. entries b p ∙ h.all b p is;
    only = λ b p has old. h.only b p (sym (entries b p) ∙ has);
    new = λ b p new. absurd (lists-nil t.came.items came b p new);
  };
  none_came = came;
}

-- ---- keys come

pub between-same : (x : ℕ → Option ℕ) (k n : EntryTable) → ((b p : ℕ) → has_entry n.entries b p ≡ has_entry k.entries b p)
    → n.numbers ≡ k.numbers → n.came.items ≡ k.came.items → TableHasBase x k → TableHasBase x n
between-same x k n entries numbers came h = record {
  base = λ p. base-same k n numbers p ∙ h.base p;
  all = λ b p e. entries b p ∙ h.all b p e;
  only = only_from x n (λ b p has. elim (only_cases x k h b p (sym (entries b p) ∙ has)) [
    | inl old ↦ inl old
    | inr new ↦ inr (ap (λ es. contains_entry es b p) came ∙ new)
  ]);
  new = λ b p listed. h.new b p (ap (λ es. contains_entry es b p) (sym came) ∙ listed);
}

pub between-base : (x : ℕ → Option ℕ) (k n : EntryTable) → n.entries ≡ k.entries → n.came ≡ k.came
    → ((p : ℕ) → base_at n p ≡ base_at k p) → TableHasBase x k → TableHasBase x n
between-base x k n entries came base h = record {
  base = λ p. base p ∙ h.base p;
  all = λ b p e. ap (λ s. has_entry s b p) entries ∙ h.all b p e;
  only = only_from x n (λ b p has. elim (only_cases x k h b p (ap (λ s. has_entry s b p) (sym entries) ∙ has)) [
    | inl old ↦ inl old
    | inr new ↦ inr (ap (λ c. contains_entry c.items b p) came ∙ new)
  ]);
  new = λ b p listed. h.new b p (ap (λ c. contains_entry c.items b p) (sym came) ∙ listed);
}

pub between-more : (x : ℕ → Option ℕ) (k n : EntryTable) (b p : ℕ) → has_entry k.entries b p ≡ false → WithEntry k.entries n.entries b p
    → n.came.items ≡ k.came.items ++ (b, p) ∷ [] → n.numbers ≡ k.numbers → TableHasBase x k → TableHasBase x n
between-more x k n b p free w came numbers h = record {
  base = λ q. base-same k n numbers q ∙ h.base q;
  all = λ c q e. w.remaining c q (h.all c q e);
  only = only_from x n (λ c q has. elim (w.only c q has) [
    | inl had ↦ elim (only_cases x k h c q had) [
      | inl old ↦ inl old
      | inr new ↦ inr (ap (λ es. contains_entry es c q) came ∙ lists-kept k.came.items ((b, p) ∷ []) c q new)
    ]
    | inr new ↦ inr (ap (λ es. contains_entry es c q) came
        ∙ subst (λ d. contains_entry (k.came.items ++ (b, p) ∷ []) d q ≡ true) new.0
        (subst (λ r. contains_entry (k.came.items ++ (b, p) ∷ []) b r ≡ true) new.1 (lists-last k.came.items b p)))
  ]);
  new = λ c q listed e. elim (lists-added k.came.items b p c q (ap (λ es. contains_entry es c q) (sym came) ∙ listed)) [
    | inl old ↦ h.new c q old e
    | inr new ↦
        false≢true (sym free ∙ subst (λ d. has_entry k.entries d p ≡ true) (sym new.0) (subst (λ r. has_entry k.entries c r ≡ true) (sym new.1) (h.all c q e)))
  ];
}

-- ---- keys go

pub left-gone : (b : ℕ) (now : Option ℕ) (p : ℕ) (s n : BTreeSet (ℕ × ℕ)) → now ≢ Some b → WithoutEntry s n b p → HasLeft (Some b) now p s n
left-gone b now p s n foreign w = record {
  gone = λ c e other. subst (λ d. has_entry n d p ≡ false) (same_Some b c e) w.gone;
  only = w.only;
  remaining = λ c q had. elim (w.remaining c q had) [
    | inl stays ↦ inl stays
    | inr gone ↦ inr (λ e. foreign (e ∙ ap Some (sym gone.0)), gone.1)
  ];
}

-- what stays: the entry of the number that is there now, and those of other node indices
left-now : (p : ℕ) (left o : Option ℕ) (s n : BTreeSet (ℕ × ℕ)) → HasLeft left o p s n → ((b : ℕ) → o ≡ Some b → has_entry s b p ≡ true)
    → (b : ℕ) → o ≡ Some b → has_entry n b p ≡ true
left-now p left o s n w had b is = elim (w.remaining b p (had b is)) [
  | inl stays ↦ stays
  | inr gone ↦ absurd (gone.0 is)
]

left-other : (p : ℕ) (left o : Option ℕ) (s n : BTreeSet (ℕ × ℕ)) → HasLeft left o p s n → (b q : ℕ) → q ≢ p → has_entry s b q ≡ true → has_entry n b q ≡ true
left-other p left o s n w b q other had = elim (w.remaining b q had) [
  | inl stays ↦ stays
  | inr gone ↦ absurd (other (sym gone.1))
]

-- ---- entries that can be stored

some_room : (k : EntryTable) (p b : ℕ) → base_at k p ≡ Some b → p < length k.numbers
some_room k p b e = elim (cases_lt p (length k.numbers)) [
  | inl low ↦ low
  | inr high ↦ absurd (none-some b (sym (base-beyond k p high) ∙ e))
]

low-test : (p n : ℕ) → p < n → nat_lt p n ≡ true
low-test p n low = grind (arith, nat_tests)

high-test : (p n : ℕ) → n ≤ p → nat_lt p n ≡ false
high-test p n high = grind (arith, nat_tests)

below-test : (p n : ℕ) → nat_lt p n ≡ true → p < n
below-test p n e = grind (arith, nat_tests)

pub entered-same : (k : EntryTable) (b p : ℕ) → p < length k.numbers → is_entered k b p ≡ has_entry k.entries b p
unfolding is_entered
entered-same k b p low = rw (low-test p (length k.numbers) low) refl

pub entered-beyond : (k : EntryTable) (b p : ℕ) → length k.numbers ≤ p → is_entered k b p ≡ false
unfolding is_entered
entered-beyond k b p high = rw (high-test p (length k.numbers) high) refl

pub entered-low : (k : EntryTable) (b p : ℕ) → is_entered k b p ≡ true → p < length k.numbers
unfolding is_entered
entered-low k b p h = below-test p (length k.numbers) (and_parts (nat_lt p (length k.numbers)) (has_entry k.entries b p) h).0

pub entered-entry : (k : EntryTable) (b p : ℕ) → is_entered k b p ≡ true → has_entry k.entries b p ≡ true
entered-entry k b p h = sym (entered-same k b p (entered-low k b p h)) ∙ h

pub entered-from : (k : EntryTable) (b p : ℕ) → p < length k.numbers → has_entry k.entries b p ≡ true → is_entered k b p ≡ true
entered-from k b p low has = entered-same k b p low ∙ has

-- an entry that can be stored stays one
pub entered-kept : (k n : EntryTable) → ((b p : ℕ) → has_entry k.entries b p ≡ true → has_entry n.entries b p ≡ true) → length k.numbers ≤ length n.numbers
    → (b p : ℕ) → is_entered k b p ≡ true → is_entered n b p ≡ true
entered-kept k n kept long b p h =
    let low : p < length n.numbers = omega (arith, entered-low k b p h, long) in
    entered-from n b p low (kept b p (entered-entry k b p h))

-- the number of the base can be stored
pub entered-base : (x : ℕ → Option ℕ) (k : EntryTable) → TableHasBase x k → (b p : ℕ) → base_at k p ≡ Some b → is_entered k b p ≡ true
entered-base x k h b p is = entered-from k b p (some_room k p b is) (h.all b p (sym (h.base p) ∙ is))

-- ---- a number is stored

-- the node index is above those that are stored: it has no number
pub settled-beyond : (k : EntryTable) (p : ℕ) (o : Option ℕ) → length k.numbers ≤ p → HasEntered o p k → HasSettled o p k k
settled-beyond k p o high h = record {
  here = base-beyond k p high ∙ sym (none_is o refl);
  others = λ q other. refl;
  left = record {
    gone = λ b is other. absurd (none-some b (sym (base-beyond k p high) ∙ is));
    only = λ b q has. has;
    remaining = λ b q had. inl had;
  };
  came = refl;
  long = refl;
}
  where
    none_is : (r : Option ℕ) → o ≡ r → o ≡ None
    none_is None e = e
    none_is (Some b) e = absurd (let low = entered-low k b p (h b e) in omega (arith, low, high))

pub settled-stored : (k n : EntryTable) (p : ℕ) (left o : Option ℕ) → base_at k p ≡ left → HasLeft left o p k.entries n.entries
    → n.numbers ≡ slice_set k.numbers p o → p < length k.numbers → length n.numbers ≡ length k.numbers → n.came.items ≡ k.came.items → HasSettled o p k n
settled-stored k n p left o was w set low long came = record {
  here = base-set k n p o set low;
  others = base-unset k n p o set;
  left = subst (λ l. HasLeft l o p k.entries n.entries) (sym was) w;
  came = came;
  long = long;
}

-- the entry of the number that is stored remains, and those of other node indices
pub entered-now : (k n : EntryTable) (p : ℕ) (o : Option ℕ) → HasEntered o p k → HasSettled o p k n → HasEntered o p n
entered-now k n p o entered s b is =
    entered-from n b p (subst (λ m. p < m) (sym s.long) (entered-low k b p (entered b is)))
    (left-now p (base_at k p) o k.entries n.entries s.left (λ c e. entered-entry k c p (entered c e)) b is)

pub entered-other : (k n : EntryTable) (p : ℕ) (o : Option ℕ) → HasSettled o p k n → (b q : ℕ) → q ≢ p → is_entered k b q ≡ true → is_entered n b q ≡ true
entered-other k n p o s b q other h =
    entered-from n b q (subst (λ m. q < m) (sym s.long) (entered-low k b q h)) (left-other p (base_at k p) o k.entries n.entries s.left b q other (entered-entry k b q h))

pub settled-more : (rest : List ℕ) (k n : EntryTable) (p : ℕ) (o : Option ℕ) → HasEntered o p k → HasSettled o p k n → AreSettled (p ∷ rest) k → AreSettled rest n
settled-more rest k n p o entered s h = record {
  all = λ b q off e. elim (cases_eq q p) [
    | inl same ↦
        subst (λ r. has_entry n.entries b r ≡ true) (sym same)
        (left-now p (base_at k p) o k.entries n.entries s.left (λ c is. entered-entry k c p (entered c is)) b (sym s.here ∙ ap (base_at n) (sym same) ∙ e))
    | inr other ↦
        left-other p (base_at k p) o k.entries n.entries s.left b q other
        (h.all b q (listed-other p q rest other ∙ off) (sym (s.others q other) ∙ e))
  ];
  only = λ b q has. elim (h.only b q (s.left.only b q has)) [
    | inl stored ↦ elim (cases_eq q p) [
      | inl same ↦ elim (is_it o b) [
        | inl it ↦ inl (ap (base_at n) same ∙ s.here ∙ it)
        | inr foreign ↦
            absurd (false≢true (sym (s.left.gone b (ap (base_at k) (sym same) ∙ stored) foreign) ∙ subst (λ r. has_entry n.entries b r ≡ true) same has))
      ]
      | inr other ↦ inl (s.others q other ∙ stored)
    ]
    | inr new ↦ inr (ap (λ es. contains_entry es b q) s.came ∙ new)
  ];
}

-- an entry that came goes, unless it is of the number that is stored
pub settled-came : (k n : EntryTable) (b p : ℕ) → k.came.items ≡ n.came.items ++ (b, p) ∷ []
    → HasLeft (Some b) (base_at k p) p k.entries n.entries → n.numbers ≡ k.numbers → AreSettled [] k → AreSettled [] n
settled-came k n b p came w numbers h = record {
  all = λ c q off e. elim (cases_eq q p) [
    | inl same ↦
        subst (λ r. has_entry n.entries c r ≡ true) (sym same)
        (left-now p (Some b) (base_at k p) k.entries n.entries w (λ d is. h.all d p refl is) c (sym (base-same k n numbers p) ∙ ap (base_at n) (sym same) ∙ e))
    | inr other ↦ left-other p (Some b) (base_at k p) k.entries n.entries w c q other (h.all c q off (sym (base-same k n numbers q) ∙ e))
  ];
  only = λ c q has. elim (h.only c q (w.only c q has)) [
    | inl stored ↦ inl (base-same k n numbers q ∙ stored)
    | inr new ↦ elim (lists-added n.came.items b p c q (ap (λ es. contains_entry es c q) (sym came) ∙ new)) [
      | inl more ↦ inr more
      | inr same ↦ elim (is_it (base_at k p) c) [
        | inl it ↦ inl (base-same k n numbers q ∙ ap (base_at k) (sym same.1) ∙ it)
        | inr foreign ↦
            absurd (false≢true (sym (w.gone c (ap Some same.0) foreign) ∙ subst (λ r. has_entry n.entries c r ≡ true) (sym same.1) has))
      ]
    ]
  ];
}

pub settled-last : (k n : EntryTable) → n.entries ≡ k.entries → n.numbers ≡ k.numbers → k.came.items ≡ [] → n.came.items ≡ [] → AreSettled [] k
    → IsTableOf (base_at k) n
settled-last k n entries numbers old none h = record {
  between = record {
    base = base-same k n numbers;
    all = λ b p is. ap (λ s. has_entry s b p) entries ∙ h.all b p refl is;
    only = λ b p has not. elim (h.only b p (ap (λ s. has_entry s b p) (sym entries) ∙ has)) [
      | inl stored ↦ stored
      | inr came ↦ absurd (lists-nil k.came.items old b p came)
    ];
    new = λ b p came. absurd (lists-nil n.came.items none b p came);
  };
  none_came = none;
}

-- an entry that came goes again
pub between-less : (x : ℕ → Option ℕ) (k n : EntryTable) (b p : ℕ) → k.came.items ≡ n.came.items ++ (b, p) ∷ [] → WithoutEntry k.entries n.entries b p
    → n.numbers ≡ k.numbers → TableHasBase x k → TableHasBase x n
between-less x k n b p came w numbers h = record {
  base = λ q. base-same k n numbers q ∙ h.base q;
  all = λ c q e. elim (w.remaining c q (h.all c q e)) [
    | inl stays ↦ stays
    | inr gone ↦
        absurd (h.new c q (ap (λ es. contains_entry es c q) came
        ∙ subst (λ d. contains_entry (n.came.items ++ (b, p) ∷ []) d q ≡ true) gone.0
        (subst (λ r. contains_entry (n.came.items ++ (b, p) ∷ []) b r ≡ true) gone.1 (lists-last n.came.items b p))) e)
  ];
  only = only_from x n (λ c q has. elim (only_cases x k h c q (w.only c q has)) [
    | inl old ↦ inl old
    | inr new ↦ elim (lists-added n.came.items b p c q (ap (λ es. contains_entry es c q) (sym came) ∙ new)) [
      | inl more ↦ inr more
      | inr same ↦
          absurd (false≢true (sym w.gone ∙ subst (λ d. has_entry n.entries d p ≡ true) (sym same.0) (subst (λ r. has_entry n.entries c r ≡ true) (sym same.1) has)))
    ]
  ]);
  new = λ c q listed. h.new c q (ap (λ es. contains_entry es c q) came ∙ lists-kept n.came.items ((b, p) ∷ []) c q listed);
}

pub between-last : (x : ℕ → Option ℕ) (k : EntryTable) → k.came.items ≡ [] → TableHasBase x k → IsTableOf x k
between-last x k none h = record { between = h; none_came = none }

-- ---- the base of a table

base-equal : (x y : ℕ → Option ℕ) (k : EntryTable) → ((p : ℕ) → x p ≡ y p) → TableHasBase x k → TableHasBase y k
base-equal x y k same h = record {
  base = λ p. h.base p ∙ same p;
  all = λ b p is. h.all b p (same p ∙ is);
  only = λ b p has old. sym (same p) ∙ h.only b p has old;
  new = λ b p came is. h.new b p came (same p ∙ is);
}

pub table-equal : (x y : ℕ → Option ℕ) (k : EntryTable) → ((p : ℕ) → x p ≡ y p) → IsTableOf x k → IsTableOf y k
table-equal x y k same h = record { between = base-equal x y k same h.between; none_came = h.none_came }

-- as the table stores it
pub base-own : (x : ℕ → Option ℕ) (k : EntryTable) → TableHasBase x k → TableHasBase (base_at k) k
base-own x k h = base-equal x (base_at k) k (λ p. sym (h.base p)) h

pub table-own : (x : ℕ → Option ℕ) (k : EntryTable) → IsTableOf x k → IsTableOf (base_at k) k
table-own x k h = record { between = base-own x k h.between; none_came = h.none_came }

-- a table without keys
pub table-empty : (k : EntryTable) → k.numbers ≡ [] → k.came.items ≡ [] → ((b p : ℕ) → has_entry k.entries b p ≡ false) → IsTableOf (λ _. None) k
unfolding base_at
table-empty k numbers came entries = record {
  between = record {
    base = λ p. ap (λ xs. unwrap_or (slice_get xs p) None) numbers;
    all = λ b p is. absurd (none-some b is);
    only = λ b p has old. absurd (false≢true (sym (entries b p) ∙ has));
    new = λ b p new. absurd (lists-nil k.came.items came b p new);
  };
  none_came = came;
}

-- ---- different numbers

pub distinct-more : (s n : BTreeSet (ℕ × ℕ)) (b p : ℕ) → AddsOnly b p s n → ((q : ℕ) → has_entry s b q ≡ true → q ≡ p) → HaveDistinctNumbers s → HaveDistinctNumbers n
distinct-more s n b p adds free h c q r has has' = elim (adds c q has) [
  | inl old ↦ elim (adds c r has') [
    | inl old' ↦ h c q r old old'
    | inr new' ↦ free q (subst (λ d. has_entry s d q ≡ true) (sym new'.0) old) ∙ new'.1
  ]
  | inr new ↦ elim (adds c r has') [
    | inl old' ↦ sym (free r (subst (λ d. has_entry s d r ≡ true) (sym new.0) old') ∙ new.1)
    | inr new' ↦ sym new.1 ∙ new'.1
  ]
]

pub distinct-less : (s n : BTreeSet (ℕ × ℕ)) → ((b p : ℕ) → has_entry n b p ≡ true → has_entry s b p ≡ true) → HaveDistinctNumbers s → HaveDistinctNumbers n
distinct-less s n only h b p q has has' = h b p q (only b p has) (only b q has')

pub distinct-none : (k : EntryTable) → IsTableOf (λ _. None) k → HaveDistinctNumbers k.entries
distinct-none k h b p q has has' = elim (only_cases (λ _. None) k h.between b p has) [
  | inl old ↦ absurd (none-some b old)
  | inr came ↦ absurd (lists-nil k.came.items h.none_came b p came)
]
