-- The steps by which keys come to a table of prefixes and fingerprints, and go.
use Rattle.std.proofs.Common.{◌≡◌, ◌≢◌, ◌∙◌, ◌⊎◌, ℕ, List, [], ◌∷◌, true, false, Option, Some, None, inl, inr, refl, sym, ap, subst}
use Rattle.std.specs.Prelude.{◌||◌, option_map}
use Rattle.std.proofs.lemmas.Bool.{cases_eq, false≢true}
use Rattle.std.proofs.lemmas.Option.{none-some, same_Some}
use Rattle.mls_tree.specs.Tree.{Tree}
use Rattle.mls_tree.specs.ChangedNodes.{AgreeExceptAt}
use Rattle.mls_nodes.specs.Fingerprints.{fingerprint}
use Rattle.mls_nodes.specs.KeyPrefix.{key_prefix}
use Rattle.mls_index.specs.NodeKeys.{node_key, key_at_node, prefix_at, fingerprint_at, are_numbers_for, AreNumbersOf}
use Rattle.mls_index.specs.IncrementalCheck.{contains_node_index}
use Rattle.mls_index.specs.EntryTable.{has_entry, base_at, is_entered, HaveDistinctNumbers, IsTableOf, TableHasBase}
use Rattle.mls_index.specs.EntryTableInternal.{AddsOnly, HasEntered, HasSettled}
use Rattle.mls_index.specs.KeyTable.{has_number, AddsNumbers, HasBaseOf, IsTableOfTree, TableContainsKeys}
use Rattle.mls_index.specs.KeyTableInternal.{ContainsKeysBut, IsSettling}
use Rattle.mls_index.specs.declared.node_key.KeyKind.{KeyKind}
use Rattle.mls_index.specs.declared.key_table.KeyTable.{KeyTable}
use Rattle.mls_index.proofs.Entries.{or_cases, or_left, or_right, own, equal, listed-other}
use Rattle.mls_index.proofs.Tables.{base-own, table-own, only_cases, entered-base, entered-now, entered-other, settled-more, distinct-more, distinct-less, distinct-none}

-- ---- numbers of keys

prefix-for : (o : Option (List ℕ)) → are_numbers_for o (option_map key_prefix o) None ≡ true
unfolding are_numbers_for
prefix-for None = refl
prefix-for (Some key) = own (key_prefix key)

fingerprint-for : (o : Option (List ℕ)) → are_numbers_for o None (option_map fingerprint o) ≡ true
unfolding are_numbers_for
fingerprint-for None = refl
fingerprint-for (Some key) = own (fingerprint key)

-- a key has a number of one kind
number-of : (key : List ℕ) (b f : Option ℕ) → are_numbers_for (Some key) b f ≡ true → (b ≡ Some (key_prefix key)) ⊎ (f ≡ Some (fingerprint key))
unfolding are_numbers_for
number-of key None None h = absurd (false≢true h)
number-of key None (Some f) h = inr (ap Some (equal f (fingerprint key) h))
number-of key (Some b) None h = inl (ap Some (equal b (key_prefix key) h))
number-of key (Some b) (Some f) h = absurd (false≢true h)

-- the numbers of the entry that is found for a key
pub found-none : (o : Option (List ℕ)) → option_map key_prefix o ≡ None → are_numbers_for o None None ≡ true
unfolding are_numbers_for
found-none None e = refl
found-none (Some key) e = absurd (none-some (key_prefix key) (sym e))

pub found-prefix : (o : Option (List ℕ)) (b : ℕ) → option_map key_prefix o ≡ Some b → are_numbers_for o (Some b) None ≡ true
found-prefix o b e = subst (λ r. are_numbers_for o r None ≡ true) e (prefix-for o)

pub found-fingerprint : (o : Option (List ℕ)) (r : Option ℕ) → r ≡ option_map fingerprint o → are_numbers_for o None r ≡ true
found-fingerprint o r e = subst (λ f. are_numbers_for o None f ≡ true) (sym e) (fingerprint-for o)

-- ---- entries of keys

pub number-prefix : (k : KeyTable) (key : List ℕ) (p : ℕ) → is_entered k.prefixes (key_prefix key) p ≡ true → has_number k key p ≡ true
unfolding has_number
number-prefix k key p h = or_left (is_entered k.prefixes (key_prefix key) p) (is_entered k.fingerprints (fingerprint key) p) h

pub number-fingerprint : (k : KeyTable) (key : List ℕ) (p : ℕ) → is_entered k.fingerprints (fingerprint key) p ≡ true → has_number k key p ≡ true
unfolding has_number
number-fingerprint k key p h = ap (λ v. is_entered k.prefixes (key_prefix key) p || v) h ∙ or_right (is_entered k.prefixes (key_prefix key) p)

pub number_cases : (k : KeyTable) (key : List ℕ) (p : ℕ) → has_number k key p ≡ true
    → (is_entered k.prefixes (key_prefix key) p ≡ true) ⊎ (is_entered k.fingerprints (fingerprint key) p ≡ true)
unfolding has_number
number_cases k key p h = or_cases (is_entered k.prefixes (key_prefix key) p) (is_entered k.fingerprints (fingerprint key) p) h

number-entered : (k : KeyTable) (key : List ℕ) (b f : Option ℕ) (p : ℕ) → are_numbers_for (Some key) b f ≡ true → HasEntered b p k.prefixes
    → HasEntered f p k.fingerprints → has_number k key p ≡ true
number-entered k key b f p is has has' = elim (number-of key b f is) [
  | inl prefix ↦ number-prefix k key p (has (key_prefix key) prefix)
  | inr other ↦ number-fingerprint k key p (has' (fingerprint key) other)
]

number-kept : (k n : KeyTable) (key : List ℕ) (p : ℕ) → ((b : ℕ) → is_entered k.prefixes b p ≡ true → is_entered n.prefixes b p ≡ true)
    → ((b : ℕ) → is_entered k.fingerprints b p ≡ true → is_entered n.fingerprints b p ≡ true) → has_number k key p ≡ true → has_number n key p ≡ true
number-kept k n key p kept kept' h = elim (number_cases k key p h) [
  | inl prefix ↦ number-prefix n key p (kept (key_prefix key) prefix)
  | inr other ↦ number-fingerprint n key p (kept' (fingerprint key) other)
]

-- if there is no entry of its prefix, there is one of its fingerprint
pub found-entered : (k : KeyTable) (o : Option (List ℕ)) (p b : ℕ) (r : Option ℕ) → ((key : List ℕ) → o ≡ Some key → has_number k key p ≡ true)
    → option_map key_prefix o ≡ Some b → is_entered k.prefixes b p ≡ false → r ≡ option_map fingerprint o → HasEntered r p k.fingerprints
found-entered k None p b r has prefix free is f e = absurd (none-some b prefix)
found-entered k (Some key) p b r has prefix free is f e = elim (number_cases k key p (has key refl)) [
  | inl there ↦ absurd (false≢true (sym free ∙ subst (λ c. is_entered k.prefixes c p ≡ true) (same_Some (key_prefix key) b prefix) there))
  | inr there ↦ subst (λ c. is_entered k.fingerprints c p ≡ true) (same_Some (fingerprint key) f (sym is ∙ e)) there
]

-- ---- a table is made

module _ (kind : KeyKind) (t : Tree) where
  numbers-equal : (x y v w : ℕ → Option ℕ) → ((p : ℕ) → x p ≡ v p) → ((p : ℕ) → y p ≡ w p) → AreNumbersOf kind t x y → AreNumbersOf kind t v w
  numbers-equal x y v w same same' h p =
      subst (λ o. are_numbers_for (key_at_node kind t p) o (w p) ≡ true) (same p) (subst (λ o. are_numbers_for (key_at_node kind t p) (x p) o ≡ true) (same' p) (h p))

  pub table-of : (x y : ℕ → Option ℕ) (k : KeyTable) → AreNumbersOf kind t x y → IsTableOf x k.prefixes → IsTableOf y k.fingerprints
      → HaveDistinctNumbers k.prefixes.entries → IsTableOfTree kind t k
  table-of x y k numbers h h' distinct = record {
    prefixes = table-own x k.prefixes h;
    fingerprints = table-own y k.fingerprints h';
    numbers = numbers-equal x y (base_at k.prefixes) (base_at k.fingerprints) (λ p. sym (h.between.base p)) (λ p. sym (h'.between.base p)) numbers;
    distinct = distinct;
  }

  pub table-prefixes : (k : KeyTable) → IsTableOf (prefix_at kind t) k.prefixes → IsTableOf (λ _. None) k.fingerprints → HaveDistinctNumbers k.prefixes.entries
      → IsTableOfTree kind t k
  table-prefixes k h none distinct = table-of (prefix_at kind t) (λ _. None) k (λ p. prefix-for (key_at_node kind t p)) h none distinct

  pub table-fingerprints : (k : KeyTable) → IsTableOf (λ _. None) k.prefixes → IsTableOf (fingerprint_at kind t) k.fingerprints → IsTableOfTree kind t k
  table-fingerprints k none h =
      table-of (λ _. None) (fingerprint_at kind t) k (λ p. fingerprint-for (key_at_node kind t p)) none h (distinct-none k.prefixes none)

  pub table-base : (k : KeyTable) → IsTableOfTree kind t k → HasBaseOf kind t k
  table-base k h = record { prefixes = h.prefixes.between; fingerprints = h.fingerprints.between; numbers = h.numbers; distinct = h.distinct }

  -- a table contains the keys of its base
  pub between-covers : (k : KeyTable) → HasBaseOf kind t k → TableContainsKeys kind t k
  between-covers k h key p there =
      number-entered k key (base_at k.prefixes p) (base_at k.fingerprints p) p
      (subst (λ o. are_numbers_for o (base_at k.prefixes p) (base_at k.fingerprints p) ≡ true) there (h.numbers p))
      (λ b is. entered-base (base_at k.prefixes) k.prefixes h.prefixes b p is) (λ b is. entered-base (base_at k.fingerprints) k.fingerprints h.fingerprints b p is)

-- ---- keys come

-- trees with the same nodes have the same keys
same_key : (kind : KeyKind) (node_indices : List ℕ) (old new : Tree) → AgreeExceptAt node_indices old new → (p : ℕ) → contains_node_index node_indices p ≡ false
    → key_at_node kind old p ≡ key_at_node kind new p
same_key kind node_indices old new same p off = ap (node_key kind) (same p off)

module _ (kind : KeyKind) (t : Tree) where
  -- an entry of a prefix, which no other entry has
  pub base-prefix : (k n : KeyTable) (b p : ℕ) → ((x : ℕ → Option ℕ) → TableHasBase x k.prefixes → TableHasBase x n.prefixes)
      → AddsOnly b p k.prefixes.entries n.prefixes.entries → (HaveDistinctNumbers k.prefixes.entries → (q : ℕ) → has_entry k.prefixes.entries b q ≡ true → q ≡ p)
      → n.fingerprints ≡ k.fingerprints → HasBaseOf kind t k → HasBaseOf kind t n
  base-prefix k n b p kept adds free same h =
      let after = kept (base_at k.prefixes) h.prefixes in
      record {
        prefixes = base-own (base_at k.prefixes) n.prefixes after;
        fingerprints = subst (λ f. TableHasBase (base_at f) f) (sym same) h.fingerprints;
        numbers = numbers-equal kind t (base_at k.prefixes) (base_at k.fingerprints) (base_at n.prefixes) (base_at n.fingerprints)
            (λ q. sym (after.base q)) (λ q. ap (λ f. base_at f q) (sym same)) h.numbers;
        distinct = distinct-more k.prefixes.entries n.prefixes.entries b p adds (free h.distinct) h.distinct;
      }

  pub base-fingerprint : (k n : KeyTable) → ((x : ℕ → Option ℕ) → TableHasBase x k.fingerprints → TableHasBase x n.fingerprints)
      → n.prefixes ≡ k.prefixes → HasBaseOf kind t k → HasBaseOf kind t n
  base-fingerprint k n kept same h =
      let after = kept (base_at k.fingerprints) h.fingerprints in
      record {
        prefixes = subst (λ f. TableHasBase (base_at f) f) (sym same) h.prefixes;
        fingerprints = base-own (base_at k.fingerprints) n.fingerprints after;
        numbers = numbers-equal kind t (base_at k.prefixes) (base_at k.fingerprints) (base_at n.prefixes) (base_at n.fingerprints)
            (λ q. ap (λ f. base_at f q) (sym same)) (λ q. sym (after.base q)) h.numbers;
        distinct = subst (λ f. HaveDistinctNumbers f.entries) (sym same) h.distinct;
      }

  pub base-same : (k n : KeyTable) → n.prefixes ≡ k.prefixes → n.fingerprints ≡ k.fingerprints → HasBaseOf kind t k → HasBaseOf kind t n
  base-same k n same same' h = base-fingerprint k n (λ x b. subst (TableHasBase x) (sym same') b) same h

  -- one node index fewer is left
  pub covers-more : (k n : KeyTable) (p : ℕ) (rest : List ℕ) → ((key : List ℕ) → key_at_node kind t p ≡ Some key → has_number n key p ≡ true)
      → ((b q : ℕ) → is_entered k.prefixes b q ≡ true → is_entered n.prefixes b q ≡ true)
      → ((b q : ℕ) → is_entered k.fingerprints b q ≡ true → is_entered n.fingerprints b q ≡ true)
      → ContainsKeysBut (p ∷ rest) kind t k → ContainsKeysBut rest kind t n
  covers-more k n p rest here kept kept' h key q off there = elim (cases_eq q p) [
    | inl same ↦ subst (λ r. has_number n key r ≡ true) (sym same) (here key (ap (key_at_node kind t) (sym same) ∙ there))
    | inr other ↦ number-kept k n key q (λ b. kept b q) (λ b. kept' b q) (h key q (listed-other p q rest other ∙ off) there)
  ]

  -- the key of a node index is entered
  pub here-none : (n : KeyTable) (p : ℕ) → prefix_at kind t p ≡ None → (key : List ℕ) → key_at_node kind t p ≡ Some key → has_number n key p ≡ true
  here-none n p none key there = absurd (none-some (key_prefix key) (sym none ∙ ap (option_map key_prefix) there))

  pub here-none-fingerprint : (n : KeyTable) (p : ℕ) → fingerprint_at kind t p ≡ None → (key : List ℕ) → key_at_node kind t p ≡ Some key → has_number n key p ≡ true
  here-none-fingerprint n p none key there = absurd (none-some (fingerprint key) (sym none ∙ ap (option_map fingerprint) there))

  pub here-prefix : (n : KeyTable) (p b : ℕ) → prefix_at kind t p ≡ Some b → is_entered n.prefixes b p ≡ true
      → (key : List ℕ) → key_at_node kind t p ≡ Some key → has_number n key p ≡ true
  here-prefix n p b is has key there =
      number-prefix n key p (subst (λ c. is_entered n.prefixes c p ≡ true) (same_Some b (key_prefix key) (sym is ∙ ap (option_map key_prefix) there)) has)

  pub here-fingerprint : (n : KeyTable) (p b : ℕ) → fingerprint_at kind t p ≡ Some b → is_entered n.fingerprints b p ≡ true
      → (key : List ℕ) → key_at_node kind t p ≡ Some key → has_number n key p ≡ true
  here-fingerprint n p b is has key there =
      number-fingerprint n key p (subst (λ c. is_entered n.fingerprints c p ≡ true) (same_Some b (fingerprint key) (sym is ∙ ap (option_map fingerprint) there)) has)

  -- the keys at the places that changed were entered
  pub covers-all : (old : Tree) (node_indices : List ℕ) (k n : KeyTable) → TableContainsKeys kind old k → AgreeExceptAt node_indices old t
      → (ContainsKeysBut node_indices kind t k → ContainsKeysBut [] kind t n) → TableContainsKeys kind t n
  covers-all old node_indices k n had same put key p there =
      put (λ c q off e. had c q (same_key kind node_indices old t same q off ∙ e)) key p refl there

  -- ---- numbers of the entries that come

  pub adds-nothing : (k n : KeyTable) → n.prefixes ≡ k.prefixes → n.fingerprints ≡ k.fingerprints → AddsNumbers kind t k n
  adds-nothing k n same same' = record {
    prefixes = λ b p has. inl (ap (λ f. has_entry f.entries b p) (sym same) ∙ has);
    fingerprints = λ b p has. inl (ap (λ f. has_entry f.entries b p) (sym same') ∙ has);
  }

  pub adds-since : (k m n : KeyTable) → AddsNumbers kind t k m → AddsNumbers kind t m n → AddsNumbers kind t k n
  adds-since k m n g h = record {
    prefixes = λ b p has. elim (h.prefixes b p has) [ inl had ↦ g.prefixes b p had | inr new ↦ inr new ];
    fingerprints = λ b p has. elim (h.fingerprints b p has) [ inl had ↦ g.fingerprints b p had | inr new ↦ inr new ];
  }

  pub adds-prefix : (k n : KeyTable) (b p : ℕ) → prefix_at kind t p ≡ Some b → AddsOnly b p k.prefixes.entries n.prefixes.entries → n.fingerprints ≡ k.fingerprints
      → AddsNumbers kind t k n
  adds-prefix k n b p is adds same = record {
    prefixes = λ c q has. elim (adds c q has) [
      | inl had ↦ inl had
      | inr new ↦ inr (ap (prefix_at kind t) (sym new.1) ∙ is ∙ ap Some new.0)
    ];
    fingerprints = λ c q has. inl (ap (λ f. has_entry f.entries c q) (sym same) ∙ has);
  }

  pub adds-fingerprint : (k n : KeyTable) (b p : ℕ) → fingerprint_at kind t p ≡ Some b → AddsOnly b p k.fingerprints.entries n.fingerprints.entries
      → n.prefixes ≡ k.prefixes → AddsNumbers kind t k n
  adds-fingerprint k n b p is adds same = record {
    prefixes = λ c q has. inl (ap (λ f. has_entry f.entries c q) (sym same) ∙ has);
    fingerprints = λ c q has. elim (adds c q has) [
      | inl had ↦ inl had
      | inr new ↦ inr (ap (fingerprint_at kind t) (sym new.1) ∙ is ∙ ap Some new.0)
    ];
  }

-- ---- keys go

module _ (kind : KeyKind) (t : Tree) where
  pub settling-first : (old : Tree) (node_indices : List ℕ) (k : KeyTable) → HasBaseOf kind old k → TableContainsKeys kind t k
      → AgreeExceptAt node_indices old t → IsSettling kind t node_indices k
  settling-first old node_indices k h covers same = record {
    covers = covers;
    numbers = λ p off. subst (λ o. are_numbers_for o (base_at k.prefixes p) (base_at k.fingerprints p) ≡ true) (same_key kind node_indices old t same p off) (h.numbers p);
    prefixes = record { all = λ b p off is. h.prefixes.all b p is; only = only_cases (base_at k.prefixes) k.prefixes h.prefixes };
    fingerprints = record { all = λ b p off is. h.fingerprints.all b p is; only = only_cases (base_at k.fingerprints) k.fingerprints h.fingerprints };
    distinct = h.distinct;
  }

  -- the numbers of a node index are stored
  module _ (k n : KeyTable) (p : ℕ) (b f : Option ℕ) (entered : HasEntered b p k.prefixes) (entered' : HasEntered f p k.fingerprints)
      (s : HasSettled b p k.prefixes n.prefixes) (s' : HasSettled f p k.fingerprints n.fingerprints) (is : are_numbers_for (key_at_node kind t p) b f ≡ true) where
    settled-covers : TableContainsKeys kind t k → TableContainsKeys kind t n
    settled-covers h key q there = elim (cases_eq q p) [
      | inl same ↦
          (let here : key_at_node kind t p ≡ Some key = ap (key_at_node kind t) (sym same) ∙ there in
          subst (λ r. has_number n key r ≡ true) (sym same)
          (number-entered n key b f p (subst (λ o. are_numbers_for o b f ≡ true) here is) (entered-now k.prefixes n.prefixes p b entered s)
          (entered-now k.fingerprints n.fingerprints p f entered' s')))
      | inr other ↦
          number-kept k n key q (λ c. entered-other k.prefixes n.prefixes p b s c q other) (λ c. entered-other k.fingerprints n.fingerprints p f s' c q other) (h key q there)
    ]

    numbers-now : are_numbers_for (key_at_node kind t p) (base_at n.prefixes p) (base_at n.fingerprints p) ≡ true
    numbers-now =
        subst (λ o. are_numbers_for (key_at_node kind t p) o (base_at n.fingerprints p) ≡ true) (sym s.here)
        (subst (λ o. are_numbers_for (key_at_node kind t p) b o ≡ true) (sym s'.here) is)

    numbers-other : (q : ℕ) → q ≢ p → are_numbers_for (key_at_node kind t q) (base_at k.prefixes q) (base_at k.fingerprints q) ≡ true
        → are_numbers_for (key_at_node kind t q) (base_at n.prefixes q) (base_at n.fingerprints q) ≡ true
    numbers-other q other h =
        subst (λ o. are_numbers_for (key_at_node kind t q) o (base_at n.fingerprints q) ≡ true) (sym (s.others q other))
        (subst (λ o. are_numbers_for (key_at_node kind t q) (base_at k.prefixes q) o ≡ true) (sym (s'.others q other)) h)

    pub settling-more : (rest : List ℕ) → IsSettling kind t (p ∷ rest) k → IsSettling kind t rest n
    settling-more rest h = record {
      covers = settled-covers h.covers;
      numbers = λ q off. elim (cases_eq q p) [
        | inl same ↦ subst (λ r. are_numbers_for (key_at_node kind t r) (base_at n.prefixes r) (base_at n.fingerprints r) ≡ true) (sym same) numbers-now
        | inr other ↦ numbers-other q other (h.numbers q (listed-other p q rest other ∙ off))
      ];
      prefixes = settled-more rest k.prefixes n.prefixes p b entered s h.prefixes;
      fingerprints = settled-more rest k.fingerprints n.fingerprints p f entered' s' h.fingerprints;
      distinct = distinct-less k.prefixes.entries n.prefixes.entries s.left.only h.distinct;
    }

  pub settling-last : (k n : KeyTable) → IsTableOf (base_at k.prefixes) n.prefixes → IsTableOf (base_at k.fingerprints) n.fingerprints
      → ((b p : ℕ) → has_entry n.prefixes.entries b p ≡ true → has_entry k.prefixes.entries b p ≡ true) → IsSettling kind t [] k → IsTableOfTree kind t n
  settling-last k n h h' only s =
      table-of kind t (base_at k.prefixes) (base_at k.fingerprints) n (λ p. s.numbers p refl) h h' (distinct-less k.prefixes.entries n.prefixes.entries only s.distinct)

  pub table-reverted : (k n : KeyTable) → ((x : ℕ → Option ℕ) → TableHasBase x k.prefixes → IsTableOf x n.prefixes)
      → ((x : ℕ → Option ℕ) → TableHasBase x k.fingerprints → IsTableOf x n.fingerprints)
      → ((b p : ℕ) → has_entry n.prefixes.entries b p ≡ true → has_entry k.prefixes.entries b p ≡ true) → HasBaseOf kind t k → IsTableOfTree kind t n
  table-reverted k n back back' only h =
      table-of kind t (base_at k.prefixes) (base_at k.fingerprints) n h.numbers (back (base_at k.prefixes) h.prefixes) (back' (base_at k.fingerprints) h.fingerprints)
      (distinct-less k.prefixes.entries n.prefixes.entries only h.distinct)
