-- Keys that are looked for among the entries of their numbers.
use Rattle.std.proofs.Common.{◌≡◌, ◌∙◌, ◌↔◌, ◌⊎◌, ℕ, ◌+◌, ◌*◌, ◌-◌, ◌≤◌, List, [], ◌∷◌, Bool, true, false, not, Option, Some, None, inl, inr, sym, ap, subst, arith, BTreeSet}
use Rattle.std.specs.Prelude.{IsTrue, is_some, nat_lt}
use Rattle.std.proofs.lemmas.Bool.{cases_lt, false≢true}
use Rattle.std.proofs.lemmas.Bool.Decides.{nat_tests}
use Rattle.std.proofs.lemmas.Option.{none-some, same_Some}
use Rattle.mls_tree.specs.Tree.{Tree, leaf_count}
use Rattle.mls_tree.proofs.Trees.{leaf_count-positive}
use Rattle.mls_nodes.specs.Fingerprints.{fingerprint}
use Rattle.mls_nodes.specs.KeyPrefix.{key_prefix}
use Rattle.mls_index.specs.FirstChanged.{smaller}
use Rattle.mls_index.specs.FirstIndex.{FindsFirst}
use Rattle.mls_index.specs.NodeKeys.{key_at_node, HasKey, IsUniqueKey}
use Rattle.mls_index.specs.EntryTable.{has_entry, contains_entry}
use Rattle.mls_index.specs.KeyTable.{TableContainsKeys}
use Rattle.mls_index.specs.RepeatedKeys.{ShareKey}
use Rattle.mls_index.specs.RepeatedKeysInternal.{FindsAmong, FindsOther, HasKeyBut}
use Rattle.mls_index.specs.declared.node_key.KeyKind.{KeyKind}
use Rattle.mls_index.specs.declared.key_table.KeyTable.{KeyTable}
use Rattle.mls_index.proofs.Entries.{IsSought, AreIncreasing, sought-all, lists-first}
use Rattle.mls_index.proofs.Fitting.{never, always}
use Rattle.mls_index.proofs.Tables.{key-low, entered-entry}
use Rattle.mls_index.proofs.KeyTables.{number_cases}

-- ---- the entries of one number

abbrev pub IsEntered : BTreeSet (ℕ × ℕ) → ℕ → ℕ → Type 0
IsEntered s b p = has_entry s b p ≡ true

module _ (kind : KeyKind) (t : Tree) (key : List ℕ) (but : Option ℕ) (s : BTreeSet (ℕ × ℕ)) (b : ℕ) (few : leaf_count t ≤ 1048576) where
  abbrev IsOther : ℕ → Type 0
  IsOther p = ¬ HasKeyBut kind t key but p

  low_key : (p : ℕ) → HasKeyBut kind t key but p → p ≤ 4294967295
  low_key p h =
      let count : 2 * leaf_count t - 1 + 1 ≡ 2 * leaf_count t = omega (arith, leaf_count-positive t) in
      let low = key-low kind t (2 * leaf_count t - 1) p key count h.there in
      omega (arith, low, few)

  -- no entry that was met has the key
  pub none_among : (rest : List (ℕ × ℕ)) → rest ≡ [] → IsSought IsOther s b rest → FindsAmong (IsEntered s b) (HasKeyBut kind t key but) None
  none_among rest none sought p entered h = sought-all IsOther s b rest none sought p (low_key p h) entered h

  -- the first one that has it
  pub first_among : (e : ℕ × ℕ) (rest tail : List (ℕ × ℕ)) → rest ≡ e ∷ tail → IsSought IsOther s b rest → AreIncreasing b rest
      → HasKeyBut kind t key but e.1 → FindsAmong (IsEntered s b) (HasKeyBut kind t key but) (Some e.1)
  first_among e rest tail cut sought increasing here = record {
    holds = here;
    smaller = λ p low entered h. elim (sought.at p (low_key p h) entered) [
      | inl met ↦ met h
      | inr left ↦ elim (lists-first e tail b p (ap (λ es. contains_entry es b p) (sym cut) ∙ left)) [
        | inl same ↦ absurd (omega (arith, same, low))
        | inr more ↦ (let above = (subst (AreIncreasing b) cut increasing).0 p more in absurd (omega (arith, above, low)))
      ]
    ];
  }

-- ---- the entries of both numbers

module _ (P E F : ℕ → Type 0) (both : (i : ℕ) → P i → E i ⊎ F i) where
  neither : (i : ℕ) → (E i → ¬ P i) → (F i → ¬ P i) → ¬ P i
  neither i not not' p = elim (both i p) [
    | inl e ↦ not e p
    | inr f ↦ not' f p
  ]

  smaller_among : (o p : Option ℕ) → FindsAmong E P o → FindsAmong F P p → FindsFirst P (smaller o p)
  smaller_among None None f g = λ i. neither i (f i) (g i)
  smaller_among (Some i) None f g = record { holds = f.holds; smaller = λ j low. neither j (f.smaller j low) (g j) }
  smaller_among None (Some j) f g = record { holds = g.holds; smaller = λ k low. neither k (f k) (g.smaller k low) }
  smaller_among (Some i) (Some j) f g = elim (cases_lt j i) [
    | inl less ↦
        (let e : nat_lt j i ≡ true = grind (arith, nat_tests) in
        rw e (record { holds = g.holds; smaller = λ k low. neither k (f.smaller k (omega (arith, low, less))) (g.smaller k low) }))
    | inr past ↦
        (let e : nat_lt j i ≡ false = grind (arith, nat_tests) in
        rw e (record { holds = f.holds; smaller = λ k low. neither k (f.smaller k low) (g.smaller k (omega (arith, low, past))) }))
  ]

-- each number with the property is among them
all_among : (P E : ℕ → Type 0) → ((i : ℕ) → P i → E i) → (o : Option ℕ) → FindsAmong E P o → FindsFirst P o
all_among P E all None f = λ i p. f i (all i p) p
all_among P E all (Some i) f = record { holds = f.holds; smaller = λ j low p. f.smaller j low (all j p) p }

module _ (kind : KeyKind) (t : Tree) (k : KeyTable) (key : List ℕ) (but : Option ℕ) (covers : TableContainsKeys kind t k) where
  in_one : (q : ℕ) → HasKeyBut kind t key but q → IsEntered k.prefixes.entries (key_prefix key) q ⊎ IsEntered k.fingerprints.entries (fingerprint key) q
  in_one q h = elim (number_cases k key q (covers key q h.there)) [
    | inl prefix ↦ inl (entered-entry k.prefixes (key_prefix key) q prefix)
    | inr other ↦ inr (entered-entry k.fingerprints (fingerprint key) q other)
  ]

  pub first_of_both : (o p : Option ℕ) → FindsAmong (IsEntered k.prefixes.entries (key_prefix key)) (HasKeyBut kind t key but) o
      → FindsAmong (IsEntered k.fingerprints.entries (fingerprint key)) (HasKeyBut kind t key but) p
      → FindsFirst (HasKeyBut kind t key but) (smaller o p)
  first_of_both o p f g =
      smaller_among (HasKeyBut kind t key but) (IsEntered k.prefixes.entries (key_prefix key)) (IsEntered k.fingerprints.entries (fingerprint key)) in_one o p f g

  -- no entry has a fingerprint
  pub first_of_prefixes : (o : Option ℕ) → ((b p : ℕ) → has_entry k.fingerprints.entries b p ≡ false)
      → FindsAmong (IsEntered k.prefixes.entries (key_prefix key)) (HasKeyBut kind t key but) o → FindsFirst (HasKeyBut kind t key but) o
  first_of_prefixes o none f =
      all_among (HasKeyBut kind t key but) (IsEntered k.prefixes.entries (key_prefix key)) (λ q h. elim (in_one q h) [
        | inl prefix ↦ prefix
        | inr other ↦ absurd (false≢true (sym (none (fingerprint key) q) ∙ other))
      ]) o f

-- ---- answers

-- whether there is a node with the key
pub some_key : (kind : KeyKind) (t : Tree) (key : List ℕ) (o : Option ℕ) (found : Bool) → found ≡ is_some o → FindsFirst (HasKeyBut kind t key None) o
    → IsTrue found ↔ HasKey kind t key
some_key kind t key None true e f = absurd (false≢true (sym e))
some_key kind t key None false e f = never (λ h. f h.0 (record { other = none-some h.0; there = h.1 }))
some_key kind t key (Some p) true e f = always (p, f.holds.there)
some_key kind t key (Some p) false e f = absurd (false≢true e)

-- the first other node with the key of a node
module _ (kind : KeyKind) (t : Tree) (p : ℕ) (key : List ℕ) (is : Some key ≡ key_at_node kind t p) where
  with_key : (q : ℕ) → ShareKey kind t p q → HasKeyBut kind t key (Some p) q
  with_key q s = record { other = λ e. s.other (sym (same_Some p q e)); there = s.there ∙ (sym s.here ∙ sym is) }

  pub first_shared : (o : Option ℕ) → FindsFirst (HasKeyBut kind t key (Some p)) o → FindsOther kind t p o
  first_shared None f = λ q s. f q (with_key q s)
  first_shared (Some q) f = record {
    holds = record { key = key; other = λ e. f.holds.other (ap Some (sym e)); here = sym is; there = f.holds.there };
    smaller = λ j low s. f.smaller j low (with_key j s);
  }

-- whether there is another node with the key
pub own-other : (kind : KeyKind) (t : Tree) (p : ℕ) (o : Option ℕ) (own : Bool) → is_some o ≡ not own → FindsOther kind t p o → IsTrue own ↔ IsUniqueKey kind t p
own-other kind t p None true e none = always (λ q key other here there. none q (record { key = key; other = other; here = here; there = there }))
own-other kind t p None false e none = absurd (false≢true e)
own-other kind t p (Some q) true e f = absurd (false≢true (sym e))
own-other kind t p (Some q) false e f = never (λ own. own q f.holds.key f.holds.other f.holds.here f.holds.there)
