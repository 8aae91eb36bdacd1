-- The first leaf that fails a test, node index by node index.
use Rattle.std.proofs.Common.{◌≡◌, ◌∙◌, ℕ, ◌*◌, ◌<◌, ◌%◌, ◌||◌, List, [], ◌∷◌, Bool, true, false, Option, Some, None, eqb, inl, inr, refl, sym, ap, subst, arith}
use Rattle.std.specs.Prelude.{◌⊎◌, nat_lt}
use Rattle.std.proofs.lemmas.Bool.{cases_lt, false≢true}
use Rattle.std.proofs.lemmas.Bool.Decides.{nat_tests}
use Rattle.std.proofs.lemmas.Option.{none-some, same_Some}
use Rattle.mls_nodes.specs.declared.leaf.LeafNode.{LeafNode}
use Rattle.mls_tree.specs.Tree.{Tree, leaf_at}
use Rattle.mls_index.specs.FirstChanged.{FailsFirstAt, FindsFailingAt, smaller}
use Rattle.mls_index.specs.IncrementalCheck.{contains_node_index}
use Rattle.mls_index.proofs.Entries.{listed-here, listed-more}

-- ---- the smaller leaf index

pub smaller-none : (o : Option ℕ) → smaller o None ≡ o
smaller-none None = refl
smaller-none (Some i) = refl

pub smaller-assoc : (o p q : Option ℕ) → smaller (smaller o p) q ≡ smaller o (smaller p q)
smaller-assoc None p q = refl
smaller-assoc (Some i) None q = refl
smaller-assoc (Some i) (Some j) None = smaller-none (smaller (Some i) (Some j))
smaller-assoc (Some i) (Some j) (Some k) = grind (arith, nat_tests)

-- ---- one node index, and those after it

pub one_or_rest : (r p : ℕ) (rest : List ℕ) → contains_node_index (r ∷ rest) p ≡ true → (contains_node_index (r ∷ []) p ≡ true) ⊎ (contains_node_index rest p ≡ true)
one_or_rest r p rest e = go (eqb r p) refl e
  where
    go : (b : Bool) → eqb r p ≡ b → (b || contains_node_index rest p) ≡ true → (contains_node_index (r ∷ []) p ≡ true) ⊎ (contains_node_index rest p ≡ true)
    go true is h = inl (ap (λ (c : Bool). c || false) is)
    go false is h = inr h

pub listed-one : (r p : ℕ) (rest : List ℕ) → contains_node_index (r ∷ []) p ≡ true → contains_node_index (r ∷ rest) p ≡ true
listed-one r p rest e = go (eqb r p) refl e
  where
    go : (b : Bool) → eqb r p ≡ b → (b || false) ≡ true → contains_node_index (r ∷ rest) p ≡ true
    go true is h = ap (λ (c : Bool). c || contains_node_index rest p) is
    go false is h = absurd (false≢true h)

module _ (test : ℕ → LeafNode → Bool) (t : Tree) (r : ℕ) (rest : List ℕ) where
  abbrev Passes : List ℕ → ℕ → Type 0
  Passes node_indices i = (x : LeafNode) → contains_node_index node_indices (2 * i) ≡ true → leaf_at 0 t i ≡ Some x → test i x ≡ true

  both_pass : (i : ℕ) → Passes (r ∷ []) i → Passes rest i → Passes (r ∷ rest) i
  both_pass i one others x on set = elim (one_or_rest r (2 * i) rest on) [
    | inl here ↦ one x here set
    | inr there ↦ others x there set
  ]

  first_of_one : (i : ℕ) → FailsFirstAt test (r ∷ []) t i → ((j : ℕ) → j < i → Passes rest j) → FailsFirstAt test (r ∷ rest) t i
  first_of_one i f others = record {
    node = f.node;
    listed = listed-one r (2 * i) rest f.listed;
    set = f.set;
    fails = f.fails;
    smaller = λ j y low on set. both_pass j (λ x here set'. f.smaller j x low here set') (others j low) y on set;
  }

  first_of_rest : (i : ℕ) → FailsFirstAt test rest t i → ((j : ℕ) → j < i → Passes (r ∷ []) j) → FailsFirstAt test (r ∷ rest) t i
  first_of_rest i f one = record {
    node = f.node;
    listed = listed-more r (2 * i) rest f.listed;
    set = f.set;
    fails = f.fails;
    smaller = λ j y low on set. both_pass j (one j low) (λ x there set'. f.smaller j x low there set') y on set;
  }

  -- the smaller one of both
  pub smaller-first : (o p : Option ℕ) → FindsFailingAt test (r ∷ []) t o → FindsFailingAt test rest t p → FindsFailingAt test (r ∷ rest) t (smaller o p)
  smaller-first None None one others = λ i x on set. both_pass i (λ y. one i y) (λ y. others i y) x on set
  smaller-first (Some i) None one others = first_of_one i one (λ j low x. others j x)
  smaller-first None (Some j) one others = first_of_rest j others (λ k low x. one k x)
  smaller-first (Some i) (Some j) one others = elim (cases_lt j i) [
    | inl less ↦
        (let e : nat_lt j i ≡ true = grind (arith, nat_tests) in
        rw e (first_of_rest j others (λ k low x here set. one.smaller k x (omega (arith, low, less)) here set)))
    | inr past ↦
        (let e : nat_lt j i ≡ false = grind (arith, nat_tests) in
        rw e (first_of_one i one (λ k low x there set. others.smaller k x (omega (arith, low, past)) there set)))
  ]

-- no node index, no leaf
pub nothing-first : (test : ℕ → LeafNode → Bool) (t : Tree) → FindsFailingAt test [] t None
nothing-first test t i x on set = absurd (false≢true on)

-- ---- what stands at one node index

pub at_one : (p i : ℕ) → contains_node_index (p ∷ []) (2 * i) ≡ true → p ≡ 2 * i
at_one p i on = go (eqb p (2 * i)) refl on
  where
    go : (b : Bool) → eqb p (2 * i) ≡ b → (b || false) ≡ true → p ≡ 2 * i
    go true is h = grind (arith, nat_tests)
    go false is h = absurd (false≢true h)

module _ (test : ℕ → LeafNode → Bool) (t : Tree) (p : ℕ) where
  -- a parent
  pub parent-first : p % 2 ≡ 1 → FindsFailingAt test (p ∷ []) t None
  parent-first odd i x on set = let at = at_one p i on in absurd (omega (arith, odd, at))

  module _ (i : ℕ) (at : p ≡ 2 * i) where
    same_leaf : (j : ℕ) → contains_node_index (p ∷ []) (2 * j) ≡ true → i ≡ j
    same_leaf j on = let other = at_one p j on in omega (arith, at, other)

    -- a blank leaf
    pub blank-first : leaf_at 0 t i ≡ None → FindsFailingAt test (p ∷ []) t None
    blank-first blank j x on set = absurd (none-some x (sym blank ∙ ap (leaf_at 0 t) (same_leaf j on) ∙ set))

    module _ (y : LeafNode) (here : leaf_at 0 t i ≡ Some y) where
      pub passing-first : test i y ≡ true → FindsFailingAt test (p ∷ []) t None
      passing-first passes j x on set =
          let same = same_leaf j on in
          subst (λ z. test j z ≡ true) (same_Some y x (sym here ∙ ap (leaf_at 0 t) same ∙ set)) (subst (λ k. test k y ≡ true) same passes)

      pub failing-first : test i y ≡ false → FindsFailingAt test (p ∷ []) t (Some i)
      failing-first fails = record {
        node = y;
        listed = subst (λ q. contains_node_index (p ∷ []) q ≡ true) at (listed-here p []);
        set = here;
        fails = fails;
        smaller = λ j x low on set. let same = same_leaf j on in absurd (omega (arith, low, same));
      }
