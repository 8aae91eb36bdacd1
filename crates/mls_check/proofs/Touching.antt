-- A member is added at a blank leaf, seen from any subtree: where the leaf doesn't lie in it, nothing changes.
use Rattle.std.proofs.Common.{◌≡◌, ◌≢◌, ◌∙◌, ℕ, ◌+◌, ◌*◌, ◌-◌, ◌<◌, ◌≤◌, nat_lt, Bool, true, false, List, [], ◌∷◌, ◌++◌, Option, Some, None, refl, sym, ap, subst, inl, inr, arith}
use Rattle.std.specs.Prelude.{◌⊎◌, ◌==◌, option_map, option_and_then, if◌then◌else◌}
use Rattle.std.specs.List.{Contains}
use Rattle.std.proofs.lemmas.Bool.{cases_lt, cases_eq, false≢true}
use Rattle.std.proofs.lemmas.Option.{none-some}
use Rattle.std.proofs.lemmas.List.Elements.{Contains-append_cases, Contains-append_left, Contains-append_right}
use Rattle.mls_nodes.specs.declared.leaf.LeafNode.{LeafNode}
use Rattle.mls_nodes.specs.declared.parent.ParentNode.{ParentNode}
use Rattle.mls_tree.specs.Tree.{Tree, leaf, branch, leaf_count, leaf_entry, Subtree, subtree_at, root_node_index, root_entry}
use Rattle.mls_tree.specs.TreeHash.{tree_hash}
use Rattle.mls_tree.specs.Paths.{resolution, unmerged_node_indices}
use Rattle.mls_tree.specs.TreeOperations.{put_leaf, change_above, with_unmerged}
use Rattle.mls_tree.proofs.Choices.{below, from, same, other, is_less, not_less}
use Rattle.mls_tree.proofs.Kept.{either, leaf_count-change_above}
use Rattle.mls_tree.proofs.Trees.{along, leaf_count-positive, subtree_at-stands, subtree_at-root, subtree_at-in_left, subtree_at-in_right}
use Rattle.mls_hash.specs.ParentHash.{parent_hash_input}
use Rattle.mls_hash.specs.WithoutLeaves.{is_among, stripped_parent, strip}
use Rattle.mls_check.specs.ParentHashValid.{linked_hash, AreChildren, ParentHashLink, ParentHashStep, IsLeaf}
use Rattle.mls_check.proofs.Elements.{contains-nil, contains-cons, contains-head, contains-tail, unmerged-in, unmerged-from}
use Rattle.mls_check.proofs.Walks.{contained}
use Rattle.mls_check.proofs.Reaching.{coe_link}
use Rattle.mls_check.proofs.Entering.{entered_list, list-has_new, list-has_old, list-has, list-others, without-entered}
use Rattle.mls_check.proofs.Everywhere.{Everywhere, everywhere-at}

module _ (j : ℕ) (x : LeafNode) where
  -- whether leaf j is one of so many from the first
  abbrev pub is_under : ℕ → ℕ → Bool
  is_under first count = if nat_lt j first then false else nat_lt j (first + count)

  pub under : (first count : ℕ) → first ≤ j → j < first + count → is_under first count ≡ true
  under first count a b = from j first false (nat_lt j (first + count)) a ∙ is_less j (first + count) b

  pub outside : (first count : ℕ) → (j < first) ⊎ (first + count ≤ j) → is_under first count ≡ false
  outside first count (inl a) = below j first false (nat_lt j (first + count)) a
  outside first count (inr b) = from j first false (nat_lt j (first + count)) (omega arith) ∙ not_less j (first + count) b

  pub inside : (first count : ℕ) → is_under first count ≡ true → (first ≤ j) × (j < first + count)
  inside first count h =
      elim (cases_lt j first) [
        | inl a ↦ absurd (false≢true (sym (outside first count (inl a)) ∙ h))
        | inr b ↦ elim (cases_lt j (first + count)) [
          | inl c ↦ (b, c)
          | inr d ↦ absurd (false≢true (sym (outside first count (inr d)) ∙ h))
        ]
      ]

  -- a set parent that gets leaf j as unmerged, or doesn't
  abbrev pub touched_node : Bool → ParentNode → ParentNode
  touched_node b p = record p { unmerged = entered_list j b p.unmerged }

  abbrev pub touched_parent : Bool → Option ParentNode → Option ParentNode
  touched_parent b None = None
  touched_parent b (Some p) = Some (touched_node b p)

  -- a tree whose first leaf has the index `first`, after x was added at leaf j
  abbrev pub touch : ℕ → Tree → Tree
  touch first (leaf y) = leaf (if first == j then Some x else y)
  touch first (branch l n r) = branch (touch first l) (touched_parent (is_under first (leaf_count l + leaf_count r)) n) (touch (first + leaf_count l) r)

  abbrev pub touched : Subtree → Subtree
  touched s = record { first = s.first; tree = touch s.first s.tree }

  pub leaf_count-touch : (first : ℕ) (t : Tree) → leaf_count (touch first t) ≡ leaf_count t
  leaf_count-touch first (leaf y) = refl
  leaf_count-touch first (branch l n r) = λ i. leaf_count-touch first l i + leaf_count-touch (first + leaf_count l) r i

  pub IsLeaf-touch : (first : ℕ) (t : Tree) → IsLeaf t → IsLeaf (touch first t)
  IsLeaf-touch first (leaf y) h = tt
  IsLeaf-touch first (branch l n r) h = absurd h

  untouched : (n : Option ParentNode) → touched_parent false n ≡ n
  untouched None = refl
  untouched (Some p) = refl

  touch-outside : (first : ℕ) (t : Tree) → (j < first) ⊎ (first + leaf_count t ≤ j) → touch first t ≡ t
  touch-outside first (leaf y) h = ap leaf (other first j (Some x) y (λ e. elim h [ inl a ↦ omega (arith, a, e) | inr b ↦ omega (arith, b, e) ]))
  touch-outside first (branch l n r) h =
      let a = touch-outside first l (elim h [ inl a ↦ inl a | inr b ↦ inr (omega (arith, b)) ]) in
      let b = touch-outside (first + leaf_count l) r (elim h [ inl a ↦ inl (omega (arith, a)) | inr b ↦ inr (omega (arith, b)) ]) in
      let e = ap (λ c. touched_parent c n) (outside first (leaf_count l + leaf_count r) h) ∙ untouched n in
      λ i. branch (a i) (e i) (b i)

  added_node : (n : Option ParentNode) → with_unmerged j n ≡ touched_parent true n
  added_node None = refl
  added_node (Some p) = refl

  -- which is what an addition does
  pub touch-add : (first : ℕ) (t : Tree) → first ≤ j → j < first + leaf_count t
      → put_leaf first (change_above (with_unmerged j) first t j) j (Some x) ≡ touch first t
  touch-add first (leaf y) a b = sym (ap leaf (same first j (Some x) y (omega arith)))
  touch-add first (branch l n r) a b =
      let left = change_above (with_unmerged j) first l j in
      let right = change_above (with_unmerged j) (first + leaf_count l) r j in
      let m = with_unmerged j n in
      let count = leaf_count-change_above (with_unmerged j) first l j in
      let node = added_node n ∙ sym (ap (λ c. touched_parent c n) (under first (leaf_count l + leaf_count r) a b)) in
      elim (cases_lt j (first + leaf_count l)) [
        | inl lt ↦
            (let ih = touch-add first l a lt in
            let away = sym (touch-outside (first + leaf_count l) r (inl lt)) in
            ap (λ t. put_leaf first t j (Some x)) (below j (first + leaf_count l) (branch left m r) (branch l m right) lt)
            ∙ below j (first + leaf_count left) (branch (put_leaf first left j (Some x)) m r) (branch left m (put_leaf (first + leaf_count left) r j (Some x))) (omega (arith, count, lt))
            ∙ (λ i. branch (ih i) (node i) (away i)))
        | inr ge ↦
            (let ih = touch-add (first + leaf_count l) r ge (omega (arith, b)) in
            let away = sym (touch-outside first l (inr ge)) in
            ap (λ t. put_leaf first t j (Some x)) (from j (first + leaf_count l) (branch left m r) (branch l m right) ge)
            ∙ from j (first + leaf_count l) (branch (put_leaf first l j (Some x)) m right) (branch l m (put_leaf (first + leaf_count l) right j (Some x))) ge
            ∙ (λ i. branch (away i) (node i) (ih i)))
      ]

  -- leaf j is blank, and in no list
  abbrev pub IsFreeAt : ℕ → Tree → Type 0
  IsFreeAt first (leaf y) = first ≡ j → y ≡ None
  IsFreeAt first (branch l n r) = (p : ParentNode) → n ≡ Some p → ¬ Contains p.unmerged j

  abbrev pub IsFree : ℕ → Tree → Type 0
  IsFree = Everywhere IsFreeAt

  -- ---- the stripped tree

  module _ (L M : List ℕ) (others : (i : ℕ) → i ≢ j → is_among M i ≡ is_among L i) where
    stripped-blank : (b : Bool) (y : Option LeafNode) → y ≡ None → (if b then None else y) ≡ None
    stripped-blank true y e = refl
    stripped-blank false y e = e

    stripped-node : (b : Bool) (n : Option ParentNode) → ((p : ParentNode) → n ≡ Some p → ¬ Contains p.unmerged j) → (b ≡ true → is_among M j ≡ true)
        → option_map (stripped_parent M) (touched_parent b n) ≡ option_map (stripped_parent L) n
    stripped-node b None free h = refl
    stripped-node b (Some p) free h = λ i. Some (record p { unmerged = without-entered j L M others b p.unmerged (free p refl) h i })

    -- a tree without leaf j is the same after it was added
    pub strip-touch : (first : ℕ) (t : Tree) → IsFree first t → (first ≤ j → j < first + leaf_count t → is_among M j ≡ true)
        → strip M first (touch first t) ≡ strip L first t
    strip-touch first (leaf y) free has =
        elim (cases_eq first j) [
          | inl e ↦
              (let taken : is_among M first ≡ true = ap (λ k. is_among M k) e ∙ has (omega (arith, e)) (omega (arith, e)) in
              ap (λ b. leaf (if b then None else (if first == j then Some x else y))) taken
              ∙ sym (ap leaf (stripped-blank (is_among L first) y (free e))))
          | inr n ↦
              (let a = others first n in let b = other first j (Some x) y n in
              λ i. leaf (if a i then None else b i))
        ]
    strip-touch first (branch l n r) free has =
        let a = strip-touch first l free.1 (λ lo hi. has lo (omega (arith, hi))) in
        let b = ap (λ k. strip M (first + k) (touch (first + leaf_count l) r)) (leaf_count-touch first l)
        ∙ strip-touch (first + leaf_count l) r free.2 (λ lo hi. has (omega (arith, lo)) (omega (arith, hi))) in
        let under = is_under first (leaf_count l + leaf_count r) in
        let e = stripped-node under n free.0 (λ h. (let k = inside first (leaf_count l + leaf_count r) h in has k.0 k.1)) in
        λ i. branch (a i) (e i) (b i)

  -- ---- resolutions

  module _ (n : ℕ) where
    touched-blank : (first : ℕ) (l r : Tree) → resolution n first (touch first (branch l None r)) ≡ resolution n first (touch first l) ++ resolution n (first + leaf_count l) (touch (first + leaf_count l) r)
    touched-blank first l r = ap (λ k. resolution n first (touch first l) ++ resolution n (first + k) (touch (first + leaf_count l) r)) (leaf_count-touch first l)

    touched-set : (first : ℕ) (l : Tree) (p : ParentNode) (r : Tree)
        → resolution n first (touch first (branch l (Some p) r)) ≡ (2 * (first + leaf_count l) - 1) ∷ unmerged_node_indices n (entered_list j (is_under first (leaf_count l + leaf_count r)) p.unmerged)
    touched-set first l p r = ap (λ k. (2 * (first + k) - 1) ∷ unmerged_node_indices n (entered_list j (is_under first (leaf_count l + leaf_count r)) p.unmerged)) (leaf_count-touch first l)

    -- what was in a resolution stays
    pub resolution-has_old : (first : ℕ) (t : Tree) (u : ℕ) → Contains (resolution n first t) u → Contains (resolution n first (touch first t)) u
    resolution-has_old first (leaf None) u c = absurd (contains-nil u c)
    resolution-has_old first (leaf (Some y)) u c =
        either (λ (z : Option LeafNode). Contains (resolution n first (leaf z)) u) (first == j) (Some x) (Some y) c c
    resolution-has_old first (branch l None r) u c =
        subst (λ xs. Contains xs u) (sym (touched-blank first l r))
        (elim (Contains-append_cases (resolution n first l) (resolution n (first + leaf_count l) r) u c) [
          | inl a ↦ Contains-append_left (resolution n first (touch first l)) _ u (resolution-has_old first l u a)
          | inr b ↦ Contains-append_right (resolution n first (touch first l)) _ u (resolution-has_old (first + leaf_count l) r u b)
        ])
    resolution-has_old first (branch l (Some p) r) u c =
        let node_index = 2 * (first + leaf_count l) - 1 in
        let list = entered_list j (is_under first (leaf_count l + leaf_count r)) p.unmerged in
        subst (λ xs. Contains xs u) (sym (touched-set first l p r))
        (elim (contains-cons node_index (unmerged_node_indices n p.unmerged) u c) [
          | inl e ↦ subst (λ k. Contains (node_index ∷ unmerged_node_indices n list) k) e (contains-head node_index (unmerged_node_indices n list))
          | inr d ↦
              (let w = unmerged-from n p.unmerged u d in
              contains-tail node_index (unmerged_node_indices n list) u
              (subst (λ k. Contains (unmerged_node_indices n list) k) (sym w.3)
              (unmerged-in n list w.0 (list-has_old j (is_under first (leaf_count l + leaf_count r)) p.unmerged w.0 w.1) w.2)))
        ])

    -- leaf j comes in
    pub resolution-has_new : (first : ℕ) (t : Tree) → first ≤ j → j < first + leaf_count t → j < n → Contains (resolution n first (touch first t)) (2 * j)
    resolution-has_new first (leaf y) a b low =
        subst (λ (z : Option LeafNode). Contains (resolution n first (leaf z)) (2 * j)) (sym (same first j (Some x) y (omega (arith, a, b))))
        (let e : first ≡ j = omega (arith, a, b) in subst (λ k. Contains ((2 * first) ∷ []) (2 * k)) e (contains-head (2 * first) []))
    resolution-has_new first (branch l None r) a b low =
        subst (λ xs. Contains xs (2 * j)) (sym (touched-blank first l r))
        (elim (cases_lt j (first + leaf_count l)) [
          | inl lt ↦ Contains-append_left (resolution n first (touch first l)) _ (2 * j) (resolution-has_new first l a lt low)
          | inr ge ↦ Contains-append_right (resolution n first (touch first l)) _ (2 * j) (resolution-has_new (first + leaf_count l) r ge (omega (arith, b)) low)
        ])
    resolution-has_new first (branch l (Some p) r) a b low =
        let node_index = 2 * (first + leaf_count l) - 1 in
        subst (λ xs. Contains xs (2 * j)) (sym (touched-set first l p r))
        (subst (λ c. Contains (node_index ∷ unmerged_node_indices n (entered_list j c p.unmerged)) (2 * j)) (sym (under first (leaf_count l + leaf_count r) a b))
        (contains-tail node_index (unmerged_node_indices n (entered_list j true p.unmerged)) (2 * j)
        (unmerged-in n (entered_list j true p.unmerged) j (list-has_new j p.unmerged) low)))

    -- place u is that of leaf j, which lies in the subtree
    abbrev pub IsNew : ℕ → Tree → ℕ → Type 0
    IsNew first t u = (u ≡ 2 * j) × (first ≤ j) × (j < first + leaf_count t)

    -- and nothing else
    pub resolution-has : (first : ℕ) (t : Tree) (u : ℕ) → Contains (resolution n first (touch first t)) u → IsNew first t u ⊎ Contains (resolution n first t) u
    resolution-has first (leaf y) u c =
        elim (cases_eq first j) [
          | inl e ↦
              elim (contains-cons (2 * first) [] u (subst (λ (z : Option LeafNode). Contains (resolution n first (leaf z)) u) (same first j (Some x) y e) c)) [
                | inl f ↦ inl (omega (arith, e, f), omega (arith, e), omega (arith, e))
                | inr d ↦ absurd (contains-nil u d)
              ]
          | inr d ↦ inr (subst (λ (z : Option LeafNode). Contains (resolution n first (leaf z)) u) (other first j (Some x) y d) c)
        ]
    resolution-has first (branch l None r) u c =
        elim (Contains-append_cases (resolution n first (touch first l)) (resolution n (first + leaf_count l) (touch (first + leaf_count l) r)) u (subst (λ xs. Contains xs u) (touched-blank first l r) c)) [
          | inl a ↦ elim (resolution-has first l u a) [
            | inl w ↦ inl (w.0, w.1, omega (arith, w.2))
            | inr d ↦ inr (Contains-append_left (resolution n first l) (resolution n (first + leaf_count l) r) u d)
          ]
          | inr b ↦ elim (resolution-has (first + leaf_count l) r u b) [
            | inl w ↦ inl (w.0, omega (arith, w.1), omega (arith, w.2))
            | inr d ↦ inr (Contains-append_right (resolution n first l) (resolution n (first + leaf_count l) r) u d)
          ]
        ]
    resolution-has first (branch l (Some p) r) u c =
        let node_index = 2 * (first + leaf_count l) - 1 in
        let b = is_under first (leaf_count l + leaf_count r) in
        let list = entered_list j b p.unmerged in
        elim (contains-cons node_index (unmerged_node_indices n list) u (subst (λ xs. Contains xs u) (touched-set first l p r) c)) [
          | inl e ↦ inr (subst (λ k. Contains (node_index ∷ unmerged_node_indices n p.unmerged) k) e (contains-head node_index (unmerged_node_indices n p.unmerged)))
          | inr d ↦
              (let w = unmerged-from n list u d in
              elim (list-has j b p.unmerged w.0 w.1) [
                | inl f ↦ (let k = inside first (leaf_count l + leaf_count r) f.1 in inl (omega (arith, f.0, w.3), k.0, k.1))
                | inr g ↦
                    inr (contains-tail node_index (unmerged_node_indices n p.unmerged) u
                    (subst (λ k. Contains (unmerged_node_indices n p.unmerged) k) (sym w.3) (unmerged-in n p.unmerged w.0 g w.2)))
              ])
        ]

  -- ---- nodes

  pub linked-touch : (first : ℕ) (t : Tree) (h : List ℕ) → IsFree first t → linked_hash (root_entry t) ≡ Some h → linked_hash (root_entry (touch first t)) ≡ Some h
  linked-touch first (leaf None) h free e = absurd (none-some h e)
  linked-touch first (leaf (Some y)) h free e =
      elim (cases_eq first j) [
        | inl s ↦ absurd (none-some y (sym (free s)))
        | inr n ↦ ap (λ z. linked_hash (leaf_entry z)) (other first j (Some x) (Some y) n) ∙ e
      ]
  linked-touch first (branch l None r) h free e = e
  linked-touch first (branch l (Some p) r) h free e = e

  -- a set node doesn't stand at leaf j
  pub elsewhere : (first : ℕ) (t : Tree) (h : List ℕ) → IsFree first t → linked_hash (root_entry t) ≡ Some h → root_node_index first t ≡ 2 * j → ⊥
  elsewhere first (leaf None) h free e at = none-some h e
  elsewhere first (leaf (Some y)) h free e at = none-some y (sym (free (omega (arith, at))))
  elsewhere first (branch l n r) h free e at = omega (arith, at, leaf_count-positive l)

  root_node_index-touch : (first : ℕ) (t : Tree) → root_node_index first (touch first t) ≡ root_node_index first t
  root_node_index-touch first (leaf y) = refl
  root_node_index-touch first (branch l n r) = ap (λ k. 2 * (first + k) - 1) (leaf_count-touch first l)

  pub subtree_at-touch : (first : ℕ) (t : Tree) (p : ℕ) (s : Subtree) → subtree_at first t p ≡ Some s → subtree_at first (touch first t) p ≡ Some (touched s)
  subtree_at-touch =
      along (λ first t p s. subtree_at first (touch first t) p ≡ Some (touched s))
      (λ first t p e. ap (λ q. subtree_at first (touch first t) q) (e ∙ sym (root_node_index-touch first t)) ∙ subtree_at-root first (touch first t))
      (λ first l n r p s lt sub ih.
      subtree_at-in_left first (touch first l) (touched_parent (is_under first (leaf_count l + leaf_count r)) n) (touch (first + leaf_count l) r) p (omega (arith, lt, leaf_count-touch first l))
      ∙ ih)
      (λ first l n r p s gt sub ih.
      subtree_at-in_right first (touch first l) (touched_parent (is_under first (leaf_count l + leaf_count r)) n) (touch (first + leaf_count l) r) p (omega (arith, gt, leaf_count-touch first l))
      ∙ ap (λ k. subtree_at (first + k) (touch (first + leaf_count l) r) p) (leaf_count-touch first l)
      ∙ ih)

  -- ---- links

  module _ (H : List ℕ → List ℕ) (n : ℕ) where
    -- leaf j comes new into a subtree of the whole tree
    pub record IsFresh (s : Subtree) : Type 0 where
      pub free : IsFree s.first s.tree
      pub low : s.first + leaf_count s.tree ≤ n

    pub touch-link : (b : Bool) (p : ParentNode) (child other d : Subtree) → IsFresh child → IsFresh other
        → (child.first ≤ j → j < child.first + leaf_count child.tree → b ≡ true)
        → (other.first ≤ j → j < other.first + leaf_count other.tree → b ≡ true)
        → ParentHashLink H n p child other d → ParentHashLink H n (touched_node b p) (touched child) (touched other) (touched d)
    touch-link b p child other d fresh away in_child in_other k =
        let list = entered_list j b p.unmerged in
        let count = leaf_count-touch child.first child.tree in
        let free : IsFree d.first d.tree = everywhere-at IsFreeAt child.first child.tree k.node_index d k.descendant_is fresh.free in
        let at = subtree_at-stands child.first child.tree k.node_index d k.descendant_is in
        let hashed = strip-touch p.unmerged list (λ i e. list-others j b p.unmerged i e) other.first other.tree away.free
        (λ lo hi. (let e = in_other lo hi in subst (λ c. is_among (entered_list j c p.unmerged) j ≡ true) (sym e) (contained (entered_list j true p.unmerged) j (list-has_new j p.unmerged)))) in
        record {
          node_index = k.node_index;
          descendant_is = subtree_at-touch child.first child.tree k.node_index d k.descendant_is;
          hash = k.hash;
          linked = linked-touch d.first d.tree k.hash free k.linked;
          expected =
              ap (λ u. option_and_then (λ original. option_map H (parent_hash_input p original)) (tree_hash H other.first u)) hashed
              ∙ k.expected;
          resolved = resolution-has_old n child.first child.tree k.node_index k.resolved;
          unmerged = λ u. (
            λ c. elim (resolution-has n child.first child.tree u c.0) [
              | inl w ↦ (
                j,
                subst (λ a. Contains (entered_list j a p.unmerged) j) (sym (in_child w.1 w.2)) (list-has_new j p.unmerged),
                w.1,
                omega (arith, w.2, count),
                w.0,
              )
              | inr o ↦ (let w = (k.unmerged u).0 (o, c.1) in (w.0, list-has_old j b p.unmerged w.0 w.1, w.2, omega (arith, w.3, count), w.4))
            ],
            λ w. elim (list-has j b p.unmerged w.0 w.1) [
              | inl f ↦
                  (let e : u ≡ 2 * j = omega (arith, f.0, w.4) in
                  let lo : child.first ≤ j = omega (arith, f.0, w.2) in
                  let hi : j < child.first + leaf_count child.tree = omega (arith, f.0, w.3, count) in (
                    subst (λ v. Contains (resolution n child.first (touch child.first child.tree)) v) (sym e)
                        (resolution-has_new n child.first child.tree lo hi (omega (arith, hi, fresh.low))),
                    λ s. elsewhere d.first d.tree k.hash free k.linked (sym at.node_index ∙ sym s ∙ e),
                  ))
              | inr o ↦
                  (let c = (k.unmerged u).1 (w.0, o, w.2, omega (arith, w.3, count), w.4) in
                  (resolution-has_old n child.first child.tree u c.0, c.1))
            ],
          );
        }

    step-in : (d : Subtree) (first : ℕ) (t : Tree) (q : ParentNode) (child other : Subtree) → AreChildren first t q child other → IsFresh (record { first = first; tree = t })
        → ParentHashLink H n q child other d → ParentHashStep H n (touched d) (touched (record { first = first; tree = t })) × IsFresh d
    step-in d first (leaf y) q child other h fresh k = absurd h
    step-in d first (branch l None r) q child other h fresh k = absurd h
    step-in d first (branch l (Some p) r) q child other (a, inl b) fresh k =
        let left : Subtree = record { first = first; tree = l } in
        let right : Subtree = record { first = first + leaf_count l; tree = r } in
        let fresh_left : IsFresh left = record { free = fresh.free.1; low = omega (arith, fresh.low) } in
        let fresh_right : IsFresh right = record { free = fresh.free.2; low = omega (arith, fresh.low) } in
        let link = coe_link d q child other left right (sym a) b.0 b.1 k in
        let c = is_under first (leaf_count l + leaf_count r) in
        let at = subtree_at-stands first l link.node_index d link.descendant_is in (
          record {
            parent = touched_node c p;
            child = touched left;
            other = touched right;
            children = (refl, inl (refl, ap (λ (m : ℕ). record { first = first + m; tree = touch (first + leaf_count l) r }) (sym (leaf_count-touch first l))));
            link = touch-link c p left right d fresh_left fresh_right
                (λ lo hi. under first (leaf_count l + leaf_count r) lo (omega (arith, hi)))
                (λ lo hi. under first (leaf_count l + leaf_count r) (omega (arith, lo)) (omega (arith, hi))) link;
          },
          record { free = everywhere-at IsFreeAt first l link.node_index d link.descendant_is fresh.free.1; low = omega (arith, at.to_right, fresh.low) },
        )
    step-in d first (branch l (Some p) r) q child other (a, inr b) fresh k =
        let left : Subtree = record { first = first; tree = l } in
        let right : Subtree = record { first = first + leaf_count l; tree = r } in
        let fresh_left : IsFresh left = record { free = fresh.free.1; low = omega (arith, fresh.low) } in
        let fresh_right : IsFresh right = record { free = fresh.free.2; low = omega (arith, fresh.low) } in
        let link = coe_link d q child other right left (sym a) b.0 b.1 k in
        let c = is_under first (leaf_count l + leaf_count r) in
        let at = subtree_at-stands (first + leaf_count l) r link.node_index d link.descendant_is in (
          record {
            parent = touched_node c p;
            child = touched right;
            other = touched left;
            children = (refl, inr (ap (λ (m : ℕ). record { first = first + m; tree = touch (first + leaf_count l) r }) (sym (leaf_count-touch first l)), refl));
            link = touch-link c p right left d fresh_right fresh_left
                (λ lo hi. under first (leaf_count l + leaf_count r) (omega (arith, lo)) (omega (arith, hi)))
                (λ lo hi. under first (leaf_count l + leaf_count r) lo (omega (arith, hi))) link;
          },
          record { free = everywhere-at IsFreeAt (first + leaf_count l) r link.node_index d link.descendant_is fresh.free.2; low = omega (arith, at.to_right, fresh.low) },
        )

    -- an addition keeps each step
    pub touch-step : (d s : Subtree) → IsFresh s → ParentHashStep H n d s → ParentHashStep H n (touched d) (touched s) × IsFresh d
    touch-step d s fresh step = step-in d s.first s.tree step.parent step.child step.other step.children fresh step.link
