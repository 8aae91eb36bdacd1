-- A merged path reaches each of its parents, and leaves the other subtrees alone.
use Rattle.std.proofs.Common.{◌≡◌, ◌∙◌, ℕ, ◌+◌, ◌*◌, ◌-◌, nat_lt, Bool, true, false, List, [], ◌∷◌, ◌++◌, Option, Some, None, refl, sym, ap, subst, inl, inr, arith}
use Rattle.std.specs.Prelude.{◌⊎◌, if◌then◌else◌, option_map, option_and_then, reverse}
use Rattle.std.specs.List.{Contains}
use Rattle.std.proofs.lemmas.Bool.{false≢true}
use Rattle.std.proofs.lemmas.Option.{none-some, same_Some}
use Rattle.std.proofs.lemmas.List.Elements.{Contains-append_cases}
use Rattle.std.proofs.lemmas.Slice.Eq.{bytes_eq-Decides}
use Rattle.mls_nodes.specs.declared.leaf.LeafNode.{LeafNode}
use Rattle.mls_nodes.specs.declared.leaf_source.LeafSource.{LeafSource}
use Rattle.mls_nodes.specs.declared.leaf_source.LeafSource.TheVariants as sources
use Rattle.mls_nodes.specs.declared.parent.ParentNode.{ParentNode}
use Rattle.mls_tree.specs.Tree.{Tree, leaf, branch, leaf_count, Subtree, subtree_at, root_node_index, root_entry}
use Rattle.mls_tree.specs.TreeHash.{tree_hash}
use Rattle.mls_tree.specs.Paths.{resolution, filtered_direct_path, where_resolved}
use Rattle.mls_tree.proofs.Trees.{subtree_at-root}
use Rattle.mls_hash.specs.ParentHash.{parent_hash_input}
use Rattle.mls_hash.proofs.Strips.{strip-none}
use Rattle.mls_check.specs.ParentHashValid.{source_hash, linked_hash, ParentHashLink, ParentHashStep, IsLeaf, ParentHashValid, from_leaf, from_parent, IsParentHashValidHere}
use Rattle.mls_check.proofs.Elements.{contains-nil, contains-cons, contains-head}
use Rattle.mls_apply.specs.MergePath.{PathStep, path_step_at, path_step, path_parent, path_hash, merged_from, merged, hashes_from, expected_hashes, append_parent_hash}
use Rattle.mls_apply.specs.PathRules.{has_first_parent_hash}
use Rattle.mls_check.specs.PreservedValidity.{IsParentHashValidTree}
use Rattle.mls_check.proofs.Reaching.{in_left, in_right}
use Rattle.mls_check.proofs.SoundSubtrees.{IsSoundSubtree, HasSoundSubtrees, subtrees_from, subtrees_whole, sound_leaf, sound_blank}

-- what a mapped value came from
pub came_from : {A B : Type 0} (f : A → B) (o : Option A) (y : B) → option_map f o ≡ Some y → (a : A) × (o ≡ Some a) × (f a ≡ y)
came_from f None y e = absurd (none-some y e)
came_from f (Some a) y e = (a, refl, same_Some (f a) y e)

module _ (H : List ℕ → List ℕ) (leaves : ℕ) where
  -- one set node alone is the resolution of a subtree, it carries the hash, and a chain has come to it
  record IsHead (first : ℕ) (t : Tree) (hash : List ℕ) : Type 0 where
    node_index : ℕ
    node : Subtree
    descendant_is : subtree_at first t node_index ≡ Some node
    linked : linked_hash (root_entry node.tree) ≡ Some hash
    alone : resolution leaves first t ≡ node_index ∷ []
    ended : IsLeaf node.tree ⊎ ParentHashValid H leaves node

  -- a path's parent has a link from the head of its half on the path
  head-link : (key hash h : List ℕ) (child other : Subtree) (head : IsHead child.first child.tree h) → path_hash H (path_parent key hash) other.first other.tree ≡ Some h
      → ParentHashLink H leaves (path_parent key hash) child other head.node
  head-link key hash h child other head e = record {
    node_index = head.node_index;
    descendant_is = head.descendant_is;
    hash = h;
    linked = head.linked;
    expected =
        ap (λ u. option_and_then (λ original. option_map H (parent_hash_input (path_parent key hash) original)) (tree_hash H other.first u)) (strip-none other.first other.tree)
        ∙ e;
    resolved = subst (λ ps. Contains ps head.node_index) (sym head.alone) (contains-head head.node_index []);
    unmerged = λ u. (
      λ c. absurd (elim (contains-cons head.node_index [] u (subst (λ ps. Contains ps u) head.alone c.0)) [ inl s ↦ c.1 (sym s) | inr d ↦ contains-nil u d ]),
      λ w. absurd (contains-nil w.0 w.1),
    );
  }

  -- so it is reached
  by_head : (d s : Subtree) → ParentHashStep H leaves d s → IsLeaf d.tree ⊎ ParentHashValid H leaves d → ParentHashValid H leaves s
  by_head d s step (inl l) = from_leaf d s step l
  by_head d s step (inr r) = from_parent d s step r

  module _ (first : ℕ) (l r : Tree) (key hash h : List ℕ) where
    abbrev set_top : Subtree
    set_top = record { first = first; tree = branch l (Some (path_parent key hash)) r }

    reached-left : IsHead first l h → path_hash H (path_parent key hash) (first + leaf_count l) r ≡ Some h → ParentHashValid H leaves set_top
    reached-left head e =
        let child : Subtree = record { first = first; tree = l } in
        let other : Subtree = record { first = first + leaf_count l; tree = r } in
        by_head head.node set_top (record { parent = path_parent key hash; child = child; other = other; children = (refl, inl (refl, refl)); link = head-link key hash h child other head e }) head.ended

    reached-right : IsHead (first + leaf_count l) r h → path_hash H (path_parent key hash) first l ≡ Some h → ParentHashValid H leaves set_top
    reached-right head e =
        let child : Subtree = record { first = first + leaf_count l; tree = r } in
        let other : Subtree = record { first = first; tree = l } in
        by_head head.node set_top (record { parent = path_parent key hash; child = child; other = other; children = (refl, inr (refl, refl)); link = head-link key hash h child other head e }) head.ended

    set-head : ParentHashValid H leaves set_top → IsHead first (branch l (Some (path_parent key hash)) r) hash
    set-head reached = record {
      node_index = root_node_index first (branch l (Some (path_parent key hash)) r);
      node = set_top;
      descendant_is = subtree_at-root first (branch l (Some (path_parent key hash)) r);
      linked = refl;
      alone = refl;
      ended = inr reached;
    }

    sound-set : ParentHashValid H leaves set_top → IsSoundSubtree H leaves first (branch l (Some (path_parent key hash)) r)
    sound-set reached = record { sorted = λ k lt. absurd (omega (arith, lt)); consistent = refl; parent_hash = λ set. reached }

  -- a blank parent hands through
  blank-left : (first : ℕ) (l r : Tree) (hash : List ℕ) → IsHead first l hash → resolution leaves (first + leaf_count l) r ≡ [] → IsHead first (branch l None r) hash
  blank-left first l r hash head e = record {
    node_index = head.node_index;
    node = head.node;
    descendant_is = in_left first l None r head.node_index head.node head.descendant_is;
    linked = head.linked;
    alone = λ i. head.alone i ++ e i;
    ended = head.ended;
  }

  blank-right : (first : ℕ) (l r : Tree) (hash : List ℕ) → IsHead (first + leaf_count l) r hash → resolution leaves first l ≡ [] → IsHead first (branch l None r) hash
  blank-right first l r hash head e = record {
    node_index = head.node_index;
    node = head.node;
    descendant_is = in_right first l None r head.node_index head.node head.descendant_is;
    linked = head.linked;
    alone = λ i. e i ++ head.alone i;
    ended = head.ended;
  }

  -- what a parent hands down
  abbrev HandsDown : ℕ → Tree → List ℕ → PathStep → Type 0
  HandsDown first away hash n =
      ((resolution leaves first away ≡ []) × (n.parent ≡ None) × (n.hash ≡ hash))
      ⊎ ((key : List ℕ) × (n.parent ≡ Some (path_parent key hash)) × (path_hash H (path_parent key hash) first away ≡ Some n.hash))

  hands_down : (first : ℕ) (away : Tree) (hash : List ℕ) (keys : List (List ℕ)) (n : PathStep) → path_step_at H leaves first away hash keys ≡ Some n → HandsDown first away hash n
  hands_down first away hash keys n e = go (resolution leaves first away) refl keys e
    where
      go : (res : List ℕ) → resolution leaves first away ≡ res → (keys : List (List ℕ)) → path_step H res first away hash keys ≡ Some n → HandsDown first away hash n
      go [] is keys e = (let s = same_Some _ n e in inl (is, sym (ap (λ (v : PathStep). v.parent) s), sym (ap (λ (v : PathStep). v.hash) s)))
      go (p ∷ ps) is [] e = absurd (none-some n e)
      go (p ∷ ps) is (key ∷ keys) e =
          (let w = came_from (λ h. record { parent = Some (path_parent key hash); hash = h; keys = keys }) (path_hash H (path_parent key hash) first away) n e in
          inr (key, sym (ap (λ (v : PathStep). v.parent) w.2), w.1 ∙ ap (λ (v : PathStep). Some v.hash) w.2))

  -- a parent at a place is reached
  abbrev IsReachedIn : ℕ → Tree → ℕ → Type 0
  IsReachedIn first t q = (s : Subtree) × (subtree_at first t q ≡ Some s) × ParentHashValid H leaves s

  module _ (i : ℕ) (x : LeafNode) where
    -- the leaf carries the hash that comes down to it
    abbrev IsCarried : List (List ℕ) → Type 0
    IsCarried [] = ⊥
    IsCarried (h ∷ hs) = source_hash x.source ≡ Some h

    abbrev IsThere : List (List ℕ) → Type 0
    IsThere [] = ⊥
    IsThere (h ∷ hs) = Unit {0}

    carried-append_parent_hash : (q : Option ParentNode) (hash : List ℕ) (hs : List (List ℕ)) → IsThere hs → IsCarried (append_parent_hash q hash hs) → IsCarried hs
    carried-append_parent_hash None hash hs there c = c
    carried-append_parent_hash (Some p) hash [] there c = absurd there
    carried-append_parent_hash (Some p) hash (h ∷ hs) there c = c

    there-append_parent_hash : (q : Option ParentNode) (hash : List ℕ) (hs : List (List ℕ)) → IsThere hs → IsThere (append_parent_hash q hash hs)
    there-append_parent_hash None hash hs there = there
    there-append_parent_hash (Some p) hash [] there = tt
    there-append_parent_hash (Some p) hash (h ∷ hs) there = tt

    -- what becomes of a subtree on the path, which is handed a hash; the new parents stand at the places `path`
    record IsMade (first : ℕ) (t new : Tree) (hash : List ℕ) (hs : List (List ℕ)) (path : List ℕ) : Type 0 where
      count : leaf_count new ≡ leaf_count t
      there : IsThere hs
      head : IsCarried hs → IsHead first new hash
      reached : IsCarried hs → (q : ℕ) → Contains path q → IsReachedIn first new q
      sound : IsCarried hs → HasSoundSubtrees H leaves first t → HasSoundSubtrees H leaves first new

    -- a parent that is passed has its place in the path where its half away from the leaf has a resolution
    no_node_index : (res : List ℕ) (node_index : ℕ) (q : ℕ) → res ≡ [] → ¬ Contains (where_resolved res node_index) q
    no_node_index [] node_index q e c = contains-nil q c
    no_node_index (r ∷ rs) node_index q e c = absurd (cons-nil e)
      where
        cons-nil : r ∷ rs ≡ [] → ⊥
        cons-nil e = cc

    one_node_index : (res : List ℕ) (node_index q : ℕ) → Contains (where_resolved res node_index) q → node_index ≡ q
    one_node_index [] node_index q c = absurd (contains-nil q c)
    one_node_index (r ∷ rs) node_index q c = elim (contains-cons node_index [] q c) [ inl e ↦ e | inr d ↦ absurd (contains-nil q d) ]

    module _ (first : ℕ) (l : Tree) (p : Option ParentNode) (r : Tree) (hash : List ℕ) (hs : List (List ℕ)) (path : List ℕ) (n : PathStep) where
      made-left : (u : Tree) → IsMade first l u n.hash hs path → HandsDown (first + leaf_count l) r hash n
          → IsMade first (branch l p r) (branch u n.parent r) hash (append_parent_hash n.parent hash hs) (path ++ where_resolved (resolution leaves (first + leaf_count l) r) (2 * (first + leaf_count l) - 1))
      made-left u m (inl w) =
          let all = path ++ where_resolved (resolution leaves (first + leaf_count l) r) (2 * (first + leaf_count l) - 1) in
          subst (λ (q : Option ParentNode). IsMade first (branch l p r) (branch u q r) hash (append_parent_hash q hash hs) all) (sym w.1) (record {
            count = ap (λ k. k + leaf_count r) m.count;
            there = m.there;
            head = λ c.
                blank-left first u r hash (subst (IsHead first u) w.2 (m.head c))
                (ap (λ k. resolution leaves (first + k) r) m.count ∙ w.0);
            reached = λ c q d. elim (Contains-append_cases path (where_resolved (resolution leaves (first + leaf_count l) r) (2 * (first + leaf_count l) - 1)) q d) [
              | inl a ↦ (let s = m.reached c q a in (s.0, in_left first u None r q s.0 s.1, s.2))
              | inr b ↦ absurd (no_node_index (resolution leaves (first + leaf_count l) r) (2 * (first + leaf_count l) - 1) q w.0 b)
            ];
            sound = λ c g. sound_blank H leaves first u r (m.sound c g.1) (subst (λ k. HasSoundSubtrees H leaves (first + k) r) (sym m.count) g.2);
          })
      made-left u m (inr w) =
          let all = path ++ where_resolved (resolution leaves (first + leaf_count l) r) (2 * (first + leaf_count l) - 1) in
          let hashed = ap (λ k. path_hash H (path_parent w.0 hash) (first + k) r) m.count ∙ w.2 in
          let below : IsCarried (append_parent_hash (Some (path_parent w.0 hash)) hash hs) → IsCarried hs = carried-append_parent_hash (Some (path_parent w.0 hash)) hash hs m.there in
          let top : IsCarried (append_parent_hash (Some (path_parent w.0 hash)) hash hs) → ParentHashValid H leaves (record { first = first; tree = branch u (Some (path_parent w.0 hash)) r })
          = λ c. reached-left first u r w.0 hash n.hash (m.head (below c)) hashed in
          subst (λ (q : Option ParentNode). IsMade first (branch l p r) (branch u q r) hash (append_parent_hash q hash hs) all) (sym w.1) (record {
            count = ap (λ k. k + leaf_count r) m.count;
            there = there-append_parent_hash (Some (path_parent w.0 hash)) hash hs m.there;
            head = λ c. set-head first u r w.0 hash n.hash (top c);
            reached = λ c q d. elim (Contains-append_cases path (where_resolved (resolution leaves (first + leaf_count l) r) (2 * (first + leaf_count l) - 1)) q d) [
              | inl a ↦ (let s = m.reached (below c) q a in (s.0, in_left first u (Some (path_parent w.0 hash)) r q s.0 s.1, s.2))
              | inr b ↦
                  (let e = one_node_index (resolution leaves (first + leaf_count l) r) (2 * (first + leaf_count l) - 1) q b in
                  let v = branch u (Some (path_parent w.0 hash)) r in (
                    record { first = first; tree = v },
                    ap (λ k. subtree_at first v k) (sym e ∙ ap (λ k. 2 * (first + k) - 1) (sym m.count)) ∙ subtree_at-root first v,
                    top c,
                  ))
            ];
            sound = λ c g. (sound-set first u r w.0 hash n.hash (top c), m.sound (below c) g.1, subst (λ k. HasSoundSubtrees H leaves (first + k) r) (sym m.count) g.2);
          })

      made-right : (u : Tree) → IsMade (first + leaf_count l) r u n.hash hs path → HandsDown first l hash n
          → IsMade first (branch l p r) (branch l n.parent u) hash (append_parent_hash n.parent hash hs) (path ++ where_resolved (resolution leaves first l) (2 * (first + leaf_count l) - 1))
      made-right u m (inl w) =
          let all = path ++ where_resolved (resolution leaves first l) (2 * (first + leaf_count l) - 1) in
          subst (λ (q : Option ParentNode). IsMade first (branch l p r) (branch l q u) hash (append_parent_hash q hash hs) all) (sym w.1) (record {
            count = ap (λ k. leaf_count l + k) m.count;
            there = m.there;
            head = λ c. blank-right first l u hash (subst (IsHead (first + leaf_count l) u) w.2 (m.head c)) w.0;
            reached = λ c q d. elim (Contains-append_cases path (where_resolved (resolution leaves first l) (2 * (first + leaf_count l) - 1)) q d) [
              | inl a ↦ (let s = m.reached c q a in (s.0, in_right first l None u q s.0 s.1, s.2))
              | inr b ↦ absurd (no_node_index (resolution leaves first l) (2 * (first + leaf_count l) - 1) q w.0 b)
            ];
            sound = λ c g. sound_blank H leaves first l u g.1 (m.sound c g.2);
          })
      made-right u m (inr w) =
          let all = path ++ where_resolved (resolution leaves first l) (2 * (first + leaf_count l) - 1) in
          let below : IsCarried (append_parent_hash (Some (path_parent w.0 hash)) hash hs) → IsCarried hs = carried-append_parent_hash (Some (path_parent w.0 hash)) hash hs m.there in
          let top : IsCarried (append_parent_hash (Some (path_parent w.0 hash)) hash hs) → ParentHashValid H leaves (record { first = first; tree = branch l (Some (path_parent w.0 hash)) u })
          = λ c. reached-right first l u w.0 hash n.hash (m.head (below c)) w.2 in
          subst (λ (q : Option ParentNode). IsMade first (branch l p r) (branch l q u) hash (append_parent_hash q hash hs) all) (sym w.1) (record {
            count = ap (λ k. leaf_count l + k) m.count;
            there = there-append_parent_hash (Some (path_parent w.0 hash)) hash hs m.there;
            head = λ c. set-head first l u w.0 hash n.hash (top c);
            reached = λ c q d. elim (Contains-append_cases path (where_resolved (resolution leaves first l) (2 * (first + leaf_count l) - 1)) q d) [
              | inl a ↦ (let s = m.reached (below c) q a in (s.0, in_right first l (Some (path_parent w.0 hash)) u q s.0 s.1, s.2))
              | inr b ↦
                  (let e = one_node_index (resolution leaves first l) (2 * (first + leaf_count l) - 1) q b in
                  let v = branch l (Some (path_parent w.0 hash)) u in
                  (record { first = first; tree = v }, ap (λ k. subtree_at first v k) (sym e) ∙ subtree_at-root first v, top c))
            ];
            sound = λ c g. (sound-set first l u w.0 hash n.hash (top c), g.1, m.sound (below c) g.2);
          })

    -- what is made of one half, by what its parent hands down
    module _ (first : ℕ) (l : Tree) (p : Option ParentNode) (r : Tree) (hash : List ℕ) (new : Tree) (hs : List (List ℕ)) (path : List ℕ)
        (child away : Tree) (start other : ℕ) (build : Option ParentNode → Tree → Tree)
        (made : (u : Tree) (ks : List (List ℕ)) (n : PathStep) → IsMade start child u n.hash ks (filtered_direct_path leaves start child i) → HandsDown other away hash n
        → IsMade first (branch l p r) (build n.parent u) hash (append_parent_hash n.parent hash ks) path)
        (ih : (m : List ℕ) (g : List (List ℕ)) (u : Tree) (ks : List (List ℕ)) → merged_from H leaves start child i x m g ≡ Some u → hashes_from H leaves start child i m g ≡ Some ks
        → IsMade start child u m ks (filtered_direct_path leaves start child i)) where
      through : (keys : List (List ℕ)) (o : Option PathStep) → path_step_at H leaves other away hash keys ≡ o
          → option_and_then (λ (n : PathStep). option_map (λ u. build n.parent u) (merged_from H leaves start child i x n.hash n.keys)) o ≡ Some new
          → option_and_then (λ (n : PathStep). option_map (append_parent_hash n.parent hash) (hashes_from H leaves start child i n.hash n.keys)) o ≡ Some hs
          → IsMade first (branch l p r) new hash hs path
      through keys None is e f = absurd (none-some new e)
      through keys (Some n) is e f =
          let a = came_from (λ u. build n.parent u) (merged_from H leaves start child i x n.hash n.keys) new e in
          let b = came_from (append_parent_hash n.parent hash) (hashes_from H leaves start child i n.hash n.keys) hs f in
          let m = made a.0 b.0 n (ih n.hash n.keys a.0 b.0 a.1 b.1) (hands_down other away hash keys n is) in
          subst (λ v. v) (λ k. IsMade first (branch l p r) (a.2 k) hash (b.2 k) path) m

    merge_made : (first : ℕ) (t : Tree) (hash : List ℕ) (keys : List (List ℕ)) (new : Tree) (hs : List (List ℕ))
        → merged_from H leaves first t i x hash keys ≡ Some new → hashes_from H leaves first t i hash keys ≡ Some hs
        → IsMade first t new hash hs (filtered_direct_path leaves first t i)
    merge_made first (leaf y) hash (_ ∷ _) new hs e f = absurd (none-some new e)
    merge_made first (leaf y) hash [] new hs e f =
        let a = same_Some (leaf (Some x)) new e in
        let b = same_Some (hash ∷ []) hs f in
        let m : IsMade first (leaf y) (leaf (Some x)) hash (hash ∷ []) [] = record {
          count = refl;
          there = tt;
          head = λ c. record {
            node_index = 2 * first;
            node = record { first = first; tree = leaf (Some x) };
            descendant_is = subtree_at-root first (leaf (Some x));
            linked = c;
            alone = refl;
            ended = inl tt;
          };
          reached = λ c q d. absurd (contains-nil q d);
          sound = λ c g. sound_leaf H leaves first (leaf (Some x)) (λ h. h) refl tt;
        } in
        subst (λ v. v) (λ k. IsMade first (leaf y) (a k) hash (b k) []) m
    merge_made first (branch l p r) hash keys new hs e f =
        go (nat_lt i (first + leaf_count l)) (λ m k u ks. merge_made first l m k u ks) (λ m k u ks. merge_made (first + leaf_count l) r m k u ks) e f
      where
        go : (c : Bool)
            → ((m : List ℕ) (k : List (List ℕ)) (u : Tree) (ks : List (List ℕ)) → merged_from H leaves first l i x m k ≡ Some u → hashes_from H leaves first l i m k ≡ Some ks
            → IsMade first l u m ks (filtered_direct_path leaves first l i))
            → ((m : List ℕ) (k : List (List ℕ)) (u : Tree) (ks : List (List ℕ)) → merged_from H leaves (first + leaf_count l) r i x m k ≡ Some u → hashes_from H leaves (first + leaf_count l) r i m k ≡ Some ks
            → IsMade (first + leaf_count l) r u m ks (filtered_direct_path leaves (first + leaf_count l) r i))
            → (if c
            then option_and_then (λ n. option_map (λ t. branch t n.parent r) (merged_from H leaves first l i x n.hash n.keys)) (path_step_at H leaves (first + leaf_count l) r hash keys)
            else option_and_then (λ n. option_map (λ t. branch l n.parent t) (merged_from H leaves (first + leaf_count l) r i x n.hash n.keys)) (path_step_at H leaves first l hash keys)) ≡ Some new
            → (if c
            then option_and_then (λ n. option_map (append_parent_hash n.parent hash) (hashes_from H leaves first l i n.hash n.keys)) (path_step_at H leaves (first + leaf_count l) r hash keys)
            else option_and_then (λ n. option_map (append_parent_hash n.parent hash) (hashes_from H leaves (first + leaf_count l) r i n.hash n.keys)) (path_step_at H leaves first l hash keys)) ≡ Some hs
            → IsMade first (branch l p r) new hash hs (if c
            then filtered_direct_path leaves first l i ++ where_resolved (resolution leaves (first + leaf_count l) r) (2 * (first + leaf_count l) - 1)
            else filtered_direct_path leaves (first + leaf_count l) r i ++ where_resolved (resolution leaves first l) (2 * (first + leaf_count l) - 1))
        go true left right e f =
            through first l p r hash new hs (filtered_direct_path leaves first l i ++ where_resolved (resolution leaves (first + leaf_count l) r) (2 * (first + leaf_count l) - 1))
            l r first (first + leaf_count l) (λ q u. branch u q r)
            (λ u ks n m d. made-left first l p r hash ks (filtered_direct_path leaves first l i) n u m d) left keys (path_step_at H leaves (first + leaf_count l) r hash keys) refl e f
        go false left right e f =
            through first l p r hash new hs (filtered_direct_path leaves (first + leaf_count l) r i ++ where_resolved (resolution leaves first l) (2 * (first + leaf_count l) - 1))
            r l (first + leaf_count l) first (λ q u. branch l q u)
            (λ u ks n m d. made-right first l p r hash ks (filtered_direct_path leaves (first + leaf_count l) r i) n u m d) right keys (path_step_at H leaves first l hash keys) refl e f

carries : (source : LeafSource) (h : List ℕ) (hs : List (List ℕ)) → has_first_parent_hash source (Some (h ∷ hs)) ≡ true → source_hash source ≡ Some h
carries (sources.KeyPackage lifetime) h hs e = absurd (false≢true e)
carries sources.Update h hs e = absurd (false≢true e)
carries (sources.Commit hash) h hs e = ap Some ((bytes_eq-Decides hash h).0 e)

module _ (H : List ℕ → List ℕ) (t new : Tree) (i : ℕ) (x : LeafNode) (keys : List (List ℕ)) (c : has_first_parent_hash x.source (expected_hashes H t i keys) ≡ true) (e : merged H t i x keys ≡ Some new) where
  -- what is made of the whole tree, by a leaf that carries the hash
  record IsMerged : Type 0 where
    hashes : List (List ℕ)
    made : IsMade H (leaf_count t) i x 0 t new [] hashes (filtered_direct_path (leaf_count t) 0 t i)
    carried : IsCarried H (leaf_count t) i x hashes

  whole : IsMerged
  whole = go (expected_hashes H t i keys) refl c
    where
      go : (o : Option (List (List ℕ))) → expected_hashes H t i keys ≡ o → has_first_parent_hash x.source o ≡ true → IsMerged
      go None is c = absurd (false≢true c)
      go (Some []) is c = absurd (false≢true c)
      go (Some (hash ∷ hs)) is c =
          record { hashes = hash ∷ hs; made = merge_made H (leaf_count t) i x 0 t [] (reverse keys) new (hash ∷ hs) e is; carried = carries x.source hash hs c }

  sound_in : IsParentHashValidTree H t → IsParentHashValidTree H new
  sound_in h = subtrees_whole H (leaf_count t) new (sym whole.made.count) (whole.made.sound whole.carried (subtrees_from H t h))

  reached_in : (node_index : ℕ) → Contains (filtered_direct_path (leaf_count t) 0 t i) node_index → IsParentHashValidHere H new node_index
  reached_in node_index d =
      let s = whole.made.reached whole.carried node_index d in
      (s.0, s.1, subst (λ n. ParentHashValid H n s.0) (sym whole.made.count) s.2)

pub sound_merge : (H : List ℕ → List ℕ) (t new : Tree) (i : ℕ) (x : LeafNode) (keys : List (List ℕ))
    → has_first_parent_hash x.source (expected_hashes H t i keys) ≡ true → IsParentHashValidTree H t → merged H t i x keys ≡ Some new → IsParentHashValidTree H new
sound_merge H t new i x keys c h e = sound_in H t new i x keys c e h

pub reached_merge : (H : List ℕ → List ℕ) (t new : Tree) (i : ℕ) (x : LeafNode) (keys : List (List ℕ)) (node_index : ℕ)
    → has_first_parent_hash x.source (expected_hashes H t i keys) ≡ true → merged H t i x keys ≡ Some new
    → Contains (filtered_direct_path (leaf_count t) 0 t i) node_index → IsParentHashValidHere H new node_index
reached_merge H t new i x keys node_index c e d = reached_in H t new i x keys c e node_index d
