-- Updates that are applied from the end of a list: of a leaf that several Updates replace, the last one alone counts.
use Rattle.std.proofs.Common.{◌≡◌, ◌≢◌, ◌∙◌, ℕ, zero, suc, ◌+◌, ◌<◌, ◌≤◌, Bool, true, false, cond, nat_lt, List, [], ◌∷◌, Option, Some, None, IsSome, BTreeSet, drop, refl, sym, ap, inl, inr, arith}
use Rattle.std.specs.Prelude.{◌==◌, ◌||◌, if◌then◌else◌, is_some, option_map, option_and_then}
use Rattle.std.specs.List.{list_any}
use Rattle.std.specs.Ordering.{nat_cmp, is_eq}
use Rattle.std.specs.BTreeSet.{contains, IsEmpty}
use Rattle.std.proofs.lemmas.Bool.{cases_lt, false≢true}
use Rattle.std.proofs.lemmas.Bool.Decides.{nat_tests}
use Rattle.mls_nodes.specs.declared.leaf.LeafNode.{LeafNode}
use Rattle.mls_nodes.specs.declared.parent.ParentNode.{ParentNode}
use Rattle.mls_msgs.specs.declared.proposal.Proposal.{Proposal}
use Rattle.mls_msgs.specs.declared.proposal.Proposal.TheVariants.{Add, Update, Remove, ContextExtensions, PreSharedKey, ReInit, ExternalInit}
use Rattle.mls_tree.specs.Tree.{Tree, leaf, branch, leaf_count, leaf_at}
use Rattle.mls_tree.specs.TreeOperations.{put_leaf, change_above, update}
use Rattle.mls_tree.proofs.Choices.{below, from}
use Rattle.mls_tree.proofs.Kept.{leaf_count-put_leaf}
use Rattle.mls_apply.specs.AppliedList.{after_update, after_updates, updated_at}
use Rattle.mls_apply.specs.LastUpdates.{AreApplied, is_replaced}
use Rattle.mls_apply.specs.ListRules.{replaced_leaf, is_leaf_number}
use Rattle.mls_apply.specs.Senders.{member_index}
use Rattle.mls_apply.specs.declared.list_item.ListItem.{ListItem}
use Rattle.mls_apply.proofs.Leaves.{leaf_inside, kept_beside, put_there}

-- ---- one leaf and the parents above it

-- a leaf is replaced, and the parents above it become blank
abbrev replaced : ℕ → Tree → ℕ → LeafNode → Tree
replaced first (leaf _) i x = leaf (Some x)
replaced first (branch l n r) i x =
    if nat_lt i (first + leaf_count l) then branch (replaced first l i x) None r else branch l None (replaced (first + leaf_count l) r i x)

replaced-left : (first m : ℕ) (l : Tree) (n : Option ParentNode) (r : Tree) (i : ℕ) (x : LeafNode) → first + leaf_count l ≡ m → i < m
    → replaced first (branch l n r) i x ≡ branch (replaced first l i x) None r
replaced-left first m l n r i x e lt =
    below i (first + leaf_count l) (branch (replaced first l i x) None r) (branch l None (replaced (first + leaf_count l) r i x)) (omega (arith, e))

replaced-right : (first m : ℕ) (l : Tree) (n : Option ParentNode) (r : Tree) (i : ℕ) (x : LeafNode) → first + leaf_count l ≡ m → m ≤ i
    → replaced first (branch l n r) i x ≡ branch l None (replaced m r i x)
replaced-right first m l n r i x e ge =
    from i (first + leaf_count l) (branch (replaced first l i x) None r) (branch l None (replaced (first + leaf_count l) r i x)) (omega (arith, e))
    ∙ ap (λ k. branch l None (replaced k r i x)) e

leaf_count-replaced : (first : ℕ) (t : Tree) (i : ℕ) (x : LeafNode) → leaf_count (replaced first t i x) ≡ leaf_count t
leaf_count-replaced first (leaf _) i x = refl
leaf_count-replaced first (branch l n r) i x =
    elim (cases_lt i (first + leaf_count l)) [
      | inl lt ↦ ap leaf_count (replaced-left first (first + leaf_count l) l n r i x refl lt) ∙ ap (λ k. k + leaf_count r) (leaf_count-replaced first l i x)
      | inr ge ↦
          ap leaf_count (replaced-right first (first + leaf_count l) l n r i x refl ge)
          ∙ ap (λ k. leaf_count l + k) (leaf_count-replaced (first + leaf_count l) r i x)
    ]

replaced-update : (first : ℕ) (t : Tree) (i : ℕ) (x : LeafNode) → change_above (λ _. None) first (put_leaf first t i (Some x)) i ≡ replaced first t i x
replaced-update first (leaf _) i x = refl
replaced-update first (branch l n r) i x =
    let m = first + leaf_count l in
    let c = leaf_count-put_leaf first l i (Some x) in
    let u = put_leaf first l i (Some x) in
    let v = put_leaf m r i (Some x) in
    let blank : Option ParentNode → Option ParentNode = λ _. None in
    elim (cases_lt i m) [
      | inl lt ↦
          ap (λ t. change_above blank first t i) (below i m (branch u n r) (branch l n v) lt)
          ∙ below i (first + leaf_count u) (branch (change_above blank first u i) None r) (branch u None (change_above blank (first + leaf_count u) r i)) (omega (arith, c))
          ∙ ap (λ t. branch t None r) (replaced-update first l i x)
          ∙ sym (replaced-left first m l n r i x refl lt)
      | inr ge ↦
          ap (λ t. change_above blank first t i) (from i m (branch u n r) (branch l n v) ge)
          ∙ from i m (branch (change_above blank first l i) None v) (branch l None (change_above blank m v i)) ge
          ∙ ap (λ t. branch l None t) (replaced-update m r i x)
          ∙ sym (replaced-right first m l n r i x refl ge)
    ]

-- a leaf that is replaced again
replaced-again : (first : ℕ) (t : Tree) (i : ℕ) (x y : LeafNode) → replaced first (replaced first t i x) i y ≡ replaced first t i y
replaced-again first (leaf _) i x y = refl
replaced-again first (branch l n r) i x y =
    let m = first + leaf_count l in
    elim (cases_lt i m) [
      | inl lt ↦
          ap (λ t. replaced first t i y) (replaced-left first m l n r i x refl lt)
          ∙ replaced-left first m (replaced first l i x) None r i y (ap (λ k. first + k) (leaf_count-replaced first l i x)) lt
          ∙ ap (λ t. branch t None r) (replaced-again first l i x y)
          ∙ sym (replaced-left first m l n r i y refl lt)
      | inr ge ↦
          ap (λ t. replaced first t i y) (replaced-right first m l n r i x refl ge)
          ∙ replaced-right first m l None (replaced m r i x) i y refl ge
          ∙ ap (λ t. branch l None t) (replaced-again m r i x y)
          ∙ sym (replaced-right first m l n r i y refl ge)
    ]

-- two leaves are replaced in either order
replaced-both : (first : ℕ) (t : Tree) (i j : ℕ) (x y : LeafNode) → first ≤ i → i < first + leaf_count t → first ≤ j → j < first + leaf_count t → i ≢ j
    → replaced first (replaced first t i x) j y ≡ replaced first (replaced first t j y) i x
replaced-both first (leaf _) i j x y a b c d away = absurd (away (omega (arith, a, b, c, d)))
replaced-both first (branch l n r) i j x y a b c d away =
    let m = first + leaf_count l in
    let count_i : first + leaf_count (replaced first l i x) ≡ m = ap (λ k. first + k) (leaf_count-replaced first l i x) in
    let count_j : first + leaf_count (replaced first l j y) ≡ m = ap (λ k. first + k) (leaf_count-replaced first l j y) in
    elim (cases_lt i m) [
      | inl i_lt ↦
          elim (cases_lt j m) [
            | inl j_lt ↦
                ap (λ t. replaced first t j y) (replaced-left first m l n r i x refl i_lt)
                ∙ replaced-left first m (replaced first l i x) None r j y count_i j_lt
                ∙ ap (λ t. branch t None r) (replaced-both first l i j x y a i_lt c j_lt away)
                ∙ sym (replaced-left first m (replaced first l j y) None r i x count_j i_lt)
                ∙ ap (λ t. replaced first t i x) (sym (replaced-left first m l n r j y refl j_lt))
            | inr j_ge ↦
                ap (λ t. replaced first t j y) (replaced-left first m l n r i x refl i_lt)
                ∙ replaced-right first m (replaced first l i x) None r j y count_i j_ge
                ∙ sym (replaced-left first m l None (replaced m r j y) i x refl i_lt)
                ∙ ap (λ t. replaced first t i x) (sym (replaced-right first m l n r j y refl j_ge))
          ]
      | inr i_ge ↦
          elim (cases_lt j m) [
            | inl j_lt ↦
                ap (λ t. replaced first t j y) (replaced-right first m l n r i x refl i_ge)
                ∙ replaced-left first m l None (replaced m r i x) j y refl j_lt
                ∙ sym (replaced-right first m (replaced first l j y) None r i x count_j i_ge)
                ∙ ap (λ t. replaced first t i x) (sym (replaced-left first m l n r j y refl j_lt))
            | inr j_ge ↦
                ap (λ t. replaced first t j y) (replaced-right first m l n r i x refl i_ge)
                ∙ replaced-right first m l None (replaced m r i x) j y refl j_ge
                ∙ ap (λ t. branch l None t) (replaced-both m r i j x y i_ge (omega (arith, b)) j_ge (omega (arith, d)) away)
                ∙ sym (replaced-right first m l None (replaced m r j y) i x refl i_ge)
                ∙ ap (λ t. replaced first t i x) (sym (replaced-right first m l n r j y refl j_ge))
          ]
    ]

-- ---- Updates of one leaf, and of two

update-again : (t : Tree) (i : ℕ) (x y : LeafNode) → update (update t i x) i y ≡ update t i y
update-again t i x y =
    replaced-update 0 (update t i x) i y
    ∙ ap (λ u. replaced 0 u i y) (replaced-update 0 t i x)
    ∙ replaced-again 0 t i x y
    ∙ sym (replaced-update 0 t i y)

update-both : (t : Tree) (i j : ℕ) (x y : LeafNode) → IsSome (leaf_at 0 t i) → IsSome (leaf_at 0 t j) → i ≢ j → update (update t i x) j y ≡ update (update t j y) i x
update-both t i j x y here there away =
    replaced-update 0 (update t i x) j y
    ∙ ap (λ u. replaced 0 u j y) (replaced-update 0 t i x)
    ∙ replaced-both 0 t i j x y (omega arith) (omega (arith, leaf_inside t i here)) (omega arith) (omega (arith, leaf_inside t j there)) away
    ∙ ap (λ u. replaced 0 u i x) (sym (replaced-update 0 t j y))
    ∙ sym (replaced-update 0 (update t j y) i x)

-- which leaves are blank stays
non_blank-update : (t : Tree) (i j : ℕ) (x : LeafNode) → IsSome (leaf_at 0 t i) → is_some (leaf_at 0 (update t i x) j) ≡ is_some (leaf_at 0 t j)
non_blank-update t i j x set = go (i == j) refl
  where
    go : (b : Bool) → (i == j) ≡ b → is_some (leaf_at 0 (update t i x) j) ≡ is_some (leaf_at 0 t j)
    go true e =
        let same : j ≡ i = grind (arith, nat_tests, e) in
        ap is_some (put_there t i j (Some x) set same) ∙ sym set ∙ ap (λ k. is_some (leaf_at 0 t k)) (sym same)
    go false e =
        let away : j ≢ i = λ same. false≢true (sym e ∙ grind (arith, nat_tests, same)) in
        ap is_some (kept_beside t i j (Some x) set away)

-- ---- an item of a list

-- what an item does: nothing, it can't be applied to any tree, or it replaces a leaf
data Effect (x : ListItem) : Type 0 where
  nothing : ((t : Tree) → after_update x.sender x.proposal t ≡ Some t) → ((j : ℕ) → is_leaf_number (replaced_leaf x.sender x.proposal) j ≡ false) → Effect x
  refused : ((t : Tree) → after_update x.sender x.proposal t ≡ None) → Effect x
  replaces : (i : ℕ) (y : LeafNode) → ((t : Tree) → after_update x.sender x.proposal t ≡ updated_at (Some i) y t)
      → ((j : ℕ) → is_leaf_number (replaced_leaf x.sender x.proposal) j ≡ (i == j)) → Effect x

effect-of_update : (x : ListItem) (y : LeafNode) (o : Option ℕ) → x.proposal ≡ Update y → member_index x.sender ≡ o → Effect x
effect-of_update x y None p s = refused (λ t. ap (λ q. after_update x.sender q t) p ∙ ap (λ o. updated_at o y t) s)
effect-of_update x y (Some i) p s =
    replaces i y (λ t. ap (λ q. after_update x.sender q t) p ∙ ap (λ o. updated_at o y t) s)
    (λ j. ap (λ q. is_leaf_number (replaced_leaf x.sender q) j) p ∙ ap (λ o. is_leaf_number o j) s)

effect-other : (x : ListItem) → ((t : Tree) → after_update x.sender x.proposal t ≡ Some t) → replaced_leaf x.sender x.proposal ≡ None → Effect x
effect-other x a r = nothing a (λ j. ap (λ o. is_leaf_number o j) r)

effect : (x : ListItem) → Effect x
effect x = go x.proposal refl
  where
    other : (p : Proposal) → x.proposal ≡ p → ((t : Tree) → after_update x.sender p t ≡ Some t) → replaced_leaf x.sender p ≡ None → Effect x
    other p e a r = effect-other x (λ t. ap (λ q. after_update x.sender q t) e ∙ a t) (ap (λ q. replaced_leaf x.sender q) e ∙ r)

    go : (p : Proposal) → x.proposal ≡ p → Effect x
    go (Add k) e = other (Add k) e (λ t. refl) refl
    go (Update y) e = effect-of_update x y (member_index x.sender) e refl
    go (Remove i) e = other (Remove i) e (λ t. refl) refl
    go (ContextExtensions es) e = other (ContextExtensions es) e (λ t. refl) refl
    go (PreSharedKey k) e = other (PreSharedKey k) e (λ t. refl) refl
    go (ReInit k) e = other (ReInit k) e (λ t. refl) refl
    go (ExternalInit k) e = other (ExternalInit k) e (λ t. refl) refl

-- the tree after an Update of a non-blank leaf, and of a blank one
updated_at-set : (t : Tree) (i : ℕ) (y : LeafNode) → IsSome (leaf_at 0 t i) → updated_at (Some i) y t ≡ Some (update t i y)
updated_at-set t i y set = ap (λ b. if b then Some (update t i y) else None) set

updated_at-blank : (t : Tree) (i : ℕ) (y : LeafNode) → is_some (leaf_at 0 t i) ≡ false → updated_at (Some i) y t ≡ None
updated_at-blank t i y blank = ap (λ b. if b then Some (update t i y) else None) blank

-- the first item of a list
module _ (x : ListItem) (xs : List ListItem) (t : Tree) where
  first_item : (o : Option Tree) → after_update x.sender x.proposal t ≡ o → after_updates (x ∷ xs) t ≡ option_and_then (after_updates xs) o
  unfolding after_updates
  first_item o e = ap (option_and_then (after_updates xs)) e

-- ---- a leaf is replaced before the Updates of a list

-- one of them replaces it again
superseded : (xs : List ListItem) (t : Tree) (i : ℕ) (y : LeafNode) → IsSome (leaf_at 0 t i) → is_replaced xs i ≡ true
    → after_updates xs (update t i y) ≡ after_updates xs t
superseded [] t i y set e = absurd (false≢true e)
superseded (x ∷ xs) t i y set e = go (λ s. superseded xs s i y) (effect x)
  where
    Rest : Type 0
    Rest = (s : Tree) → IsSome (leaf_at 0 s i) → is_replaced xs i ≡ true → after_updates xs (update s i y) ≡ after_updates xs s

    at : Rest → (j : ℕ) (z : LeafNode) → ((u : Tree) → after_update x.sender x.proposal u ≡ updated_at (Some j) z u) → ((j == i) || is_replaced xs i) ≡ true
        → (b : Bool) → is_some (leaf_at 0 t j) ≡ b → (same : Bool) → (j == i) ≡ same → after_updates (x ∷ xs) (update t i y) ≡ after_updates (x ∷ xs) t
    at rest j z a there false blank same is =
        first_item x xs (update t i y) None (a (update t i y) ∙ updated_at-blank (update t i y) j z (non_blank-update t i j y set ∙ blank))
        ∙ sym (first_item x xs t None (a t ∙ updated_at-blank t j z blank))
    at rest j z a there true here true is =
        let equal : i ≡ j = grind (arith, nat_tests, is) in
        first_item x xs (update t i y) (Some (update (update t i y) j z)) (a (update t i y) ∙ updated_at-set (update t i y) j z (non_blank-update t i j y set ∙ here))
        ∙ ap (after_updates xs) (ap (λ k. update (update t k y) j z) equal ∙ update-again t j y z)
        ∙ sym (first_item x xs t (Some (update t j z)) (a t ∙ updated_at-set t j z here))
    at rest j z a there true here false is =
        let away : i ≢ j = λ same. false≢true (sym is ∙ grind (arith, nat_tests, same)) in
        first_item x xs (update t i y) (Some (update (update t i y) j z)) (a (update t i y) ∙ updated_at-set (update t i y) j z (non_blank-update t i j y set ∙ here))
        ∙ ap (after_updates xs) (update-both t i j y z set here away)
        ∙ rest (update t j z) (non_blank-update t j i z here ∙ set) (ap (λ b. b || is_replaced xs i) (sym is) ∙ there)
        ∙ sym (first_item x xs t (Some (update t j z)) (a t ∙ updated_at-set t j z here))

    go : Rest → Effect x → after_updates (x ∷ xs) (update t i y) ≡ after_updates (x ∷ xs) t
    go rest (nothing a r) =
        first_item x xs (update t i y) (Some (update t i y)) (a (update t i y))
        ∙ rest t set (ap (λ b. b || is_replaced xs i) (sym (r i)) ∙ e)
        ∙ sym (first_item x xs t (Some t) (a t))
    go rest (refused a) = first_item x xs (update t i y) None (a (update t i y)) ∙ sym (first_item x xs t None (a t))
    go rest (replaces j z a r) = at rest j z a (ap (λ b. b || is_replaced xs i) (sym (r i)) ∙ e) (is_some (leaf_at 0 t j)) refl (j == i) refl

-- none of them replaces it
postponed : (xs : List ListItem) (t : Tree) (i : ℕ) (y : LeafNode) → IsSome (leaf_at 0 t i) → is_replaced xs i ≡ false
    → after_updates xs (update t i y) ≡ option_map (λ u. update u i y) (after_updates xs t)
unfolding after_updates
postponed [] t i y set e = refl
postponed (x ∷ xs) t i y set e = go (λ s. postponed xs s i y) (effect x)
  where
    later : Option Tree → Option Tree
    later o = option_map (λ u. update u i y) o

    Rest : Type 0
    Rest = (s : Tree) → IsSome (leaf_at 0 s i) → is_replaced xs i ≡ false → after_updates xs (update s i y) ≡ later (after_updates xs s)

    none : (a b : Bool) → (a || b) ≡ false → (a ≡ false) × (b ≡ false)
    none true b f = absurd (false≢true (sym f))
    none false b f = (refl, f)

    at : Rest → (j : ℕ) (z : LeafNode) → ((u : Tree) → after_update x.sender x.proposal u ≡ updated_at (Some j) z u) → (j == i) ≡ false → is_replaced xs i ≡ false
        → (b : Bool) → is_some (leaf_at 0 t j) ≡ b → after_updates (x ∷ xs) (update t i y) ≡ later (after_updates (x ∷ xs) t)
    at below j z a is rest false blank =
        first_item x xs (update t i y) None (a (update t i y) ∙ updated_at-blank (update t i y) j z (non_blank-update t i j y set ∙ blank))
        ∙ sym (ap later (first_item x xs t None (a t ∙ updated_at-blank t j z blank)))
    at below j z a is rest true here =
        let away : i ≢ j = λ same. false≢true (sym is ∙ grind (arith, nat_tests, same)) in
        first_item x xs (update t i y) (Some (update (update t i y) j z)) (a (update t i y) ∙ updated_at-set (update t i y) j z (non_blank-update t i j y set ∙ here))
        ∙ ap (after_updates xs) (update-both t i j y z set here away)
        ∙ below (update t j z) (non_blank-update t j i z here ∙ set) rest
        ∙ sym (ap later (first_item x xs t (Some (update t j z)) (a t ∙ updated_at-set t j z here)))

    go : Rest → Effect x → after_updates (x ∷ xs) (update t i y) ≡ later (after_updates (x ∷ xs) t)
    go below (nothing a r) =
        first_item x xs (update t i y) (Some (update t i y)) (a (update t i y))
        ∙ below t set (none _ (is_replaced xs i) e).1
        ∙ sym (ap later (first_item x xs t (Some t) (a t)))
    go below (refused a) = first_item x xs (update t i y) None (a (update t i y)) ∙ sym (ap later (first_item x xs t None (a t)))
    go below (replaces j z a r) =
        let apart = none _ (is_replaced xs i) e in
        at below j z a (sym (r i) ∙ apart.0) apart.1 (is_some (leaf_at 0 t j)) refl

-- which leaves are blank stays, whatever the list updates
non_blank-after : (xs : List ListItem) (t u : Tree) (i : ℕ) → after_updates xs t ≡ Some u → is_some (leaf_at 0 u i) ≡ is_some (leaf_at 0 t i)
unfolding after_updates
non_blank-after [] t u i e = ap (λ o. is_some (option_and_then (λ v. leaf_at 0 v i) o)) (sym e)
non_blank-after (x ∷ xs) t u i e = go (λ s. non_blank-after xs s u i) (effect x)
  where
    Rest : Type 0
    Rest = (s : Tree) → after_updates xs s ≡ Some u → is_some (leaf_at 0 u i) ≡ is_some (leaf_at 0 s i)

    absent : None ≡ Some u → is_some (leaf_at 0 u i) ≡ is_some (leaf_at 0 t i)
    absent f = absurd (false≢true (ap (λ (o : Option Tree). is_some o) f))

    at : Rest → (j : ℕ) (z : LeafNode) → ((v : Tree) → after_update x.sender x.proposal v ≡ updated_at (Some j) z v) → (b : Bool) → is_some (leaf_at 0 t j) ≡ b
        → is_some (leaf_at 0 u i) ≡ is_some (leaf_at 0 t i)
    at rest j z a false blank = absent (sym (first_item x xs t None (a t ∙ updated_at-blank t j z blank)) ∙ e)
    at rest j z a true here =
        rest (update t j z) (sym (first_item x xs t (Some (update t j z)) (a t ∙ updated_at-set t j z here)) ∙ e)
        ∙ non_blank-update t j i z here

    go : Rest → Effect x → is_some (leaf_at 0 u i) ≡ is_some (leaf_at 0 t i)
    go rest (nothing a r) = rest t (sym (first_item x xs t (Some t) (a t)) ∙ e)
    go rest (refused a) = absent (sym (first_item x xs t None (a t)) ∙ e)
    go rest (replaces j z a r) = at rest j z a (is_some (leaf_at 0 t j)) refl

-- ---- a walk from the end of the list

-- Updates that can't be applied can't be applied after another item
none-more : (x : ListItem) (xs : List ListItem) (t : Tree) → after_updates xs t ≡ None → after_updates (x ∷ xs) t ≡ None
none-more x xs t e = go (effect x)
  where
    at : (j : ℕ) (z : LeafNode) → after_update x.sender x.proposal t ≡ updated_at (Some j) z t → (b : Bool) → is_some (leaf_at 0 t j) ≡ b
        → (again : Bool) → is_replaced xs j ≡ again → after_updates (x ∷ xs) t ≡ None
    at j z a false blank again is = first_item x xs t None (a ∙ updated_at-blank t j z blank)
    at j z a true here true is = first_item x xs t (Some (update t j z)) (a ∙ updated_at-set t j z here) ∙ superseded xs t j z here is ∙ e
    at j z a true here false is =
        first_item x xs t (Some (update t j z)) (a ∙ updated_at-set t j z here) ∙ postponed xs t j z here is ∙ ap (option_map (λ u. update u j z)) e

    go : Effect x → after_updates (x ∷ xs) t ≡ None
    go (nothing a r) = first_item x xs t (Some t) (a t) ∙ e
    go (refused a) = first_item x xs t None (a t)
    go (replaces j z a r) = at j z (a t) (is_some (leaf_at 0 t j)) refl (is_replaced xs j) refl

pub none-before : (n : ℕ) (xs : List ListItem) (t : Tree) → after_updates (drop n xs) t ≡ None → after_updates xs t ≡ None
none-before zero xs t e = e
none-before (suc n) [] t e = e
none-before (suc n) (x ∷ xs) t e = none-more x xs t (none-before n xs t e)

-- no item is left
pub applied-start : (t : Tree) (set : BTreeSet ℕ) → IsEmpty set → AreApplied [] t set t
unfolding after_updates
applied-start t set empty = record {
  applied = refl;
  indices = λ i. ap (λ ks. list_any (λ k. is_eq (nat_cmp i k)) ks) empty;
}

equal_numbers : (i j : ℕ) → is_eq (nat_cmp i j) ≡ (i == j)
equal_numbers i j = grind (arith, nat_tests)

either : (b c : Bool) → cond b true c ≡ (b || c)
either true c = refl
either false c = refl

module _ (x : ListItem) (xs : List ListItem) (t : Tree) (set : BTreeSet ℕ) (u : Tree) (known : AreApplied xs t set u) where
  -- an item that is no Update
  pub applied-other : ((y : LeafNode) → x.proposal ≡ Update y → ⊥) → AreApplied (x ∷ xs) t set u
  applied-other none = go x.proposal refl
    where
      other : (p : Proposal) → x.proposal ≡ p → ((v : Tree) → after_update x.sender p v ≡ Some v) → replaced_leaf x.sender p ≡ None → AreApplied (x ∷ xs) t set u
      other p e a r = record {
        applied = first_item x xs t (Some t) (ap (λ q. after_update x.sender q t) e ∙ a t) ∙ known.applied;
        indices = λ j. known.indices j ∙ ap (λ o. is_leaf_number o j || is_replaced xs j) (sym (ap (λ q. replaced_leaf x.sender q) e ∙ r));
      }

      go : (p : Proposal) → x.proposal ≡ p → AreApplied (x ∷ xs) t set u
      go (Add k) e = other (Add k) e (λ v. refl) refl
      go (Update y) e = absurd (none y e)
      go (Remove i) e = other (Remove i) e (λ v. refl) refl
      go (ContextExtensions es) e = other (ContextExtensions es) e (λ v. refl) refl
      go (PreSharedKey k) e = other (PreSharedKey k) e (λ v. refl) refl
      go (ReInit k) e = other (ReInit k) e (λ v. refl) refl
      go (ExternalInit k) e = other (ExternalInit k) e (λ v. refl) refl

  module _ (y : LeafNode) (is : x.proposal ≡ Update y) where
    -- an Update from no member
    pub applied-no_member : member_index x.sender ≡ None → after_updates (x ∷ xs) t ≡ None
    applied-no_member e = first_item x xs t None (ap (λ p. after_update x.sender p t) is ∙ ap (λ o. updated_at o y t) e)

    module _ (i : ℕ) (sender : member_index x.sender ≡ Some i) where
      step : after_update x.sender x.proposal t ≡ updated_at (Some i) y t
      step = ap (λ p. after_update x.sender p t) is ∙ ap (λ o. updated_at o y t) sender

      -- an Update of a blank leaf
      pub applied-blank : is_some (leaf_at 0 u i) ≡ false → after_updates (x ∷ xs) t ≡ None
      applied-blank blank = first_item x xs t None (step ∙ updated_at-blank t i y (sym (non_blank-after xs t u i known.applied) ∙ blank))

      -- an Update of a non-blank leaf
      module _ (set_now : IsSome (leaf_at 0 u i)) (new : BTreeSet ℕ) (more : (j : ℕ) → contains nat_cmp new j ≡ cond (is_eq (nat_cmp i j)) true (contains nat_cmp set j)) where
        here : IsSome (leaf_at 0 t i)
        here = sym (non_blank-after xs t u i known.applied) ∙ set_now

        indices-more : (j : ℕ) → contains nat_cmp new j ≡ is_replaced (x ∷ xs) j
        indices-more j =
            more j
            ∙ either (is_eq (nat_cmp i j)) (contains nat_cmp set j)
            ∙ (λ k. equal_numbers i j k || known.indices j k)
            ∙ ap (λ o. is_leaf_number o j || is_replaced xs j) (sym (ap (λ p. replaced_leaf x.sender p) is ∙ sender))

        -- which a later one replaces again
        pub applied-superseded : contains nat_cmp set i ≡ true → AreApplied (x ∷ xs) t new u
        applied-superseded met = record {
          applied =
              first_item x xs t (Some (update t i y)) (step ∙ updated_at-set t i y here)
              ∙ superseded xs t i y here (sym (known.indices i) ∙ met)
              ∙ known.applied;
          indices = indices-more;
        }

        -- which no later one replaces
        pub applied-last : contains nat_cmp set i ≡ false → (v : Tree) → v ≡ update u i y → AreApplied (x ∷ xs) t new v
        applied-last unmet v e = record {
          applied =
              first_item x xs t (Some (update t i y)) (step ∙ updated_at-set t i y here)
              ∙ postponed xs t i y here (sym (known.indices i) ∙ unmet)
              ∙ ap (option_map (λ w. update w i y)) known.applied
              ∙ ap Some (sym e);
          indices = indices-more;
        }
