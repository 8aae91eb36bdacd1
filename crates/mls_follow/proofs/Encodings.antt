-- Which spellings there are.
use Rattle.std.proofs.Common.{◌≡◌, ℕ, ◌^◌, ◌<◌, ◌≤◌, List, [], ◌∷◌, length, Bool, true, false, Option, Some, None, IsSome, refl, arith}
use Rattle.std.specs.Prelude.{◌==◌, if◌then◌else◌, nat_lt, nat_le, All}
use Rattle.std.specs.Int.{Width, w32}
use Rattle.std.specs.List.{list_any}
use Rattle.std.proofs.lemmas.Bool.Decides.{nat_tests}
use Rattle.std.proofs.lemmas.List.Elements.{All-nil, All-cons}
use Rattle.mls_wire.specs.ListsExact.{sized_parts}
use Rattle.mls_wire.specs.IntegersExact.{number_made, wide32, items_width}
use Rattle.mls_wire.specs.EncodedSizes.{vector_some}
use Rattle.mls_wire.specs.Encoding.{◌⊕◌, number, vector, sized, items, list, optional}
use Rattle.mls_nodes.specs.Layout.{unmerged, parent}
use Rattle.mls_nodes.specs.declared.parent.ParentNode.{ParentNode}
use Rattle.mls_tree.specs.TreeOperations.{insert_before, insert_number, with_unmerged, is_overfilled}
use Rattle.mls_tree.proofs.Kept.{either}
use Rattle.mls_apply.proofs.Encodings.{taken_out, put_back, both_encoded, left_encoded, right_encoded}
use mir.Val.{bits}

-- ---- numbers

pub number_encoded : (w : Width) (n : ℕ) → n < 2 ^ bits w → IsSome (number w n)
number_encoded w n lt = put_back (number w n) _ (number_made w n lt)

-- ---- each item of a list

pub items_each : {A : Type 0} (s : A → Option (List ℕ)) (xs : List A) → IsSome (items s xs) → All (λ x. IsSome (s x)) xs
unfolding items
items_each s [] h = All-nil (λ x. IsSome (s x))
items_each s (x ∷ xs) h = All-cons (λ x. IsSome (s x)) x xs (left_encoded (s x) (items s xs) h) (items_each s xs (right_encoded (s x) (items s xs) h))

pub list_each : {A : Type 0} (s : A → Option (List ℕ)) (xs : List A) → IsSome (list s xs) → All (λ x. IsSome (s x)) xs
unfolding list
list_each s xs h =
    let front = taken_out (sized (items s xs)) h in
    let body = sized_parts (items s xs) front.0 front.1 in
    items_each s xs (put_back (items s xs) body.0 body.1)

-- ---- a list of unmerged leaves

numbers_listed : (xs : List ℕ) → IsSome (items (number w32) xs) → length xs ≤ 1048576 → IsSome (list (number w32) xs)
unfolding list sized
numbers_listed xs h few =
    let text = taken_out (items (number w32) xs) h in
    let long = items_width w32 wide32 4 refl xs text.0 text.1 in
    rw text.1 (vector_some text.0 (omega arith))

number_entered : (i : ℕ) (xs : List ℕ) → IsSome (number w32 i) → IsSome (items (number w32) xs) → IsSome (items (number w32) (insert_before i xs))
unfolding items
number_entered i [] n h = both_encoded (number w32 i) (Some []) n refl
number_entered i (x ∷ xs) n h =
    let first = left_encoded (number w32 x) (items (number w32) xs) h in
    let rest = right_encoded (number w32 x) (items (number w32) xs) h in
    either (λ ys. IsSome (items (number w32) ys)) (nat_lt x i) (x ∷ insert_before i xs) (i ∷ x ∷ xs)
    (both_encoded (number w32 x) (items (number w32) (insert_before i xs)) first (number_entered i xs n rest))
    (both_encoded (number w32 i) (number w32 x ⊕ items (number w32) xs) n h)

number_inserted : (i : ℕ) (xs : List ℕ) → IsSome (number w32 i) → IsSome (items (number w32) xs) → IsSome (items (number w32) (insert_number i xs))
number_inserted i xs n h =
    either (λ ys. IsSome (items (number w32) ys)) (list_any (λ x. x == i) xs) xs (insert_before i xs) h (number_entered i xs n h)

unmerged_items : (xs : List ℕ) → IsSome (unmerged xs) → IsSome (items (number w32) xs)
unfolding unmerged list
unmerged_items xs h = go (nat_le (length xs) 1048576) h
  where
    go : (b : Bool) → IsSome (if b then sized (items (number w32) xs) else None) → IsSome (items (number w32) xs)
    go true h =
        let front = taken_out (sized (items (number w32) xs)) h in
        let body = sized_parts (items (number w32) xs) front.0 front.1 in
        put_back (items (number w32) xs) body.0 body.1
    go false h = absurd (cc)

few_unmerged : (xs : List ℕ) → length xs ≤ 1048576 → IsSome (items (number w32) xs) → IsSome (unmerged xs)
unfolding unmerged
few_unmerged xs few h = let e : nat_le (length xs) 1048576 ≡ true = grind (arith, nat_tests) in rw e (numbers_listed xs h few)

pub none_unmerged : IsSome (unmerged [])
none_unmerged = few_unmerged [] (omega arith) (let h : IsSome (items (number w32) []) = unfold items in refl in h)

-- ---- a parent

pub parent_encoded : (key hash : List ℕ) (numbers : List ℕ) → IsSome (vector key) → IsSome (vector hash) → IsSome (unmerged numbers)
    → IsSome (parent (record { encryption_key = key; parent_hash = hash; unmerged = numbers }))
unfolding parent
parent_encoded key hash numbers k h u = both_encoded (vector key) (vector hash ⊕ unmerged numbers) k (both_encoded (vector hash) (unmerged numbers) h u)

parent_parts : (p : ParentNode) → IsSome (parent p) → IsSome (vector p.encryption_key) × IsSome (vector p.parent_hash) × IsSome (unmerged p.unmerged)
unfolding parent
parent_parts p h =
    let rest = right_encoded (vector p.encryption_key) (vector p.parent_hash ⊕ unmerged p.unmerged) h in (
      left_encoded (vector p.encryption_key) (vector p.parent_hash ⊕ unmerged p.unmerged) h,
      left_encoded (vector p.parent_hash) (unmerged p.unmerged) rest,
      right_encoded (vector p.parent_hash) (unmerged p.unmerged) rest,
    )

-- a leaf's number enters a list that has room for it
pub added_encoded : (i : ℕ) (p : Option ParentNode) → IsSome (number w32 i) → is_overfilled i p ≡ false
    → IsSome (optional parent p) → IsSome (optional parent (with_unmerged i p))
unfolding optional
added_encoded i None n capacity h = refl
added_encoded i (Some p) n capacity h =
    let whole = right_encoded (Some (1 ∷ [])) (parent p) h in
    let parts = parent_parts p whole in
    let few : length (insert_number i p.unmerged) ≤ 1048576 = grind (arith, nat_tests) in
    both_encoded (Some (1 ∷ [])) (parent (record p { unmerged = insert_number i p.unmerged })) refl
    (parent_encoded p.encryption_key p.parent_hash (insert_number i p.unmerged) parts.0 parts.1 (few_unmerged (insert_number i p.unmerged) few (number_inserted i p.unmerged n (unmerged_items p.unmerged parts.2))))
