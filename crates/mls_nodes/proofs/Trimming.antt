-- Entries without the blanks at their end.
use Rattle.mls_wire.specs.ExactTheorems.{unambiguous}
use Rattle.std.proofs.Common.{◌≡◌, ◌≢◌, ◌↔◌, ℕ, ◌+◌, ◌-◌, ◌<◌, ◌≤◌, true, false, ◌&&◌, ◌⊎◌, inl, inr, List, [], ◌∷◌, ◌++◌, length, take, map, get_or, slice_get, Option, Some, None, Result, Ok, Err, refl, sym, ap, ◌∙◌, arith}
use Rattle.std.proofs.lemmas.List.{map_push, take_more, drop_more, length-map, length-take, get_or-map}
use Rattle.std.proofs.lemmas.Option.{get_or_from_slice_get, slice_get_within}
use Rattle.std.proofs.lemmas.Bool.{and_parts, and_right, and_left, lt-leb}
use Rattle.std.specs.Prelude.{is_some, IsSome}
use Rattle.std.proofs.Common.{drop, subst, take-append-drop}
use Rattle.mls_wire.specs.declared.fault.CodecFault.{CodecFault}
use Rattle.mls_wire.specs.declared.fault.CodecFault.TheVariants as codec
use Rattle.mls_wire.specs.Encoding.{list, optional}
use Rattle.mls_wire.specs.ReadContracts.{seen}
use Rattle.mls_wire.specs.WriteContracts.{MakesPiece}
use Rattle.mls_wire.specs.declared.fault.WireFault.{WireFault}
use Rattle.mls_wire.specs.Faults.{too_long_at}
use Rattle.mls_nodes.specs.RatchetTreeContracts.{EncodesTree}
use Rattle.mls_nodes.specs.RatchetTreeContractsInternal.{node_fault}
use Rattle.mls_wire.specs.Parsing.{list_at}
use Rattle.mls_wire.specs.ParsingInternal.{optional_at}
use Rattle.mls_wire.specs.OptionBind.{allowed}
use Rattle.mls_wire.specs.ListsExact.{list_exact}
use Rattle.mls_wire.specs.OptionalsExact.{optional_exact, optional_long}
use Rattle.mls_nodes.specs.FilledTree.{ends_more, trimmed-filled}
use Rattle.mls_wire.specs.Encoding.{IsUniquelyDecodable}
use Rattle.mls_nodes.specs.ParsingInternal.{node_model_at}
use Rattle.mls_nodes.specs.NodesExact.{node_exact, tested_unambiguous}
use Rattle.mls_nodes.specs.RatchetTreeWriting.{FitsNodeIndices, WritesTree}
use Rattle.mls_nodes.proofs.Entries.{both_none, stand_push, stand_more}
use Rattle.mls_nodes.specs.declared.node.Node.{Node}
use Rattle.mls_nodes.specs.declared.fault.NodeFault.{NodeFault}
use Rattle.mls_nodes.specs.declared.fault.NodeFault.TheVariants as nodes
use Rattle.mls_nodes.specs.NodeModel.{NodeValue}
use Rattle.mls_nodes.specs.NodeValues.{node_value, entry_value}
use Rattle.mls_nodes.specs.Layout.{node}
use Rattle.mls_nodes.specs.RatchetTreeEncoding.{fits_at, fit_from, IsFirstMisplaced, ends_non_blank, has_valid_layout, ratchet_tree, prepend_trimmed, trimmed, filled}

pub trimmed-blank : (xs : List (Option NodeValue)) → trimmed (xs ++ None ∷ []) ≡ trimmed xs
trimmed-blank [] = refl
trimmed-blank (x ∷ xs) = ap (prepend_trimmed x) (trimmed-blank xs)

before_some : (x : Option NodeValue) (xs : List (Option NodeValue)) (n : NodeValue) → prepend_trimmed x (xs ++ Some n ∷ []) ≡ x ∷ xs ++ Some n ∷ []
before_some (Some m) xs n = refl
before_some None [] n = refl
before_some None (y ∷ ys) n = refl

pub trimmed-set : (xs : List (Option NodeValue)) (n : NodeValue) → trimmed (xs ++ Some n ∷ []) ≡ xs ++ Some n ∷ []
trimmed-set [] n = refl
trimmed-set (x ∷ xs) n = ap (prepend_trimmed x) (trimmed-set xs n) ∙ before_some x xs n

before_ends : (x : Option NodeValue) (ys : List (Option NodeValue)) → (ys ≡ []) ⊎ (ends_non_blank ys ≡ true) → (prepend_trimmed x ys ≡ []) ⊎ (ends_non_blank (prepend_trimmed x ys) ≡ true)
before_ends None [] h = inl refl
before_ends (Some n) [] h = inr refl
before_ends None (y ∷ ys) (inl e) = absurd cc
before_ends (Some n) (y ∷ ys) (inl e) = absurd cc
before_ends None (y ∷ ys) (inr e) = inr (ends_more None y ys ∙ e)
before_ends (Some n) (y ∷ ys) (inr e) = inr (ends_more (Some n) y ys ∙ e)

pub trimmed-ends : (xs : List (Option NodeValue)) → (trimmed xs ≡ []) ⊎ (ends_non_blank (trimmed xs) ≡ true)
trimmed-ends [] = inl refl
trimmed-ends (x ∷ xs) = before_ends x (trimmed xs) (trimmed-ends xs)

-- ---- the loop from the end

pub entry_at : (es : List (Option Node)) (i : ℕ) (x : Option Node) → i < length es → x ≡ get_or es i x → entry_value x ≡ get_or (map entry_value es) i (entry_value x)
entry_at es i x lt is = ap entry_value is ∙ sym (get_or-map entry_value es i x (entry_value x) lt)

split_end : (es : List (Option Node)) (count : ℕ) (x : Option Node) → 0 < count → count ≤ length es → x ≡ get_or es (count - 1) x → map entry_value (take count es) ≡ map entry_value (take (count - 1) es) ++ entry_value x ∷ []
split_end es count x some le is =
    let n : count ≡ count - 1 + 1 = omega arith in
    let more : take (count - 1 + 1) es ≡ take (count - 1) es ++ x ∷ [] = rw (take_more es (count - 1) x (omega arith), ← is) refl in
    ap (λ (k : ℕ). map entry_value (take k es)) n ∙ ap (map entry_value) more ∙ map_push entry_value (take (count - 1) es) x

pub blank_end : (es : List (Option Node)) (count : ℕ) (x : Option Node) → 0 < count → count ≤ length es → x ≡ get_or es (count - 1) x → is_some x ≡ false → trimmed (map entry_value (take (count - 1) es)) ≡ trimmed (map entry_value (take count es))
blank_end es count None some le is none = sym (ap trimmed (split_end es count None some le is) ∙ trimmed-blank (map entry_value (take (count - 1) es)))
blank_end es count (Some n) some le is none = absurd cc

pub set_end : (es : List (Option Node)) (count : ℕ) (x : Option Node) → 0 < count → count ≤ length es → x ≡ get_or es (count - 1) x → is_some x ≡ true → map entry_value (take count es) ≡ trimmed (map entry_value (take count es))
set_end es count None some le is there = absurd cc
set_end es count (Some n) some le is there =
    let e = split_end es count (Some n) some le is in
    e ∙ sym (ap trimmed e ∙ trimmed-set (map entry_value (take (count - 1) es)) (node_value n))

pub no_end : (es : List (Option Node)) (count : ℕ) → count ≡ 0 → map entry_value (take count es) ≡ trimmed (map entry_value (take count es))
no_end es count e = rw e refl

-- ---- entries at their places

-- one entry more that may stand at its place
pub stand_next : (es : List (Option Node)) (node_index : ℕ) (x : Option Node) → node_index < length es → x ≡ get_or es node_index x → fit_from 0 (take node_index (map entry_value es)) ≡ true → fits_at node_index (entry_value x) ≡ true → fit_from 0 (take (node_index + 1) (map entry_value es)) ≡ true
stand_next es node_index x lt is prepend_trimmed here =
    let xs = map entry_value es in
    let lt2 : node_index < length xs = omega (arith, length-map es entry_value) in
    let at : entry_value x ≡ get_or xs node_index (entry_value x) = entry_at es node_index x lt is in
    let more : take (node_index + 1) xs ≡ take node_index xs ++ entry_value x ∷ [] = rw (take_more xs node_index (entry_value x) lt2, ← at) refl in
    let len : length (take node_index xs) ≡ node_index = omega (arith, length-take node_index xs) in
    rw more (stand_more (take node_index xs) (entry_value x) prepend_trimmed (ap (λ (n : ℕ). fits_at n (entry_value x)) len ∙ here))

-- ---- what was written

pub none_at_all : (es : List (Option Node)) → length es ≡ 0 → map entry_value es ≡ []
none_at_all [] e = refl
none_at_all (x ∷ es) e = absurd (omega arith)

pub some_at_all : (es : List (Option Node)) → length es ≢ 0 → map entry_value es ≢ []
some_at_all [] some e = some refl
some_at_all (x ∷ es) some e = absurd cc

pub misjudged : (e : NodeFault) (ns : List (Option NodeValue)) → ns ≢ [] → FitsNodeIndices {A = Unit {0}} ns (Err e) → WritesTree ns (Err e)
misjudged (nodes.WrongNodeKind node_index) ns some h = (some, h)
misjudged nodes.TooManyLeaves ns some h = (some, h)
misjudged (nodes.Wire f) ns some h = absurd h
misjudged nodes.OutOfMemory ns some h = absurd h
misjudged nodes.EmptyTree ns some h = absurd h
misjudged nodes.LastBlank ns some h = absurd h

pub unwritten : (e : CodecFault) (ns : List (Option NodeValue)) → ns ≢ [] → has_valid_layout ns ≡ true → MakesPiece (list (optional node) ns) (Err e) → WritesTree ns (Err (node_fault e))
unwritten (codec.Wire f) ns some well_laid_out h = (some, h.0, h.1)
unwritten codec.OutOfMemory ns some well_laid_out h = (some, well_laid_out, h)

-- an entry at its place among the others
slice_get-split : {A : Type 0} (xs : List A) (i : ℕ) (x : A) → slice_get xs i ≡ Some x → (xs ≡ take i xs ++ x ∷ drop (i + 1) xs) × (length (take i xs) ≡ i)
slice_get-split {A = A} xs i x e =
    let lt : i < length xs = slice_get_within xs i x e in
    let is : get_or xs i x ≡ x = get_or_from_slice_get xs i x x e in
    (sym (take-append-drop i xs) ∙ ap (λ (ys : List A). take i xs ++ ys) (drop_more xs i x lt ∙ ap (λ (y : A). y ∷ drop (i + 1) xs) is), omega (arith, length-take i xs))

-- ---- the answer

misplaced : (ns : List (Option NodeValue)) (node_index : ℕ) → IsFirstMisplaced ns node_index → has_valid_layout ns ≡ false
misplaced ns node_index h =
    let at = slice_get-split ns node_index h.1 h.2 in
    let push = stand_push 0 (take node_index ns) h.1 (drop (node_index + 1) ns) in
    let here : fits_at (0 + length (take node_index ns)) h.1 ≡ false = ap (λ (n : ℕ). fits_at n h.1) (omega (arith, at.1)) ∙ h.3 in
    let bad : fit_from 0 ns ≡ false = ap (fit_from 0) at.0 ∙ push ∙ and_right (fit_from 0 (take node_index ns)) _ (and_left _ _ here) in
    and_left (fit_from 0 ns) _ bad

not_well_laid_out : (ns : List (Option NodeValue)) → has_valid_layout ns ≡ false → ratchet_tree ns ≡ None
unfolding ratchet_tree
not_well_laid_out ns e = rw e refl

not_encoded : (ns : List (Option NodeValue)) → list (optional node) ns ≡ None → ratchet_tree ns ≡ None
unfolding ratchet_tree
not_encoded ns e = rw e (both_none (has_valid_layout ns && ends_non_blank ns))

no_tree : ratchet_tree [] ≡ None
unfolding ratchet_tree
no_tree = refl

is_tree : (ns : List (Option NodeValue)) (bytes : List ℕ) → has_valid_layout ns ≡ true → ends_non_blank ns ≡ true → list (optional node) ns ≡ Some bytes → ratchet_tree ns ≡ Some bytes
unfolding ratchet_tree
is_tree ns bytes p q e = rw (p, q) e

too_long : (ns : List (Option NodeValue)) → 2097151 < length ns → has_valid_layout ns ≡ false
too_long ns lt = and_right (fit_from 0 ns) _ (lt-leb (length ns) 2097151 lt)

tree_of : (nodes : List (Option NodeValue)) (bytes : List ℕ) → trimmed nodes ≢ [] → has_valid_layout (trimmed nodes) ≡ true → list (optional node) (trimmed nodes) ≡ Some bytes → ratchet_tree (trimmed nodes) ≡ Some bytes
tree_of nodes bytes some p e =
    elim (trimmed-ends nodes) [
      | inl none ↦ absurd (some none)
      | inr ends ↦ is_tree (trimmed nodes) bytes p ends e
    ]

tree_there : (nodes : List (Option NodeValue)) → trimmed nodes ≢ [] → has_valid_layout (trimmed nodes) ≡ true → (o : Option (List ℕ)) → list (optional node) (trimmed nodes) ≡ o → IsSome o → IsSome (ratchet_tree (trimmed nodes))
tree_there nodes some p None e h = absurd cc
tree_there nodes some p (Some bytes) e h = rw (tree_of nodes bytes some p e) refl

pub is_encoded : (nodes : List (Option NodeValue)) (r : Result (List ℕ) NodeFault) → WritesTree (trimmed nodes) r → EncodesTree nodes r
is_encoded ns (Ok bytes) h = tree_of ns bytes h.0 h.1 h.2
is_encoded ns (Err nodes.OutOfMemory) h = tree_there ns h.0 h.1 (list (optional node) (trimmed ns)) refl h.2
is_encoded ns (Err nodes.EmptyTree) h = ap ratchet_tree h ∙ no_tree
is_encoded ns (Err (nodes.WrongNodeKind node_index)) h = not_well_laid_out (trimmed ns) (misplaced (trimmed ns) node_index h.1)
is_encoded ns (Err nodes.TooManyLeaves) h = not_well_laid_out (trimmed ns) (too_long (trimmed ns) h.1)
is_encoded ns (Err (nodes.Wire f)) h = not_encoded (trimmed ns) h.1
is_encoded ns (Err nodes.LastBlank) h = absurd h

module _ {A : Type 0} (view : A → List ℕ) where
  pub is_empty_tree : (ns : List (Option NodeValue)) (r : Result A NodeFault) → WritesTree ns (seen view r) → (r ≡ Err nodes.EmptyTree) ↔ (ns ≡ [])
  is_empty_tree ns (Ok x) h = (λ e. absurd cc, λ e. absurd (h.0 e))
  is_empty_tree ns (Err nodes.EmptyTree) h = (λ e. h, λ e. refl)
  is_empty_tree ns (Err nodes.OutOfMemory) h = (λ e. absurd cc, λ e. absurd (h.0 e))
  is_empty_tree ns (Err (nodes.WrongNodeKind p)) h = (λ e. absurd cc, λ e. absurd (h.0 e))
  is_empty_tree ns (Err nodes.TooManyLeaves) h = (λ e. absurd cc, λ e. absurd (h.0 e))
  is_empty_tree ns (Err (nodes.Wire f)) h = (λ e. absurd cc, λ e. absurd (h.0 e))
  is_empty_tree ns (Err nodes.LastBlank) h = absurd h

  pub is_misplaced : (ns : List (Option NodeValue)) (r : Result A NodeFault) → WritesTree ns (seen view r) → (node_index : ℕ) → r ≡ Err (nodes.WrongNodeKind node_index) → IsFirstMisplaced ns node_index
  is_misplaced ns r h node_index e = (subst (λ (x : Result A NodeFault). WritesTree ns (seen view x)) e h).1

  pub is_too_long : (ns : List (Option NodeValue)) (r : Result A NodeFault) → WritesTree ns (seen view r) → r ≡ Err nodes.TooManyLeaves → 2097151 < length ns
  is_too_long ns r h e = (subst (λ (x : Result A NodeFault). WritesTree ns (seen view x)) e h).1

  pub is_over_a_limit : (ns : List (Option NodeValue)) (r : Result A NodeFault) → WritesTree ns (seen view r) → (f : WireFault) → r ≡ Err (nodes.Wire f) → f ≡ too_long_at 0
  is_over_a_limit ns r h f e = (subst (λ (x : Result A NodeFault). WritesTree ns (seen view x)) e h).2

  pub no_last_blank : (ns : List (Option NodeValue)) (r : Result A NodeFault) → WritesTree ns (seen view r) → r ≢ Err nodes.LastBlank
  no_last_blank ns r h e = subst (λ (x : Result A NodeFault). WritesTree ns (seen view x)) e h

-- ---- laws

pub ratchet_tree_unambiguous : IsUniquelyDecodable ratchet_tree
unfolding ratchet_tree
ratchet_tree_unambiguous = tested_unambiguous (λ ns. has_valid_layout ns && ends_non_blank ns) (list (optional node))
    (unambiguous (list (optional node)) (list_at (optional_at node_model_at)) (list_exact (optional node) (optional_at node_model_at) (optional_exact node node_model_at node_exact) (optional_long node)))

pub tree_again_trimmed : (ns : List (Option NodeValue)) (bytes : List ℕ) → ratchet_tree ns ≡ Some bytes → trimmed (filled ns) ≡ ns
unfolding ratchet_tree
tree_again_trimmed ns bytes e = trimmed-filled ns (and_parts (has_valid_layout ns) (ends_non_blank ns) (allowed (has_valid_layout ns && ends_non_blank ns) (list (optional node) ns) bytes e).0).1
