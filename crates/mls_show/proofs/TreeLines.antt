-- The lines of a tree's entries, one after the other.
use Rattle.std.proofs.Common.{◌≡◌, ℕ, zero, suc, ◌+◌, ◌-◌, ◌/◌, ◌<◌, ◌≤◌, List, [], ◌∷◌, ◌++◌, length, replicate, Option, Some, None, Ok, refl, sym, ap, ◌∙◌, append_assoc, arith, length-append, subst}
use Rattle.std.proofs.lemmas.List.{append-nil, length-replicate}
use Rattle.mls_wire.specs.ListLoops.{with_front}
use Rattle.mls_nodes.specs.NodeModel.{NodeValue, leaf_node, parent_node}
use Rattle.mls_nodes.specs.NodeValues.{entry_value}
use Rattle.mls_nodes.specs.RatchetTreeEncoding.{filled, full_size}
use Rattle.mls_nodes.specs.FilledTree.{full_size-enough, filled-least}
use Rattle.mls_nodes.specs.RatchetTreeReading.{RatchetTreeReaderModel, with_first, StartsReading, ReadsEntry}
use Rattle.mls_nodes.specs.declared.node.Node.{Node}
use Rattle.mls_tree.specs.Tree.{leaves_among}
use Rattle.mls_show.specs.TreeText.{lines_by, tree_counts_line}
use Rattle.mls_show.specs.TreeTextInternal.{PutsEntries, GivesTextBy}

abbrev Entries : Type 0
Entries = List (Option NodeValue)

-- the leaf nodes of a list in two parts
pub leaves_among_append : (xs ys : Entries) → leaves_among (xs ++ ys) ≡ leaves_among xs + leaves_among ys
leaves_among_append [] ys = omega arith
leaves_among_append (None ∷ xs) ys = leaves_among_append xs ys
leaves_among_append (Some (leaf_node l) ∷ xs) ys = omega (arith, leaves_among_append xs ys)
leaves_among_append (Some (parent_node p) ∷ xs) ys = leaves_among_append xs ys

-- blank entries have no leaf node
no_leaves : (n : ℕ) → leaves_among (replicate n None) ≡ 0
no_leaves zero = refl
no_leaves (suc n) = no_leaves n

first_of : (x : Option NodeValue) (xs : Entries) (o : Option Entries) → with_front xs (with_first x o) ≡ with_front (xs ++ x ∷ []) o
first_of x xs None = refl
first_of x xs (Some ys) = ap (λ (zs : Entries). Some zs) (sym (append_assoc xs (x ∷ []) ys))

-- the number of nodes of the full tree
filled_size : (ns : Entries) → length (filled ns) ≡ full_size (length ns)
filled_size ns =
    let blank = full_size (length ns) - length ns in
    omega (arith, length-append ns (replicate blank None), length-replicate {A = Option NodeValue} blank None, full_size-enough (length ns))

-- its bounds
pub full_bounds : (count size : ℕ) → count ≤ 2097151 → size ≡ full_size count → (count ≤ size) × (size ≤ 2097151)
full_bounds count size le e =
    let ns : Entries = replicate count None in
    let n : length ns ≡ count = length-replicate {A = Option NodeValue} count None in
    let same : length (filled ns) ≡ size = filled_size ns ∙ ap full_size n ∙ sym e in
    (omega (arith, full_size-enough count, e), omega (arith, same, filled-least ns 20 (omega (arith, n))))

-- what is made of a node at a node index
module _ (line : ℕ → Option NodeValue → List ℕ) where
  -- the lines of a list in two parts
  pub lines_by-append : (k : ℕ) (xs ys : Entries) → lines_by line k (xs ++ ys) ≡ lines_by line k xs ++ lines_by line (k + length xs) ys
  lines_by-append k [] ys = ap (λ (n : ℕ). lines_by line n ys) (omega arith)
  lines_by-append k (x ∷ xs) ys =
      let e : k + 1 + length xs ≡ k + suc (length xs) = omega arith in
      ap (λ (t : List ℕ). line k x ++ t) (lines_by-append (k + 1) xs ys ∙ ap (λ (n : ℕ). lines_by line (k + 1) xs ++ lines_by line n ys) e)
      ∙ sym (append_assoc (line k x) (lines_by line (k + 1) xs) (lines_by line (k + suc (length xs)) ys))

  -- ---- the loop over the entries

  -- What the loop has done after the first entries, where `rest` are those still to be read.
  pub record LinesSoFar (text0 text : List ℕ) (members node_index : ℕ) (whole rest : Option Entries) : Type 0 where
    pub done : Entries
    pub text_is : text ≡ text0 ++ lines_by line 0 done
    pub members_is : members ≡ leaves_among done
    pub count_is : node_index ≡ length done
    pub whole_is : with_front done rest ≡ whole

  pub lines_more : (text0 text0' text' : List ℕ) (members more members' k k' : ℕ) (whole old new : Option Entries) (x : Option NodeValue)
      → LinesSoFar text0 text0' members k whole old → old ≡ with_first x new → text' ≡ text0' ++ line k x → more ≡ leaves_among (x ∷ []) → members' ≡ members + more → k' ≡ k + 1
      → LinesSoFar text0 text' members' k' whole new
  lines_more text0 text0' text' members more members' k k' whole old new x h first made leaf sum next = record {
    done = h.done ++ x ∷ [];
    text_is =
        let one : lines_by line (0 + length h.done) (x ∷ []) ≡ line k x = append-nil (line (0 + length h.done) x) ∙ ap (λ (n : ℕ). line n x) (omega (arith, h.count_is)) in
        made ∙ ap (λ (t : List ℕ). t ++ line k x) h.text_is ∙ append_assoc text0 (lines_by line 0 h.done) (line k x)
        ∙ ap (λ (t : List ℕ). text0 ++ t) (ap (λ (t : List ℕ). lines_by line 0 h.done ++ t) (sym one) ∙ sym (lines_by-append 0 h.done (x ∷ [])));
    members_is = omega (arith, h.members_is, leaf, sum, leaves_among_append h.done (x ∷ []));
    count_is = omega (arith, h.count_is, next, length-append h.done (x ∷ []));
    whole_is = sym (first_of x h.done new) ∙ ap (with_front h.done) (sym first) ∙ h.whole_is;
  }

  -- one more entry is read, and its line is appended
  pub entry_more : (text0 text text' : List ℕ) (members more k k' : ℕ) (whole : Option Entries) (old new : RatchetTreeReaderModel) (o : Option (Option Node)) (x : Option Node)
      → LinesSoFar text0 text members k whole old.rest → old.node_index ≡ k → members ≤ k → ReadsEntry old new (Ok o) → o ≡ Some x
      → text' ≡ text ++ line k (entry_value x) → more ≡ leaves_among (entry_value x ∷ []) → more ≤ 1 → k' ≡ new.node_index
      → LinesSoFar text0 text' (members + more) k' whole new.rest × (new.node_index ≡ k') × (members + more ≤ k')
  entry_more text0 text text' members more k k' whole old new o x h same few read is made leaf small next =
      let r = subst (λ (z : Option (Option Node)). ReadsEntry old new (Ok z)) is read in (
        lines_more text0 text text' members more (members + more) k k' whole old.rest new.rest (entry_value x) h r.0 made leaf refl (omega (arith, r.1, same, next)),
        sym next,
        omega (arith, few, small, r.1, same, next),
      )

  -- ---- the whole report

  -- the lines of the entries, those of the blank ones and the counts are the report
  pub whole_text : (bytes text0 text1 text2 text3 : List ℕ) (r later : RatchetTreeReaderModel) (members count size leaves : ℕ) → text0 ≡ [] → StartsReading bytes (Ok r)
      → PutsEntries line text0 text1 r later (Ok members) → count ≡ later.node_index → size ≡ full_size count
      → text2 ≡ text1 ++ lines_by line count (replicate (size - count) None)
      → leaves ≡ (size + 1) / 2 → text3 ≡ text2 ++ tree_counts_line leaves members → GivesTextBy line bytes (Ok text3)
  whole_text bytes text0 text1 text2 text3 r later members count size leaves empty h p is full blanks half counts =
      let ns = p.0 in
      let blank = full_size (length ns) - length ns in
      let n : count ≡ length ns = is ∙ p.4 in
      let s : size ≡ full_size (length ns) = full ∙ ap full_size n in
      let zero_more : length ns ≡ 0 + length ns = omega arith in
      let all : text2 ≡ lines_by line 0 (filled ns) =
      blanks ∙ ap (λ (t : List ℕ). t ++ lines_by line count (replicate (size - count) None)) (p.2 ∙ ap (λ (t : List ℕ). t ++ lines_by line 0 ns) empty)
      ∙ ap (λ (k : ℕ). lines_by line 0 ns ++ lines_by line k (replicate (size - k) None)) n
      ∙ ap (λ (m : ℕ). lines_by line 0 ns ++ lines_by line (length ns) (replicate (m - length ns) None)) s
      ∙ ap (λ (k : ℕ). lines_by line 0 ns ++ lines_by line k (replicate blank None)) zero_more
      ∙ sym (lines_by-append 0 ns (replicate blank None)) in
      let size_is : length (filled ns) ≡ size = filled_size ns ∙ sym s in
      let members_is : members ≡ leaves_among (filled ns) = omega (arith, p.3, leaves_among_append ns (replicate blank None), no_leaves blank) in (
        ns,
        record { encoded = (h.2 ns).0 p.1; bounded = h.0 },
        counts ∙ ap (λ (t : List ℕ). t ++ tree_counts_line leaves members) all
            ∙ ap (λ (a : ℕ). lines_by line 0 (filled ns) ++ tree_counts_line a members) (half ∙ ap (λ (m : ℕ). (m + 1) / 2) (sym size_is))
            ∙ ap (λ (b : ℕ). lines_by line 0 (filled ns) ++ tree_counts_line ((length (filled ns) + 1) / 2) b) members_is,
      )

  -- ---- the loop over blank nodes

  -- a blank node fewer is left
  pub blank_more : (out0 out1 : List ℕ) (k end : ℕ) (whole : List ℕ) → k < end → out1 ≡ out0 ++ line k None
      → out0 ++ lines_by line k (replicate (end - k) None) ≡ whole → out1 ++ lines_by line (k + 1) (replicate (end - (k + 1)) None) ≡ whole
  blank_more out0 out1 k end whole lt made e =
      let n = end - (k + 1) in
      let more : end - k ≡ suc n = omega arith in
      ap (λ (t : List ℕ). t ++ lines_by line (k + 1) (replicate n None)) made
      ∙ append_assoc out0 (line k None) (lines_by line (k + 1) (replicate n None))
      ∙ ap (λ (m : ℕ). out0 ++ lines_by line k (replicate m None)) (sym more)
      ∙ e
