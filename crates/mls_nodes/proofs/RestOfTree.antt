-- The entries that are still to be read, as an entry is read or the last one was.
use Rattle.std.proofs.Common.{◌≡◌, ◌≢◌, ℕ, suc, ◌+◌, ◌≤◌, ◌<◌, Bool, true, false, ◌&&◌, cond, eqb, nat_le, List, [], ◌∷◌, length, Option, Some, None, Err, refl, sym, ap, ◌∙◌, arith, length-append}
use Rattle.std.specs.Prelude.{◌↔◌, is_some}
use Rattle.std.proofs.lemmas.Bool.{and_right, le-leb, lt-leb, ne_eqb}
use Rattle.std.proofs.lemmas.List.{nil_from_length}
use Rattle.mls_wire.specs.Input.{Input, at}
use Rattle.mls_wire.specs.Parsing.{items_at, body_at, ◌>>=◌}
use Rattle.mls_wire.specs.ParsingInternal.{optional_at}
use Rattle.mls_wire.specs.Encoding.{optional}
use Rattle.mls_wire.specs.ListLoops.{with_front, items_stop, items_go_on, items_end}
use Rattle.mls_wire.specs.ListsExact.{items_some}
use Rattle.mls_wire.specs.OptionalsExact.{optional_exact}
use Rattle.mls_nodes.specs.NodesExact.{node_exact}
use Rattle.mls_nodes.specs.NodeModel.{NodeValue}
use Rattle.mls_nodes.specs.NodeValues.{entry_value}
use Rattle.mls_nodes.specs.Layout.{node}
use Rattle.mls_nodes.specs.RatchetTreeEncoding.{fits_at, fit_from, ends_non_blank, ratchet_tree}
use Rattle.mls_nodes.specs.FilledTree.{ends_more}
use Rattle.mls_nodes.specs.ParsingInternal.{node_model_at, node_in, well_laid_out, tree_at, ends_after, ending, rest_at, GivesNode}
use Rattle.mls_nodes.specs.RatchetTreeReading.{with_first, BeginsWithEntry, RatchetTreeReaderModel, ReadsEntry}
use Rattle.mls_nodes.specs.RatchetTreeContracts.{DecodesTree}
use Rattle.mls_nodes.specs.RatchetTreeContractsInternal.{DecodesEntries}
use Rattle.mls_nodes.specs.declared.node.Node.{Node}
use Rattle.mls_nodes.specs.declared.fault.NodeFault.{NodeFault}
use Rattle.mls_nodes.specs.declared.fault.NodeFault.TheVariants as nodes
use Rattle.mls_nodes.proofs.Entries.{entry_short, entry_kept, entry_in-kept, entry_found, refused_test, tree_takes, tree_again}

abbrev Entries : Type 0
Entries = List (Option NodeValue)

-- the items of an input
abbrev entries_at : Input → Option Entries
entries_at i = items_at (optional_at node_model_at) (length i.left) i

nothing_before : (o : Option Entries) → with_front [] o ≡ o
nothing_before None = refl
nothing_before (Some xs) = refl

entries_end : (i : Input) → i.left ≡ [] → entries_at i ≡ Some []
entries_end i e = items_end (optional_at node_model_at) entry_short [] i (entries_at i) e (nothing_before (entries_at i))

entries_go_on : (i : Input) (x : Option NodeValue) (j : Input) → (i.left ≡ [] → ⊥) → optional_at node_model_at i ≡ Some (x, j) → with_front (x ∷ []) (entries_at j) ≡ entries_at i
entries_go_on i x j some e = items_go_on (optional_at node_model_at) entry_short [] i x j (entries_at i) some e (nothing_before (entries_at i))

-- ---- the end

-- nothing is left, and the entries may end here
pub rest_ends : (k : ℕ) (b : Bool) (after body : Input) → length body.left ≡ 0 → b ≡ true → k ≤ 2097151 → after.left ≡ [] → rest_at k b after body ≡ Some []
unfolding rest_at
rest_ends k b after body none set le whole =
    rw (entries_end body (nil_from_length body.left none), set, whole, le-leb (k + 0) 2097151 (omega arith)) refl

-- the last entry is blank
pub rest_blank : (k : ℕ) (b : Bool) (after body : Input) → length body.left ≡ 0 → b ≡ false → rest_at k b after body ≡ None
unfolding rest_at
rest_blank k b after body none blank =
    rw (entries_end body (nil_from_length body.left none), blank, and_right (true && nat_le (k + 0) 2097151) false refl) refl

-- bytes are after the vector
pub rest_trailing : (k : ℕ) (b : Bool) (after body : Input) → length body.left ≡ 0 → after.left ≢ [] → rest_at k b after body ≡ None
unfolding rest_at
rest_trailing k b after body none some =
    let more : eqb (length after.left) 0 ≡ false = ne_eqb (length after.left) 0 (λ e. some (nil_from_length after.left e)) in
    rw (entries_end body (nil_from_length body.left none), more, and_right b false refl, and_right (true && nat_le (k + 0) 2097151) false refl) refl

-- ---- a fault

ending_crowded : (k : ℕ) (b w : Bool) (i : Input) (o : Option Entries) → entries_at i ≡ o → 2097151 ≤ k → (i.left ≡ [] → ⊥) → ending k b w o ≡ None
ending_crowded k b w i None e le some = refl
ending_crowded k b w i (Some ys) e le some =
    let long : 0 < length ys = items_some (optional node) (optional_at node_model_at) (optional_exact node node_model_at node_exact) i ys some e in
    rw (lt-leb (k + length ys) 2097151 (omega arith), and_right (fit_from k ys) false refl) refl

-- an entry begins where none may be any more
pub rest_crowded : (k : ℕ) (b : Bool) (after body : Input) → 2097151 ≤ k → (body.left ≡ [] → ⊥) → rest_at k b after body ≡ None
unfolding rest_at
rest_crowded k b after body le some = ending_crowded k b (eqb (length after.left) 0) body (entries_at body) refl le some

ending_misplaced : (k : ℕ) (b w : Bool) (x : Option NodeValue) (o : Option Entries) → fits_at k x ≡ false → ending k b w (with_front (x ∷ []) o) ≡ None
ending_misplaced k b w x None e = refl
ending_misplaced k b w x (Some ys) e = rw e refl

ending_lost : (k : ℕ) (b w : Bool) (i : Input) (o : Option (Option NodeValue × Input)) → (i.left ≡ [] → ⊥) → optional_at node_model_at i ≡ o → entry_kept k o ≡ None → ending k b w (entries_at i) ≡ None
ending_lost k b w i None some read none =
    ap (ending k b w) (items_stop (optional_at node_model_at) entry_short [] i (entries_at i) some read (nothing_before (entries_at i)))
ending_lost k b w i (Some y) some read none =
    ap (ending k b w) (sym (entries_go_on i y.0 y.1 some read)) ∙ ending_misplaced k b w y.0 (entries_at y.1) (refused_test (fits_at k y.0) y none)

-- no entry was read
pub rest_lost : (k : ℕ) (b : Bool) (after body : Input) → (body.left ≡ [] → ⊥) → optional_at (node_in k) body ≡ None → rest_at k b after body ≡ None
unfolding rest_at
rest_lost k b after body some none =
    ending_lost k b (eqb (length after.left) 0) body (optional_at node_model_at body) some refl (sym (entry_in-kept k body) ∙ none)

-- ---- one more entry

ends_after_more : (b : Bool) (x : Option Node) (ys : Entries) → ends_after b (entry_value x ∷ ys) ≡ ends_after (is_some x) ys
ends_after_more b None [] = refl
ends_after_more b (Some n) [] = refl
ends_after_more b x (y ∷ ys) = ends_more (entry_value x) y ys

first_if : (b : Bool) (x : Option NodeValue) (ys : Entries) → cond b (Some (x ∷ ys)) None ≡ with_first x (cond b (Some ys) None)
first_if true x ys = refl
first_if false x ys = refl

ending_more : (k : ℕ) (b w : Bool) (x : Option Node) (o : Option Entries) → fits_at k (entry_value x) ≡ true
    → ending k b w (with_front (entry_value x ∷ []) o) ≡ with_first (entry_value x) (ending (k + 1) (is_some x) w o)
ending_more k b w x None e = refl
ending_more k b w x (Some ys) e =
    let few : nat_le (k + suc (length ys)) 2097151 ≡ nat_le (k + 1 + length ys) 2097151 = ap (λ (n : ℕ). nat_le n 2097151) (omega arith) in
    rw (e, few, ends_after_more b x ys) (first_if ((fit_from (k + 1) ys && nat_le (k + 1 + length ys) 2097151) && (ends_after (is_some x) ys && w)) (entry_value x) ys)

-- an entry was read
pub rest_more : (k : ℕ) (b : Bool) (after body : Input) (x : Option Node) (j : Input) → (body.left ≡ [] → ⊥) → optional_at (node_in k) body ≡ Some (entry_value x, j)
    → (rest_at k b after body ≡ with_first (entry_value x) (rest_at (k + 1) (is_some x) after j)) × (length j.left < length body.left)
unfolding rest_at
rest_more k b after body x j some read =
    let found = entry_found k body (entry_value x) j read in (
      ap (ending k b (eqb (length after.left) 0)) (sym (entries_go_on body (entry_value x) j some found.0)) ∙ ending_more k b (eqb (length after.left) 0) x (entries_at j) found.1,
      entry_short body (entry_value x) j found.0,
    )

-- an entry that was read is encoded between the inputs
pub entry_encoded : (k : ℕ) (body : Input) (x : Option NodeValue) (j : Input) → optional_at (node_in k) body ≡ Some (x, j)
    → BeginsWithEntry x body.left j.left × (j.offset + length j.left ≡ body.offset + length body.left)
entry_encoded k body x j read =
    let found = entry_found k body x j read in
    let t = ((optional_exact node node_model_at node_exact).takes body x j found.0).1 in
    ((t.0, t.1, t.2), omega (arith, t.3, ap length t.2, length-append t.0 j.left))

-- a call's answer on a fault
pub entry_fault : (e : NodeFault) (k : ℕ) (b : Bool) (after body new : Input) (old later : RatchetTreeReaderModel) → (body.left ≡ [] → ⊥) → GivesNode (optional_at (node_in k)) body new (Err e)
    → old.rest ≡ rest_at k b after body → ReadsEntry old later (Err e)
entry_fault nodes.OutOfMemory k b after body new old later some h is = tt
entry_fault (nodes.Wire f) k b after body new old later some h is = is ∙ rest_lost k b after body some h
entry_fault (nodes.WrongNodeKind f) k b after body new old later some h is = is ∙ rest_lost k b after body some h
entry_fault nodes.LastBlank k b after body new old later some h is = is ∙ rest_lost k b after body some h
entry_fault nodes.EmptyTree k b after body new old later some h is = is ∙ rest_lost k b after body some h
entry_fault nodes.TooManyLeaves k b after body new old later some h is = is ∙ rest_lost k b after body some h

-- ---- the start

ends_first : (ns : Entries) → ends_after false ns ≡ ends_non_blank ns
ends_first [] = refl
ends_first (x ∷ xs) = refl

two_tests : {A : Type 0} (e w : Bool) (x : A) → cond e (cond w (Some x) None) None ≡ cond (e && w) (Some x) None
two_tests true w x = refl
two_tests false w x = refl

after_test : (l e w : Bool) (ns : Entries) → ends_non_blank ns ≡ e → (cond l (Some ns) None >>= λ xs. cond (ends_non_blank xs) (cond w (Some xs) None) None) ≡ cond (l && (e && w)) (Some ns) None
after_test true e w ns is = rw is (two_tests e w ns)
after_test false e w ns is = refl

ending_whole : (w : Bool) (o : Option Entries) → (well_laid_out o >>= λ xs. cond (ends_non_blank xs) (cond w (Some xs) None) None) ≡ ending 0 false w o
ending_whole w None = refl
ending_whole w (Some ns) =
    let few : nat_le (0 + length ns) 2097151 ≡ nat_le (length ns) 2097151 = ap (λ (n : ℕ). nat_le n 2097151) (omega arith) in
    after_test (fit_from 0 ns && nat_le (length ns) 2097151) (ends_non_blank ns) w ns refl
    ∙ rw (few, ends_first ns) refl

whole_rest : (bytes : List ℕ) (body after : Input) → body_at (at 0 bytes) ≡ Some (body, after) → tree_at bytes ≡ rest_at 0 false after body
unfolding tree_at rest_at
whole_rest bytes body after read = rw read (ending_whole (eqb (length after.left) 0) (entries_at body))

-- the entries to be read at the start are those of the tree
pub rest_whole : (bytes : List ℕ) (body after : Input) → body_at (at 0 bytes) ≡ Some (body, after)
    → (nodes : Entries) → (rest_at 0 false after body ≡ Some nodes) ↔ (ratchet_tree nodes ≡ Some bytes)
rest_whole bytes body after read nodes =
    let same = whole_rest bytes body after read in
    (λ e. tree_takes bytes nodes (same ∙ e), λ e. sym same ∙ tree_again bytes nodes e)

none_whole : (bytes : List ℕ) → body_at (at 0 bytes) ≡ None → tree_at bytes ≡ None
unfolding tree_at
none_whole bytes read = rw read refl

-- without a vector there is no tree
pub no_vector : (bytes : List ℕ) → body_at (at 0 bytes) ≡ None → (nodes : Entries) → ratchet_tree nodes ≡ Some bytes → ⊥
no_vector bytes read nodes e = let bad = sym (none_whole bytes read) ∙ tree_again bytes nodes e in absurd cc

-- ---- a loop over the entries

-- the entries read and those still to be read are the tree
abbrev pub ReadBefore : List ℕ → Entries → Option Entries → Type 0
ReadBefore bytes xs rest = (nodes : Entries) → (with_front xs rest ≡ Some nodes) ↔ (ratchet_tree nodes ≡ Some bytes)

-- the same fault, of the whole decoding
pub decode_fault : (e : NodeFault) (bytes : List ℕ) → DecodesEntries bytes (Err e) → DecodesTree bytes (Err e)
decode_fault nodes.OutOfMemory bytes h = tt
decode_fault (nodes.Wire f) bytes h = h
decode_fault (nodes.WrongNodeKind f) bytes h = h
decode_fault nodes.LastBlank bytes h = h
decode_fault nodes.EmptyTree bytes h = h
decode_fault nodes.TooManyLeaves bytes h = h
