-- Reading entries one after the other, each at its place, and whole trees.
use Rattle.std.specs.Int.{w8}
use Rattle.std.proofs.Common.{◌≡◌, ℕ, suc, ◌+◌, ◌≤◌, ◌<◌, Bool, true, false, ◌&&◌, List, [], ◌∷◌, ◌++◌, length, Option, Some, None, Err, refl, sym, ap, ◌∙◌, append_assoc, arith, nat_le, Result, Ok, cond, eqb, ◌-◌, ◌%◌, map, subst}
use Rattle.std.proofs.lemmas.Bool.{leb-true, and_from, eqb-true, and_parts}
use Rattle.mls_wire.specs.Input.{Input, at}
use Rattle.mls_wire.specs.Parsing.{number_at, items_at, body_at, ◌>>=◌}
use Rattle.mls_wire.specs.ParsingInternal.{flag_at, optional_at}
use Rattle.mls_wire.specs.Encoding.{optional, items, list, sized}
use Rattle.mls_wire.specs.ListLoops.{Shortens, shortens}
use Rattle.mls_wire.specs.OptionalsExact.{optional_exact, optional_long}
use Rattle.mls_wire.specs.ListsExact.{items_take, items_again, sized_of, sized_parts}
use Rattle.mls_wire.specs.ExactParsers.{IsExact}
use Rattle.mls_wire.specs.OptionBind.{bind_some, some_is, allowed}
use Rattle.mls_wire.specs.VectorsExact.{body_takes, body_again}
use Rattle.mls_nodes.specs.NodesExact.{node_exact}
use Rattle.mls_nodes.specs.NodeModel.{NodeValue, leaf_node, parent_node}
use Rattle.mls_nodes.specs.NodeValues.{entry_value}
use Rattle.mls_nodes.specs.Layout.{node}
use Rattle.mls_nodes.specs.RatchetTreeEncoding.{fits_at, fit_from, has_valid_layout, ends_non_blank, ratchet_tree}
use Rattle.std.specs.Prelude.{IfOk, IfErr}
use Rattle.std.proofs.Common.{Vec, Global, zero, replicate, ◌*◌}
use Rattle.std.proofs.lemmas.List.{map_push}
use Rattle.mls_wire.specs.ReadContracts.{seen}
use Rattle.mls_nodes.specs.RatchetTreeEncoding.{full_from, full_size, filled}
use Rattle.mls_nodes.specs.FilledTree.{full_from-doubles}
use Rattle.mls_nodes.specs.ParsingInternal.{node_model_at, node_in, parent_node_at, well_laid_out, tree_at}
use Rattle.mls_nodes.specs.LeafParsing.{leaf_node_at}
use Rattle.mls_nodes.specs.RatchetTreeContracts.{DecodesTree}
use Rattle.mls_nodes.specs.declared.leaf.LeafNode.{LeafNode}
use Rattle.mls_nodes.specs.declared.parent.ParentNode.{ParentNode}
use Rattle.mls_nodes.specs.declared.node.Node.{Node}
use Rattle.mls_nodes.specs.declared.fault.NodeFault.{NodeFault}
use Rattle.mls_nodes.specs.declared.fault.NodeFault.TheVariants as nodes
use Rattle.std.proofs.lemmas.List.{length-map, append-nil, nil_from_length}

and_assoc : (a b c : Bool) → (a && (b && c)) ≡ ((a && b) && c)
and_assoc true b c = refl
and_assoc false b c = refl

pub stand_push : (p : ℕ) (xs : List (Option NodeValue)) (x : Option NodeValue) (more : List (Option NodeValue)) → fit_from p (xs ++ x ∷ more) ≡ (fit_from p xs && (fits_at (p + length xs) x && fit_from (p + length xs + 1) more))
stand_push p [] x more = ap (λ (n : ℕ). fits_at n x && fit_from (n + 1) more) (omega arith)
stand_push p (y ∷ xs) x more =
    let e : (p + 1) + length xs ≡ p + suc (length xs) = omega arith in
    ap (λ (b : Bool). fits_at p y && b) (stand_push (p + 1) xs x more ∙ ap (λ (n : ℕ). fit_from (p + 1) xs && (fits_at n x && fit_from (n + 1) more)) e)
    ∙ and_assoc (fits_at p y) (fit_from (p + 1) xs) _

pub entry_short : Shortens (optional_at node_model_at)
entry_short = shortens (optional node) (optional_at node_model_at) (optional_exact node node_model_at node_exact) (optional_long node)

pub stand_more : (xs : List (Option NodeValue)) (x : Option NodeValue) → fit_from 0 xs ≡ true → fits_at (length xs) x ≡ true → fit_from 0 (xs ++ x ∷ []) ≡ true
stand_more xs x p q =
    let here : fits_at (0 + length xs) x ≡ true = ap (λ (n : ℕ). fits_at n x) (omega arith) ∙ q in
    stand_push 0 xs x [] ∙ and_from _ _ p (and_from _ _ here refl)

-- ---- an entry whose kind is judged before its body

-- what was read, where it may stand at a place
abbrev kept : ℕ → Option (NodeValue × Input) → Option (NodeValue × Input)
kept node_index None = None
kept node_index (Some n) = cond (fits_at node_index (Some n.0)) (Some n) None

abbrev pub entry_kept : ℕ → Option (Option NodeValue × Input) → Option (Option NodeValue × Input)
entry_kept node_index None = None
entry_kept node_index (Some x) = cond (fits_at node_index x.0) (Some x) None

pub both_none : {A : Type 0} (b : Bool) → ◌≡◌ {A = Option A} (cond b None None) None
both_none true = refl
both_none false = refl

one_kind : (k : ℕ) → eqb k 1 ≡ true → eqb k 2 ≡ true → ⊥
one_kind k p q = absurd (omega (arith, eqb-true k 1 p, eqb-true k 2 q))

checked : (node_index k : ℕ) (a b : Bool) → eqb k 1 ≡ a → eqb k 2 ≡ b → (l : Option (LeafNode × Input)) (o : Option (ParentNode × Input))
    → cond (a && eqb (node_index % 2) 0) (l >>= λ x. Some (leaf_node x.0, x.1)) (cond (b && eqb (node_index % 2) 1) (o >>= λ x. Some (parent_node x.0, x.1)) None)
    ≡ kept node_index (cond a (l >>= λ x. Some (leaf_node x.0, x.1)) (cond b (o >>= λ x. Some (parent_node x.0, x.1)) None))
checked node_index k true true p q l o = absurd (one_kind k p q)
checked node_index k true false p q None o = both_none (eqb (node_index % 2) 0)
checked node_index k true false p q (Some x) o = refl
checked node_index k false true p q l None = both_none (eqb (node_index % 2) 1)
checked node_index k false true p q l (Some x) = refl
checked node_index k false false p q l o = refl

checked_of : (node_index : ℕ) (o : Option (ℕ × Input))
    → (o >>= λ kind. cond (eqb kind.0 1 && eqb (node_index % 2) 0) (leaf_node_at kind.1 >>= λ x. Some (leaf_node x.0, x.1)) (cond (eqb kind.0 2 && eqb (node_index % 2) 1) (parent_node_at kind.1 >>= λ x. Some (parent_node x.0, x.1)) None))
    ≡ kept node_index (o >>= λ kind. cond (eqb kind.0 1) (leaf_node_at kind.1 >>= λ x. Some (leaf_node x.0, x.1)) (cond (eqb kind.0 2) (parent_node_at kind.1 >>= λ x. Some (parent_node x.0, x.1)) None))
checked_of node_index None = refl
checked_of node_index (Some kind) = checked node_index kind.0 (eqb kind.0 1) (eqb kind.0 2) refl refl (leaf_node_at kind.1) (parent_node_at kind.1)

node_in-kept : (node_index : ℕ) (i : Input) → node_in node_index i ≡ kept node_index (node_model_at i)
unfolding node_in node_model_at
node_in-kept node_index i = checked_of node_index (number_at w8 i)

abbrev set : Option (NodeValue × Input) → Option (Option NodeValue × Input)
set o = o >>= λ x. Some (Some x.0, x.1)

set_test : (b : Bool) (n : NodeValue × Input) → set (cond b (Some n) None) ≡ cond b (Some (Some n.0, n.1)) None
set_test true n = refl
set_test false n = refl

set_kept : (node_index : ℕ) (o : Option (NodeValue × Input)) → set (kept node_index o) ≡ entry_kept node_index (set o)
set_kept node_index None = refl
set_kept node_index (Some n) = set_test (fits_at node_index (Some n.0)) n

there_kept : (node_index : ℕ) (b : Bool) (i : Input) → cond b (set (node_in node_index i)) (Some (None, i)) ≡ entry_kept node_index (cond b (set (node_model_at i)) (Some (None, i)))
there_kept node_index true i = ap set (node_in-kept node_index i) ∙ set_kept node_index (node_model_at i)
there_kept node_index false i = refl

entry_of : (node_index : ℕ) (o : Option (Bool × Input))
    → (o >>= λ there. cond there.0 (set (node_in node_index there.1)) (Some (None, there.1)))
    ≡ entry_kept node_index (o >>= λ there. cond there.0 (set (node_model_at there.1)) (Some (None, there.1)))
entry_of node_index None = refl
entry_of node_index (Some there) = there_kept node_index there.0 there.1

pub entry_in-kept : (node_index : ℕ) (i : Input) → optional_at (node_in node_index) i ≡ entry_kept node_index (optional_at node_model_at i)
unfolding optional_at
entry_in-kept node_index i = entry_of node_index (flag_at i)

kept_is : (node_index : ℕ) (o : Option (Option NodeValue × Input)) (x : Option NodeValue) (j : Input) → entry_kept node_index o ≡ Some (x, j) → (o ≡ Some (x, j)) × (fits_at node_index x ≡ true)
kept_is node_index None x j e = absurd cc
kept_is node_index (Some y) x j e =
    let a = allowed (fits_at node_index y.0) (Some y) (x, j) e in
    (a.1, subst (λ (z : Option NodeValue × Input). fits_at node_index z.0 ≡ true) (some_is y (x, j) a.1) a.0)

-- an entry that was read is one, and may stand at its place
pub entry_found : (node_index : ℕ) (i : Input) (x : Option NodeValue) (j : Input) → optional_at (node_in node_index) i ≡ Some (x, j) → (optional_at node_model_at i ≡ Some (x, j)) × (fits_at node_index x ≡ true)
entry_found node_index i x j e = kept_is node_index (optional_at node_model_at i) x j (sym (entry_in-kept node_index i) ∙ e)

pub refused_test : {A : Type 0} (b : Bool) (x : A) → cond b (Some x) None ≡ None → b ≡ false
refused_test true x e = absurd cc
refused_test false x e = refl

-- ---- whole trees

well_laid_out_is : (o : Option (List (Option NodeValue))) (ns : List (Option NodeValue)) → well_laid_out o ≡ Some ns → (o ≡ Some ns) × ((fit_from 0 ns && nat_le (length ns) 2097151) ≡ true)
well_laid_out_is None ns e = absurd cc
well_laid_out_is (Some xs) ns e =
    let a = allowed (fit_from 0 xs && nat_le (length xs) 2097151) (Some xs) ns e in
    let same = some_is xs ns a.1 in
    (ap (λ (x : List (Option NodeValue)). Some x) same, subst (λ (x : List (Option NodeValue)). (fit_from 0 x && nat_le (length x) 2097151) ≡ true) same a.0)

entries_exact : IsExact (optional node) (optional_at node_model_at)
entries_exact = optional_exact node node_model_at node_exact

pub tree_takes : (bytes : List ℕ) (ns : List (Option NodeValue)) → tree_at bytes ≡ Some ns → ratchet_tree ns ≡ Some bytes
unfolding tree_at ratchet_tree list
tree_takes bytes ns e =
    let f = optional_at node_model_at in
    let a = bind_some (body_at (at 0 bytes)) (λ body. well_laid_out (items_at f (length body.0.left) body.0) >>= λ xs. cond (ends_non_blank xs) (cond (eqb (length body.1.left) 0) (Some xs) None) None) ns e in
    let body = a.0.0 in
    let rest = a.0.1 in
    let b = bind_some (well_laid_out (items_at f (length body.left) body)) (λ xs. cond (ends_non_blank xs) (cond (eqb (length rest.left) 0) (Some xs) None) None) ns a.2 in
    let c = allowed (ends_non_blank b.0) (cond (eqb (length rest.left) 0) (Some b.0) None) ns b.2 in
    let d = allowed (eqb (length rest.left) 0) (Some b.0) ns c.1 in
    let p = well_laid_out_is _ b.0 b.1 in
    let t = (body_takes (at 0 bytes) body rest a.1).0 in
    let none : rest.left ≡ [] = nil_from_length rest.left (eqb-true _ _ d.0) in
    let all : bytes ≡ t.0 = t.2 ∙ ap (λ (r : List ℕ). t.0 ++ r) none ∙ append-nil t.0 in
    let text : items (optional node) b.0 ≡ Some body.left = items_take (optional node) f entries_exact (length body.left) body b.0 p.0 in
    let whole : sized (items (optional node) b.0) ≡ Some bytes = sized_of _ body.left text ∙ t.1 ∙ ap (λ (r : List ℕ). Some r) (sym all) in
    subst (λ (x : List (Option NodeValue)). cond (has_valid_layout x && ends_non_blank x) (sized (items (optional node) x)) None ≡ Some bytes) (some_is b.0 ns d.1) (rw (p.1, c.0) whole)

pub tree_again : (bytes : List ℕ) (ns : List (Option NodeValue)) → ratchet_tree ns ≡ Some bytes → tree_at bytes ≡ Some ns
unfolding tree_at ratchet_tree list
tree_again bytes ns e =
    let f = optional_at node_model_at in
    let a = allowed (has_valid_layout ns && ends_non_blank ns) (sized (items (optional node) ns)) bytes e in
    let p = and_parts (fit_from 0 ns && nat_le (length ns) 2097151) (ends_non_blank ns) a.0 in
    let b = sized_parts (items (optional node) ns) bytes a.1 in
    let c = body_again b.0 bytes [] 0 b.2 in
    let read : body_at (at 0 bytes) ≡ Some (at c.0 b.0, at (0 + length bytes) []) = ap (λ (r : List ℕ). body_at (at 0 r)) (sym (append-nil bytes)) ∙ c.1 in
    let d : items_at f (length b.0) (at c.0 b.0) ≡ Some ns = items_again (optional node) f entries_exact (optional_long node) ns (length b.0) c.0 b.0 (omega arith) b.1 in
    rw (read, d, p.0, p.1) refl

-- ---- the answer

pub tree_few : (bytes : List ℕ) (nodes : List (Option NodeValue)) → tree_at bytes ≡ Some nodes → length nodes ≤ 2097151
unfolding ratchet_tree
tree_few bytes nodes e =
    let a = allowed (has_valid_layout nodes && ends_non_blank nodes) (list (optional node) nodes) bytes (tree_takes bytes nodes e) in
    let b = and_parts (has_valid_layout nodes) (ends_non_blank nodes) a.0 in
    leb-true (length nodes) 2097151 (and_parts (fit_from 0 nodes) _ b.0).1

-- ---- filling up

one_step_of : (count size steps : ℕ) → size < count → 1 ≤ size → count ≤ size + steps → full_from steps size count ≡ full_size count
    → (n : ℕ) × (count ≤ 2 * size + 1 + n) × (full_from n (2 * size + 1) count ≡ full_size count)
one_step_of count size zero lt some le e = absurd (omega arith)
one_step_of count size (suc steps) lt some le e = (steps, omega arith, sym (full_from-doubles steps size count lt) ∙ e)

pub one_step : (count size : ℕ) → size < count → 1 ≤ size → (steps : ℕ) × (count ≤ size + steps) × (full_from steps size count ≡ full_size count)
    → (n : ℕ) × (count ≤ 2 * size + 1 + n) × (full_from n (2 * size + 1) count ≡ full_size count)
one_step count size lt some h = one_step_of count size h.0 lt some h.1 h.2

pub blank_more : (xs ys : List (Option Node)) (size k : ℕ) (whole : List (Option NodeValue)) → ys ≡ xs ++ None ∷ [] → k < size
    → map entry_value xs ++ replicate (size - k) None ≡ whole → map entry_value ys ++ replicate (size - (k + 1)) None ≡ whole
blank_more xs ys size k whole pushed lt e =
    let n = size - (k + 1) in
    let more : size - k ≡ suc n = omega arith in
    let front : map entry_value ys ≡ map entry_value xs ++ None ∷ [] = ap (map entry_value) pushed ∙ map_push entry_value xs None in
    ap (λ (zs : List (Option NodeValue)). zs ++ replicate n None) front
    ∙ append_assoc (map entry_value xs) (None ∷ []) (replicate n None)
    ∙ ap (λ (m : ℕ). map entry_value xs ++ replicate m None) (sym more)
    ∙ e

pub is_filled : (bytes : List ℕ) (xs : List (Option Node)) (r : Result (Vec (Option Node) Global) NodeFault) → tree_at bytes ≡ Some (map entry_value xs) → length bytes ≤ 268435456
    → IfOk r (λ v. map entry_value v.items ≡ filled (map entry_value xs)) → IfErr r (λ e. e ≡ nodes.OutOfMemory) → DecodesTree bytes (seen (λ v. map entry_value v.items) r)
is_filled bytes xs (Ok v) e le full memory = (map entry_value xs, tree_takes bytes (map entry_value xs) e, le, full)
is_filled bytes xs (Err f) e le full memory = rw memory tt

pub blanks_begin : (xs ys : List (Option Node)) (size k : ℕ) → ys ≡ xs → k ≡ length xs → size ≡ full_size (length xs) → map entry_value ys ++ replicate (size - k) None ≡ filled (map entry_value xs)
blanks_begin xs ys size k same e is =
    ap (λ (zs : List (Option Node)). map entry_value zs ++ replicate (size - k) None) same
    ∙ ap (λ (n : ℕ). map entry_value xs ++ replicate n None) (ap (λ (n : ℕ). n - k) is ∙ ap (λ (n : ℕ). full_size (length xs) - n) e ∙ ap (λ (n : ℕ). full_size n - n) (sym (length-map xs entry_value)))
