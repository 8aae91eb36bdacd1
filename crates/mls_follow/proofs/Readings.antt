-- Bytes encode a value or none, a tree or none, and numbers are equal or not.
use denote.RawPtr.{null_ptr}
use Rattle.std.proofs.Common.{◌≡◌, ◌≢◌, ◌∙◌, ℕ, ◌≤◌, List, [], ◌∷◌, length, map, Bool, true, false, Option, Some, None, Ok, Err, refl, sym, inl, inr, arith}
use Rattle.std.specs.Prelude.{◌⊎◌, ◌==◌, nat_le}
use Rattle.std.proofs.lemmas.Bool.{false≢true}
use Rattle.std.proofs.lemmas.Bool.Decides.{nat_tests}
use Rattle.std.proofs.lemmas.Option.{none-some}
use Rattle.mls_wire.specs.ExactReads.{DecodesAll-exact}
use Rattle.mls_wire.specs.ExactParsers.{IsExact}
use Rattle.mls_wire.specs.Input.{Input}
use Rattle.mls_wire.specs.Limits.{input_limit}
use Rattle.mls_wire.specs.Parsing.{whole_at}
use Rattle.mls_wire.specs.declared.fault.CodecFault.TheVariants.{Wire}
use Rattle.mls_wire.specs.declared.fault.WireFault.{WireFault}
use Rattle.mls_wire.specs.declared.fault.WireFaultKind.TheVariants.{TooLong}
use Rattle.mls_nodes.proofs.Entries.{tree_takes, tree_again}
use Rattle.mls_nodes.specs.ParsingInternal.{tree_at}
use Rattle.mls_nodes.specs.RatchetTreeEncoding.{filled}
use Rattle.mls_nodes.specs.NodeModel.{NodeValue, leaf_node, parent_node}
use Rattle.mls_nodes.specs.NodeValues.{entry_value}
use Rattle.mls_nodes.specs.declared.node.Node.{Node}
use Rattle.mls_nodes.specs.declared.node.Node.TheVariants.{Leaf, Parent}
use Rattle.mls_tree.proofs.Filled.{filled_listing}
use Rattle.mls_tree.specs.RatchetTree.{RatchetTree}
use Rattle.mls_tree.specs.TreeDecoding.{IsTreeOf, IsNoTree}

-- some fault of reading
pub some_fault : WireFault
some_fault = record { kind = TooLong; at = 0 }

-- ---- values

-- all of the bytes spell a value, or they spell none
pub read_or_not : {A : Type 0} (s : A → Option (List ℕ)) (f : Input → Option (A × Input)) → IsExact s f → (bytes : List ℕ)
    → ((x : A) × (s x ≡ Some bytes)) ⊎ ((x : A) → s x ≡ Some bytes → ⊥)
read_or_not {A} s f exact bytes = go (whole_at f bytes) refl
  where
    go : (o : Option A) → whole_at f bytes ≡ o → ((x : A) × (s x ≡ Some bytes)) ⊎ ((x : A) → s x ≡ Some bytes → ⊥)
    go None e = inr (DecodesAll-exact s f exact bytes (Err (Wire some_fault)) e)
    go (Some x) e = inl (x, DecodesAll-exact s f exact bytes (Ok x) e)

-- the bytes are those of an input, or too many
pub fits_or_not : (bytes : List ℕ) → (length bytes ≤ input_limit) ⊎ (length bytes ≤ input_limit → ⊥)
fits_or_not bytes = go (nat_le (length bytes) input_limit) refl
  where
    go : (b : Bool) → nat_le (length bytes) input_limit ≡ b → (length bytes ≤ input_limit) ⊎ (length bytes ≤ input_limit → ⊥)
    go true e = inl (grind (arith, nat_tests))
    go false e = inr (λ le. let t : nat_le (length bytes) input_limit ≡ true = grind (arith, nat_tests) in false≢true (sym e ∙ t))

-- ---- trees

-- an entry with this value
entry_of : Option NodeValue → Option Node
entry_of None = None
entry_of (Some (leaf_node x)) = Some (Leaf x)
entry_of (Some (parent_node x)) = Some (Parent (record { ptr = null_ptr; alloc = record { memory = record { seal = tt } }; value = x }))

entry_value-of : (o : Option NodeValue) → entry_value (entry_of o) ≡ o
unfolding entry_of
entry_value-of None = refl
entry_value-of (Some (leaf_node x)) = refl
entry_value-of (Some (parent_node x)) = refl

entries-of : (xs : List (Option NodeValue)) → map entry_value (map entry_of xs) ≡ xs
entries-of [] = refl
entries-of (x ∷ xs) = λ i. entry_value-of x i ∷ entries-of xs i

-- the bytes spell a tree, or none
pub tree_or_not : (bytes : List ℕ) → ((t : RatchetTree) × IsTreeOf bytes t) ⊎ IsNoTree bytes
tree_or_not bytes = go (tree_at bytes) refl (fits_or_not bytes)
  where
    go : (o : Option (List (Option NodeValue))) → tree_at bytes ≡ o → (length bytes ≤ input_limit) ⊎ (length bytes ≤ input_limit → ⊥)
        → ((t : RatchetTree) × IsTreeOf bytes t) ⊎ IsNoTree bytes
    go None e fits = inr (λ nodes h. none-some nodes (sym e ∙ tree_again bytes nodes h.encoded))
    go (Some nodes) e (inr over) = inr (λ others h. over h.bounded)
    go (Some nodes) e (inl le) =
        let encoded = tree_takes bytes nodes e in
        let listed = filled_listing nodes bytes (map entry_of (filled nodes)) encoded (entries-of (filled nodes)) in
        inl (listed.0, record { nodes = nodes; is_tree = record { encoded = encoded; bounded = le }; full = listed.1 ∙ entries-of (filled nodes) })

-- ---- numbers

pub le_or_not : (a b : ℕ) → (a ≤ b) ⊎ (a ≤ b → ⊥)
le_or_not a b = go (nat_le a b) refl
  where
    go : (c : Bool) → nat_le a b ≡ c → (a ≤ b) ⊎ (a ≤ b → ⊥)
    go true e = inl (grind (arith, nat_tests))
    go false e = inr (λ le. let t : nat_le a b ≡ true = grind (arith, nat_tests) in false≢true (sym e ∙ t))

pub same_or_not : (a b : ℕ) → (a ≡ b) ⊎ (a ≢ b)
same_or_not a b = go (a == b) refl
  where
    go : (c : Bool) → (a == b) ≡ c → (a ≡ b) ⊎ (a ≢ b)
    go true e = inl (grind (arith, nat_tests))
    go false e = inr (λ same. let t : (a == b) ≡ true = grind (arith, nat_tests) in false≢true (sym e ∙ t))
