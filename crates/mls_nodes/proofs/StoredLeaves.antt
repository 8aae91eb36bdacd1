-- Leaf nodes that are stored as the bytes that encode them.
use Rattle.std.proofs.Common.{◌≡◌, ◌∙◌, ℕ, ◌-◌, ◌≤◌, List, [], ◌++◌, length, take, Some, None, refl, sym, ap, arith}
use Rattle.std.specs.Prelude.{option_map}
use Rattle.std.proofs.lemmas.List.{append-nil, length-append, take_at}
use Rattle.mls_wire.specs.Input.{Input, at}
use Rattle.mls_wire.specs.Encoding.{vector}
use Rattle.mls_wire.specs.EncodingConcat.{joined}
use Rattle.mls_wire.specs.OptionBind.{bind_some, some_is}
use Rattle.mls_wire.specs.Parsing.{vector_at, list_at}
use Rattle.mls_wire.specs.Limits.{vector_limit}
use Rattle.mls_wire.specs.VectorsExact.{vector_within}
use Rattle.mls_nodes.specs.Parsing.{credential_at}
use Rattle.mls_nodes.specs.Layout.{leaf, unsigned_leaf}
use Rattle.mls_nodes.specs.LeafParsing.{extension_at, capabilities_at, source_at, leaf_node_at}
use Rattle.mls_nodes.specs.StoredLeaf.{stored_leaf, IsAfterKeys}
use Rattle.mls_nodes.specs.NodesExact.{leaf_exact, leaf_signed}
use Rattle.mls_nodes.specs.declared.leaf.LeafNode.{LeafNode}

-- ---- what is read of stored bytes

pub read_again : (x : LeafNode) (bytes : List ℕ) → leaf x ≡ Some bytes → leaf_node_at (at 0 bytes) ≡ Some (x, at (length bytes) [])
read_again x bytes e = ap (λ (b : List ℕ). leaf_node_at (at 0 b)) (sym (append-nil bytes)) ∙ leaf_exact.again x bytes [] 0 tt e ∙ ap (λ (n : ℕ). Some (x, at n [])) (omega arith)

pub stored_is : (x : LeafNode) (bytes : List ℕ) → leaf x ≡ Some bytes → stored_leaf bytes ≡ x
stored_is x bytes e = rw (read_again x bytes e) refl

-- the keys are the first two vectors; credential, capabilities and source follow
pub front_read : (x : LeafNode) (i j : Input) → leaf_node_at i ≡ Some (x, j) → (k : Input) × (vector_at i ≡ Some (x.encryption_key, k)) × (l : Input) × (vector_at k ≡ Some (x.signature_key, l)) × IsAfterKeys x l
unfolding leaf_node_at
front_read x i j e =
    let a = bind_some (vector_at i) _ (x, j) e in
    let b = bind_some (vector_at a.0.1) _ (x, j) a.2 in
    let c = bind_some (credential_at b.0.1) _ (x, j) b.2 in
    let d = bind_some (capabilities_at c.0.1) _ (x, j) c.2 in
    let f = bind_some (source_at d.0.1) _ (x, j) d.2 in
    let g = bind_some (list_at extension_at f.0.1) _ (x, j) f.2 in
    let h = bind_some (vector_at g.0.1) _ (x, j) g.2 in
    let same = some_is _ _ h.2 in (
      a.0.1,
      a.1 ∙ ap (λ (p : LeafNode × Input). Some (p.0.encryption_key, a.0.1)) same,
      b.0.1,
      b.1 ∙ ap (λ (p : LeafNode × Input). Some (p.0.signature_key, b.0.1)) same,
      record {
        after_credential = c.0.1;
        after_capabilities = d.0.1;
        after_source = f.0.1;
        credential = c.1 ∙ ap (λ (p : LeafNode × Input). Some (p.0.credential, c.0.1)) same;
        capabilities = d.1 ∙ ap (λ (p : LeafNode × Input). Some (p.0.capabilities, d.0.1)) same;
        source = f.1 ∙ ap (λ (p : LeafNode × Input). Some (p.0.source, f.0.1)) same;
      },
    )

pub first_key : (x : LeafNode) (bytes : List ℕ) → leaf x ≡ Some bytes → (key : List ℕ) (j : Input) → vector_at (at 0 bytes) ≡ Some (key, j) → key ≡ x.encryption_key
first_key x bytes e key j is =
    let r = front_read x (at 0 bytes) (at (length bytes) []) (read_again x bytes e) in
    ap (λ (p : List ℕ × Input). p.0) (some_is (key, j) (x.encryption_key, r.0) (sym is ∙ r.1))

pub no_first_key : (x : LeafNode) (bytes : List ℕ) → leaf x ≡ Some bytes → vector_at (at 0 bytes) ≡ None → ⊥
no_first_key x bytes e none =
    let r = front_read x (at 0 bytes) (at (length bytes) []) (read_again x bytes e) in
    let bad = sym none ∙ r.1 in absurd cc

-- what is read after the first key
pub second_read : (x : LeafNode) (bytes : List ℕ) → leaf x ≡ Some bytes → (key : List ℕ) (j : Input) → vector_at (at 0 bytes) ≡ Some (key, j) → (l : Input) × (vector_at j ≡ Some (x.signature_key, l)) × IsAfterKeys x l
second_read x bytes e key j is =
    let r = front_read x (at 0 bytes) (at (length bytes) []) (read_again x bytes e) in
    let there : j ≡ r.0 = ap (λ (p : List ℕ × Input). p.1) (some_is (key, j) (x.encryption_key, r.0) (sym is ∙ r.1)) in
    (r.2, ap vector_at there ∙ r.3, r.4)

pub second_key : (x : LeafNode) (bytes : List ℕ) → leaf x ≡ Some bytes → (key other : List ℕ) (j k : Input) → vector_at (at 0 bytes) ≡ Some (key, j) → vector_at j ≡ Some (other, k) → other ≡ x.signature_key
second_key x bytes e key other j k is later =
    let r = second_read x bytes e key j is in
    ap (λ (p : List ℕ × Input). p.0) (some_is (other, k) (x.signature_key, r.0) (sym later ∙ r.1))

pub no_second_key : (x : LeafNode) (bytes : List ℕ) → leaf x ≡ Some bytes → (key : List ℕ) (j : Input) → vector_at (at 0 bytes) ≡ Some (key, j) → vector_at j ≡ None → ⊥
no_second_key x bytes e key j is none =
    let r = second_read x bytes e key j is in
    let bad = sym none ∙ r.1 in absurd cc

-- what is read after both keys
pub after_keys : (x : LeafNode) (bytes : List ℕ) → leaf x ≡ Some bytes → (key other : List ℕ) (j k : Input) → vector_at (at 0 bytes) ≡ Some (key, j) → vector_at j ≡ Some (other, k) → IsAfterKeys x k
after_keys x bytes e key other j k is later =
    let r = second_read x bytes e key j is in
    let there : k ≡ r.0 = ap (λ (p : List ℕ × Input). p.1) (some_is (other, k) (x.signature_key, r.0) (sym later ∙ r.1)) in
    rw there r.2

-- ---- a leaf node that is stored

-- the bytes before what is left encode the leaf node
pub front_is : (x : LeafNode) (i j : Input) → leaf_node_at i ≡ Some (x, j) → (front : List ℕ) × (leaf x ≡ Some front) × (i.left ≡ front ++ j.left)
front_is x i j e = let t = (leaf_exact.takes i x j e).1 in (t.0, t.1, t.2)

pub front_length : (x : LeafNode) (i j : Input) → leaf_node_at i ≡ Some (x, j) → length j.left ≤ length i.left
front_length x i j e = let t = front_is x i j e in omega (arith, ap length t.2, length-append t.0 j.left)

pub front_encodes : (x : LeafNode) (i j : Input) (n : ℕ) → leaf_node_at i ≡ Some (x, j) → n ≡ length i.left - length j.left → leaf x ≡ Some (take n i.left)
front_encodes x i j n e size =
    let t = front_is x i j e in
    let long : n ≡ length t.0 = omega (arith, size, ap length t.2, length-append t.0 j.left) in
    t.1 ∙ ap (λ (b : List ℕ). Some b) (sym (ap (take n) t.2 ∙ take_at t.0 j.left n (sym long)))

-- ---- what is signed of it

pub unsigned_is : (x : LeafNode) (bytes : List ℕ) (k : ℕ) → leaf x ≡ Some bytes → option_map length (vector x.signature) ≡ Some k → unsigned_leaf x ≡ Some (take (length bytes - k) bytes)
unsigned_is x bytes k e size =
    let b = joined (unsigned_leaf x) (vector x.signature) bytes (sym (leaf_signed x) ∙ e) in
    let signature : length b.1 ≡ k = some_is _ _ (sym (ap (option_map length) b.3) ∙ size) in
    let long : length b.0 ≡ length bytes - k = omega (arith, ap length b.4, length-append b.0 b.1, signature) in
    b.2 ∙ ap (λ (t : List ℕ). Some t) (sym (ap (take (length bytes - k)) b.4 ∙ take_at b.0 b.1 (length bytes - k) long))

-- the signature fits into a vector, and its encoding is not longer than that of the leaf node
pub signature_fits : (x : LeafNode) (bytes : List ℕ) → leaf x ≡ Some bytes → length x.signature ≤ vector_limit
signature_fits x bytes e =
    let b = joined (unsigned_leaf x) (vector x.signature) bytes (sym (leaf_signed x) ∙ e) in
    vector_within x.signature b.1 b.3

pub signature_within : (x : LeafNode) (bytes : List ℕ) (k : ℕ) → leaf x ≡ Some bytes → option_map length (vector x.signature) ≡ Some k → k ≤ length bytes
signature_within x bytes k e size =
    let b = joined (unsigned_leaf x) (vector x.signature) bytes (sym (leaf_signed x) ∙ e) in
    let long : length b.1 ≡ k = some_is _ _ (sym (ap (option_map length) b.3) ∙ size) in
    omega (arith, ap length b.4, length-append b.0 b.1, long)
