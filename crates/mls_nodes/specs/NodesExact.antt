-- What is read as a node is encoded so, and what is encoded so is read. Internal: no public contract uses this.
use Rattle.std.proofs.Common.{◌≡◌, ◌≢◌, ℕ, ◌≤◌, List, [], ◌++◌, length, Bool, cond, nat_le, Option, Some, None, refl, sym, ap, subst, arith, append_assoc}
use Rattle.std.proofs.lemmas.Bool.{le-leb}
use Rattle.std.specs.Int.{w8, w16, w32, w64}
use Rattle.mls_wire.specs.Encoding.{◌⊕◌, number, vector, list}
use Rattle.mls_wire.specs.Input.{Input}
use Rattle.mls_wire.specs.Parsing.{◌>>=◌, number_at, vector_at, list_at}
use Rattle.mls_wire.specs.ReadContracts.{IsEncodedAt}
use Rattle.mls_wire.specs.ExactParsers.{IsExact, IsLong, Any, field_then, made_of, tag_is, known, never, encoded_as}
use Rattle.mls_wire.specs.OptionBind.{bind_some, some_is, allowed}
use Rattle.mls_wire.specs.IntegersExact.{wide8, wide16, wide32, wide64, number_exact, number_long}
use Rattle.mls_wire.specs.VectorsExact.{vector_exact, vector_long}
use Rattle.mls_wire.specs.ListsExact.{list_exact, list_long}
use Rattle.mls_wire.specs.EncodingConcat.{long_left}
use Rattle.mls_wire.specs.Encoding.{IsUniquelyDecodable}
use Rattle.mls_nodes.specs.Limits.{leaf_limit}
use Rattle.mls_nodes.specs.Extension.{extension}
use Rattle.mls_nodes.specs.Layout.{credential, codes, capabilities, lifetime, source, leaf, unsigned_leaf, unmerged, parent, node, required_capabilities, external_sender, group_context}
use Rattle.mls_nodes.specs.Parsing.{credential_at, codes_at, required_capabilities_at, external_sender_at}
use Rattle.mls_nodes.specs.ParsingInternal.{unmerged_at, parent_node_at, node_model_at, group_context_at}
use Rattle.mls_nodes.specs.LeafParsing.{extension_at, capabilities_at, lifetime_at, source_at, leaf_node_at}
use Rattle.mls_nodes.specs.declared.credential.Credential.{Credential}
use Rattle.mls_nodes.specs.declared.credential.Credential.TheVariants.{Basic, X509}
use Rattle.mls_nodes.specs.declared.leaf_source.LeafSource.{LeafSource}
use Rattle.mls_nodes.specs.declared.leaf_source.LeafSource.TheVariants.{KeyPackage, Update, Commit}
use Rattle.mls_nodes.specs.declared.leaf_source.Lifetime.{Lifetime}
use Rattle.mls_nodes.specs.declared.leaf.LeafNode.{LeafNode}
use Rattle.mls_nodes.specs.declared.parent.ParentNode.{ParentNode}
use Rattle.mls_nodes.specs.NodeModel.{NodeValue, leaf_node, parent_node}

pub extension_exact : IsExact extension extension_at
unfolding extension extension_at
extension_exact =
    field_then Any (λ e. e.kind) (number w16) _ (number_at w16) _ (number_exact w16 wide16)
    (λ kind. made_of _ (λ body. record { kind = kind; body = body }) vector _ vector_at vector_exact
    (λ a. (tt, refl)) (λ a. refl) (λ e p. (e.body, rw (← p.1) refl)))

pub extension_long : IsLong extension
unfolding extension
extension_long e front h = long_left (number w16 e.kind) (vector e.body) front (number_long w16 wide16 e.kind) h

pub lifetime_exact : IsExact lifetime lifetime_at
unfolding lifetime lifetime_at
lifetime_exact =
    field_then Any (λ l. l.not_before) (number w64) _ (number_at w64) _ (number_exact w64 wide64)
    (λ a. made_of _ (λ b. record { not_before = a; not_after = b }) (number w64) _ (number_at w64) (number_exact w64 wide64)
    (λ b. (tt, refl)) (λ b. refl) (λ l p. (l.not_after, rw (← p.1) refl)))

pub codes_exact : IsExact codes codes_at
codes_exact = list_exact (number w16) (number_at w16) (number_exact w16 wide16) (number_long w16 wide16)

module _ {A : Type 0} (test : A → Bool) (s : A → Option (List ℕ)) (f : Input → Option (A × Input)) where
  -- The values that pass a test.
  pub tested_exact : IsExact s f → IsExact (λ x. cond (test x) (s x) None) (λ i. f i >>= λ x. cond (test x.0) (Some (x.0, x.1)) None)
  tested_exact exact = record {
    takes = λ i x j e.
        let a = bind_some (f i) (λ y. cond (test y.0) (Some (y.0, y.1)) None) (x, j) e in
        let b = allowed (test a.0.0) (Some (a.0.0, a.0.1)) (x, j) a.2 in
        let one = (exact.takes i a.0.0 a.0.1 a.1).1 in
        subst (λ (y : A × Input). Any y.0 × IsEncodedAt (λ z. cond (test z) (s z) None) y.0 i y.1) (some_is (a.0.0, a.0.1) (x, j) b.1) (tt, (one.0, rw b.0 one.1, one.2, one.3));
    again = λ x front rest offset p e.
        let a = allowed (test x) (s x) front e in
        let one = exact.again x front rest offset tt a.1 in
        rw (one, a.0) refl;
  }

leaves_exact : IsExact (list (number w32)) (list_at (number_at w32))
leaves_exact = list_exact (number w32) (number_at w32) (number_exact w32 wide32) (number_long w32 wide32)

pub unmerged_exact : IsExact unmerged unmerged_at
unfolding unmerged unmerged_at
unmerged_exact = tested_exact (λ xs. nat_le (length xs) leaf_limit) (list (number w32)) (list_at (number_at w32)) leaves_exact

pub unmerged_is : (xs : List ℕ) → length xs ≤ leaf_limit → unmerged xs ≡ list (number w32) xs
unfolding unmerged
unmerged_is xs le = rw (le-leb (length xs) leaf_limit le) refl

pub unmerged_long : IsLong unmerged
unfolding unmerged
unmerged_long xs front h = list_long (number w32) xs front (allowed (nat_le (length xs) leaf_limit) (list (number w32) xs) front h).1

pub extensions_exact : IsExact (list extension) (list_at extension_at)
extensions_exact = list_exact extension extension_at extension_exact extension_long

pub chain_exact : IsExact (list vector) (list_at vector_at)
chain_exact = list_exact vector vector_at vector_exact vector_long

pub capabilities_exact : IsExact capabilities capabilities_at
unfolding capabilities capabilities_at
capabilities_exact =
    field_then Any (λ c. c.versions) codes _ codes_at _ codes_exact
    (λ a. field_then _ (λ c. c.cipher_suites) codes _ codes_at _ codes_exact
    (λ b. field_then _ (λ c. c.extensions) codes _ codes_at _ codes_exact
    (λ d. field_then _ (λ c. c.proposals) codes _ codes_at _ codes_exact
    (λ e. made_of _ (λ x. record { versions = a; cipher_suites = b; extensions = d; proposals = e; credentials = x }) codes _ codes_at codes_exact
    (λ x. ((((tt, refl), refl), refl), refl)) (λ x. refl)
    (λ c p. (c.credentials, rw (← p.0.0.0.1, ← p.0.0.1, ← p.0.1, ← p.1) refl))))))

-- ---- the kinds of a credential

abbrev credential_kind : Credential → ℕ
credential_kind (Basic identity) = 1
credential_kind (X509 chain) = 2

abbrev credential_body : Credential → Option (List ℕ)
credential_body (Basic identity) = vector identity
credential_body (X509 chain) = list vector chain

credential_parts : (c : Credential) → number w16 (credential_kind c) ⊕ credential_body c ≡ credential c
unfolding credential
credential_parts (Basic identity) = refl
credential_parts (X509 chain) = refl

is_basic_by_kind : (c : Credential) → Unit {0} × (credential_kind c ≡ 1) → (x : List ℕ) × (Basic x ≡ c)
is_basic_by_kind (Basic x) p = (x, refl)
is_basic_by_kind (X509 chain) p = absurd (omega arith)

is_x509 : (c : Credential) → Unit {0} × (credential_kind c ≡ 2) → (x : List (List ℕ)) × (X509 x ≡ c)
is_x509 (Basic x) p = absurd (omega arith)
is_x509 (X509 chain) p = (chain, refl)

no_credential : (n : ℕ) → n ≢ 1 → n ≢ 2 → (c : Credential) → Unit {0} × (credential_kind c ≡ n) → ⊥
no_credential n x y (Basic _) p = x (sym p.1)
no_credential n x y (X509 _) p = y (sym p.1)

pub credential_exact : IsExact credential credential_at
unfolding credential_at
credential_exact = encoded_as Any credential _ credential_at credential_parts
    (field_then Any credential_kind (number w16) credential_body (number_at w16) _ (number_exact w16 wide16)
    (λ n. tag_is credential_kind _ _ _ n 1 (made_of _ Basic vector _ vector_at vector_exact (λ x. (tt, refl)) (λ x. refl) is_basic_by_kind)
    (λ x. tag_is credential_kind _ _ _ n 2 (made_of _ X509 (list vector) _ (list_at vector_at) chain_exact (λ x. (tt, refl)) (λ x. refl) is_x509)
    (λ y. never _ _ (no_credential n x y)))))

-- ---- the sources of a leaf

abbrev source_kind : LeafSource → ℕ
source_kind (KeyPackage l) = 1
source_kind Update = 2
source_kind (Commit h) = 3

abbrev source_body : LeafSource → Option (List ℕ)
source_body (KeyPackage l) = lifetime l
source_body Update = Some []
source_body (Commit h) = vector h

source_parts : (s : LeafSource) → number w8 (source_kind s) ⊕ source_body s ≡ source s
unfolding source number ◌⊕◌
source_parts (KeyPackage l) = refl
source_parts Update = refl
source_parts (Commit h) = refl

is_key_package_source_by_kind : (s : LeafSource) → Unit {0} × (source_kind s ≡ 1) → (x : Lifetime) × (KeyPackage x ≡ s)
is_key_package_source_by_kind (KeyPackage x) p = (x, refl)
is_key_package_source_by_kind Update p = absurd (omega arith)
is_key_package_source_by_kind (Commit x) p = absurd (omega arith)

is_update_source_by_kind : (s : LeafSource) → Unit {0} × (source_kind s ≡ 2) → Update ≡ s
is_update_source_by_kind (KeyPackage x) p = absurd (omega arith)
is_update_source_by_kind Update p = refl
is_update_source_by_kind (Commit x) p = absurd (omega arith)

is_commit_source_by_kind : (s : LeafSource) → Unit {0} × (source_kind s ≡ 3) → (x : List ℕ) × (Commit x ≡ s)
is_commit_source_by_kind (KeyPackage x) p = absurd (omega arith)
is_commit_source_by_kind Update p = absurd (omega arith)
is_commit_source_by_kind (Commit x) p = (x, refl)

no_source : (n : ℕ) → n ≢ 1 → n ≢ 2 → n ≢ 3 → (s : LeafSource) → Unit {0} × (source_kind s ≡ n) → ⊥
no_source n x y z (KeyPackage _) p = x (sym p.1)
no_source n x y z Update p = y (sym p.1)
no_source n x y z (Commit _) p = z (sym p.1)

pub source_exact : IsExact source source_at
unfolding source_at
source_exact = encoded_as Any source _ source_at source_parts
    (field_then Any source_kind (number w8) source_body (number_at w8) _ (number_exact w8 wide8)
    (λ n. tag_is source_kind _ _ _ n 1 (made_of _ KeyPackage lifetime _ lifetime_at lifetime_exact (λ x. (tt, refl)) (λ x. refl) is_key_package_source_by_kind)
    (λ x. tag_is source_kind _ _ _ n 2 (known _ _ Update (tt, refl) refl is_update_source_by_kind)
    (λ y. tag_is source_kind _ _ _ n 3 (made_of _ Commit vector _ vector_at vector_exact (λ x. (tt, refl)) (λ x. refl) is_commit_source_by_kind)
    (λ z. never _ _ (no_source n x y z))))))

pub codes_long : IsLong codes
codes_long = list_long (number w16)

pub credential_long : IsLong credential
unfolding credential
credential_long (Basic x) front h = long_left (number w16 1) (vector x) front (number_long w16 wide16 1) h
credential_long (X509 x) front h = long_left (number w16 2) (list vector x) front (number_long w16 wide16 2) h

pub capabilities_long : IsLong capabilities
unfolding capabilities
capabilities_long c front h = long_left (codes c.versions) _ front (codes_long c.versions) h

pub lifetime_long : IsLong lifetime
unfolding lifetime
lifetime_long l front h = long_left (number w64 l.not_before) _ front (number_long w64 wide64 l.not_before) h

pub source_long : IsLong source
unfolding source
source_long (KeyPackage l) front h = long_left (number w8 1) (lifetime l) front (number_long w8 wide8 1) h
source_long Update front h = number_long w8 wide8 2 front h
source_long (Commit x) front h = long_left (number w8 3) (vector x) front (number_long w8 wide8 3) h

pub leaf_long : IsLong leaf
unfolding leaf
leaf_long n front h = long_left (vector n.encryption_key) _ front (vector_long n.encryption_key) h

pub leaf_exact : IsExact leaf leaf_node_at
unfolding leaf leaf_node_at
leaf_exact =
    field_then Any (λ n. n.encryption_key) vector _ vector_at _ vector_exact
    (λ a. field_then _ (λ n. n.signature_key) vector _ vector_at _ vector_exact
    (λ b. field_then _ (λ n. n.credential) credential _ credential_at _ credential_exact
    (λ c. field_then _ (λ n. n.capabilities) capabilities _ capabilities_at _ capabilities_exact
    (λ d. field_then _ (λ n. n.source) source _ source_at _ source_exact
    (λ e. field_then _ (λ n. n.extensions) (list extension) _ (list_at extension_at) _ extensions_exact
    (λ f. made_of _ (λ x. record { encryption_key = a; signature_key = b; credential = c; capabilities = d; source = e; extensions = f; signature = x }) vector _ vector_at vector_exact
    (λ x. ((((((tt, refl), refl), refl), refl), refl), refl)) (λ x. refl)
    (λ n p. (n.signature, rw (← p.0.0.0.0.0.1, ← p.0.0.0.0.1, ← p.0.0.0.1, ← p.0.0.1, ← p.0.1, ← p.1) refl))))))))

pub parent_exact : IsExact parent parent_node_at
unfolding parent parent_node_at
parent_exact =
    field_then Any (λ n. n.encryption_key) vector _ vector_at _ vector_exact
    (λ a. field_then _ (λ n. n.parent_hash) vector _ vector_at _ vector_exact
    (λ b. made_of _ (λ x. record { encryption_key = a; parent_hash = b; unmerged = x }) unmerged _ unmerged_at unmerged_exact
    (λ x. ((tt, refl), refl)) (λ x. refl)
    (λ n p. (n.unmerged, rw (← p.0.1, ← p.1) refl))))

pub parent_long : IsLong parent
unfolding parent
parent_long n front h = long_left (vector n.encryption_key) _ front (vector_long n.encryption_key) h

-- ---- the kinds of a node

abbrev node_kind : NodeValue → ℕ
node_kind (leaf_node l) = 1
node_kind (parent_node p) = 2

abbrev node_body : NodeValue → Option (List ℕ)
node_body (leaf_node l) = leaf l
node_body (parent_node p) = parent p

node_parts : (n : NodeValue) → number w8 (node_kind n) ⊕ node_body n ≡ node n
unfolding node
node_parts (leaf_node l) = refl
node_parts (parent_node p) = refl

is_leaf_by_kind : (n : NodeValue) → Unit {0} × (node_kind n ≡ 1) → (x : LeafNode) × (leaf_node x ≡ n)
is_leaf_by_kind (leaf_node l) p = (l, refl)
is_leaf_by_kind (parent_node l) p = absurd (omega arith)

is_parent_by_kind : (n : NodeValue) → Unit {0} × (node_kind n ≡ 2) → (x : ParentNode) × (parent_node x ≡ n)
is_parent_by_kind (leaf_node l) p = absurd (omega arith)
is_parent_by_kind (parent_node l) p = (l, refl)

no_node : (k : ℕ) → k ≢ 1 → k ≢ 2 → (n : NodeValue) → Unit {0} × (node_kind n ≡ k) → ⊥
no_node k x y (leaf_node _) p = x (sym p.1)
no_node k x y (parent_node _) p = y (sym p.1)

pub node_exact : IsExact node node_model_at
unfolding node_model_at
node_exact = encoded_as Any node _ node_model_at node_parts
    (field_then Any node_kind (number w8) node_body (number_at w8) _ (number_exact w8 wide8)
    (λ k. tag_is node_kind _ _ _ k 1 (made_of _ leaf_node leaf _ leaf_node_at leaf_exact (λ x. (tt, refl)) (λ x. refl) is_leaf_by_kind)
    (λ x. tag_is node_kind _ _ _ k 2 (made_of _ parent_node parent _ parent_node_at parent_exact (λ x. (tt, refl)) (λ x. refl) is_parent_by_kind)
    (λ y. never _ _ (no_node k x y)))))

-- ---- group contexts

pub required_capabilities_exact : IsExact required_capabilities required_capabilities_at
unfolding required_capabilities required_capabilities_at
required_capabilities_exact =
    field_then Any (λ r. r.extensions) codes _ codes_at _ codes_exact
    (λ a. field_then _ (λ r. r.proposals) codes _ codes_at _ codes_exact
    (λ b. made_of _ (λ x. record { extensions = a; proposals = b; credentials = x }) codes _ codes_at codes_exact
    (λ x. ((tt, refl), refl)) (λ x. refl)
    (λ r p. (r.credentials, rw (← p.0.1, ← p.1) refl))))

pub required_capabilities_long : IsLong required_capabilities
unfolding required_capabilities
required_capabilities_long r front h = long_left (codes r.extensions) _ front (codes_long r.extensions) h

pub external_sender_exact : IsExact external_sender external_sender_at
unfolding external_sender external_sender_at
external_sender_exact =
    field_then Any (λ s. s.signature_key) vector _ vector_at _ vector_exact
    (λ a. made_of _ (λ x. record { signature_key = a; credential = x }) credential _ credential_at credential_exact
    (λ x. (tt, refl)) (λ x. refl) (λ s p. (s.credential, rw (← p.1) refl)))

pub external_sender_long : IsLong external_sender
unfolding external_sender
external_sender_long s front h = long_left (vector s.signature_key) _ front (vector_long s.signature_key) h

pub external_senders_exact : IsExact (list external_sender) (list_at external_sender_at)
external_senders_exact = list_exact external_sender external_sender_at external_sender_exact external_sender_long

pub group_context_exact : IsExact group_context group_context_at
unfolding group_context group_context_at
group_context_exact =
    field_then Any (λ c. c.version) (number w16) _ (number_at w16) _ (number_exact w16 wide16)
    (λ a. field_then _ (λ c. c.cipher_suite) (number w16) _ (number_at w16) _ (number_exact w16 wide16)
    (λ b. field_then _ (λ c. c.group_id) vector _ vector_at _ vector_exact
    (λ d. field_then _ (λ c. c.epoch) (number w64) _ (number_at w64) _ (number_exact w64 wide64)
    (λ e. field_then _ (λ c. c.tree_hash) vector _ vector_at _ vector_exact
    (λ f. field_then _ (λ c. c.confirmed) vector _ vector_at _ vector_exact
    (λ g. made_of _ (λ x. record { version = a; cipher_suite = b; group_id = d; epoch = e; tree_hash = f; confirmed = g; extensions = x }) (list extension) _ (list_at extension_at) extensions_exact
    (λ x. ((((((tt, refl), refl), refl), refl), refl), refl)) (λ x. refl)
    (λ c p. (c.extensions, rw (← p.0.0.0.0.0.1, ← p.0.0.0.0.1, ← p.0.0.0.1, ← p.0.0.1, ← p.0.1, ← p.1) refl))))))))

pub group_context_long : IsLong group_context
unfolding group_context
group_context_long c front h = long_left (number w16 c.version) _ front (number_long w16 wide16 c.version) h

-- ---- a leaf node's signature

both_assoc : (a b c : Option (List ℕ)) → (a ⊕ b) ⊕ c ≡ a ⊕ (b ⊕ c)
unfolding ◌⊕◌
both_assoc None b c = refl
both_assoc (Some x) None c = refl
both_assoc (Some x) (Some y) None = refl
both_assoc (Some x) (Some y) (Some z) = ap (λ (s : List ℕ). Some s) (append_assoc x y z)

-- The signature is after the other fields.
pub leaf_signed : (n : LeafNode) → leaf n ≡ unsigned_leaf n ⊕ vector n.signature
unfolding leaf unsigned_leaf
leaf_signed n = sym (simp both_assoc)

-- ---- what exactness gives

-- If an encoding is uniquely decodable, it is so on fewer values.
pub tested_unambiguous : {A : Type 0} (test : A → Bool) (s : A → Option (List ℕ)) → IsUniquelyDecodable s → IsUniquelyDecodable (λ x. cond (test x) (s x) None)
tested_unambiguous test s all = record {
  once = λ x y text p q. all.once x y text (allowed (test x) (s x) text p).1 (allowed (test y) (s y) text q).1;
  prefix_free = λ x y text more p q. all.prefix_free x y text more (allowed (test x) (s x) text p).1 (allowed (test y) (s y) (text ++ more) q).1;
}
