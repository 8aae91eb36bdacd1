-- What is read as a KeyPackage or a proposal is encoded so, and what is encoded so is read. Internal: no public
-- contract uses this.
use Rattle.std.proofs.Common.{◌≡◌, ◌≢◌, ℕ, List, Option, refl, sym, arith}
use Rattle.std.specs.Int.{w8, w16, w32}
use Rattle.mls_wire.specs.Encoding.{◌⊕◌, number, vector, list}
use Rattle.mls_wire.specs.Parsing.{number_at, vector_at, list_at}
use Rattle.mls_wire.specs.ExactParsers.{IsExact, IsLong, Any, field_then, made_of, tag_is, never, encoded_as}
use Rattle.mls_wire.specs.IntegersExact.{wide8, wide16, wide32, number_exact, number_long}
use Rattle.mls_wire.specs.VectorsExact.{vector_exact}
use Rattle.mls_wire.specs.EncodingConcat.{long_left}
use Rattle.mls_nodes.specs.Extension.{extension}
use Rattle.mls_nodes.specs.Layout.{leaf}
use Rattle.mls_nodes.specs.LeafParsing.{extension_at, leaf_node_at}
use Rattle.mls_nodes.specs.NodesExact.{extensions_exact, leaf_exact}
use Rattle.mls_msgs.specs.Layout.{key_package, psk_id, reinit, proposal, proposal_or_ref}
use Rattle.mls_msgs.specs.Parsing.{key_package_at, psk_id_at, reinit_at, proposal_at, proposal_or_ref_at}
use Rattle.mls_msgs.specs.PskExact.{psk_id_exact, reinit_exact}
use Rattle.mls_msgs.specs.declared.key_package.KeyPackage.{KeyPackage}
use Rattle.mls_msgs.specs.declared.proposal.Proposal.{Proposal}
use Rattle.mls_msgs.specs.declared.proposal.Proposal.TheVariants as proposals
use Rattle.mls_msgs.specs.declared.pre_shared_key.PreSharedKeyId.{PreSharedKeyId}
use Rattle.mls_msgs.specs.declared.reinit.ReInit.{ReInit}
use Rattle.mls_msgs.specs.declared.proposal.ProposalOrRef.{ProposalOrRef}
use Rattle.mls_msgs.specs.declared.proposal.ProposalOrRef.TheVariants as entries
use Rattle.mls_nodes.specs.declared.extension.Extension.{Extension}
use Rattle.mls_nodes.specs.declared.leaf.LeafNode.{LeafNode}

pub key_package_exact : IsExact key_package key_package_at
unfolding key_package key_package_at
key_package_exact =
    field_then Any (λ k. k.version) (number w16) _ (number_at w16) _ (number_exact w16 wide16)
    (λ a. field_then _ (λ k. k.cipher_suite) (number w16) _ (number_at w16) _ (number_exact w16 wide16)
    (λ b. field_then _ (λ k. k.init_key) vector _ vector_at _ vector_exact
    (λ c. field_then _ (λ k. k.leaf_node) leaf _ leaf_node_at _ leaf_exact
    (λ d. field_then _ (λ k. k.extensions) (list extension) _ (list_at extension_at) _ extensions_exact
    (λ e. made_of _ (λ x. record { version = a; cipher_suite = b; init_key = c; leaf_node = d; extensions = e; signature = x }) vector _ vector_at vector_exact
    (λ x. (((((tt, refl), refl), refl), refl), refl)) (λ x. refl)
    (λ k p. (k.signature, rw (← p.0.0.0.0.1, ← p.0.0.0.1, ← p.0.0.1, ← p.0.1, ← p.1) refl)))))))

pub key_package_long : IsLong key_package
unfolding key_package
key_package_long k front h = long_left (number w16 k.version) _ front (number_long w16 wide16 k.version) h

-- ---- the types of a proposal

-- The type of a proposal.
abbrev proposal_kind : Proposal → ℕ
proposal_kind (proposals.Add x) = 1
proposal_kind (proposals.Update x) = 2
proposal_kind (proposals.Remove x) = 3
proposal_kind (proposals.PreSharedKey x) = 4
proposal_kind (proposals.ReInit x) = 5
proposal_kind (proposals.ExternalInit x) = 6
proposal_kind (proposals.ContextExtensions x) = 7

-- What follows the type.
abbrev proposal_body : Proposal → Option (List ℕ)
proposal_body (proposals.Add x) = key_package x
proposal_body (proposals.Update x) = leaf x
proposal_body (proposals.Remove x) = number w32 x
proposal_body (proposals.PreSharedKey x) = psk_id x
proposal_body (proposals.ReInit x) = reinit x
proposal_body (proposals.ExternalInit x) = vector x
proposal_body (proposals.ContextExtensions x) = list extension x

proposal_parts : (p : Proposal) → number w16 (proposal_kind p) ⊕ proposal_body p ≡ proposal p
unfolding proposal
proposal_parts (proposals.Add x) = refl
proposal_parts (proposals.Update x) = refl
proposal_parts (proposals.Remove x) = refl
proposal_parts (proposals.PreSharedKey x) = refl
proposal_parts (proposals.ReInit x) = refl
proposal_parts (proposals.ExternalInit x) = refl
proposal_parts (proposals.ContextExtensions x) = refl

is_add_by_kind : (p : Proposal) → Unit {0} × (proposal_kind p ≡ 1) → (x : KeyPackage) × (proposals.Add x ≡ p)
is_add_by_kind (proposals.Add x) p = (x, refl)
is_add_by_kind (proposals.Update x) p = absurd (omega arith)
is_add_by_kind (proposals.Remove x) p = absurd (omega arith)
is_add_by_kind (proposals.PreSharedKey x) p = absurd (omega arith)
is_add_by_kind (proposals.ReInit x) p = absurd (omega arith)
is_add_by_kind (proposals.ExternalInit x) p = absurd (omega arith)
is_add_by_kind (proposals.ContextExtensions x) p = absurd (omega arith)

is_update_by_kind : (p : Proposal) → Unit {0} × (proposal_kind p ≡ 2) → (x : LeafNode) × (proposals.Update x ≡ p)
is_update_by_kind (proposals.Add x) p = absurd (omega arith)
is_update_by_kind (proposals.Update x) p = (x, refl)
is_update_by_kind (proposals.Remove x) p = absurd (omega arith)
is_update_by_kind (proposals.PreSharedKey x) p = absurd (omega arith)
is_update_by_kind (proposals.ReInit x) p = absurd (omega arith)
is_update_by_kind (proposals.ExternalInit x) p = absurd (omega arith)
is_update_by_kind (proposals.ContextExtensions x) p = absurd (omega arith)

is_remove_by_kind : (p : Proposal) → Unit {0} × (proposal_kind p ≡ 3) → (x : ℕ) × (proposals.Remove x ≡ p)
is_remove_by_kind (proposals.Add x) p = absurd (omega arith)
is_remove_by_kind (proposals.Update x) p = absurd (omega arith)
is_remove_by_kind (proposals.Remove x) p = (x, refl)
is_remove_by_kind (proposals.PreSharedKey x) p = absurd (omega arith)
is_remove_by_kind (proposals.ReInit x) p = absurd (omega arith)
is_remove_by_kind (proposals.ExternalInit x) p = absurd (omega arith)
is_remove_by_kind (proposals.ContextExtensions x) p = absurd (omega arith)

is_psk_by_kind : (p : Proposal) → Unit {0} × (proposal_kind p ≡ 4) → (x : PreSharedKeyId) × (proposals.PreSharedKey x ≡ p)
is_psk_by_kind (proposals.Add x) p = absurd (omega arith)
is_psk_by_kind (proposals.Update x) p = absurd (omega arith)
is_psk_by_kind (proposals.Remove x) p = absurd (omega arith)
is_psk_by_kind (proposals.PreSharedKey x) p = (x, refl)
is_psk_by_kind (proposals.ReInit x) p = absurd (omega arith)
is_psk_by_kind (proposals.ExternalInit x) p = absurd (omega arith)
is_psk_by_kind (proposals.ContextExtensions x) p = absurd (omega arith)

is_reinit_by_kind : (p : Proposal) → Unit {0} × (proposal_kind p ≡ 5) → (x : ReInit) × (proposals.ReInit x ≡ p)
is_reinit_by_kind (proposals.Add x) p = absurd (omega arith)
is_reinit_by_kind (proposals.Update x) p = absurd (omega arith)
is_reinit_by_kind (proposals.Remove x) p = absurd (omega arith)
is_reinit_by_kind (proposals.PreSharedKey x) p = absurd (omega arith)
is_reinit_by_kind (proposals.ReInit x) p = (x, refl)
is_reinit_by_kind (proposals.ExternalInit x) p = absurd (omega arith)
is_reinit_by_kind (proposals.ContextExtensions x) p = absurd (omega arith)

is_external_init_by_kind : (p : Proposal) → Unit {0} × (proposal_kind p ≡ 6) → (x : List ℕ) × (proposals.ExternalInit x ≡ p)
is_external_init_by_kind (proposals.Add x) p = absurd (omega arith)
is_external_init_by_kind (proposals.Update x) p = absurd (omega arith)
is_external_init_by_kind (proposals.Remove x) p = absurd (omega arith)
is_external_init_by_kind (proposals.PreSharedKey x) p = absurd (omega arith)
is_external_init_by_kind (proposals.ReInit x) p = absurd (omega arith)
is_external_init_by_kind (proposals.ExternalInit x) p = (x, refl)
is_external_init_by_kind (proposals.ContextExtensions x) p = absurd (omega arith)

is_extensions_by_kind : (p : Proposal) → Unit {0} × (proposal_kind p ≡ 7) → (x : List Extension) × (proposals.ContextExtensions x ≡ p)
is_extensions_by_kind (proposals.Add x) p = absurd (omega arith)
is_extensions_by_kind (proposals.Update x) p = absurd (omega arith)
is_extensions_by_kind (proposals.Remove x) p = absurd (omega arith)
is_extensions_by_kind (proposals.PreSharedKey x) p = absurd (omega arith)
is_extensions_by_kind (proposals.ReInit x) p = absurd (omega arith)
is_extensions_by_kind (proposals.ExternalInit x) p = absurd (omega arith)
is_extensions_by_kind (proposals.ContextExtensions x) p = (x, refl)

no_proposal : (n : ℕ) → n ≢ 1 → n ≢ 2 → n ≢ 3 → n ≢ 4 → n ≢ 5 → n ≢ 6 → n ≢ 7 → (p : Proposal) → Unit {0} × (proposal_kind p ≡ n) → ⊥
no_proposal n a b c d e f g (proposals.Add _) p = a (sym p.1)
no_proposal n a b c d e f g (proposals.Update _) p = b (sym p.1)
no_proposal n a b c d e f g (proposals.Remove _) p = c (sym p.1)
no_proposal n a b c d e f g (proposals.PreSharedKey _) p = d (sym p.1)
no_proposal n a b c d e f g (proposals.ReInit _) p = e (sym p.1)
no_proposal n a b c d e f g (proposals.ExternalInit _) p = f (sym p.1)
no_proposal n a b c d e f g (proposals.ContextExtensions _) p = g (sym p.1)

pub proposal_exact : IsExact proposal proposal_at
unfolding proposal_at
proposal_exact = encoded_as Any proposal _ proposal_at proposal_parts
    (field_then Any proposal_kind (number w16) proposal_body (number_at w16) _ (number_exact w16 wide16)
    (λ n. tag_is proposal_kind _ _ _ n 1 (made_of _ proposals.Add key_package _ key_package_at key_package_exact (λ x. (tt, refl)) (λ x. refl) is_add_by_kind)
    (λ a. tag_is proposal_kind _ _ _ n 2 (made_of _ proposals.Update leaf _ leaf_node_at leaf_exact (λ x. (tt, refl)) (λ x. refl) is_update_by_kind)
    (λ b. tag_is proposal_kind _ _ _ n 3 (made_of _ proposals.Remove (number w32) _ (number_at w32) (number_exact w32 wide32) (λ x. (tt, refl)) (λ x. refl) is_remove_by_kind)
    (λ c. tag_is proposal_kind _ _ _ n 4 (made_of _ proposals.PreSharedKey psk_id _ psk_id_at psk_id_exact (λ x. (tt, refl)) (λ x. refl) is_psk_by_kind)
    (λ d. tag_is proposal_kind _ _ _ n 5 (made_of _ proposals.ReInit reinit _ reinit_at reinit_exact (λ x. (tt, refl)) (λ x. refl) is_reinit_by_kind)
    (λ e. tag_is proposal_kind _ _ _ n 6 (made_of _ proposals.ExternalInit vector _ vector_at vector_exact (λ x. (tt, refl)) (λ x. refl) is_external_init_by_kind)
    (λ f. tag_is proposal_kind _ _ _ n 7 (made_of _ proposals.ContextExtensions (list extension) _ (list_at extension_at) extensions_exact (λ x. (tt, refl)) (λ x. refl) is_extensions_by_kind)
    (λ g. never _ _ (no_proposal n a b c d e f g))))))))))

pub proposal_long : IsLong proposal
unfolding proposal
proposal_long (proposals.Add x) front h = long_left (number w16 1) _ front (number_long w16 wide16 1) h
proposal_long (proposals.Update x) front h = long_left (number w16 2) _ front (number_long w16 wide16 2) h
proposal_long (proposals.Remove x) front h = long_left (number w16 3) _ front (number_long w16 wide16 3) h
proposal_long (proposals.PreSharedKey x) front h = long_left (number w16 4) _ front (number_long w16 wide16 4) h
proposal_long (proposals.ReInit x) front h = long_left (number w16 5) _ front (number_long w16 wide16 5) h
proposal_long (proposals.ExternalInit x) front h = long_left (number w16 6) _ front (number_long w16 wide16 6) h
proposal_long (proposals.ContextExtensions x) front h = long_left (number w16 7) _ front (number_long w16 wide16 7) h

-- ---- the kinds of an entry

-- The type of a ProposalOrRef.
abbrev entry_kind : ProposalOrRef → ℕ
entry_kind (entries.Proposal p) = 1
entry_kind (entries.Reference r) = 2

-- What follows the type.
abbrev entry_body : ProposalOrRef → Option (List ℕ)
entry_body (entries.Proposal p) = proposal p
entry_body (entries.Reference r) = vector r

entry_parts : (e : ProposalOrRef) → number w8 (entry_kind e) ⊕ entry_body e ≡ proposal_or_ref e
unfolding proposal_or_ref
entry_parts (entries.Proposal p) = refl
entry_parts (entries.Reference r) = refl

is_by_value_by_kind : (e : ProposalOrRef) → Unit {0} × (entry_kind e ≡ 1) → (x : Proposal) × (entries.Proposal x ≡ e)
is_by_value_by_kind (entries.Proposal x) p = (x, refl)
is_by_value_by_kind (entries.Reference x) p = absurd (omega arith)

is_by_reference_by_kind : (e : ProposalOrRef) → Unit {0} × (entry_kind e ≡ 2) → (x : List ℕ) × (entries.Reference x ≡ e)
is_by_reference_by_kind (entries.Proposal x) p = absurd (omega arith)
is_by_reference_by_kind (entries.Reference x) p = (x, refl)

no_entry : (n : ℕ) → n ≢ 1 → n ≢ 2 → (e : ProposalOrRef) → Unit {0} × (entry_kind e ≡ n) → ⊥
no_entry n x y (entries.Proposal _) p = x (sym p.1)
no_entry n x y (entries.Reference _) p = y (sym p.1)

pub proposal_or_ref_exact : IsExact proposal_or_ref proposal_or_ref_at
unfolding proposal_or_ref_at
proposal_or_ref_exact = encoded_as Any proposal_or_ref _ proposal_or_ref_at entry_parts
    (field_then Any entry_kind (number w8) entry_body (number_at w8) _ (number_exact w8 wide8)
    (λ n. tag_is entry_kind _ _ _ n 1 (made_of _ entries.Proposal proposal _ proposal_at proposal_exact (λ x. (tt, refl)) (λ x. refl) is_by_value_by_kind)
    (λ x. tag_is entry_kind _ _ _ n 2 (made_of _ entries.Reference vector _ vector_at vector_exact (λ x. (tt, refl)) (λ x. refl) is_by_reference_by_kind)
    (λ y. never _ _ (no_entry n x y)))))

pub proposal_or_ref_long : IsLong proposal_or_ref
unfolding proposal_or_ref
proposal_or_ref_long (entries.Proposal p) front h = long_left (number w8 1) _ front (number_long w8 wide8 1) h
proposal_or_ref_long (entries.Reference r) front h = long_left (number w8 2) _ front (number_long w8 wide8 2) h
