-- What is read as a commit or a part of one is encoded so, and what is encoded so is read. Internal: no public contract
-- uses this.
use Rattle.std.proofs.Common.{refl}
use Rattle.mls_wire.specs.Encoding.{vector, list, optional}
use Rattle.mls_wire.specs.Parsing.{vector_at, list_at}
use Rattle.mls_wire.specs.ParsingInternal.{optional_at}
use Rattle.mls_wire.specs.ExactParsers.{IsExact, IsLong, Any, field_then, made_of}
use Rattle.mls_wire.specs.VectorsExact.{vector_exact, vector_long}
use Rattle.mls_wire.specs.ListsExact.{list_exact, list_long}
use Rattle.mls_wire.specs.OptionalsExact.{optional_exact}
use Rattle.mls_wire.specs.EncodingConcat.{long_left}
use Rattle.mls_nodes.specs.Layout.{leaf}
use Rattle.mls_nodes.specs.LeafParsing.{leaf_node_at}
use Rattle.mls_nodes.specs.NodesExact.{leaf_exact, leaf_long}
use Rattle.mls_msgs.specs.Layout.{proposal_or_ref, ciphertext, path_node, update_path, commit}
use Rattle.mls_msgs.specs.Ciphertext.{ciphertext_at}
use Rattle.mls_msgs.specs.Parsing.{proposal_or_ref_at, path_node_at, update_path_at, commit_at}
use Rattle.mls_msgs.specs.ProposalExact.{proposal_or_ref_exact, proposal_or_ref_long}

pub ciphertext_exact : IsExact ciphertext ciphertext_at
unfolding ciphertext ciphertext_at
ciphertext_exact =
    field_then Any (λ c. c.kem_output) vector _ vector_at _ vector_exact
    (λ a. made_of _ (λ x. record { kem_output = a; ciphertext = x }) vector _ vector_at vector_exact
    (λ x. (tt, refl)) (λ x. refl) (λ c p. (c.ciphertext, rw (← p.1) refl)))

pub ciphertext_long : IsLong ciphertext
unfolding ciphertext
ciphertext_long c front h = long_left (vector c.kem_output) _ front (vector_long c.kem_output) h

pub ciphertexts_exact : IsExact (list ciphertext) (list_at ciphertext_at)
ciphertexts_exact = list_exact ciphertext ciphertext_at ciphertext_exact ciphertext_long

pub path_node_exact : IsExact path_node path_node_at
unfolding path_node path_node_at
path_node_exact =
    field_then Any (λ n. n.encryption_key) vector _ vector_at _ vector_exact
    (λ a. made_of _ (λ x. record { encryption_key = a; ciphertexts = x }) (list ciphertext) _ (list_at ciphertext_at) ciphertexts_exact
    (λ x. (tt, refl)) (λ x. refl) (λ n p. (n.ciphertexts, rw (← p.1) refl)))

pub path_node_long : IsLong path_node
unfolding path_node
path_node_long n front h = long_left (vector n.encryption_key) _ front (vector_long n.encryption_key) h

pub path_nodes_exact : IsExact (list path_node) (list_at path_node_at)
path_nodes_exact = list_exact path_node path_node_at path_node_exact path_node_long

pub update_path_exact : IsExact update_path update_path_at
unfolding update_path update_path_at
update_path_exact =
    field_then Any (λ p. p.leaf_node) leaf _ leaf_node_at _ leaf_exact
    (λ a. made_of _ (λ x. record { leaf_node = a; nodes = x }) (list path_node) _ (list_at path_node_at) path_nodes_exact
    (λ x. (tt, refl)) (λ x. refl) (λ n p. (n.nodes, rw (← p.1) refl)))

pub update_path_long : IsLong update_path
unfolding update_path
update_path_long p front h = long_left (leaf p.leaf_node) _ front (leaf_long p.leaf_node) h

pub proposals_exact : IsExact (list proposal_or_ref) (list_at proposal_or_ref_at)
proposals_exact = list_exact proposal_or_ref proposal_or_ref_at proposal_or_ref_exact proposal_or_ref_long

pub commit_exact : IsExact commit commit_at
unfolding commit commit_at
commit_exact =
    field_then Any (λ c. c.proposals) (list proposal_or_ref) _ (list_at proposal_or_ref_at) _ proposals_exact
    (λ a. made_of _ (λ x. record { proposals = a; path = x }) (optional update_path) _ (optional_at update_path_at)
    (optional_exact update_path update_path_at update_path_exact)
    (λ x. (tt, refl)) (λ x. refl) (λ c p. (c.path, rw (← p.1) refl)))

pub commit_long : IsLong commit
unfolding commit
commit_long c front h = long_left (list proposal_or_ref c.proposals) _ front (list_long proposal_or_ref c.proposals) h
