use Rattle.mls_wire.specs.ExactTheorems.{unambiguous}
use Rattle.mls_wire.specs.Encoding.{list, vector}
use Rattle.mls_wire.specs.Parsing.{list_at, vector_at}
use Rattle.mls_nodes.specs.Extension.{extension}
use Rattle.mls_nodes.specs.Layout.{credential, codes, capabilities, lifetime, source, leaf, unmerged, parent, node, required_capabilities, external_sender, group_context}
use Rattle.mls_nodes.specs.Parsing.{credential_at, codes_at, required_capabilities_at, external_sender_at}
use Rattle.mls_nodes.specs.ParsingInternal.{unmerged_at, parent_node_at, node_model_at, group_context_at}
use Rattle.mls_nodes.specs.LeafParsing.{capabilities_at, extension_at, lifetime_at, source_at, leaf_node_at}
use Rattle.mls_nodes.specs.NodesExact.{codes_exact, chain_exact, credential_exact, capabilities_exact, extension_exact, extensions_exact, lifetime_exact, source_exact, leaf_exact, unmerged_exact, parent_exact, node_exact, required_capabilities_exact, external_sender_exact, external_senders_exact, group_context_exact}
use Rattle.mls_nodes.proofs.Trimming.{ratchet_tree_unambiguous}
use Rattle.mls_nodes.proofs.laws.unambiguous.Goals as goal

pub returns-clause-codes : goal.returns-clause-codes
returns-clause-codes c = unambiguous codes codes_at codes_exact

pub returns-clause-chain : goal.returns-clause-chain
returns-clause-chain c = unambiguous (list vector) (list_at vector_at) chain_exact

pub returns-clause-credential : goal.returns-clause-credential
returns-clause-credential c = unambiguous credential credential_at credential_exact

pub returns-clause-capabilities : goal.returns-clause-capabilities
returns-clause-capabilities c = unambiguous capabilities capabilities_at capabilities_exact

pub returns-clause-extension : goal.returns-clause-extension
returns-clause-extension c = unambiguous extension extension_at extension_exact

pub returns-clause-extensions : goal.returns-clause-extensions
returns-clause-extensions c = unambiguous (list extension) (list_at extension_at) extensions_exact

pub returns-clause-lifetime : goal.returns-clause-lifetime
returns-clause-lifetime c = unambiguous lifetime lifetime_at lifetime_exact

pub returns-clause-source : goal.returns-clause-source
returns-clause-source c = unambiguous source source_at source_exact

pub returns-clause-leaf : goal.returns-clause-leaf
returns-clause-leaf c = unambiguous leaf leaf_node_at leaf_exact

pub returns-clause-unmerged : goal.returns-clause-unmerged
returns-clause-unmerged c = unambiguous unmerged unmerged_at unmerged_exact

pub returns-clause-parent : goal.returns-clause-parent
returns-clause-parent c = unambiguous parent parent_node_at parent_exact

pub returns-clause-node : goal.returns-clause-node
returns-clause-node c = unambiguous node node_model_at node_exact

pub returns-clause-ratchet_tree : goal.returns-clause-ratchet_tree
returns-clause-ratchet_tree c = ratchet_tree_unambiguous

pub returns-clause-requirements : goal.returns-clause-requirements
returns-clause-requirements c = unambiguous required_capabilities required_capabilities_at required_capabilities_exact

pub returns-clause-context : goal.returns-clause-context
returns-clause-context c = unambiguous group_context group_context_at group_context_exact

pub returns-clause-external_sender : goal.returns-clause-external_sender
returns-clause-external_sender c = unambiguous external_sender external_sender_at external_sender_exact

pub returns-clause-external_senders : goal.returns-clause-external_senders
returns-clause-external_senders c = unambiguous (list external_sender) (list_at external_sender_at) external_senders_exact
