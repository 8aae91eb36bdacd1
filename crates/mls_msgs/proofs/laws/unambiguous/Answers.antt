use Rattle.std.proofs.Common.{sym, ◌∙◌}
use Rattle.mls_wire.specs.Encoding.{list}
use Rattle.mls_wire.specs.Parsing.{list_at}
use Rattle.mls_wire.specs.OptionBind.{some_is}
use Rattle.mls_wire.specs.ExactTheorems.{unambiguous}
use Rattle.mls_msgs.specs.Layout.{key_package, psk_usage, psk_kind, psk_id, reinit, proposal, proposal_or_ref, ciphertext, path_node, update_path, commit, sender, content, framed_content, group_info}
use Rattle.mls_msgs.specs.Authenticated.{authenticated_content}
use Rattle.mls_msgs.specs.PublicMessage.{public_message}
use Rattle.mls_msgs.specs.Parsing.{key_package_at, psk_usage_at, psk_kind_at, psk_id_at, reinit_at, proposal_at, proposal_or_ref_at, path_node_at, update_path_at, commit_at, sender_at, content_at, framed_content_at, group_info_at}
use Rattle.mls_msgs.specs.Ciphertext.{ciphertext_at}
use Rattle.mls_msgs.specs.FrameParsing.{authenticated_content_at, public_message_at}
use Rattle.mls_msgs.specs.PskExact.{psk_usage_exact, psk_kind_exact, psk_id_exact, reinit_exact}
use Rattle.mls_msgs.specs.ProposalExact.{key_package_exact, proposal_exact, proposal_or_ref_exact}
use Rattle.mls_msgs.specs.CommitExact.{proposals_exact, ciphertext_exact, ciphertexts_exact, path_node_exact, path_nodes_exact, update_path_exact, commit_exact}
use Rattle.mls_msgs.specs.FrameExact.{sender_exact, content_exact, framed_content_exact}
use Rattle.mls_msgs.specs.AuthenticatedExact.{authenticated_content_exact, public_message_exact}
use Rattle.mls_msgs.specs.MessageExact.{group_info_exact, message_again}
use Rattle.mls_msgs.specs.PrivateMessage.{content_type, private_message}
use Rattle.mls_msgs.specs.PrivateMessageParsing.{content_type_at, private_message_at}
use Rattle.mls_msgs.specs.PrivateMessageExact.{content_type_exact, private_message_exact}
use Rattle.mls_msgs.specs.Welcome.{encrypted_group_secrets, welcome}
use Rattle.mls_msgs.specs.EncryptedGroupSecrets.{encrypted_group_secrets_at}
use Rattle.mls_msgs.specs.WelcomeParsing.{welcome_at}
use Rattle.mls_msgs.specs.WelcomeExact.{encrypted_group_secrets_exact, welcome_exact}
use Rattle.mls_msgs.proofs.laws.unambiguous.Goals as goal

pub returns-clause-key_package : goal.returns-clause-key_package
returns-clause-key_package c = unambiguous key_package key_package_at key_package_exact

pub returns-clause-psk_usage : goal.returns-clause-psk_usage
returns-clause-psk_usage c = unambiguous psk_usage psk_usage_at psk_usage_exact

pub returns-clause-psk_kind : goal.returns-clause-psk_kind
returns-clause-psk_kind c = unambiguous psk_kind psk_kind_at psk_kind_exact

pub returns-clause-psk_id : goal.returns-clause-psk_id
returns-clause-psk_id c = unambiguous psk_id psk_id_at psk_id_exact

pub returns-clause-reinit : goal.returns-clause-reinit
returns-clause-reinit c = unambiguous reinit reinit_at reinit_exact

pub returns-clause-proposal : goal.returns-clause-proposal
returns-clause-proposal c = unambiguous proposal proposal_at proposal_exact

pub returns-clause-proposal_or_ref : goal.returns-clause-proposal_or_ref
returns-clause-proposal_or_ref c = unambiguous proposal_or_ref proposal_or_ref_at proposal_or_ref_exact

pub returns-clause-proposals : goal.returns-clause-proposals
returns-clause-proposals c = unambiguous (list proposal_or_ref) (list_at proposal_or_ref_at) proposals_exact

pub returns-clause-ciphertext : goal.returns-clause-ciphertext
returns-clause-ciphertext c = unambiguous ciphertext ciphertext_at ciphertext_exact

pub returns-clause-ciphertexts : goal.returns-clause-ciphertexts
returns-clause-ciphertexts c = unambiguous (list ciphertext) (list_at ciphertext_at) ciphertexts_exact

pub returns-clause-path_node : goal.returns-clause-path_node
returns-clause-path_node c = unambiguous path_node path_node_at path_node_exact

pub returns-clause-path_nodes : goal.returns-clause-path_nodes
returns-clause-path_nodes c = unambiguous (list path_node) (list_at path_node_at) path_nodes_exact

pub returns-clause-update_path : goal.returns-clause-update_path
returns-clause-update_path c = unambiguous update_path update_path_at update_path_exact

pub returns-clause-commit : goal.returns-clause-commit
returns-clause-commit c = unambiguous commit commit_at commit_exact

pub returns-clause-sender : goal.returns-clause-sender
returns-clause-sender c = unambiguous sender sender_at sender_exact

pub returns-clause-content : goal.returns-clause-content
returns-clause-content c = unambiguous content content_at content_exact

pub returns-clause-framed_content : goal.returns-clause-framed_content
returns-clause-framed_content c = unambiguous framed_content framed_content_at framed_content_exact

pub returns-clause-authenticated : goal.returns-clause-authenticated
returns-clause-authenticated c = unambiguous authenticated_content authenticated_content_at authenticated_content_exact

pub returns-clause-public_message : goal.returns-clause-public_message
returns-clause-public_message c = unambiguous public_message public_message_at public_message_exact

pub returns-clause-group_info : goal.returns-clause-group_info
returns-clause-group_info c = unambiguous group_info group_info_at group_info_exact

pub returns-clause-content_type : goal.returns-clause-content_type
returns-clause-content_type c = unambiguous content_type content_type_at content_type_exact

pub returns-clause-private_message : goal.returns-clause-private_message
returns-clause-private_message c = unambiguous private_message private_message_at private_message_exact

pub returns-clause-encrypted_group_secrets : goal.returns-clause-encrypted_group_secrets
returns-clause-encrypted_group_secrets c = unambiguous encrypted_group_secrets encrypted_group_secrets_at encrypted_group_secrets_exact

pub returns-clause-welcome : goal.returns-clause-welcome
returns-clause-welcome c = unambiguous welcome welcome_at welcome_exact

pub returns-clause-message : goal.returns-clause-message
returns-clause-message c = λ x y text p q. some_is x y (sym (message_again x text p) ∙ message_again y text q)
