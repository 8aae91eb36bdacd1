-- Decoding messages from left to right, as functions of the input. Internal: no public contract uses this, except that
-- of `Decode::read`.
use Rattle.std.specs.Prelude.{Option, Some, None, nat_eq, if◌then◌else◌}
use Rattle.std.specs.Int.{w8, w16, w32, w64}
use Rattle.mls_wire.specs.Input.{Input}
use Rattle.mls_wire.specs.Parsing.{◌>>=◌, number_at, vector_at, list_at}
use Rattle.mls_wire.specs.ParsingInternal.{optional_at}
use Rattle.mls_nodes.specs.ParsingInternal.{group_context_at}
use Rattle.mls_nodes.specs.LeafParsing.{extension_at, leaf_node_at}
use Rattle.mls_msgs.specs.Ciphertext.{ciphertext_at}
use Rattle.mls_msgs.specs.declared.key_package.KeyPackage.{KeyPackage}
use Rattle.mls_msgs.specs.declared.proposal.Proposal.{Proposal}
use Rattle.mls_msgs.specs.declared.proposal.Proposal.TheVariants as proposals
use Rattle.mls_msgs.specs.declared.pre_shared_key.PskUsage.{PskUsage}
use Rattle.mls_msgs.specs.declared.pre_shared_key.PskUsage.TheVariants as usages
use Rattle.mls_msgs.specs.declared.pre_shared_key.PskKind.{PskKind}
use Rattle.mls_msgs.specs.declared.pre_shared_key.PskKind.TheVariants as psks
use Rattle.mls_msgs.specs.declared.pre_shared_key.PreSharedKeyId.{PreSharedKeyId}
use Rattle.mls_msgs.specs.declared.reinit.ReInit.{ReInit}
use Rattle.mls_msgs.specs.declared.proposal.ProposalOrRef.{ProposalOrRef}
use Rattle.mls_msgs.specs.declared.proposal.ProposalOrRef.TheVariants as entries
use Rattle.mls_msgs.specs.declared.commit.PathNode.{PathNode}
use Rattle.mls_msgs.specs.declared.commit.UpdatePath.{UpdatePath}
use Rattle.mls_msgs.specs.declared.commit.Commit.{Commit}
use Rattle.mls_msgs.specs.declared.framed_content.Sender.{Sender}
use Rattle.mls_msgs.specs.declared.framed_content.Sender.TheVariants.{Member, External, NewMemberProposal, NewMemberCommit}
use Rattle.mls_msgs.specs.declared.framed_content.Content.{Content}
use Rattle.mls_msgs.specs.declared.framed_content.Content.TheVariants as contents
use Rattle.mls_msgs.specs.declared.framed_content.FramedContent.{FramedContent}
use Rattle.mls_msgs.specs.declared.group_info.GroupInfo.{GroupInfo}

-- A KeyPackage.
unfoldable pub key_package_at : Input → Option (KeyPackage × Input)
key_package_at i = do
  version ← number_at w16 i
  cipher_suite ← number_at w16 version.1
  init_key ← vector_at cipher_suite.1
  leaf_node ← leaf_node_at init_key.1
  extensions ← list_at extension_at leaf_node.1
  signature ← vector_at extensions.1
  Some (
    record {
      version = version.0;
      cipher_suite = cipher_suite.0;
      init_key = init_key.0;
      leaf_node = leaf_node.0;
      extensions = extensions.0;
      signature = signature.0;
    },
    signature.1,
  )

-- A ResumptionPSKUsage.
unfoldable pub psk_usage_at : Input → Option (PskUsage × Input)
psk_usage_at i = do
  kind ← number_at w8 i
  if nat_eq kind.0 1 then Some (usages.Application, kind.1)
      else if nat_eq kind.0 2 then Some (usages.ReInit, kind.1)
      else if nat_eq kind.0 3 then Some (usages.Branch, kind.1)
      else None

-- What follows the type of a resumption PSK.
unfoldable pub resumption_at : Input → Option (PskKind × Input)
resumption_at i = do
  usage ← psk_usage_at i
  group_id ← vector_at usage.1
  epoch ← number_at w64 group_id.1
  Some (psks.Resumption usage.0 group_id.0 epoch.0, epoch.1)

-- The kind of a pre-shared key.
unfoldable pub psk_kind_at : Input → Option (PskKind × Input)
psk_kind_at i = do
  kind ← number_at w8 i
  if nat_eq kind.0 1 then (vector_at kind.1 >>= λ x. Some (psks.External x.0, x.1))
      else if nat_eq kind.0 2 then resumption_at kind.1
      else None

-- A PreSharedKeyID.
unfoldable pub psk_id_at : Input → Option (PreSharedKeyId × Input)
psk_id_at i = do
  kind ← psk_kind_at i
  nonce ← vector_at kind.1
  Some (record { kind = kind.0; nonce = nonce.0 }, nonce.1)

-- A ReInit.
unfoldable pub reinit_at : Input → Option (ReInit × Input)
reinit_at i = do
  group_id ← vector_at i
  version ← number_at w16 group_id.1
  cipher_suite ← number_at w16 version.1
  extensions ← list_at extension_at cipher_suite.1
  Some (
    record {
      group_id = group_id.0;
      version = version.0;
      cipher_suite = cipher_suite.0;
      extensions = extensions.0;
    },
    extensions.1,
  )

-- A Proposal.
unfoldable pub proposal_at : Input → Option (Proposal × Input)
proposal_at i = do
  kind ← number_at w16 i
  if nat_eq kind.0 1 then (key_package_at kind.1 >>= λ x. Some (proposals.Add x.0, x.1))
      else if nat_eq kind.0 2 then (leaf_node_at kind.1 >>= λ x. Some (proposals.Update x.0, x.1))
      else if nat_eq kind.0 3 then (number_at w32 kind.1 >>= λ x. Some (proposals.Remove x.0, x.1))
      else if nat_eq kind.0 4 then (psk_id_at kind.1 >>= λ x. Some (proposals.PreSharedKey x.0, x.1))
      else if nat_eq kind.0 5 then (reinit_at kind.1 >>= λ x. Some (proposals.ReInit x.0, x.1))
      else if nat_eq kind.0 6 then (vector_at kind.1 >>= λ x. Some (proposals.ExternalInit x.0, x.1))
      else if nat_eq kind.0 7 then (list_at extension_at kind.1 >>= λ x. Some (proposals.ContextExtensions x.0, x.1))
      else None

-- A ProposalOrRef.
unfoldable pub proposal_or_ref_at : Input → Option (ProposalOrRef × Input)
proposal_or_ref_at i = do
  kind ← number_at w8 i
  if nat_eq kind.0 1 then (proposal_at kind.1 >>= λ x. Some (entries.Proposal x.0, x.1))
      else if nat_eq kind.0 2 then (vector_at kind.1 >>= λ x. Some (entries.Reference x.0, x.1))
      else None

-- An UpdatePathNode.
unfoldable pub path_node_at : Input → Option (PathNode × Input)
path_node_at i = do
  encryption_key ← vector_at i
  ciphertexts ← list_at ciphertext_at encryption_key.1
  Some (record { encryption_key = encryption_key.0; ciphertexts = ciphertexts.0 }, ciphertexts.1)

-- An UpdatePath.
unfoldable pub update_path_at : Input → Option (UpdatePath × Input)
update_path_at i = do
  leaf_node ← leaf_node_at i
  nodes ← list_at path_node_at leaf_node.1
  Some (record { leaf_node = leaf_node.0; nodes = nodes.0 }, nodes.1)

-- A Commit.
unfoldable pub commit_at : Input → Option (Commit × Input)
commit_at i = do
  proposals ← list_at proposal_or_ref_at i
  path ← optional_at update_path_at proposals.1
  Some (record { proposals = proposals.0; path = path.0 }, path.1)

-- A Sender.
unfoldable pub sender_at : Input → Option (Sender × Input)
sender_at i = do
  kind ← number_at w8 i
  if nat_eq kind.0 1 then (number_at w32 kind.1 >>= λ x. Some (Member x.0, x.1))
      else if nat_eq kind.0 2 then (number_at w32 kind.1 >>= λ x. Some (External x.0, x.1))
      else if nat_eq kind.0 3 then Some (NewMemberProposal, kind.1)
      else if nat_eq kind.0 4 then Some (NewMemberCommit, kind.1)
      else None

-- Content.
unfoldable pub content_at : Input → Option (Content × Input)
content_at i = do
  kind ← number_at w8 i
  if nat_eq kind.0 1 then (vector_at kind.1 >>= λ x. Some (contents.Application x.0, x.1))
      else if nat_eq kind.0 2 then (proposal_at kind.1 >>= λ x. Some (contents.Proposal x.0, x.1))
      else if nat_eq kind.0 3 then (commit_at kind.1 >>= λ x. Some (contents.Commit x.0, x.1))
      else None

-- A FramedContent.
unfoldable pub framed_content_at : Input → Option (FramedContent × Input)
framed_content_at i = do
  group_id ← vector_at i
  epoch ← number_at w64 group_id.1
  sender ← sender_at epoch.1
  authenticated ← vector_at sender.1
  content ← content_at authenticated.1
  Some (
    record {
      group_id = group_id.0;
      epoch = epoch.0;
      sender = sender.0;
      authenticated = authenticated.0;
      content = content.0;
    },
    content.1,
  )

-- A GroupInfo.
unfoldable pub group_info_at : Input → Option (GroupInfo × Input)
group_info_at i = do
  context ← group_context_at i
  extensions ← list_at extension_at context.1
  confirmation_tag ← vector_at extensions.1
  signer ← number_at w32 confirmation_tag.1
  signature ← vector_at signer.1
  Some (
    record {
      context = context.0;
      extensions = extensions.0;
      confirmation_tag = confirmation_tag.0;
      signer = signer.0;
      signature = signature.0;
    },
    signature.1,
  )
