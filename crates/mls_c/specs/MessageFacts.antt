-- The facts of a message that do not depend on a group, as numbers and as bytes in buffers (RFC 9420, 6, 6.1, 12.1 and 12.4).
-- Used by contracts.
use Rattle.std.specs.Prelude.{◌≡◌, ℕ, List, [], is_some, Option, Some, None, unwrap_or}
use Rattle.mls_msgs.specs.declared.framed_content.Sender.{Sender}
use Rattle.mls_msgs.specs.declared.framed_content.Sender.TheVariants.{Member, External, NewMemberProposal, NewMemberCommit}
use Rattle.mls_msgs.specs.declared.message.Message.{Message}
use Rattle.mls_msgs.specs.declared.profile.Profile.TheVariants.{Full}
use Rattle.mls_facts.specs.Facts.{wire_format_of, sender_of, proposal_counts_of, signature_key_of, NamesGroup}
use Rattle.mls_facts.specs.declared.proposal_counts.ProposalCounts.{ProposalCounts}
use Rattle.mls_follow.specs.Acceptance.{EncodesNoMessage}
use Rattle.mls_follow.specs.State.{EncodesMessage}
use Rattle.mls_c.specs.Buffers.{ArePut}
use Rattle.mls_c.specs.Numbers.{one_if, out_of_memory}
use Rattle.mls_c.specs.declared.fact_numbers.FactNumbers.{FactNumbers}

-- `number_or_zero o` is the number, or 0 if there is none.
abbrev pub number_or_zero : Option ℕ → ℕ
number_or_zero o = unwrap_or o 0

-- `sender_type s` is the number of the type of a sender (6: SenderType), or 0 if there is none.
abbrev pub sender_type : Option Sender → ℕ
sender_type None = 0
sender_type (Some (Member _)) = 1
sender_type (Some (External _)) = 2
sender_type (Some NewMemberProposal) = 3
sender_type (Some NewMemberCommit) = 4

-- `sender_index s` is the leaf index of a member, or the index of an external sender (6), or 0.
abbrev pub sender_index : Option Sender → ℕ
sender_index None = 0
sender_index (Some (Member i)) = i
sender_index (Some (External i)) = i
sender_index (Some NewMemberProposal) = 0
sender_index (Some NewMemberCommit) = 0

-- `numbers_of format kind from id e key counts` is the numbers of a message with this wire format, content type, sender, group
-- ID, epoch, signature key and counts of proposals.
abbrev pub numbers_of : ℕ → Option ℕ → Option Sender → Option (List ℕ) → Option ℕ → Option (List ℕ) → ProposalCounts → FactNumbers
numbers_of format kind from id e key counts =
    record {
      wire_format = format;
      content_type = number_or_zero kind;
      sender_type = sender_type from;
      sender_index = sender_index from;
      has_group = one_if (is_some id);
      has_signature_key = one_if (is_some key);
      epoch = number_or_zero e;
      adds = counts.adds;
      updates = counts.updates;
      removes = counts.removes;
      psks = counts.psks;
      reinits = counts.reinits;
      external_inits = counts.external_inits;
      group_context_extensions = counts.group_context_extensions;
      references = counts.references;
    }

-- `message_numbers m kind id e` is the numbers of the message `m`, whose content type, group ID and epoch these are.
abbrev pub message_numbers : Message → Option ℕ → Option (List ℕ) → Option ℕ → FactNumbers
message_numbers m kind id e = numbers_of (wire_format_of m) kind (sender_of m) id e (signature_key_of m) (proposal_counts_of m)

-- `bytes_or_none o` is the bytes, or no bytes if there are none.
abbrev pub bytes_or_none : Option (List ℕ) → List ℕ
bytes_or_none o = unwrap_or o []

-- `PutsFacts bytes before facts id_old id_new id_needed key_old key_new key_needed number`: the facts of the message that the
-- bytes encode, in the full profile, were written, and its group ID and its signature key were put into the buffers; or the bytes
-- are no message, with the number of that refusal, and nothing was written.
pub data PutsFacts (bytes : List ℕ) (before facts : FactNumbers) (id_old id_new : List ℕ) (id_needed : ℕ) (key_old key_new : List ℕ)
    (key_needed number : ℕ) : Type 0 where
  runs_out : number ≡ out_of_memory → facts ≡ before → id_new ≡ id_old → id_needed ≡ 0 → key_new ≡ key_old → key_needed ≡ 0
      → PutsFacts bytes before facts id_old id_new id_needed key_old key_new key_needed number
  malformed : EncodesNoMessage Full bytes → number ≡ 1
      → facts ≡ before → id_new ≡ id_old → id_needed ≡ 0 → key_new ≡ key_old → key_needed ≡ 0
      → PutsFacts bytes before facts id_old id_new id_needed key_old key_new key_needed number
  reads : (m : Message) (id : Option (List ℕ)) (e kind : Option ℕ) → EncodesMessage Full m bytes → NamesGroup m id e kind
      → facts ≡ message_numbers m kind id e
      → ArePut (bytes_or_none id) id_old id_new id_needed (bytes_or_none (signature_key_of m)) key_old key_new key_needed number
      → PutsFacts bytes before facts id_old id_new id_needed key_old key_new key_needed number
