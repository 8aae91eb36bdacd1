-- The line of `show message` (RFC 9420, 6). Used by contracts.
use Rattle.std.specs.Prelude.{ℕ, List, ◌++◌, length, ◌==◌, if◌then◌else◌, codes, Option, Some, None}
use Rattle.std.specs.Fmt.{decimal}
use Rattle.mls_msgs.specs.declared.commit.Commit.{Commit}
use Rattle.mls_msgs.specs.declared.commit.UpdatePath.{UpdatePath}
use Rattle.mls_msgs.specs.declared.framed_content.Content.{Content}
use Rattle.mls_msgs.specs.declared.framed_content.Content.TheVariants as contents
use Rattle.mls_msgs.specs.declared.framed_content.FramedContent.{FramedContent}
use Rattle.mls_msgs.specs.declared.framed_content.Sender.{Sender}
use Rattle.mls_msgs.specs.declared.framed_content.Sender.TheVariants.{Member, External, NewMemberProposal, NewMemberCommit}
use Rattle.mls_msgs.specs.declared.group_info.GroupInfo.{GroupInfo}
use Rattle.mls_msgs.specs.declared.key_package.KeyPackage.{KeyPackage}
use Rattle.mls_msgs.specs.declared.message.Message.{Message}
use Rattle.mls_msgs.specs.declared.message.Message.TheVariants as messages
use Rattle.mls_msgs.specs.declared.proposal.Proposal.{Proposal}
use Rattle.mls_msgs.specs.declared.pre_shared_key.PskKind.{PskKind}
use Rattle.mls_msgs.specs.declared.pre_shared_key.PskKind.TheVariants as psks
use Rattle.mls_msgs.specs.declared.pre_shared_key.PskUsage.{PskUsage}
use Rattle.mls_msgs.specs.declared.pre_shared_key.PskUsage.TheVariants as usages
use Rattle.mls_msgs.specs.declared.proposal.Proposal.TheVariants.{Add, Update, Remove, PreSharedKey, ReInit, ExternalInit, ContextExtensions}
use Rattle.mls_show.specs.InfoText.{types_text}
use Rattle.mls_show.specs.ValueTexts.{hex_text}

-- `sender_text s` is the sender of a message (RFC 9420, 6): a member by its leaf index, an external sender by its
-- index, or a new member.
abbrev pub sender_text : Sender → List ℕ
sender_text (Member index) = codes "member " ++ decimal index
sender_text (External index) = codes "external " ++ decimal index
sender_text NewMemberProposal = codes "new_member_proposal"
sender_text NewMemberCommit = codes "new_member_commit"

-- `usage_text usage` is the word for the use `usage` of a resumption PSK (RFC 9420, 8.4).
abbrev pub usage_text : PskUsage → List ℕ
usage_text usages.Application = codes "application"
usage_text usages.ReInit = codes "reinit"
usage_text usages.Branch = codes "branch"

-- `psk_text kind` is the text of the origin `kind` of a pre-shared key (RFC 9420, 8.4): the id of an external one; the
-- use, group id and epoch of a resumption PSK.
abbrev pub psk_text : PskKind → List ℕ
psk_text (psks.External id) = codes "external " ++ hex_text id
psk_text (psks.Resumption usage group_id epoch) =
    codes "resumption " ++ (usage_text usage ++ (codes " " ++ (hex_text group_id ++ (codes " " ++ decimal epoch))))

-- `proposal_text p` is the text of a proposal (RFC 9420, 12.1).
abbrev pub proposal_text : Proposal → List ℕ
proposal_text (Add key_package) = codes "proposal add"
proposal_text (Update leaf) = codes "proposal update"
proposal_text (Remove removed) = codes "proposal remove " ++ decimal removed
proposal_text (PreSharedKey id) = codes "proposal psk " ++ psk_text id.kind
proposal_text (ReInit r) = codes "proposal reinit " ++ (hex_text r.group_id ++ (codes " " ++ decimal r.cipher_suite))
proposal_text (ExternalInit kem_output) = codes "proposal external_init " ++ decimal (length kem_output)
proposal_text (ContextExtensions extensions) = codes "proposal extensions " ++ types_text extensions

-- `path_text p` is whether a commit has an UpdatePath (RFC 9420, 12.4).
abbrev pub path_text : Option UpdatePath → List ℕ
path_text None = codes "nopath"
path_text (Some path) = codes "path"

-- `commit_text c` is how many proposals and references a commit has, and whether it has a path (RFC 9420, 12.4).
abbrev pub commit_text : Commit → List ℕ
commit_text c = codes "commit " ++ (decimal (length c.proposals) ++ (codes " " ++ path_text c.path))

-- `content_text c` is the content of a message (RFC 9420, 6): application data by its length, a proposal or a commit.
abbrev pub content_text : Content → List ℕ
content_text (contents.Application bytes) = codes "application " ++ decimal (length bytes)
content_text (contents.Proposal p) = proposal_text p
content_text (contents.Commit c) = commit_text c

-- `framed_line f` is the line of a FramedContent (RFC 9420, 6): its sender, its epoch and its content.
abbrev pub framed_line : FramedContent → List ℕ
framed_line f =
    codes "public " ++ (sender_text f.sender
    ++ (codes " epoch " ++ (decimal f.epoch
    ++ (codes " " ++ (content_text f.content ++ codes "\n")))))

-- `unread_line wire_format count` is the line of a message that is not read (RFC 9420, 6), a PrivateMessage or a
-- Welcome, by the length of its body.
abbrev pub unread_line : ℕ → ℕ → List ℕ
unread_line wire_format count =
    if wire_format == 2 then codes "private " ++ (decimal count ++ codes "\n")
    else codes "welcome " ++ (decimal count ++ codes "\n")

-- `info_line g` is the line of a GroupInfo (RFC 9420, 12.4.3), by its epoch.
abbrev pub info_line : GroupInfo → List ℕ
info_line g = codes "group_info epoch " ++ (decimal g.context.epoch ++ codes "\n")

-- `package_line k` is the line of a KeyPackage (RFC 9420, 10), by the encryption key of its leaf node.
abbrev pub package_line : KeyPackage → List ℕ
package_line k = codes "key_package " ++ (hex_text k.leaf_node.encryption_key ++ codes "\n")

-- `message_line m` is the line of a message (RFC 9420, 6).
abbrev pub message_line : Message → List ℕ
message_line (messages.Public m) = framed_line m.auth.content
message_line (messages.Unread wire_format body) = unread_line wire_format (length body)
message_line (messages.GroupInfo g) = info_line g
message_line (messages.KeyPackage k) = package_line k
