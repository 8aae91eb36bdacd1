use Rattle.std.proofs.Common.{refl, sym, inl}
use Rattle.mls_follow.proofs.Headers.{no_message, other_is_read}
use Rattle.mls_follow.proofs.framed_content_rules.read_message.Goals as goal

pub returns-in_default-clause-refused : goal.returns-in_default-clause-refused
returns-in_default-clause-refused c = λ own. inl (refl, no_message c.args.profile c.args.bytes.now c.in_default.ensures.none)

-- the wire format that was read is in a header, and is not that of an unread message
pub returns-clause-no_header : goal.returns-clause-no_header
returns-clause-no_header c = λ none. absurd (none c.in-Some.wire_format c.in-Some.ensures.known c.in-Some.ensures.header)

pub returns-clause-unread : goal.returns-clause-unread
returns-clause-unread c = λ u. absurd (other_is_read c.in-Some.wire_format c.args.bytes.now c.in-Some.ensures.header (sym c.if-is_unread.ensures) u)
