use Rattle.std.proofs.Common.{rules, arith}
use Rattle.mls_follow.proofs.Headers.{header_read, no_version, other_version, no_format, other_format}
use Rattle.mls_follow.proofs.message_header.wire_format_of.Goals as goal
use Rattle.mls_follow.proofs.message_header.wire_format_of.Goals.{then-wire_format-lt1-via-then-wire_format-lt1, then-wire_format-lt1-via-else-wire_format-lt1+then-wire_format-gt5}

pub returns-in_default-clause-none : goal.returns-in_default-clause-none
returns-in_default-clause-none c = no_version c.args.bytes.now (rw c.new-reader.ensures at c.in_default.ensures.0)

pub returns-then-version-ne1-clause-none : goal.returns-then-version-ne1-clause-none
returns-then-version-ne1-clause-none c =
    other_version c.in-Ok.version c.args.bytes.now c.read_u16.new.self (rw c.new-reader.ensures at c.in-Ok.ensures) (search rules)

pub returns-in_default-read_u16-clause-none : goal.returns-in_default-read_u16-clause-none
returns-in_default-read_u16-clause-none c =
    no_format c.args.bytes.now c.read_u16.new.self (rw (c.new-reader.ensures, c.if-version-ne1.false) at c.in-Ok.ensures) c.in_default-read_u16.ensures.0

pub returns-then-wire_format-lt1-clause-none : goal.returns-then-wire_format-lt1-clause-none
returns-then-wire_format-lt1-clause-none c =
    other_format c.args.bytes.now c.read_u16.new.self (rw (c.new-reader.ensures, c.if-version-ne1.false) at c.in-Ok.ensures)
    c.in-Ok-read_u16.wire_format c.read_u16-2.new.self c.in-Ok-read_u16.ensures
    (λ known. elim c.then-wire_format-lt1.branch [
      | then-wire_format-lt1-via-then-wire_format-lt1 w ↦ omega (arith, w.if-wire_format-lt1.true, known.0)
      | then-wire_format-lt1-via-else-wire_format-lt1+then-wire_format-gt5 w ↦ omega (arith, w.if-wire_format-gt5.true, known.1)
    ])

pub returns-clause-header : goal.returns-clause-header
returns-clause-header c =
    header_read c.in-Ok-read_u16.wire_format c.args.bytes.now c.read_u16.new.self c.read_u16-2.new.self
    (rw (c.new-reader.ensures, c.if-version-ne1.false) at c.in-Ok.ensures) c.in-Ok-read_u16.ensures
