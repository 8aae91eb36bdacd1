use Rattle.mls_nodes.proofs.StoredLeaves.{no_first_key, no_second_key, after_keys}
use Rattle.mls_c.proofs.member_credential.after_keys.Goals as goal

pub unreachable-requires : goal.unreachable-requires
unreachable-requires c =
    let none = rw (c.in_default.is, c.new-reader.ensures) at c.parse.ensures in
    no_first_key c.args.leaf.now c.encoding.result.now c.encoding.ensures.encoding none

pub unreachable-requires-in_default-parse : goal.unreachable-requires-in_default-parse
unreachable-requires-in_default-parse c =
    let some = rw (c.in-Ok.is, c.new-reader.ensures) at c.parse.ensures in
    let none = rw c.in_default-parse.is at c.parse-2.ensures in
    no_second_key c.args.leaf.now c.encoding.result.now c.encoding.ensures.encoding c.in-Ok.field-0 c.parse.new.reader some none

pub returns : goal.returns
returns c =
    let some = rw (c.in-Ok.is, c.new-reader.ensures) at c.parse.ensures in
    let second = rw c.in-Ok-parse.is at c.parse-2.ensures in
    after_keys c.args.leaf.now c.encoding.result.now c.encoding.ensures.encoding c.in-Ok.field-0 c.in-Ok-parse.field-0 c.parse.new.reader c.parse-2.new.reader some second
