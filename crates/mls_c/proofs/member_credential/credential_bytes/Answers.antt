use Rattle.std.proofs.Common.{◌∙◌, ◌-◌, length, take, Some, sym, ap, arith}
use Rattle.mls_apply.proofs.Credentials.{no_kind, no_body, front_encodes, front_length}
use Rattle.mls_c.proofs.member_credential.credential_bytes.Goals as goal

pub unreachable-requires : goal.unreachable-requires
unreachable-requires c =
    let after = c.after_keys-reader.ensures in
    let none = rw c.in_default.is at c.parse_u16.ensures in
    no_kind c.after_keys-reader.result after.after_credential c.args.leaf.now.credential after.credential none

pub unreachable-requires-in_default-parse : goal.unreachable-requires-in_default-parse
unreachable-requires-in_default-parse c =
    let after = c.after_keys-reader.ensures in
    let kind = rw c.in-Ok.is at c.parse_u16.ensures in
    let none = rw c.in_default-parse.is at c.parse.ensures in
    no_body c.after_keys-reader.result after.after_credential c.parse_u16.new.reader c.in-Ok.field-0 c.args.leaf.now.credential after.credential kind none

pub slice_bounds-result-count : goal.slice_bounds-result-count
slice_bounds-result-count c =
    let after = c.after_keys-reader.ensures in
    let kind = rw c.in-Ok.is at c.parse_u16.ensures in
    let body = rw c.in-Ok-parse.is at c.parse.ensures in
    let low = front_length c.after_keys-reader.result after.after_credential c.parse_u16.new.reader c.parse.new.reader c.in-Ok.field-0 c.in-Ok-parse.field-0
    c.args.leaf.now.credential after.credential kind body in
    omega (arith, low, ap length c.left-bytes.ensures, ap length c.left.ensures)

pub returns : goal.returns
returns c =
    let after = c.after_keys-reader.ensures in
    let kind = rw c.in-Ok.is at c.parse_u16.ensures in
    let body = rw c.in-Ok-parse.is at c.parse.ensures in
    front_encodes c.after_keys-reader.result after.after_credential c.parse_u16.new.reader c.parse.new.reader c.in-Ok.field-0 c.in-Ok-parse.field-0
    c.args.leaf.now.credential after.credential kind body
    ∙ (λ i. Some (take (length (sym c.left-bytes.ensures i) - length (sym c.left.ensures i)) (sym c.left-bytes.ensures i)))
