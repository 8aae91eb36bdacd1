use Rattle.mls_nodes.proofs.CodesInBytes.{always_first, taken}
use Rattle.mls_nodes.proofs.codes.next_code.Goals as goal

pub unreachable-requires : goal.unreachable-requires
unreachable-requires c =
    let none = rw c.in_default.is at c.parse_u16.ensures in
    always_first c.reader-reader.result c.args.codes.now c.reader-reader.ensures.items (λ e. let bad = c.is_empty.ensures.1 e in absurd cc) none

pub new-requires : goal.new-requires
new-requires c =
    let some = rw c.in-Ok.is at c.parse_u16.ensures in
    rw c.left.ensures (taken c.reader-reader.result c.parse_u16.new.reader c.in-Ok.code c.args.codes.now c.reader-reader.ensures.items (λ e. let bad = c.is_empty.ensures.1 e in absurd cc) some).0

pub returns : goal.returns
returns c =
    let some = rw c.in-Ok.is at c.parse_u16.ensures in
    rw (c.new.ensures, c.left.ensures) (taken c.reader-reader.result c.parse_u16.new.reader c.in-Ok.code c.args.codes.now c.reader-reader.ensures.items (λ e. let bad = c.is_empty.ensures.1 e in absurd cc) some).1
