use Rattle.std.proofs.Common.{◌∙◌, refl}
use Rattle.mls_wire.specs.ListLoops.{shortens, items_go_on}
use Rattle.mls_wire.specs.StoredItems.{fewer_left, never_stops, all_read}
use Rattle.mls_wire.proofs.encoded_items.EncodedItems.to_vec.Goals as goal

pub loop-left-smaller : goal.loop-left-smaller
loop-left-smaller g c =
    fewer_left g.T.Decode.encoding g.T.Decode.reading g.met.T.Decode.exact g.met.T.Decode.long c.loop-left.left c.read.new.reader c.in-Ok.item c.in-Ok.ensures

pub loop-left-preserved : goal.loop-left-preserved
loop-left-preserved g c =
    let t = c.loop-left-test.ensures in
    rw c.in_ok-push-in-Ok.ensures.items (items_go_on g.T.Decode.reading (shortens g.T.Decode.encoding g.T.Decode.reading g.met.T.Decode.exact g.met.T.Decode.long)
    c.loop-left.items.items c.loop-left.left c.in-Ok.item c.read.new.reader _ (λ e. let bad = t.1 e in absurd cc) c.in-Ok.ensures c.loop-left.invariant)

pub unreachable-requires : goal.unreachable-requires
unreachable-requires g c =
    let t = c.loop-left-test.ensures in
    let none = rw c.in-Err-Wire.field-0-is at c.in-Err-Wire.ensures in
    let inv = rw (c.new-left.ensures, c.as_slice.ensures.bytes) at c.loop-left.invariant in
    never_stops g.T.Decode.encoding g.T.Decode.reading g.met.T.Decode.exact g.met.T.Decode.long
    c.self.inside.body c.self.invariant c.loop-left.items.items c.loop-left.left (λ e. let bad = t.1 e in absurd cc) none.0 inv

pub returns : goal.returns
returns g c =
    let t = c.loop-left-test.ensures in
    let inv = rw (c.new-left.ensures, c.as_slice.ensures.bytes) at c.loop-left.invariant in
    all_read g.T.Decode.encoding g.T.Decode.reading g.met.T.Decode.exact g.met.T.Decode.long c.self.inside.body c.loop-left.items.items c.loop-left.left (t.0 refl) inv ∙ c.self.view_is
