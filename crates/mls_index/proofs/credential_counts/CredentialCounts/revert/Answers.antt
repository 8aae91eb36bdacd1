use Rattle.std.proofs.Common.{◌≤◌, length, sym, arith}
use Rattle.std.proofs.lemmas.List.{set_past}
use Rattle.mls_index.specs.LeafCredentials.{classes_before}
use Rattle.mls_index.proofs.Classes.{same_classes, back-last}
use Rattle.mls_index.proofs.credential_counts.CredentialCounts.revert.Goals as goal

pub loop-index-preserved-then-index-len : goal.loop-index-preserved-then-index-len
loop-index-preserved-then-index-len c = λ t h.
    let es = c.loop-index.self.replaced.items in
    let fs = c.pop.new.self.items in
    let xs = c.loop-index.self.classes.list.items in
    let ys = c.replace.new.self.list.items in
    same_classes t (classes_before es xs) (classes_before fs ys) (back-last es fs xs ys c.in-Some.index c.in-Some.was c.in-Some.ensures.items c.replace.ensures.replaced)
    (c.loop-index.invariant t h)

pub loop-index-preserved : goal.loop-index-preserved
loop-index-preserved c = λ t h.
    let es = c.loop-index.self.replaced.items in
    let fs = c.pop.new.self.items in
    let xs = c.loop-index.self.classes.list.items in
    let beyond : length xs ≤ c.in-Some.index = omega (arith, c.len.ensures, c.if-index-len.false) in
    same_classes t (classes_before es xs) (classes_before fs xs)
    (back-last es fs xs xs c.in-Some.index c.in-Some.was c.in-Some.ensures.items (sym (set_past xs c.in-Some.index c.in-Some.was beyond))) (c.loop-index.invariant t h)
