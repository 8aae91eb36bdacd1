use Rattle.std.proofs.Common.{arith}
use Rattle.mls_index.proofs.OptionalNumbers.{length-entries}
use Rattle.mls_index.proofs.numbers.Numbers.len.Goals as goal

pub returns : goal.returns
returns c =
    let i = c.self.inside in
    omega (arith, c.len.ensures, length-entries i.are_some.items i.numbers.items c.args.self.now c.self.invariant c.self.view_is, i.are_some.ok.0)
