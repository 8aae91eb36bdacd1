use Rattle.std.proofs.Common.{length, sym, ap, arith}
use Rattle.std.proofs.lemmas.Option.{slice_get_past}
use Rattle.mls_tree.proofs.HashRows.{length-hashes_in}
use Rattle.mls_tree.proofs.hash_list.HashList.get.Goals as goal

pub at-requires : goal.at-requires
at-requires c = let i = c.self.inside in omega (arith, c.if-slot-self.true, ap (λ v. length v.hashes) c.self.view_is, length-hashes_in i.width i.count i.bytes.items)

pub returns-else-slot-self : goal.returns-else-slot-self
returns-else-slot-self c =
    let i = c.self.inside in
    sym (slice_get_past c.args.self.now.hashes c.args.slot (omega (arith, c.if-slot-self.false, ap (λ v. length v.hashes) c.self.view_is, length-hashes_in i.width i.count i.bytes.items)))
