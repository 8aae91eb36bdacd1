use Rattle.std.proofs.Common.{length, sym, ap, ◌∙◌}
use Rattle.mls_tree.proofs.HashRows.{length-hashes_in}
use Rattle.mls_tree.proofs.hash_list.HashList.len.Goals as goal

pub returns : goal.returns
returns c = let i = c.self.inside in sym (length-hashes_in i.width i.count i.bytes.items) ∙ ap (λ v. length v.hashes) c.self.view_is
