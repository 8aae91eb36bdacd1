use Rattle.std.proofs.Common.{◌≡◌, arith, ap, ◌∙◌, ◌++◌, ◌-◌, map, length, replicate, None, vec_len}
use Rattle.mls_nodes.specs.NodeValues.{entry_value}
use Rattle.mls_nodes.specs.RatchetTreeEncoding.{full_size}
use Rattle.mls_nodes.specs.FilledTree.{full_size-enough}
use Rattle.mls_nodes.proofs.Entries.{blank_more, blanks_begin}
use Rattle.mls_nodes.proofs.ratchet_tree.decode.append_blanks.Goals as goal

pub overflow_sub-size : goal.overflow_sub-size
overflow_sub-size c = omega (arith, full_size-enough c.len.result)

pub loop-entries-init : goal.loop-entries-init
loop-entries-init c = let all : c.len.result ≡ length c.args.entries.items = omega arith in record {
  full = blanks_begin c.args.entries.items c.reserve.new.self.items _ _ c.in_ok-reserve.ensures.items (omega (arith, c.in_ok-reserve.ensures.len)) (c.full_size_of-size.ensures ∙ ap full_size all);
  within = omega (arith, c.in_ok-reserve.ensures.len, full_size-enough c.len.result);
}

pub loop-entries-preserved : goal.loop-entries-preserved
loop-entries-preserved c = record {
  full = ap (λ k. map entry_value c.push.new.self.items ++ replicate (c.full_size_of-size.result - k) None) c.in_ok-push.ensures.len ∙ blank_more c.loop-entries.entries.items c.push.new.self.items c.full_size_of-size.result (vec_len c.loop-entries.entries) _ c.in_ok-push.ensures.items (omega arith) c.loop-entries.invariant.full;
  within = omega (arith, c.in_ok-push.ensures.len);
}
