use Rattle.std.proofs.Common.{sym, arith}
use Rattle.mls_check.specs.DistinctKeys.{encryption_key_at, IsDistinct}
use Rattle.mls_check.proofs.Differing.{Begun-blank, Begun-key, apart-answered}
use Rattle.mls_check.proofs.Repeats.{distinct-apart}
use Rattle.mls_check.proofs.distinct_keys.has_distinct_prefixes.Goals as goal
use Rattle.mls_check.proofs.distinct_keys.has_distinct_prefixes.Goals.{in-Some+in_ok-push, in_default}

pub loop-node_index-preserved : goal.loop-node_index-preserved
loop-node_index-preserved c =
    let keys = encryption_key_at c.args.tree.now.tree in
    let p = c.loop-node_index.node_index in
    let numbers = c.loop-node_index.prefixes.items in
    let known = c.loop-node_index.invariant in
    elim c.match-encryption_key_at.branch [
      | in-Some+in_ok-push w ↦
          let set = sym w.in-Some.ensures in
          rw w.prefixes-is
          (Begun-key keys p numbers known w.in-Some.key.now set
          w.key_prefix.result w.push.new.self.items w.key_prefix.ensures w.in_ok-push.ensures.items)
      | in_default w ↦
          rw w.prefixes-is (Begun-blank keys p numbers known (sym w.in_default.ensures))
    ]

pub returns : goal.returns
returns c =
    let t = c.args.tree.now.tree in
    let p = c.loop-node_index.node_index in
    let numbers = c.loop-node_index.prefixes.items in
    let distinct = distinct-apart t p (omega (arith, c.node_index_count-node_indices.ensures.count)) in
    apart-answered (encryption_key_at t) p numbers c.loop-node_index.invariant (IsDistinct t) distinct
    c.all_differ.result c.all_differ.ensures.0
