use Rattle.std.proofs.Common.{refl, sym, arith}
use Rattle.std.specs.Prelude.{option_copied}
use Rattle.mls_tree.proofs.CountsRead.{if_any-near, if_any-far}
use Rattle.std.proofs.lemmas.List.{append-nil}
use Rattle.mls_tree.proofs.Walking.{leaves_at-split, filtered_direct_path-pushed_left, filtered_direct_path-pushed_right, where_resolved-set, where_resolved-none}
use Rattle.mls_tree.proofs.paths.+push_filtered_direct_path.Goals as goal

pub returns-in_ok-push : goal.returns-in_ok-push
returns-in_ok-push t c leaves =
    filtered_direct_path-pushed_left c.args.nodes.now c.args.first c.leaves_of.result c.args.level c.if-level-eq0.false c.leaves_of.ensures.value leaves c.args.leaf _ _ _ _
    c.in_ok-push.ensures.items c.if-leaf-middle.true (c.in_ok-push_filtered_direct_path.ensures leaves) (where_resolved-set _ _ ((c.if-counts_resolution.ensures leaves).0 refl))

pub returns-else-counts_resolution : goal.returns-else-counts_resolution
returns-else-counts_resolution t c leaves =
    filtered_direct_path-pushed_left c.args.nodes.now c.args.first c.leaves_of.result c.args.level c.if-level-eq0.false c.leaves_of.ensures.value leaves c.args.leaf _ _ _ _
    (sym (append-nil _)) c.if-leaf-middle.true (c.in_ok-push_filtered_direct_path.ensures leaves) (where_resolved-none _ _ ((c.if-counts_resolution.ensures leaves).1))

pub returns-in_ok-push-2 : goal.returns-in_ok-push-2
returns-in_ok-push-2 t c leaves =
    filtered_direct_path-pushed_right c.args.nodes.now c.args.first c.leaves_of.result c.args.level c.if-level-eq0.false c.leaves_of.ensures.value leaves c.args.leaf _ _ _ _
    c.in_ok-push-2.ensures.items c.if-leaf-middle.false (c.in_ok-push_filtered_direct_path-2.ensures leaves) (where_resolved-set _ _ ((c.if-counts_resolution-2.ensures leaves).0 refl))

pub returns-else-counts_resolution-2 : goal.returns-else-counts_resolution-2
returns-else-counts_resolution-2 t c leaves =
    filtered_direct_path-pushed_right c.args.nodes.now c.args.first c.leaves_of.result c.args.level c.if-level-eq0.false c.leaves_of.ensures.value leaves c.args.leaf _ _ _ _
    (sym (append-nil _)) c.if-leaf-middle.false (c.in_ok-push_filtered_direct_path-2.ensures leaves) (where_resolved-none _ _ ((c.if-counts_resolution-2.ensures leaves).1))

pub push_filtered_direct_path-requires : goal.push_filtered_direct_path-requires
push_filtered_direct_path-requires t c =
    let s = leaves_at-split _ _ c.if-level-eq0.false c.leaves_of.ensures.value in
    (omega (arith, c.decreases), (omega arith, (omega arith, (omega arith, if_any-near c.args.nodes.now c.args.first c.leaves_of.result c.args.level c.if-level-eq0.false c.leaves_of.ensures.value (option_copied c.args.counts) c.requires.counts))))

pub push_filtered_direct_path-requires-else-leaf-middle : goal.push_filtered_direct_path-requires-else-leaf-middle
push_filtered_direct_path-requires-else-leaf-middle t c =
    let s = leaves_at-split _ _ c.if-level-eq0.false c.leaves_of.ensures.value in
    (omega (arith, c.decreases), (omega arith, (omega arith, (omega arith, if_any-far c.args.nodes.now c.args.first c.leaves_of.result c.args.level c.if-level-eq0.false c.leaves_of.ensures.value (option_copied c.args.counts) c.requires.counts))))

pub counts_resolution-requires-clause-counts : goal.counts_resolution-requires-clause-counts
counts_resolution-requires-clause-counts t c = if_any-far c.args.nodes.now c.args.first c.leaves_of.result c.args.level c.if-level-eq0.false c.leaves_of.ensures.value (option_copied c.args.counts) c.requires.counts

pub counts_resolution-requires-else-leaf-middle-clause-counts : goal.counts_resolution-requires-else-leaf-middle-clause-counts
counts_resolution-requires-else-leaf-middle-clause-counts t c = if_any-near c.args.nodes.now c.args.first c.leaves_of.result c.args.level c.if-level-eq0.false c.leaves_of.ensures.value (option_copied c.args.counts) c.requires.counts
