use Rattle.std.proofs.Common.{◌≡◌, ◌∙◌, ◌+◌, ◌-◌, ap, sym, arith}
use Rattle.std.specs.Prelude.{option_copied}
use Rattle.mls_check.proofs.Keys.{KeysFrom, KeysFrom-none, KeysFrom-blank, KeysFrom-new, KeysFrom-repeated, KeysFrom-all, not_false, not_true}
use Rattle.mls_check.proofs.signature_keys.first_repeated_by_set.Goals as goal

pub loop-index-init : goal.loop-index-init
loop-index-init c = KeysFrom-none c.args.tree.now.tree c.leaf_count-index.result c.new-later.result (omega (arith, c.leaf_count-index.ensures)) c.new-later.ensures.empty

pub loop-index-preserved-then-not-branch : goal.loop-index-preserved-then-not-branch
loop-index-preserved-then-not-branch c =
    let t = c.args.tree.now.tree in
    let next : c.loop-index.index ≡ c.loop-index.index - 1 + 1 = omega (arith, c.loop-index-test.true) in
    let known : KeysFrom t (c.loop-index.index - 1 + 1) c.loop-index.later c.loop-index.repeated = rw (← next) c.loop-index.invariant in
    let there = not_false _ (sym c.in_ok-insert.ensures.added ∙ c.if-not-branch.true) in
    KeysFrom-repeated t (c.loop-index.index - 1) c.loop-index.later c.insert.new.self c.in-Some.leaf.now c.signature_key.result (sym c.leaf.ensures ∙ ap option_copied c.in-Some.is) c.signature_key.ensures c.in_ok-insert.ensures.updates.0
    c.loop-index.repeated known there

pub loop-index-preserved-else-not-branch : goal.loop-index-preserved-else-not-branch
loop-index-preserved-else-not-branch c =
    let t = c.args.tree.now.tree in
    let next : c.loop-index.index ≡ c.loop-index.index - 1 + 1 = omega (arith, c.loop-index-test.true) in
    let known : KeysFrom t (c.loop-index.index - 1 + 1) c.loop-index.later c.loop-index.repeated = rw (← next) c.loop-index.invariant in
    let absent = not_true _ (sym c.in_ok-insert.ensures.added ∙ c.if-not-branch.false) in
    KeysFrom-new t (c.loop-index.index - 1) c.loop-index.later c.insert.new.self c.in-Some.leaf.now c.signature_key.result (sym c.leaf.ensures ∙ ap option_copied c.in-Some.is) c.signature_key.ensures c.in_ok-insert.ensures.updates.0
    c.loop-index.repeated known absent

pub loop-index-preserved : goal.loop-index-preserved
loop-index-preserved c =
    let t = c.args.tree.now.tree in
    let next : c.loop-index.index ≡ c.loop-index.index - 1 + 1 = omega (arith, c.loop-index-test.true) in
    let known : KeysFrom t (c.loop-index.index - 1 + 1) c.loop-index.later c.loop-index.repeated = rw (← next) c.loop-index.invariant in
    KeysFrom-blank t (c.loop-index.index - 1) c.loop-index.later c.loop-index.repeated known (sym c.leaf.ensures ∙ ap option_copied c.in_default.is)

pub returns : goal.returns
returns c =
    let first : c.loop-index.index ≡ 0 = omega (arith, c.loop-index-test.false) in
    let known : KeysFrom c.args.tree.now.tree 0 c.loop-index.later c.loop-index.repeated = rw (← first) c.loop-index.invariant in
    KeysFrom-all c.args.tree.now.tree c.loop-index.later c.loop-index.repeated known
