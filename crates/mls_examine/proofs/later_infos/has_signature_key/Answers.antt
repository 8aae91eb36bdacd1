use Rattle.std.proofs.Common.{rules, ◌≡◌, ◌∙◌, true, sym, ap, arith}
use Rattle.std.specs.Prelude.{option_copied}
use Rattle.std.specs.Str.{bytes_eq}
use Rattle.mls_examine.proofs.Looking.{key_found, key_missing}
use Rattle.mls_examine.proofs.later_infos.has_signature_key.Goals as goal

pub returns-then-eq : goal.returns-then-eq
returns-then-eq c =
    let same : bytes_eq c.in-Some.leaf.now.signature_key c.args.key.now ≡ true = search rules in
    sym (key_found c.args.tree.now.tree c.args.key.now c.loop-index.index c.in-Some.leaf.now (sym c.leaf.ensures ∙ ap option_copied c.in-Some.is) same)

pub returns : goal.returns
returns c =
    sym (key_missing c.args.tree.now.tree c.args.key.now c.loop-index.index c.loop-index.invariant
    (omega (arith, c.leaf_count-index-end.ensures, c.loop-index-test.false)))
