use Rattle.std.proofs.Common.{◌≡◌, ◌+◌, ◌*◌, ◌++◌, length, ap, ◌∙◌, sym, subst, arith}
use Rattle.std.specs.List.{range_with_len}
use Rattle.mls_tree.specs.Paths.{direct_path}
use Rattle.mls_tree.specs.TreeInternal.{leaves_at}
use Rattle.mls_tree.specs.HashCache.{emptied}
use Rattle.mls_tree.specs.CacheModel.{slots_in, IsOfHeight}
use Rattle.mls_tree.proofs.Numbers.{leaves_at-low}
use Rattle.mls_tree.proofs.Emptying.{emptied-append, length-emptied, nothing-emptied}
use Rattle.mls_tree.proofs.cache_update.empty_front.Goals as goal

pub returns-in_default-clause-slots : goal.returns-in_default-clause-slots
returns-in_default-clause-slots c = λ t perfect high. nothing-emptied (slots_in c.args.slots.now) (range_with_len 0 c.args.count ++ direct_path 0 t 0) (ap slots_in c.in_default.is)

pub blank_path-requires-clause-inside : goal.blank_path-requires-clause-inside
blank_path-requires-clause-inside c = omega (arith, leaves_at-low c.args.level c.requires.low)

pub blank_path-requires-clause-long : goal.blank_path-requires-clause-long
blank_path-requires-clause-long c =
    let many : length c.in-Some.slots.hashes.items + 1 ≡ 2 * leaves_at c.args.level = subst (IsOfHeight c.args.level) c.in-Some.is c.requires.long in
    omega (arith, ap length c.clear_front.ensures.slots, length-emptied c.in-Some.slots.hashes.items (range_with_len 0 c.args.count))

pub returns-clause-slots : goal.returns-clause-slots
returns-clause-slots c =
    λ t perfect high. let path = direct_path 0 t 0 in
    let ps = range_with_len 0 c.args.count in
    c.blank_path.ensures.slots t perfect high
    ∙ ap (λ cs. emptied cs path) (c.clear_front.ensures.slots ∙ ap (λ o. emptied (slots_in o) ps) (sym c.in-Some.is))
    ∙ sym (emptied-append (slots_in c.args.slots.now) ps path)
