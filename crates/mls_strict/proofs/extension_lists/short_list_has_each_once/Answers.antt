use Rattle.std.proofs.Common.{◌≡◌, ◌∙◌, ℕ, ◌+◌, ◌<◌, true, false, length, set, take, sym, refl, ap, arith}
use Rattle.std.proofs.lemmas.List.{length-set}
use Rattle.mls_nodes.specs.declared.extension.Extension.{Extension}
use Rattle.mls_strict.proofs.SeenTypes.{has_new_types_once, is_listed, new_types-first, new_types-last, new_types-next, new_types-seen, listed_more}
use Rattle.mls_strict.proofs.extension_lists.short_list_has_each_once.Goals as goal

pub loop-extension-init : goal.loop-extension-init
loop-extension-init c = record {
  sized = refl;
  within = omega arith;
  same = rw c.of_borrowed-left.ensures (new_types-first _ (λ k. refl) c.args.extensions.now);
}

pub returns-then-contains : goal.returns-then-contains
returns-then-contains c =
    let seen = is_listed (take c.loop-extension.count c.loop-extension.kinds) in
    let again : seen c.in-Some.extension.kind ≡ true = sym c.contains.ensures.value ∙ c.if-contains.true in
    let repeats = new_types-seen seen (record { kind = c.in-Some.extension.kind; body = c.in-Some.extension.body.now }) c.next.new.self again in
    sym repeats ∙ ap (has_new_types_once seen) (sym c.in-Some.ensures) ∙ c.loop-extension.invariant.same

pub loop-extension-preserved : goal.loop-extension-preserved
loop-extension-preserved c =
    let kinds = c.loop-extension.kinds in
    let count : ℕ = c.loop-extension.count in
    let e : Extension = record { kind = c.in-Some.extension.kind; body = c.in-Some.extension.body.now } in
    let less : count < 64 = omega arith in
    let within : count < length kinds = rw c.loop-extension.invariant.sized less in
    let new : is_listed (take count kinds) e.kind ≡ false = sym c.contains.ensures.value ∙ c.if-contains.false in
    let next = new_types-next (is_listed (take count kinds)) (is_listed (take (count + 1) (set kinds count e.kind))) e c.next.new.self new (listed_more kinds count e.kind within) in
    record {
      sized = length-set kinds count e.kind ∙ c.loop-extension.invariant.sized;
      within = omega arith;
      same = sym next ∙ ap (has_new_types_once (is_listed (take count kinds))) (sym c.in-Some.ensures) ∙ c.loop-extension.invariant.same;
    }

pub returns : goal.returns
returns c =
    let seen = is_listed (take c.loop-extension.count c.loop-extension.kinds) in
    let none = (rw c.in_default.is at c.next.ensures).0 in
    sym (new_types-last seen) ∙ ap (has_new_types_once seen) (sym none) ∙ c.loop-extension.invariant.same
