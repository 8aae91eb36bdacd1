use Rattle.std.proofs.Common.{rules, ◌≡◌, ◌∙◌, ◌<◌, ◌==◌, ◌||◌, true, length, set, sym, refl, ap}
use Rattle.std.proofs.lemmas.List.{length-set}
use Rattle.mls_nodes.specs.declared.extension.Extension.{Extension}
use Rattle.mls_strict.proofs.SeenTypes.{has_new_types_once, is_noted, new_types-first, new_types-last, new_types-next, new_types-seen, none_noted, noted_more}
use Rattle.mls_strict.proofs.extension_lists.long_list_has_each_once.Goals as goal

pub loop-extension-init : goal.loop-extension-init
loop-extension-init c = record {
  sized = refl;
  same = rw c.of_borrowed-left.ensures (new_types-first _ (none_noted 65536) c.args.extensions.now);
}

pub returns-then-is_there-kind : goal.returns-then-is_there-kind
returns-then-is_there-kind c =
    let seen = is_noted c.loop-extension.is_there in
    let again : seen c.in-Some.extension.kind ≡ true = rw c.from-kind.ensures at c.if-is_there-kind.true in
    let repeats = new_types-seen seen (record { kind = c.in-Some.extension.kind; body = c.in-Some.extension.body.now }) c.next.new.self again in
    sym repeats ∙ ap (has_new_types_once seen) (sym c.in-Some.ensures) ∙ c.loop-extension.invariant.same

pub loop-extension-preserved : goal.loop-extension-preserved
loop-extension-preserved c =
    let table = c.loop-extension.is_there in
    let kind = c.from-kind.result in
    let e : Extension = record { kind = c.in-Some.extension.kind; body = c.in-Some.extension.body.now } in
    let below : kind < 65536 = search rules in
    let within : kind < length table = rw c.loop-extension.invariant.sized below in
    let next = new_types-next (is_noted table) (is_noted (set table kind true)) e c.next.new.self
    (rw c.from-kind.ensures at c.if-is_there-kind.false)
    (λ k. noted_more table kind within k ∙ ap (λ n. is_noted table k || (n == k)) c.from-kind.ensures) in
    record {
      sized = length-set table kind true ∙ c.loop-extension.invariant.sized;
      same = sym next ∙ ap (has_new_types_once (is_noted table)) (sym c.in-Some.ensures) ∙ c.loop-extension.invariant.same;
    }

pub returns : goal.returns
returns c =
    let seen = is_noted c.loop-extension.is_there in
    let none = (rw c.in_default.is at c.next.ensures).0 in
    sym (new_types-last seen) ∙ ap (has_new_types_once seen) (sym none) ∙ c.loop-extension.invariant.same
