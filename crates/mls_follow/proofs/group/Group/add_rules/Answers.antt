use Rattle.std.proofs.Common.{List, refl, subst}
use Rattle.mls_tree.specs.Tree.{Tree}
use Rattle.mls_strict.specs.StrictTrees.{IsStrict, IsStrictFault, IsStrictTreeFault}
use Rattle.mls_strict.specs.declared.strict_fault.StrictTreeFault.{StrictTreeFault}
use Rattle.mls_apply.specs.declared.list_item.KnownProposal.{KnownProposal}
use Rattle.mls_follow.specs.AddedRules.{AreKnownStrict, FailsKnownAt}
use Rattle.mls_follow.proofs.group.Group.add_rules.Goals as goal

pub returns-in-Err-Strict-clause-refused : goal.returns-in-Err-Strict-clause-refused
returns-in-Err-Strict-clause-refused c =
    let added = c.difference-added.result in
    let context = c.args.self.now.context in
    let fault = subst (λ (e : StrictTreeFault). IsStrictTreeFault added context c.tree.result.now.tree e) c.in-Err-Strict.field-0-is c.in-Err-Strict.ensures.fault in
    rw c.in-Err-Strict.fault-is
    (added, (c.difference-added.ensures.difference, subst (λ (t : Tree). IsStrictFault added context t c.in-Err-Strict.fault) c.tree.ensures fault))

pub returns-in-Some-clause-refused : goal.returns-in-Some-clause-refused
returns-in-Some-clause-refused c =
    let added = c.difference-added.result in
    let context = c.args.self.now.context in (
      added,
      (
        c.difference-added.ensures.difference,
        subst (λ (t : Tree). IsStrict added context t) c.tree.ensures c.in-Ok.ensures.strict,
        subst (λ (known : List KnownProposal). FailsKnownAt added context known c.in-Some.number) c.as_slice-known.ensures c.in-Some.ensures,
      ),
    )

pub returns-clause-made : goal.returns-clause-made
returns-clause-made c =
    let added = c.difference-added.result in
    let context = c.args.self.now.context in
    record {
      added = added;
      is_difference = c.difference-added.ensures.difference;
      strict = subst (λ (t : Tree). IsStrict added context t) c.tree.ensures c.in-Ok.ensures.strict;
      known = subst (λ (known : List KnownProposal). AreKnownStrict added context known) c.as_slice-known.ensures c.in_default.ensures;
      all = c.with-self.result;
      is_union = c.with-self.ensures.union;
      state = refl;
    }
