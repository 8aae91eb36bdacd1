use Rattle.std.proofs.Common.{◌∙◌, ap, sym, arith}
use Rattle.std.specs.Prelude.{option_copied}
use Rattle.mls_check.specs.LeafValidation.{supports_used_credentials}
use Rattle.mls_check.proofs.Leaves.{HoldsBelow-set, HoldsBelow-blank, FailsFirst-here, all_leaves-below}
use Rattle.mls_check.proofs.Used.{supports_types-used}
use Rattle.mls_check.proofs.credential_types.first_unsupported_credential.Goals as goal
use Rattle.mls_check.proofs.credential_types.first_unsupported_credential.Goals.{in-Some+else-not-supports_types, in_default}

pub returns-then-not-supports_types : goal.returns-then-not-supports_types
returns-then-not-supports_types c =
    let t = c.args.tree.now.tree in
    let types = c.credential_types-types in
    let used = supports_types-used t c.in-Some.leaf.now types.result.basic types.result.x509 types.ensures.basic types.ensures.x509 in
    FailsFirst-here (λ _ x. supports_used_credentials t x) t c.loop-index.index c.in-Some.leaf.now c.loop-index.invariant (sym c.leaf.ensures ∙ ap option_copied c.in-Some.is)
    (sym used ∙ (sym c.supports_types.ensures ∙ c.if-not-supports_types.true))

pub loop-index-preserved : goal.loop-index-preserved
loop-index-preserved c =
    let t = c.args.tree.now.tree in
    let types = c.credential_types-types in
    elim c.match-leaf.branch [
      | in-Some+else-not-supports_types w ↦
          let used = supports_types-used t w.in-Some.leaf.now types.result.basic types.result.x509 types.ensures.basic types.ensures.x509 in
          HoldsBelow-set (λ _ x. supports_used_credentials t x) t c.loop-index.index w.in-Some.leaf.now c.loop-index.invariant (sym c.leaf.ensures ∙ ap option_copied w.in-Some.is)
          (sym used ∙ (sym w.supports_types.ensures ∙ w.if-not-supports_types.false))
      | in_default w ↦ HoldsBelow-blank (λ _ x. supports_used_credentials t x) t c.loop-index.index c.loop-index.invariant (sym c.leaf.ensures ∙ ap option_copied w.in_default.is)
    ]

pub returns : goal.returns
returns c = all_leaves-below (λ _ x. supports_used_credentials c.args.tree.now.tree x) c.args.tree.now.tree c.loop-index.index c.loop-index.invariant (omega (arith, c.leaf_count-index-end.ensures, c.loop-index-test.false))
