use Rattle.std.proofs.Common.{◌∙◌, inl, inr, sym, ap, arith}
use Rattle.std.proofs.lemmas.Bool.{cases_eq, false≢true}
use Rattle.mls_index.specs.LeafCredentials.{class_at}
use Rattle.mls_index.specs.LeafCredentialsInternal.{lacks_used}
use Rattle.mls_index.proofs.Supporting.{lacking-none}
use Rattle.mls_index.proofs.leaf_credentials.CountedClasses.first_lacking.Goals as goal

pub returns-then-lacks_used : goal.returns-then-lacks_used
returns-then-lacks_used c = record { holds = sym c.lacks_used.ensures ∙ c.if-lacks_used.true; smaller = c.loop-index.invariant }

pub loop-index-preserved : goal.loop-index-preserved
loop-index-preserved c = λ j low e.
    let xs = c.args.self.now.list.items in
    elim (cases_eq j c.loop-index.index) [
      | inl same ↦ false≢true (sym c.if-lacks_used.false ∙ c.lacks_used.ensures ∙ ap (λ i. lacks_used xs (class_at xs i)) (sym same) ∙ e)
      | inr other ↦ c.loop-index.invariant j (omega (arith, low, other)) e
    ]

pub returns : goal.returns
returns c = lacking-none c.args.self.now.list.items c.loop-index.index (omega (arith, c.len-index-end.ensures, c.loop-index-test.false)) c.loop-index.invariant
