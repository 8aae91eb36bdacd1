use Rattle.std.proofs.Common.{◌+◌, ℕ, Some, ap, ◌∙◌, sym, arith}
use Rattle.mls_check.specs.Receipts.{receipt_lines}
use Rattle.mls_check.proofs.Lines.{digest_found, digest_missing, digests_more, digests_all, bad_more, bad_here}
use Rattle.mls_check.proofs.receipts.digests_of.Goals as goal

pub returns-in_default-clause-refused : goal.returns-in_default-clause-refused
returns-in_default-clause-refused c =
    let missing = digest_missing c.split_line.result.0.now c.from_hex.result c.in_default.field-0 c.from_hex.ensures c.in_default.is in
    let bad = bad_here _ _ c.split_line.result.0.now (receipt_lines c.split_line.result.1.now) (rw c.split_line.ensures.line at c.loop-rest.invariant.bad) missing in
    (c.requires, bad ∙ ap (λ (n : ℕ). Some (n + 1)) (sym c.len.ensures))

pub loop-rest-preserved : goal.loop-rest-preserved
loop-rest-preserved c =
    let found = digest_found c.split_line.result.0.now c.from_hex.result c.in-Ok.digest c.from_hex.ensures c.in-Ok.is in
    let lines = receipt_lines c.split_line.result.1.now in
    record {
      digests = rw c.in_ok-push.ensures.items (digests_more _ c.loop-rest.digests.items c.split_line.result.0.now c.in-Ok.digest lines (rw c.split_line.ensures.line at c.loop-rest.invariant.digests) found);
      bad = rw c.in_ok-push.ensures.len (bad_more _ _ c.split_line.result.0.now c.in-Ok.digest lines (rw c.split_line.ensures.line at c.loop-rest.invariant.bad) found);
      within = omega (arith, c.in_ok-push.ensures.len, c.split_line.ensures.shorter, c.loop-rest.invariant.within);
    }

pub returns-clause-digests : goal.returns-clause-digests
returns-clause-digests c = digests_all _ c.loop-rest.digests.items c.loop-rest.rest.now c.loop-rest.invariant.digests (sym c.is_empty.ensures ∙ c.loop-rest-test.false)
