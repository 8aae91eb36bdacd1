use Rattle.std.proofs.Common.{◌∙◌, sym, ◌<◌, length, arith, add-one}
use Rattle.mls_strict.proofs.LittleEndian.{top_differs, top_equal}
use Rattle.mls_strict.proofs.key_forms.is_below.Goals as goal
use Rattle.mls_strict.proofs.key_forms.is_below.Goals.{then-byte-limit, else-byte-limit}

pub loop-i-preserved : goal.loop-i-preserved
loop-i-preserved c =
    let bytes = c.args.bytes.now in
    let limit = c.args.limit.now in
    let i = c.loop-i.i in
    let within : i < length bytes = c.loop-i-test.true in
    let within_limit : i < length limit = omega arith in
    rw add-one (elim c.if-byte-limit.branch [
      | then-byte-limit w ↦
          w.is_below-is ∙ sym (top_differs i bytes limit within within_limit (λ k. (c.type_inv.bytes k).fits) (λ k. (c.type_inv.limit k).fits) w.if-byte-limit.true)
      | else-byte-limit w ↦
          w.is_below-is ∙ c.loop-i.invariant ∙ sym (top_equal i bytes limit within within_limit w.if-byte-limit.false)
    ])
