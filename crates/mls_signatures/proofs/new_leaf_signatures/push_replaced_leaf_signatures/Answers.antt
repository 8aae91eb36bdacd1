use Rattle.std.proofs.Common.{◌≡◌, ◌∙◌, ◌+◌, get_or, Bool, not, true, false, refl, sym, subst}
use Rattle.std.proofs.lemmas.Bool.{false≢true}
use Rattle.mls_signatures.specs.AddedLeaves.{AppendsSignatures}
use Rattle.mls_signatures.proofs.AddedLeaves.{Walked, of_index, walked-start, walked-push, walked-skip, walked-all}
use Rattle.mls_signatures.proofs.new_leaf_signatures.push_replaced_leaf_signatures.Goals.{then-is_new+in_ok-push_signature_after, else-is_new}
use Rattle.mls_signatures.proofs.new_leaf_signatures.push_replaced_leaf_signatures.Goals as goal

-- what is not new is there
held : (b c : Bool) → b ≡ not c → b ≡ false → c ≡ true
held b true e f = refl
held b false e f = absurd (false≢true (sym f ∙ e))

pub loop-index-init : goal.loop-index-init
loop-index-init c = λ t m.
    walked-start c.args.context.now.cipher_suite c.args.context.now.group_id t c.args.list.now c.args.replaced.now c.new-seen.result c.new-seen.ensures.empty

pub loop-index-preserved : goal.loop-index-preserved
loop-index-preserved c = λ t m.
    let context = c.args.context.now in
    let old = c.args.list.now in
    let js = c.args.replaced.now in
    let i = c.loop-index.index-index in
    let known = c.loop-index.invariant t m in
    elim c.if-is_new.branch [
      | then-is_new+in_ok-push_signature_after w ↦
          walked-push context.cipher_suite context.group_id t old js i c.loop-index.list c.loop-index.seen known c.loop-index-test.true
          c.insert.new.self c.in_ok-is_new.ensures.updates.0 c.if-is_new.list
          (subst (λ l. AppendsSignatures c.loop-index.list (of_index context.cipher_suite context.group_id t (get_or js i 0)) l) (sym w.list-is) (w.in_ok-push_signature_after.ensures t m))
      | else-is_new w ↦
          subst
          (λ l. Walked context.cipher_suite context.group_id t old js (i + 1) l c.insert.new.self)
          (sym w.list-is)
          (walked-skip context.cipher_suite context.group_id t old js i c.loop-index.list c.loop-index.seen known c.loop-index-test.true
          c.insert.new.self c.in_ok-is_new.ensures.updates.0 (held _ _ c.in_ok-is_new.ensures.added w.if-is_new.false))
    ]

pub returns : goal.returns
returns c = λ t m.
    walked-all c.args.context.now.cipher_suite c.args.context.now.group_id t c.args.list.now c.args.replaced.now c.loop-index.index-index
    c.loop-index.list c.loop-index.seen (c.loop-index.invariant t m) c.loop-index-test.false
