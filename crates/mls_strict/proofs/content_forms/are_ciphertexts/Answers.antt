use Rattle.std.proofs.Common.{◌∙◌, sym, refl}
use Rattle.mls_strict.specs.ContentForms.{ciphertext_meets}
use Rattle.mls_strict.proofs.CiphertextLists.{AreLeft-first, AreLeft-last, AreLeft-more, ciphertext-shortens, fails_here, never_half, never_none}
use Rattle.mls_strict.proofs.content_forms.are_ciphertexts.Goals as goal

pub loop-left-init : goal.loop-left-init
loop-left-init c = AreLeft-first (ciphertext_meets c.args.suite c.args.rule) c.args.ciphertexts.now c.reader-left.result c.reader-left.ensures.items

pub unreachable-requires : goal.unreachable-requires
unreachable-requires c =
    let t = c.loop-left-test.ensures in
    never_none (ciphertext_meets c.args.suite c.args.rule) c.args.ciphertexts.now c.loop-left.left (λ e. let bad = t.1 e in absurd cc) c.loop-left.invariant c.in_default.ensures

pub unreachable-requires-in_default-parse : goal.unreachable-requires-in_default-parse
unreachable-requires-in_default-parse c =
    let t = c.loop-left-test.ensures in
    never_half (ciphertext_meets c.args.suite c.args.rule) c.args.ciphertexts.now c.loop-left.left c.parse.new.reader _ (λ e. let bad = t.1 e in absurd cc) c.loop-left.invariant c.in-Ok.ensures c.in_default-parse.ensures

pub returns-then-not-ciphertext_meets : goal.returns-then-not-ciphertext_meets
returns-then-not-ciphertext_meets c =
    let t = c.loop-left-test.ensures in
    let is = rw (c.as_slice.ensures, c.as_slice-in-loop-left.ensures) at (sym c.ciphertext_meets.ensures ∙ c.if-not-ciphertext_meets.true) in
    sym (fails_here (ciphertext_meets c.args.suite c.args.rule) c.args.ciphertexts.now c.loop-left.left c.parse.new.reader c.parse-in-loop-left.new.reader _ _
    (λ e. let bad = t.1 e in absurd cc) c.loop-left.invariant c.in-Ok.ensures c.in-Ok-parse.ensures is)

pub loop-left-smaller : goal.loop-left-smaller
loop-left-smaller c =
    let t = c.loop-left-test.ensures in
    ciphertext-shortens (ciphertext_meets c.args.suite c.args.rule) c.args.ciphertexts.now c.loop-left.left c.parse.new.reader c.parse-in-loop-left.new.reader _ _
    (λ e. let bad = t.1 e in absurd cc) c.loop-left.invariant c.in-Ok.ensures c.in-Ok-parse.ensures

pub loop-left-preserved : goal.loop-left-preserved
loop-left-preserved c =
    let t = c.loop-left-test.ensures in
    let is = rw (c.as_slice.ensures, c.as_slice-in-loop-left.ensures) at (sym c.ciphertext_meets.ensures ∙ c.if-not-ciphertext_meets.false) in
    AreLeft-more (ciphertext_meets c.args.suite c.args.rule) c.args.ciphertexts.now c.loop-left.left c.parse.new.reader c.parse-in-loop-left.new.reader _ _
    (λ e. let bad = t.1 e in absurd cc) c.loop-left.invariant c.in-Ok.ensures c.in-Ok-parse.ensures is

pub returns : goal.returns
returns c =
    let t = c.loop-left-test.ensures in
    sym (AreLeft-last (ciphertext_meets c.args.suite c.args.rule) c.args.ciphertexts.now c.loop-left.left (t.0 refl) c.loop-left.invariant)
