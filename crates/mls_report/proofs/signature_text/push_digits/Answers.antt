use Rattle.std.proofs.Common.{◌∙◌, ◌++◌, string_bytes, sym, ap, take-append-drop, arith}
use Rattle.std.proofs.lemmas.Bool.Decides.{nat_tests}
use Rattle.hex.specs.Hex.{encode_lower}
use Rattle.mls_report.proofs.HexPieces.{piece_done, all_done}
use Rattle.mls_report.proofs.signature_text.push_digits.Goals as goal

pub loop-rest-preserved : goal.loop-rest-preserved
loop-rest-preserved c =
    let text = string_bytes c.loop-rest.text in
    let all = c.loop-rest.rest.now in
    let piece = c.split_at.result.0.now in
    let tail = c.split_at.result.1.now in
    let whole = sym (take-append-drop c.min.result all) ∙ (λ i. sym c.split_at.ensures.front i ++ sym c.split_at.ensures.back i) in
    ap (λ t. t ++ encode_lower tail) (c.in_ok-push_str.ensures.bytes ∙ ap (λ digits. text ++ digits) (c.as_str.ensures.value ∙ c.in_ok-digits.ensures))
    ∙ piece_done text piece tail all _ c.loop-rest.invariant whole

pub returns : goal.returns
returns c = all_done (string_bytes c.loop-rest.text) c.loop-rest.rest.now _ c.loop-rest.invariant (let t = sym c.loop-rest-test.false ∙ c.is_empty.ensures in grind (arith, t, nat_tests))
