use Rattle.std.proofs.Common.{◌≡◌, ◌-◌, List, ℕ, length, take, ap, ◌∙◌, arith}
use Rattle.std.proofs.lemmas.List.{take_all}
use Rattle.mls_wire.proofs.Logs.{head_bytes, size_is}
use Rattle.mls_wire.proofs.log.next_size.Goals as goal

pub size_of_body-requires : goal.size_of_body-requires
size_of_body-requires g c =
    let more : List ℕ = c.fill.new.into in
    let size = c.size_of_length-size.ensures in
    let len : length more ≡ c.size_of_length-size.result - 1 = omega (arith, c.in_ok-count.ensures.len, size.some, size.most) in
    let bytes = head_bytes c.args.first more _ c.size_of_length-size.result size.some len in
    (c.args.first, more, bytes, ap length bytes ∙ omega (arith, len, size.some, size.size))

pub returns-clause-size : goal.returns-clause-size
returns-clause-size g c =
    let more : List ℕ = c.fill.new.into in
    let size = c.size_of_length-size.ensures in
    let len : length more ≡ c.size_of_length-size.result - 1 = omega (arith, c.in_ok-count.ensures.len, size.some, size.most) in
    let all : take c.in_ok-count.count more ≡ more = take_all c.in_ok-count.count more (omega (arith, len, c.if-count-size.false)) in
    let bytes = head_bytes c.args.first more _ c.size_of_length-size.result size.some len in
    (more, rw all at c.in_ok-count.ensures.bytes, size_is c.size_of_body.result _ c.args.first more _ bytes c.size_of_body.ensures)
