use Rattle.std.proofs.Common.{◌∙◌, refl, sym}
use Rattle.std.proofs.lemmas.Bool.{false≢true}
use Rattle.mls_state.proofs.file.decode_state_file.Goals as goal

pub is_intact-requires : goal.is_intact-requires
is_intact-requires c = c.in_ok-file.ensures.encoded.0

pub returns-then-is_intact : goal.returns-then-is_intact
returns-then-is_intact c =
    let read = c.in_ok-file.ensures.encoded in
    (record { file = c.in_ok-file.file; state = refl; checked = c.is_intact.ensures.0 c.if-is_intact.true; encoded = read.0 }, read.1)

pub returns : goal.returns
returns c =
    let read = c.in_ok-file.ensures.encoded in
    (c.in_ok-file.file, read.0, λ checked. absurd (false≢true (sym c.if-is_intact.false ∙ c.is_intact.ensures.1 checked)))
