use Rattle.std.proofs.Common.{arith, ◌++◌, length-append, length, take, length-take-le, ◌≡◌, List, ℕ}
use Rattle.std.proofs.lemmas.List.{length-take}
use Rattle.mls_wire.proofs.KnownBytes.{Consumes-trans}
use Rattle.mls_show.proofs.Outcomes.{OnErr-any}
use Rattle.mls_show.proofs.read_to_end.read_all.Goals as goal

pub returns-in_err-extend_from_slice-clause-effect_on_error : goal.returns-in_err-extend_from_slice-clause-effect_on_error
returns-in_err-extend_from_slice-clause-effect_on_error g c =
    let old = c.pieces.bytes.items in
    let new : List ℕ = take c.in_ok-n.n c.pull_piece.new.piece in
    let taken : length new ≡ c.in_ok-n.n = length-take-le c.in_ok-n.n c.pull_piece.new.piece c.in_ok-n.ensures.bound in
    OnErr-any c.from_residual-in_err-extend_from_slice.result (record {
      bytes = old ++ new;
      taken = Consumes-trans _ _ _ _ _ c.pieces.invariant.1 c.in_ok-n.ensures.bytes;
      bounded = omega (arith, length-append old new, length-take c.min-room.result c.pieces.piece, c.in_ok-n.ensures.bound, c.pull_piece.ensures.same_length);
    })
