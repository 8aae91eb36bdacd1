use Rattle.std.proofs.Common.{◌≡◌, ◌-◌, ◌∙◌, ℕ, List, ap, arith, drop, length, length-drop, sym, take, take_all}
use Rattle.std.proofs.lemmas.Bool.Decides.{Decides-eqb}
use Rattle.std.proofs.lemmas.Slice.Eq.{slice_eq-Decides}
use Rattle.sha2.specs.Sha256.{sha256}
use Rattle.mls_state.proofs.Files.{has_digest, is_digest, state_last, state_sized}
use Rattle.mls_state.proofs.file.is_intact.Goals as goal

pub unreachable-requires : goal.unreachable-requires
unreachable-requires c = state_sized c.args.file.now c.args.bytes.now c.requires (sym c.in_default.is ∙ c.size.ensures)

pub overflow_sub-bytes : goal.overflow_sub-bytes
overflow_sub-bytes c =
    (state_last c.args.file.now c.args.bytes.now c.in-Some.len c.requires (sym c.in-Some.is ∙ c.size.ensures) search).0

pub returns : goal.returns
returns c =
    let last = state_last c.args.file.now c.args.bytes.now c.in-Some.len c.requires (sym c.in-Some.is ∙ c.size.ensures) search in
    let same = slice_eq-Decides Decides-eqb _ _ _ c.eq.ensures in
    let bytes : List ℕ = c.args.bytes.now in
    let front = length bytes - c.in-Some.len in
    let end : take (length bytes - front) (drop front bytes) ≡ drop front bytes = take_all _ (drop front bytes) (omega (arith, length-drop front bytes)) in
    let digest : c.as_slice-2.result.now ≡ sha256 (drop front bytes) = c.as_slice-2.ensures ∙ c.digest_of-checksum.ensures ∙ ap sha256 end in (
      λ e. is_digest c.args.file.now _ last.1 (sym c.as_slice.ensures.bytes ∙ same.0 e ∙ digest),
      λ checked. same.1 (c.as_slice.ensures.bytes ∙ has_digest c.args.file.now _ last.1 checked ∙ sym digest),
    )
