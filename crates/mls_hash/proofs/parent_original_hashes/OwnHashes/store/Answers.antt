use Rattle.std.proofs.Common.{◌≡◌, ◌<◌, Some, true, length, ap, ◌∙◌, inr, arith}
use Rattle.std.specs.Prelude.{slice_set}
use Rattle.mls_hash.specs.OwnHashesInternal.{marked_hashes}
use Rattle.mls_hash.proofs.MarkedHashes.{marked_hashes-put, no_mark-alike, no_mark-without_hash, place_of_hash}
use Rattle.mls_hash.proofs.parent_original_hashes.OwnHashes.store.Goals.{then-is_none+in-Ok, else-is_none}
use Rattle.mls_hash.proofs.parent_original_hashes.OwnHashes.store.Goals as goal

pub returns : goal.returns
returns c =
    let i = c.self.inside in
    let s = c.if-is_none.self-inside in
    let before : marked_hashes s.known.items s.hashes.hashes ≡ c.args.self.now = elim c.if-is_none.branch [
      | then-is_none+in-Ok w ↦
          (let low : c.args.index < length i.known.items = omega (arith, c.len-count.ensures, c.if-index-count.false) in
          ap (λ v. marked_hashes v.known.items v.hashes.hashes) w.self-inside-is
          ∙ no_mark-alike i.known.items w.in-Ok.hashes.hashes i.hashes.hashes
          (no_mark-without_hash i.known.items i.hashes.hashes c.args.index c.get.result c.self.invariant low c.get.ensures w.if-is_none.ensures)
          ∙ c.self.view_is)
      | else-is_none w ↦ ap (λ v. marked_hashes v.known.items v.hashes.hashes) w.self-inside-is ∙ c.self.view_is
    ] in
    let within : c.args.index < length s.hashes.hashes = elim c.if-is_none.branch [
      | then-is_none+in-Ok w ↦
          (let count : length s.hashes.hashes ≡ c.len-count.result = ap (λ v. length v.hashes.hashes) w.self-inside-is ∙ w.in-Ok.ensures.count in
          omega (arith, count, c.if-index-count.false))
      | else-is_none w ↦
          (let count : length s.hashes.hashes ≡ length i.hashes.hashes = ap (λ v. length v.hashes.hashes) w.self-inside-is in
          omega (arith, count, place_of_hash i.hashes.hashes c.args.index c.get.result c.get.ensures w.if-is_none.ensures))
    ] in
    inr (ap (λ v. marked_hashes (slice_set s.known.items c.args.index true) v.hashes) c.put.ensures
    ∙ marked_hashes-put s.known.items s.hashes.hashes c.args.index c.args.hash.now within
    ∙ ap (λ v. slice_set v c.args.index (Some c.args.hash.now)) before)
