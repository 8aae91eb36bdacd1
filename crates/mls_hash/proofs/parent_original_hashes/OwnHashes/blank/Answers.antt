use Rattle.std.proofs.Common.{◌≡◌, Bool, false, List, Some, replicate, subst}
use Rattle.std.specs.Prelude.{slice_get}
use Rattle.mls_hash.specs.OwnHashesInternal.{marked_hashes}
use Rattle.mls_hash.proofs.MarkedHashes.{no_mark-unknown}
use Rattle.mls_hash.proofs.parent_original_hashes.OwnHashes.blank.Goals as goal

pub returns : goal.returns
returns c =
    λ k hash e.
    let same : c.in_ok-vec.field-0.items ≡ replicate c.args.count false = c.in_ok-vec.ensures.items_if_clones_equal (λ y h. h) in
    no_mark-unknown c.args.count c.in_ok-blank.field-0.hashes k hash
    (subst (λ (known : List Bool). slice_get (marked_hashes known c.in_ok-blank.field-0.hashes) k ≡ Some (Some hash)) same e)
