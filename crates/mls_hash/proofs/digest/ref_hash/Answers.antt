use Rattle.std.proofs.Common.{ℕ, List, refl, subst}
use Rattle.mls_wire.specs.Encoding.{◌⊕◌, vector}
use Rattle.mls_wire.specs.EncodingConcat.{no_left, no_right}
use Rattle.mls_hash.specs.SuiteHash.{hash_of}
use Rattle.mls_hash.specs.HasherModel.{HoldsMore}
use Rattle.mls_hash.proofs.Feeding.{hash_held, no_vector}
use Rattle.mls_hash.proofs.digest.ref_hash.Goals.{then-label-gt-MAX_BODY-via-then-label-gt-MAX_BODY, then-label-gt-MAX_BODY-via-else-label-gt-MAX_BODY+then-value-gt-MAX_BODY}
use Rattle.mls_hash.proofs.digest.ref_hash.Goals as goal

pub returns-then-label-gt-MAX_BODY : goal.returns-then-label-gt-MAX_BODY
returns-then-label-gt-MAX_BODY c = (
  refl,
  elim c.then-label-gt-MAX_BODY.branch [
    | then-label-gt-MAX_BODY-via-then-label-gt-MAX_BODY w ↦ no_left (vector c.args.label.now) (vector c.args.value.now) (no_vector c.args.label.now w.if-label-gt-MAX_BODY.true)
    | then-label-gt-MAX_BODY-via-else-label-gt-MAX_BODY+then-value-gt-MAX_BODY w ↦ no_right (vector c.args.label.now) (vector c.args.value.now) (no_vector c.args.value.now w.if-value-gt-MAX_BODY.true)
  ],
)

pub returns : goal.returns
returns c =
    let value = vector c.args.value.now in
    let h0 = c.new-hasher.result in
    let h1 = c.feed_two_vectors.new.hasher in
    hash_held (hash_of c.args.suite) (vector c.args.label.now ⊕ value) h0 h1 c.finish.result c.new-hasher.ensures
    (subst (λ (x : List ℕ). HoldsMore (vector x ⊕ value) h0 h1) c.as_bytes.ensures.value c.feed_two_vectors.ensures)
    (c.finish.ensures (hash_of c.args.suite))
