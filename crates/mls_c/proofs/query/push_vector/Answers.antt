use Rattle.std.proofs.Common.{◌≡◌, ℕ, List, ◌++◌, ◌∙◌, sym, ap, Result, Ok, Err, OnOk, is_ok, if◌then◌else◌}
use Rattle.mls_wire.specs.Encoding.{vector}
use Rattle.mls_wire.specs.WriteSequences.{after_nil}
use Rattle.mls_c.specs.Queries.{bytes_or_none}
use Rattle.mls_c.proofs.query.push_vector.Goals as goal

-- what is appended, if anything is
appended : {A E : Type 0} (r : Result A E) (new old xs ys : List ℕ) → new ≡ (if is_ok r then old ++ xs else old) → xs ≡ ys → OnOk r (new ≡ old ++ ys)
appended (Ok x) new old xs ys e same = e ∙ ap (λ (zs : List ℕ). old ++ zs) same
appended (Err x) new old xs ys e same = tt

pub returns-in-Ok : goal.returns-in-Ok
returns-in-Ok c =
    let is = after_nil (vector c.args.body.now) _ (rw c.new-writer.ensures at c.in-Ok.ensures) in
    appended c.extend_from_slice.result _ _ _ _ c.extend_from_slice.ensures.items (c.bytes.ensures ∙ sym (ap bytes_or_none is))
