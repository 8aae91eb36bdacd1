use Rattle.std.proofs.Common.{◌≡◌, ◌∙◌, ◌<◌, ◌≤◌, ◌-◌, ◌%◌, ◌^◌, true, false, [], ◌∷◌, get_or, set, sym, ap}
use Rattle.std.specs.Prelude.{◌==◌, nat_lt, not}
use Rattle.std.specs.List.{list_any}
use Rattle.std.specs.Str.{bytes_eq}
use Rattle.std.proofs.lemmas.Bool.{le-leb, lt-leb}
use Rattle.mls_strict.specs.KeyForms.{le_number, prime_448}
use Rattle.mls_strict.specs.declared.coordinates.TheConstants.{UNSIGNED_448}
use Rattle.mls_strict.proofs.Constants.{below-448, canonical-above, canonical-signed, canonical-unsigned, top_bit-448, unsigned_448-found}
use Rattle.mls_strict.proofs.key_forms.is_canonical_448.Goals as goal
use Rattle.mls_strict.proofs.key_forms.is_canonical_448.Goals.{then-has_sign, else-has_sign}

pub returns-else-is_below : goal.returns-else-is_below
returns-else-is_below c =
    let key = c.args.key.now in
    let below : c.is_below.result ≡ nat_lt (le_number key % 2 ^ 455) prime_448 =
    c.is_below.ensures ∙ rw c.copy_from_slice.ensures.after (below-448 key c.requires (λ k. (c.type_inv.key k).fits)) in
    canonical-above 455 prime_448 (le_number key) c.is_below.result below c.if-is_below.false

pub returns-after-has_sign : goal.returns-after-has_sign
returns-after-has_sign c =
    let key = c.args.key.now in
    let copy = c.copy_from_slice.new.self in
    let below : c.is_below.result ≡ nat_lt (le_number key % 2 ^ 455) prime_448 =
    c.is_below.ensures ∙ rw c.copy_from_slice.ensures.after (below-448 key c.requires (λ k. (c.type_inv.key k).fits)) in
    let is_below : nat_lt (le_number key % 2 ^ 455) prime_448 ≡ true = sym below ∙ c.if-is_below.true in
    let sign = top_bit-448 key c.requires (λ k. (c.type_inv.key k).fits) in
    elim c.if-has_sign.branch [
      | then-has_sign w ↦
          let above : 128 ≤ get_or key 56 0 = rw c.copy_from_slice.ensures.after at w.if-has_sign.true in
          let found : w.contains.result ≡ list_any (λ y. bytes_eq y (set copy 56 (get_or copy 56 0 % 128))) UNSIGNED_448 = w.contains.ensures.value in
          let among : w.contains.result ≡ list_any (λ u. u == le_number key % 2 ^ 455) (1 ∷ (prime_448 - 1) ∷ []) =
          found ∙ rw c.copy_from_slice.ensures.after (unsigned_448-found key c.requires (λ k. (c.type_inv.key k).fits)) in
          ap not (w.result-is ∙ among) ∙ sym (canonical-signed 455 prime_448 (le_number key) is_below (sign ∙ le-leb 128 (get_or key 56 0) above))
      | else-has_sign w ↦
          let low : get_or key 56 0 < 128 = rw c.copy_from_slice.ensures.after at w.if-has_sign.false in
          let no_sign : c.if-has_sign.result ≡ false = w.result-is ∙ rw c.copy_from_slice.ensures.after (lt-leb 128 (get_or key 56 0) low) in
          ap not no_sign ∙ sym (canonical-unsigned 455 prime_448 (le_number key) is_below (sign ∙ lt-leb 128 (get_or key 56 0) low))
    ]
