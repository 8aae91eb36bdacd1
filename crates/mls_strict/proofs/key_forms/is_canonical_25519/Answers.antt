use Rattle.std.proofs.Common.{◌≡◌, ◌∙◌, ◌<◌, ◌≤◌, ◌-◌, ◌%◌, ◌^◌, true, false, [], ◌∷◌, get_or, set, sym, ap}
use Rattle.std.specs.Prelude.{◌==◌, nat_lt, not}
use Rattle.std.specs.List.{list_any}
use Rattle.std.specs.Str.{bytes_eq}
use Rattle.std.proofs.lemmas.Bool.{le-leb, lt-leb}
use Rattle.mls_strict.specs.KeyForms.{le_number, prime_25519}
use Rattle.mls_strict.specs.declared.coordinates.TheConstants.{UNSIGNED_25519}
use Rattle.mls_strict.proofs.Constants.{below-25519, canonical-above, canonical-signed, canonical-unsigned, top_bit-25519, unsigned_25519-found}
use Rattle.mls_strict.proofs.key_forms.is_canonical_25519.Goals as goal
use Rattle.mls_strict.proofs.key_forms.is_canonical_25519.Goals.{then-has_sign, else-has_sign}

pub returns-else-is_below : goal.returns-else-is_below
returns-else-is_below c =
    let key = c.args.key.now in
    let below : c.is_below.result ≡ nat_lt (le_number key % 2 ^ 255) prime_25519 =
    c.is_below.ensures ∙ rw c.copy_from_slice.ensures.after (below-25519 key c.requires (λ k. (c.type_inv.key k).fits)) in
    canonical-above 255 prime_25519 (le_number key) c.is_below.result below c.if-is_below.false

pub returns-after-has_sign : goal.returns-after-has_sign
returns-after-has_sign c =
    let key = c.args.key.now in
    let copy = c.copy_from_slice.new.self in
    let below : c.is_below.result ≡ nat_lt (le_number key % 2 ^ 255) prime_25519 =
    c.is_below.ensures ∙ rw c.copy_from_slice.ensures.after (below-25519 key c.requires (λ k. (c.type_inv.key k).fits)) in
    let is_below : nat_lt (le_number key % 2 ^ 255) prime_25519 ≡ true = sym below ∙ c.if-is_below.true in
    let sign = top_bit-25519 key c.requires (λ k. (c.type_inv.key k).fits) in
    elim c.if-has_sign.branch [
      | then-has_sign w ↦
          let above : 128 ≤ get_or key 31 0 = rw c.copy_from_slice.ensures.after at w.if-has_sign.true in
          let found : w.contains.result ≡ list_any (λ y. bytes_eq y (set copy 31 (get_or copy 31 0 % 128))) UNSIGNED_25519 = w.contains.ensures.value in
          let among : w.contains.result ≡ list_any (λ u. u == le_number key % 2 ^ 255) (1 ∷ (prime_25519 - 1) ∷ []) =
          found ∙ rw c.copy_from_slice.ensures.after (unsigned_25519-found key c.requires (λ k. (c.type_inv.key k).fits)) in
          ap not (w.result-is ∙ among) ∙ sym (canonical-signed 255 prime_25519 (le_number key) is_below (sign ∙ le-leb 128 (get_or key 31 0) above))
      | else-has_sign w ↦
          let low : get_or key 31 0 < 128 = rw c.copy_from_slice.ensures.after at w.if-has_sign.false in
          let no_sign : c.if-has_sign.result ≡ false = w.result-is ∙ rw c.copy_from_slice.ensures.after (lt-leb 128 (get_or key 31 0) low) in
          ap not no_sign ∙ sym (canonical-unsigned 255 prime_25519 (le_number key) is_below (sign ∙ lt-leb 128 (get_or key 31 0) low))
    ]
