-- Parts of an input, from which leaf nodes are read.
use Rattle.std.proofs.Common.{◌≡◌, ℕ, Bool, ◌+◌, ◌-◌, ◌≤◌, List, ◌++◌, length, take, drop, Option, Some, None, refl, sym, ap, ◌∙◌, append_assoc, arith, length-append}
use Rattle.std.specs.Prelude.{slice_range}
use Rattle.std.specs.Int.{w8}
use Rattle.std.proofs.lemmas.List.{take_at, drop_at, drop-drop, take-append-drop, take-take}
use Rattle.mls_wire.specs.Input.{Input}
use Rattle.mls_wire.specs.Parsing.{number_at}
use Rattle.mls_wire.specs.ParsingInternal.{flag_at}
use Rattle.mls_wire.specs.IntegersExact.{number_exact, wide8}
use Rattle.mls_wire.specs.OptionalsExact.{flag_exact}
use Rattle.mls_nodes.specs.LeafBytesInternal.{IsFrom, IsLastOf}
use Rattle.mls_nodes.specs.declared.leaf_bytes.InputPart.{InputPart}

module _ (part : InputPart) (i : Input) (h : IsLastOf part i) where
  -- what is left, as a part of the input
  left_is : take (length i.left) (drop (part.end - length i.left) part.input.now.items) ≡ i.left
  left_is =
      let size : part.end - (part.end - length i.left) ≡ length i.left = omega (arith, h.1) in
      ap (λ (k : ℕ). take k (drop (part.end - length i.left) part.input.now.items)) (sym size) ∙ h.2

  -- the first of what is left
  pub part_taken : (n : ℕ) → n ≤ length i.left
      → slice_range part.input.now.items (part.end - length i.left) (part.end - length i.left + n) ≡ take n i.left
  part_taken n le =
      let start = part.end - length i.left in
      let size : start + n - start ≡ n = omega arith in
      ap (λ (k : ℕ). take k (drop start part.input.now.items)) size ∙ sym (take-take n (length i.left) (drop start part.input.now.items) le) ∙ ap (take n) left_is

  -- what is left after some of it was read
  pub from_rest : (j : Input) (front : List ℕ) → i.left ≡ front ++ j.left → IsLastOf part j
  from_rest j front same =
      let xs = part.input.now.items in
      let start = part.end - length i.left in
      let ys = drop start xs in
      let long : length i.left ≡ length front + length j.left = ap length same ∙ length-append front j.left in
      let few : length j.left ≤ part.end = omega (arith, h.1) in
      let parts : ys ≡ front ++ (j.left ++ drop (length i.left) ys) =
      sym (take-append-drop (length i.left) ys) ∙ ap (λ (s : List ℕ). s ++ drop (length i.left) ys) (left_is ∙ same) ∙ append_assoc front j.left (drop (length i.left) ys) in
      let begins : part.end - length j.left ≡ start + length front = omega (arith, h.1) in
      let size : part.end - (part.end - length j.left) ≡ length j.left = omega (arith, h.1) in
      let back : drop (part.end - length j.left) xs ≡ j.left ++ drop (length i.left) ys =
      ap (λ (k : ℕ). drop k xs) begins ∙ sym (drop-drop (length front) start xs) ∙ ap (drop (length front)) parts ∙ drop_at front (j.left ++ drop (length i.left) ys) (length front) refl in (
        h.0,
        few,
        ap (λ (k : ℕ). take k (drop (part.end - length j.left) xs)) size ∙ ap (take (length j.left)) back ∙ take_at j.left (drop (length i.left) ys) (length j.left) refl,
      )

rest_from : (source : Option InputPart) (i j : Input) (front : List ℕ) → i.left ≡ front ++ j.left → IsFrom source i → IsFrom source j
rest_from None i j front same h = tt
rest_from (Some part) i j front same h = from_rest part i h j front same

-- after a byte, and after the byte before an optional value
pub from_byte : (source : Option InputPart) (i j : Input) (b : ℕ) → number_at w8 i ≡ Some (b, j) → IsFrom source i → IsFrom source j
from_byte source i j b e h = let t = ((number_exact w8 wide8).takes i b j e).1 in rest_from source i j t.0 t.2 h

pub from_flag : (source : Option InputPart) (i j : Input) (b : Bool) → flag_at i ≡ Some (b, j) → IsFrom source i → IsFrom source j
from_flag source i j b e h = let t = (flag_exact.takes i b j e).1 in rest_from source i j t.0 t.2 h
