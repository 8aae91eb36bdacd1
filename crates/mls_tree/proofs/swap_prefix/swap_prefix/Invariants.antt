use Rattle.std.proofs.Common.{◌≡◌, ◌<◌, ◌≤◌, ℕ, length}
use Rattle.std.specs.Prelude.{slice_get}
use Rattle.mls_tree.proofs.swap_prefix.swap_prefix.Given as goal

abbrev pub invariant-loop-at : goal.invariant-loop-at
invariant-loop-at g l = record {
  put : (p : ℕ) → p < l.at → slice_get l.whole.items p ≡ slice_get l.fn.front.items p;
  rest : (p : ℕ) → l.at ≤ p → slice_get l.whole.items p ≡ slice_get l.fn.whole.items p;
  taken : (p : ℕ) → p < l.at → slice_get l.front.items p ≡ slice_get l.fn.whole.items p;
  left : (p : ℕ) → l.at ≤ p → slice_get l.front.items p ≡ slice_get l.fn.front.items p;
  long : length l.whole.items ≡ length l.fn.whole.items;
  short : length l.front.items ≡ length l.fn.front.items;
}
