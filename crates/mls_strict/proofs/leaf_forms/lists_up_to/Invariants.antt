use Rattle.std.proofs.Common.{◌≡◌, ◌&&◌, ℕ, Bool, List, length}
use Rattle.std.specs.Prelude.{nat_le, nat_lt}
use Rattle.std.specs.List.{list_any}
use Rattle.mls_strict.proofs.leaf_forms.lists_up_to.Given as goal

-- whether a list contains a code from 1 to the last one
abbrev lists_up_to : ℕ → List ℕ → Bool
lists_up_to last codes = list_any (λ code. nat_lt 0 code && nat_le code last) codes

abbrev pub invariant-loop-code : goal.invariant-loop-code
invariant-loop-code l = lists_up_to l.last l.left ≡ lists_up_to l.last l.codes

abbrev pub decreases-loop-code : goal.decreases-loop-code
decreases-loop-code l = length l.left
