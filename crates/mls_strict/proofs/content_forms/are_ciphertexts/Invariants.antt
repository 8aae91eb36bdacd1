use Rattle.std.proofs.Common.{length}
use Rattle.mls_strict.specs.ContentForms.{ciphertext_meets}
use Rattle.mls_strict.proofs.CiphertextLists.{AreLeft}
use Rattle.mls_strict.proofs.content_forms.are_ciphertexts.Given as goal

abbrev pub invariant-loop-left : goal.invariant-loop-left
invariant-loop-left l = AreLeft (ciphertext_meets l.suite l.rule) l.ciphertexts l.left

abbrev pub decreases-loop-left : goal.decreases-loop-left
decreases-loop-left l = length l.left.left
