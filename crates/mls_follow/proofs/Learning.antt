-- What a checker means after it has learnt a receipt, or has not, and that the state stays judged by it.
use Rattle.std.proofs.Common.{◌≡◌, ℕ, List, Result, Ok, Err, sym, subst}
use Rattle.std.specs.Prelude.{OnOk, OnErr}
use Rattle.mls_check.specs.ReceiptSets.{with_receipt}
use Rattle.mls_check.specs.Signatures.{VerifyFn, Extends}
use Rattle.mls_check.proofs.ReceiptSets.{with_receipt_extends}
use Rattle.mls_follow.specs.FollowerInvariant.{HasUniqueKeysAndValidLeaves}
use Rattle.mls_follow.specs.State.{State}
use Rattle.mls_follow.proofs.SignatureAgreement.{members_stay}

-- a receipt was added, or nothing was changed
pub learns : {A B : Type 0} (G K : VerifyFn) (digest : List ℕ) (r : Result A B) → OnOk r (K ≡ with_receipt G digest) → OnErr r (K ≡ G) → Extends G K
learns G K digest (Ok u) more same = subst (λ (M : VerifyFn). Extends G M) (sym more) (with_receipt_extends G digest)
learns G K digest (Err e) more same = subst (λ (M : VerifyFn). Extends G M) (sym same) (λ suite key content signature good. good)

-- a state that was judged stays judged where more signatures are good
pub checked_stays : (G K : VerifyFn) (s : State) → Extends G K → HasUniqueKeysAndValidLeaves G s → HasUniqueKeysAndValidLeaves K s
checked_stays G K s more j = record {
  distinct = j.distinct;
  members = λ required requires. members_stay G K s.context.cipher_suite s.context.group_id required s.tree more (j.members required requires);
  supported = j.supported;
}
