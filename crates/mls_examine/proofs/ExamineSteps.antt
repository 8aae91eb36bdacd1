-- What an examination of a message says of the bytes that encode it.
use Rattle.std.proofs.Common.{◌≢◌, ℕ, List, Result, Ok, Err, IfOk, IfErr, inr}
use Rattle.mls_check.specs.Signatures.{VerifyFn}
use Rattle.mls_msgs.specs.declared.message.Message.{Message}
use Rattle.mls_follow.specs.State.{State, EncodesMessage}
use Rattle.mls_examine.specs.Examinations.{IsExamined, IsExaminedAs, IsUnfit, IsUnfitAs}
use Rattle.mls_examine.specs.declared.examinations.Examined.{Examined}
use Rattle.mls_examine.specs.declared.unfit.Unfit.{Unfit}
use Rattle.mls_examine.specs.declared.unfit.Unfit.TheVariants as unfit

module _ (G : VerifyFn) (s : State) (m : Message) (bytes : List ℕ) (is : EncodesMessage s.profile m bytes) where
  pub examined_bytes : (r : Result Examined Unfit) → IfOk r (IsExaminedAs G s m) → IfOk r (IsExamined G s bytes)
  examined_bytes (Ok x) h = record { message = m; encoded = is; fit = h }
  examined_bytes (Err e) h = tt

  pub unfit_bytes : (r : Result Examined Unfit) → IfErr r (λ e. e ≢ unfit.OutOfMemory → IsUnfitAs G s m e)
      → IfErr r (λ e. e ≢ unfit.OutOfMemory → IsUnfit G s bytes e)
  unfit_bytes (Ok x) h = tt
  unfit_bytes (Err e) h = λ own. inr (record { message = m; encoded = is; unfit_as = h own })
