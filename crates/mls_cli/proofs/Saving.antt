-- How a replay ends that may store a state.
use Rattle.std.proofs.Common.{◌≡◌, Bool, true, false, Ok, Err, Result, refl}
use Rattle.std.specs.Prelude.{◌↔◌, ◌≢◌, IfErr}
use Rattle.mls_wire.specs.Devices.{Device, IsWorking, WriteFails}
use Rattle.mls_cli.specs.Execution.{MeansWrite}
use Rattle.mls_program.specs.ReportResult.{ReportResult}
use Rattle.mls_wire.specs.declared.fault.RunFault.{RunFault}
use Rattle.mls_wire.specs.declared.fault.RunFault.TheVariants.{Read, Write}

-- ---- the fault of a report

-- a report that was written whole leaves an output that has not failed
pub going : {A : Type 0} (r : Result A RunFault) (x : A) (b : Bool) → r ≡ Ok x → ((r ≡ Err Write) ↔ (b ≡ true)) → b ≡ false
going r x false e w = refl
going r x true e w =
    let fault = w.1 refl in
    absurd cc

-- the fault that a report returned
pub fault_means : {A : Type 0} (r : Result A RunFault) (fault : RunFault) (b : Bool) → r ≡ Err fault → ((r ≡ Err Write) ↔ (b ≡ true)) → (fault ≡ Write) ↔ (b ≡ true)
fault_means r fault b e w = (λ f. w.0 (cc), λ t. let found = w.1 t in cc)

-- the fault that a report returned is that of the command
pub outcome_means : {A P : Type 0} (r : Result A RunFault) (fault e : RunFault) → r ≡ Err fault → ((r ≡ Err e) ↔ P) → (◌≡◌ {A = ReportResult} (Err fault) (Err e)) ↔ P
outcome_means r fault e is w = (λ f. w.0 (cc), λ p. let found = w.1 p in cc)

-- a report that ended well read inputs of which none has failed
pub unfailed : {A P : Type 0} (r : Result A RunFault) (x : A) → r ≡ Ok x → ((r ≡ Err Read) ↔ P) → P → ⊥
unfailed r x e w p =
    let fault = w.1 p in
    absurd cc

-- a report after which no state is stored
pub means-write : (stores : Bool) (out : Device) (outcome : ReportResult) → WriteFails outcome out → MeansWrite stores out outcome
means-write stores out outcome w = record { failed = w.1; only = λ none e. w.0 e }

-- ---- the end after a report that was written whole

-- it is no fault of reading
pub saved-read : {P : Type 0} (outcome : ReportResult) → IfErr outcome (λ e. e ≢ Read) → (P → ⊥) → (outcome ≡ Err Read) ↔ P
saved-read (Ok v) h none = (λ e. absurd cc, λ p. absurd (none p))
saved-read (Err fault) h none = (λ e. absurd (h (cc)), λ p. absurd (none p))

-- and one of writing only if a state is stored
pub saved-write : (stores : Bool) (outcome : ReportResult) (out : Device) → (stores ≡ false → IfErr outcome (λ e. e ≢ Write)) → IsWorking out → MeansWrite stores out outcome
saved-write stores (Ok v) out h e = record { failed = λ t. absurd cc; only = λ none w. absurd cc }
saved-write stores (Err fault) out h e = record { failed = λ t. absurd cc; only = λ none w. absurd (h none (cc)) }
