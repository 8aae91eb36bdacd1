-- Facts that hold however a call ended.
use Rattle.std.proofs.Common.{◌≡◌, refl, sym, subst}
use Rattle.std.specs.Prelude.{◌≢◌, ◌↔◌, OnErr, IfOk, IfErr, Result, Ok, Err}
use Rattle.mls_wire.specs.declared.fault.RunFault.{RunFault}
use Rattle.mls_wire.specs.declared.fault.RunFault.TheVariants.{Read, Write, Memory}

pub OnErr-any : {T E : Type 0} {P : Type 0} (r : Result T E) → P → OnErr r P
OnErr-any (Ok x) p = tt
OnErr-any (Err e) p = p

-- a fact that follows from two of a call's result
pub IfOk-both : {T E : Type 0} (r : Result T E) (P Q R : T → Type 0) → ((x : T) → P x → Q x → R x) → IfOk r P → IfOk r Q → IfOk r R
IfOk-both (Ok x) P Q R f p q = f x p q
IfOk-both (Err e) P Q R f p q = tt

-- a fact of the one error that a call can answer
pub IfErr-is : {T E : Type 0} (r : Result T E) (P : E → Type 0) (e : E) → IfErr r (λ x. x ≡ e) → P e → IfErr r P
IfErr-is (Ok x) P e h p = tt
IfErr-is (Err x) P e h p = subst P (sym h) p

-- a call that reads nothing says of no input that it failed
pub read-nothing : {T P : Type 0} (r : Result T RunFault) → IfErr r (λ e. e ≢ Read) → (P → ⊥) → ((r ≡ Err Read) ↔ P)
read-nothing (Ok x) own none = (λ e. absurd cc, λ p. absurd (none p))
read-nothing (Err x) own none = (λ e. let same : x ≡ Read = cc in absurd (own same), λ p. absurd (none p))

-- a fault that is not of writing, after which nothing is written
pub nothing_written : {A : Type 0} (P : RunFault → Type 0) (e : RunFault) → e ≢ Write → A → (A → P Read) → (A → P Memory) → P e
nothing_written P Read other none of_read of_memory = of_read none
nothing_written P Write other none of_read of_memory = absurd (other refl)
nothing_written P Memory other none of_read of_memory = of_memory none
