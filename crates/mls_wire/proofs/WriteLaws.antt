-- What is written is determined by the text.
use Rattle.std.proofs.Common.{◌≡◌, Some, None, Result, Ok, Err, refl, sym, ap, ◌∙◌}
use Rattle.mls_wire.specs.declared.fault.WireFault.{WireFault}
use Rattle.mls_wire.specs.declared.fault.CodecFault.{CodecFault}
use Rattle.mls_wire.specs.declared.fault.CodecFault.TheVariants as faults
use Rattle.mls_wire.specs.OptionBind.{some_is}
use Rattle.mls_wire.specs.WriteContracts.{after, WriteIsDeterministic, PutIsDeterministic, MakeIsDeterministic}

-- two faults that are equal to one
fault : {A : Type 0} (f g h : WireFault) → f ≡ h → g ≡ h → ◌≡◌ {A = Result A CodecFault} (Err (faults.Wire f)) (Err (faults.Wire g))
fault f g h e d = cc

pub writes_once : WriteIsDeterministic
unfolding after
writes_once text old one other (Err faults.OutOfMemory) s p q m n = absurd (m refl)
writes_once text old one other (Ok x) (Err faults.OutOfMemory) p q m n = absurd (n refl)
writes_once text old one other (Err (faults.Wire f)) (Err faults.OutOfMemory) p q m n = absurd (n refl)
writes_once (Some t) old one other (Ok x) (Ok y) p q m n = (refl, some_is _ _ (sym p ∙ q))
writes_once None old one other (Ok x) (Ok y) p q m n = absurd cc
writes_once (Some t) old one other (Ok x) (Err (faults.Wire g)) p q m n = absurd cc
writes_once None old one other (Ok x) (Err (faults.Wire g)) p q m n = absurd cc
writes_once (Some t) old one other (Err (faults.Wire f)) (Ok y) p q m n = absurd cc
writes_once None old one other (Err (faults.Wire f)) (Ok y) p q m n = absurd cc
writes_once text old one other (Err (faults.Wire f)) (Err (faults.Wire g)) p q m n = (fault f g _ p.2 q.2, p.1 ∙ sym q.1)

pub puts_once : PutIsDeterministic
unfolding after
puts_once text old one other (Err faults.OutOfMemory) s p q m n = absurd (m refl)
puts_once text old one other (Ok x) (Err faults.OutOfMemory) p q m n = absurd (n refl)
puts_once text old one other (Err (faults.Wire f)) (Err faults.OutOfMemory) p q m n = absurd (n refl)
puts_once (Some t) old one other (Ok x) (Ok y) p q m n = (refl, p.1 ∙ sym q.1, some_is _ _ (sym p.0 ∙ q.0))
puts_once None old one other (Ok x) (Ok y) p q m n = absurd cc
puts_once (Some t) old one other (Ok x) (Err (faults.Wire g)) p q m n = absurd cc
puts_once None old one other (Ok x) (Err (faults.Wire g)) p q m n = absurd cc
puts_once (Some t) old one other (Err (faults.Wire f)) (Ok y) p q m n = absurd cc
puts_once None old one other (Err (faults.Wire f)) (Ok y) p q m n = absurd cc
puts_once text old one other (Err (faults.Wire f)) (Err (faults.Wire g)) p q m n = (fault f g _ p.2 q.2, p.1 ∙ sym q.1, tt)

pub makes_once : MakeIsDeterministic
makes_once text (Err faults.OutOfMemory) s p q m n = absurd (m refl)
makes_once text (Ok x) (Err faults.OutOfMemory) p q m n = absurd (n refl)
makes_once text (Err (faults.Wire f)) (Err faults.OutOfMemory) p q m n = absurd (n refl)
makes_once text (Ok x) (Ok y) p q m n = ap Ok (some_is _ _ (sym p ∙ q))
makes_once text (Ok x) (Err (faults.Wire g)) p q m n = absurd cc
makes_once text (Err (faults.Wire f)) (Ok y) p q m n = absurd cc
makes_once text (Err (faults.Wire f)) (Err (faults.Wire g)) p q m n = fault f g _ p.1 q.1
