-- What a record of a query is answered.
use Rattle.std.proofs.Common.{◌≡◌, ℕ, List, drop, Option, Result, sym, subst}
use Rattle.std.specs.Prelude.{IfOk}
use Rattle.mls_wire.specs.declared.fault.RunFault.{RunFault}
use Rattle.mls_gate.specs.GateSteps.{RespondsIn, AnswersIn, GivesBehind}
use Rattle.mls_gate.specs.Phases.{Phase}
use Rattle.mls_gate.specs.Requests.{request_of}
use Rattle.mls_gate.specs.declared.phase.Answer.{Answer}
use Rattle.mls_gate.specs.declared.request.Request.{Request}

-- the answer to a request behind the letter of a record is that to the record
pub record-answered : (o : Option Phase) (body rest : List ℕ) → rest ≡ drop 1 body → (request : Option Request) → request_of body ≡ request → (after : Option Phase)
    → (r : Result Answer RunFault) (w0 w1 : Option (List ℕ)) → IfOk r (GivesBehind (RespondsIn o request rest) after w0 w1)
    → IfOk r (GivesBehind (AnswersIn o body) after w0 w1)
record-answered o body rest same request is after r w0 w1 gives =
    subst (λ (q : Option Request). IfOk r (GivesBehind (RespondsIn o q (drop 1 body)) after w0 w1)) (sym is)
    (subst (λ (l : List ℕ). IfOk r (GivesBehind (RespondsIn o request l) after w0 w1)) same gives)
