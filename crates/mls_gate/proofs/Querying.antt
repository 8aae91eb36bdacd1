-- The answer to a query, whose lines are written one signature after the other.
use Rattle.std.proofs.Common.{◌≡◌, ◌≢◌, ◌∙◌, ℕ, List, append-nil, false, Option, Some, sym, subst, inr}
use Rattle.std.specs.Io.KnownBytes.{Appends}
use Rattle.mls_check.specs.Signatures.{VerifyFn}
use Rattle.mls_signatures.specs.declared.signature_to_verify.SignatureToVerify.{SignatureToVerify}
use Rattle.mls_follow.specs.State.{State}
use Rattle.mls_wire.specs.declared.fault.RunFault.{RunFault}
use Rattle.mls_wire.specs.declared.fault.RunFault.TheVariants.{Read, Write, Memory}
use Rattle.mls_gate.specs.Answers.{Outcome, query_text}
use Rattle.mls_gate.specs.GateSteps.{GivesBehind, IsQueried, Replies, RespondsIn, StopsAnswering, StopsInQueryText}
use Rattle.mls_gate.specs.Phases.{Phase, Following}
use Rattle.mls_gate.specs.declared.phase.Answer.TheVariants as said
use Rattle.mls_gate.specs.declared.request.Request.TheVariants.{Query}
use Rattle.mls_gate.proofs.Answering.{queried}
use Rattle.mls_gate.proofs.Replying.{replies-at}

module _ (o : Option Phase) (time : Option ℕ) (G K known : VerifyFn) (s t : State) (message : List ℕ) (needed made : List SignatureToVerify) (a b : Option (List ℕ)) (at : o ≡ Some (Following time G s))
    (is : IsQueried G s message needed) (all : made ≡ needed) (checked : known ≡ K) (same : K ≡ G) (stays : t ≡ s) where
  abbrev Asked : Outcome → Type 0
  Asked outcome = RespondsIn o (Some Query) message outcome

  abbrev after : Option Phase
  after = Some (Following time K t)

  text-is : query_text known made ≡ query_text G needed
  text-is = let known_is = checked ∙ same in λ k. query_text (known_is k) (all k)

  replied : Replies Asked (query_text known made) false after
  replied =
      replies-at o (Some (Following time G s)) at (Some Query) message after (query_text known made) false
      (queried time G K s t message is.signatures (query_text known made) is.has_signatures (text-is ∙ is.same) same stays)

  pub queried-behind : Appends a b (query_text known made) → GivesBehind Asked after a b said.Silent
  queried-behind wrote = record {
    lines = query_text known made;
    wrote = wrote;
    replies = subst (λ (text : List ℕ). Replies Asked text false after) (sym (append-nil (query_text known made))) replied;
  }

  pub stops-querying : (e : RunFault) → StopsInQueryText known made a b e → StopsAnswering Asked after a b e
  stops-querying Read stops = absurd stops
  stops-querying Write stops = record { text = query_text known made; last = false; replies = replied; wrote = stops }
  stops-querying Memory stops = inr (record {
    known = known;
    front = stops.front;
    rest = stops.rest;
    replies = subst (λ (ws : List SignatureToVerify). Replies Asked (query_text known ws) false after) stops.split replied;
    wrote = stops.wrote;
  })

pub not-read : (Meets : Outcome → Type 0) (after : Option Phase) (a b : Option (List ℕ)) (e : RunFault) → StopsAnswering Meets after a b e → e ≢ Read
not-read Meets after a b Read stops = absurd stops
not-read Meets after a b Write stops = λ e. absurd cc
not-read Meets after a b Memory stops = λ e. absurd cc
