use Rattle.std.proofs.Common.{◌≡◌, ◌∙◌, ◌++◌, ℕ, Err, List, refl, subst}
use Rattle.std.specs.Prelude.{codes, OnOk, OnErr}
use Rattle.std.specs.Fmt.{decimal, digits}
use Rattle.std.specs.Io.KnownBytes.{Appends}
use Rattle.mls_wire.specs.Devices.{AppendsPrefix}
use Rattle.mls_follow.specs.FollowerModel.{state_of}
use Rattle.mls_follow.specs.State.{State}
use Rattle.mls_apply.specs.declared.refusal.Refusal.TheVariants.{Malformed}
use Rattle.mls_report.specs.Replay.{answer_text}
use Rattle.mls_report.proofs.signature_log.write_malformed_line.Goals as goal

-- the line of a message that can't be read
malformed-line : (n : ℕ) (s : State) → decimal n ++ (answer_text (Err Malformed) s ++ codes "\n") ≡ decimal n ++ codes " refused 1\n"
unfolding digits
malformed-line n s = refl

pub returns-clause-all : goal.returns-clause-all
returns-clause-all g c =
    subst (λ (text : List ℕ). OnOk c.write_text.result (Appends (g.K.Sink.device c.args.out.now).bytes (g.K.Sink.device c.write_text.new.out).bytes text))
    (c.as_str.ensures.value ∙ c.in_ok-line.ensures ∙ malformed-line c.args.n (state_of c.args.follower.now)) c.write_text.ensures.all

pub returns-clause-effect_on_error : goal.returns-clause-effect_on_error
returns-clause-effect_on_error g c =
    subst (λ (text : List ℕ). OnErr c.write_text.result (AppendsPrefix (g.K.Sink.device c.args.out.now).bytes (g.K.Sink.device c.write_text.new.out).bytes text))
    (c.as_str.ensures.value ∙ c.in_ok-line.ensures ∙ malformed-line c.args.n (state_of c.args.follower.now)) c.write_text.ensures.effect_on_error
