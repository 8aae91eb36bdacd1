use Rattle.std.proofs.Common.{rules, subst, ◌∙◌}
use Rattle.std.specs.Io.KnownBytes.{Appends}
use Rattle.mls_wire.specs.Devices.{AppendsPrefix}
use Rattle.mls_follow.specs.FollowerModel.{state_of}
use Rattle.mls_wire.specs.declared.fault.RunFault.TheVariants.{Write}
use Rattle.mls_show.proofs.Outcomes.{IfErr-is}
use Rattle.mls_report.proofs.replay_report.write_message_line.Goals as goal

pub returns-in_err-write_text-clause-effect_on_error : goal.returns-in_err-write_text-clause-effect_on_error
returns-in_err-write_text-clause-effect_on_error g c =
    IfErr-is c.from_residual-in_err-write_text.result _ Write (search rules) (record {
      answer = c.in-Ok.answer;
      new = state_of c.answer_to.new.follower;
      is_answer = c.in-Ok.ensures.answered;
      wrote = subst (AppendsPrefix _ _) (c.as_str.ensures.value ∙ c.in_ok-line.ensures) c.in_err-write_text.ensures.effect_on_error;
    })

pub returns-clause-printed : goal.returns-clause-printed
returns-clause-printed g c = record {
  answer = c.in-Ok.answer;
  is_answer = c.in-Ok.ensures.answered;
  counted = search rules;
  wrote = subst (Appends _ _) (c.as_str.ensures.value ∙ c.in_ok-line.ensures) c.in_ok-write_text.ensures.all;
}
