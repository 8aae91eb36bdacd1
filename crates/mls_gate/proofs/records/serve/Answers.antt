use Rattle.std.proofs.Common.{refl}
use Rattle.std.proofs.lemmas.Result.{IfOk-weaker, IfErr-weaker}
use Rattle.mls_gate.proofs.records.serve.Goals as goal

pub answer_records-requires-clause-opening : goal.answer_records-requires-clause-opening
answer_records-requires-clause-opening g c = record {
  inputs = _;
  time = _;
  verify = _;
  is = refl;
  ready = c.requires.ready;
}

pub returns-clause-printed : goal.returns-clause-printed
returns-clause-printed g c =
    IfOk-weaker c.answer_records.result _ _ (λ verdict reports. reports _ _ _ refl) c.answer_records.ensures.printed

pub returns-clause-effect_on_error : goal.returns-clause-effect_on_error
returns-clause-effect_on_error g c =
    IfErr-weaker c.answer_records.result _ _ (λ fault part. part _ _ _ refl) c.answer_records.ensures.effect_on_error
