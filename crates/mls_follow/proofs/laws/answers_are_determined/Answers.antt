use Rattle.mls_follow.proofs.Answering.{only_answer}
use Rattle.mls_follow.proofs.Deciding.{an_answer}
use Rattle.mls_follow.proofs.Holding.{run_answered}
use Rattle.mls_follow.proofs.laws.answers_are_determined.Goals as goal

pub returns : goal.returns
returns c = record { some = an_answer; one = only_answer; always = run_answered }
