use Rattle.mls_follow.proofs.Timed.{timed_accepted, without_time}
use Rattle.mls_follow.proofs.TimedAnswers.{accepted_or_outside, fewer_accept_at_times, fewer_refuse_at_times, more_refuse_at_times, one_timed_answer, refusals_stay_at_times, timed_answer}
use Rattle.mls_follow.proofs.TimedCovered.{covered_answers_at_times}
use Rattle.mls_follow.proofs.laws.times_refuse_only.Goals as goal

pub returns : goal.returns
returns c = record {
  accepted = timed_accepted;
  without = without_time;
  refusals = refusals_stay_at_times;
  outside = accepted_or_outside;
  one = one_timed_answer;
  some = timed_answer;
  trusted = covered_answers_at_times;
  fewer = fewer_accept_at_times;
  more = more_refuse_at_times;
  fewer_outside = fewer_refuse_at_times;
}
