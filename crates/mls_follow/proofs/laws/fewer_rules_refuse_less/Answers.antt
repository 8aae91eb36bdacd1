use Rattle.mls_follow.proofs.FewerRules.{strict_plain, plain_refusals_stay, least_refuses, next_keeps, fewer_accept, fewer_step_alike, more_refuse, fewer_refuse_alike, fewer_accept_all}
use Rattle.mls_follow.proofs.laws.fewer_rules_refuse_less.Goals as goal

pub returns : goal.returns
returns c = record {
  plain = strict_plain;
  plain_refusals = plain_refusals_stay;
  least = least_refuses;
  next = next_keeps;
  accepted = fewer_accept;
  steps = fewer_step_alike;
  refused = more_refuse;
  refused_alike = fewer_refuse_alike;
  runs = fewer_accept_all;
}
