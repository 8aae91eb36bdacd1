use Rattle.mls_follow.proofs.StrictnessKept.{starts_strict, runs_keep_strictness, runs_keep_rules, followers_strict, added_rules_keep_strictness}
use Rattle.mls_follow.proofs.laws.strictness_is_kept.Goals as goal

pub returns : goal.returns
returns c = record { starts = starts_strict; runs = runs_keep_strictness; rules = runs_keep_rules; always = followers_strict; added = added_rules_keep_strictness }
