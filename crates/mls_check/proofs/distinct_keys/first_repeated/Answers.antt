use Rattle.mls_check.proofs.distinct_keys.first_repeated.Goals as goal

pub returns-then-branch : goal.returns-then-branch
returns-then-branch c = rw c.if-branch.true at c.in_ok-has_distinct_prefixes.ensures
