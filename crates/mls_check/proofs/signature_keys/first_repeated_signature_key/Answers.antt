use Rattle.mls_check.proofs.signature_keys.first_repeated_signature_key.Goals as goal

pub returns-then-branch : goal.returns-then-branch
returns-then-branch c = rw c.if-branch.true at c.in_ok-has_distinct_prefixes.ensures
