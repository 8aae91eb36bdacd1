use Rattle.std.proofs.lemmas.Option.{IfSome_then}
use Rattle.mls_commands.proofs.AllowedRules.{one-named, first-named, others-named, both-named}
use Rattle.mls_commands.proofs.asked_rules.+without_numbers.Goals as goal

pub returns-in-len2-clause-refused : goal.returns-in-len2-clause-refused
returns-in-len2-clause-refused t c none rules allows =
    let text = c.args.text.now in
    c.without_number.ensures.refused none rules
    (one-named c.args.asked text _ _ rules c.in-len2.len_at_least c.in-len2.len_below allows)

pub returns-in_err-fewer-in-44-clause-refused : goal.returns-in_err-fewer-in-44-clause-refused
returns-in_err-fewer-in-44-clause-refused t c none rules allows =
    let first = first-named c.args.asked c.args.text.now _ _ rules c.in-44.len_at_least allows in
    c.without_number-in-44.ensures.refused c.in_err-fewer-in-44.was first.0 first.1

pub returns-in_ok-fewer-in-44-clause-without : goal.returns-in_ok-fewer-in-44-clause-without
returns-in_ok-fewer-in-44-clause-without t c =
    let fewer = c.in_ok-fewer-in-44 in
    let low = c.in-44.len_at_least in
    IfSome_then c.without_numbers.result c.without_numbers.ensures.without (λ rules allows.
    both-named c.args.asked fewer.fewer c.args.text.now _ _ 0 rules low (search) fewer.ensures.without allows)

pub returns-in_ok-fewer-in-44-clause-refused : goal.returns-in_ok-fewer-in-44-clause-refused
returns-in_ok-fewer-in-44-clause-refused t c none rules allows =
    let fewer = c.in_ok-fewer-in-44 in
    c.without_numbers.ensures.refused none rules
    (others-named c.args.asked fewer.fewer c.args.text.now _ _ rules c.in-44.len_at_least fewer.ensures.without allows)
