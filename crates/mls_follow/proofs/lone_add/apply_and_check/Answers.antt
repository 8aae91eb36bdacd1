use Rattle.mls_follow.proofs.lone_add.apply_and_check.Goals as goal

pub returns-clause-fits : goal.returns-clause-fits
returns-clause-fits c =
    let added = c.in_ok-add_client.ensures.applied in
    rw (added.1) (rw c.index_changes.ensures.tree at (c.check_with_client.ensures.fits added.0))

pub returns-clause-refused : goal.returns-clause-refused
returns-clause-refused c =
    let added = c.in_ok-add_client.ensures.applied in
    rw (added.1) (rw c.index_changes.ensures.tree at (c.check_with_client.ensures.refused added.0))
