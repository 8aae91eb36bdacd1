use Rattle.std.proofs.Common.{◌∙◌}
use Rattle.mls_apply.proofs.Credentials.{decided}
use Rattle.mls_apply.proofs.join_rules.have_same_credential.Goals as goal

pub returns : goal.returns
returns c =
    c.eq.ensures
    ∙ decided c.args.old.now.credential c.args.leaf.now.credential c.credential_bytes.result.now c.credential_bytes-2.result.now c.credential_bytes.ensures c.credential_bytes-2.ensures
