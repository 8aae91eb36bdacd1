use Rattle.std.proofs.Common.{refl}
use Rattle.mls_msgs.specs.Authenticated.{tag_if}
use Rattle.mls_msgs.proofs.PartLemmas.{after_nothing}
use Rattle.mls_msgs.proofs.authenticated.put_tag.Goals as goal

pub returns-in-None : goal.returns-in-None
unfolding tag_if
returns-in-None c = rw c.in-None.is (after_nothing c.args.draft.now.more, refl)
