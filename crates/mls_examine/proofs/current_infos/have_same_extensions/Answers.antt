use Rattle.mls_examine.proofs.EqualExtensions.{said_equal}
use Rattle.mls_examine.proofs.current_infos.have_same_extensions.Goals as goal

pub returns : goal.returns
returns c = said_equal c.args.one.now c.args.other.now c.is_same.result c.is_same.ensures
