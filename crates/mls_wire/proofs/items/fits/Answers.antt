use Rattle.mls_wire.proofs.Sized.{is_sized}
use Rattle.mls_wire.proofs.items.fits.Goals as goal

pub returns : goal.returns
returns g c = rw c.is_some.ensures (is_sized c.size_of_list.result _ c.size_of_list.ensures)
