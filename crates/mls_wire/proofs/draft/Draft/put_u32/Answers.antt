use Rattle.mls_wire.proofs.Pieces.{put_piece, piece_longer}
use Rattle.mls_wire.proofs.draft.Draft.put_u32.Goals as goal

pub invariant_of-self : goal.invariant_of-self
invariant_of-self c = piece_longer _ c.self.inside.kept c.self.inside.written _ c.write_u32.result c.self.invariant c.write_u32.ensures

pub returns : goal.returns
returns c = rw (← c.self.view_is) (put_piece _ c.self.inside.kept c.self.inside.written _ c.write_u32.result c.self.invariant c.write_u32.ensures)
