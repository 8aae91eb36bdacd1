use Rattle.mls_wire.proofs.Pieces.{put_piece, piece_longer}
use Rattle.mls_wire.proofs.draft.Draft.put_len.Goals as goal

pub invariant_of-self : goal.invariant_of-self
invariant_of-self c = piece_longer _ c.self.inside.kept c.self.inside.written _ c.write_len.result c.self.invariant c.write_len.ensures

pub returns : goal.returns
returns c = rw (← c.self.view_is) (put_piece _ c.self.inside.kept c.self.inside.written _ c.write_len.result c.self.invariant c.write_len.ensures)
