-- `unaligned::write` meets its contract: the N lowest of all 8 bytes are written.
use Rattle.unaligned.proofs.Little.{written_as}
use Rattle.unaligned.proofs.write.Goals as goal

pub returns : goal.returns
returns g c = written_as g.row.N c.args.at c.args.to.now c.args.v c.requires.0 c.requires.1 c.to_le_bytes.ensures c.copy_from_slice.ensures.after
