-- `unaligned::read` meets its contract: of the 8 bytes that are converted, those behind the N read are 0.
use mathlib.Core.Path.{refl}
use Rattle.unaligned.proofs.Little.{read_as}
use Rattle.unaligned.proofs.read.Goals as goal

pub returns : goal.returns
returns g c = read_as g.row.N c.args.at c.args.from.now _ c.requires.0 c.requires.1 c.copy_from_slice.ensures.after refl refl c.from_le_bytes.ensures
