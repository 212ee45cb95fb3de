-- `encode::put` meets its contract: a copy to a part of the buffer.
use native.Mathlib.Omega.{arith}
use Rattle.encode.proofs.Pieces.{copied}
use Rattle.encode.proofs.put.Goals as goal

pub returns : goal.returns
returns c = copied c.requires (omega arith) c.copy_from_slice.ensures.after
