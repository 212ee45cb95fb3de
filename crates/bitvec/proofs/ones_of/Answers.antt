-- `bitvec::ones_of` meets its contract.
use native.Mathlib.Omega.{arith}
use lib.Count.{ones-le}
use Rattle.bitvec.proofs.ones_of.Goals as goal

pub overflow_cast-result : goal.overflow_cast-result
overflow_cast-result c = omega (arith, ones-le 64 _ c.ranges.block.fits)
