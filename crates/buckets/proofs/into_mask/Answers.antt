-- `buckets::into_mask` meets its contract: a power of two is not 0.
use native.Mathlib.Omega.{arith}
use lib.Pow.{pow_pos}
use Rattle.buckets.proofs.into_mask.Goals as goal

pub overflow_sub-result : goal.overflow_sub-result
overflow_sub-result c = omega (arith, c.into_block.ensures, pow_pos c.args.bit)
