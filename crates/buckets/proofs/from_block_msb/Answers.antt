-- `buckets::from_block_msb` meets its contract: the highest place is the logarithm.
use Rattle.sets.proofs.Words.{highest_digit}
use Rattle.buckets.proofs.from_block_msb.Goals as goal

pub returns : goal.returns
returns c = highest_digit c.args.block _ c.ilog2.ensures.bound c.ilog2.ensures.power_le c.ilog2.ensures.next_power_gt
