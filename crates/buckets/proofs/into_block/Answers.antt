-- `buckets::into_block` meets its contract: a shift of 1 within 64 digits.
use Rattle.sets.proofs.Words.{shl_one}
use Rattle.buckets.proofs.into_block.Goals as goal

pub returns : goal.returns
returns c = shl_one c.args.bit c.requires
