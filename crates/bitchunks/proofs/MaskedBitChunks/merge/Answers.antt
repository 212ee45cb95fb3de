-- The merge under a mask meets its contract: what the mask keeps of the set's block.
use Rattle.bitchunks.proofs.Giving.{kept_merge}
use Rattle.bitchunks.proofs.MaskedBitChunks.merge.Goals as goal

pub returns : goal.returns
returns g c = kept_merge _ _ c.merge-next.ensures c.masked_block.ensures
