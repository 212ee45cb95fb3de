-- `BlockMask::turn_mask` meets its contract: the block moved down and the block moved up are a whole mask apart.
use Rattle.bitchunks.proofs.Mask.{turned}
use Rattle.bitchunks.proofs.block_mask.BlockMask.turn_mask.Goals as goal

pub returns : goal.returns
returns c = let l = c.args.self.laid in turned _ _ _ l.0 l.1 l.2
