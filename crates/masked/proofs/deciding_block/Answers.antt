-- `masked::deciding_block` meets its contract: in the blocks passed the mask keeps no difference.
use Rattle.masked.proofs.Differing.{differ_turn, differ_end}
use Rattle.masked.proofs.deciding_block.Goals as goal

pub loop-block-preserved : goal.loop-block-preserved
loop-block-preserved g c = differ_turn c.loop-block.invariant c.in-Some.ensures c.masked_block-kept.ensures c.if-kept-ne0.false

pub returns-then-kept-ne0 : goal.returns-then-kept-ne0
returns-then-kept-ne0 g c = differ_end c.loop-block.invariant c.in-Some.ensures c.masked_block-kept.ensures c.if-kept-ne0.true
