-- `bitchunks::next_masked_chunk` meets its contract: the blocks passed hold no member.
use Rattle.bitchunks.proofs.Giving.{skip_start, skip_turn, skip_end}
use Rattle.bitchunks.proofs.next_masked_chunk.Goals as goal

pub loop-block-init : goal.loop-block-init
loop-block-init g c = skip_start _ c.requires.1

pub loop-block-preserved : goal.loop-block-preserved
loop-block-preserved g c = skip_turn c.loop-block.invariant c.in_ok-block.ensures c.if-block-ne0.false

pub returns-then-block-ne0 : goal.returns-then-block-ne0
returns-then-block-ne0 g c = skip_end c.loop-block.invariant c.in_ok-block.ensures c.if-block-ne0.true
