-- `bitchunks::next_masked_chunk` meets its contract: the blocks passed hold no member.
use Rattle.bitchunks.proofs.Giving.{Skipping}
use Rattle.bitchunks.proofs.next_masked_chunk.Given as goal

abbrev pub invariant-loop-block : goal.invariant-loop-block
invariant-loop-block g l =
    let w = g.W.BitChunks in
    Skipping (w.set l.walk) (w.tops l.walk) l.fn.from.end l.at.passed l.at.end

abbrev pub decreases-loop-block : goal.decreases-loop-block
decreases-loop-block g l = l.at.end
