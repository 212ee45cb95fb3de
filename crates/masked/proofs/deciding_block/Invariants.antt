-- `masked::deciding_block` meets its contract: in the blocks passed the mask keeps no difference.
use Rattle.masked.proofs.Differing.{Differing}
use Rattle.masked.proofs.deciding_block.Given as goal

abbrev pub invariant-loop-block : goal.invariant-loop-block
invariant-loop-block g l =
    let v = g.V.BitChunks in
    let w = g.W.BitChunks in
    Differing (v.set l.a) (w.set l.b) l.mask.block l.mask.size (v.tops l.a) (w.tops l.b) l.k l.at.passed l.at.passed2 l.at.end

abbrev pub decreases-loop-block : goal.decreases-loop-block
decreases-loop-block g l = l.at.end
