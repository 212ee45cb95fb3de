-- `bitchunks::count_xor_ones` meets its contract: of the members from the floor up those in the blocks passed are counted.
use Rattle.bitchunks.proofs.Totals.{Total}
use Rattle.bitchunks.proofs.count_xor_ones.Given as goal

abbrev pub invariant-loop-block : goal.invariant-loop-block
invariant-loop-block g l =
    let v = g.V.BitChunks in
    let w = g.W.BitChunks in
    Total (v.set l.a) (w.set l.b) l.floor (v.tops l.a) (w.tops l.b) l.fn.from.end l.total l.at.passed l.at.passed2 l.at.end

abbrev pub decreases-loop-block : goal.decreases-loop-block
decreases-loop-block g l = l.at.end
