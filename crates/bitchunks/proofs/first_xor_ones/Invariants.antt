-- `bitchunks::first_xor_ones` meets its contract: the members in the blocks passed are counted, and are fewer than m.
use Prim.Native.Nat.{◌<◌}
use Rattle.bitchunks.proofs.Totals.{Total}
use Rattle.bitchunks.proofs.first_xor_ones.Given as goal

abbrev pub invariant-loop-block : goal.invariant-loop-block
invariant-loop-block g l =
    let v = g.V.BitChunks in
    let w = g.W.BitChunks in
    Total (v.set l.a) (w.set l.b) 0 (v.tops l.a) (w.tops l.b) l.fn.k l.total l.at.passed l.at.passed2 l.at.end × (l.total < l.m)

abbrev pub decreases-loop-block : goal.decreases-loop-block
decreases-loop-block g l = l.at.end
