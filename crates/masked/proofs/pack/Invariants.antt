-- `masked::pack` meets its contract: the answer is told by the slots filled and the members still to be given.
use Prim.Native.Nat.{◌*◌}
use Rattle.sets.specs.Sets.{members}
use Rattle.masked.proofs.Packing.{Packing}
use Rattle.masked.proofs.pack.Given as goal

abbrev pub invariant-loop-p : goal.invariant-loop-p
invariant-loop-p g l =
    let w = g.W.BitChunks in
    Packing (w.set l.walk) (w.tops l.walk) l.bits (members (w.set l.walk) (64 * l.k)) l.key l.room l.at.cursor.passed l.at.cursor.end l.at.block

abbrev pub decreases-loop-p : goal.decreases-loop-p
decreases-loop-p g l = l.room
