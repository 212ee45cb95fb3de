-- `bitvec::lift` meets its contract: `count` buckets are taken out, and above the block in hand none is left.
use Prim.Native.Nat.{◌+◌, ◌-◌}
use Rattle.bitvec.proofs.Lifting.{Turn}
use Rattle.bitvec.proofs.lift.Given as goal

abbrev pub invariant-loop-count : goal.invariant-loop-count
invariant-loop-count l = Turn l.m l.n l.initial.top l.initial.blocks l.top l.blocks l.count l.i l.block

abbrev pub decreases-loop-count : goal.decreases-loop-count
decreases-loop-count l = l.i + (l.m - l.count)
