-- `bitchunks::repeat_mask` meets its contract: each turn doubles what is laid.
use Prim.Native.Nat.{◌-◌}
use Rattle.bitchunks.proofs.Mask.{Laying}
use Rattle.bitchunks.proofs.block_mask.repeat_mask.Given as goal

abbrev pub invariant-loop-i : goal.invariant-loop-i
invariant-loop-i l = Laying l.mask l.size l.i l.block

abbrev pub decreases-loop-i : goal.decreases-loop-i
decreases-loop-i l = 64 - l.i
