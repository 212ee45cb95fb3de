-- `pending::settle` meets its contract: while too many are at or above the split, it can rise.
use Prim.Native.Nat.{◌-◌, ◌*◌}
use Rattle.pending.proofs.Settling.{Settling}
use Rattle.pending.proofs.settle.Given as goal

abbrev pub invariant-loop-count : goal.invariant-loop-count
invariant-loop-count l = Settling l.m l.k l.level l.bits l.split l.up l.count

abbrev pub decreases-loop-count : goal.decreases-loop-count
decreases-loop-count l = 64 * l.k - l.up
