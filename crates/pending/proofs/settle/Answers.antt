-- `pending::settle` meets its contract: while too many are at or above the split, it can rise.
use native.Mathlib.Omega.{arith}
use Rattle.pending.proofs.Settling.{settle_start, settle_room, settle_turn, settle_end}
use Rattle.pending.proofs.settle.Goals as goal

pub loop-count-init : goal.loop-count-init
loop-count-init c = settle_start _ _ c.requires.split_bound.0 c.count_from-count.ensures

pub overflow_add-up : goal.overflow_add-up
overflow_add-up c = omega (arith, c.loop-count.invariant.low)

pub count_from-count-requires-in-loop-count : goal.count_from-count-requires-in-loop-count
count_from-count-requires-in-loop-count c = omega (arith, c.min-up.ensures)

pub loop-count-smaller : goal.loop-count-smaller
loop-count-smaller c = omega (arith, c.min-up.ensures, settle_room c.loop-count.invariant (omega (arith, c.loop-count-test.true)))

pub loop-count-preserved : goal.loop-count-preserved
loop-count-preserved c = settle_turn c.loop-count.invariant c.loop-count-test.true _ (omega (arith, c.min-up.ensures)) c.count_from-count-in-loop-count.ensures

pub returns : goal.returns
returns c = settle_end c.loop-count.invariant c.loop-count-test.false
