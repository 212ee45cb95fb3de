-- `bitchunks::count_xor_ones` meets its contract: of the members from the floor up those in the blocks passed are counted.
use native.Mathlib.Omega.{arith}
use Rattle.bitchunks.proofs.Totals.{total_few, total_turn, total_end}
use Rattle.bitchunks.proofs.count_xor_ones.Goals as goal

pub returns-then-c-floor : goal.returns-then-c-floor
returns-then-c-floor g c = total_end c.loop-block.invariant _ c.if-c-floor.true c.in-Some.ensures.gap

pub loop-block-preserved : goal.loop-block-preserved
loop-block-preserved g c = total_turn c.loop-block.invariant _ c.in-Some.ensures (omega arith) c.ones_of-total.ensures

pub overflow_add-total : goal.overflow_add-total
overflow_add-total g c = omega (arith, total_few (loop-block-preserved g c), c.requires.walks.1.small)

pub returns : goal.returns
returns g c = total_end c.loop-block.invariant 0 (omega arith) c.in_default.ensures
