-- `bitvec::count_ones` meets its contract: the blocks before the one in hand are counted.
use native.Mathlib.Omega.{arith}
use Rattle.bitvec.proofs.Counting.{count_start, count_turn, count_end, count_few}
use Rattle.bitvec.proofs.count_ones.Goals as goal

pub loop-block-init : goal.loop-block-init
loop-block-init c = count_start _ _

pub loop-block-preserved : goal.loop-block-preserved
loop-block-preserved c = count_turn _ (omega arith) (c.type_inv.blocks _).fits c.ones_of-total.ensures c.loop-block.invariant

pub overflow_add-total : goal.overflow_add-total
overflow_add-total c = omega (arith, count_few (loop-block-preserved c))

pub returns : goal.returns
returns c = count_end (omega arith) c.loop-block.invariant
