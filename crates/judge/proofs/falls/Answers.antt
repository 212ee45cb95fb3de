-- `judge::falls` meets its contract: one turn of the loop for each cell.
use native.Mathlib.Omega.{arith}
use Rattle.judge.proofs.Soundness.{fall_start, fall_not, fall_turn, fall_end}
use Rattle.judge.proofs.falls.Goals as goal

pub loop-cell-init : goal.loop-cell-init
loop-cell-init c = fall_start _ _

pub returns-then-bucket-last : goal.returns-then-bucket-last
returns-then-bucket-last c = fall_not (omega arith) c.loop-cell.invariant _ c.into_usize-bucket.ensures c.if-bucket-last.true

pub loop-cell-preserved : goal.loop-cell-preserved
loop-cell-preserved c = fall_turn (omega arith) c.loop-cell.invariant _ c.into_usize-bucket.ensures c.if-bucket-last.false

pub returns : goal.returns
returns c = fall_end (omega arith) c.loop-cell.invariant
