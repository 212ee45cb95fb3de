-- `judge::falls` meets its contract: one turn of the loop for each cell.
use Rattle.judge.proofs.Soundness.{Falling}
use Rattle.judge.proofs.falls.Given as goal

abbrev pub invariant-loop-cell : goal.invariant-loop-cell
invariant-loop-cell l = Falling l.limit l.top l.last l.cell-index
