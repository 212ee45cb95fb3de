-- `judge::cells_below` meets its contract: one turn of the loop for each bucket listed.
use Rattle.judge.proofs.Soundness.{Asking}
use Rattle.judge.proofs.cells_below.Given as goal

abbrev pub invariant-loop-bucket : goal.invariant-loop-bucket
invariant-loop-bucket l = Asking l.limit l.list l.above l.bucket-index
