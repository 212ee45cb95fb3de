-- `judge::cells_below` meets its contract: one turn of the loop for each bucket listed.
use Rattle.judge.proofs.Soundness.{ask_start, ask_turn, ask_end}
use Rattle.judge.proofs.cells_below.Goals as goal

pub loop-bucket-init : goal.loop-bucket-init
loop-bucket-init c = ask_start _ _

pub loop-bucket-preserved : goal.loop-bucket-preserved
loop-bucket-preserved c = ask_turn c.loop-bucket.invariant c.loop-bucket-test.true

pub returns : goal.returns
returns c = ask_end c.loop-bucket.invariant c.loop-bucket-test.false
