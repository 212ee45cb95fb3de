-- `row_reader::bucket_at` meets its contract: the answer is told by the members still to be given and how many of them come
-- before it.
use mathlib.Core.Path.{◌∙◌}
use native.Mathlib.Omega.{arith}
use Rattle.row_reader.proofs.Steps.{reach_start, reach_none, reach_here, reach_turn}
use Rattle.row_reader.proofs.bucket_at.Goals as goal

pub loop-passed-init : goal.loop-passed-init
loop-passed-init c = let e = c.start-at.ensures in rw (e.0, e.1, e.2) (omega arith, reach_start _ _ _ (omega arith) c.requires.1)
