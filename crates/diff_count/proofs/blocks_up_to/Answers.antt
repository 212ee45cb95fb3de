-- `diff_count::blocks_up_to` meets its contract: `most` reaches over the first i buckets listed.
use Prim.Native.Nat.{◌+◌}
use native.Mathlib.Omega.{arith}
use Rattle.diff_count.proofs.Reaching.{reach_start, reach_turn, reach_end}
use Rattle.diff_count.proofs.blocks_up_to.Goals as goal

pub loop-bucket-init : goal.loop-bucket-init
loop-bucket-init c = reach_start _ _

pub loop-bucket-preserved : goal.loop-bucket-preserved
loop-bucket-preserved c =
    reach_turn c.loop-bucket.invariant (c.into_index.result + 1) _
    (omega arith) (omega (arith, c.into_index.ensures, c.into_usize.ensures)) c.max-most.ensures

pub returns : goal.returns
returns c = reach_end c.loop-bucket.invariant (omega arith)
