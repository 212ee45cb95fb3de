-- `bitvec::toggle_all` meets its contract: the buckets before the one in hand are flipped.
use Rattle.bitvec.proofs.Flipping.{flip_turn}
use Rattle.bitvec.proofs.toggle_all.Goals as goal

pub loop-bucket-preserved : goal.loop-bucket-preserved
loop-bucket-preserved c =
    flip_turn _ _ c.loop-bucket.bucket-index _ _ c.loop-bucket-test.true c.into_usize.ensures c.loop-bucket.invariant c.toggle.ensures
