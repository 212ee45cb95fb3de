-- `diff_count::blocks_up_to` meets its contract: `most` reaches over the first i buckets listed.
use Rattle.diff_count.proofs.Reaching.{Reaching}
use Rattle.diff_count.proofs.blocks_up_to.Given as goal

abbrev pub invariant-loop-bucket : goal.invariant-loop-bucket
invariant-loop-bucket l = Reaching l.list l.least l.most l.bucket-index
