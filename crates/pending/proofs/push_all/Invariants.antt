-- `pending::push_all` meets its contract: the first i buckets listed are pushed.
use Rattle.pending.proofs.Pushing.{Pushing}
use Rattle.pending.proofs.push_all.Given as goal

abbrev pub invariant-loop-bucket : goal.invariant-loop-bucket
invariant-loop-bucket l = Pushing l.m l.k l.level l.list l.initial.pending l.initial.bits l.initial.now l.pending l.bits l.now l.bucket-index
