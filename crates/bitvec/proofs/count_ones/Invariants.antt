-- `bitvec::count_ones` meets its contract: the blocks before the one in hand are counted.
use lib.ListN.{length}
use Rattle.bitvec.proofs.Counting.{Counting}
use Rattle.bitvec.proofs.count_ones.Given as goal

abbrev pub invariant-loop-block : goal.invariant-loop-block
invariant-loop-block l = Counting l.blocks (length l.blocks) l.total l.block-index
