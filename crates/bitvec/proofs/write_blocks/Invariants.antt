-- `bitvec::write_blocks` meets its contract: the first i blocks are written.
use lib.ListN.{length}
use Rattle.unaligned.proofs.Runs.{Written}
use Rattle.bitvec.proofs.write_blocks.Given as goal

abbrev pub invariant-loop-i : goal.invariant-loop-i
invariant-loop-i l = Written 8 l.blocks (length l.blocks) l.initial.to l.at l.to l.i
