-- `bitvec::count_ones_in_bytes` meets its contract: the blocks below i are counted.
use lib.ListN.{drop}
use Rattle.sets.specs.Row.{numbers}
use Rattle.bitvec.proofs.Counting.{Counting}
use Rattle.bitvec.proofs.count_ones_in_bytes.Given as goal

abbrev pub invariant-loop-i : goal.invariant-loop-i
invariant-loop-i l = Counting (numbers 8 l.n (drop l.at l.from)) l.n l.total l.i
