-- `bitvec::xor` meets its contract: the first i cells are those of the two sources, one with the other.
use lib.ListN.{length}
use Rattle.bitvec.proofs.Filling.{Filling}
use Rattle.bitvec.specs.Cells.{xored}
use Rattle.bitvec.proofs.xor.Given as goal

abbrev pub invariant-loop-i : goal.invariant-loop-i
invariant-loop-i l = Filling (λ j. xored j l.first l.second) (length l.initial.to) l.initial.to l.to l.i
