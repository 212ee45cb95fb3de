-- `bitvec::copy` meets its contract: the first i cells are the source's.
use lib.ListN.{length, take}
use Rattle.bitvec.proofs.Filling.{Filling}
use Rattle.bitvec.proofs.copy.Given as goal

abbrev pub invariant-loop-i : goal.invariant-loop-i
invariant-loop-i l = Filling (λ j. take j l.source) (length l.initial.to) l.initial.to l.to l.i
