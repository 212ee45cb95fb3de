-- `bitvec::from_bytes` meets its contract: the first i cells are the numbers read.
use lib.ListN.{drop}
use Rattle.sets.specs.Row.{numbers}
use Rattle.bitvec.proofs.Filling.{Filling}
use Rattle.bitvec.proofs.from_bytes.Given as goal

abbrev pub invariant-loop-i : goal.invariant-loop-i
invariant-loop-i l = Filling (λ j. numbers 8 j (drop l.at l.from)) l.n l.initial.blocks l.blocks l.i
