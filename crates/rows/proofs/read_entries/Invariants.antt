-- `rows::read_entries` meets its contract: the first i cells are the entries read.
use Rattle.sets.specs.Row.{numbers}
use Rattle.bitvec.proofs.Filling.{Filling}
use Rattle.bitchunks.specs.Rows.{width_bytes}
use Rattle.rows.proofs.read_entries.Given as goal

abbrev pub invariant-loop-i : goal.invariant-loop-i
invariant-loop-i l = Filling (λ j. numbers (width_bytes l.layout.width) j l.row) l.layout.count l.initial.cell-items l.cell-items l.i
