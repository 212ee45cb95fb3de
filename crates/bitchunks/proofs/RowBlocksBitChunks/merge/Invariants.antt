-- The merge of a row meets its contract: the entries left have what the block still lacks.
use mathlib.Core.Path.{◌≡◌}
use Rattle.bitchunks.specs.Walk.{Merging}
use Rattle.bitchunks.specs.Rows.{entries, row_set}
use Rattle.bitchunks.proofs.RowBlocksBitChunks.merge.Given as goal

abbrev pub invariant-loop-at : goal.invariant-loop-at
invariant-loop-at l = (l.past ≡ l.at) × Merging (row_set l.self.layout l.self.row.now) (entries l.self.layout l.self.row.now) l.i l.at l.joined
