-- `judge_row::fall_place` meets its contract: one turn of the loop for each entry.
use Rattle.bitchunks.specs.Rows.{width_bytes}
use Rattle.judge_row.proofs.Entries.{Falling}
use Rattle.judge_row.proofs.fall_place.Given as goal

abbrev pub invariant-loop-i : goal.invariant-loop-i
invariant-loop-i l = Falling l.limit (width_bytes l.layout.width) l.layout.count l.row l.last l.i
