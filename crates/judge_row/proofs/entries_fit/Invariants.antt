-- `judge_row::entries_fit` meets its contract: one turn of the loop for each entry.
use Rattle.bitchunks.specs.Rows.{width_bytes}
use Rattle.judge_row.proofs.Entries.{Within}
use Rattle.judge_row.proofs.entries_fit.Given as goal

abbrev pub invariant-loop-i : goal.invariant-loop-i
invariant-loop-i l = Within l.limit (width_bytes l.layout.width) l.layout.count l.row l.i
