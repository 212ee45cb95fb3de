-- `rows::write_entries` meets its contract: i entries are written.
use lib.ListN.{length}
use Rattle.bitchunks.specs.Rows.{width_bytes}
use Rattle.unaligned.proofs.Runs.{Written}
use Rattle.rows.proofs.write_entries.Given as goal

abbrev pub invariant-loop-i : goal.invariant-loop-i
invariant-loop-i l = Written (width_bytes l.width) l.top (length l.top) l.initial.to 0 l.to l.i
