-- `row_reader::bucket_at` meets its contract: the answer is told by the members still to be given and how many of them come
-- before it.
use Prim.Native.Nat.{◌-◌, ◌*◌, ◌≤◌}
use Rattle.sets.specs.Sets.{members}
use Rattle.bitchunks.specs.Rows.{entries, row_set}
use Rattle.row_reader.proofs.Steps.{Reaching}
use Rattle.row_reader.proofs.bucket_at.Given as goal

abbrev pub invariant-loop-passed : goal.invariant-loop-passed
invariant-loop-passed l =
    let S = row_set l.row.layout l.row.row.now in
    (l.passed ≤ l.place)
    × Reaching S (entries l.row.layout l.row.row.now) (members S (64 * l.k)) l.place (l.place - l.passed) l.at.cursor.passed l.at.cursor.end l.at.block
