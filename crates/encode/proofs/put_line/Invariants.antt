-- `encode::put_line` meets its contract: whatever puts what is left of the line puts the whole of it.
use Rattle.std.proofs.Common.{List, ℕ, ◌+◌, ◌*◌, ◌≤◌, drop}
use Rattle.std.specs.Prelude.{map}
use Rattle.sets.specs.Text.{fields, to_decimal}
use Rattle.encode.specs.Pieces.{PutsAt}
use Rattle.encode.proofs.put_line.Given as goal

abbrev pub invariant-loop-n : goal.invariant-loop-n
invariant-loop-n l =
    (l.end ≤ l.initial.end + 21 * l.n-index)
    × ((most : ℕ) (out : List ℕ) (r : ℕ) → PutsAt most (fields (map to_decimal (drop l.n-index l.numbers))) l.out l.end out r
    → PutsAt (21 * l.n-index + most) (fields (map to_decimal l.numbers)) l.initial.out l.initial.end out r)
