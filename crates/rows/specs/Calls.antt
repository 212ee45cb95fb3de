-- The calls on one row: what each judges, and what it answers and leaves.
use Rattle.std.specs.Prelude.{◌≡◌, List, [], ◌∷◌, ◌++◌, ℕ, length, Result, Ok, Err}
use Rattle.sets.specs.Configurations.{config_at}
use Rattle.sets.specs.Filter.{exact_count_at, filled}
use Rattle.sets.specs.Row.{row, shown_row}
use Rattle.sets.specs.Refusals.{Verdict, verdict, answer, areas_lent, filter_lent, holds_row, is_row_of}
use Rattle.sizes.specs.Sizes.{refusal}
use Rattle.judge_row.specs.Judging.{row_verdict}
use Rattle.diff_count.specs.Making.{Makes, record_in}
use Rattle.diff_count.specs.Calls.{shown_by}
use Rattle.diff_count.specs.declared.Filter.{Filter}
use Rattle.sizes.specs.declared.Refusal.{Refusal}

-- the row of the set that a filter shows
unfoldable pub row_by : Filter → List ℕ → List ℕ → List ℕ
row_by f top bits = row (config_at f.config) (shown_by f top bits)

-- 01: "last, 3 for the row buffer"
unfoldable pub write_verdict : Filter → List ℕ → List ℕ → List ℕ → Verdict
write_verdict f top bits to = verdict (filter_lent (record_in f) top bits ++ (holds_row (row_by f top bits) to ∷ []))

-- 01: "Writing answers the row's length; bytes after it are untouched."
pub record Writes (f : Filter) (top bits to : List ℕ) (r : Result ℕ Refusal) (to' : List ℕ) : Type 0 where
  pub answers : r ≡ answer (write_verdict f top bits to) (λ n. Err (refusal n)) (Ok (length (row_by f top bits)))
  pub bytes : to' ≡ answer (write_verdict f top bits to) (λ n. to) (filled (row_by f top bits) (length (row_by f top bits)) to)

-- 01: "Reading accepts exactly the rows of sets, and gives the record and areas of the set that has the row."
unfoldable pub read_verdict : ℕ → List ℕ → List ℕ → List ℕ → Verdict
read_verdict n bs top bits = verdict (areas_lent n (length top) (length bits) ++ is_row_of (config_at n) bs)

abbrev pub Reads : ℕ → List ℕ → List ℕ → List ℕ → Result Filter Refusal → List ℕ → List ℕ → Type 0
Reads n bs top bits = Makes (read_verdict n bs top bits) (config_at n) (shown_row (config_at n) bs) top bits

-- 01: "Opening judges the row as reading does"; it answers the size of the set that has the row
unfoldable pub open_of : ℕ → List ℕ → Result ℕ Refusal
open_of n bs = answer (row_verdict n bs) (λ r. Err (refusal r)) (Ok (exact_count_at (config_at n) (shown_row (config_at n) bs)))
