-- Calls that write more than their cells.
use Rattle.std.specs.Prelude.{◌≡◌, cond, List, [], ◌∷◌, ℕ, eqb, get_or, Option, Some, None, Result, Ok, Err}
use Rattle.std.specs.Borrow.{Bor}
use Rattle.row_reader.specs.Reading.{step_answer, step_place}
use Rattle.row_order.specs.Calls.{Seen, seen}
use Rattle.exports.specs.Told.{Told, gives, refuses, Tells, told, builder_cells, filter_cells, step_cells}
use Rattle.sizes.specs.declared.Refusal.{Refusal}
use Rattle.diff_count.specs.declared.Filter.{Filter}
use Rattle.builder.specs.declared.Builder.{Builder}

-- the call that is wrapped gave an answer, which is what is told
pub record Wraps {A C : Type 0} (told : A → Told C) (Promise : A → Type 0) (cells : C) (r : ℕ) (cells' : C) : Type 0 where
  pub answer : A
  pub keeps : Promise answer
  pub tells : Tells (told answer) cells r cells'

-- of a call that makes a filter, and of one that makes a builder
abbrev pub MakesFilter : (Result Filter Refusal → Type 0) → List ℕ → ℕ → List ℕ → Type 0
MakesFilter = Wraps (told filter_cells)

abbrev pub MakesBuilder : (Result Builder Refusal → Type 0) → List ℕ → ℕ → List ℕ → Type 0
MakesBuilder = Wraps (told builder_cells)

-- the row that is named, or the first's empty beginning
abbrev pub row_named : Told ℕ → Bor (List ℕ) → Bor (List ℕ) → Seen
row_named (gives which) first second = cond (eqb which 0) (seen first) (seen second)
row_named (refuses n) first second = (first.ref_ptr, [])

-- a reader's cells are its configuration and its place; the row is lent beside them. 01: at the end, and on a refusal, "the place
-- stays"
unfoldable pub reader_after : List ℕ → Result (Option ℕ) Refusal → ℕ → List ℕ
reader_after reader (Ok (Some p)) place = get_or reader 0 0 ∷ place ∷ []
reader_after reader (Ok None) place = reader
reader_after reader (Err r) place = reader

pub record Steps (reader row step : List ℕ) (r : ℕ) (reader' step' : List ℕ) : Type 0 where
  pub tells : Tells (told step_cells (step_answer (get_or reader 0 0) row (get_or reader 1 0))) step r step'
  pub moves : reader' ≡
      reader_after reader (step_answer (get_or reader 0 0) row (get_or reader 1 0)) (step_place (get_or reader 0 0) row (get_or reader 1 0))
