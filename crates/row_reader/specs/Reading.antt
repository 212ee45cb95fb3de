-- What a step of a row reader gives, and the reader after it.
use Rattle.std.specs.Prelude.{List, [], ◌∷◌, ℕ, zero, suc, Option, Some, None, Result, Ok, Err}
use Rattle.std.specs.Borrow.{Bor}
use Rattle.sets.specs.Sets.{members}
use Rattle.sets.specs.Configurations.{W, config_at}
use Rattle.sets.specs.Masks.{Given, bucket, end, given, place_after}
use Rattle.sets.specs.Row.{shown_row}
use Rattle.sets.specs.Refusals.{answer}
use Rattle.sizes.specs.Sizes.{refusal}
use Rattle.judge_row.specs.Judging.{row_verdict}
use Rattle.row_reader.specs.declared.RowReader.{RowReader}
use Rattle.row_reader.specs.declared.Stepped.{Stepped}
use Rattle.row_reader.specs.declared.StepTaken.{StepTaken}
use Rattle.sizes.specs.declared.Refusal.{Refusal}

-- 01: "gives the buckets from largest to smallest, each once"; "at or past the set's size a step tells the end"
abbrev pub given_told : Given → Result (Option ℕ) Refusal
given_told (bucket p) = Ok (Some p)
given_told end = Ok None

-- 01: "A step on a row that no set has answers as opening it would"
unfoldable pub step_answer : ℕ → List ℕ → ℕ → Result (Option ℕ) Refusal
step_answer n bs place =
    answer (row_verdict n bs) (λ r. Err (refusal r)) (given_told (given (W (config_at n)) (shown_row (config_at n) bs) place))

-- 01: "The place is the number of buckets already given"; at the end, and on a refusal, "the place stays"
unfoldable pub step_place : ℕ → List ℕ → ℕ → ℕ
step_place n bs place = answer (row_verdict n bs) (λ r. place) (place_after (W (config_at n)) (shown_row (config_at n) bs) place)

-- what the walk finds at a place
abbrev pub next_told : Given → Option ℕ
next_told (bucket p) = Some p
next_told end = None

-- a step on a row, a configuration and a place
abbrev pub stepped_at : ℕ → List ℕ → ℕ → Stepped
stepped_at n bs place = record { answer = step_answer n bs place; place = step_place n bs place }

-- 01: "holds a lent row and a place in it, with the configuration"
abbrev pub reader_of : Bor (List ℕ) → ℕ → ℕ → RowReader
reader_of row n place = record { row = row; config = n; place = place }

-- the same row and configuration, at another place
abbrev pub reader_at : RowReader → ℕ → RowReader
reader_at d place = reader_of d.row d.config place

-- what a reader's step hands back
abbrev pub step_of : RowReader → StepTaken
step_of d =
    record {
      answer = step_answer d.config d.row.now d.place;
      reader = reader_at d (step_place d.config d.row.now d.place);
    }

-- ---- steps one after the other

-- the buckets of the set that a row shows, from the largest down
abbrev pub buckets_of : ℕ → List ℕ → List ℕ
buckets_of n bs = members (shown_row (config_at n) bs) (W (config_at n))

-- the answers of so many steps, each from the reader that the one before handed back
abbrev pub steps : ℕ → RowReader → List (Result (Option ℕ) Refusal)
steps zero d = []
steps (suc n) d = (step_of d).answer ∷ steps n (step_of d).reader

-- the reader after them
abbrev pub after_steps : ℕ → RowReader → RowReader
after_steps zero d = d
after_steps (suc n) d = after_steps n (step_of d).reader
