-- What is answered of a row: the first test that fails, or where its parts stand.
use Rattle.std.specs.Prelude.{◌≡◌, cond, true, false, List, ◌∷◌, ℕ, ◌<◌, ⊤, Option, None, Some, Result, Ok, Err}
use Rattle.sets.specs.Words.{digit}
use Rattle.sets.specs.Configurations.{Config, config_at}
use Rattle.sets.specs.Row.{Fault, nowhere, place, entries_fit, fall_fault, count_fault, spare_fault, high_fault, rising}
use Rattle.sets.specs.Refusals.{Cause, Verdict, taken, refused, because, because_at, verdict, answer, is_known, is_row_of}
use Rattle.sets.specs.Refusals.{range, fall, block_count, spare, high}
use Rattle.sizes.specs.Sizes.{sizes_at, refusal}
use Rattle.sizes.specs.declared.Sizes.{Sizes}
use Rattle.bitchunks.specs.Rows.{entries, layout_of, width_bytes}
use Rattle.bitchunks.specs.declared.Layout.{Layout}
use Rattle.judge_row.specs.declared.RowFault.{RowFault}
use Rattle.judge_row.specs.declared.RowFault.TheVariants as faults
use Rattle.sizes.specs.declared.Refusal.{Refusal}

-- 1, 4, 2 and 5: what opening a row judges
unfoldable pub row_verdict : ℕ → List ℕ → Verdict
row_verdict n bs = verdict (is_known n ∷ is_row_of (config_at n) bs)

abbrev pub row_answer : Verdict → Sizes → Layout → Result (Sizes × Layout) Refusal
row_answer v s layout = answer v (λ k. Err (refusal k)) (Ok (s, layout))

unfoldable pub row_of : ℕ → List ℕ → Result (Sizes × Layout) Refusal
row_of n bs = row_answer (row_verdict n bs) (sizes_at n) (layout_of (config_at n) bs)

-- ---- faults

abbrev pub placed : Fault → Option ℕ
placed nowhere = None
placed (place b) = Some b

-- what a test finds, or else what the next ones find
abbrev pub found : (ℕ → RowFault) → Fault → Result ⊤ RowFault → Result ⊤ RowFault
found fault nowhere next = next
found fault (place b) next = Err (fault b)

-- the first of 2 and of the four tests of 5 that finds a fault
unfoldable pub fault_of : Config → List ℕ → Result ⊤ RowFault
fault_of c bs =
    cond (entries_fit c bs)
    (found (λ b. faults.Fall b) (fall_fault c bs)
    (found (λ b. faults.BlockCount b) (count_fault c bs)
    (found (λ b. faults.Spare b) (spare_fault c bs) (found (λ b. faults.High b) (high_fault c bs) (Ok tt)))))
    (Err faults.Range)

-- what is told of it
abbrev pub cause_of : RowFault → Cause
cause_of faults.Range = because range
cause_of (faults.Fall b) = because_at fall b
cause_of (faults.BlockCount b) = because_at block_count b
cause_of (faults.Spare b) = because_at spare b
cause_of (faults.High b) = because_at high b

abbrev pub fault_verdict : Result ⊤ RowFault → Verdict
fault_verdict (Ok t) = taken
fault_verdict (Err fault) = refused (cause_of fault)

-- ---- inner functions

-- where the row's entries do not fall, from below W
abbrev pub entry_fault : Sizes → Layout → List ℕ → Fault
entry_fault s layout row = rising (width_bytes layout.width) 0 s.buckets (entries layout row)

-- r is the lowest place above `bit` that is set in a block
pub record NextDigit (block bit r : ℕ) : Type 0 where
  pub above : bit < r
  pub small : r < 64
  pub is_set : digit block r ≡ true
  pub between : (q : ℕ) → bit < q → q < r → digit block q ≡ false
