-- The order of two rows, and the greater of them.
use Rattle.std.specs.Prelude.{cond, List, [], ◌∷◌, ◌++◌, ℕ, Result}
use Rattle.std.specs.Borrow.{Bor}
use Rattle.sets.specs.Configurations.{W, config_at}
use Rattle.sets.specs.Masks.{first_wins, order_of}
use Rattle.sets.specs.Row.{shown_row}
use Rattle.sets.specs.Refusals.{Verdict, verdict, answer, is_known, is_mask, is_row_of}
use Rattle.masked.specs.Inner.{order_answer}
use Rattle.sizes.specs.declared.Refusal.{Refusal}
use Rattle.std.specs.declared.cmp.Ordering.{Ordering}

-- 01: "Of two rows, the first is judged by 4, 2 and 5 before the second."
unfoldable pub rows_verdict : ℕ → ℕ → ℕ → List ℕ → List ℕ → Verdict
rows_verdict n mask size first second =
    verdict (is_known n ∷ (is_mask mask size ++ (is_row_of (config_at n) first ++ is_row_of (config_at n) second)))

-- the order of the sets that have the rows
unfoldable pub rows_order : ℕ → ℕ → ℕ → List ℕ → List ℕ → Ordering
rows_order n mask size first second = order_of (W (config_at n)) mask size (shown_row (config_at n) first) (shown_row (config_at n) second)

-- 01: "Order can be asked of two rows, given one configuration and mask, as well as of two filters"
unfoldable pub cmp_rows_of : ℕ → ℕ → ℕ → List ℕ → List ℕ → Result Ordering Refusal
cmp_rows_of n mask size first second = order_answer (rows_verdict n mask size first second) (rows_order n mask size first second)

-- a slice as a program can see it: where it begins, and its elements
abbrev pub Seen : Type 0
Seen = (ℕ × ℕ) × List ℕ

abbrev pub seen : Bor (List ℕ) → Seen
seen x = (x.ref_ptr, x.now)

-- 01: "of two lent rows it returns the greater one itself, the first if equal. On a refusal it returns the empty beginning of the
-- first."
unfoldable pub greater_of : ℕ → ℕ → ℕ → Bor (List ℕ) → Bor (List ℕ) → Seen
greater_of n mask size first second =
    answer (rows_verdict n mask size first.now second.now) (λ r. (first.ref_ptr, []))
    (cond (first_wins (rows_order n mask size first.now second.now)) (seen first) (seen second))
