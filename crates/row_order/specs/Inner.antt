-- What the inner functions answer.
use Rattle.std.specs.Prelude.{List, ◌∷◌, ◌++◌, ℕ, Result}
use Rattle.sets.specs.Configurations.{config_at}
use Rattle.sets.specs.Refusals.{Verdict, verdict, is_known, is_row_of}
use Rattle.masked.specs.Inner.{order_answer}
use Rattle.row_order.specs.Calls.{rows_order}
use Rattle.sizes.specs.declared.Refusal.{Refusal}
use Rattle.std.specs.declared.cmp.Ordering.{Ordering}

-- 1, then 4, 2 and 5 of the first row and of the second
unfoldable pub both_verdict : ℕ → List ℕ → List ℕ → Verdict
both_verdict n first second = verdict (is_known n ∷ (is_row_of (config_at n) first ++ is_row_of (config_at n) second))

-- the order of two rows where 6 and 7 are not in question
unfoldable pub judged_of : ℕ → ℕ → ℕ → List ℕ → List ℕ → Result Ordering Refusal
judged_of n mask size first second = order_answer (both_verdict n first second) (rows_order n mask size first second)
