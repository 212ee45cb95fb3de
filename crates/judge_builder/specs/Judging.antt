-- What is answered of the first test that fails.
use Rattle.std.specs.Prelude.{List, ◌++◌, ℕ, Result}
use Rattle.sets.specs.Configurations.{config_at}
use Rattle.sets.specs.Filter.{BuilderRecord}
use Rattle.sets.specs.Refusals.{verdict, builder_areas, builder_lent, hold_areas}
use Rattle.judge.specs.Judging.{judged}
use Rattle.pending.specs.declared.Stage.{Stage}
use Rattle.sizes.specs.declared.Sizes.{Sizes}
use Rattle.sizes.specs.declared.Refusal.{Refusal}

abbrev pub record_at : ℕ → Stage → BuilderRecord
record_at n s = record { config = n; split = s.split; count = s.count }

-- 1, 3
unfoldable pub areas_of : ℕ → ℕ → ℕ → Result Sizes Refusal
areas_of n pending bits = judged n (verdict (builder_areas n pending bits))

-- 1, 3, 8
unfoldable pub builder_of : ℕ → Stage → List ℕ → List ℕ → Result Sizes Refusal
builder_of n s pending bits = judged n (verdict (builder_lent (record_at n s) pending bits))

-- 1, 3, 8, with room for a filter
unfoldable pub target_of : ℕ → Stage → List ℕ → List ℕ → ℕ → ℕ → Result Sizes Refusal
target_of n s pending bits top blocks = judged n (verdict (builder_lent (record_at n s) pending bits ++ hold_areas (config_at n) top blocks))
