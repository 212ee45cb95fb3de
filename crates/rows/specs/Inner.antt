-- What the inner functions ask of a row.
use Rattle.std.specs.Prelude.{◌≡◌, List, ℕ, ◌*◌, ◌≤◌}
use Rattle.sets.specs.Sets.{Empty, Falls, Set}
use Rattle.sets.specs.Words.{held}
use Rattle.sets.specs.Configurations.{blocks_for}
use Rattle.sets.specs.Filter.{joined}
use Rattle.bitchunks.specs.Rows.{Fitting, blocks, edge_in, entries}
use Rattle.bitchunks.specs.declared.Layout.{Layout}

-- the set that has the row, where a top list has m entries
abbrev pub set_in : Layout → ℕ → List ℕ → Set
set_in s m row = joined (entries s row) (edge_in s m row) (held (blocks s row))

-- the row is that of a set of the buckets in k blocks, with m entries at most, and its parts stand where the layout names them
pub record Readable (s : Layout) (m k : ℕ) (row : List ℕ) : Type 0 where
  pub fits : Fitting s row
  pub few : s.count ≤ m
  pub falling : Falls (64 * k) (entries s row)
  pub counted : s.n ≡ blocks_for (edge_in s m row)
  pub clear : Empty (held (blocks s row)) (edge_in s m row) (64 * s.n)
