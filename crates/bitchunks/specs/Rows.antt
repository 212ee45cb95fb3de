-- The set that a walk over a row's bytes goes over.
use Rattle.std.specs.Prelude.{cond, eqb, List, ℕ, ◌+◌, ◌-◌, ◌*◌, ◌/◌, ◌^◌, ◌≤◌, min, length, get_or, drop}
use Rattle.sets.specs.Sets.{Set}
use Rattle.sets.specs.Configurations.{Config}
use Rattle.sets.specs.Row.{numbers, row_block_count, top_bytes}
use Rattle.bitchunks.specs.Walk.{Ahead, merged}
use Rattle.bitchunks.specs.declared.Layout.{Layout}
use Rattle.bitchunks.specs.declared.Width.{Width}
use Rattle.bitchunks.specs.declared.Width.TheVariants.{Two, Four}

abbrev pub width_bytes : Width → ℕ
width_bytes Two = 2
width_bytes Four = 4

-- the width of 2 or 4 bytes
abbrev pub width_of : ℕ → Width
width_of bytes = cond (eqb bytes 2) Two Four

abbrev pub entries : Layout → List ℕ → List ℕ
entries s row = numbers (width_bytes s.width) s.count row

-- the smallest of m entries, 0 where there are fewer
abbrev pub edge_in : Layout → ℕ → List ℕ → ℕ
edge_in s m row = get_or (entries s row) (m - 1) 0

abbrev pub blocks : Layout → List ℕ → List ℕ
blocks s row = numbers 8 s.n (drop s.at row)

abbrev pub row_set : Layout → List ℕ → Set
row_set s row = merged (entries s row) s.first (blocks s row)

-- the row has all that the layout names
pub record Fitting (s : Layout) (row : List ℕ) : Type 0 where
  pub entries_in : s.count * width_bytes s.width ≤ length row
  pub blocks_in : 8 * s.n ≤ length row - s.at
  pub small : s.first + s.n ≤ 2 ^ 32

-- what a walk over a row asks
abbrev pub RowWalks : Layout → List ℕ → ℕ → ℕ → Type 0
RowWalks s row passed end = Fitting s row × Ahead (entries s row) passed end

-- where the parts of a row of this configuration stand
abbrev pub layout_of : Config → List ℕ → Layout
layout_of c bs =
    record { width = width_of c.entry; count = min c.M (length bs / c.entry); at = top_bytes c + 1; first = 0; n = row_block_count c bs }
