-- A mask laid over a block.
use Rattle.std.specs.Prelude.{◌≡◌, ℕ, ◌≤◌}
use Rattle.sets.specs.Words.{block_at}
use Rattle.sets.specs.Masks.{laid, largest_mask_size}

-- the block repeats its own first `size` digits
abbrev pub Laid : ℕ → ℕ → Type 0
Laid size block = block ≡ block_at (laid block size) 0

-- it is that of a mask of a size that is taken
abbrev pub LaidMask : ℕ → ℕ → Type 0
LaidMask size block = (1 ≤ size) × (size ≤ largest_mask_size) × Laid size block
