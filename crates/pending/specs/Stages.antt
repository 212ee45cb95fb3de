-- A builder in memory: what its parts are, and how it moves on.
use Rattle.std.specs.Prelude.{◌≡◌, List, ℕ, ◌+◌, ◌*◌, ◌≤◌, ◌<◌, min, length, take, drop}
use Rattle.sets.specs.Sets.{Agree, Below, Empty, flips, members, onward}
use Rattle.sets.specs.Words.{held}
use Rattle.sets.specs.Filter.{Rises, at_or_above, builder_set}
use Rattle.bitvec.specs.Cells.{Zeros}
use Rattle.pending.specs.declared.Stage.{Stage}

abbrev pub stage_at : ℕ → ℕ → Stage
stage_at split count = record { split = split; count = count }

-- the cells and the blocks hold a builder at this stage: 2m pending cells, k blocks
pub record Staged (m k : ℕ) (pending bits : List ℕ) (s : Stage) : Type 0 where
  pub few : s.count ≤ 2 * m
  pub in_range : Below (64 * k) (take s.count pending)
  pub low : s.split ≤ 64 * k
  pub clear : Empty (held bits) s.split (64 * k)
  pub unused : Zeros s.count (2 * m) pending

-- from the stage s to the stage r: the buckets listed flip the set, the split rises by whole levels, what stands past the areas stays
pub record Moves (m k level : ℕ) (list pending₀ bits₀ : List ℕ) (s : Stage) (pending bits : List ℕ) (r : Stage) : Type 0 where
  pub staged : Staged m k pending bits r
  pub sets : Agree (64 * k) (builder_set pending bits r.count) (flips list (builder_set pending₀ bits₀ s.count))
  pub rises : Rises level (64 * k) s.split r.split
  pub pending_rest : drop (2 * m) pending ≡ drop (2 * m) pending₀
  pub bit_rest : drop k bits ≡ drop k bits₀
  pub pending_length : length pending ≡ length pending₀
  pub bit_length : length bits ≡ length bits₀

-- where all that is at or above the split finds room, it is pending, and the split stays
abbrev pub Stays : ℕ → List ℕ → Stage → Stage → Type 0
Stays m list s r = s.count + at_or_above s.split list ≤ 2 * m → (r.split ≡ s.split) × (r.count ≡ s.count + at_or_above s.split list)

-- how many buckets of the first k blocks are at or above a split
abbrev pub held_from : ℕ → List ℕ → ℕ → ℕ
held_from k bits split = length (members (onward split (held bits)) (64 * k))

-- 01: "the split rises by 2^B, never past W, until at most M are at or above it": these are counted, and at each level before
-- there are more
pub record Settled (m k level : ℕ) (bits : List ℕ) (split : ℕ) (r : Stage) : Type 0 where
  pub rises : Rises level (64 * k) split r.split
  pub low : r.split ≤ 64 * k
  pub counts : r.count ≡ held_from k bits r.split
  pub few : r.count ≤ m
  pub before : (t : ℕ) → min (64 * k) (split + t * level) < r.split → m < held_from k bits (min (64 * k) (split + t * level))
