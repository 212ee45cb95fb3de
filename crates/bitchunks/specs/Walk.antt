-- A walk over the blocks of a set, from the top block down.
use Rattle.std.specs.Prelude.{◌≡◌, cond, ◌&&◌, ◌||◌, ◌⊎◌, List, ℕ, suc, ◌+◌, ◌-◌, ◌*◌, ◌^◌, ◌≤◌, ◌<◌, leb, length, get_or, take, drop, Option, MatchOption}
use Rattle.sets.specs.Sets.{Empty, Falls, Set, among}
use Rattle.sets.specs.Words.{block_at, digit, held}
use Rattle.sets.specs.Configurations.{blocks_for}
use Rattle.bitchunks.specs.declared.Cursor.{Cursor}

-- the set that a walk goes over: the entries, and what the blocks from the number `first` on hold
unfoldable pub merged : List ℕ → ℕ → List ℕ → Set
merged tops first bits p = among tops p || (leb (64 * first) p && held bits (p - 64 * first))

-- tops are the first `count` entries of a filter, and bits its blocks up to the edge
pub record PartsOf (tops bits top : List ℕ) (count : ℕ) (blocks : List ℕ) (edge : ℕ) : Type 0 where
  pub tops_are : tops ≡ take count top
  pub tops_count : length tops ≡ count
  pub bits_are : bits ≡ take (blocks_for edge) blocks
  pub bits_count : length bits ≡ blocks_for edge

-- the blocks of a filter with this boundary
abbrev pub BlocksOf : List ℕ → List ℕ → ℕ → Type 0
BlocksOf bits blocks edge = (bits ≡ take (blocks_for edge) blocks) × (length bits ≡ blocks_for edge)

-- the block of the number i among the blocks from the number `first` on
unfoldable pub bits_at : ℕ → List ℕ → ℕ → ℕ
bits_at first bits i = cond (leb first i) (get_or bits (i - first) 0) 0

-- a cursor with the blocks below `end` still ahead has passed the entries at or above them, and no other; their buckets fit a u32
pub record Ahead (tops : List ℕ) (passed end : ℕ) : Type 0 where
  pub some : passed ≤ length tops
  pub falling : Falls (64 * end) (drop passed tops)
  pub rest : (p : ℕ) → p < 64 * end → among tops p ≡ among (drop passed tops) p
  pub small : 64 * end ≤ 2 ^ 32

-- of the blocks ahead only those below e may hold a member
pub record Reached (S : Set) (tops : List ℕ) (passed end e : ℕ) : Type 0 where
  pub within : e ≤ end
  pub empty : Empty S (64 * e) (64 * end)
  pub ahead : Ahead tops passed e

-- e is at most `end`, and no block from e up to `end` is one of the n blocks from the number `first` on
pub record Bounded (first n end e : ℕ) : Type 0 where
  pub within : e ≤ end
  pub past : (i : ℕ) → e ≤ i → i < end → (i < first) ⊎ (first + n ≤ i)

-- while the entries of the block i are joined to it: `at` entries are done, and the others have what the block still lacks
pub record Merging (S : Set) (tops : List ℕ) (i at block : ℕ) : Type 0 where
  pub fits : block < 2 ^ 64
  pub some : at ≤ length tops
  pub small : 64 * i ≤ 2 ^ 32
  pub falling : Falls (64 * suc i) (drop at tops)
  pub rest : (p : ℕ) → p < 64 * i → among tops p ≡ among (drop at tops) p
  pub are : (j : ℕ) → j < 64 → S (64 * i + j) ≡ (digit block j || among (drop at tops) (64 * i + j))

-- the block of the number i, and a cursor past it
pub record Passed (S : Set) (tops : List ℕ) (i block passed : ℕ) : Type 0 where
  pub is : block ≡ block_at S i
  pub ahead : Ahead tops passed i

-- what a step gives that has the blocks below `end` ahead: a block and the cursor past it, whose `end` is the block's number, with
-- nothing between; or nothing is left
abbrev pub Next : Set → List ℕ → ℕ → Option (ℕ × Cursor) → Type 0
Next S tops end r =
    MatchOption r (Empty S 0 (64 * end)) (λ x.
    (x.1.end < end) × Empty S (64 * suc x.1.end) (64 * end) × Passed S tops x.1.end x.0 x.1.passed)
