-- What fold and split leave.
use Rattle.std.specs.Prelude.{◌≡◌, List, ℕ, ◌*◌, ◌^◌, ◌≤◌, ◌<◌, length, take, drop}
use Rattle.sets.specs.Sets.{Set, Agree, below, members}
use Rattle.sets.specs.Words.{held}
use Rattle.sets.specs.Filter.{top_count, boundary, Holds}

-- the areas have room for m top cells and k blocks, whose buckets fit a u32
pub record Room (m k : ℕ) (top blocks : List ℕ) : Type 0 where
  pub some : 0 < m
  pub cells : m ≤ length top
  pub blocks_in : k ≤ length blocks
  pub small : 64 * k ≤ 2 ^ 32

-- the blocks hold the whole set of which areas and numbers were the filter; what stands past the area is as it was
pub record Folded (k : ℕ) (top : List ℕ) (count : ℕ) (blocks₀ blocks : List ℕ) : Type 0 where
  pub sets : (m edge : ℕ) (S : Set) → 0 < m → Holds m k top blocks₀ count edge S → Agree (64 * k) (held blocks) S
  pub bit_rest : drop k blocks ≡ drop k blocks₀

-- the largest members stand in the first r top cells, and the blocks have those below the boundary left
pub record Lifted (m k : ℕ) (top₀ blocks₀ top blocks : List ℕ) (r : ℕ) : Type 0 where
  pub count : r ≡ top_count m (64 * k) (held blocks₀)
  pub tops : take r top ≡ take r (members (held blocks₀) (64 * k))
  pub bits : Agree (64 * k) (held blocks) (below (boundary m (64 * k) (held blocks₀)) (held blocks₀))
  pub top_rest : drop m top ≡ drop m top₀
  pub bit_rest : drop k blocks ≡ drop k blocks₀
  pub top_length : length top ≡ length top₀
  pub bit_length : length blocks ≡ length blocks₀

-- in memory stands the filter of S; what stands past the areas is as it was
pub record Becomes (m k : ℕ) (S : Set) (top₀ blocks₀ top blocks : List ℕ) (count edge : ℕ) : Type 0 where
  pub holds : Holds m k top blocks count edge S
  pub top_rest : drop m top ≡ drop m top₀
  pub bit_rest : drop k blocks ≡ drop k blocks₀

-- that of the set that the blocks held
abbrev pub SplitOf : ℕ → ℕ → List ℕ → List ℕ → List ℕ → List ℕ → ℕ → ℕ → Type 0
SplitOf m k top₀ blocks₀ top blocks count edge = Becomes m k (held blocks₀) top₀ blocks₀ top blocks count edge
