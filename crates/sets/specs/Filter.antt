-- 01, "The filter of a set". Of a set of the buckets below n that keeps m of them in its top list; then by configuration.
use Rattle.std.specs.Prelude.{Bool, cond, ◌&&◌, ◌||◌, List, [], ◌∷◌, ◌++◌, ◌≡◌, ℕ, ◌-◌, ◌+◌, ◌*◌, min, eqb, leb, length, get_or, take, drop, replicate}
use Rattle.sets.specs.Sets.{Set, flips, below, onward, members, among, all_below, same, tabulate}
use Rattle.sets.specs.Words.{block_at, held}
use Rattle.sets.specs.Configurations.{Config, W, blocks, window_blocks, blocks_for}

-- 01: "Top list: the largest members, M of them or all if S has fewer, strictly falling."
abbrev pub top_list : ℕ → ℕ → Set → List ℕ
top_list m n S = take m (members S n)

abbrev pub top_count : ℕ → ℕ → Set → ℕ
top_count m n S = min m (length (members S n))

-- 01: "Boundary: the smallest top entry if the list holds M, otherwise 0."
abbrev pub boundary : ℕ → ℕ → Set → ℕ
boundary m n S = get_or (members S n) (m - 1) 0

-- 01: "Bit p mod 64 of block p/64 is set exactly when p is below the boundary and in S; every other bit is clear."
abbrev pub bits_of : ℕ → ℕ → Set → Set
bits_of m n S = below (boundary m n S) S

-- 01: "A record (configuration, top count, boundary) goes with two lent areas: the first M top entries and the first W/64 blocks.
-- Unused cells of an area are zero."
unfoldable pub top_cells : ℕ → ℕ → Set → List ℕ
top_cells m n S = tabulate m (λ i. get_or (members S n) i 0)

unfoldable pub bit_cells : ℕ → ℕ → ℕ → Set → List ℕ
bit_cells m n k S = tabulate k (block_at (bits_of m n S))

-- 01: "Cells past an area are never written." The area holds these cells, and what stands past it is as it was.
abbrev pub filled : List ℕ → ℕ → List ℕ → List ℕ
filled cells n old = cells ++ drop n old

-- The cells, the blocks and the record's two numbers in memory are those of the filter of S: m top cells, k blocks.
pub record Holds (m k : ℕ) (top blocks : List ℕ) (count edge : ℕ) (S : Set) : Type 0 where
  pub count_is : count ≡ top_count m (64 * k) S
  pub edge_is : edge ≡ boundary m (64 * k) S
  pub tops : take m top ≡ top_cells m (64 * k) S
  pub bits : take k blocks ≡ bit_cells m (64 * k) k S

-- ---- what record and areas show

-- the buckets listed, and those of R below the edge
abbrev pub joined : List ℕ → ℕ → Set → Set
joined ps edge R p = among ps p || below edge R p

-- p stands in the first `count` top cells, or is below the boundary and its bit is set
abbrev pub shown : List ℕ → List ℕ → ℕ → ℕ → Set
shown top blocks count edge = joined (take count top) edge (held blocks)

-- 01, refusal 8: "record and areas are no set's filter". They are some set's exactly where they are that of the set that they show.
unfoldable pub is_filter_of : ℕ → ℕ → List ℕ → List ℕ → ℕ → ℕ → Set → Bool
is_filter_of m k top blocks count edge S =
    eqb count (top_count m (64 * k) S)
    && (eqb edge (boundary m (64 * k) S)
    && (same (take m top) (top_cells m (64 * k) S)
    && same (take k blocks) (bit_cells m (64 * k) k S)))

unfoldable pub is_filter : ℕ → ℕ → List ℕ → List ℕ → ℕ → ℕ → Bool
is_filter m k top blocks count edge = is_filter_of m k top blocks count edge (shown top blocks count edge)

-- ---- counts

-- 01: "Exact count: the size of S."
abbrev pub exact_count : ℕ → Set → ℕ
exact_count n S = length (members S n)

-- 01: "let low be the top list's last entry (0 if none), divided by 64 and rounded up, less the window blocks, not below 0."
abbrev pub last_entry : ℕ → ℕ → Set → ℕ
last_entry m n S = get_or (top_list m n S) (top_count m n S - 1) 0

unfoldable pub low : ℕ → ℕ → ℕ → Set → ℕ
low m n window S = blocks_for (last_entry m n S) - window

-- 01: "The count is the top count plus the set bits in blocks low and up."
unfoldable pub limited_count : ℕ → ℕ → ℕ → Set → ℕ
limited_count m n window S = top_count m n S + length (members (onward (64 * low m n window S) (bits_of m n S)) n)

-- 01: "If that is at most M the bound is 0, otherwise 64·low."
unfoldable pub limited_bound : ℕ → ℕ → ℕ → Set → ℕ
limited_bound m n window S = cond (leb (limited_count m n window S) m) 0 (64 * low m n window S)

-- ---- the builder

-- 01: "Builder: a starting split from 0 to W, pending buckets (area of 2M), bits below the split. Pushing a list flips like toggling".
-- Its set: the buckets pending flip the set that the bits hold, so that doubles cancel. Ask it below W: a slice may be
-- longer than its area.
abbrev pub builder_set : List ℕ → List ℕ → ℕ → Set
builder_set pending bits count = flips (take count pending) (held bits)

-- 01, refusal 8: "the builder has over 2M pending, a pending bucket of W or more, split above W, a bit at or above the split,
-- or a nonzero unused cell"
unfoldable pub is_builder : ℕ → ℕ → List ℕ → List ℕ → ℕ → ℕ → Bool
is_builder m n pending bits count split =
    leb count (2 * m)
    && (all_below n (take count pending)
    && (leb split n
    && (eqb (length (members (onward split (held bits)) n)) 0
    && all_below 1 (drop count (take (2 * m) pending)))))

-- 01: "the split rises by 2^B, never past W": by any number of levels, and to W where less than the last is left
abbrev pub Rises : ℕ → ℕ → ℕ → ℕ → Type 0
Rises level limit from to = (t : ℕ) × (to ≡ min limit (from + t * level))

-- how many of the buckets listed are at or above a split
abbrev pub at_or_above : ℕ → List ℕ → ℕ
at_or_above split [] = 0
at_or_above split (b ∷ bs) = cond (leb split b) 1 0 + at_or_above split bs

-- 01: "Making the empty filter, or a builder, zeroes its areas." A slice lent for an area of n cells, once that is zeroed
abbrev pub cleared : ℕ → List ℕ → List ℕ
cleared n old = filled (replicate n 0) n old

pub record BuilderRecord : Type 0 where
  pub config : ℕ
  pub split : ℕ
  pub count : ℕ

-- ---- by configuration

pub record FilterRecord : Type 0 where
  pub config : ℕ
  pub count : ℕ
  pub boundary : ℕ

unfoldable pub record_of : Config → Set → FilterRecord
record_of c S = record { config = c.number; count = top_count c.M (W c) S; boundary = boundary c.M (W c) S }

abbrev pub top_area : Config → Set → List ℕ
top_area c S = top_cells c.M (W c) S

abbrev pub bit_area : Config → Set → List ℕ
bit_area c S = bit_cells c.M (W c) (blocks c) S

-- a slice lent for an area, once the area in it is that of S
abbrev pub top_slice : Config → Set → List ℕ → List ℕ
top_slice c S old = filled (top_area c S) c.M old

abbrev pub bit_slice : Config → Set → List ℕ → List ℕ
bit_slice c S old = filled (bit_area c S) (blocks c) old

-- 01: "For two filters it is that of their symmetric difference": ask it of `apart S T`.
abbrev pub exact_count_at : Config → Set → ℕ
exact_count_at c S = exact_count (W c) S

abbrev pub limited_count_at : Config → Set → ℕ
limited_count_at c S = limited_count c.M (W c) (window_blocks c) S

abbrev pub limited_bound_at : Config → Set → ℕ
limited_bound_at c S = limited_bound c.M (W c) (window_blocks c) S
