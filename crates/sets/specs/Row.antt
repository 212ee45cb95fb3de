-- 01, "The row in bytes".
use Rattle.std.specs.Prelude.{Bool, true, false, cond, ◌&&◌, ◌||◌, List, [], ◌∷◌, ◌++◌, ℕ, zero, suc, ◌+◌, ◌-◌, ◌*◌, ◌/◌, ◌%◌, min, eqb, ltb, leb, length, get_or, take, drop}
use Rattle.sets.specs.Sets.{Set, members, below, onward, all_below, tabulate}
use Rattle.sets.specs.Words.{block_at, held}
use Rattle.sets.specs.Configurations.{Config, W, blocks_for, longest_row}
use Rattle.sets.specs.Filter.{top_list, boundary, shown}

-- the bytes of a number, lowest first, and the number that bytes tell
abbrev pub bytes : ℕ → ℕ → List ℕ
bytes zero v = []
bytes (suc width) v = v % 256 ∷ bytes width (v / 256)

abbrev pub little : List ℕ → ℕ
little [] = 0
little (b ∷ bs) = b + 256 * little bs

-- the same of several numbers, one after the other
abbrev pub bytes_of : ℕ → List ℕ → List ℕ
bytes_of width [] = []
bytes_of width (v ∷ vs) = bytes width v ++ bytes_of width vs

abbrev pub numbers : ℕ → ℕ → List ℕ → List ℕ
numbers width zero bs = []
numbers width (suc n) bs = little (take width bs) ∷ numbers width n (drop width bs)

-- ---- the row of a set

-- 01: "If the boundary is above 0: one spare byte, 63 - ((boundary - 1) mod 64), then the blocks, lowest first, 8 bytes
-- little-endian each."
abbrev pub spare_byte : ℕ → ℕ
spare_byte edge = 63 - (edge - 1) % 64

unfoldable pub bit_part : ℕ → Set → List ℕ
bit_part edge S = cond (eqb edge 0) [] (spare_byte edge ∷ bytes_of 8 (tabulate (blocks_for edge) (block_at (below edge S))))

-- 01: "Top entries, little-endian, 2 or 4 bytes.", then the bit part. "The empty set has an empty row. A full list ending in bucket 0
-- has no bit part."
unfoldable pub row : Config → Set → List ℕ
row c S = bytes_of c.entry (top_list c.M (W c) S) ++ bit_part (boundary c.M (W c) S) S

-- ---- what a row shows

-- where the bit part begins, or would
abbrev pub top_bytes : Config → ℕ
top_bytes c = c.M * c.entry

-- a row's top entries are its first M, or all if fewer
unfoldable pub row_entries : Config → List ℕ → List ℕ
row_entries c bs = numbers c.entry (min c.M (length bs / c.entry)) bs

abbrev pub row_boundary : Config → List ℕ → ℕ
row_boundary c bs = get_or (row_entries c bs) (c.M - 1) 0

abbrev pub row_block_count : Config → List ℕ → ℕ
row_block_count c bs = (length bs - (top_bytes c + 1)) / 8

unfoldable pub row_blocks : Config → List ℕ → List ℕ
row_blocks c bs = numbers 8 (row_block_count c bs) (drop (top_bytes c + 1) bs)

unfoldable pub shown_row : Config → List ℕ → Set
shown_row c bs = shown (row_entries c bs) (row_blocks c bs) (length (row_entries c bs)) (row_boundary c bs)

-- ---- which row no set has

-- 01, refusal 4: "row length is above the longest, or neither a multiple of the entry size up to M entries, nor M entries + 1 + 8k
-- with k at least 1"
unfoldable pub length_fits : Config → List ℕ → Bool
length_fits c bs =
    leb (length bs) (longest_row c)
    && ((eqb (length bs % c.entry) 0 && leb (length bs) (top_bytes c))
    || (leb (top_bytes c + 9) (length bs) && eqb ((length bs - (top_bytes c + 1)) % 8) 0))

-- 01, refusal 2: "a row's top entry is W or more"
unfoldable pub entries_fit : Config → List ℕ → Bool
entries_fit c bs = all_below (W c) (row_entries c bs)

-- 01, refusal 5: "another reason why no set has this row". Four tests, in this order; each finds no fault, or the place of its byte.
pub data Fault : Type 0 where
  nowhere : Fault
  place : ℕ → Fault

abbrev pub sound : Fault → Bool
sound nowhere = true
sound (place b) = false

abbrev pub place_of : Fault → ℕ
place_of nowhere = 0
place_of (place b) = b

-- the top entries fall: the place of the first that is not below the one before (2 has passed, so the first is below W)
abbrev pub rising : ℕ → ℕ → ℕ → List ℕ → Fault
rising width at before [] = nowhere
rising width at before (x ∷ xs) = cond (ltb x before) (rising width (at + width) x xs) (place at)

unfoldable pub fall_fault : Config → List ℕ → Fault
fall_fault c bs = rising c.entry 0 (W c) (row_entries c bs)

-- as many blocks as the boundary needs: where the bit part begins, or would
unfoldable pub count_fault : Config → List ℕ → Fault
count_fault c bs = cond (eqb (row_block_count c bs) (blocks_for (row_boundary c bs))) nowhere (place (top_bytes c))

-- the spare byte
unfoldable pub spare_fault : Config → List ℕ → Fault
spare_fault c bs =
    cond (eqb (row_boundary c bs) 0 || eqb (get_or bs (top_bytes c) 0) (spare_byte (row_boundary c bs))) nowhere (place (top_bytes c))

-- no bit at or above the boundary: the byte of the lowest
abbrev pub lowest : ℕ → List ℕ → Fault
lowest at [] = nowhere
lowest at (p ∷ []) = place (at + p / 8)
lowest at (p ∷ q ∷ ps) = lowest at (q ∷ ps)

unfoldable pub high_fault : Config → List ℕ → Fault
high_fault c bs =
    lowest (top_bytes c + 1) (members (onward (row_boundary c bs) (held (row_blocks c bs))) (64 * row_block_count c bs))

abbrev pub faultless : Config → List ℕ → Bool
faultless c bs = sound (fall_fault c bs) && (sound (count_fault c bs) && (sound (spare_fault c bs) && sound (high_fault c bs)))

-- 01: "Reading accepts exactly the rows of sets"
unfoldable pub is_row : Config → List ℕ → Bool
is_row c bs = length_fits c bs && (entries_fit c bs && faultless c bs)
