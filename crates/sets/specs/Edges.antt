-- 01, "Both sides of each edge (configuration 7; P: proved)": the cases as tables, and one test over each.
use Rattle.std.specs.Prelude.{Bool, true, false, not, ◌&&◌, List, [], ◌∷◌, ◌++◌, ℕ, zero, suc, ◌+◌, ◌%◌, eqb, length, get_or, take, drop, replicate}
use Prim.Native.String.{String}
use Rattle.sets.specs.Sets.{Set, none, differ, flips, members, same}
use Rattle.sets.specs.Configurations.{
  Config,
  seven,
  ten,
  thirteen,
  W,
  blocks,
  position_bits,
  window_blocks,
  longest_row,
  whole_slots,
  leftover_bits,
}
use Rattle.sets.specs.Filter.{boundary, is_builder, exact_count_at, limited_count_at, limited_bound_at}
use Rattle.sets.specs.Masks.{kept, order_of, packed, key_of}
use Rattle.sets.specs.Row.{little, bytes_of, row, shown_row, Fault, nowhere, place, fall_fault, count_fault, spare_fault, high_fault}
use Rattle.sets.specs.Refusals.{Verdict, taken, refused, verdict, are_buckets, is_mask, is_row_of}
use Rattle.sets.specs.Text.{text, order_word, overlap, compare_text}
use Rattle.std.specs.declared.cmp.Ordering.{Ordering}
use Rattle.std.specs.declared.cmp.Ordering.TheVariants.{Less, Equal, Greater}

-- the set of the buckets toggled, from the empty filter
abbrev pub flipped : List ℕ → Set
flipped list = flips list none

-- n buckets from `last` up, listed from the largest down
unfoldable pub down : ℕ → ℕ → List ℕ
down zero last = []
down (suc n) last = (last + n) ∷ down n last

-- 0 where taken
abbrev pub refused_by : Verdict → ℕ
refused_by taken = 0
refused_by (refused k) = k.number

abbrev pub places_of : Fault → List ℕ
places_of nowhere = []
places_of (place b) = b ∷ []

pub data Case : Type 0 where
  -- W, blocks, position bits, window blocks, longest row, whole key slots, leftover key bits
  figures_are : (c : Config) (figures : List ℕ) → Case
  -- toggled from the empty filter, these buckets have this row
  has_row : (toggled bytes : List ℕ) → Case
  -- the row is accepted, and these are the members of its set
  shows : (bytes members : List ℕ) → Case
  -- the row is refused with this number
  refuses_row : (bytes : List ℕ) (number : ℕ) → Case
  -- where the four tests of refusal 5 find their faults, in their order
  faults_at : (bytes places : List ℕ) → Case
  -- these buckets have a row of this length, this boundary, this spare byte and this lowest block
  bit_part_is : (toggled : List ℕ) (length boundary spare block : ℕ) → Case
  -- the list to toggle is refused with this number, 0 for taken
  refuses_list : (list : List ℕ) (number : ℕ) → Case
  exact_is : (toggled : List ℕ) (count : ℕ) → Case
  limited_is : (toggled : List ℕ) (count bound : ℕ) → Case
  -- of a filter that holds all buckets the mask keeps this one, or drops it
  keeps : (mask size bucket : ℕ) (answer : Bool) → Case
  refuses_mask : (mask size number : ℕ) → Case
  key_is : (toggled : List ℕ) (mask size key : ℕ) → Case
  key_low_byte_is : (toggled : List ℕ) (mask size byte : ℕ) → Case
  -- the key of these kept buckets
  packs : (c : Config) (kept : List ℕ) (key : ℕ) → Case
  order_is : (first second : List ℕ) (mask size : ℕ) (answer : Ordering) → Case
  -- with zeros behind these first cells, a builder is sound, or not
  is_builder_is : (pending blocks : List ℕ) (count split : ℕ) (answer : Bool) → Case
  overlap_is : (first second difference answer : ℕ) → Case
  prints : (input output : String) → Case
  -- so many newlines and nothing else
  prints_blank : (newlines : ℕ) (output : String) → Case

unfoldable pub holds : Case → Bool
holds (figures_are c figures) =
    same
    (W c ∷ blocks c ∷ position_bits c ∷ window_blocks c ∷ longest_row c ∷ whole_slots c ∷ leftover_bits c ∷ [])
    figures
holds (has_row toggled bytes) = same (row seven (flipped toggled)) bytes
holds (shows bytes ps) =
    eqb (refused_by (verdict (is_row_of seven bytes))) 0 && same (members (shown_row seven bytes) (W seven)) ps
holds (refuses_row bytes number) = eqb (refused_by (verdict (is_row_of seven bytes))) number
holds (faults_at bytes places) =
    same
    (places_of (fall_fault seven bytes)
    ++ places_of (count_fault seven bytes)
    ++ places_of (spare_fault seven bytes)
    ++ places_of (high_fault seven bytes))
    places
holds (bit_part_is toggled long edge spare block) =
    let bytes = row seven (flipped toggled) in
    eqb (length bytes) long
    && (eqb (boundary 12 8320 (flipped toggled)) edge && (eqb (get_or bytes 24 0) spare && eqb (little (take 8 (drop 25 bytes))) block))
holds (refuses_list list number) = eqb (refused_by (verdict (are_buckets seven list ∷ []))) number
holds (exact_is toggled count) = eqb (exact_count_at seven (flipped toggled)) count
holds (limited_is toggled count bound) =
    eqb (limited_count_at seven (flipped toggled)) count && eqb (limited_bound_at seven (flipped toggled)) bound
holds (keeps mask size bucket answer) = not (differ (kept mask size (λ p. true) bucket) answer)
holds (refuses_mask mask size number) = eqb (refused_by (verdict (is_mask mask size))) number
holds (key_is toggled mask size key) = eqb (key_of seven mask size (flipped toggled)) key
holds (key_low_byte_is toggled mask size byte) = eqb (key_of seven mask size (flipped toggled) % 256) byte
holds (packs c ps key) = eqb (packed (position_bits c) (leftover_bits c) (whole_slots c) ps) key
holds (order_is first second mask size answer) =
    same (order_word (order_of (W seven) mask size (flipped first) (flipped second))) (order_word answer)
holds (is_builder_is pending bits count split answer) =
    not (differ (is_builder 12 8320 (pending ++ replicate 24 0) (bits ++ replicate 130 0) count split) answer)
holds (overlap_is a b d answer) = eqb (overlap a b d) answer
holds (prints input output) = same (compare_text (text input)) (text output)
holds (prints_blank newlines output) = same (compare_text (replicate newlines 10)) (text output)

unfoldable pub each : List Case → Bool
each [] = true
each (c ∷ cs) = holds c && each cs

-- the columns of 01's table that are computed, and the key's slots ("Configuration 7: four slots, then .. 8 bits")
unfoldable pub figures : List Case
figures =
    figures_are seven (8320 ∷ 130 ∷ 14 ∷ 11 ∷ 1065 ∷ 4 ∷ 8 ∷ [])
    ∷ figures_are ten (66560 ∷ 1040 ∷ 17 ∷ 80 ∷ 8569 ∷ 3 ∷ 13 ∷ [])
    ∷ figures_are thirteen (532480 ∷ 8320 ∷ 20 ∷ 700 ∷ 68049 ∷ 3 ∷ 4 ∷ [])
    ∷ []

-- the cases that 01 marks P, in its words, and the few on their lines that it does not mark
unfoldable pub cases : List Case
cases =
    -- P empty row: empty set. P toggling 5 twice: empty.
    shows [] []
    ∷ has_row (5 ∷ 5 ∷ []) []
    -- P buckets 11..0: 24 bytes, accepted. P 12..1 in 24 bytes: refused 5; with spare byte 63 and one zero block, 33 bytes: accepted.
    ∷ has_row (down 12 0) (bytes_of 2 (down 12 0))
    ∷ shows (bytes_of 2 (down 12 0)) (down 12 0)
    ∷ refuses_row (bytes_of 2 (down 12 1)) 5
    ∷ shows (bytes_of 2 (down 12 1) ++ 63 ∷ replicate 8 0) (down 12 1)
    -- P from 12..1, toggle 13: boundary 2, block 2, spare byte 62. P toggle 13 again: 12..1.
    ∷ bit_part_is (down 12 1 ++ 13 ∷ []) 33 2 62 2
    ∷ has_row (down 12 1 ++ 13 ∷ 13 ∷ []) (bytes_of 2 (down 12 1) ++ 63 ∷ replicate 8 0)
    -- P boundary 64: spare 0, one block; 65: spare 63, two.
    ∷ bit_part_is (down 12 64) 33 64 0 0
    ∷ bit_part_is (down 12 65) 41 65 63 0
    -- P bucket 8,319 toggled; 8,320 refused 2.
    ∷ refuses_list (8319 ∷ []) 0
    ∷ has_row (8319 ∷ []) (127 ∷ 32 ∷ [])
    ∷ refuses_list (8320 ∷ []) 2
    -- P buckets 8,308 to 8,319 with 7,616: limited 13, bound 7,616. P with 7,615 instead: 12, bound 0.
    ∷ limited_is (down 12 8308 ++ 7616 ∷ []) 13 7616
    ∷ limited_is (down 12 8308 ++ 7615 ∷ []) 12 0
    -- P mask 5 size 3 keeps 63 and 65, drops 64. Mask 8 size 3: refused 7. Size 63 taken, 0 and 64 refused 6.
    ∷ keeps 5 3 63 true
    ∷ keeps 5 3 65 true
    ∷ keeps 5 3 64 false
    ∷ refuses_mask 8 3 7
    ∷ refuses_mask 1 63 0
    ∷ refuses_mask 0 0 6
    ∷ refuses_mask 0 64 6
    -- P {400,300,200,100,64} under mask 1 size 1: key's low byte 1; with 63 for 64 it is 0.
    ∷ key_low_byte_is (400 ∷ 300 ∷ 200 ∷ 100 ∷ 64 ∷ []) 1 1 1
    ∷ key_low_byte_is (400 ∷ 300 ∷ 200 ∷ 100 ∷ 63 ∷ []) 1 1 0
    ∷ []

-- cases of our own, for traps that those do not see
unfoldable pub traps : List Case
traps =
    -- the window hangs on the last top entry, not on the highest bucket
    limited_is (8319 ∷ down 11 2 ++ 0 ∷ []) 13 0
    -- where the bound is 0 the limited count may be below the exact one: 12 in P's case
    ∷ exact_is (down 12 8308 ++ 7615 ∷ []) 13
    -- a zero slot proves nothing: {5} and {5, 0} share a key, and the order tells them apart
    ∷ key_is (5 ∷ []) 1 1 5629499534213120
    ∷ key_is (5 ∷ 0 ∷ []) 1 1 5629499534213120
    ∷ order_is (5 ∷ []) (5 ∷ 0 ∷ []) 1 1 Less
    -- the other two widths of a slot
    ∷ packs ten (66559 ∷ 5 ∷ 4 ∷ 66559 ∷ []) 9367346492811022399
    ∷ packs thirteen (532479 ∷ 5 ∷ 4 ∷ 532479 ∷ []) 9367469632828473416
    -- only what the mask keeps is ordered, and its difference decides
    ∷ order_is (3 ∷ []) (2 ∷ []) 1 2 Less
    ∷ order_is (3 ∷ 2 ∷ []) (3 ∷ []) 1 2 Greater
    ∷ order_is (3 ∷ []) [] 1 2 Equal
    -- lengths: half an entry, a spare byte alone, a block cut, the longest row and a block more
    ∷ refuses_row (replicate 1 0) 4
    ∷ refuses_row (replicate 25 0) 4
    ∷ refuses_row (replicate 32 0) 4
    ∷ refuses_row (replicate 26 0) 4
    ∷ refuses_row (replicate 1065 0) 5
    ∷ refuses_row (replicate 1073 0) 4
    ∷ bit_part_is (down 12 8308) 1065 8308 12 0
    -- 2 looks at all entries before 5 looks at any
    ∷ refuses_row (bytes_of 2 (8320 ∷ [])) 2
    ∷ refuses_row (bytes_of 2 (5 ∷ 6 ∷ 65535 ∷ [])) 2
    -- entries that do not fall: the place of the first that is not below the one before
    ∷ refuses_row (bytes_of 2 (5 ∷ 6 ∷ [])) 5
    ∷ faults_at (bytes_of 2 (9 ∷ 5 ∷ 6 ∷ 6 ∷ [])) (4 ∷ [])
    ∷ faults_at (bytes_of 2 (5 ∷ 5 ∷ [])) (2 ∷ [])
    -- too few blocks, too many, a bit part where the list ends in bucket 0
    ∷ faults_at (bytes_of 2 (down 12 1)) (24 ∷ 24 ∷ [])
    ∷ faults_at (bytes_of 2 (down 12 1) ++ 63 ∷ replicate 16 0) (24 ∷ [])
    ∷ faults_at (bytes_of 2 (down 12 0) ++ 63 ∷ replicate 8 0) (24 ∷ [])
    -- the spare byte, one off and far off
    ∷ faults_at (bytes_of 2 (down 12 1) ++ 62 ∷ replicate 8 0) (24 ∷ [])
    ∷ faults_at (bytes_of 2 (down 12 1) ++ 127 ∷ replicate 8 0) (24 ∷ [])
    -- a bit at the boundary, one far above it, and one below it, which is a member
    ∷ faults_at (bytes_of 2 (down 12 1) ++ 63 ∷ 2 ∷ replicate 7 0) (25 ∷ [])
    ∷ faults_at (bytes_of 2 (down 12 1) ++ 63 ∷ replicate 6 0 ++ 1 ∷ 1 ∷ []) (31 ∷ [])
    ∷ shows (bytes_of 2 (down 12 1) ++ 63 ∷ 1 ∷ replicate 7 0) (down 13 0)
    -- a builder: full, over-full, split at W and above, a bit at the split, a bucket of W, a nonzero unused cell
    ∷ is_builder_is (replicate 24 8319) [] 24 8320 true
    ∷ is_builder_is (replicate 25 8319) [] 25 0 false
    ∷ is_builder_is [] [] 0 8321 false
    ∷ is_builder_is [] (0 ∷ 1 ∷ []) 0 65 true
    ∷ is_builder_is [] (0 ∷ 1 ∷ []) 0 64 false
    ∷ is_builder_is (8320 ∷ []) [] 1 0 false
    ∷ is_builder_is (1 ∷ 1 ∷ []) [] 1 0 false
    -- 01's example
    ∷ prints
    "config 7\nmask 1 1\n0500\n05000000\n"
    "config 7\nones 1 2\nlimited 1 0 2 0\ndifference 1 1 0\norder less\nkey 0014000000000000 0014000000000000\noverlap 666\n"
    -- the bare word means 7, whose entries have two bytes: the first row is taken, and the second is half an entry
    ∷ prints "config\nmask 1 1\n0500\n05\n" "refused 4 4\n"
    ∷ prints "config 10\nmask 1 1\n0500\n05\n" "refused 4 3\n"
    -- overlap of two empty sets, of equal ones, and rounded down
    ∷ overlap_is 0 0 0 0
    ∷ overlap_is 3 3 0 1000
    ∷ overlap_is 1 2 1 666
    -- the configuration is judged as text
    ∷ prints "config 07\n" "refused 1 1\n"
    ∷ prints "config 13\nmask 1 1\n\n\n" "refused 1 1\n"
    ∷ prints "config 100\n" "refused 11 1\n"
    ∷ prints "config \n" "refused 11 1\n"
    ∷ prints "config 7" "refused 11 1\n"
    ∷ prints "" "refused 11 1\n"
    -- decimals: a leading zero, 2^64 - 1, 2^64, and the size at its full width
    ∷ prints "config 10\nmask 01 1\n" "refused 11 2\n"
    ∷ prints "config 10\nmask 18446744073709551615 63\n" "refused 7 2\n"
    ∷ prints "config 10\nmask 18446744073709551616 63\n" "refused 11 2\n"
    ∷ prints "config 10\nmask 0 18446744073709551615\n" "refused 6 2\n"
    ∷ prints "config 10\nmask 1  1\n" "refused 11 2\n"
    ∷ prints "config 10\n" "refused 11 2\n"
    -- rows: an odd count of digits, a capital, a missing newline; the cut row; bytes after line four
    ∷ prints "config 7\nmask 1 1\n050\n\n" "refused 11 3\n"
    ∷ prints "config 7\nmask 1 1\n0A00\n\n" "refused 11 3\n"
    ∷ prints "config 7\nmask 1 1\n\n0500" "refused 11 4\n"
    ∷ prints "config 7\nmask 1 1\n\n0c000b000a00090008000700060005000400030002000100\nx" "refused 5 4\n"
    ∷ prints "config 7\nmask 1 1\n\n\n\n" "refused 11 5\n"
    -- 40,000 bytes are judged, and one more is not
    ∷ prints_blank 40000 "refused 11 1\n"
    ∷ prints_blank 40001 "refused 11 0\n"
    ∷ []
