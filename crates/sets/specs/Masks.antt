-- 01, "Masks, order, key".
use Rattle.std.specs.Prelude.{Bool, true, false, cond, ◌&&◌, List, [], ◌∷◌, ℕ, zero, suc, ◌+◌, ◌-◌, ◌*◌, ◌/◌, ◌%◌, ◌^◌, leb, ltb, length, get_or, take, drop}
use Rattle.sets.specs.Sets.{Set, apart, members, all_below}
use Rattle.sets.specs.Words.{digit}
use Rattle.sets.specs.Configurations.{Config, W, position_bits, whole_slots, leftover_bits}
use Rattle.std.specs.declared.cmp.Ordering.{Ordering}
use Rattle.std.specs.declared.cmp.Ordering.TheVariants.{Less, Equal, Greater}

-- the mask's digits, laid end to end over all buckets
abbrev pub laid : ℕ → ℕ → Set
laid mask size p = digit mask (p % size)

-- 01: "Bucket p is kept when bit p mod size of the mask is set. Mask 0 keeps none."
abbrev pub kept : ℕ → ℕ → Set → Set
kept mask size S p = laid mask size p && S p

-- 01, refusal 6: "mask size is not 1 to 63"; the largest size stands here alone
abbrev pub largest_mask_size : ℕ
largest_mask_size = 63

abbrev pub size_fits : ℕ → Bool
size_fits size = leb 1 size && leb size largest_mask_size

-- 01, refusal 7: "a mask bit at or above the size is set"
abbrev pub mask_fits : ℕ → ℕ → Bool
mask_fits mask size = ltb mask (2 ^ size)

-- ---- order

-- 01: "take the largest kept bucket held by exactly one filter; its holder is greater. With none they are equal."
abbrev pub holder : Set → List ℕ → Ordering
holder S [] = Equal
holder S (p ∷ ps) = cond (S p) Greater Less

unfoldable pub order_of : ℕ → ℕ → ℕ → Set → Set → Ordering
order_of n mask size S T = holder S (members (kept mask size (apart S T)) n)

-- ---- key

-- 01: "kept buckets from largest down, each in position-bits bits, first slot highest, 64/position bits whole slots; the leftover
-- low bits hold the high bits of one more bucket. Where the kept buckets have run out, the slot holds 0."
unfoldable pub packed : ℕ → ℕ → ℕ → List ℕ → ℕ
packed bits leftover zero ps = get_or ps 0 0 / 2 ^ (bits - leftover)
packed bits leftover (suc slots) ps = get_or ps 0 0 * 2 ^ (slots * bits + leftover) + packed bits leftover slots (drop 1 ps)

unfoldable pub key_of : Config → ℕ → ℕ → Set → ℕ
key_of c mask size S = packed (position_bits c) (leftover_bits c) (whole_slots c) (members (kept mask size S) (W c))

-- 01, refusal 10: "a bucket does not fit its key slot"
unfoldable pub slots_fit : Config → ℕ → ℕ → Set → Bool
slots_fit c mask size S = all_below (2 ^ position_bits c) (take (suc (whole_slots c)) (members (kept mask size S) (W c)))

-- ---- greater row, row reader

-- 01: "of two lent rows it returns the greater one itself, the first if equal"
abbrev pub first_wins : Ordering → Bool
first_wins Less = false
first_wins Equal = true
first_wins Greater = true

-- 01: "gives the buckets from largest to smallest, each once"; "The place is the number of buckets already given; at or past the
-- set's size a step tells the end and the place stays."
pub data Given : Type 0 where
  bucket : ℕ → Given
  end : Given

abbrev pub given_at : List ℕ → ℕ → Given
given_at [] place = end
given_at (p ∷ ps) zero = bucket p
given_at (p ∷ ps) (suc place) = given_at ps place

abbrev pub given : ℕ → Set → ℕ → Given
given n S place = given_at (members S n) place

abbrev pub place_after : ℕ → Set → ℕ → ℕ
place_after n S place = cond (ltb place (length (members S n))) (suc place) place
