-- What the inner functions find, and the answers that tell it.
use Rattle.std.specs.Prelude.{◌≡◌, cond, List, ℕ, suc, ◌*◌, ◌/◌, ◌%◌, ◌^◌, ◌<◌, ltb, take, Option, Some, None, MatchOption, Result, Ok, Err}
use Rattle.std.specs.Int.Bits.{bit_and, bit_xor}
use Rattle.sets.specs.Sets.{Empty, Set, all_below, apart}
use Rattle.sets.specs.Words.{block_at}
use Rattle.sets.specs.Masks.{kept, packed}
use Rattle.sets.specs.Refusals.{Verdict, answer, because, slot}
use Rattle.sizes.specs.Sizes.{refusal}
use Rattle.sizes.specs.declared.Refusal.{Refusal}
use Rattle.std.specs.declared.cmp.Ordering.{Ordering}
use Rattle.std.specs.declared.cmp.Ordering.TheVariants.{Less, Equal, Greater}

-- of the k blocks the one of this number is the highest in which the mask keeps a difference
pub record DecidesAt (mask size : ℕ) (S R : Set) (k keeps first : ℕ) : Type 0 where
  pub index : ℕ
  pub under : index < k
  pub gap : Empty (kept mask size (apart S R)) (64 * suc index) (64 * k)
  pub some : 0 < keeps
  pub is : keeps ≡ block_at (kept mask size (apart S R)) index
  pub first_is : first ≡ block_at S index

abbrev pub Decides : ℕ → ℕ → Set → Set → ℕ → Option (ℕ × ℕ) → Type 0
Decides mask size S R k r =
    MatchOption r (Empty (kept mask size (apart S R)) 0 (64 * k)) (λ x. DecidesAt mask size S R k x.0 x.1)

-- The order that a deciding block tells. Of what the mask keeps there, each bucket is held by the first set or by the second; the
-- part with the highest bucket is the larger number.
unfoldable pub order_by : ℕ → ℕ → Ordering
order_by keeps first = cond (ltb (bit_xor keeps (bit_and keeps first)) (bit_and keeps first)) Greater Less

abbrev pub decided : Option (ℕ × ℕ) → Ordering
decided (Some x) = order_by x.0 x.1
decided None = Equal

-- the order, or the refusal of the first test that fails
abbrev pub order_answer : Verdict → Ordering → Result Ordering Refusal
order_answer v o = answer v (λ r. Err (refusal r)) (Ok o)

-- the key of the kept buckets ps, with so many bits to a slot; or one of those that the key looks at does not fit
unfoldable pub key_told : ℕ → List ℕ → Result ℕ Refusal
key_told bits ps =
    cond (all_below (2 ^ bits) (take (suc (64 / bits)) ps)) (Ok (packed bits (64 % bits) (64 / bits) ps)) (Err (refusal (because slot)))
