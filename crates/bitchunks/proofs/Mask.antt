-- A mask laid over a block by doubling, what a laid block keeps, and the block turned to another block's number. Assumes nothing.
use mathlib.Core.Path.{◌≡◌, sym, ap, ap₂, ◌∙◌, fun_ext, subst}
use mathlib.Core.Bool.{false, ◌&&◌, ◌||◌, or-false, or_self}
use Prim.Native.Nat.{ℕ, ◌+◌, ◌-◌, ◌*◌, ◌/◌, ◌%◌, ◌^◌, ◌≤◌, ◌<◌, ◌∣◌}
use native.Mathlib.Nat.{add-mod-mod, dvd-mul_right_of_dvd, dvd_refl, lt_of_le_of_lt, lt_of_lt_of_le, mod-add-mod, mod-eq_of_lt}
use native.Mathlib.Nat.{mod-eq-zero_of_dvd, mod-lt, mod-mod}
use native.Mathlib.Decide.{dec_lt}
use native.Mathlib.Omega.{arith}
use lib.Pow.{pow_mono, pow_pos, shr_le}
use lib.Bits.{bit_or, or_lt}
use Rattle.sets.specs.Sets.{Set}
use Rattle.sets.specs.Words.{block_at, digit}
use Rattle.sets.specs.Masks.{kept, laid, largest_mask_size}
use Rattle.sets.proofs.Words.{digit_or, digit_past, digit_shift, digit_shl, digit_shl_clear, digits_same, word_lt}
use Rattle.sets.proofs.Masks.{laid_digit}
use Rattle.bitchunks.specs.Mask.{Laid}

-- ---- laid by doubling

-- the first i digits of a block are the mask's, over and over, and the rest are clear
pub record Laying (mask size i block : ℕ) : Type 0 where
  pub small : block < 2 ^ 64
  pub some : 0 < i
  pub whole : size ∣ i
  pub told : (j : ℕ) → j < i → j < 64 → digit block j ≡ laid mask size j
  pub clear : (j : ℕ) → i ≤ j → j < 64 → digit block j ≡ false

module _ (mask size : ℕ) where
  pub laying_start : 1 ≤ size → size ≤ largest_mask_size → mask < 2 ^ size → Laying mask size size mask
  laying_start some small fits =
      let room : size ≤ 64 = omega arith in
      record {
        small = lt_of_lt_of_le fits (pow_mono room);
        some = some;
        whole = dvd_refl size;
        told = λ j l h. ap (digit mask) (sym (mod-eq_of_lt l));
        clear = λ j l h. digit_past mask j (lt_of_lt_of_le fits (pow_mono l));
      }

  -- whole masks passed over change nothing
  laid_past : (i j : ℕ) → size ∣ i → i ≤ j → laid mask size (j - i) ≡ laid mask size j
  laid_past i j d l =
      let e : j - i + i ≡ j = omega arith in
      let z : j - i ≡ j - i + i % size = omega (arith, mod-eq-zero_of_dvd size d) in
      ap (laid mask size) z ∙ ap (digit mask) (add-mod-mod (j - i) i size) ∙ ap (laid mask size) e

  pub laying_turn : (i block : ℕ) → i < 64 → Laying mask size i block → Laying mask size (i * 2) (bit_or block (block * 2 ^ i % 2 ^ 64))
  laying_turn i block t v = record {
    small = or_lt 64 block next v.small (mod-lt (block * 2 ^ i) (pow_pos 64));
    some = omega arith;
    whole = dvd-mul_right_of_dvd size v.whole 2;
    told = λ j l h. digit_or block next j ∙ told j l h (dec_lt j i);
    clear =
        λ j l h. digit_or block next j
        ∙ ap₂ ◌||◌ (v.clear j (omega arith) h) (digit_shl block i j (omega arith) h ∙ v.clear (j - i) (omega arith) (omega arith));
  }
    where
      next : ℕ
      next = block * 2 ^ i % 2 ^ 64

      told : (j : ℕ) → j < i * 2 → j < 64 → Dec (j < i) → (digit block j || digit next j) ≡ laid mask size j
      told j l h (yes k) = ap₂ ◌||◌ (v.told j k h) (digit_shl_clear block i j k h) ∙ or-false (laid mask size j)
      told j l h (no k) =
          let m : i ≤ j = omega arith in
          ap₂ ◌||◌ (v.clear j m h) (digit_shl block i j m h ∙ v.told (j - i) (omega arith) (omega arith))
          ∙ laid_past i j v.whole m

  -- the digits of the first block
  laid_first : (j : ℕ) → j < 64 → digit (block_at (laid mask size) 0) j ≡ laid mask size j
  laid_first j h =
      let e : 64 * 0 + j ≡ j = omega arith in
      laid_digit mask size 0 j h ∙ ap (laid mask size) e

  pub laying_end : (i block : ℕ) → 64 ≤ i → Laying mask size i block → block ≡ block_at (laid mask size) 0
  laying_end i block t v =
      digits_same 64 block (block_at (laid mask size) 0) v.small (word_lt (laid mask size) (64 * 0) 64)
      (λ j h. v.told j (omega arith) h ∙ sym (laid_first j h))

-- ---- what a laid block keeps

module _ (mask size : ℕ) (some : 1 ≤ size) (small : size ≤ 64) where
  -- the laid block in the place of the mask lays the same
  pub laid_block : laid (block_at (laid mask size) 0) size ≡ laid mask size
  laid_block =
      fun_ext (λ p.
      laid_first mask size (p % size) (lt_of_lt_of_le (mod-lt p some) small)
      ∙ ap (digit mask) (mod-mod p size))

  module _ {block : ℕ} (e : block ≡ block_at (laid mask size) 0) where
    repeated : laid block size ≡ laid mask size
    repeated = ap (λ (x : ℕ). laid x size) e ∙ laid_block

    pub repeated_laid : Laid size block
    repeated_laid = e ∙ ap (λ (L : Set). block_at L 0) (sym repeated)

    pub repeated_kept : (S : Set) → kept block size S ≡ kept mask size S
    repeated_kept S = ap {B = Set} (λ L p. L p && S p) repeated

-- ---- turned to a block's number

pub turned : (size index block : ℕ) → 1 ≤ size → size ≤ largest_mask_size → Laid size block
    → bit_or (block / 2 ^ (64 * index % size)) (block * 2 ^ (size - 64 * index % size) % 2 ^ 64) ≡ block_at (laid block size) index
turned size index block some small e =
    digits_same 64 (bit_or forth back) (block_at (laid block size) index)
    (or_lt 64 forth back (lt_of_le_of_lt (shr_le block shift) block_lt) (mod-lt (block * 2 ^ (size - shift)) (pow_pos 64)))
    (word_lt (laid block size) (64 * index) 64)
    (λ j h.
    digit_or forth back j
    ∙ told j h (dec_lt (shift + j) size) (dec_lt (shift + j) 64)
    ∙ ap (digit block) (mod-add-mod (64 * index) size j)
    ∙ sym (laid_digit block size index j h))
  where
    shift : ℕ
    shift = 64 * index % size

    shift_lt : shift < size
    shift_lt = mod-lt (64 * index) some

    forth : ℕ
    forth = block / 2 ^ shift

    back : ℕ
    back = block * 2 ^ (size - shift) % 2 ^ 64

    block_lt : block < 2 ^ 64
    block_lt = subst (λ (x : ℕ). x < 2 ^ 64) (sym e) (word_lt (laid block size) (64 * 0) 64)

    block_told : (j : ℕ) → j < 64 → digit block j ≡ laid block size j
    block_told j h = ap (λ (x : ℕ). digit x j) e ∙ laid_first block size j h

    back_told : (j : ℕ) → j < 64 → size ≤ shift + j → digit back j ≡ laid block size (shift + j)
    back_told j h l =
        let m : size - shift ≤ j = omega (arith, shift_lt) in
        let t : j - (size - shift) ≡ shift + j - size = omega (arith, shift_lt) in
        digit_shl block (size - shift) j m h
        ∙ block_told (j - (size - shift)) (omega arith)
        ∙ ap (laid block size) t
        ∙ laid_past block size size (shift + j) (dvd_refl size) l

    told : (j : ℕ) → j < 64 → Dec (shift + j < size) → Dec (shift + j < 64) → (digit forth j || digit back j) ≡ laid block size (shift + j)
    told j h (yes l) k =
        ap₂ ◌||◌ (digit_shift block shift j ∙ block_told (shift + j) (omega arith))
        (digit_shl_clear block (size - shift) j (omega arith) h) ∙ or-false (laid block size (shift + j))
    told j h (no l) (yes k) =
        ap₂ ◌||◌ (digit_shift block shift j ∙ block_told (shift + j) k) (back_told j h (omega arith))
        ∙ or_self (laid block size (shift + j))
    told j h (no l) (no k) =
        let m : 64 ≤ shift + j = omega arith in
        ap₂ ◌||◌ (digit_shift block shift j ∙ digit_past block (shift + j) (lt_of_lt_of_le block_lt (pow_mono m)))
        (back_told j h (omega arith))
