-- Blocks cut at a boundary: the block in which it stands keeps its low places, and those above it are 0. Assumes nothing.
use mathlib.Core.Path.{◌≡◌, sym, ap, ap₂, ◌∙◌}
use mathlib.Core.List.{List, ◌++◌}
use Prim.Native.Nat.{ℕ, ◌+◌, ◌-◌, ◌*◌, ◌/◌, ◌%◌, ◌^◌, ◌≤◌, ◌<◌}
use native.Mathlib.Decide.{dec_lt, ℕ_discrete}
use native.Mathlib.Nat.{lt_of_lt_of_le}
use native.Mathlib.Omega.{arith}
use lib.Bits.{bit_and, and_le_l, and_mask, mask_lt}
use lib.ListN.{length, get_or, drop, set, length-set, take-append-drop}
use lib.Pow.{pow_mono}
use lib.Seq.{get_or-set_same, get_or-set_other, drop-set-lt}
use Rattle.sets.specs.Sets.{Set, below, tabulate}
use Rattle.sets.specs.Words.{block_at, digit, held}
use Rattle.sets.specs.Configurations.{blocks_for}
use Rattle.sets.specs.Filter.{filled}
use Rattle.sets.proofs.Laws.{below_in, below_out}
use Rattle.sets.proofs.Words.{digits_same, digit_word, digit_low, digit_past, held_block, held_word, word_lt, word_same, word_none}
use Rattle.bitvec.specs.Cells.{zeroed}
use Rattle.bitvec.proofs.Filling.{later_rest, zeroed_rest, zeroed_tabulate}

-- the members below the boundary
abbrev pub trimmed : ℕ → List ℕ → Set
trimmed boundary l = below boundary (held l)

-- the blocks below `whole` are cut, and the rest is as it was
pub record Trimming (boundary : ℕ) (old now : List ℕ) (whole : ℕ) : Type 0 where
  pub whole_is : whole ≡ blocks_for boundary
  pub are : (i : ℕ) → i < whole → get_or now i 0 ≡ block_at (trimmed boundary old) i
  pub rest : drop whole now ≡ drop whole old
  pub length_is : length now ≡ length old

module _ (boundary : ℕ) (l : List ℕ) (fit : (i : ℕ) → get_or l i 0 < 2 ^ 64) where
  low_block : (i : ℕ) → i < boundary / 64 → get_or l i 0 ≡ block_at (trimmed boundary l) i
  low_block i h =
      sym (held_word l i (fit i))
      ∙ word_same (held l) (trimmed boundary l) (64 * i) 64 (λ j a. sym (below_in boundary (held l) (64 * i + j) (omega arith)))

  cut_block : bit_and (get_or l (boundary / 64) 0) (2 ^ (boundary % 64) - 1) ≡ block_at (trimmed boundary l) (boundary / 64)
  cut_block =
      digits_same 64 (bit_and v (2 ^ b - 1)) (block_at (trimmed boundary l) i) (omega (arith, fit i, and_le_l v (2 ^ b - 1)))
      (word_lt (trimmed boundary l) (64 * i) 64)
      (λ j h. go j h (dec_lt j b) ∙ sym (digit_word (trimmed boundary l) (64 * i) 64 j h))
    where
      i : ℕ
      i = boundary / 64

      b : ℕ
      b = boundary % 64

      v : ℕ
      v = get_or l i 0

      go : (j : ℕ) → j < 64 → Dec (j < b) → digit (bit_and v (2 ^ b - 1)) j ≡ trimmed boundary l (64 * i + j)
      go j a (yes h) =
          ap (λ (x : ℕ). digit x j) (and_mask v b) ∙ digit_low v b j h
          ∙ sym (below_in boundary (held l) (64 * i + j) (omega arith) ∙ held_block l i j a)
      go j a (no h) =
          digit_past (bit_and v (2 ^ b - 1)) j (lt_of_lt_of_le (mask_lt v b) (pow_mono (omega arith)))
          ∙ sym (below_out boundary (held l) (64 * i + j) (omega arith))

  module _ (index bit : ℕ) (x : index ≡ boundary / 64) (y : bit ≡ boundary % 64) (now : List ℕ) (whole : ℕ) where
    -- a boundary between two blocks
    pub cut_none : bit ≤ 0 → now ≡ l → whole ≡ index → Trimming boundary l now whole
    cut_none z e w =
        record {
          whole_is = omega arith;
          are = λ i h. ap (λ (t : List ℕ). get_or t i 0) e ∙ low_block i (omega arith);
          rest = ap (drop whole) e;
          length_is = ap length e;
        }

    -- a boundary within a block
    pub cut_one : (mask : ℕ) → 0 < bit → mask ≡ 2 ^ bit - 1 → index < length l → now ≡ set l index (bit_and (get_or l index 0) mask)
        → whole ≡ index + 1
        → Trimming boundary l now whole
    cut_one mask z m n e w =
        record {
          whole_is = omega arith;
          are = λ i h. ap (λ (t : List ℕ). get_or t i 0) e ∙ go i h (ℕ_discrete i index);
          rest = ap (drop whole) e ∙ drop-set-lt whole l index v (omega arith);
          length_is = ap length e ∙ length-set l index v;
        }
      where
        v : ℕ
        v = bit_and (get_or l index 0) mask

        go : (i : ℕ) → i < whole → Dec (i ≡ index) → get_or (set l index v) i 0 ≡ block_at (trimmed boundary l) i
        go i h (yes q) = rw (q, get_or-set_same l index v 0 n, m, x, y) cut_block
        go i h (no q) = get_or-set_other l index i v 0 q ∙ low_block i (omega arith)

-- zeros from there on
pub resized : {boundary whole : ℕ} {old cut now : List ℕ} (k : ℕ) → boundary ≤ 64 * k → k ≤ length old
    → Trimming boundary old cut whole → now ≡ zeroed whole k cut
    → now ≡ filled (tabulate k (block_at (trimmed boundary old))) k old
resized {boundary} {whole} {old} {cut} k h n c z =
    let w : whole ≤ k = omega (arith, c.whole_is) in
    let room : k ≤ length cut = omega (arith, c.length_is) in
    z ∙ sym (take-append-drop k (zeroed whole k cut))
    ∙ ap₂ ◌++◌
    (zeroed_tabulate whole k cut w room (block_at (trimmed boundary old)) c.are
    (λ i a b. word_none (trimmed boundary old) (64 * i) 64 (λ j l. below_out boundary (held old) (64 * i + j) (omega (arith, c.whole_is)))))
    (zeroed_rest whole k cut w room ∙ later_rest whole k cut old w c.rest)
