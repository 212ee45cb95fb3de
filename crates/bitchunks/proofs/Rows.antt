-- The entries and blocks that stand in a row's bytes. Assumes nothing.
use mathlib.Core.Path.{◌≡◌, refl, sym, ap, ◌∙◌, subst}
use mathlib.Core.Logic.{◌⊎◌, inl, inr}
use mathlib.Core.List.{List}
use Prim.Native.Nat.{ℕ, ◌+◌, ◌-◌, ◌*◌, ◌≤◌, ◌<◌}
use native.Mathlib.Nat.{suc-mul, mul-le-mul_right}
use native.Mathlib.Omega.{arith}
use lib.ListN.{get_or, take, drop}
use Rattle.sets.specs.Row.{little, numbers}
use Rattle.sets.proofs.Bytes.{length_numbers}
use Rattle.unaligned.proofs.Runs.{number_read, numbers_at}
use Rattle.bitchunks.specs.Walk.{bits_at}
use Rattle.bitchunks.specs.Rows.{width_bytes, width_of}
use Rattle.bitchunks.specs.declared.Width.{Width}
use Rattle.bitchunks.specs.declared.Width.TheVariants.{Two, Four}
use Rattle.bitchunks.proofs.Walk.{bits_in, bits_past}

-- ---- an entry

pub width_bytes_of : {n : ℕ} → (n ≡ 2) ⊎ (n ≡ 4) → width_bytes (width_of n) ≡ n
width_bytes_of (inl e) = subst (λ (x : ℕ). width_bytes (width_of x) ≡ x) (sym e) refl
width_bytes_of (inr e) = subst (λ (x : ℕ). width_bytes (width_of x) ≡ x) (sym e) refl

pub width_is : (w : Width) {n : ℕ} → width_bytes w ≡ n → w ≡ width_of n
width_is Two e = ap width_of e
width_is Four e = ap width_of e

module _ (w : ℕ) {count place : ℕ} (h : place < count) where
  pub entry_room : {len : ℕ} → count * w ≤ len → place * w + w ≤ len
  entry_room l = omega (arith, l, suc-mul place w, mul-le-mul_right w h)

  pub entry_at : (row : List ℕ) (p : ℕ) → p ≡ little (take w (drop (place * w) row)) → p ≡ get_or (numbers w count row) place 0
  entry_at row p e = e ∙ sym (numbers_at w count row place h)

-- ---- a block

pub block_past : (first n at i : ℕ) (row : List ℕ) → first + n ≤ i → bits_at first (numbers 8 n (drop at row)) i ≡ 0
block_past first n at i row h = bits_past first (numbers 8 n (drop at row)) i (omega (arith, length_numbers 8 n (drop at row)))

pub block_at : (first n at i : ℕ) (row : List ℕ) → first ≤ i → i < first + n
    → little (take 8 (drop (at + 8 * (i - first)) row)) ≡ bits_at first (numbers 8 n (drop at row)) i
block_at first n at i row h l =
    number_read 8 n at row (at + 8 * (i - first)) (omega arith) (omega arith) refl ∙ sym (bits_in first (numbers 8 n (drop at row)) i h)
