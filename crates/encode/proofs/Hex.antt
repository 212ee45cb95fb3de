-- The hexadecimal digits of a number, each by its place. Assumes nothing.
use mathlib.Core.Path.{◌≡◌, refl, sym, ap, ◌∙◌, subst}
use Prim.Native.Nat.{ℕ, zero, suc, ◌+◌, ◌-◌, ◌*◌, ◌/◌, ◌%◌, ◌^◌, ◌<◌}
use native.Mathlib.Nat.{pow-succ'}
use native.Mathlib.Omega.{arith}
use mathlib.Core.List.{List, [], ◌∷◌, ◌++◌}
use Rattle.std.proofs.lemmas.List.{take_more}
use lib.ListN.{get_or, take}
use lib.Pow.{pow-add}
use Rattle.encode.specs.Pieces.{PutsAt}
use Rattle.encode.proofs.Pieces.{puts_at_then}
use Rattle.sets.specs.Text.{hex_digit, to_hex}

four_bits : (k : ℕ) → 2 ^ (4 * k) ≡ 16 ^ k
four_bits zero = refl
four_bits (suc k) =
    let e : 4 * suc k ≡ 4 + 4 * k = omega arith in
    ap (λ (x : ℕ). 2 ^ x) e ∙ pow-add 2 4 (4 * k) ∙ ap (◌*◌ 16) (four_bits k) ∙ sym (pow-succ' 16 k)

digit_at : (digits n i k : ℕ) → digits ≡ suc (i + k) → get_or (to_hex digits n) i 0 ≡ hex_digit (n / 16 ^ k % 16)
digit_at zero n i k e = absurd (omega arith)
digit_at (suc digits) n zero k e =
    let z : digits ≡ k = omega arith in
    ap (λ (x : ℕ). hex_digit (n / 16 ^ x % 16)) z
digit_at (suc digits) n (suc i) k e = digit_at digits n i k (omega arith)

-- the digit that a shift brings to the lowest place
pub digit_shifted : (n i : ℕ) {d : ℕ} → i < 16 → d ≡ hex_digit (n / 2 ^ (60 - 4 * i) % 16) → d ≡ get_or (to_hex 16 n) i 0
digit_shifted n i h e =
    let s : 60 - 4 * i ≡ 4 * (15 - i) = omega arith in
    let p : 2 ^ (60 - 4 * i) ≡ 16 ^ (15 - i) = ap (λ (x : ℕ). 2 ^ x) s ∙ four_bits (15 - i) in
    e ∙ ap (λ (x : ℕ). hex_digit (n / x % 16)) p ∙ sym (digit_at 16 n i (15 - i) (omega arith))

module _ (n i : ℕ) {out : List ℕ} {at : ℕ} {out₁ : List ℕ} {r₁ : ℕ} where
  -- the digits up to place i are put, and one more
  pub hex_turn : {d : ℕ} {out₂ : List ℕ} {r₂ : ℕ} → i < 16 → d ≡ hex_digit (n / 2 ^ (60 - 4 * i) % 16)
      → PutsAt i (take i (to_hex 16 n)) out at out₁ r₁ → PutsAt 1 (d ∷ []) out₁ r₁ out₂ r₂
      → PutsAt (i + 1) (take (i + 1) (to_hex 16 n)) out at out₂ r₂
  hex_turn {d} {out₂} {r₂} h e t p =
      let longer : take i (to_hex 16 n) ++ d ∷ [] ≡ take (i + 1) (to_hex 16 n) =
      ap (λ (x : ℕ). take i (to_hex 16 n) ++ x ∷ []) (digit_shifted n i h e) ∙ sym (take_more (to_hex 16 n) i 0 h) in
      subst (λ (bs : List ℕ). PutsAt (i + 1) bs out at out₂ r₂) longer (puts_at_then t p)

  pub hex_end : i ≡ 16 → PutsAt i (take i (to_hex 16 n)) out at out₁ r₁ → PutsAt 16 (to_hex 16 n) out at out₁ r₁
  hex_end e t = subst (λ (k : ℕ). PutsAt k (take k (to_hex 16 n)) out at out₁ r₁) e t
