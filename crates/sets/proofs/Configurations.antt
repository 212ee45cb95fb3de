-- What holds of every configuration, from laws over B, M and the entry width. Assumes nothing.
use mathlib.Core.Path.{◌≡◌, refl, sym, ap, ◌∙◌}
use mathlib.Core.Logic.{◌⊎◌, inl, inr}
use mathlib.Core.Bool.{Bool, true, false, true≢false, cond, ◌||◌}
use Prim.Native.Nat.{ℕ, ◌+◌, ◌-◌, ◌*◌, ◌/◌, ◌^◌, ◌≤◌, ◌<◌}
use native.Mathlib.Nat.{mul-div_cancel}
use native.Mathlib.Omega.{arith}
use lib.Dec.{eqb, lit<, lit≤}
use lib.Pow.{pow-add, pow_mono, pow_pos}
use borrow.Author.Tests.{eqb-true}
use Rattle.sets.specs.Configurations.{
  Config,
  seven,
  ten,
  thirteen,
  known,
  config_at,
  W,
  blocks,
  position_bits,
  window_blocks,
  longest_row,
  Sound,
}

-- the buckets fill whole blocks
pub whole_blocks : (c : Config) → Sound c → 64 * blocks c ≡ W c
whole_blocks c s =
    let x : ℕ = 2 ^ (c.B - 6) in
    let e : c.B ≡ (c.B - 6) + 6 = omega (arith, s.wide) in
    let q : 2 ^ c.B ≡ x * 64 = ap (λ (y : ℕ). 2 ^ y) e ∙ pow-add 2 (c.B - 6) 6 in
    let r : 65 * (x * 64) ≡ 65 * x * 64 = omega arith in
    let k : blocks c ≡ 65 * x =
    ap (λ (y : ℕ). 65 * y / 64) q ∙ ap (λ (y : ℕ). y / 64) r ∙ mul-div_cancel (65 * x) (lit< tt) in
    omega arith

-- a bucket fits its slot of a key, and its entry of a row: 65 * 2 ^ B is below 128 * 2 ^ B
pub w_lt : (c : Config) → W c < 2 ^ position_bits c
w_lt c = omega (arith, pow-add 2 c.B 7, pow_pos c.B)

pub w_entry : (c : Config) → Sound c → W c ≤ 2 ^ (8 * c.entry)
w_entry c s = omega (arith, w_lt c, pow_mono s.fits)

-- ---- the three lines are instances

-- what holds of each line holds of the line of any number
pub at_each : (P : Config → Type 0) → P seven → P ten → P thirteen → (n : ℕ) → P (config_at n)
unfolding config_at
at_each P x y z n = go (eqb n 7) (eqb n 10) (eqb n 13)
  where
    go : (a b c : Bool) → P (cond a seven (cond b ten (cond c thirteen seven)))
    go true b c = x
    go false true c = y
    go false false true = z
    go false false false = x

-- a line that the laws hold for, whose buckets and rows fit 32 bits and whose window has at least one block
pub record Line (c : Config) : Type 0 where
  pub sound : Sound c
  pub small : W c ≤ 2 ^ 32
  pub window : 1 ≤ window_blocks c
  pub short : longest_row c ≤ 2 ^ 32

line : (c : Config) → 1 ≤ c.M → 6 ≤ c.B → c.B + 7 ≤ 8 * c.entry → W c ≤ 2 ^ 32 → 1 ≤ window_blocks c → longest_row c ≤ 2 ^ 32 → Line c
line c m b e w k r = record { sound = record { some = m; wide = b; fits = e }; small = w; window = k; short = r }

pub line_at : (n : ℕ) → Line (config_at n)
line_at n =
    at_each Line
    (line seven (lit≤ tt) (lit≤ tt) (lit≤ tt) (lit≤ tt) (lit≤ tt) (lit≤ tt))
    (line ten (lit≤ tt) (lit≤ tt) (lit≤ tt) (lit≤ tt) (lit≤ tt) (lit≤ tt))
    (line thirteen (lit≤ tt) (lit≤ tt) (lit≤ tt) (lit≤ tt) (lit≤ tt) (lit≤ tt))
    n

-- an entry of a row has 2 or 4 bytes
pub entry_width : (n : ℕ) → ((config_at n).entry ≡ 2) ⊎ ((config_at n).entry ≡ 4)
entry_width n = at_each (λ (c : Config). (c.entry ≡ 2) ⊎ (c.entry ≡ 4)) (inl refl) (inr refl) (inr refl) n

-- a known number's line has that number
pub number_at : (n : ℕ) → known n ≡ true → (config_at n).number ≡ n
unfolding config_at known
number_at n h = go (eqb n 7) (eqb n 10) (eqb n 13) (eqb-true n 7) (eqb-true n 10) (eqb-true n 13) h
  where
    go : (a b c : Bool) → (a ≡ true → n ≡ 7) → (b ≡ true → n ≡ 10) → (c ≡ true → n ≡ 13) → (a || (b || (c || false))) ≡ true
        → (cond a seven (cond b ten (cond c thirteen seven))).number ≡ n
    go true b c x y z h = sym (x refl)
    go false true c x y z h = sym (y refl)
    go false false true x y z h = sym (z refl)
    go false false false x y z h = absurd (true≢false (sym h))
