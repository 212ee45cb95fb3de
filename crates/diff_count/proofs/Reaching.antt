-- The blocks of the buckets listed, counted up bucket by bucket. Assumes nothing.
use mathlib.Core.Path.{◌≡◌, sym, ap, ◌∙◌}
use mathlib.Core.List.{List}
use Prim.Native.Nat.{ℕ, ◌+◌, ◌*◌, ◌/◌, ◌≤◌, ◌<◌, max}
use native.Mathlib.Decide.{dec_lt}
use native.Mathlib.Omega.{arith}
use lib.Dec.{eqb}
use borrow.Author.Tests.{eq-eqb, eqb-true}
use mathlib.Core.Bool.{true, false}
use lib.ListN.{length, get_or, take, length-take}
use lib.Seq.{get_or-take}
use Rattle.diff_count.specs.Making.{Led, UpTo}

-- so many blocks reach over the first i of the buckets listed, `least` at least, and no fewer do
pub record Reaching (list : List ℕ) (least most i : ℕ) : Type 0 where
  pub few : i ≤ length list
  pub low : least ≤ most
  pub covers : (j : ℕ) → j < i → get_or list j 0 < 64 * most
  pub high : (k : ℕ) → least ≤ k → ((j : ℕ) → j < i → get_or list j 0 < 64 * k) → most ≤ k

pub reach_start : (list : List ℕ) (least : ℕ) → Reaching list least least 0
reach_start list least =
    record { few = omega arith; low = omega arith; covers = λ j h. absurd (omega arith); high = λ k h b. h }

module _ {list : List ℕ} {least most i : ℕ} (t : Reaching list least most i) where
  -- the larger of `most` and the blocks of the next bucket
  pub reach_turn : (up most' : ℕ) → i < length list → up ≡ get_or list i 0 / 64 + 1 → most' ≡ max most up
      → Reaching list least most' (i + 1)
  reach_turn up most' h e m =
      record {
        few = omega arith;
        low = omega (arith, t.low);
        covers = λ j l. go j l (dec_lt j i);
        high = λ k l u. omega (arith, t.high k l (λ j s. u j (omega arith)), u i (omega arith));
      }
    where
      go : (j : ℕ) → j < i + 1 → Dec (j < i) → get_or list j 0 < 64 * most'
      go j l (yes s) = omega (arith, t.covers j s)
      go j l (no s) =
          let q : get_or list j 0 ≡ get_or list i 0 = ap (λ (x : ℕ). get_or list x 0) (omega arith) in
          omega arith

  pub reach_end : length list ≤ i → UpTo list least most
  reach_end h =
      record {
        low = t.low;
        covers = λ j a. t.covers j (omega arith);
        high = λ k a b. t.high k a (λ j s. b j (omega (arith, t.few)));
      }

-- ---- a list in which none is above the first

module _ (list : List ℕ) (least : ℕ) where
  pub up_to_none : eqb (length list) 0 ≡ true → UpTo list least least
  up_to_none e = reach_end (reach_start list least) (omega (arith, eqb-true (length list) 0 e))

  pub up_to_first : {r : ℕ} → eqb (length list) 0 ≡ false → Led list → UpTo (take 1 list) least r → UpTo list least r
  up_to_first {r} w L u =
      let z : length list ≡ 0 → ⊥ = λ h.
      let c : true ≡ false = sym (eq-eqb (length list) 0 h) ∙ w in
      let o : ◌≡◌ {A = ℕ} 0 1 = cc in
      omega arith in
      let e : get_or list 0 0 ≡ get_or (take 1 list) 0 0 = sym (get_or-take 1 list 0 0 (omega arith)) in
      record {
        low = u.low;
        covers = λ i h. omega (arith, L i h, u.covers 0 (omega (arith, length-take 1 list)));
        high = λ k a b. u.high k a (λ i h.
            let o : i ≡ 0 = omega (arith, length-take 1 list) in
            let q : get_or (take 1 list) i 0 ≡ get_or (take 1 list) 0 0 = ap (λ (x : ℕ). get_or (take 1 list) x 0) o in
            omega (arith, b 0 (omega arith)));
      }
