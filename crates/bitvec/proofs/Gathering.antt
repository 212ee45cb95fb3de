-- Cells joined one after the other: what is joined is 0 where each is. Assumes nothing.
use mathlib.Core.Path.{◌≡◌, refl, sym, ap, ap₂, ◌∙◌}
use mathlib.Core.List.{List, [], ◌∷◌}
use Prim.Native.Nat.{ℕ, zero, suc, ◌+◌, ◌-◌, ◌<◌}
use native.Mathlib.Decide.{dec_lt}
use native.Mathlib.Omega.{arith}
use lib.Bits.{bit_or, and_le_l, and_le_r, or_add_and, or_zero_l}
use lib.ListN.{get_or, take, drop, length-take, get_or-eq_default}
use lib.Seq.{get_or-take, get_or-drop}
use Rattle.std.specs.List.{FoldsTo}
use Rattle.bitvec.specs.Cells.{Gathered, Zeros}

pub or_both : (a b : ℕ) → bit_or a b ≡ 0 → (a ≡ 0) × (b ≡ 0)
or_both a b h = (omega (arith, or_add_and a b, and_le_l a b, and_le_r a b), omega (arith, or_add_and a b, and_le_l a b, and_le_r a b))

pub or_none : (a b : ℕ) → a ≡ 0 → b ≡ 0 → bit_or a b ≡ 0
or_none a b h l = ap₂ bit_or h l ∙ or_zero_l 0

-- ---- what `or` gives

joined_none : (xs : List ℕ) (x r : ℕ) → FoldsTo (λ p y q. q ≡ bit_or p y) x xs r → r ≡ 0 → (x ≡ 0) × ((i : ℕ) → get_or xs i 0 ≡ 0)
joined_none [] x r f e = (f ∙ e, λ i. refl)
joined_none (y ∷ xs) x r (j, f, t) e =
    let w : (j ≡ 0) × ((i : ℕ) → get_or xs i 0 ≡ 0) = joined_none xs j r t e in
    let v : (x ≡ 0) × (y ≡ 0) = or_both x y (sym f ∙ w.0) in
    (v.0, elim [ zero ↦ v.1 | (suc i) ↦ w.1 i ])

none_joined : (xs : List ℕ) (x r : ℕ) → FoldsTo (λ p y q. q ≡ bit_or p y) x xs r → x ≡ 0 → ((i : ℕ) → get_or xs i 0 ≡ 0) → r ≡ 0
none_joined [] x r f e z = sym f ∙ e
none_joined (y ∷ xs) x r (j, f, t) e z = none_joined xs j r t (f ∙ or_none x y e (z 0)) (λ i. z (suc i))

-- of the cells from a up to b
pub gathered : (a b : ℕ) (l : List ℕ) (r : ℕ) → (x : ℕ) × (x ≡ 0) × FoldsTo (λ p y q. q ≡ bit_or p y) x (take (b - a) (drop a l)) r
    → Gathered a b l r
gathered a b l r (x, e, f) = (
  λ z i low high.
      let k : a + (i - a) ≡ i = omega arith in
      ap (λ (j : ℕ). get_or l j 0) (sym k) ∙ sym (at (i - a) (omega arith)) ∙ (joined_none part x r f z).1 (i - a),
  λ z. none_joined part x r f e (λ j. go z j (dec_lt j (b - a))),
)
  where
    part : List ℕ
    part = take (b - a) (drop a l)

    at : (j : ℕ) → j < b - a → get_or part j 0 ≡ get_or l (a + j) 0
    at j h = get_or-take (b - a) (drop a l) j 0 h ∙ get_or-drop a l j 0

    go : Zeros a b l → (j : ℕ) → Dec (j < b - a) → get_or part j 0 ≡ 0
    go z j (yes h) = at j h ∙ z (a + j) (omega arith) (omega arith)
    go z j (no h) = get_or-eq_default part 0 (omega (arith, length-take (b - a) (drop a l)))
