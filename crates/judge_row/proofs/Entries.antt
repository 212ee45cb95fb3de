-- The walks over a row's entries, which ask whether each is below a bound. Assumes nothing.
use mathlib.Core.Path.{◌≡◌, refl, sym, ap, ap₂, ◌∙◌}
use mathlib.Core.Bool.{Bool, true, false, cond, ◌&&◌}
use mathlib.Core.List.{List, [], ◌∷◌}
use Prim.Native.Nat.{ℕ, ◌+◌, ◌-◌, ◌*◌, ◌≤◌, ◌<◌}
use native.Mathlib.Nat.{add-mul, mul-le-mul_right, one-mul, zero-mul}
use native.Mathlib.Numerals.{add-one}
use native.Mathlib.Omega.{arith}
use lib.Dec.{ltb}
use lib.ListN.{get_or, take, drop, drop_of_length-le, get_or-eq_default}
use lib.Seq.{drop-cons}
use borrow.Author.Tests.{lt-ltb, le-ltb}
use Rattle.sets.specs.Sets.{all_below}
use Rattle.sets.specs.Row.{little, numbers, place, rising}
use Rattle.sets.proofs.Bytes.{length_numbers}
use Rattle.bitchunks.proofs.Rows.{entry_at}
use Rattle.judge_row.specs.Judging.{placed}
use Rattle.std.specs.Prelude.{None, Some}

-- ---- one turn

module _ (w count : ℕ) (row : List ℕ) (i : ℕ) where
  module _ (h : i < count) (x : ℕ) (e : x ≡ little (take w (drop (i * w) row))) where
    seen : drop i (numbers w count row) ≡ x ∷ drop (i + 1) (numbers w count row)
    seen =
        let l : List ℕ = numbers w count row in
        drop-cons l i 0 (omega (arith, length_numbers w count row))
        ∙ ap₂ (λ (y z : ℕ). y ∷ drop z l) (sym (entry_at w h row x e)) (sym (add-one i))

    -- what the entries from i on tell, where this one has to be below the bound
    module _ {told : Bool} (bound : ℕ) (f g : List ℕ → Bool) (s : (l : List ℕ) → f (x ∷ l) ≡ (ltb x bound && g l))
        (t : told ≡ f (drop i (numbers w count row))) where
      tells : {b : Bool} → ltb x bound ≡ b → told ≡ (b && g (drop (i + 1) (numbers w count row)))
      tells q = t ∙ ap f seen ∙ s _ ∙ ap (λ (b : Bool). b && g (drop (i + 1) (numbers w count row))) q

      stops : bound ≤ x → false ≡ told
      stops l = sym (tells (le-ltb x bound l))

      goes : x < bound → told ≡ g (drop (i + 1) (numbers w count row))
      goes l = tells (lt-ltb x bound l)

  none_left : count ≤ i → drop i (numbers w count row) ≡ []
  none_left h = drop_of_length-le (numbers w count row) {i = i} (omega (arith, length_numbers w count row))

-- ---- entries_fit

-- what is told of all entries is what the ones from i on tell
abbrev pub Within : ℕ → ℕ → ℕ → List ℕ → ℕ → Type 0
Within limit w count row i = all_below limit (numbers w count row) ≡ all_below limit (drop i (numbers w count row))

module _ (limit w count : ℕ) (row : List ℕ) (i : ℕ) (t : Within limit w count row i) where
  module _ (h : i < count) (x : ℕ) (e : x ≡ little (take w (drop (i * w) row))) where
    pub fit_not : limit ≤ x → false ≡ all_below limit (numbers w count row)
    fit_not = stops w count row i h x e limit (all_below limit) (all_below limit) (λ l. refl) t

    pub fit_turn : x < limit → Within limit w count row (i + 1)
    fit_turn = goes w count row i h x e limit (all_below limit) (all_below limit) (λ l. refl) t

  pub fit_end : count ≤ i → true ≡ all_below limit (numbers w count row)
  fit_end h = sym (t ∙ ap (all_below limit) (none_left w count row i h))

-- ---- fall_place

-- where all entries do not fall is where the ones from i on do not, after the last one passed
abbrev pub Falling : ℕ → ℕ → ℕ → List ℕ → ℕ → ℕ → Type 0
Falling limit w count row last i = rising w 0 limit (numbers w count row) ≡ rising w (i * w) last (drop i (numbers w count row))

pub fall_start : (limit w count : ℕ) (row : List ℕ) → Falling limit w count row limit 0
fall_start limit w count row = ap (λ (a : ℕ). rising w a limit (numbers w count row)) (sym (zero-mul w))

module _ (limit w count : ℕ) (row : List ℕ) (last i : ℕ) (t : Falling limit w count row last i) where
  module _ (h : i < count) (x : ℕ) (e : x ≡ little (take w (drop (i * w) row))) where
    turned : {b : Bool} → ltb x last ≡ b → rising w 0 limit (numbers w count row)
        ≡ cond b (rising w (i * w + w) x (drop (i + 1) (numbers w count row))) (place (i * w))
    turned q =
        t
        ∙ ap (rising w (i * w) last) (seen w count row i h x e)
        ∙ ap (λ (b : Bool). cond b (rising w (i * w + w) x (drop (i + 1) (numbers w count row))) (place (i * w))) q

    pub fall_at : last ≤ x → Some (i * w) ≡ placed (rising w 0 limit (numbers w count row))
    fall_at l = sym (ap placed (turned (le-ltb x last l)))

    pub fall_turn : x < last → Falling limit w count row x (i + 1)
    fall_turn l =
        let a : i * w + w ≡ (i + 1) * w = omega (arith, add-mul i 1 w, one-mul w) in
        turned (lt-ltb x last l) ∙ ap (λ (b : ℕ). rising w b x (drop (i + 1) (numbers w count row))) a

  pub fall_end : count ≤ i → None ≡ placed (rising w 0 limit (numbers w count row))
  fall_end h = sym (ap placed (t ∙ ap (rising w (i * w) last) (none_left w count row i h)))

-- an entry's place is within the row
pub place_in : (i count w n : ℕ) → i < count → count * w ≤ n → i * w ≤ n
place_in i count w n h l =
    let k : i ≤ count = omega arith in
    omega (arith, mul-le-mul_right w k)

-- ---- boundary_of

pub last_in : {m count : ℕ} → 1 ≤ m → m ≤ count → m - 1 < count
last_in h l = omega arith

pub entry_none : (w count : ℕ) (row : List ℕ) (m : ℕ) → count < m → 0 ≡ get_or (numbers w count row) (m - 1) 0
entry_none w count row m h = sym (get_or-eq_default (numbers w count row) 0 {n = m - 1} (omega (arith, length_numbers w count row)))
