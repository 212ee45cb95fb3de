-- The spare byte, and the lowest bit at or above the boundary. Assumes nothing.
use mathlib.Core.Path.{◌≡◌, sym, ap, ap₂, ◌∙◌, subst}
use mathlib.Core.Bool.{Bool, true, false, cond, ◌&&◌, ◌||◌}
use mathlib.Core.List.{List, [], ◌∷◌}
use Prim.Native.Nat.{ℕ, zero, suc, ◌+◌, ◌-◌, ◌*◌, ◌/◌, ◌%◌, ◌^◌, ◌≤◌, ◌<◌}
use native.Mathlib.Nat.{lt_of_lt_of_le}
use native.Mathlib.Decide.{dec_lt}
use native.Mathlib.Omega.{arith}
use lib.Dec.{eqb}
use lib.ListN.{get_or, take, drop}
use lib.Pow.{pow_mono, shr-shr}
use borrow.Author.Tests.{eq-eqb, ne_eqb, le-leb, lt-leb}
use Rattle.sets.specs.Sets.{Empty, Set, members, onward}
use Rattle.sets.specs.Words.{digit, held}
use Rattle.sets.specs.Configurations.{blocks_for}
use Rattle.sets.specs.Row.{little, lowest, numbers, place, spare_byte}
use Rattle.sets.proofs.Laws.{members_none, onward_none}
use Rattle.sets.proofs.Tests.{and_intro}
use Rattle.sets.proofs.Words.{digit_past, digit_shift, held_block}
use Rattle.unaligned.proofs.Runs.{number_read}
use Rattle.judge_row.specs.Judging.{NextDigit, placed}
use Rattle.std.specs.Prelude.{None, Some}
use Rattle.std.specs.Int.{trailing_zeros, w64}
use Rattle.std.proofs.lemmas.Nat.{shr_le}
use Rattle.std.proofs.lemmas.Nat.Bits.{bit_at-trailing_zeros}

-- ---- spare_fits

pub spare_none : (edge : ℕ) (b : Bool) → edge ≡ 0 → true ≡ (eqb edge 0 || b)
spare_none edge b e = sym (ap (λ (x : Bool). x || b) (eq-eqb edge 0 e))

pub spare_tells : (edge byte x : ℕ) → (edge ≡ 0 → ⊥) → x ≡ spare_byte edge → eqb byte x ≡ (eqb edge 0 || eqb byte (spare_byte edge))
spare_tells edge byte x n e = ap (eqb byte) e ∙ sym (ap (λ (b : Bool). b || eqb byte (spare_byte edge)) (ne_eqb edge 0 n))

-- ---- lowest_above

-- a digit that is set stands within the block
set_small : (block q : ℕ) → block < 2 ^ 64 → digit block q ≡ true → q < 64
set_small block q f h = go (dec_lt q 64)
  where
    go : Dec (q < 64) → q < 64
    go (yes l) = l
    go (no l) =
        let z : digit block q ≡ false = digit_past block q (lt_of_lt_of_le f (pow_mono {i = 64} {j = q} (omega arith))) in
        let e : ◌≡◌ {A = ℕ} 0 1 = cc in
        absurd (omega arith)

-- what is above `bit`, counted from there: its lowest 1
pub lowest_is_next : (block bit : ℕ) → block < 2 ^ 64 → 2 ≤ block / 2 ^ bit
    → NextDigit block bit (bit + 1 + trailing_zeros w64 (block / 2 ^ bit / 2 ^ 1))
unfolding digit
lowest_is_next block bit f h =
    let n : ℕ = block / 2 ^ bit / 2 ^ 1 in
    let t = bit_at-trailing_zeros w64 n (omega arith) (omega (arith, shr_le block bit)) in
    let here : (i : ℕ) → n / 2 ^ i ≡ block / 2 ^ (bit + 1 + i) =
    λ i. ap (λ (x : ℕ). x / 2 ^ i) (shr-shr block bit 1) ∙ shr-shr block (bit + 1) i in
    let set : digit block (bit + 1 + trailing_zeros w64 n) ≡ true =
    eq-eqb (block / 2 ^ (bit + 1 + trailing_zeros w64 n) % 2) 1 (ap (λ (x : ℕ). x % 2) (sym (here (trailing_zeros w64 n))) ∙ t.1) in
    record {
      above = omega arith;
      small = set_small block (bit + 1 + trailing_zeros w64 n) f set;
      is_set = set;
      between = λ q a b. ap (digit block) (omega arith) ∙ ap (λ (x : ℕ). eqb (x % 2) 1) (sym (here (q - (bit + 1)))) ∙ ap (λ (x : ℕ). eqb x 1) (t.2 (q - (bit + 1)) (omega arith));
    }

-- ---- high_place

module _ (at edge n : ℕ) (S : Set) where
  clear_nowhere : Empty S edge (64 * n) → None ≡ placed (lowest at (members (onward edge S) (64 * n)))
  clear_nowhere h = sym (ap (λ (l : List ℕ). placed (lowest at l)) (onward_none edge S (64 * n) h))

  pub no_blocks : edge ≡ 0 → n ≡ blocks_for edge → None ≡ placed (lowest at (members (onward edge S) (64 * n)))
  no_blocks e k = clear_nowhere (λ p a b. absurd (omega arith))

lowest_more : (at q b : ℕ) (l : List ℕ) → lowest at l ≡ place b → lowest at (q ∷ l) ≡ place b
lowest_more at q b [] h =
    let z : ◌≡◌ {A = ℕ} 0 1 = cc in
    absurd (omega arith)
lowest_more at q b (x ∷ xs) h = h

-- the byte of the smallest member
lowest_is : (at p n : ℕ) (S : Set) → p < n → S p ≡ true → ((q : ℕ) → q < p → S q ≡ false) → lowest at (members S n) ≡ place (at + p / 8)
unfolding members
lowest_is at p zero S l s h = absurd (omega arith)
lowest_is at p (suc n) S l s h = go (lowest_is at p n S) (dec_lt p n)
  where
    more : (b : Bool) → lowest at (members S n) ≡ place (at + p / 8)
        → lowest at (cond b (n ∷ members S n) (members S n)) ≡ place (at + p / 8)
    more true f = lowest_more at n (at + p / 8) (members S n) f
    more false f = f

    go : (p < n → S p ≡ true → ((q : ℕ) → q < p → S q ≡ false) → lowest at (members S n) ≡ place (at + p / 8)) → Dec (p < n)
        → lowest at (cond (S n) (n ∷ members S n) (members S n)) ≡ place (at + p / 8)
    go f (yes k) = more (S n) (f k s h)
    go f (no k) =
        let e : p ≡ n = omega arith in
        let b : S n ≡ true = ap S (sym e) ∙ s in
        let m : members S n ≡ [] = members_none S n (λ q k. h q (omega arith)) in
        ap₂ (λ (x : Bool) (y : List ℕ). lowest at (cond x (n ∷ y) y)) b m ∙ ap (λ (x : ℕ). place (at + x / 8)) (sym e)

-- the bits of the block i above its place j, which is the highest below the edge
module _ (blocks : List ℕ) (edge i j : ℕ) (e : edge ≡ 64 * i + j + 1) where
  low_clear : get_or blocks i 0 / 2 ^ j < 2 → Empty (held blocks) edge (64 * (i + 1))
  low_clear h p a b =
      let q : ℕ = p - 64 * i in
      let d : ℕ = q - j in
      let w : ℕ = get_or blocks i 0 in
      let s : p ≡ 64 * i + q = omega arith in
      let t : q ≡ j + d = omega arith in
      ap (held blocks) s
      ∙ held_block blocks i q (omega arith)
      ∙ ap (digit w) t
      ∙ sym (digit_shift w j d)
      ∙ digit_past (w / 2 ^ j) d (lt_of_lt_of_le h (pow_mono {i = 1} {j = d} (omega arith)))

  next_is : (at : ℕ) {r : ℕ} → NextDigit (get_or blocks i 0) j r
      → lowest at (members (onward edge (held blocks)) (64 * (i + 1))) ≡ place (at + (64 * i + r) / 8)
  next_is at {r} d =
      lowest_is at (64 * i + r) (64 * (i + 1)) (onward edge (held blocks)) (omega (arith, d.small))
      (and_intro _ _ (le-leb edge (64 * i + r) (omega (arith, d.above))) (held_block blocks i r d.small ∙ d.is_set))
      (λ q l. go q l (dec_lt q edge))
    where
      go : (q : ℕ) → q < 64 * i + r → Dec (q < edge) → onward edge (held blocks) q ≡ false
      go q l (yes k) = ap (λ (b : Bool). b && held blocks q) (lt-leb edge q k)
      go q l (no k) =
          let t : ℕ = q - 64 * i in
          let s : q ≡ 64 * i + t = omega arith in
          ap₂ (λ (a b : Bool). a && b) (le-leb edge q (omega arith))
          (ap (held blocks) s ∙ held_block blocks i t (omega (arith, d.small)) ∙ d.between t (omega arith) (omega arith))

module _ (row : List ℕ) (at n edge w : ℕ) (k : n ≡ blocks_for edge) (some : edge ≡ 0 → ⊥)
    (r : w ≡ little (take 8 (drop (at + 8 * (n - 1)) row))) where
  abbrev blocks_in : List ℕ
  blocks_in = numbers 8 n (drop at row)

  abbrev highest : ℕ
  highest = (edge - 1) % 64

  edge_is_lem : edge ≡ 64 * (n - 1) + highest + 1
  edge_is_lem = omega arith

  blocks_are : 64 * (n - 1 + 1) ≡ 64 * n
  blocks_are = omega arith

  last_is : w ≡ get_or blocks_in (n - 1) 0
  last_is = number_read 8 n at row (at + 8 * (n - 1)) (omega arith) (omega arith) r

  pub high_none : w / 2 ^ highest < 2 → None ≡ placed (lowest at (members (onward edge (held blocks_in)) (64 * n)))
  high_none h =
      clear_nowhere at edge n (held blocks_in)
      (subst (Empty (held blocks_in) edge) blocks_are
      (low_clear blocks_in edge (n - 1) highest edge_is_lem (subst (λ (x : ℕ). x / 2 ^ highest < 2) last_is h)))

  pub high_at : {d : ℕ} → NextDigit w highest d
      → Some (at + 8 * (n - 1) + d / 8) ≡ placed (lowest at (members (onward edge (held blocks_in)) (64 * n)))
  high_at {d} h =
      let p : at + (64 * (n - 1) + d) / 8 ≡ at + 8 * (n - 1) + d / 8 = omega arith in
      ap (λ (x : ℕ). Some x) (sym p)
      ∙ sym (ap placed (next_is blocks_in edge (n - 1) highest edge_is_lem at (subst (λ (x : ℕ). NextDigit x highest d) last_is h)))
      ∙ ap (λ (x : ℕ). placed (lowest at (members (onward edge (held blocks_in)) x))) blocks_are
