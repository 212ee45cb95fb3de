-- The parts of test 8, and the loops that look at listed and top cells. Assumes nothing.
use mathlib.Core.Path.{◌≡◌, refl, sym, ap, ap₂, ◌∙◌, subst}
use mathlib.Core.Bool.{Bool, true, false, not, ◌&&◌, ◌||◌, and-true}
use mathlib.Core.List.{List, ◌∷◌}
use Prim.Native.Nat.{ℕ, ◌+◌, ◌-◌, ◌*◌, ◌/◌, ◌%◌, ◌^◌, ◌≤◌, ◌<◌}
use native.Mathlib.Nat.{div-le_self, lt_of_lt_of_le}
use native.Mathlib.Decide.{dec_lt, ℕ_discrete}
use native.Mathlib.Numerals.{add-one}
use native.Mathlib.Omega.{arith}
use lib.Bits.{bit_or}
use lib.Dec.{ltb, leb, eqb}
use lib.ListN.{length-drop, length, get_or, take, drop, drop_of_length-le}
use lib.Pow.{pow_mono, pow_pos}
use lib.Seq.{take_all, take-take, drop-cons, get_or-take, length-take-le}
use borrow.Author.Tests.{lt-ltb, le-ltb, le-leb, lt-leb, eqb-true, eqb-false}
use Rattle.sets.specs.Sets.{Empty, Falls, all_below}
use Rattle.sets.specs.Words.{held, digit}
use Rattle.sets.specs.Filter.{is_filter}
use Rattle.sets.proofs.Words.{digit_shift, digit_zero, digit_past, digits_same, held_block, held_word, word_none}
use Rattle.sets.proofs.Canon.{canon_yes, canon_no}
use Rattle.bitvec.specs.Cells.{Gathered, Zeros}
use Rattle.bitvec.specs.Parts.{Room}
use Rattle.bitvec.proofs.Gathering.{or_both, or_none}
use Rattle.judge.specs.Judging.{Tells, TopFits}

-- ---- cells_below

-- the cells before i told whether one is not below the limit; what those from i on tell is still open
pub record Asking (limit : ℕ) (l : List ℕ) (above : Bool) (i : ℕ) : Type 0 where
  pub asks : all_below limit l ≡ (not above && all_below limit (drop i l))

pub ask_start : (limit : ℕ) (l : List ℕ) → Asking limit l false 0
ask_start limit l = record { asks = refl }

-- the test of one more cell
join : (above : Bool) (limit x : ℕ) (rest : Bool) → (not above && (ltb x limit && rest)) ≡ (not (above || leb limit x) && rest)
join true limit x rest = refl
join false limit x rest = ap (λ (b : Bool). b && rest) (go (dec_lt x limit))
  where
    go : Dec (x < limit) → ltb x limit ≡ not (leb limit x)
    go (yes h) = lt-ltb x limit h ∙ ap not (sym (lt-leb limit x h))
    go (no h) = le-ltb x limit (omega arith) ∙ ap not (sym (le-leb limit x (omega arith)))

module _ {limit : ℕ} {l : List ℕ} {above : Bool} {i : ℕ} (t : Asking limit l above i) where
  pub ask_turn : i < length l → Asking limit l (above || leb limit (get_or l i 0)) (i + 1)
  ask_turn h =
      let x : ℕ = get_or l i 0 in
      let d : drop i l ≡ x ∷ drop (i + 1) l = drop-cons l i 0 h ∙ ap (λ (z : ℕ). x ∷ drop z l) (sym (add-one i)) in
      record {
        asks = t.asks ∙ ap (λ (r : List ℕ). not above && all_below limit r) d ∙ join above limit x (all_below limit (drop (i + 1) l));
      }

  pub ask_end : length l ≤ i → not above ≡ all_below limit l
  ask_end h = sym (t.asks ∙ ap (λ (r : List ℕ). not above && all_below limit r) (drop_of_length-le l h) ∙ and-true (not above))

-- ---- falls

-- whether the list falls is whether what is left does, from below the last cell seen
pub record Falling (limit : ℕ) (top : List ℕ) (last i : ℕ) : Type 0 where
  pub to : Falls last (drop i top) → Falls limit top
  pub back : Falls limit top → Falls last (drop i top)

pub fall_start : (limit : ℕ) (top : List ℕ) → Falling limit top limit 0
fall_start limit top = record { to = λ f. f; back = λ f. f }

module _ {limit : ℕ} {top : List ℕ} {last i : ℕ} (h : i < length top) (t : Falling limit top last i) (x : ℕ)
    (e : x ≡ get_or top i 0) where
  seen : drop i top ≡ x ∷ drop (i + 1) top
  seen = drop-cons top i 0 h ∙ ap₂ (λ (y z : ℕ). y ∷ drop z top) (sym e) (sym (add-one i))

  pub fall_turn : x < last → Falling limit top x (i + 1)
  fall_turn l =
      record {
        to = λ f. t.to (subst (Falls last) (sym seen) (l, f));
        back = λ f. (subst (Falls last) seen (t.back f)).1;
      }

  pub fall_not : last ≤ x → Falls limit top → ⊥
  fall_not l f = omega (arith, (subst (Falls last) seen (t.back f)).0)

pub fall_end : {limit : ℕ} {top : List ℕ} {last i : ℕ} → length top ≤ i → Falling limit top last i → Falls limit top
fall_end {limit} {top} {last} {i} h t =
    let e : take (length top - i) (drop i top) ≡ drop i top = take_all (length top - i) (drop i top) (omega (arith, length-drop i top)) in
    let z : length top - i ≡ 0 = omega arith in
    t.to (subst (Falls last) e (subst (λ (x : ℕ). Falls last (take x (drop i top))) (sym z) tt))

-- ---- top_fits

-- a flag that is known tells what it tells
pub tells_not : (b : Bool) {P : Type 0} → b ≡ false → Tells b P → P → ⊥
tells_not false e t = t
tells_not true e t = let z : ◌≡◌ {A = ℕ} 0 1 = cc in absurd (omega arith)

pub tells_so : (b : Bool) {P : Type 0} → b ≡ true → Tells b P → P
tells_so true e t = t
tells_so false e t = let z : ◌≡◌ {A = ℕ} 0 1 = cc in absurd (omega arith)

module _ {m : ℕ} (limit : ℕ) (top : List ℕ) (count : ℕ) {r : ℕ} (few : count ≤ m) (f : Falls limit (take count top))
    (G : Gathered count m top r) where
  pub top_tells : (b : Bool) → eqb r 0 ≡ b → Tells b (TopFits m limit top count)
  top_tells true e = record { few = few; falling = f; unused = G.0 (eqb-true _ _ e) }
  top_tells false e = λ F. eqb-false _ _ e (G.1 F.unused)

-- the slice of the area fits where the area does
module _ {m limit count : ℕ} {top : List ℕ} (h : m ≤ length top) where
  pub slice_fits : TopFits m limit top count → TopFits (length (take m top)) limit (take m top) count
  slice_fits F =
      record {
        few = omega (arith, F.few, length-take-le m top h);
        falling = subst (Falls limit) (sym (take-take count m top F.few)) F.falling;
        unused = λ i a b. get_or-take m top i 0 (omega (arith, length-take-le m top h)) ∙ F.unused i a (omega (arith, length-take-le m top h));
      }

  pub area_fits : TopFits (length (take m top)) limit (take m top) count → TopFits m limit top count
  area_fits F =
      let few : count ≤ m = omega (arith, F.few, length-take-le m top h) in
      record {
        few = few;
        falling = subst (Falls limit) (take-take count m top few) F.falling;
        unused = λ i a b. sym (get_or-take m top i 0 b) ∙ F.unused i a (omega (arith, length-take-le m top h));
      }

-- ---- bits_fit

module _ {k : ℕ} (blocks : List ℕ) (edge i j : ℕ) {r : ℕ} (ei : i ≡ edge / 64) (ej : j ≡ edge % 64)
    (fit : (n : ℕ) → get_or blocks n 0 < 2 ^ 64) (h : i < k)
    (G : Gathered (i + 1) k blocks r) where
  bits_clear : bit_or (get_or blocks i 0 / 2 ^ j) r ≡ 0 → Empty (held blocks) edge (64 * k)
  unfolding held
  bits_clear e p a b = go (ℕ_discrete (p / 64) i)
    where
      w : (get_or blocks i 0 / 2 ^ j ≡ 0) × (r ≡ 0)
      w = or_both (get_or blocks i 0 / 2 ^ j) r e

      go : Dec (p / 64 ≡ i) → digit (get_or blocks (p / 64) 0) (p % 64) ≡ false
      go (yes q) =
          let d : ℕ = p % 64 - j in
          let s : p % 64 ≡ j + d = omega arith in
          ap₂ (λ (x y : ℕ). digit (get_or blocks x 0) y) q s
          ∙ sym (digit_shift (get_or blocks i 0) j d)
          ∙ ap (λ (x : ℕ). digit x d) w.0
          ∙ digit_zero d
      go (no q) = ap (λ (x : ℕ). digit x (p % 64)) (G.0 w.1 (p / 64) (omega arith) (omega arith)) ∙ digit_zero (p % 64)

  rest_none : Empty (held blocks) edge (64 * k) → Zeros (i + 1) k blocks
  rest_none B n a b =
      sym (held_word blocks n (fit n)) ∙ word_none (held blocks) (64 * n) 64 (λ q l. B (64 * n + q) (omega arith) (omega arith))

  first_none : Empty (held blocks) edge (64 * k) → get_or blocks i 0 / 2 ^ j ≡ 0
  first_none B =
      let w : ℕ = get_or blocks i 0 in
      digits_same 64 (w / 2 ^ j) 0 (omega (arith, fit i, div-le_self w (2 ^ j))) (pow_pos 64)
      (λ q l. digit_shift w j q ∙ go q (dec_lt (j + q) 64) ∙ sym (digit_zero q))
    where
      go : (q : ℕ) → Dec (j + q < 64) → digit (get_or blocks i 0) (j + q) ≡ false
      go q (yes l) = sym (held_block blocks i (j + q) l) ∙ B (64 * i + (j + q)) (omega arith) (omega arith)
      go q (no l) = digit_past (get_or blocks i 0) (j + q) (lt_of_lt_of_le (fit i) (pow_mono {i = 64} {j = j + q} (omega arith)))

  pub bits_tell : (b : Bool) → eqb (bit_or (get_or blocks i 0 / 2 ^ j) r) 0 ≡ b → Tells b (Empty (held blocks) edge (64 * k))
  bits_tell true e = bits_clear (eqb-true _ _ e)
  bits_tell false e = λ B. eqb-false _ _ e (or_none _ _ (first_none B) (G.1 (rest_none B)))

-- what is told of the first blocks as a slice
pub slice_tells : {k : ℕ} (edge : ℕ) (blocks : List ℕ) → k ≤ length blocks → (b : Bool)
    → Tells b (Empty (held (take k blocks)) edge (64 * length (take k blocks))) → Tells b (Empty (held blocks) edge (64 * k))
unfolding held
slice_tells {k} edge blocks h = go
  where
    long : length (take k blocks) ≡ k
    long = length-take-le k blocks h

    at : (p : ℕ) → p < 64 * k → held (take k blocks) p ≡ held blocks p
    at p l = ap (λ (x : ℕ). digit x (p % 64)) (get_or-take k blocks (p / 64) 0 (omega arith))

    go : (b : Bool) → Tells b (Empty (held (take k blocks)) edge (64 * length (take k blocks))) → Tells b (Empty (held blocks) edge (64 * k))
    go true E = λ p a l. sym (at p l) ∙ E p a (omega (arith, long))
    go false N = λ E. N (λ p a l. at p (omega (arith, long)) ∙ E p a (omega (arith, long)))

-- ---- is_filter

module _ {m k : ℕ} {top blocks : List ℕ} (count edge : ℕ) (room : Room m k top blocks) where
  pub no_top : (TopFits (length (take m top)) (64 * k) (take m top) count → ⊥) → false ≡ is_filter m k top blocks count edge
  no_top h = sym (canon_no room.some (λ C. h (slice_fits room.cells (record { few = C.few; falling = C.falling; unused = C.unused }))))

  module _ (x : ℕ) (e : x ≡ get_or top (m - 1) 0) where
    pub no_edge : (x ≡ edge → ⊥) → false ≡ is_filter m k top blocks count edge
    no_edge h = sym (canon_no room.some (λ C. h (e ∙ sym C.edge_is)))

    pub by_bits : TopFits (length (take m top)) (64 * k) (take m top) count → x ≡ edge → ((i : ℕ) → get_or blocks i 0 < 2 ^ 64)
        → (b : Bool) → Tells b (Empty (held (take k blocks)) edge (64 * length (take k blocks))) → b ≡ is_filter m k top blocks count edge
    by_bits F₀ q fit true B =
        let F = area_fits room.cells F₀ in
        sym (canon_yes room.some room.cells room.blocks_in fit
        (record { few = F.few; falling = F.falling; unused = F.unused; edge_is = sym q ∙ e; clear = slice_tells _ _ room.blocks_in true B }))
    by_bits F q fit false B = sym (canon_no room.some (λ C. slice_tells _ _ room.blocks_in false B C.clear))
