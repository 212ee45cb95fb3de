-- The symmetric difference of two filters, in the blocks of a third pair of areas. Assumes nothing.
use mathlib.Core.Path.{◌≡◌, sym, ap, ap₂, ◌∙◌}
use mathlib.Core.Bool.{Bool}
use mathlib.Core.List.{List}
use Prim.Native.Nat.{ℕ, ◌*◌, ◌/◌, ◌%◌, ◌^◌, ◌≤◌, ◌<◌, max}
use native.Mathlib.Decide.{dec_lt}
use native.Mathlib.Omega.{arith}
use lib.Bits.{bit_xor}
use lib.ListN.{length, get_or, take, drop, length-append, length-drop}
use lib.Seq.{get_or-take, length-take-le}
use Rattle.sets.specs.Sets.{Agree, Below, Empty, Set, apart, differ, odd}
use Rattle.sets.specs.Words.{digit, held, flip_bits}
use Rattle.sets.specs.Configurations.{blocks_for}
use Rattle.sets.specs.Filter.{Holds, filled}
use Rattle.sets.proofs.Laws.{agree_empty, apart_empty, differ_assoc, differ_comm}
use Rattle.sets.proofs.Lists.{length_tabulate, tabulate_same}
use Rattle.sets.proofs.Words.{digit_zero, length_flip_bits}
use Rattle.sets.proofs.Filters.{flips_at, holds_below, holds_room_bits, holds_set}
use Rattle.sets.proofs.Canon.{holds_canon}
use Rattle.sets.proofs.Split.{edge_low, set_split}
use Rattle.bitvec.specs.Cells.{xored, zeroed}
use Rattle.bitvec.specs.Parts.{Becomes, Room, SplitOf}
use Rattle.bitvec.proofs.Filling.{filled_rest, later_rest, xored_held, zeroed_first, zeroed_rest, zeroed_zero}
use Rattle.diff_count.specs.Making.{BitsApart, BitsBelow, UpTo}
use Rattle.diff_count.proofs.Flips.{becomes, flipped_at, flipped_rest, tops_empty}

differ_cross : (a b x y : Bool) → differ b (differ a (differ x y)) ≡ differ (differ a x) (differ b y)
differ_cross a b x y =
    ap (differ b) (sym (differ_assoc a x y))
    ∙ sym (differ_assoc b (differ a x) y)
    ∙ ap (λ (d : Bool). differ d y) (differ_comm b (differ a x))
    ∙ differ_assoc (differ a x) b y

-- ---- the blocks of two: above both boundaries they are 0

xored_rest : (k : ℕ) (xs ys old : List ℕ) → drop k (filled (xored k xs ys) k old) ≡ drop k old
unfolding xored
xored_rest k xs ys old = filled_rest (xored k xs ys) k old (length_tabulate k _)

-- zeroed from the block n on, the blocks hold what they held below it, and nothing from there on
module _ (n k : ℕ) (bits : List ℕ) (h : n ≤ k) (l : k ≤ length bits) where
  zeroed_low : (p : ℕ) → p < 64 * n → held (zeroed n k bits) p ≡ held bits p
  unfolding held
  zeroed_low p a =
      let i : p / 64 < n = omega arith in
      ap (λ (x : ℕ). digit x (p % 64))
      (sym (get_or-take n (zeroed n k bits) (p / 64) 0 i) ∙ ap (λ (x : List ℕ). get_or x (p / 64) 0) (zeroed_first n k bits h l)
      ∙ get_or-take n bits (p / 64) 0 i)

  zeroed_high : Empty (held (zeroed n k bits)) (64 * n) (64 * k)
  unfolding held
  zeroed_high p a b = ap (λ (x : ℕ). digit x (p % 64)) (zeroed_zero n k bits h l (p / 64) (omega arith) (omega arith)) ∙ digit_zero (p % 64)

module _ {k a b n : ℕ} {xs ys : List ℕ} (old : List ℕ) (X : BitsBelow k a xs) (Y : BitsBelow k b ys) (r : k ≤ length old)
    (e : n ≡ blocks_for (max a b)) where
  pub bits_fit : n ≤ k
  bits_fit = omega (arith, X.low, Y.low)

  long : length (take n old) ≡ n
  long = length-take-le n old (omega (arith, bits_fit))

  pub slices_fit : (length (take n xs) ≡ length (take n old)) × (length (take n ys) ≡ length (take n old))
  slices_fit =
      (length-take-le n xs (omega (arith, bits_fit, X.room)) ∙ sym long, length-take-le n ys (omega (arith, bits_fit, Y.room)) ∙ sym long)

  -- what the first n blocks of each give are the first n of the two
  xored_part : xored (length (take n old)) (take n xs) (take n ys) ≡ xored n xs ys
  unfolding xored
  xored_part =
      ap (λ (i : ℕ). xored i (take n xs) (take n ys)) long
      ∙ tabulate_same n _ _ 0 (λ i l. ap₂ bit_xor (get_or-take n xs i 0 l) (get_or-take n ys i 0 l))

  module _ {part : List ℕ} (f : part ≡ xored (length (take n old)) (take n xs) (take n ys)) where
    abbrev mid : List ℕ
    mid = filled part n old

    mid_is : mid ≡ filled (xored n xs ys) n old
    mid_is = ap (λ (l : List ℕ). filled l n old) (f ∙ xored_part)

    pub zeros_fit : k ≤ length mid
    unfolding xored
    zeros_fit =
        omega (
          arith,
          bits_fit,
          ap length mid_is,
          length-append (xored n xs ys) (drop n old),
          length_tabulate n (λ i. bit_xor (get_or xs i 0) (get_or ys i 0)),
          length-drop n old,
        )

    pub bits_apart : {now : List ℕ} → now ≡ zeroed n k mid → BitsApart k xs ys old now
    bits_apart {now} g =
        record {
          bits = λ p h. ap (λ (l : List ℕ). held l p) g ∙ go p h (dec_lt p (64 * n));
          rest = ap (drop k) g ∙ zeroed_rest n k mid bits_fit zeros_fit
              ∙ later_rest n k mid old bits_fit (ap (drop n) mid_is ∙ xored_rest n xs ys old);
        }
      where
        go : (p : ℕ) → p < 64 * k → Dec (p < 64 * n) → held (zeroed n k mid) p ≡ apart (held xs) (held ys) p
        go p h (yes l) =
            zeroed_low n k mid bits_fit zeros_fit p l ∙ ap (λ (l : List ℕ). held l p) mid_is ∙ xored_held n xs ys old p l
        go p h (no l) =
            zeroed_high n k mid bits_fit zeros_fit p (omega arith) h
            ∙ sym (ap₂ differ (X.clear p (omega arith) h) (Y.clear p (omega arith) h))

bits_below : {m k : ℕ} {top bits : List ℕ} {count edge : ℕ} {S : Set} → 0 < m → Holds m k top bits count edge S → BitsBelow k edge bits
bits_below {m} {k} {S = S} z H =
    record {
      room = holds_room_bits H;
      low = omega (arith, H.edge_is, edge_low z (set_split m (64 * k) z S));
      clear = (holds_canon z H).clear;
    }

-- ---- two filters

module _ {m k : ℕ} {to₀ to_bits₀ top bits top₂ bits₂ : List ℕ} {count edge count₂ edge₂ : ℕ} {S R : Set} (room : Room m k to₀ to_bits₀)
    (H : Holds m k top bits count edge S) (G : Holds m k top₂ bits₂ count₂ edge₂ R) where
  pub xor_fits : ((k ≤ length to_bits₀) × (64 * k ≤ 2 ^ 32)) × (BitsBelow k edge bits × BitsBelow k edge₂ bits₂)
  xor_fits = ((room.blocks_in, room.small), (bits_below room.some H, bits_below room.some G))

  module _ {b₁ b₂ b₃ : List ℕ} (n : length b₁ ≡ length to_bits₀) (x₁ : BitsApart k bits bits₂ to_bits₀ b₁)
      (e₂ : b₂ ≡ flip_bits b₁ (take count top))
      (e₃ : b₃ ≡ flip_bits b₂ (take count₂ top₂)) where
    crossed : Agree (64 * k) (held b₃) (apart S R)
    crossed p h =
        let t : List ℕ = take count top in
        let t₂ : List ℕ = take count₂ top₂ in
        flipped_at k b₂ t₂ b₃ (omega (arith, room.blocks_in, ap length e₂ ∙ length_flip_bits b₁ t)) (holds_below G) e₃ p
        ∙ ap (differ (odd t₂ p))
        (flipped_at k b₁ t b₂ (omega (arith, room.blocks_in)) (holds_below H) e₂ p
        ∙ ap (differ (odd t p)) (x₁.bits p h))
        ∙ differ_cross (odd t p) (odd t₂ p) (held bits p) (held bits₂ p)
        ∙ ap₂ differ
        (sym (flips_at t (held bits) p) ∙ holds_set H room.some p h)
        (sym (flips_at t₂ (held bits₂) p) ∙ holds_set G room.some p h)

    pub cross_ends : {n₀ n : ℕ} → UpTo (take count top) 0 n₀ → UpTo (take count₂ top₂) n₀ n → (n ≤ k) × Empty (held b₃) (64 * n) (64 * k)
    cross_ends {n₀} {n} u v =
        let t : Below (64 * n) (take count top) = λ i h. omega (arith, u.covers i h, v.low) in (
          v.high k (u.high k (omega arith) (holds_below H)) (holds_below G),
          agree_empty (held b₃) (apart S R) (64 * n) (64 * k) crossed
              (apart_empty S R (64 * n) (64 * k) (tops_empty H n room.some t) (tops_empty G n room.some v.covers)),
        )

    pub cross_becomes : {to to_bits : List ℕ} {count' edge' : ℕ} → SplitOf m k to₀ b₃ to to_bits count' edge'
        → Becomes m k (apart S R) to₀ to_bits₀ to to_bits count' edge'
    cross_becomes s =
        becomes (apart S R) to_bits₀ crossed
        (flipped_rest k b₂ (take count₂ top₂) b₃ (holds_below G) e₃
        ∙ flipped_rest k b₁ (take count top) b₂ (holds_below H) e₂
        ∙ x₁.rest)
        s
