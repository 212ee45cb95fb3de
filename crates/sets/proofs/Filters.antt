-- The laws of a set's filter: from the two areas back to the set. Assumes nothing.
use mathlib.Core.Path.{◌≡◌, refl, sym, ap, ap₂, ◌∙◌, subst}
use mathlib.Core.Bool.{Bool, true, false, cond, ◌&&◌}
use mathlib.Core.Logic.{◌⊎◌, inl, inr}
use mathlib.Core.List.{List, [], ◌∷◌}
use Prim.Native.Nat.{ℕ, zero, suc, ◌+◌, ◌-◌, ◌*◌, ◌/◌, ◌%◌, ◌^◌, ◌≤◌, ◌<◌, min}
use native.Mathlib.Decide.{ℕ_discrete}
use native.Mathlib.Omega.{arith}
use lib.Dec.{ltb}
use lib.ListN.{length, get_or, set, take, drop, length-take, take-append-drop}
use lib.Bits.{bit_xor}
use lib.Seq.{get_or-set_same, get_or-set_other, get_or-take, ext_get_or, length-take-le}
use Rattle.sets.specs.Sets.{Agree, Below, Set, below, differ, flip, flips, members, odd, tabulate}
use Rattle.sets.specs.Words.{block_at, digit, flip_bit, held}
use Rattle.sets.specs.Filter.{Holds, bit_cells, boundary, top_cells}
use Rattle.sets.proofs.Laws.{flips_odd, odd_append, members_same, members_odd, members_fall, below_in, falls_at}
use Rattle.sets.proofs.Words.{digit_word, held_word, word_same, word_flip, word_flip_other}
use Rattle.sets.proofs.Lists.{length_tabulate, get_d_tabulate, tabulate_same, take_tabulate}

-- the members are none, or the largest and those below it
Shape : Set → ℕ → Type 0
Shape S n = (members S n ≡ []) ⊎ ((x : ℕ) × (x < n) × (members S n ≡ x ∷ members S x))

shape : (S : Set) (n : ℕ) → Shape S n
unfolding members Shape
shape S zero = inl refl
shape S (suc n) = go (S n) (shape S n)
  where
    more : (l : List ℕ) → (l ≡ []) ⊎ ((x : ℕ) × (x < n) × (l ≡ x ∷ members S x))
        → (l ≡ []) ⊎ ((x : ℕ) × (x < suc n) × (l ≡ x ∷ members S x))
    more l (inl e) = inl e
    more l (inr w) = inr (w.0, omega (arith, w.1), w.2)

    go : (b : Bool) → (members S n ≡ []) ⊎ ((x : ℕ) × (x < n) × (members S n ≡ x ∷ members S x))
        → (cond b (n ∷ members S n) (members S n) ≡ []) ⊎
        ((x : ℕ) × (x < suc n) × (cond b (n ∷ members S n) (members S n) ≡ x ∷ members S x))
    go true w = inr (n, omega arith, refl)
    go false w = more (members S n) w

-- past the m + 1 largest stand the members below the last of these
pub members_drop : (S : Set) (m n : ℕ) → drop (suc m) (members S n) ≡ members S (get_or (members S n) m 0)
unfolding members Shape
members_drop S zero n = go (shape S n)
  where
    P : List ℕ → Type 0
    P l = drop 1 l ≡ members S (get_or l 0 0)

    go : Shape S n → P (members S n)
    go (inl e) = subst P (sym e) refl
    go (inr w) = subst P (sym w.2) refl
members_drop S (suc m) n = go (λ x. members_drop S m x) (shape S n)
  where
    P : List ℕ → Type 0
    P l = drop (suc (suc m)) l ≡ members S (get_or l (suc m) 0)

    go : ((x : ℕ) → drop (suc m) (members S x) ≡ members S (get_or (members S x) m 0)) → Shape S n → P (members S n)
    go ih (inl e) = subst P (sym e) refl
    go ih (inr w) = subst P (sym w.2) (ih w.0)

pub drop_edge : (S : Set) (m n : ℕ) → 0 < m → drop m (members S n) ≡ members S (boundary m n S)
drop_edge S m n z =
    let e : m ≡ suc (m - 1) = omega arith in
    ap (λ (x : ℕ). drop x (members S n)) e ∙ members_drop S (m - 1) n

-- the m largest, flipped back into what stands below the edge, give the set
pub fold_back : (S : Set) (m n p : ℕ) → 0 < m → p < n → differ (odd (take m (members S n)) p) (below (boundary m n S) S p) ≡ S p
fold_back S m n p z h =
    ap (differ (odd (take m (members S n)) p)) (sym (members_odd S (boundary m n S) p)
    ∙ ap (λ (l : List ℕ). odd l p) (sym (drop_edge S m n z)))
    ∙ sym (odd_append (take m (members S n)) (drop m (members S n)) p)
    ∙ ap (λ (l : List ℕ). odd l p) (take-append-drop m (members S n))
    ∙ members_odd S n p
    ∙ below_in n S p h

pub flips_at : (bs : List ℕ) (S : Set) (p : ℕ) → flips bs S p ≡ differ (odd bs p) (S p)
flips_at bs S p = ap (λ (R : Set). R p) (flips_odd bs S)

-- flips keep sets that agree together
pub flips_agree : (bs : List ℕ) (S R : Set) (p : ℕ) → S p ≡ R p → flips bs S p ≡ flips bs R p
flips_agree bs S R p h = flips_at bs S p ∙ ap (differ (odd bs p)) h ∙ sym (flips_at bs R p)

-- ---- what the areas of a filter tell

pub length_top : (m n : ℕ) (S : Set) → length (top_cells m n S) ≡ m
unfolding top_cells
length_top m n S = length_tabulate m _

pub length_bits : (m n k : ℕ) (S : Set) → length (bit_cells m n k S) ≡ k
unfolding bit_cells
length_bits m n k S = length_tabulate k _

module _ {m k : ℕ} {top blocks : List ℕ} {count edge : ℕ} {S : Set} (H : Holds m k top blocks count edge S) where
  pub holds_room_top : m ≤ length top
  holds_room_top = omega (arith, length-take m top, ap length H.tops ∙ length_top m (64 * k) S)

  pub holds_room_bits : k ≤ length blocks
  holds_room_bits = omega (arith, length-take k blocks, ap length H.bits ∙ length_bits m (64 * k) k S)

  pub count_fits : count ≤ length top
  count_fits = omega (arith, holds_room_top, H.count_is)

  -- a top cell is a member
  pub top_at : (i : ℕ) → i < m → get_or top i 0 ≡ get_or (members S (64 * k)) i 0
  unfolding top_cells
  top_at i h =
      sym (get_or-take m top i 0 h) ∙ ap (λ (l : List ℕ). get_or l i 0) H.tops ∙ get_d_tabulate m (λ j. get_or (members S (64 * k)) j 0) i 0 h

  pub holds_tops : take count top ≡ take m (members S (64 * k))
  holds_tops =
      let c = count_fits in
      ext_get_or 0 (take count top) (take m (members S (64 * k)))
      (omega (arith, length-take-le count top c, length-take m (members S (64 * k)), H.count_is))
      (λ i h.
      let a : i < count = omega (arith, length-take-le count top c) in
      let b : i < m = omega (arith, H.count_is) in
      get_or-take count top i 0 a ∙ top_at i b ∙ sym (get_or-take m (members S (64 * k)) i 0 b))

  pub holds_below : Below (64 * k) (take count top)
  holds_below i h =
      let c = count_fits in
      let a : i < count = omega (arith, length-take-le count top c) in
      let e : get_or (take count top) i 0 ≡ get_or (members S (64 * k)) i 0 =
      get_or-take count top i 0 a ∙ top_at i (omega (arith, H.count_is)) in
      omega (arith, falls_at (members S (64 * k)) (64 * k) i (members_fall S (64 * k)) (omega (arith, H.count_is)))

  pub holds_bits : (p : ℕ) → p < 64 * k → held blocks p ≡ below (boundary m (64 * k) S) S p
  unfolding held bit_cells
  holds_bits p h =
      let E : Set = below (boundary m (64 * k) S) S in
      let i : p / 64 < k = omega arith in
      let e : 64 * (p / 64) + p % 64 ≡ p = omega arith in
      ap (λ (x : ℕ). digit x (p % 64)) (sym (get_or-take k blocks (p / 64) 0 i) ∙ ap (λ (l : List ℕ). get_or l (p / 64) 0) H.bits
      ∙ get_d_tabulate k (block_at E) (p / 64) 0 i)
      ∙ digit_word E (64 * (p / 64)) 64 (p % 64) (omega arith)
      ∙ ap E e

  -- the top members flipped into the bitmap give the set
  pub holds_set : 0 < m → (p : ℕ) → p < 64 * k → flips (take count top) (held blocks) p ≡ S p
  holds_set z p h =
      flips_at (take count top) (held blocks) p
      ∙ ap₂ differ (ap (λ (l : List ℕ). odd l p) holds_tops) (holds_bits p h)
      ∙ fold_back S m (64 * k) p z h

-- sets that agree on the buckets have the same filter
module _ (m k : ℕ) (S R : Set) (h : Agree (64 * k) S R) where
  same_members : members S (64 * k) ≡ members R (64 * k)
  same_members = members_same S R (64 * k) h

  pub holds_same : {top blocks : List ℕ} {count edge : ℕ} → Holds m k top blocks count edge S → Holds m k top blocks count edge R
  unfolding top_cells bit_cells
  holds_same H =
      record {
        count_is = H.count_is ∙ ap (λ (l : List ℕ). min m (length l)) same_members;
        edge_is = H.edge_is ∙ ap (λ (l : List ℕ). get_or l (m - 1) 0) same_members;
        tops = H.tops ∙ ap (λ (l : List ℕ). tabulate m (λ i. get_or l i 0)) same_members;
        bits = H.bits ∙ ap (λ (e : ℕ). tabulate k (block_at (below e S))) (ap (λ (l : List ℕ). get_or l (m - 1) 0) same_members)
            ∙ tabulate_same k (block_at (below (boundary m (64 * k) R) S)) (block_at (below (boundary m (64 * k) R) R)) 0
            (λ i l. word_same (below (boundary m (64 * k) R) S) (below (boundary m (64 * k) R) R) (64 * i) 64
            (λ j b. ap (◌&&◌ (ltb (64 * i + j) (boundary m (64 * k) R))) (h (64 * i + j) (omega arith))));
      }

-- ---- the other view of a bitmap: its first k cells are the blocks of S

-- then it holds S
pub blocks_held : (l : List ℕ) (k : ℕ) (S : Set) → ((i : ℕ) → i < k → get_or l i 0 ≡ block_at S i) → (p : ℕ) → p < 64 * k → held l p ≡ S p
unfolding held
blocks_held l k S h p a =
    let e : 64 * (p / 64) + p % 64 ≡ p = omega arith in
    ap (λ (x : ℕ). digit x (p % 64)) (h (p / 64) (omega arith)) ∙ digit_word S (64 * (p / 64)) 64 (p % 64) (omega arith) ∙ ap S e

-- blocks whose set agrees with another are the blocks of that one
pub held_blocks : (k : ℕ) (blocks : List ℕ) (S : Set) → k ≤ length blocks → ((i : ℕ) → get_or blocks i 0 < 2 ^ 64)
    → Agree (64 * k) (held blocks) S
    → take k blocks ≡ tabulate k (block_at S)
held_blocks k blocks S l f h =
    take_tabulate k (block_at S) blocks l
    (λ i a. sym (held_word blocks i (f i)) ∙ word_same (held blocks) S (64 * i) 64 (λ j b. h (64 * i + j) (omega arith)))

-- and with the digit of p changed its cells are the blocks of the set with p flipped
pub blocks_flip : (l : List ℕ) (k p : ℕ) (S : Set) → k ≤ length l → p < 64 * k → ((i : ℕ) → i < k → get_or l i 0 ≡ block_at S i)
    → (i : ℕ) → i < k → get_or (flip_bit l p) i 0 ≡ block_at (flip p S) i
unfolding flip_bit
blocks_flip l k p S n a h i b = go (ℕ_discrete i (p / 64))
  where
    v : ℕ
    v = bit_xor (get_or l (p / 64) 0) (2 ^ (p % 64))

    go : Dec (i ≡ p / 64) → get_or (set l (p / 64) v) i 0 ≡ block_at (flip p S) i
    go (yes e) =
        ap (λ (x : ℕ). get_or (set l (p / 64) v) x 0) e ∙ get_or-set_same l (p / 64) v 0 (omega arith)
        ∙ ap (λ (x : ℕ). bit_xor x (2 ^ (p % 64))) (h (p / 64) (omega arith)) ∙ sym (word_flip p S) ∙ ap (block_at (flip p S)) (sym e)
    go (no e) = get_or-set_other l (p / 64) i v 0 e ∙ h i b ∙ sym (word_flip_other p S i e)
