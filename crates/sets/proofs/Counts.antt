-- The laws of the exact and the limited count. Assumes nothing.
use mathlib.Core.Path.{◌≡◌, sym, ap, ap₂, ◌∙◌}
use mathlib.Core.Bool.{Bool, true, false, cond, and-false, ◌&&◌}
use mathlib.Core.List.{List, [], ◌∷◌}
use Prim.Native.Nat.{ℕ, suc, ◌+◌, ◌-◌, ◌*◌, ◌/◌, ◌≤◌, ◌<◌, min}
use native.Mathlib.Decide.{le_ind, dec_lt}
use native.Mathlib.Omega.{arith}
use lib.Dec.{leb}
use lib.ListN.{length, get_or, take, length-drop, get_or-eq_default}
use lib.Seq.{get_or-take, take_all}
use Rattle.sets.specs.Sets.{Agree, Set, below, onward, members}
use Rattle.sets.specs.Filter.{top_count, boundary, exact_count, last_entry, low, limited_count, limited_bound}
use Rattle.sets.proofs.Laws.{members_same, members_gap, members_none, members_fall, below_in, below_out, onward_in, onward_out}
use Rattle.sets.proofs.Laws.{falls_at}
use Rattle.sets.proofs.Filters.{members_drop, drop_edge}

-- ---- at or above, and below

-- the members below b are those of the set cut there
pub members_below : (S : Set) (b n : ℕ) → b ≤ n → members (below b S) n ≡ members S b
members_below S b n h =
    members_gap (below b S) b n h (λ p a l. below_out b S p a) ∙ members_same (below b S) S b (λ p l. below_in b S p l)

-- the members are those at or above b and those below it
pub members_onward : (S : Set) (b n : ℕ) → b ≤ n → length (members (onward b S) n) + length (members S b) ≡ length (members S n)
unfolding members
members_onward S b n h =
    le_ind (λ (k : ℕ). length (members (onward b S) k) + length (members S b) ≡ length (members S k))
    (omega (arith, ap length (members_none (onward b S) b (λ p l. onward_out b S p l))))
    (λ k l ih.
    ap (λ (x : Bool). length (cond x (k ∷ members (onward b S) k) (members (onward b S) k)) + length (members S b)) (onward_in b S k l)
    ∙ go k (S k) ih)
    n
    h
  where
    go : (k : ℕ) (x : Bool) → length (members (onward b S) k) + length (members S b) ≡ length (members S k)
        → length (cond x (k ∷ members (onward b S) k) (members (onward b S) k)) + length (members S b)
        ≡ length (cond x (k ∷ members S k) (members S k))
    go k true ih = omega arith
    go k false ih = ih

-- from 0 on they are all
pub onward_all : (S : Set) (n : ℕ) → length (members (onward 0 S) n) ≡ length (members S n)
unfolding members
onward_all S n = omega (arith, members_onward S 0 n (omega arith))

-- there are no fewer below a higher number
pub members_mono : (S : Set) (a b : ℕ) → a ≤ b → length (members S a) ≤ length (members S b)
members_mono S a b h = omega (arith, members_onward S a b h)

-- ---- the limited count

-- 01's low counts from the last top entry: with a full list that is the boundary, and with fewer no member stands below it.
module _ (m n : ℕ) (S : Set) (z : 0 < m) where
  -- with a full list the last top entry is the boundary, and m members stand at or above it
  pub full_last : m ≤ length (members S n) → last_entry m n S ≡ boundary m n S
  full_last f =
      let e : top_count m n S - 1 ≡ m - 1 = omega arith in
      ap (λ (i : ℕ). get_or (take m (members S n)) i 0) e ∙ get_or-take m (members S n) (m - 1) 0 (omega arith)

  pub full_rest : length (members S (boundary m n S)) ≡ length (members S n) - m
  full_rest = ap length (sym (drop_edge S m n z)) ∙ length-drop m (members S n)

  few_last : length (members S n) < m → last_entry m n S ≡ get_or (members S n) (length (members S n) - 1) 0
  few_last f =
      let e : top_count m n S - 1 ≡ length (members S n) - 1 = omega arith in
      ap₂ (λ (l : List ℕ) (i : ℕ). get_or l i 0) (take_all m (members S n) (omega arith)) e

  few_rest : length (members S n) < m → length (members S (last_entry m n S)) ≡ 0
  few_rest f =
      let k : ℕ = length (members S n) - 1 in
      ap (λ (x : ℕ). length (members S x)) (few_last f) ∙ ap length (sym (members_drop S k n)) ∙ length-drop (suc k) (members S n)
      ∙ omega arith

  few_edge : length (members S n) < m → boundary m n S ≡ 0
  few_edge f = get_or-eq_default (members S n) 0 {n = m - 1} (omega arith)

  last_small : last_entry m n S ≤ n
  last_small = go (dec_lt (length (members S n)) m) (dec_lt 0 (length (members S n)))
    where
      at : (i : ℕ) → i < length (members S n) → get_or (members S n) i 0 < n
      at i h = falls_at (members S n) n i (members_fall S n) h

      go : Dec (length (members S n) < m) → Dec (0 < length (members S n)) → last_entry m n S ≤ n
      go (yes f) (yes g) = omega (arith, few_last f, at (length (members S n) - 1) (omega arith))
      go (yes f) (no g) = omega (arith, few_last f, get_or-eq_default (members S n) 0 {n = length (members S n) - 1} (omega arith))
      go (no f) g = omega (arith, full_last (omega arith), at (m - 1) (omega arith))

  module _ (window : ℕ) (w : 1 ≤ window) where
    -- the window begins at or below the last top entry
    low_last : 64 * low m n window S ≤ last_entry m n S
    unfolding low
    low_last = omega arith

    -- what the count leaves out are the members below the window
    limited_rest : limited_count m n window S + length (members S (64 * low m n window S)) ≡ length (members S n)
    unfolding limited_count
    limited_rest = go (dec_lt (length (members S n)) m)
      where
        start : ℕ
        start = 64 * low m n window S

        edge : ℕ
        edge = boundary m n S

        go : Dec (length (members S n) < m)
            → top_count m n S + length (members (onward start (below edge S)) n) + length (members S start) ≡ length (members S n)
        go (yes f) =
            let none : members (onward start (below edge S)) n ≡ [] =
            members_none (onward start (below edge S)) n (λ p h. ap (◌&&◌ (leb start p))
            (below_out edge S p (omega (arith, few_edge f))) ∙ and-false (leb start p)) in
            omega (arith, ap length none, members_onward S start (last_entry m n S) low_last, few_rest f)
        go (no f) =
            let e : last_entry m n S ≡ edge = full_last (omega arith) in
            let cut : members (below edge S) start ≡ members S start =
            members_same (below edge S) S start (λ p h. below_in edge S p (omega (arith, low_last))) in
            omega (
              arith,
              full_rest,
              ap length cut,
              ap length (members_below S edge n (omega (arith, last_small))),
              members_onward (below edge S) start n (omega (arith, low_last, last_small)),
            )

    -- the limited count is the number of members at or above 64·low
    pub limited_is_lem : limited_count m n window S ≡ length (members (onward (64 * low m n window S) S) n)
    limited_is_lem = omega (arith, limited_rest, members_onward S (64 * low m n window S) n (omega (arith, low_last, last_small)))

    pub limited_le : limited_count m n window S ≤ exact_count n S
    limited_le = omega (arith, limited_rest)

    -- where the bound is above 0, at or above the bound
    pub bound_is_lem : 0 < limited_bound m n window S → limited_count m n window S ≡ length (members (onward (limited_bound m n window S) S) n)
    unfolding limited_bound
    bound_is_lem = go (leb (limited_count m n window S) m)
      where
        go : (b : Bool) → 0 < cond b 0 (64 * low m n window S)
            → limited_count m n window S ≡ length (members (onward (cond b 0 (64 * low m n window S)) S) n)
        go true h = absurd (omega arith)
        go false h = limited_is_lem

    -- it is the exact count where the window reaches down to bucket 0, and of a set of at most m members
    pub limited_low : low m n window S ≡ 0 → limited_count m n window S ≡ exact_count n S
    unfolding members
    limited_low e = omega (arith, limited_rest, ap (λ (x : ℕ). length (members S (64 * x))) e)

    pub limited_few : exact_count n S ≤ m → limited_count m n window S ≡ exact_count n S
    limited_few f = omega (arith, limited_rest, members_onward S (64 * low m n window S) (last_entry m n S) low_last, none_left)
      where
        none_left : length (members S (last_entry m n S)) ≡ 0
        none_left = go (dec_lt (length (members S n)) m)
          where
            go : Dec (length (members S n) < m) → length (members S (last_entry m n S)) ≡ 0
            go (yes l) = few_rest l
            go (no l) = ap (λ (x : ℕ). length (members S x)) (full_last (omega arith)) ∙ omega (arith, full_rest)

-- ---- sets that agree below n

module _ (m n : ℕ) (S R : Set) (z : 0 < m) (h : Agree n S R) where
  same_list : members S n ≡ members R n
  same_list = members_same S R n h

  same_low : (window : ℕ) → low m n window S ≡ low m n window R
  unfolding low
  same_low window = ap (λ (l : List ℕ). (get_or (take m l) (min m (length l) - 1) 0 + 63) / 64 - window) same_list

  module _ (window : ℕ) (w : 1 ≤ window) where
    pub limited_same : limited_count m n window S ≡ limited_count m n window R
    limited_same =
        limited_is_lem m n S z window w
        ∙ ap (λ (x : ℕ). length (members (onward (64 * x) S) n)) (same_low window)
        ∙ ap length (members_same (onward (64 * low m n window R) S) (onward (64 * low m n window R) R) n
        (λ p l. ap (◌&&◌ (leb (64 * low m n window R) p)) (h p l)))
        ∙ sym (limited_is_lem m n R z window w)

    pub bound_same : limited_bound m n window S ≡ limited_bound m n window R
    unfolding limited_bound
    bound_same = ap₂ (λ (x y : ℕ). cond (leb x m) 0 (64 * y)) limited_same (same_low window)
