-- Members counted: those of a filter, the last top entry, and the limited count. Assumes nothing.
use mathlib.Core.Path.{◌≡◌, refl, sym, ap, ap₂, ◌∙◌}
use mathlib.Core.Bool.{Bool, true, false, cond, and-false, ◌&&◌}
use mathlib.Core.List.{List}
use Prim.Native.Nat.{ℕ, suc, ◌+◌, ◌-◌, ◌*◌, ◌/◌, ◌%◌, ◌^◌, ◌≤◌, ◌<◌, min}
use native.Mathlib.Decide.{dec_le, dec_lt, ℕ_discrete}
use native.Mathlib.Nat.{add-zero}
use native.Mathlib.Omega.{arith}
use lib.Dec.{eqb, leb}
use lib.ListN.{length, take}
use lib.Seq.{get_or-take}
use borrow.Author.Tests.{eq-eqb, ne_eqb, le-leb, lt-leb}
use Rattle.sets.specs.Sets.{Set, onward, members}
use Rattle.sets.specs.Words.{bit, block_at, digit, held}
use Rattle.sets.specs.Configurations.{blocks_for}
use Rattle.sets.specs.Filter.{Holds, bits_of, boundary, exact_count, last_entry, low, limited_count, limited_bound}
use Rattle.sets.proofs.Laws.{below_out, member_at, member_more, members_gap, members_length, members_same}
use Rattle.sets.proofs.Counts.{full_last, full_rest, members_below, members_mono, onward_all}
use Rattle.sets.proofs.Filters.{holds_bits}
use Rattle.sets.proofs.Split.{edge_low, set_split}
use Rattle.sets.proofs.Words.{digit_word}
use Rattle.bitchunks.specs.Walk.{BlocksOf}
use Rattle.bitchunks.specs.Counts.{LimitedTo}

-- ---- members

pub members_few : (S : Set) (n r : ℕ) → r ≡ length (members S n) → r ≤ n
members_few S n r e = omega (arith, members_length S n)

-- ---- the limited count

pub limited_of_lem : {m n window : ℕ} {S : Set} {count lo bound : ℕ} → count ≡ limited_count m n window S → lo ≡ low m n window S
    → bound ≡ cond (leb count m) 0 (64 * lo) → LimitedTo m n window S count bound
unfolding limited_bound
limited_of_lem {m} c l b = record { count_is = c; bound_is = b ∙ ap₂ (λ (x y : ℕ). cond (leb x m) 0 (64 * y)) c l }

-- ---- a filter

held_take : (n : ℕ) (blocks : List ℕ) (p : ℕ) → p < 64 * n → held (take n blocks) p ≡ held blocks p
unfolding held
held_take n blocks p l = ap (λ (x : ℕ). digit x (p % 64)) (get_or-take n blocks (p / 64) 0 (omega arith))

module _ {m k : ℕ} {bits top blocks : List ℕ} {count edge : ℕ} {S : Set} (z : 0 < m) (P : BlocksOf bits blocks edge)
    (H : Holds m k top blocks count edge S) where
  edge_within : boundary m (64 * k) S ≤ 64 * k
  edge_within = edge_low z (set_split m (64 * k) z S)

  -- the members in the blocks from a on are what the filter's blocks hold from there on
  held_onward : (a from : ℕ) → from ≡ min a (length bits)
      → length (members (onward (64 * from) (held bits)) (64 * length bits)) ≡ length (members (onward (64 * a) (bits_of m (64 * k) S)) (64 * k))
  held_onward a from f =
      let B : Set = bits_of m (64 * k) S in
      ap length (members_same (onward (64 * from) (held bits)) (onward (64 * a) B) (64 * n)
      (λ p l. ap₂ ◌&&◌ (here p l (dec_le (64 * a) p)) (within p l))
      ∙ sym (members_gap (onward (64 * a) B) (64 * n) (64 * k) (omega (arith, P.1, H.edge_is, edge_within))
      (λ p u l. ap (◌&&◌ (leb (64 * a) p)) (below_out (boundary m (64 * k) S) S p (omega (arith, P.1, H.edge_is)))
      ∙ and-false (leb (64 * a) p))))
    where
      n : ℕ
      n = length bits

      within : (p : ℕ) → p < 64 * n → held bits p ≡ bits_of m (64 * k) S p
      within p l =
          ap (λ (x : List ℕ). held x p) P.0 ∙ held_take (blocks_for edge) blocks p (omega (arith, P.1))
          ∙ holds_bits H p (omega (arith, P.1, H.edge_is, edge_within))

      here : (p : ℕ) → p < 64 * n → Dec (64 * a ≤ p) → leb (64 * from) p ≡ leb (64 * a) p
      here p l (yes h) = le-leb (64 * from) p (omega arith) ∙ sym (le-leb (64 * a) p h)
      here p l (no h) = lt-leb (64 * from) p (omega arith) ∙ sym (lt-leb (64 * a) p (omega arith))

  -- the members are those in the top list and those that the blocks hold
  pub exact_is_lem : (r : ℕ) → r ≡ length (members (held bits) (64 * length bits))
      → count + r ≡ exact_count (64 * k) S
  exact_is_lem r f =
      omega (
        arith,
        H.count_is,
        held_onward 0 0 (omega arith),
        onward_all (held bits) (64 * length bits),
        onward_all (bits_of m (64 * k) S) (64 * k),
        ap length (members_below S (boundary m (64 * k) S) (64 * k) edge_within),
        full_rest m (64 * k) S z,
      )

  -- the limited count is read off the last top entry, and the blocks
  pub filter_limited : (last window lo from r bound : ℕ) → last ≡ last_entry m (64 * k) S → lo ≡ blocks_for last - window
      → from ≡ min lo (length bits) → r ≡ length (members (onward (64 * from) (held bits)) (64 * length bits))
      → bound ≡ cond (leb (count + r) m) 0 (64 * lo) → LimitedTo m (64 * k) window S (count + r) bound
  unfolding low limited_count
  filter_limited last window lo from r bound ea el ef er eb =
      let g : lo ≡ low m (64 * k) window S = el ∙ ap (λ (x : ℕ). blocks_for x - window) ea in
      limited_of_lem (ap₂ ◌+◌ H.count_is (er ∙ held_onward lo from ef
      ∙ ap (λ (x : ℕ). length (members (onward (64 * x) (bits_of m (64 * k) S)) (64 * k))) g)) g eb

-- ---- the last top entry, where the list is full

lowest_digit : (S : Set) (i block : ℕ) → block ≡ block_at S i → eqb (block % 2) 1 ≡ S (64 * i)
unfolding digit
lowest_digit S i block e =
    let q : block % 2 ≡ block_at S i / 2 ^ 0 % 2 = omega arith in
    ap (λ (x : ℕ). eqb x 1) q ∙ digit_word S (64 * i) 64 0 (omega arith) ∙ ap S (add-zero (64 * i))

module _ (S : Set) (m n : ℕ) (z : 0 < m) (f : m ≤ length (members S n)) where
  last_in : S (last_entry m n S) ≡ true
  last_in = ap S (full_last m n S z f) ∙ member_at S n (m - 1) (omega arith)

  -- m members are at or above it
  last_rest : m + length (members S (last_entry m n S)) ≡ length (members S n)
  last_rest = omega (arith, ap (λ (x : ℕ). length (members S x)) (full_last m n S z f), full_rest m n S z)

  last_from : (a : ℕ) → m + length (members S a) ≤ length (members S n) → a ≤ last_entry m n S
  last_from a h = go (dec_lt (last_entry m n S) a)
    where
      go : Dec (last_entry m n S < a) → a ≤ last_entry m n S
      go (yes l) = absurd (omega (arith, last_rest, member_more S (last_entry m n S) last_in, members_mono S (suc (last_entry m n S)) a l))
      go (no l) = omega arith

  last_under : (b : ℕ) → length (members S n) < m + length (members S b) → last_entry m n S < b
  last_under b h = go (dec_le b (last_entry m n S))
    where
      go : Dec (b ≤ last_entry m n S) → last_entry m n S < b
      go (yes l) = absurd (omega (arith, last_rest, members_mono S b (last_entry m n S) l))
      go (no l) = omega arith

  -- it stands in the block i, and is the block's lowest bucket where m members are at or above that and it is one of them
  module _ (i total : ℕ) (t : total + length (members S (64 * i)) ≡ length (members S n)) (h : m ≤ total)
      (u : length (members S n) < m + length (members S (64 * suc i))) where
    pub last_near : blocks_for (last_entry m n S) ≤ suc i
    last_near = omega (arith, last_under (64 * suc i) u)

    pub last_blocks : (block upper : ℕ) → block ≡ block_at S i → upper ≡ cond (eqb total m && eqb (block % 2) 1) i (i + 1)
        → upper ≡ blocks_for (last_entry m n S)
    last_blocks block upper eb eu =
        eu ∙ ap (λ (b : Bool). cond (eqb total m && b) i (i + 1)) (lowest_digit S i block eb) ∙ go (ℕ_discrete total m) (S (64 * i)) refl
      where
        above : (64 * i ≡ last_entry m n S → ⊥) → i + 1 ≡ blocks_for (last_entry m n S)
        above ne = omega (arith, ne, last_from (64 * i) (omega arith), last_under (64 * suc i) u)

        go : Dec (total ≡ m) → (b : Bool) → S (64 * i) ≡ b → cond (eqb total m && b) i (i + 1) ≡ blocks_for (last_entry m n S)
        go (yes e) true s =
            rw (eq-eqb total m e)
            (omega (arith, last_from (64 * i) (omega arith), last_under (suc (64 * i)) (omega (arith, member_more S (64 * i) s))))
        go (yes e) false s = rw (eq-eqb total m e) (above (λ x. omega (arith, ap bit (sym last_in ∙ ap S (sym x) ∙ s))))
        go (no e) b s = rw (ne_eqb total m e) (above (λ x. omega (arith, e, last_rest, ap (λ (y : ℕ). length (members S y)) x)))
