-- A walk over the record and areas of a filter, or over a row, goes over the set that they show. Assumes nothing.
use mathlib.Core.Path.{◌≡◌, refl, sym, ap, ap₂, ◌∙◌, subst}
use mathlib.Core.Bool.{Bool, false, ◌&&◌, ◌||◌}
use mathlib.Core.Logic.{◌⊎◌}
use mathlib.Core.List.{List}
use Prim.Native.Nat.{ℕ, ◌+◌, ◌-◌, ◌*◌, ◌/◌, ◌%◌, ◌^◌, ◌≤◌, ◌<◌, min}
use native.Mathlib.Nat.{div-add-mod', mul-le-mul_right}
use native.Mathlib.Decide.{dec_lt}
use native.Mathlib.Omega.{arith}
use lib.ListN.{length, length-take, take, drop, get_or-eq_default}
use lib.Seq.{get_or-take, length-take-le}
use borrow.Author.Tests.{le-leb}
use Rattle.sets.specs.Sets.{Agree, Falls, Set, among, below}
use Rattle.sets.specs.Words.{digit, held}
use Rattle.sets.specs.Configurations.{Config, W, blocks_for}
use Rattle.sets.specs.Filter.{Holds, joined, shown}
use Rattle.sets.specs.Row.{numbers, row_block_count, row_blocks, row_boundary, row_entries, shown_row, top_bytes}
use Rattle.sets.proofs.Laws.{below_in, below_out}
use Rattle.sets.proofs.Words.{held_zero}
use Rattle.sets.proofs.Split.{edge_low, set_split}
use Rattle.sets.proofs.Shown.{shown_set}
use Rattle.sets.proofs.Canon.{Canon, holds_canon}
use Rattle.sets.proofs.Bytes.{length_numbers}
use Rattle.sets.proofs.Rows.{shown_row_lem}
use Rattle.sets.proofs.Reading.{Faultless}
use Rattle.bitchunks.specs.Walk.{Ahead, PartsOf, merged}
use Rattle.bitchunks.specs.Rows.{RowWalks, entries, layout_of, row_set}
use Rattle.bitchunks.proofs.Rows.{width_bytes_of}
use Rattle.bitchunks.proofs.Walk.{ahead_start}

-- ---- what blocks hold that have nothing at or above the edge
module _ (tops : List ℕ) (edge : ℕ) (bits : List ℕ) (R : Set) (p : ℕ) where
  merged_joined : (p < edge → held bits p ≡ R p) → (edge ≤ p → held bits p ≡ false) → merged tops 0 bits p ≡ joined tops edge R p
  unfolding merged
  merged_joined low high =
      let e : p - 64 * 0 ≡ p = omega arith in
      ap (◌||◌ (among tops p)) (ap₂ (λ (b : Bool) (x : ℕ). b && held bits x) (le-leb 0 p (omega arith)) e ∙ go (dec_lt p edge))
    where
      go : Dec (p < edge) → held bits p ≡ below edge R p
      go (yes l) = low l ∙ sym (below_in edge R p l)
      go (no l) = high (omega arith) ∙ sym (below_out edge R p (omega arith))

-- ---- a filter

-- the walk looks at the blocks for the boundary
pub filter_walk : {m k : ℕ} {top blocks : List ℕ} {count edge : ℕ} → blocks_for edge ≤ length blocks → Canon m k top blocks count edge
    → Agree (64 * k) (merged (take count top) 0 (take (blocks_for edge) blocks)) (shown top blocks count edge)
unfolding held
filter_walk {m} {k} {top} {blocks} {count} {edge} h C p l = merged_joined (take count top) edge (take n blocks) (held blocks) p low high
  where
    n : ℕ
    n = blocks_for edge

    within : p / 64 < n → held (take n blocks) p ≡ held blocks p
    within u = ap (λ (x : ℕ). digit x (p % 64)) (get_or-take n blocks (p / 64) 0 u)

    low : p < edge → held (take n blocks) p ≡ held blocks p
    low u = within (omega arith)

    high : edge ≤ p → held (take n blocks) p ≡ false
    high u = go (dec_lt (p / 64) n)
      where
        go : Dec (p / 64 < n) → held (take n blocks) p ≡ false
        go (yes v) = within v ∙ C.clear p u l
        go (no v) =
            held_zero (take n blocks) (p / 64) p (get_or-eq_default (take n blocks) 0 {n = p / 64}
            (omega (arith, length-take-le n blocks h))) (omega arith)

-- so from the parts of a set's filter it goes over that set
pub parts_walk : {m k : ℕ} {tops bits top blocks : List ℕ} {count edge : ℕ} {S : Set} → 0 < m → 64 * k ≤ 2 ^ 32
    → PartsOf tops bits top count blocks edge → Holds m k top blocks count edge S
    → Ahead tops 0 k × Agree (64 * k) (merged tops 0 bits) S
parts_walk {m} {k} {tops} {bits} {top} {blocks} {count} {edge} {S} z small P H = (
  ahead_start tops k (subst (Falls (64 * k)) (sym P.tops_are) C.falling) small,
  λ p h. ap₂ (λ (x y : List ℕ). merged x 0 y p) P.tops_are P.bits_are ∙ filter_walk within C p h ∙ shown_set H z p h,
)
  where
    C : Canon m k top blocks count edge
    C = holds_canon z H

    within : blocks_for edge ≤ length blocks
    within = omega (arith, P.bits_count, ap length P.bits_are, length-take (blocks_for edge) blocks)

-- and a set's filter has these parts, in areas that are large enough
pub holds_walk : {m k : ℕ} {top blocks : List ℕ} {count edge : ℕ} {S : Set} → 0 < m → 64 * k ≤ 2 ^ 32 → m ≤ length top → k ≤ length blocks
    → Holds m k top blocks count edge S
    → ((count ≤ length top) × (blocks_for edge ≤ length blocks) × Ahead (take count top) 0 k)
    × Agree (64 * k) (merged (take count top) 0 (take (blocks_for edge) blocks)) S
holds_walk {m} {k} {top} {blocks} {count} {edge} {S} z small n nb H = ((few, within, walk.0), walk.1)
  where
    few : count ≤ length top
    few = omega (arith, (holds_canon z H).few)

    within : blocks_for edge ≤ length blocks
    within = omega (arith, H.edge_is, edge_low z (set_split m (64 * k) z S))

    walk : Ahead (take count top) 0 k × Agree (64 * k) (merged (take count top) 0 (take (blocks_for edge) blocks)) S
    walk =
        parts_walk z small (record {
          tops_are = refl;
          tops_count = length-take-le count top few;
          bits_are = refl;
          bits_count = length-take-le (blocks_for edge) blocks within;
        }) H

-- ---- a row

-- the walk looks at all its blocks
pub row_walk : (c : Config) (bs : List ℕ) → Faultless c bs → (p : ℕ) → merged (row_entries c bs) 0 (row_blocks c bs) p ≡ shown_row c bs p
unfolding row_blocks
row_walk c bs F p =
    merged_joined (row_entries c bs) (row_boundary c bs) (row_blocks c bs) (held (row_blocks c bs)) p (λ u. refl) high
    ∙ ap (λ (S : Set). S p) (sym (shown_row_lem c bs))
  where
    high : row_boundary c bs ≤ p → held (row_blocks c bs) p ≡ false
    high u = go (dec_lt p (64 * row_block_count c bs))
      where
        go : Dec (p < 64 * row_block_count c bs) → held (row_blocks c bs) p ≡ false
        go (yes v) = F.clear p u v
        go (no v) =
            held_zero (row_blocks c bs) (p / 64) p (get_or-eq_default (row_blocks c bs) 0 {n = p / 64}
            (omega (arith, length_numbers 8 (row_block_count c bs) (drop (top_bytes c + 1) bs)))) (omega arith)

-- the same by the layout of a row, whose entries have 2 or 4 bytes
pub entries_are : (c : Config) (bs : List ℕ) → (c.entry ≡ 2) ⊎ (c.entry ≡ 4) → entries (layout_of c bs) bs ≡ row_entries c bs
unfolding row_entries
entries_are c bs w = ap (λ (x : ℕ). numbers x (min c.M (length bs / c.entry)) bs) (width_bytes_of w)

pub layout_walk : (c : Config) (bs : List ℕ) → (c.entry ≡ 2) ⊎ (c.entry ≡ 4) → Faultless c bs
    → (p : ℕ) → row_set (layout_of c bs) bs p ≡ shown_row c bs p
unfolding row_blocks
layout_walk c bs w F p = ap (λ (l : List ℕ). merged l 0 (row_blocks c bs) p) (entries_are c bs w) ∙ row_walk c bs F p

pub row_walks : (c : Config) (bs : List ℕ) (k : ℕ) → (c.entry ≡ 2) ⊎ (c.entry ≡ 4) → W c ≡ 64 * k → W c ≤ 2 ^ 32
    → length bs ≤ 2 ^ 32 → Faultless c bs
    → RowWalks (layout_of c bs) bs 0 k
row_walks c bs k w e small len F = (
  record {
    entries_in = subst (λ (x : ℕ). min c.M (length bs / c.entry) * x ≤ length bs) (sym (width_bytes_of w)) within;
    blocks_in = omega arith;
    small = omega arith;
  },
  subst (λ (l : List ℕ). Ahead l 0 k) (sym (entries_are c bs w))
      (ahead_start (row_entries c bs) k (subst (λ (x : ℕ). Falls x (row_entries c bs)) e F.falling) (omega arith)),
)
  where
    within : min c.M (length bs / c.entry) * c.entry ≤ length bs
    within =
        let q : ℕ = length bs / c.entry in
        let l : min c.M q ≤ q = omega arith in
        omega (arith, mul-le-mul_right c.entry l, div-add-mod' (length bs) c.entry)
