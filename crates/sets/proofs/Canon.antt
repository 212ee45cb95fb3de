-- What a judge looks at, cell by cell: it holds exactly where record and areas are some set's filter. Assumes nothing.
use mathlib.Core.Path.{◌≡◌, refl, sym, ap, ◌∙◌, subst}
use mathlib.Core.Bool.{Bool, true, false}
use mathlib.Core.List.{List}
use Prim.Native.Nat.{ℕ, ◌-◌, ◌*◌, ◌^◌, ◌≤◌, ◌<◌}
use native.Mathlib.Decide.{dec_lt}
use native.Mathlib.Omega.{arith}
use lib.ListN.{length, get_or, take, length-take, get_or-eq_default}
use lib.Seq.{get_or-take, length-take-le}
use Rattle.sets.specs.Sets.{Empty, Falls, Set, below, members, tabulate}
use Rattle.sets.specs.Words.{block_at, held}
use Rattle.sets.specs.Filter.{Holds, bit_cells, boundary, is_filter, shown, top_cells}
use Rattle.sets.proofs.Laws.{members_fall, falls_take, below_out}
use Rattle.sets.proofs.Lists.{take_tabulate}
use Rattle.sets.proofs.Filters.{held_blocks, top_at, holds_tops, holds_bits}
use Rattle.sets.proofs.Split.{Split, joined_top, joined_edge, joined_bit}
use Rattle.sets.proofs.Shown.{holds_filter, filter_holds}

-- What record and areas of a set's filter look like, cell by cell.
pub record Canon (m k : ℕ) (top blocks : List ℕ) (count edge : ℕ) : Type 0 where
  pub few : count ≤ m
  pub falling : Falls (64 * k) (take count top)
  pub unused : (i : ℕ) → count ≤ i → i < m → get_or top i 0 ≡ 0
  pub edge_is : edge ≡ get_or top (m - 1) 0
  pub clear : Empty (held blocks) edge (64 * k)

module _ {m k : ℕ} {top blocks : List ℕ} {count edge : ℕ} (z : 0 < m) (n : m ≤ length top) (C : Canon m k top blocks count edge) where
  count_is_lem : length (take count top) ≡ count
  count_is_lem = length-take-le count top (omega (arith, C.few))

  cell : (i : ℕ) → i < m → get_or top i 0 ≡ get_or (take count top) i 0
  cell i h = go (dec_lt i count)
    where
      go : Dec (i < count) → get_or top i 0 ≡ get_or (take count top) i 0
      go (yes l) = sym (get_or-take count top i 0 l)
      go (no l) = C.unused i (omega arith) h ∙ sym (get_or-eq_default (take count top) 0 {n = i} (omega (arith, count_is_lem)))

  canon_split : Split m (64 * k) (take count top) edge
  canon_split =
      record {
        few = omega (arith, count_is_lem, C.few);
        falling = C.falling;
        edge_is = C.edge_is ∙ cell (m - 1) (omega arith);
      }

  pub canon_holds : k ≤ length blocks → ((i : ℕ) → get_or blocks i 0 < 2 ^ 64) → Holds m k top blocks count edge (shown top blocks count edge)
  unfolding top_cells bit_cells
  canon_holds nb fit =
      let S : Set = shown top blocks count edge in
      let l : List ℕ = members S (64 * k) in
      let t : take m l ≡ take count top = joined_top z canon_split (held blocks) in
      let e : edge ≡ boundary m (64 * k) S = sym (joined_edge z canon_split (held blocks)) in
      record {
        count_is = sym count_is_lem ∙ ap length (sym t) ∙ length-take m l;
        edge_is = e;
        tops = take_tabulate m (λ i. get_or l i 0) top n (λ i h. cell i h ∙ ap (λ (x : List ℕ). get_or x i 0) (sym t) ∙ get_or-take m l i 0 h);
        bits = held_blocks k blocks (below edge S) nb fit (λ p h. joined_bit z canon_split (held blocks) (64 * k) C.clear p h)
            ∙ ap (λ (x : ℕ). tabulate k (block_at (below x S))) e;
      }

pub holds_canon : {m k : ℕ} {top blocks : List ℕ} {count edge : ℕ} {S : Set} → 0 < m → Holds m k top blocks count edge S
    → Canon m k top blocks count edge
holds_canon {m} {k} {top} {blocks} {count} {edge} {S} z H =
    record {
      few = omega (arith, H.count_is);
      falling = subst (Falls (64 * k)) (sym (holds_tops H)) (falls_take (members S (64 * k)) (64 * k) m (members_fall S (64 * k)));
      unused = λ i a b. top_at H i b ∙ get_or-eq_default (members S (64 * k)) 0 {n = i} (omega (arith, H.count_is));
      edge_is = H.edge_is ∙ sym (top_at H (m - 1) (omega arith));
      clear = λ p a b. holds_bits H p b ∙ below_out (boundary m (64 * k) S) S p (omega (arith, H.edge_is));
    }

-- so a judge that finds it answers `is_filter`
module _ {m k : ℕ} {top blocks : List ℕ} {count edge : ℕ} (z : 0 < m) where
  pub canon_yes : m ≤ length top → k ≤ length blocks → ((i : ℕ) → get_or blocks i 0 < 2 ^ 64) → Canon m k top blocks count edge
      → is_filter m k top blocks count edge ≡ true
  canon_yes n nb fit C = holds_filter m k top blocks count edge (shown top blocks count edge) z (canon_holds z n C nb fit)

  pub canon_no : (Canon m k top blocks count edge → ⊥) → is_filter m k top blocks count edge ≡ false
  canon_no h = go (is_filter m k top blocks count edge) refl
    where
      go : (b : Bool) → is_filter m k top blocks count edge ≡ b → b ≡ false
      go true e = absurd (h (holds_canon z (filter_holds m k top blocks count edge e)))
      go false e = refl
