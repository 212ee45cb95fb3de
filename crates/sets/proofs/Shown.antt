-- A record with its areas is some set's filter exactly when `is_filter` computes true, and the set is the one shown. Assumes nothing.
use mathlib.Core.Path.{◌≡◌, sym, ap₂, ◌∙◌, fun_ext}
use mathlib.Core.Bool.{Bool, true, false, ◌&&◌}
use mathlib.Core.List.{List}
use Prim.Native.Nat.{ℕ, ◌*◌, ◌≤◌, ◌<◌}
use native.Mathlib.Decide.{dec_lt}
use native.Mathlib.Omega.{arith}
use lib.Dec.{eqb}
use lib.ListN.{take}
use borrow.Author.Tests.{eq-eqb, eqb-true}
use Rattle.sets.specs.Sets.{Set, below, same}
use Rattle.sets.specs.Words.{held}
use Rattle.sets.specs.Filter.{Holds, bit_cells, boundary, is_filter, is_filter_of, joined, shown, top_cells, top_count}
use Rattle.sets.proofs.Laws.{below_in, below_out}
use Rattle.sets.proofs.Filters.{holds_tops, holds_bits, holds_same}
use Rattle.sets.proofs.Tests.{and_left, and_right, and_intro, same_eq, eq_same}
use Rattle.sets.proofs.Split.{set_split, joined_set, edge_low}

-- ---- the set shown

-- a filter shows its set
pub shown_set : {m k : ℕ} {top blocks : List ℕ} {count edge : ℕ} {S : Set} → Holds m k top blocks count edge S → 0 < m
    → (p : ℕ) → p < 64 * k → shown top blocks count edge p ≡ S p
shown_set {m} {k} {top} {blocks} {count} {edge} {S} H z p h =
    ap₂ (λ (l : List ℕ) (e : ℕ). joined l e (held blocks) p) (holds_tops H) H.edge_is
    ∙ joined_set m (64 * k) z S (held blocks) p
    (λ q l. holds_bits H q (omega (arith, edge_low z (set_split m (64 * k) z S))) ∙ below_in (boundary m (64 * k) S) S q l)
    h

-- ---- is_filter

module _ (m k : ℕ) (top blocks : List ℕ) (count edge : ℕ) where
  pub of_holds : (S : Set) → is_filter_of m k top blocks count edge S ≡ true → Holds m k top blocks count edge S
  unfolding is_filter_of
  of_holds S h =
      let a : Bool = eqb count (top_count m (64 * k) S) in
      let b : Bool = eqb edge (boundary m (64 * k) S) in
      let c : Bool = same (take m top) (top_cells m (64 * k) S) in
      let d : Bool = same (take k blocks) (bit_cells m (64 * k) k S) in
      let h₁ : (b && (c && d)) ≡ true = and_right a (b && (c && d)) h in
      let h₂ : (c && d) ≡ true = and_right b (c && d) h₁ in
      record {
        count_is = eqb-true _ _ (and_left a (b && (c && d)) h);
        edge_is = eqb-true _ _ (and_left b (c && d) h₁);
        tops = same_eq _ _ (and_left c d h₂);
        bits = same_eq _ _ (and_right c d h₂);
      }

  pub holds_of : (S : Set) → Holds m k top blocks count edge S → is_filter_of m k top blocks count edge S ≡ true
  unfolding is_filter_of
  holds_of S H =
      and_intro _ _ (eq-eqb _ _ H.count_is) (and_intro _ _ (eq-eqb _ _ H.edge_is)
      (and_intro _ _ (eq_same _ _ H.tops) (eq_same _ _ H.bits)))

  -- true: it is the filter of the set shown
  pub filter_holds : is_filter m k top blocks count edge ≡ true → Holds m k top blocks count edge (shown top blocks count edge)
  unfolding is_filter
  filter_holds h = of_holds (shown top blocks count edge) h

  -- and of any set's filter it is true
  pub holds_filter : (S : Set) → 0 < m → Holds m k top blocks count edge S → is_filter m k top blocks count edge ≡ true
  unfolding is_filter
  holds_filter S z H =
      holds_of (shown top blocks count edge) (holds_same m k S (shown top blocks count edge) (λ p h. sym (shown_set H z p h)) H)

  -- the set is the one shown, so two sets of buckets never share record and areas
  pub the_set : (S : Set) → 0 < m → Holds m k top blocks count edge S → ((p : ℕ) → 64 * k ≤ p → S p ≡ false)
      → S ≡ below (64 * k) (shown top blocks count edge)
  the_set S z H n = fun_ext (λ p. go p (dec_lt p (64 * k)))
    where
      go : (p : ℕ) → Dec (p < 64 * k) → S p ≡ below (64 * k) (shown top blocks count edge) p
      go p (yes h) = sym (shown_set H z p h) ∙ sym (below_in (64 * k) (shown top blocks count edge) p h)
      go p (no h) = n p (omega arith) ∙ sym (below_out (64 * k) (shown top blocks count edge) p (omega arith))

  pub one_set : (S R : Set) → 0 < m → Holds m k top blocks count edge S → Holds m k top blocks count edge R
      → ((p : ℕ) → 64 * k ≤ p → S p ≡ false) → ((p : ℕ) → 64 * k ≤ p → R p ≡ false) → S ≡ R
  one_set S R z H G n r = the_set S z H n ∙ sym (the_set R z G r)

  -- true exactly when some set of buckets has this record and these areas: the one shown
  pub some_set : is_filter m k top blocks count edge ≡ true → Holds m k top blocks count edge (below (64 * k) (shown top blocks count edge))
  some_set h =
      let S : Set = shown top blocks count edge in
      holds_same m k S (below (64 * k) S) (λ p l. sym (below_in (64 * k) S p l)) (filter_holds h)
