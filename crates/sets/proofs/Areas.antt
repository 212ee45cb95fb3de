-- The filter of a set by configuration: record and areas are fixed by the set, and the set by them. Assumes nothing.
use mathlib.Core.Path.{◌≡◌, refl, sym, ap, ◌∙◌}
use mathlib.Core.Bool.{true, false}
use mathlib.Core.List.{List, ◌++◌}
use mathlib.Core.Logic.{◌↔◌}
use Prim.Native.Nat.{ℕ, ◌*◌, ◌≤◌}
use native.Mathlib.Omega.{arith}
use lib.ListN.{take, drop}
use lib.Seq.{drop_at, take_all, take_at}
use Rattle.sets.specs.Sets.{Agree, Set, below}
use Rattle.sets.specs.Configurations.{Config, W, blocks, Sound}
use Rattle.sets.specs.Filter.{top_count, boundary, top_cells, bit_cells, Holds, shown, is_filter, FilterRecord, record_of, top_area}
use Rattle.sets.specs.Filter.{bit_area, top_slice, bit_slice}
use Rattle.sets.proofs.Configurations.{whole_blocks}
use Rattle.sets.proofs.Filters.{holds_same, length_top, length_bits}
use Rattle.sets.proofs.Laws.{below_out}
use Rattle.sets.proofs.Shown.{shown_set, holds_filter, some_set}

-- In memory stand the record and the areas of S.
pub record Stands (c : Config) (r : FilterRecord) (top bits : List ℕ) (S : Set) : Type 0 where
  pub record_is : r ≡ record_of c S
  pub top_is : take c.M top ≡ top_area c S
  pub bits_are : take (blocks c) bits ≡ bit_area c S

module _ (c : Config) (s : Sound c) where
  pub stands_holds : {r : FilterRecord} {top bits : List ℕ} {S : Set} → Stands c r top bits S
      → Holds c.M (blocks c) top bits r.count r.boundary S
  unfolding record_of
  stands_holds {S = S} H =
      let e : W c ≡ 64 * blocks c = sym (whole_blocks c s) in
      record {
        count_is = ap (λ (r : FilterRecord). r.count) H.record_is ∙ ap (λ (n : ℕ). top_count c.M n S) e;
        edge_is = ap (λ (r : FilterRecord). r.boundary) H.record_is ∙ ap (λ (n : ℕ). boundary c.M n S) e;
        tops = H.top_is ∙ ap (λ (n : ℕ). top_cells c.M n S) e;
        bits = H.bits_are ∙ ap (λ (n : ℕ). bit_cells c.M n (blocks c) S) e;
      }

  pub holds_stands : {r : FilterRecord} {top bits : List ℕ} {S : Set} → r.config ≡ c.number
      → Holds c.M (blocks c) top bits r.count r.boundary S → Stands c r top bits S
  unfolding record_of
  holds_stands {r} {S = S} k H =
      let e : 64 * blocks c ≡ W c = whole_blocks c s in
      let x : r.count ≡ top_count c.M (W c) S = H.count_is ∙ ap (λ (n : ℕ). top_count c.M n S) e in
      let y : r.boundary ≡ boundary c.M (W c) S = H.edge_is ∙ ap (λ (n : ℕ). boundary c.M n S) e in
      record {
        record_is = λ i. record { config = k i; count = x i; boundary = y i };
        top_is = H.tops ∙ ap (λ (n : ℕ). top_cells c.M n S) e;
        bits_are = H.bits ∙ ap (λ (n : ℕ). bit_cells c.M n (blocks c) S) e;
      }

  -- a filter gives its set back
  pub shown_back : (r : FilterRecord) (top bits : List ℕ) (S : Set) → Stands c r top bits S
      → Agree (W c) (shown top bits r.count r.boundary) S
  shown_back r top bits S H p h = shown_set (stands_holds H) s.some p (omega (arith, whole_blocks c s))

  -- so two sets of buckets never share record and areas
  pub one_filter : (r : FilterRecord) (top bits : List ℕ) (S T : Set) → Stands c r top bits S → Stands c r top bits T → Agree (W c) S T
  one_filter r top bits S T H G p h = sym (shown_back r top bits S H p h) ∙ shown_back r top bits T G p h

  -- and sets that agree have the same
  pub filter_same : {r : FilterRecord} {top bits : List ℕ} (S T : Set) → Agree (W c) S T → Stands c r top bits S → Stands c r top bits T
  unfolding record_of
  filter_same {r} S T h H =
      holds_stands (ap (λ (x : FilterRecord). x.config) H.record_is)
      (holds_same c.M (blocks c) S T (λ p l. h p (omega (arith, whole_blocks c s))) (stands_holds H))

  -- record and areas written down are those of the set
  pub stands_self : (S : Set) → Stands c (record_of c S) (top_area c S) (bit_area c S) S
  stands_self S =
      record {
        record_is = refl;
        top_is = take_all c.M (top_area c S) (omega (arith, length_top c.M (W c) S));
        bits_are = take_all (blocks c) (bit_area c S) (omega (arith, length_bits c.M (W c) (blocks c) S));
      }

  -- The test passes exactly where some set of buckets has record and areas.
  pub filter_exactly : (r : FilterRecord) (top bits : List ℕ) → r.config ≡ c.number
      → (is_filter c.M (blocks c) top bits r.count r.boundary ≡ true) ↔
      ((S : Set) × ((p : ℕ) → W c ≤ p → S p ≡ false) × Stands c r top bits S)
  filter_exactly r top bits k = (
    λ h. (
      below (64 * blocks c) (shown top bits r.count r.boundary),
      λ p l. below_out (64 * blocks c) (shown top bits r.count r.boundary) p (omega (arith, whole_blocks c s)),
      holds_stands k (some_set c.M (blocks c) top bits r.count r.boundary h),
    ),
    λ w. holds_filter c.M (blocks c) top bits r.count r.boundary w.0 s.some (stands_holds w.2),
  )

  -- ---- slices lent for the areas

  -- record and areas of sets that agree are the same
  pub filter_agree : (S T : Set) → Agree (W c) S T
      → (record_of c S ≡ record_of c T) × (top_area c S ≡ top_area c T) × (bit_area c S ≡ bit_area c T)
  filter_agree S T h =
      let H = filter_same S T h (stands_self S) in (
        H.record_is,
        sym (stands_self S).top_is ∙ H.top_is,
        sym (stands_self S).bits_are ∙ H.bits_are,
      )

  pub stands_slices : (S : Set) (top bits : List ℕ) → Stands c (record_of c S) (top_slice c S top) (bit_slice c S bits) S
  stands_slices S top bits =
      record {
        record_is = refl;
        top_is = take_at (top_area c S) (drop c.M top) c.M (length_top c.M (W c) S);
        bits_are = take_at (bit_area c S) (drop (blocks c) bits) (blocks c) (length_bits c.M (W c) (blocks c) S);
      }

  -- what stands past the areas stays through several calls
  pub top_again : (S T : Set) (top : List ℕ) → top_slice c T (top_slice c S top) ≡ top_slice c T top
  top_again S T top = ap (λ (l : List ℕ). top_area c T ++ l) (drop_at (top_area c S) (drop c.M top) c.M (length_top c.M (W c) S))

  pub bits_again : (S T : Set) (bits : List ℕ) → bit_slice c T (bit_slice c S bits) ≡ bit_slice c T bits
  bits_again S T bits =
      ap (λ (l : List ℕ). bit_area c T ++ l) (drop_at (bit_area c S) (drop (blocks c) bits) (blocks c)
      (length_bits c.M (W c) (blocks c) S))
