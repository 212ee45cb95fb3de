-- What a judge's answer tells a call that counts, and the count or the refusal that it answers. Assumes nothing.
use mathlib.Core.Path.{◌≡◌, ap, ap₂, ◌∙◌}
use mathlib.Core.List.{List}
use Prim.Native.Nat.{ℕ, ◌-◌, ◌*◌, ◌≤◌, ◌<◌}
use native.Mathlib.Omega.{arith}
use lib.ListN.{length, get_or}
use Rattle.sets.specs.Sets.{Agree, Set, apart}
use Rattle.sets.specs.Configurations.{Config, W, window_blocks, config_at}
use Rattle.sets.specs.Filter.{Holds, exact_count, exact_count_at, last_entry, limited_bound, limited_count, shown}
use Rattle.sets.proofs.Laws.{apart_agree, members_same}
use Rattle.sets.proofs.Configurations.{line_at}
use Rattle.sets.proofs.Filters.{holds_tops}
use Rattle.sets.proofs.Counts.{limited_same, bound_same}
use Rattle.sizes.specs.declared.Sizes.{Sizes}
use Rattle.bitchunks.specs.Walk.{PartsOf, merged}
use Rattle.bitchunks.specs.Counts.{LimitedTo}
use Rattle.bitchunks.specs.declared.Limited.{Limited}
use Rattle.judge.proofs.Verdicts.{takes}
use Rattle.diff_count.specs.Calls.{shown_by}
use Rattle.diff_count.specs.declared.Filter.{Filter}
use Rattle.diff_count.proofs.Told.{Fits, One, Sized, Two, fits_walk}
use Rattle.counts.specs.Counting.{limited_to, exact_of, limited_of, exact_difference_of, limited_difference_of}
use Rattle.std.specs.Prelude.{Ok, Err}

pub last_small : {m k : ℕ} {tops blocks top bits : List ℕ} {count edge : ℕ} → PartsOf tops blocks top count bits edge
    → Fits m k top bits count edge
    → get_or tops (length tops - 1) 0 ≤ 64 * k
last_small P F = omega (arith, ap₂ (λ (l : List ℕ) (i : ℕ). get_or l (i - 1) 0) P.tops_are P.tops_count, F.last)

-- the last of a filter's top entries is that of the set
pub last_is : {m k : ℕ} {tops blocks top bits : List ℕ} {count edge : ℕ} → PartsOf tops blocks top count bits edge
    → Fits m k top bits count edge
    → get_or tops (length tops - 1) 0 ≡ last_entry m (64 * k) (shown top bits count edge)
last_is P F = ap₂ (λ (l : List ℕ) (i : ℕ). get_or l (i - 1) 0) (P.tops_are ∙ holds_tops F.holds) (P.tops_count ∙ F.holds.count_is)

-- ---- the counts of sets that agree are the same

module _ (n : ℕ) (S R : Set) (h : Agree (W (config_at n)) S R) where
  pub exact_agree : exact_count_at (config_at n) S ≡ exact_count_at (config_at n) R
  exact_agree = ap length (members_same S R (W (config_at n)) h)

  pub limited_agree : limited_to (config_at n) S ≡ limited_to (config_at n) R
  limited_agree =
      let l = line_at n in
      let x = limited_same (config_at n).M (W (config_at n)) S R l.sound.some h (window_blocks (config_at n)) l.window in
      let y = bound_same (config_at n).M (W (config_at n)) S R l.sound.some h (window_blocks (config_at n)) l.window in
      λ i. record { count = x i; bound = y i }

-- a count by the sizes is that of the configuration
module _ {c : Config} {s : Sizes} (Z : Sized c s) (S : Set) where
  exact_by : exact_count (64 * s.blocks) S ≡ exact_count_at c S
  exact_by = ap (λ (n : ℕ). exact_count n S) Z.buckets

  limited_by : {r : Limited} → LimitedTo s.top (64 * s.blocks) s.window S r.count r.bound → r ≡ limited_to c S
  limited_by {r} L =
      let x : r.count ≡ limited_count c.M (W c) (window_blocks c) S = L.count_is ∙ rw (Z.tops, Z.buckets, Z.window_is) in
      let y : r.bound ≡ limited_bound c.M (W c) (window_blocks c) S = L.bound_is ∙ rw (Z.tops, Z.buckets, Z.window_is) in
      λ i. record { count = x i; bound = y i }

-- ---- a call on one filter

module _ (f : Filter) (top bits : List ℕ) (s : Sizes) where
  module _ (O : One f top bits s) {tops blocks : List ℕ} (P : PartsOf tops blocks top f.count bits f.boundary) where
    pub one_exact : (r : ℕ)
        → ((m k count edge : ℕ) (top bits : List ℕ) (S : Set) → 0 < m → PartsOf tops blocks top count bits edge
        → Holds m k top bits count edge S → r ≡ exact_count (64 * k) S)
        → Ok r ≡ exact_of f top bits
    unfolding exact_of
    one_exact r h =
        let S = shown_by f top bits in
        takes (λ x. Err x) (Ok (exact_count_at (config_at f.config) S)) O.taken_is
        (ap Ok (h s.top s.blocks f.count f.boundary top bits S O.sizes.some P O.fits.holds ∙ exact_by O.sizes S))

    pub one_limited : (r : Limited) (last : ℕ) → last ≡ get_or tops (length tops - 1) 0
        → ((k count edge : ℕ) (top bits : List ℕ) (S : Set) → 0 < s.top → PartsOf tops blocks top count bits edge
        → Holds s.top k top bits count edge S → last ≡ last_entry s.top (64 * k) S
        → LimitedTo s.top (64 * k) s.window S r.count r.bound)
        → Ok r ≡ limited_of f top bits
    unfolding limited_of
    one_limited r last l h =
        let S = shown_by f top bits in
        takes (λ x. Err x) (Ok (limited_to (config_at f.config) S)) O.taken_is
        (ap Ok
        (limited_by O.sizes S (h s.blocks f.count f.boundary top bits S O.sizes.some P O.fits.holds (l ∙ last_is P O.fits))))

-- ---- a call on two

module _ (f : Filter) (top bits : List ℕ) (g : Filter) (top2 bits2 : List ℕ) (s : Sizes) where
  module _ (O : Two f top bits g top2 bits2 s) {tops blocks tops2 blocks2 : List ℕ}
      (P : PartsOf tops blocks top f.count bits f.boundary) (P2 : PartsOf tops2 blocks2 top2 g.count bits2 g.boundary) where
    -- what is walked over is the symmetric difference of the sets shown
    abbrev walked : Set
    walked = apart (merged tops 0 blocks) (merged tops2 0 blocks2)

    abbrev differing : Set
    differing = apart (shown_by f top bits) (shown_by g top2 bits2)

    walk_agrees : Agree (W (config_at f.config)) walked differing
    walk_agrees p l =
        apart_agree (merged tops 0 blocks) (shown_by f top bits) (merged tops2 0 blocks2) (shown_by g top2 bits2)
        (fits_walk P O.fits).1 (fits_walk P2 O.fits2).1 p (omega (arith, O.sizes.buckets))

    pub two_exact : (r : ℕ) → r ≡ exact_count (64 * s.blocks) walked → Ok r ≡ exact_difference_of f top bits g top2 bits2
    unfolding exact_difference_of
    two_exact r h =
        takes (λ x. Err x) (Ok (exact_count_at (config_at f.config) differing)) O.taken_is
        (ap (λ (x : ℕ). Ok x) (h ∙ exact_by O.sizes walked ∙ exact_agree f.config walked differing walk_agrees))

    pub two_limited : (r : Limited) → LimitedTo s.top (64 * s.blocks) s.window walked r.count r.bound
        → Ok r ≡ limited_difference_of f top bits g top2 bits2
    unfolding limited_difference_of
    two_limited r h =
        takes (λ x. Err x) (Ok (limited_to (config_at f.config) differing)) O.taken_is
        (ap (λ (x : Limited). Ok x) (limited_by O.sizes walked h ∙ limited_agree f.config walked differing walk_agrees))
