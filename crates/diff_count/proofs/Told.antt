-- What a judge's answer tells a call that goes on from it. Assumes nothing.
use mathlib.Core.Path.{◌≡◌, refl, sym, ap, ◌∙◌, subst}
use mathlib.Core.Bool.{true}
use mathlib.Core.List.{List}
use Prim.Native.Nat.{ℕ, ◌-◌, ◌*◌, ◌^◌, ◌≤◌}
use native.Mathlib.Omega.{arith}
use lib.ListN.{length, get_or, take}
use Rattle.sets.specs.Sets.{Agree, Set}
use Rattle.sets.specs.Configurations.{Config, W, blocks_for, config_at, position_bits, window_blocks}
use Rattle.sets.specs.Filter.{Holds, is_filter, shown}
use Rattle.sets.specs.Refusals.{taken, refused, verdict, filter_lent, filters_lent, Cause}
use Rattle.sets.proofs.Canon.{holds_canon}
use Rattle.sets.proofs.Configurations.{line_at, whole_blocks}
use Rattle.sets.proofs.Laws.{falls_low, members_length}
use Rattle.sets.proofs.Shown.{filter_holds}
use Rattle.sets.proofs.Split.{edge_low, set_split}
use Rattle.sizes.specs.Sizes.{sizes_at, refusal}
use Rattle.sizes.specs.declared.Sizes.{Sizes}
use Rattle.sizes.specs.declared.Refusal.{Refusal}
use Rattle.bitvec.specs.Parts.{Room}
use Rattle.bitvec.specs.declared.Tally.{Tally}
use Rattle.bitchunks.specs.Walk.{Ahead, PartsOf, merged}
use Rattle.bitchunks.proofs.Shown.{parts_walk}
use Rattle.judge.specs.Judging.{filter_of, judged, two_of}
use Rattle.judge.proofs.Verdicts.{Passes, filter_told, filter_refused, filter_pass, judged_known, judged_refused, two_pass, two_alone}
use Rattle.diff_count.specs.Making.{filters_of, record_in, tally_of}
use Rattle.diff_count.specs.declared.Filter.{Filter}
use Rattle.std.specs.Prelude.{Result, Ok, Err}

-- ---- the sizes answered

pub record Sized (c : Config) (s : Sizes) : Type 0 where
  pub tops : s.top ≡ c.M
  pub buckets : 64 * s.blocks ≡ W c
  pub slots : s.bits ≡ position_bits c
  pub window_is : s.window ≡ window_blocks c
  pub some : 1 ≤ s.top
  pub window : 1 ≤ s.window

sized : (n : ℕ) (s : Sizes) → s ≡ sizes_at n → Sized (config_at n) s
unfolding sizes_at
sized n s e =
    subst (Sized (config_at n)) (sym e)
    (record {
      tops = refl;
      buckets = whole_blocks (config_at n) (line_at n).sound;
      slots = refl;
      window_is = refl;
      some = (line_at n).sound.some;
      window = (line_at n).window;
    })

-- ---- a filter that a judge takes: it is that of the set shown, and its numbers fit

pub record Fits (m k : ℕ) (top bits : List ℕ) (count edge : ℕ) : Type 0 where
  pub room : Room m k top bits
  pub holds : Holds m k top bits count edge (shown top bits count edge)
  pub few : count ≤ m
  pub small : count ≤ 64 * k
  pub low : edge ≤ 64 * k
  pub last : get_or (take count top) (count - 1) 0 ≤ 64 * k

module _ {m k : ℕ} {top bits : List ℕ} {count edge : ℕ} where
  fits : Room m k top bits → is_filter m k top bits count edge ≡ true → Fits m k top bits count edge
  fits R h =
      let S : Set = shown top bits count edge in
      let H = filter_holds m k top bits count edge h in
      let C = holds_canon R.some H in
      record {
        room = R;
        holds = H;
        few = C.few;
        small = omega (arith, H.count_is, members_length S (64 * k));
        low = omega (arith, H.edge_is, edge_low R.some (set_split m (64 * k) R.some S));
        last = falls_low (take count top) (64 * k) (count - 1) C.falling;
      }

  -- its parts are within what was lent
  pub fits_parts : Fits m k top bits count edge → (count ≤ length top) × (edge ≤ 2 ^ 32) × (blocks_for edge ≤ length bits)
  fits_parts F = (omega (arith, F), omega (arith, F), omega (arith, F))

  -- a walk over them goes over the set
  pub fits_walk : {tops blocks : List ℕ} → PartsOf tops blocks top count bits edge → Fits m k top bits count edge
      → Ahead tops 0 k × Agree (64 * k) (merged tops 0 blocks) (shown top bits count edge)
  fits_walk P F = parts_walk F.room.some F.room.small P F.holds

-- ---- a call on one filter

-- what a judge tells that answers the sizes s
pub record One (f : Filter) (top bits : List ℕ) (s : Sizes) : Type 0 where
  pub taken_is : verdict (filter_lent (record_in f) top bits) ≡ taken
  pub sizes : Sized (config_at f.config) s
  pub fits : Fits s.top s.blocks top bits f.count f.boundary

-- or a refusal
pub one_not : (f : Filter) (top bits : List ℕ) (x : Refusal) {r : Result Sizes Refusal} → r ≡ filter_of f.config (tally_of f) top bits
    → r ≡ Err x
    → (k : Cause) × (verdict (filter_lent (record_in f) top bits) ≡ refused k) × (x ≡ refusal k)
one_not f top bits x e q = filter_refused f.config (tally_of f) top bits x (sym e ∙ q)

fits_at : (n : ℕ) (t : Tally) (top bits : List ℕ) (s : Sizes) → s ≡ sizes_at n → Passes n t top bits
    → Fits s.top s.blocks top bits t.count t.boundary
fits_at n t top bits s e P =
    subst (λ (x : Sizes). Fits x.top x.blocks top bits t.count t.boundary) (sym e) (fits P.room P.sound)

module _ (f : Filter) (top bits : List ℕ) (s : Sizes) where
  pub one : {r : Result Sizes Refusal} → r ≡ filter_of f.config (tally_of f) top bits → r ≡ Ok s → One f top bits s
  one e q =
      let t = filter_told f.config (tally_of f) top bits s (sym e ∙ q) in
      record {
        taken_is = t.0;
        sizes = sized f.config s t.1;
        fits = fits_at f.config (tally_of f) top bits s t.1 (filter_pass f.config (tally_of f) top bits t.0);
      }

-- ---- a call on two that has no third

pub record Two (f : Filter) (top bits : List ℕ) (g : Filter) (top2 bits2 : List ℕ) (s : Sizes) : Type 0 where
  pub taken_is : verdict (filters_lent (record_in f) top bits (record_in g) top2 bits2) ≡ taken
  pub sizes : Sized (config_at f.config) s
  pub fits : Fits s.top s.blocks top bits f.count f.boundary
  pub fits2 : Fits s.top s.blocks top2 bits2 g.count g.boundary

-- the answer of `judge::two_filters` where the third's lengths are the first's
pub two_lent : (f : Filter) (top bits : List ℕ) (g : Filter) (top2 bits2 : List ℕ) {r : Result Sizes Refusal}
    → r ≡ two_of f.config (tally_of f) top bits g.config (tally_of g) top2 bits2 (length top) (length bits) → r
    ≡ filters_of f top bits g top2 bits2
unfolding two_of filters_of
two_lent f top bits g top2 bits2 e =
    e ∙ ap (judged f.config) (two_alone f.config (tally_of f) top bits g.config (tally_of g) top2 bits2)

module _ (f : Filter) (top bits : List ℕ) (g : Filter) (top2 bits2 : List ℕ) where
  pub two_not : (x : Refusal) {r : Result Sizes Refusal} → r ≡ filters_of f top bits g top2 bits2 → r ≡ Err x
      → (k : Cause) × (verdict (filters_lent (record_in f) top bits (record_in g) top2 bits2) ≡ refused k) × (x ≡ refusal k)
  unfolding filters_of
  two_not x e q = judged_refused f.config (verdict (filters_lent (record_in f) top bits (record_in g) top2 bits2)) x (sym e ∙ q)

  pub two : (s : Sizes) {r : Result Sizes Refusal} → r ≡ filters_of f top bits g top2 bits2 → r ≡ Ok s → Two f top bits g top2 bits2 s
  unfolding filters_of
  two s e q =
      let t = judged_known f.config (verdict (filters_lent (record_in f) top bits (record_in g) top2 bits2)) s (sym e ∙ q) in
      let p =
      two_pass f.config (tally_of f) top bits g.config (tally_of g) top2 bits2 (length top) (length bits)
      (two_alone f.config (tally_of f) top bits g.config (tally_of g) top2 bits2 ∙ t.0) in
      record {
        taken_is = t.0;
        sizes = sized f.config s t.1;
        fits = fits_at f.config (tally_of f) top bits s t.1 p.2;
        fits2 = fits_at f.config (tally_of g) top2 bits2 s t.1 p.3;
      }
