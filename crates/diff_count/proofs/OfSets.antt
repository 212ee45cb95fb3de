-- The filter of a set, as calls are lent it: it passes, and shows the set. Assumes nothing.
use mathlib.Core.Path.{◌≡◌, sym, ap, ◌∙◌, subst}
use mathlib.Core.Bool.{true}
use mathlib.Core.List.{List}
use Prim.Native.Nat.{ℕ}
use Rattle.sets.specs.Sets.{Agree, Set}
use Rattle.sets.specs.Configurations.{Config, W, known, config_at}
use Rattle.sets.specs.Filter.{record_of, top_slice, bit_slice}
use Rattle.sets.specs.Refusals.{taken, verdict, filters_lent}
use Rattle.sets.proofs.Areas.{Stands, shown_back, stands_slices}
use Rattle.sets.proofs.Configurations.{line_at, number_at}
use Rattle.judge.proofs.Passing.{both_taken, stands_pass}
use Rattle.judge.proofs.Verdicts.{Passes}
use Rattle.diff_count.specs.Making.{filter_in, record_in, tally_of}
use Rattle.diff_count.specs.Calls.{shown_by}
use Rattle.diff_count.specs.declared.Filter.{Filter}

-- a known configuration, with the record and the areas of S
pub record Of (f : Filter) (top bits : List ℕ) (S : Set) : Type 0 where
  pub known : known f.config ≡ true
  pub stands : Stands (config_at f.config) (record_in f) top bits S

-- as a call writes it, whatever stands past the areas
pub of_set : (n : ℕ) → known n ≡ true → (S : Set) (top bits : List ℕ) →
    let c = config_at n in
    Of (filter_in (record_of c S)) (top_slice c S top) (bit_slice c S bits) S
unfolding record_of
of_set n k S top bits =
    let c : Config = config_at n in
    let e : c.number ≡ n = number_at n k in
    record {
      known = ap known e ∙ k;
      stands =
          subst (λ (x : ℕ). Stands (config_at x) (record_of c S) (top_slice c S top) (bit_slice c S bits) S) (sym e)
          (stands_slices c (line_at n).sound S top bits);
    }

module _ (f : Filter) (top bits : List ℕ) (S : Set) (o : Of f top bits S) where
  abbrev c : Config
  c = config_at f.config

  pub of_passes : Passes f.config (tally_of f) top bits
  of_passes = stands_pass o.known o.stands

  pub of_shown : Agree (W c) (shown_by f top bits) S
  of_shown = shown_back c (line_at f.config).sound (record_in f) top bits S o.stands

-- two that pass, of one configuration
pub both_pass : (f : Filter) (top bits : List ℕ) (g : Filter) (top2 bits2 : List ℕ) → Passes f.config (tally_of f) top bits
    → Passes g.config (tally_of g) top2 bits2
    → f.config ≡ g.config → verdict (filters_lent (record_in f) top bits (record_in g) top2 bits2) ≡ taken
both_pass f top bits g top2 bits2 p q e =
    subst (λ (n : ℕ). Passes n (tally_of g) top2 bits2
    → verdict (filters_lent (record_in f) top bits (record { config = n; count = g.count; boundary = g.boundary }) top2 bits2) ≡ taken) e
    (λ x. both_taken p x) q
