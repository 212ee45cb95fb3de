-- What the calls answer of two filters that pass the tests: the figures of the sets shown. Assumes nothing.
use mathlib.Core.Path.{◌≡◌, refl, sym, ap, ◌∙◌, subst}
use mathlib.Core.Bool.{Bool, true, false, cond}
use mathlib.Core.List.{List, ◌∷◌}
use Prim.Native.Nat.{ℕ, zero, suc, ◌+◌, ◌^◌, ◌≤◌}
use native.Mathlib.Omega.{arith}
use lib.ListN.{length}
use Rattle.sets.specs.Sets.{Set, apart, differ, members}
use Rattle.sets.specs.Configurations.{Config, W, config_at}
use Rattle.sets.specs.Filter.{exact_count_at}
use Rattle.sets.specs.Refusals.{taken, verdict, filter_lent, filters_lent, in_order, is_mask}
use Rattle.sets.specs.Text.{overlap}
use Rattle.sets.proofs.Configurations.{line_at, number_at}
use Rattle.sets.proofs.Laws.{members_length}
use Rattle.sets.proofs.Verdicts.{all_pass}
use Rattle.judge.proofs.Passing.{lent_taken}
use Rattle.judge.proofs.Verdicts.{Passes, filter_pass, takes, two_alone, two_pass}
use Rattle.diff_count.specs.Making.{record_in, tally_of}
use Rattle.diff_count.specs.Calls.{shown_by}
use Rattle.diff_count.specs.declared.Filter.{Filter}
use Rattle.diff_count.proofs.OfSets.{both_pass}
use Rattle.counts.specs.Counting.{exact_difference_of, exact_of, limited_difference_of, limited_of, limited_to}
use Rattle.masked.specs.Calls.{cmp_of, cmp_verdict, key_for}
use Rattle.sets.specs.Masks.{key_of, order_of}
use Rattle.masked.proofs.Theorems.{cmp_passes, key_passes}
use Rattle.figures.specs.Figures.{figures_of, pair_of, single_of}
use Rattle.figures.specs.declared.Pair.{Pair}
use Rattle.figures.specs.declared.Single.{Single}
use Rattle.std.specs.Prelude.{Result, Ok, Err, IsOk}
use Rattle.sizes.specs.declared.Refusal.{Refusal}

-- a bucket of the symmetric difference is in one of the two
apart_length : (S T : Set) (n : ℕ) → length (members (apart S T) n) ≤ length (members S n) + length (members T n)
unfolding members
apart_length S T zero = omega arith
apart_length S T (suc n) = go (S n) (T n) (apart_length S T n)
  where
    go : (a b : Bool) → length (members (apart S T) n) ≤ length (members S n) + length (members T n)
        → length (cond (differ a b) (n ∷ members (apart S T) n) (members (apart S T) n))
        ≤ length (cond a (n ∷ members S n) (members S n)) + length (cond b (n ∷ members T n) (members T n))
    go true true h = omega arith
    go true false h = omega arith
    go false true h = omega arith
    go false false h = h

-- ---- an answer that is known

module _ {A : Type 0} {r : Result A Refusal} {a : A} (e : r ≡ Ok a) where
  pub is_answer : IsOk r
  is_answer = subst (λ (x : Result A Refusal). IsOk x) (sym e) refl

  pub the_answer : {x : A} → r ≡ Ok x → x ≡ a
  the_answer {x} q =
      let h : Ok x ≡ Ok a = sym q ∙ e in
      cc

-- ---- of a filter that passes

passes_of : (f : Filter) (top bits : List ℕ) → verdict (filter_lent (record_in f) top bits) ≡ taken → Passes f.config (tally_of f) top bits
passes_of f top bits t = filter_pass f.config (tally_of f) top bits t

module _ (f : Filter) (top bits : List ℕ) (t : verdict (filter_lent (record_in f) top bits) ≡ taken) where
  pub exact_answered : exact_of f top bits ≡ Ok (exact_count_at (config_at f.config) (shown_by f top bits))
  unfolding exact_of
  exact_answered = sym (takes (λ x. Err x) (Ok (exact_count_at (config_at f.config) (shown_by f top bits))) t refl)

  pub limited_answered : limited_of f top bits ≡ Ok (limited_to (config_at f.config) (shown_by f top bits))
  unfolding limited_of
  limited_answered = sym (takes (λ x. Err x) (Ok (limited_to (config_at f.config) (shown_by f top bits))) t refl)

  pub key_answered : (mask size : ℕ) → verdict (is_mask mask size) ≡ taken
      → key_for f top bits mask size ≡ Ok (key_of (config_at f.config) mask size (shown_by f top bits))
  key_answered mask size m = key_passes mask size m f top bits (passes_of f top bits t)

-- ---- where the order would be answered

-- no call is refused, and each answers the figure
pub record Answered (f : Filter) (top bits : List ℕ) (g : Filter) (top2 bits2 : List ℕ) (mask size : ℕ) (a b : Single)
    (d : Pair) : Type 0 where
  pub ones : exact_of f top bits ≡ Ok a.ones
  pub limited : limited_of f top bits ≡ Ok a.limited
  pub key : key_for f top bits mask size ≡ Ok a.key
  pub ones2 : exact_of g top2 bits2 ≡ Ok b.ones
  pub limited2 : limited_of g top2 bits2 ≡ Ok b.limited
  pub key2 : key_for g top2 bits2 mask size ≡ Ok b.key
  pub difference : exact_difference_of f top bits g top2 bits2 ≡ Ok d.difference
  pub limited_difference : limited_difference_of f top bits g top2 bits2 ≡ Ok d.limited
  pub order : cmp_of f top bits g top2 bits2 mask size ≡ Ok d.order

module _ (f : Filter) (top bits : List ℕ) (g : Filter) (top2 bits2 : List ℕ) (mask size : ℕ)
    (v : cmp_verdict f top bits g top2 bits2 mask size ≡ taken) where
  abbrev line : Config
  line = config_at f.config

  abbrev S : Set
  S = shown_by f top bits

  abbrev T : Set
  T = shown_by g top2 bits2

  -- the mask passes, and both filters, which are of one configuration
  all_passed : (verdict (is_mask mask size) ≡ taken) × Passes f.config (tally_of f) top bits
      × Passes g.config (tally_of g) top2 bits2 × (f.config ≡ g.config)
  unfolding cmp_verdict
  all_passed =
      let p = all_pass (in_order (filters_lent (record_in f) top bits (record_in g) top2 bits2)) (is_mask mask size) v in
      let w =
      two_pass f.config (tally_of f) top bits g.config (tally_of g) top2 bits2 (length top) (length bits)
      (two_alone f.config (tally_of f) top bits g.config (tally_of g) top2 bits2 ∙ p.0) in
      (p.1, w.2, subst (λ (n : ℕ). Passes n (tally_of g) top2 bits2) w.0 w.3, w.0)

  pub mask_passed : verdict (is_mask mask size) ≡ taken
  mask_passed = all_passed.0

  pub first_passed : verdict (filter_lent (record_in f) top bits) ≡ taken
  first_passed = lent_taken all_passed.1

  pub second_passed : verdict (filter_lent (record_in g) top2 bits2) ≡ taken
  second_passed = lent_taken all_passed.2

  both : verdict (filters_lent (record_in f) top bits (record_in g) top2 bits2) ≡ taken
  both = both_pass f top bits g top2 bits2 all_passed.1 all_passed.2 all_passed.3

  pub difference_answered : exact_difference_of f top bits g top2 bits2 ≡ Ok (exact_count_at line (apart S T))
  unfolding exact_difference_of
  difference_answered = sym (takes (λ x. Err x) (Ok (exact_count_at line (apart S T))) both refl)

  pub limited_difference_answered : limited_difference_of f top bits g top2 bits2 ≡ Ok (limited_to line (apart S T))
  unfolding limited_difference_of
  limited_difference_answered = sym (takes (λ x. Err x) (Ok (limited_to line (apart S T))) both refl)

  pub order_answered : cmp_of f top bits g top2 bits2 mask size ≡ Ok (order_of (W line) mask size S T)
  order_answered = cmp_passes mask size all_passed.0 f top bits g top2 bits2 all_passed.1 all_passed.2 all_passed.3

  second_is : single_of (config_at g.config) mask size T ≡ single_of line mask size T
  second_is = ap (λ (n : ℕ). single_of (config_at n) mask size T) (sym all_passed.3)

  module _ (a b : Single) (d : Pair)
      (x : a ≡ single_of line mask size S) (y : b ≡ single_of (config_at g.config) mask size T)
      (z : d ≡ pair_of line mask size S T) where
    pub counts_fit : (a.ones ≤ 2 ^ 32) × (b.ones ≤ 2 ^ 32) × (d.difference ≤ a.ones + b.ones)
    counts_fit =
        let i : a.ones ≡ exact_count_at line S = ap (λ (s : Single). s.ones) (x) in
        let j : b.ones ≡ exact_count_at line T = ap (λ (s : Single). s.ones) (y ∙ second_is) in
        let k : d.difference ≡ exact_count_at line (apart S T) = ap (λ (s : Pair). s.difference) (z) in
        let w = (line_at f.config).small in (
          omega (arith, i, w, members_length S (W line)),
          omega (arith, j, w, members_length T (W line)),
          omega (arith, i, j, k, apart_length S T (W line)),
        )

    -- what the calls answered: no refusal
    answered : Answered f top bits g top2 bits2 mask size a b d
    answered =
        let first = sym x in
        let second = sym (y) in
        let between = sym (z) in
        record {
          ones = exact_answered f top bits first_passed ∙ (λ i. Ok (first i).ones);
          limited = limited_answered f top bits first_passed ∙ (λ i. Ok (first i).limited);
          key = key_answered f top bits first_passed mask size mask_passed ∙ (λ i. Ok (first i).key);
          ones2 = exact_answered g top2 bits2 second_passed ∙ (λ i. Ok (second i).ones);
          limited2 = limited_answered g top2 bits2 second_passed ∙ (λ i. Ok (second i).limited);
          key2 = key_answered g top2 bits2 second_passed mask size mask_passed ∙ (λ i. Ok (second i).key);
          difference = difference_answered ∙ (λ i. Ok (between i).difference);
          limited_difference = limited_difference_answered ∙ (λ i. Ok (between i).limited);
          order = order_answered ∙ (λ i. Ok (between i).order);
        }

    pub figures_are_lem : (o : ℕ) → o ≡ overlap a.ones b.ones d.difference
        → Answered f top bits g top2 bits2 mask size a b d
        × (record { config = f.config; first = a; second = b; between = d; overlap = o } ≡ figures_of line mask size S T)
    unfolding figures_of
    figures_are_lem o r =
        let config = sym (number_at f.config all_passed.1.known) in
        let first = x in
        let second = y ∙ second_is in
        let between = z in
        let common : o ≡ overlap (exact_count_at line S) (exact_count_at line T) (exact_count_at line (apart S T)) =
        r ∙ (λ i. overlap (first i).ones (second i).ones (between i).difference) in (
          answered,
          λ i. record { config = config i; first = first i; second = second i; between = between i; overlap = common i },
        )
