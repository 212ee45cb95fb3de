-- Theorems about the promises of the calls that count. Assumes nothing.
use mathlib.Core.Path.{◌≡◌, refl, sym, ap, ap₂, ◌∙◌, subst}
use mathlib.Core.List.{List}
use Prim.Native.Nat.{ℕ}
use lib.ListN.{length}
use Rattle.sets.specs.Sets.{Agree, Set, apart, none}
use Rattle.sets.specs.Configurations.{W, config_at}
use Rattle.sets.specs.Filter.{exact_count_at}
use Rattle.sets.proofs.Laws.{apart_agree, apart_comm, apart_self, members_none}
use Rattle.bitchunks.specs.declared.Limited.{Limited}
use Rattle.judge.proofs.Passing.{lent_taken}
use Rattle.judge.proofs.Verdicts.{takes}
use Rattle.diff_count.specs.Calls.{shown_by}
use Rattle.diff_count.specs.declared.Filter.{Filter}
use Rattle.diff_count.proofs.OfSets.{Of, both_pass, of_passes, of_shown}
use Rattle.counts.specs.Counting.{limited_to, exact_of, limited_of, exact_difference_of, limited_difference_of}
use Rattle.counts.proofs.Counted.{exact_agree, limited_agree}
use Rattle.sizes.specs.declared.Refusal.{Refusal}
use Rattle.std.specs.Prelude.{Result, Ok, Err}

-- ---- two outcomes that a promise allows coincide

pub exact_once : (f : Filter) (top bits : List ℕ) {r r' : Result ℕ Refusal} → r ≡ exact_of f top bits → r' ≡ exact_of f top bits → r ≡ r'
exact_once f top bits x y = x ∙ sym y

pub limited_once : (f : Filter) (top bits : List ℕ) {r r' : Result Limited Refusal} → r ≡ limited_of f top bits → r' ≡ limited_of f top bits → r ≡ r'
limited_once f top bits x y = x ∙ sym y

pub exact_difference_once : (f : Filter) (top bits : List ℕ) (g : Filter) (top2 bits2 : List ℕ) {r r' : Result ℕ Refusal}
    → r ≡ exact_difference_of f top bits g top2 bits2 → r' ≡ exact_difference_of f top bits g top2 bits2 → r ≡ r'
exact_difference_once f top bits g top2 bits2 x y = x ∙ sym y

pub limited_difference_once : (f : Filter) (top bits : List ℕ) (g : Filter) (top2 bits2 : List ℕ) {r r' : Result Limited Refusal}
    → r ≡ limited_difference_of f top bits g top2 bits2 → r' ≡ limited_difference_of f top bits g top2 bits2 → r ≡ r'
limited_difference_once f top bits g top2 bits2 x y = x ∙ sym y

-- ---- the counts of the filters of sets

-- a call on the filter of S is not refused, and counts S
module _ (f : Filter) (top bits : List ℕ) (S : Set) (o : Of f top bits S) where
  pub exact_counts : exact_of f top bits ≡ Ok (exact_count_at (config_at f.config) S)
  unfolding exact_of
  exact_counts =
      sym (takes (λ x. Err x) _ (lent_taken (of_passes f top bits S o))
      (ap (λ (x : ℕ). Ok x) (sym (exact_agree f.config (shown_by f top bits) S (of_shown f top bits S o)))))

  pub limited_counts : limited_of f top bits ≡ Ok (limited_to (config_at f.config) S)
  unfolding limited_of
  limited_counts =
      sym (takes (λ x. Err x) _ (lent_taken (of_passes f top bits S o))
      (ap (λ (x : Limited). Ok x) (sym (limited_agree f.config (shown_by f top bits) S (of_shown f top bits S o)))))

-- on the filters of S and of T it counts their symmetric difference
module _ (f : Filter) (top bits : List ℕ) (S : Set) (o : Of f top bits S) (g : Filter) (top2 bits2 : List ℕ) (T : Set)
    (q : Of g top2 bits2 T) (e : f.config ≡ g.config) where
  abbrev seen : Set
  seen = apart (shown_by f top bits) (shown_by g top2 bits2)

  agrees : Agree (W (config_at f.config)) seen (apart S T)
  agrees =
      apart_agree (shown_by f top bits) S (shown_by g top2 bits2) T (of_shown f top bits S o)
      (subst (λ (n : ℕ). Agree (W (config_at n)) (shown_by g top2 bits2) T) (sym e) (of_shown g top2 bits2 T q))

  pub exact_difference_counts : exact_difference_of f top bits g top2 bits2 ≡ Ok (exact_count_at (config_at f.config) (apart S T))
  unfolding exact_difference_of
  exact_difference_counts =
      sym (takes (λ x. Err x) _ (both_pass f top bits g top2 bits2 (of_passes f top bits S o) (of_passes g top2 bits2 T q) e)
      (ap (λ (x : ℕ). Ok x) (sym (exact_agree f.config seen (apart S T) agrees))))

  pub limited_difference_counts : limited_difference_of f top bits g top2 bits2 ≡ Ok (limited_to (config_at f.config) (apart S T))
  unfolding limited_difference_of
  limited_difference_counts =
      sym (takes (λ x. Err x) _ (both_pass f top bits g top2 bits2 (of_passes f top bits S o) (of_passes g top2 bits2 T q) e)
      (ap (λ (x : Limited). Ok x) (sym (limited_agree f.config seen (apart S T) agrees))))

-- so the order of the two does not matter
module _ (f : Filter) (top bits : List ℕ) (S : Set) (o : Of f top bits S) (g : Filter) (top2 bits2 : List ℕ) (T : Set)
    (q : Of g top2 bits2 T) (e : f.config ≡ g.config) where
  pub exact_swap : exact_difference_of f top bits g top2 bits2 ≡ exact_difference_of g top2 bits2 f top bits
  exact_swap =
      exact_difference_counts f top bits S o g top2 bits2 T q e
      ∙ ap₂ (λ (n : ℕ) (R : Set). Ok (exact_count_at (config_at n) R)) e (apart_comm S T)
      ∙ sym (exact_difference_counts g top2 bits2 T q f top bits S o (sym e))

  pub limited_swap : limited_difference_of f top bits g top2 bits2 ≡ limited_difference_of g top2 bits2 f top bits
  limited_swap =
      limited_difference_counts f top bits S o g top2 bits2 T q e
      ∙ ap₂ (λ (n : ℕ) (R : Set). Ok (limited_to (config_at n) R)) e (apart_comm S T)
      ∙ sym (limited_difference_counts g top2 bits2 T q f top bits S o (sym e))

-- and of two filters of one set the count is 0
pub exact_same : (f : Filter) (top bits : List ℕ) (g : Filter) (top2 bits2 : List ℕ) (S : Set) → Of f top bits S
    → Of g top2 bits2 S → f.config ≡ g.config
    → exact_difference_of f top bits g top2 bits2 ≡ Ok 0
exact_same f top bits g top2 bits2 S o q e =
    exact_difference_counts f top bits S o g top2 bits2 S q e
    ∙ ap (λ (R : Set). Ok (exact_count_at (config_at f.config) R)) (apart_self S)
    ∙ ap (λ (l : List ℕ). Ok (length l)) (members_none none (W (config_at f.config)) (λ p h. refl))
