-- Theorems about the promises of the calls that make a filter. Assumes nothing.
use mathlib.Core.Path.{◌≡◌, refl, sym, ap, ap₂, ◌∙◌, subst, subst₂}
use mathlib.Core.Bool.{true}
use mathlib.Core.List.{List, [], ◌∷◌}
use Prim.Native.Nat.{ℕ, ◌≤◌}
use borrow.Author.Tests.{le-leb}
use lib.Dec.{leb}
use lib.ListN.{length}
use Rattle.sets.specs.Sets.{Agree, Set, all_below, apart, differ, flips, none}
use Rattle.sets.specs.Configurations.{Config, W, blocks, known, config_at}
use Rattle.sets.specs.Filter.{FilterRecord, filled, record_of, top_slice, bit_slice}
use Rattle.sets.specs.Refusals.{Verdict, taken, filter_lent, are_buckets}
use Rattle.sets.proofs.Areas.{Stands, filter_agree, stands_slices, shown_back, top_again, bits_again}
use Rattle.sets.proofs.Configurations.{line_at, number_at}
use Rattle.sets.proofs.Filters.{flips_agree}
use Rattle.sets.proofs.Verdicts.{after_taken}
use Rattle.judge.proofs.Passing.{all_taken, lent_taken, stands_pass}
use Rattle.diff_count.specs.Making.{Makes, filter_in, record_in}
use Rattle.diff_count.specs.Calls.{Empties, Toggles, Differs, empty_verdict, toggle_verdict, difference_verdict, shown_by}
use Rattle.diff_count.specs.declared.Filter.{Filter}
use Rattle.sizes.specs.declared.Refusal.{Refusal}
use Rattle.std.specs.Prelude.{Result, Ok}

-- ---- two outcomes that a promise allows coincide

pub makes_once : {v : Verdict} {c : Config} {S : Set} {top bits : List ℕ} {r r' : Result Filter Refusal} {t t' b b' : List ℕ}
    → Makes v c S top bits r t b → Makes v c S top bits r' t' b'
    → (r ≡ r') × (t ≡ t') × (b ≡ b')
makes_once x y = (x.answers ∙ sym y.answers, x.tops ∙ sym y.tops, x.blocks ∙ sym y.blocks)

pub empty_once : (n : ℕ) (top bits : List ℕ) {r r' : Result Filter Refusal} {t t' b b' : List ℕ} → Empties n top bits r t b
    → Empties n top bits r' t' b' → (r ≡ r') × (t ≡ t') × (b ≡ b')
empty_once n top bits x y = makes_once x y

pub toggle_once : (f : Filter) (top bits list : List ℕ) {r r' : Result Filter Refusal} {t t' b b' : List ℕ} → Toggles f top bits list r t b
    → Toggles f top bits list r' t' b'
    → (r ≡ r') × (t ≡ t') × (b ≡ b')
toggle_once f top bits list x y = makes_once x y

pub difference_once : (f : Filter) (top bits : List ℕ) (g : Filter) (top2 bits2 to to_bits : List ℕ) {r r' : Result Filter Refusal} {t t' b b' : List ℕ}
    → Differs f top bits g top2 bits2 to to_bits r t b → Differs f top bits g top2 bits2 to to_bits r' t' b' → (r ≡ r') × (t ≡ t') × (b ≡ b')
difference_once f top bits g top2 bits2 to to_bits x y = makes_once x y

-- ---- calls on the filters of sets

-- the call was not refused, and record and slices are those of S; t₀ and b₀ tell what stands past the areas
abbrev pub InPlace : ℕ → Set → List ℕ → List ℕ → Result Filter Refusal → List ℕ → List ℕ → Type 0
InPlace n S t₀ b₀ r t b = Makes taken (config_at n) S t₀ b₀ r t b

-- the slices are long enough for the areas
pub record Lent (n : ℕ) (top bits : List ℕ) : Type 0 where
  pub tops : (config_at n).M ≤ length top
  pub blocks : blocks (config_at n) ≤ length bits

module _ (n : ℕ) (k : known n ≡ true) where
  -- what was made of a set R that agrees with S is what is made of S
  pub settled : (v : Verdict) (R S : Set) (t b t₀ b₀ : List ℕ) {r : Result Filter Refusal} {t' b' : List ℕ} → v ≡ taken → Agree (W (config_at n)) R S
      → top_slice (config_at n) R t ≡ top_slice (config_at n) R t₀ → bit_slice (config_at n) R b ≡ bit_slice (config_at n) R b₀
      → Makes v (config_at n) R t b r t' b' → InPlace n S t₀ b₀ r t' b'
  settled v R S t b t₀ b₀ e h p q M =
      let a = filter_agree (config_at n) (line_at n).sound R S h in
      record {
        answers = M.answers ∙ rw e (ap (λ (x : FilterRecord). Ok (filter_in x)) a.0);
        tops = M.tops ∙ rw e (p ∙ ap (λ (l : List ℕ). filled l (config_at n).M t₀) a.1);
        blocks = M.blocks ∙ rw e (q ∙ ap (λ (l : List ℕ). filled l (blocks (config_at n)) b₀) a.2);
      }

  -- the record of S, with the number as it was handed in
  abbrev stored : Set → Filter
  stored S = record { config = n; count = (record_of (config_at n) S).count; boundary = (record_of (config_at n) S).boundary }

  is_stored : (S : Set) → filter_in (record_of (config_at n) S) ≡ stored S
  unfolding record_of
  is_stored S =
      ap (λ (i : ℕ). filter_in
      (record { config = i; count = (record_of (config_at n) S).count; boundary = (record_of (config_at n) S).boundary })) (number_at n k)

  module _ (S : Set) (t₀ b₀ : List ℕ) where
    stands : Stands (config_at n) (record_in (stored S)) (top_slice (config_at n) S t₀) (bit_slice (config_at n) S b₀) S
    stands =
        subst (λ (f : Filter). Stands (config_at n) (record_in f) (top_slice (config_at n) S t₀) (bit_slice (config_at n) S b₀) S) (is_stored S)
        (stands_slices (config_at n) (line_at n).sound S t₀ b₀)

    shows : Agree (W (config_at n)) (shown_by (stored S) (top_slice (config_at n) S t₀) (bit_slice (config_at n) S b₀)) S
    shows =
        shown_back (config_at n) (line_at n).sound (record_in (stored S)) (top_slice (config_at n) S t₀) (bit_slice (config_at n) S b₀) S stands

  pub empty_step : (t₀ b₀ : List ℕ) {r : Result Filter Refusal} {t b : List ℕ} → Lent n t₀ b₀ → Empties n t₀ b₀ r t b → InPlace n none t₀ b₀ r t b
  unfolding empty_verdict
  empty_step t₀ b₀ L M =
      let x : leb (config_at n).M (length t₀) ≡ true = le-leb _ _ L.tops in
      let y : leb (blocks (config_at n)) (length b₀) ≡ true = le-leb _ _ L.blocks in
      settled (empty_verdict n t₀ b₀) none none t₀ b₀ t₀ b₀ (rw (k, x, y)) (λ p h. refl) refl refl M

  module _ (S : Set) (t₀ b₀ : List ℕ) where
    abbrev T : List ℕ
    T = top_slice (config_at n) S t₀

    abbrev B : List ℕ
    B = bit_slice (config_at n) S b₀

    toggle_passes : (list : List ℕ) → all_below (W (config_at n)) list ≡ true → toggle_verdict (stored S) T B list ≡ taken
    unfolding toggle_verdict
    toggle_passes list w =
        after_taken (filter_lent (record_in (stored S)) T B) (are_buckets (config_at n) list ∷ [])
        (lent_taken (stands_pass {n = n} k (stands S t₀ b₀))) ∙ rw w

    -- toggling the filter of S gives that of the set toggled
    pub toggle_step : (list : List ℕ) {f : Filter} {t b : List ℕ} {r : Result Filter Refusal} {t' b' : List ℕ} → all_below (W (config_at n)) list ≡ true
        → InPlace n S t₀ b₀ (Ok f) t b → Toggles f t b list r t' b' → InPlace n (flips list S) t₀ b₀ r t' b'
    toggle_step list {f} {t} {b} {r} {t'} {b'} h P M =
        let e : f ≡ filter_in (record_of (config_at n) S) = cc P.answers in
        let R : Set = flips list (shown_by (stored S) T B) in
        let N : Toggles (stored S) T B list r t' b' =
        subst (λ (g : Filter). Toggles g T B list r t' b') (e ∙ is_stored S)
        (subst₂ (λ (x y : List ℕ). Toggles f x y list r t' b') P.tops P.blocks M) in
        settled (toggle_verdict (stored S) T B list) R (flips list S) T B t₀ b₀ (toggle_passes list h)
        (λ p l. flips_agree list (shown_by (stored S) T B) S p (shows S t₀ b₀ p l))
        (top_again (config_at n) (line_at n).sound S R t₀) (bits_again (config_at n) (line_at n).sound S R b₀) N

    module _ (Q : Set) (t₁ b₁ : List ℕ) where
      abbrev T₂ : List ℕ
      T₂ = top_slice (config_at n) Q t₁

      abbrev B₂ : List ℕ
      B₂ = bit_slice (config_at n) Q b₁

      difference_passes : (to to_bits : List ℕ) → Lent n to to_bits → difference_verdict (stored S) T B (stored Q) T₂ B₂ to to_bits ≡ taken
      unfolding difference_verdict
      difference_passes to to_bits L =
          all_taken (stands_pass {n = n} k (stands S t₀ b₀)) (stands_pass {n = n} k (stands Q t₁ b₁)) (length to) (length to_bits)
          L.tops L.blocks

      -- of the filters of S and Q it is that of their symmetric difference
      pub difference_step : (to to_bits : List ℕ) {f g : Filter} {t b t₂ b₂ : List ℕ} {r : Result Filter Refusal} {t' b' : List ℕ} → Lent n to to_bits
          → InPlace n S t₀ b₀ (Ok f) t b → InPlace n Q t₁ b₁ (Ok g) t₂ b₂ → Differs f t b g t₂ b₂ to to_bits r t' b'
          → InPlace n (apart S Q) to to_bits r t' b'
      difference_step to to_bits {f} {g} {t} {b} {t₂} {b₂} {r} {t'} {b'} L P P₂ M =
          let e : f ≡ filter_in (record_of (config_at n) S) = cc P.answers in
          let e₂ : g ≡ filter_in (record_of (config_at n) Q) = cc P₂.answers in
          let N₁ : Differs f T B g T₂ B₂ to to_bits r t' b' =
          subst₂ (λ (x y : List ℕ). Differs f T B g x y to to_bits r t' b') P₂.tops P₂.blocks
          (subst₂ (λ (x y : List ℕ). Differs f x y g t₂ b₂ to to_bits r t' b') P.tops P.blocks M) in
          let N : Differs (stored S) T B (stored Q) T₂ B₂ to to_bits r t' b' =
          subst₂ (λ (x y : Filter). Differs x T B y T₂ B₂ to to_bits r t' b') (e ∙ is_stored S) (e₂ ∙ is_stored Q) N₁ in
          let R : Set = apart (shown_by (stored S) T B) (shown_by (stored Q) T₂ B₂) in
          settled (difference_verdict (stored S) T B (stored Q) T₂ B₂ to to_bits) R (apart S Q) to to_bits to to_bits
          (difference_passes to to_bits L)
          (λ p l. ap₂ differ (shows S t₀ b₀ p l) (shows Q t₁ b₁ p l)) refl refl N
