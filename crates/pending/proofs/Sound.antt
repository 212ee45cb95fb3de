-- That areas and stage are a builder's: the test that computes, and the record of facts. Assumes nothing.
use mathlib.Core.Path.{◌≡◌, refl, sym, ap, subst, ◌∙◌}
use mathlib.Core.Bool.{Bool, true}
use mathlib.Core.List.{List, [], ◌∷◌}
use Prim.Native.Nat.{ℕ, ◌+◌, ◌-◌, ◌*◌, ◌<◌}
use native.Mathlib.Decide.{dec_lt}
use native.Mathlib.Omega.{arith}
use lib.Dec.{leb, eqb}
use lib.ListN.{length, get_or, take, drop, length-take, length-drop, get_or-eq_default}
use lib.Seq.{get_or-take, get_or-drop}
use borrow.Author.Tests.{le-leb, leb-true, eq-eqb, eqb-true}
use Rattle.sets.specs.Sets.{Below, all_below, members, onward}
use Rattle.sets.specs.Words.{held}
use Rattle.sets.specs.Configurations.{W, blocks, config_at}
use Rattle.sets.specs.Filter.{is_builder}
use Rattle.sets.proofs.Configurations.{line_at, whole_blocks}
use Rattle.sets.proofs.Laws.{onward_none, onward_none_back}
use Rattle.sets.proofs.Tests.{and_left, and_right, and_intro, all_below_lem, below_all}
use Rattle.bitvec.specs.Cells.{Zeros}
use Rattle.pending.specs.Stages.{Staged}
use Rattle.pending.specs.declared.Stage.{Stage}

-- ---- cells that are 0

all_zero : (l : List ℕ) (i : ℕ) → Below 1 l → get_or l i 0 ≡ 0
all_zero l i h = go (dec_lt i (length l))
  where
    go : Dec (i < length l) → get_or l i 0 ≡ 0
    go (yes a) = omega (arith, h i a)
    go (no a) = get_or-eq_default l 0 (omega arith)

module _ (a b : ℕ) (l : List ℕ) where
  part_at : (i : ℕ) → a + i < b → get_or (drop a (take b l)) i 0 ≡ get_or l (a + i) 0
  part_at i h = get_or-drop a (take b l) i 0 ∙ get_or-take b l (a + i) 0 h

  below_zeros : Below 1 (drop a (take b l)) → Zeros a b l
  below_zeros h i x y =
      let e : a + (i - a) ≡ i = omega arith in
      ap (λ (j : ℕ). get_or l j 0) (sym e) ∙ sym (part_at (i - a) (omega arith)) ∙ all_zero (drop a (take b l)) (i - a) h

  zeros_below : Zeros a b l → Below 1 (drop a (take b l))
  zeros_below z i h =
      let y : a + i < b = omega (arith, length-drop a (take b l), length-take b l) in
      omega (arith, part_at i y, z (a + i) (omega arith) y)

length_none : (l : List ℕ) → length l ≡ 0 → l ≡ []
length_none [] e = refl
length_none (x ∷ xs) e = absurd (omega arith)

-- ---- the test and the record

module _ (m k : ℕ) (pending bits : List ℕ) (s : Stage) where
  abbrev few_test : Bool
  few_test = leb s.count (2 * m)

  abbrev range_test : Bool
  range_test = all_below (64 * k) (take s.count pending)

  abbrev low_test : Bool
  low_test = leb s.split (64 * k)

  abbrev clear_test : Bool
  clear_test = eqb (length (members (onward s.split (held bits)) (64 * k))) 0

  abbrev unused_test : Bool
  unused_test = all_below 1 (drop s.count (take (2 * m) pending))

  pub builder_staged : is_builder m (64 * k) pending bits s.count s.split ≡ true → Staged m k pending bits s
  unfolding is_builder
  builder_staged h =
      let h₁ = and_right few_test _ h in
      let h₂ = and_right range_test _ h₁ in
      let h₃ = and_right low_test _ h₂ in
      record {
        few = leb-true _ _ (and_left few_test _ h);
        in_range = all_below_lem (64 * k) (take s.count pending) (and_left range_test _ h₁);
        low = leb-true _ _ (and_left low_test _ h₂);
        clear = onward_none_back s.split (held bits) (64 * k) (length_none _ (eqb-true _ _ (and_left clear_test _ h₃)));
        unused = below_zeros s.count (2 * m) pending (all_below_lem 1 (drop s.count (take (2 * m) pending)) (and_right clear_test _ h₃));
      }

  pub staged_builder : Staged m k pending bits s → is_builder m (64 * k) pending bits s.count s.split ≡ true
  unfolding is_builder
  staged_builder S =
      and_intro few_test _ (le-leb _ _ S.few)
      (and_intro range_test _ (below_all (64 * k) (take s.count pending) S.in_range)
      (and_intro low_test _ (le-leb _ _ S.low)
      (and_intro clear_test unused_test (eq-eqb _ 0 (ap (λ (l : List ℕ). length l) (onward_none s.split (held bits) (64 * k) S.clear)))
      (below_all 1 (drop s.count (take (2 * m) pending)) (zeros_below s.count (2 * m) pending S.unused)))))

-- in the configuration of a number
module _ (n : ℕ) (pending bits : List ℕ) (s : Stage) where
  abbrev sound_at : ℕ → Type 0
  sound_at w = is_builder (config_at n).M w pending bits s.count s.split ≡ true

  all_blocks : 64 * blocks (config_at n) ≡ W (config_at n)
  all_blocks = whole_blocks (config_at n) (line_at n).sound

  pub sound_staged : sound_at (W (config_at n)) → Staged (config_at n).M (blocks (config_at n)) pending bits s
  sound_staged h = builder_staged (config_at n).M (blocks (config_at n)) pending bits s (subst sound_at (sym all_blocks) h)

  pub staged_sound : Staged (config_at n).M (blocks (config_at n)) pending bits s → sound_at (W (config_at n))
  staged_sound S = subst sound_at all_blocks (staged_builder (config_at n).M (blocks (config_at n)) pending bits s S)
