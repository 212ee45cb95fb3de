-- Calls on a builder that holds a set, and the filter that is written of it. Assumes nothing.
use mathlib.Core.Path.{◌≡◌, refl, sym, ap, ◌∙◌, subst}
use mathlib.Core.Bool.{true, false}
use mathlib.Core.List.{List}
use Prim.Native.Nat.{ℕ, ◌*◌, ◌/◌, ◌≤◌, ◌<◌, max}
use native.Mathlib.Omega.{arith}
use borrow.Author.Tests.{le-leb}
use lib.ListN.{length, get_or, drop, replicate, length-append, length-replicate, get_or-replicate}
use Rattle.sets.specs.Sets.{Agree, Set, all_below, flips, none}
use Rattle.sets.specs.Words.{held}
use Rattle.sets.specs.Configurations.{Config, W, blocks, known, config_at}
use Rattle.sets.specs.Filter.{builder_set, cleared, is_builder}
use Rattle.sets.specs.Refusals.{Verdict, taken}
use Rattle.sets.proofs.Configurations.{line_at, whole_blocks}
use Rattle.sets.proofs.Filters.{flips_agree}
use Rattle.sets.proofs.Words.{held_zero}
use Rattle.bitvec.proofs.Filling.{filled_at, filled_rest}
use Rattle.pending.specs.Stages.{stage_at}
use Rattle.pending.proofs.Sound.{sound_staged, staged_sound}
use Rattle.diff_count.proofs.Theorems.{InPlace, Lent, settled}
use Rattle.builder.specs.Calls.{Finishes, News, Pushed, PushOutcome, Pushes, builder_in, finish_verdict, new_verdict, push_verdict}
use Rattle.builder.specs.Calls.{raised, raise_verdict}
use Rattle.builder.specs.declared.Builder.{Builder}
use Rattle.sizes.specs.declared.Refusal.{Refusal}
use Rattle.diff_count.specs.declared.Filter.{Filter}
use Rattle.std.specs.Prelude.{Result, Ok}

-- the slices are long enough for a builder's areas
pub record Ample (n : ℕ) (pending bits : List ℕ) : Type 0 where
  pub cells : 2 * (config_at n).M ≤ length pending
  pub blocks : blocks (config_at n) ≤ length bits

-- the call was not refused, and a builder of S stands in the slices; p₀ and q₀ tell what stands past the areas
pub record Carries (n : ℕ) (S : Set) (p₀ q₀ : List ℕ) (r : Result Builder Refusal) (p q : List ℕ) : Type 0 where
  pub split : ℕ
  pub count : ℕ
  pub answers : r ≡ Ok (builder_in n split count)
  pub sets : Agree (W (config_at n)) (builder_set p q count) S
  pub sound : is_builder (config_at n).M (W (config_at n)) p q count split ≡ true
  pub room : Ample n p q
  pub pending_rest : drop (2 * (config_at n).M) p ≡ drop (2 * (config_at n).M) p₀
  pub bit_rest : drop (blocks (config_at n)) q ≡ drop (blocks (config_at n)) q₀

-- ---- cleared areas

module _ (k : ℕ) (old : List ℕ) where
  length_cleared : k ≤ length (cleared k old)
  length_cleared = omega (arith, length-append (replicate k 0) (drop k old), length-replicate {A = ℕ} k 0)

  cleared_zero : (i : ℕ) → i < k → get_or (cleared k old) i 0 ≡ 0
  cleared_zero i h = filled_at (replicate k 0) k old (length-replicate k 0) i h ∙ get_or-replicate k i 0 0 h

  cleared_rest : drop k (cleared k old) ≡ drop k old
  cleared_rest = filled_rest (replicate k 0) k old (length-replicate k 0)

-- ---- sound builders

-- no bit stands at or above a higher split either
raised_sound : (n : ℕ) (p q : List ℕ) (count split to : ℕ) → to ≤ W (config_at n)
    → is_builder (config_at n).M (W (config_at n)) p q count split ≡ true
    → is_builder (config_at n).M (W (config_at n)) p q count (max split to) ≡ true
raised_sound n p q count split to l h =
    let S = sound_staged n p q (stage_at split count) h in
    staged_sound n p q (stage_at (max split to) count)
    (record {
      few = S.few;
      in_range = S.in_range;
      low = omega (arith, S.low, whole_blocks (config_at n) (line_at n).sound);
      clear = λ i a b. S.clear i (omega arith) b;
      unused = S.unused;
    })

-- ---- the calls

module _ (n : ℕ) (k : known n ≡ true) where
  new_passes : (split : ℕ) (p₀ q₀ : List ℕ) → split ≤ W (config_at n) → Ample n p₀ q₀ → new_verdict n split p₀ q₀ ≡ taken
  unfolding new_verdict
  new_passes split p₀ q₀ l L = rw (k, le-leb _ _ L.cells, le-leb _ _ L.blocks, le-leb _ _ l)

  -- a new builder holds the empty set
  pub new_step : (split : ℕ) (p₀ q₀ : List ℕ) {r : Result Builder Refusal} {p q : List ℕ} → split ≤ W (config_at n) → Ample n p₀ q₀
      → News n split p₀ q₀ r p q → Carries n none p₀ q₀ r p q
  new_step split p₀ q₀ {r} {p} {q} l L N =
      let c : Config = config_at n in
      let v = new_passes split p₀ q₀ l L in
      let x : p ≡ cleared (2 * c.M) p₀ = N.cells ∙ rw v in
      let y : q ≡ cleared (blocks c) q₀ = N.blocks ∙ rw v in
      let w : 64 * blocks c ≡ W c = whole_blocks c (line_at n).sound in
      let h : (j : ℕ) → j < 64 * blocks c → held q j ≡ false =
      λ j i. held_zero q (j / 64) j (ap (λ (b : List ℕ). get_or b (j / 64) 0) y ∙ cleared_zero (blocks c) q₀ (j / 64) (omega arith)) refl in
      record {
        split = split;
        count = 0;
        answers = N.answers ∙ rw v;
        sets = λ j i. h j (omega arith);
        sound = staged_sound n p q (stage_at split 0)
            (record {
              few = omega arith;
              in_range = λ i a. absurd (omega arith);
              low = omega arith;
              clear = λ j a i. h j i;
              unused = λ i a d. ap (λ (b : List ℕ). get_or b i 0) x ∙ cleared_zero (2 * c.M) p₀ i d;
            });
        room = record {
          cells = subst (λ (b : List ℕ). 2 * c.M ≤ length b) (sym x) (length_cleared (2 * c.M) p₀);
          blocks = subst (λ (b : List ℕ). blocks c ≤ length b) (sym y) (length_cleared (blocks c) q₀);
        };
        pending_rest = ap (drop (2 * c.M)) x ∙ cleared_rest (2 * c.M) p₀;
        bit_rest = ap (drop (blocks c)) y ∙ cleared_rest (blocks c) q₀;
      }

  module _ (S : Set) (p₀ q₀ : List ℕ) {b : Builder} {p q : List ℕ} (C : Carries n S p₀ q₀ (Ok b) p q) where
    abbrev now : Builder
    now = builder_in n C.split C.count

    is_now : b ≡ now
    is_now = cc C.answers

    push_passes : (list : List ℕ) → all_below (W (config_at n)) list ≡ true → push_verdict now p q list ≡ taken
    unfolding push_verdict
    push_passes list w = rw (k, le-leb _ _ C.room.cells, le-leb _ _ C.room.blocks, C.sound, w)

    -- pushing flips the set by the buckets listed
    pub push_step : (list : List ℕ) {r : Result Builder Refusal} {p' q' : List ℕ} → all_below (W (config_at n)) list ≡ true
        → Pushes b p q list r p' q' → Carries n (flips list S) p₀ q₀ r p' q'
    push_step list {r} {p'} {q'} w P =
        let O : PushOutcome taken now p q list r p' q' =
        subst (λ (u : Verdict). PushOutcome u now p q list r p' q') (push_passes list w)
        (subst (λ (x : Builder). Pushes x p q list r p' q') is_now P) in
        let x : Builder = O.0 in
        let D : Pushed now p q list x p' q' = O.2 in
        record {
          split = x.split;
          count = x.count;
          answers = O.1 ∙ ap (λ (i : ℕ). Ok (builder_in i x.split x.count)) D.config_is;
          sets = λ j l. D.sets j l ∙ flips_agree list (builder_set p q C.count) S j (C.sets j l);
          sound = D.sound;
          room = record { cells = omega (arith, D.pending_length, C.room.cells); blocks = omega (arith, D.bit_length, C.room.blocks) };
          pending_rest = D.pending_rest ∙ C.pending_rest;
          bit_rest = D.bit_rest ∙ C.bit_rest;
        }

    -- raising the split changes nothing of the set
    pub raise_step : (s : ℕ) {r : Result Builder Refusal} → s ≤ W (config_at n) → r ≡ raised b p q s → Carries n S p₀ q₀ r p q
    unfolding raised raise_verdict
    raise_step s l e =
        let v : raise_verdict now p q s ≡ taken =
        rw (k, le-leb _ _ C.room.cells, le-leb _ _ C.room.blocks, C.sound, le-leb _ _ l) in
        record {
          split = max C.split s;
          count = C.count;
          answers = e ∙ ap (λ (x : Builder). raised x p q s) is_now ∙ rw v;
          sets = C.sets;
          sound = raised_sound n p q C.count C.split s l C.sound;
          room = C.room;
          pending_rest = C.pending_rest;
          bit_rest = C.bit_rest;
        }

    -- finishing writes the filter of the set
    pub finish_step : (to to_bits : List ℕ) {r : Result Filter Refusal} {t b' : List ℕ} → Lent n to to_bits → Finishes b p q to to_bits r t b'
        → InPlace n S to to_bits r t b'
    unfolding finish_verdict
    finish_step to to_bits {r} {t} {b'} L F =
        settled n k (finish_verdict now p q to to_bits) (builder_set p q C.count) S to to_bits to to_bits
        (rw (
          k,
          le-leb _ _ C.room.cells,
          le-leb _ _ C.room.blocks,
          le-leb _ _ L.tops,
          le-leb _ _ L.blocks,
          C.sound,
        )) C.sets refl refl
        (subst (λ (x : Builder). Finishes x p q to to_bits r t b') is_now F)
