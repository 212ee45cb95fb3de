-- What a judge's answer on a builder tells, and what is answered where a test fails. Assumes nothing.
use mathlib.Core.Path.{◌≡◌, refl, sym, ap, ap₂, ◌∙◌, subst}
use mathlib.Core.Bool.{Bool, true, false, cond}
use mathlib.Core.List.{List, [], ◌∷◌, ◌++◌}
use Prim.Native.Nat.{ℕ, ◌*◌, ◌/◌, ◌≤◌}
use native.Mathlib.Omega.{arith}
use lib.Dec.{leb}
use lib.ListN.{length}
use borrow.Author.Tests.{le-leb, leb-true}
use Rattle.sets.specs.Configurations.{W, blocks, known, config_at}
use Rattle.sets.specs.Filter.{is_builder}
use Rattle.sets.specs.Refusals.{Test, Verdict, taken, refused, first_failing, verdict, answer, areas_lent, builder_areas, builder_lent, Cause, because, configuration, room, soundness}
use Rattle.sets.specs.Refusals.{are_builder, holds_area, hold_areas}
use Rattle.sets.proofs.Configurations.{line_at, whole_blocks}
use Rattle.sets.proofs.Tests.{both_true, and_left, and_right}
use Rattle.sets.proofs.Verdicts.{after_taken, after_refused, all_pass, passed}
use Rattle.sizes.specs.Sizes.{sizes_at, refusal}
use Rattle.sizes.specs.declared.Sizes.{Sizes}
use Rattle.sizes.specs.declared.Refusal.{Refusal}
use Rattle.bitvec.specs.Parts.{Room}
use Rattle.judge.specs.Judging as filters
use Rattle.judge.proofs.Verdicts as filter-laws
use Rattle.judge.proofs.Verdicts.{judged_known, judged_refused, refuses, short}
use Rattle.pending.specs.Stages.{Staged}
use Rattle.pending.specs.declared.Stage.{Stage}
use Rattle.pending.proofs.Sound.{sound_staged}
use Rattle.judge_builder.specs.Judging.{record_at, areas_of, builder_of, target_of}
use Rattle.std.specs.Prelude.{Ok, Err}

-- ---- 1, 3

-- twice as many cells have room exactly where half of the slice has
half : (m x : ℕ) → leb m (x / 2) ≡ leb (2 * m) x
half m x =
    both_true (leb m (x / 2)) (leb (2 * m) x)
    (λ e. le-leb (2 * m) x (omega (arith, leb-true m (x / 2) e)))
    (λ e. le-leb m (x / 2) (omega (arith, leb-true (2 * m) x e)))

module _ (n x y : ℕ) where
  pub areas_half : filters.areas_of n (x / 2) y ≡ areas_of n x y
  unfolding filters.areas_of areas_of
  areas_half =
      ap (λ (b : Bool). filters.judged n
      (cond (known n) (cond b (cond (leb (blocks (config_at n)) y) taken (refused (because room))) (refused (because room))) (refused (because configuration))))
      (half (config_at n).M x)

  -- what the answer tells: the tests pass, and these are the sizes
  pub areas_told : (s : Sizes) → areas_of n x y ≡ Ok s → (verdict (builder_areas n x y) ≡ taken) × (s ≡ sizes_at n)
  unfolding areas_of
  areas_told s q = judged_known n (verdict (builder_areas n x y)) s q

  pub areas_refused : (r : Refusal) → areas_of n x y ≡ Err r → (k : Cause) × (verdict (builder_areas n x y) ≡ refused k) × (r ≡ refusal k)
  unfolding areas_of
  areas_refused r q = judged_refused n (verdict (builder_areas n x y)) r q

  pub areas_pass : verdict (builder_areas n x y) ≡ taken → (known n ≡ true) × (2 * (config_at n).M ≤ x) × (blocks (config_at n) ≤ y)
  areas_pass v =
      let w : Verdict = cond (leb (blocks (config_at n)) y) taken (refused (because room)) in
      let p = passed (known n) (cond (leb (2 * (config_at n).M) x) w (refused (because room))) (because configuration) v in
      let q = passed (leb (2 * (config_at n).M) x) w (because room) p.1 in
      (p.0, leb-true _ _ q.0, leb-true _ _ (passed (leb (blocks (config_at n)) y) taken (because room) q.1).0)

room_of : (n : ℕ) (pending bits : List ℕ) → verdict (builder_areas n (length pending) (length bits)) ≡ taken
    → Room (2 * (sizes_at n).top) (sizes_at n).blocks pending bits
unfolding sizes_at
room_of n pending bits v =
    let a = areas_pass n (length pending) (length bits) v in
    let s = (line_at n).sound in
    record {
      some = omega (arith, s.some);
      cells = a.1;
      blocks_in = a.2;
      small = omega (arith, (line_at n).small, whole_blocks (config_at n) s);
    }

pub areas_room : (n : ℕ) (pending bits : List ℕ) (s : Sizes) → areas_of n (length pending) (length bits) ≡ Ok s
    → Room (2 * s.top) s.blocks pending bits
areas_room n pending bits s q =
    let a = areas_told n (length pending) (length bits) s q in
    subst (λ (x : Sizes). Room (2 * x.top) x.blocks pending bits) (sym a.1) (room_of n pending bits a.0)

-- ---- 1, 3, 8

-- a builder that passes
pub record Passes (n : ℕ) (st : Stage) (pending bits : List ℕ) : Type 0 where
  pub known : known n ≡ true
  pub room : Room (2 * (sizes_at n).top) (sizes_at n).blocks pending bits
  pub staged : Staged (sizes_at n).top (sizes_at n).blocks pending bits st

module _ (n : ℕ) (st : Stage) (pending bits : List ℕ) where
  abbrev sound : Bool
  sound = is_builder (config_at n).M (W (config_at n)) pending bits st.count st.split

  abbrev sound_test : Test
  sound_test = are_builder (config_at n) (record_at n st) pending bits

  by_sizes : is_builder (sizes_at n).top (64 * (sizes_at n).blocks) pending bits st.count st.split ≡ sound
  unfolding sizes_at
  by_sizes = ap (λ (w : ℕ). is_builder (config_at n).M w pending bits st.count st.split) (whole_blocks (config_at n) (line_at n).sound)

  pub builder_no_areas : (r : Refusal) → areas_of n (length pending) (length bits) ≡ Err r → Err r ≡ builder_of n st pending bits
  unfolding builder_of
  builder_no_areas r q =
      let a = areas_refused n (length pending) (length bits) r q in
      refuses (λ x. Err x) (Ok (sizes_at n)) (
        a.0,
        after_refused (builder_areas n (length pending) (length bits)) (sound_test ∷ []) a.1,
        a.2,
      )

  -- after 1 and 3: what test 8 told, of the sizes that were answered
  pub builder_rest : (s : Sizes) → areas_of n (length pending) (length bits) ≡ Ok s
      → (b : Bool) → b ≡ is_builder s.top (64 * s.blocks) pending bits st.count st.split
      → answer (cond b taken (refused (because soundness))) (λ k. Err (refusal k)) (Ok s) ≡ builder_of n st pending bits
  unfolding builder_of
  builder_rest s q b h =
      let a = areas_told n (length pending) (length bits) s q in
      let e : b ≡ sound =
      h ∙ ap (λ (x : Sizes). is_builder x.top (64 * x.blocks) pending bits st.count st.split) a.1 ∙ by_sizes in
      let v : cond b taken (refused (because soundness)) ≡ verdict (builder_lent (record_at n st) pending bits) =
      ap (λ (x : Bool). cond x taken (refused (because soundness))) e
      ∙ sym (after_taken (builder_areas n (length pending) (length bits)) (sound_test ∷ []) a.0) in
      ap₂ (λ (k : Sizes) (w : Verdict). answer w (λ i. Err (refusal i)) (Ok k)) a.1 v

  -- what the answer tells
  pub builder_told : (s : Sizes) → builder_of n st pending bits ≡ Ok s
      → (verdict (builder_lent (record_at n st) pending bits) ≡ taken) × (s ≡ sizes_at n)
  unfolding builder_of
  builder_told s q = judged_known n (verdict (builder_lent (record_at n st) pending bits)) s q

  pub builder_refused : (r : Refusal) → builder_of n st pending bits ≡ Err r
      → (k : Cause) × (verdict (builder_lent (record_at n st) pending bits) ≡ refused k) × (r ≡ refusal k)
  unfolding builder_of
  builder_refused r q = judged_refused n (verdict (builder_lent (record_at n st) pending bits)) r q

  pub builder_pass : verdict (builder_lent (record_at n st) pending bits) ≡ taken → Passes n st pending bits
  unfolding sizes_at
  builder_pass v =
      let a = all_pass (builder_areas n (length pending) (length bits)) (sound_test ∷ []) v in
      record {
        known = (areas_pass n (length pending) (length bits) a.0).0;
        room = room_of n pending bits a.0;
        staged = sound_staged n pending bits st (passed sound taken (because soundness) a.1).0;
      }

-- ---- 1, 3, 8, with room for a filter

-- two tests of one number may change places with two others of it
swap : (a b c d : Bool) (v : Verdict) → short (short v c d) a b ≡ short (short v a b) c d
swap true true c d v = refl
swap true false true true v = refl
swap true false true false v = refl
swap true false false d v = refl
swap false b true true v = refl
swap false b true false v = refl
swap false b false d v = refl

module _ (n : ℕ) (st : Stage) (pending bits : List ℕ) (top blk : ℕ) where
  abbrev lent : Verdict
  lent = verdict (builder_lent (record_at n st) pending bits ++ hold_areas (config_at n) top blk)

  -- the builder's tests after 1
  abbrev rest : List Test
  rest =
      holds_area (2 * (config_at n).M) (length pending)
      ∷ holds_area (blocks (config_at n)) (length bits)
      ∷ are_builder (config_at n) (record_at n st) pending bits
      ∷ []

  filter_first : lent ≡ first_failing (areas_lent n top blk ++ rest)
  filter_first =
      ap (λ (v : Verdict). cond (known n) v (refused (because configuration)))
      (swap (leb (2 * (config_at n).M) (length pending)) (leb (blocks (config_at n)) (length bits)) (leb (config_at n).M top)
      (leb (blocks (config_at n)) blk)
      (cond (is_builder (config_at n).M (W (config_at n)) pending bits st.count st.split) taken (refused (because soundness))))

  after_known : known n ≡ true → verdict (builder_lent (record_at n st) pending bits) ≡ first_failing rest
  after_known k = ap (λ (b : Bool). cond b (first_failing rest) (refused (because configuration))) k

  pub target_no_areas : (r : Refusal) → filters.areas_of n top blk ≡ Err r → Err r ≡ target_of n st pending bits top blk
  unfolding target_of
  target_no_areas r q =
      let a = filter-laws.areas_refused n top blk r q in
      refuses (λ x. Err x) (Ok (sizes_at n)) (a.0, filter_first ∙ after_refused (areas_lent n top blk) rest a.1, a.2)

  pub target_rest : (s : Sizes) → filters.areas_of n top blk ≡ Ok s → builder_of n st pending bits ≡ target_of n st pending bits top blk
  unfolding builder_of target_of
  target_rest s q =
      let a = filter-laws.areas_told n top blk s q in
      let k = filter-laws.areas_pass n top blk a.0 in
      ap (filters.judged n) (after_known k.0 ∙ sym (filter_first ∙ after_taken (areas_lent n top blk) rest a.0))

  -- what the answer tells
  pub target_told : (s : Sizes) → target_of n st pending bits top blk ≡ Ok s → (lent ≡ taken) × (s ≡ sizes_at n)
  unfolding target_of
  target_told s q = judged_known n lent s q

  pub target_refused : (r : Refusal) → target_of n st pending bits top blk ≡ Err r → (k : Cause) × (lent ≡ refused k) × (r ≡ refusal k)
  unfolding target_of
  target_refused r q = judged_refused n lent r q

  pub target_pass : lent ≡ taken → Passes n st pending bits × ((config_at n).M ≤ top) × (blocks (config_at n) ≤ blk)
  unfolding sizes_at
  target_pass v =
      let a = all_pass (areas_lent n top blk) rest (sym filter_first ∙ v) in
      let k = filter-laws.areas_pass n top blk a.0 in (
        builder_pass n st pending bits (after_known k.0 ∙ a.1),
        leb-true _ _ (and_left _ _ k.1),
        leb-true _ _ (and_right (leb (config_at n).M top) _ k.1),
      )
