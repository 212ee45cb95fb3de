-- What is answered of a row where a test fails, and what the answer tells. Assumes nothing.
use mathlib.Core.Path.{◌≡◌, refl, sym, ap, ap₂, ◌∙◌, subst}
use mathlib.Core.Bool.{Bool, true, false, cond}
use mathlib.Core.List.{List, [], ◌∷◌, ◌++◌}
use Prim.Native.Nat.{ℕ, ◌+◌, ◌-◌, ◌*◌, ◌^◌, ◌≤◌}
use native.Mathlib.Omega.{arith}
use lib.ListN.{length, length-append}
use Rattle.sets.specs.Sets.{Set, members}
use Rattle.sets.specs.Words.{held}
use Rattle.sets.specs.Configurations.{Config, W, config_at, known}
use Rattle.sets.specs.Filter.{exact_count_at}
use Rattle.sets.specs.Row.{Fault, count_fault, entries_fit, fall_fault, high_fault, is_row, length_fits, nowhere, place, spare_fault}
use Rattle.sets.specs.Row.{row_block_count, row_blocks, row_boundary, row_entries, shown_row}
use Rattle.sets.specs.Refusals.{Cause, Verdict, taken, refused, because, finds, first_failing, is_row_of, test, verdict}
use Rattle.sets.specs.Refusals.{block_count, configuration, fall, high, range, row_length, spare}
use Rattle.sets.proofs.Configurations.{entry_width, line_at, whole_blocks}
use Rattle.sets.proofs.Laws.{falls_low, members_gap, members_length}
use Rattle.sets.proofs.Bytes.{length_numbers}
use Rattle.sets.proofs.Split.{joined_members}
use Rattle.sets.proofs.Rows.{shown_row_lem}
use Rattle.sets.proofs.Reading.{Faultless, entries_split, faultless_facts, length_facts, row_tests, verdict_row}
use Rattle.sets.proofs.Verdicts.{passed}
use Rattle.sizes.specs.Sizes.{sizes_at, sizes_of, refusal}
use Rattle.sizes.specs.declared.Sizes.{Sizes}
use Rattle.sizes.specs.declared.Refusal.{Refusal}
use Rattle.sizes.proofs.Laws.{known_of, unknown_of}
use Rattle.bitchunks.specs.Rows.{RowWalks, blocks, layout_of, row_set}
use Rattle.bitchunks.specs.declared.Layout.{Layout}
use Rattle.bitchunks.proofs.Shown.{layout_walk, row_walks}
use Rattle.judge_row.specs.Judging.{fault_of, fault_verdict, found, row_answer, row_verdict, row_of}
use Rattle.judge_row.specs.declared.RowFault.{RowFault}
use Rattle.judge_row.specs.declared.RowFault.TheVariants as faults
use Rattle.std.specs.Prelude.{⊤, Result, Ok, Err}

-- 2 and the four tests of 5 tell what is told of the first fault
faults_told : (e : Bool) (f g h i : Fault)
    → first_failing (test range e ∷ finds fall f ∷ finds block_count g ∷ finds spare h ∷ finds high i ∷ [])
    ≡ fault_verdict (cond e (found (λ b. faults.Fall b) f (found (λ b. faults.BlockCount b) g
    (found (λ b. faults.Spare b) h (found (λ b. faults.High b) i (Ok tt))))) (Err faults.Range))
faults_told false f g h i = refl
faults_told true (place b) g h i = refl
faults_told true nowhere (place b) h i = refl
faults_told true nowhere nowhere (place b) i = refl
faults_told true nowhere nowhere nowhere (place b) = refl
faults_told true nowhere nowhere nowhere nowhere = refl

-- the tests of a row, one after the other
abbrev chain : Bool → Bool → Result ⊤ RowFault → Verdict
chain a b x = cond a (cond b (fault_verdict x) (refused (because row_length))) (refused (because configuration))

-- the sizes that were answered
module _ (n : ℕ) {j : Result Sizes Refusal} {s : Sizes} (f : j ≡ sizes_of n) (q : j ≡ Ok s) where
  sizes_are : (known n ≡ true) × (s ≡ sizes_at n)
  sizes_are = known_of n s (sym f ∙ q)

  pub row_listed : s ≡ sizes_at n
  row_listed = sizes_are.1

module _ (n : ℕ) (bs : List ℕ) where
  chained : row_verdict n bs ≡ chain (known n) (length_fits (config_at n) bs) (fault_of (config_at n) bs)
  unfolding row_verdict fault_of
  chained =
      let c : Config = config_at n in
      ap (λ (v : Verdict). cond (known n) (cond (length_fits c bs) v (refused (because row_length))) (refused (because configuration)))
      (faults_told (entries_fit c bs) (fall_fault c bs) (count_fault c bs) (spare_fault c bs) (high_fault c bs))

  -- what the tests told, and what is answered
  row_is_lem : {s : Sizes} {l : Layout} → s ≡ sizes_at n → l ≡ layout_of (config_at n) bs → (a b : Bool) (x : Result ⊤ RowFault)
      → known n ≡ a → length_fits (config_at n) bs ≡ b → fault_of (config_at n) bs ≡ x
      → row_answer (chain a b x) s l ≡ row_of n bs
  unfolding row_of
  row_is_lem e m a b x ha hb hx =
      let v : chain a b x ≡ row_verdict n bs = sym (chained ∙ rw (ha, hb, hx)) in
      ap₂ (λ (y : Sizes) (z : Layout). row_answer (chain a b x) y z) e m
      ∙ ap (λ (w : Verdict). row_answer w (sizes_at n) (layout_of (config_at n) bs)) v

  pub row_unknown : {j : Result Sizes Refusal} {r : Refusal} → j ≡ sizes_of n → j ≡ Err r → Err r ≡ row_of n bs
  row_unknown {r = r} f q =
      let u = unknown_of n r (sym f ∙ q) in
      ap (λ (x : Refusal). Err x) u.1 ∙ row_is_lem refl refl false _ _ u.0 refl refl

  module _ {j : Result Sizes Refusal} {s : Sizes} (f : j ≡ sizes_of n) (q : j ≡ Ok s) where
    module _ {b : Bool} (hb : b ≡ length_fits (config_at n) bs) where
      pub row_misfit : b ≡ false → Err (refusal (because row_length)) ≡ row_of n bs
      row_misfit tb = row_is_lem (row_listed n f q) refl true false _ (sizes_are n f q).0 (sym hb ∙ tb) refl

      pub row_judged : b ≡ true → {l : Layout} → l ≡ layout_of (config_at n) bs
          → {x : Result ⊤ RowFault} → x ≡ fault_of (config_at n) bs
          → {r : Result (Sizes × Layout) Refusal} → r ≡ row_answer (fault_verdict x) s l → r ≡ row_of n bs
      row_judged tb hl {x} hx e =
          e ∙ row_is_lem (row_listed n f q) hl true true x (sizes_are n f q).0 (sym hb ∙ tb) (sym hx)

-- ---- for callers

-- the answer of a verdict
module _ (r : Sizes) (k : Layout) where
  told : (v : Verdict) {s : Sizes} {l : Layout} → row_answer v r k ≡ Ok (s, l) → (v ≡ taken) × (s ≡ r) × (l ≡ k)
  told taken {s} {l} e =
      let q : (s, l) ≡ (r, k) = cc in
      (refl, ap (λ (x : Sizes × Layout). x.0) q, ap (λ (x : Sizes × Layout). x.1) q)
  told (refused i) e =
      let z : ◌≡◌ {A = ℕ} 0 1 = cc in
      absurd (omega arith)

  told_refused : (v : Verdict) {x : Refusal} → row_answer v r k ≡ Err x → (i : Cause) × (v ≡ refused i) × (x ≡ refusal i)
  told_refused taken e =
      let z : ◌≡◌ {A = ℕ} 0 1 = cc in
      absurd (omega arith)
  told_refused (refused i) e = (i, refl, (cc))

module _ (n : ℕ) (bs : List ℕ) where
  pub row_told : {j : Result (Sizes × Layout) Refusal} {s : Sizes} {l : Layout} → j ≡ row_of n bs → j ≡ Ok (s, l)
      → (row_verdict n bs ≡ taken) × (s ≡ sizes_at n) × (l ≡ layout_of (config_at n) bs)
  unfolding row_of
  row_told e q = told (sizes_at n) (layout_of (config_at n) bs) (row_verdict n bs) (sym e ∙ q)

  pub row_refused : {j : Result (Sizes × Layout) Refusal} {x : Refusal} → j ≡ row_of n bs → j ≡ Err x
      → (k : Cause) × (row_verdict n bs ≡ refused k) × (x ≡ refusal k)
  unfolding row_of
  row_refused e q = told_refused (sizes_at n) (layout_of (config_at n) bs) (row_verdict n bs) (sym e ∙ q)

  -- of a known configuration the verdict is that of the row's own tests
  pub row_alone : known n ≡ true → row_verdict n bs ≡ verdict (is_row_of (config_at n) bs)
  unfolding row_verdict
  row_alone h = ap (λ (b : Bool). cond b (verdict (is_row_of (config_at n) bs)) (refused (because configuration))) h

  pub row_taken : row_verdict n bs ≡ taken → (known n ≡ true) × (is_row (config_at n) bs ≡ true)
  unfolding row_verdict
  row_taken t =
      let p = passed (known n) (verdict (is_row_of (config_at n) bs)) (because configuration) t in
      (p.0, (verdict_row (config_at n) bs).0 p.1)

  pub row_takes : known n ≡ true → is_row (config_at n) bs ≡ true → row_verdict n bs ≡ taken
  row_takes k r = row_alone k ∙ (verdict_row (config_at n) bs).1 r

  pub row_facts : row_verdict n bs ≡ taken → Faultless (config_at n) bs × (length_fits (config_at n) bs ≡ true)
  row_facts t =
      let r = row_tests (config_at n) bs (row_taken t).1 in
      (faultless_facts (config_at n) bs r.2, r.0)

  -- where the row was taken
  module _ (t : row_verdict n bs ≡ taken) where
    row_short : length bs ≤ 2 ^ 32
    row_short = omega (arith, (length_facts (config_at n) bs (row_facts t).1).0, (line_at n).short)

    pub row_walked : (k : ℕ) → k ≡ (sizes_at n).blocks → RowWalks (layout_of (config_at n) bs) bs 0 k
    unfolding sizes_at
    row_walked k e =
        let w : W (config_at n) ≡ 64 * k = omega (arith, whole_blocks (config_at n) (line_at n).sound) in
        row_walks (config_at n) bs k (entry_width n) w (line_at n).small row_short (row_facts t).0

    row_shows : (p : ℕ) → row_set (layout_of (config_at n) bs) bs p ≡ shown_row (config_at n) bs p
    row_shows = layout_walk (config_at n) bs (entry_width n) (row_facts t).0

    row_members : members (shown_row (config_at n) bs) (W (config_at n))
        ≡ row_entries (config_at n) bs ++ members (held (row_blocks (config_at n) bs)) (64 * row_block_count (config_at n) bs)
    row_members =
        let c : Config = config_at n in
        let F : Faultless c bs = (row_facts t).0 in
        let R : Set = held (row_blocks c bs) in
        ap (λ (S : Set). members S (W c)) (shown_row_lem c bs)
        ∙ joined_members (line_at n).sound.some (entries_split c bs F) R
        ∙ ap (◌++◌ (row_entries c bs))
        (sym (members_gap R (row_boundary c bs) (64 * row_block_count c bs) (omega (arith, F.counted)) F.clear))

    -- its blocks stand in the row, and are counted
    row_room : (8 * (layout_of (config_at n) bs).n ≤ length bs - (layout_of (config_at n) bs).at) × (64 * (layout_of (config_at n) bs).n ≤ 2 ^ 32)
    row_room =
        let c : Config = config_at n in
        let F : Faultless c bs = (row_facts t).0 in (
          omega arith,
          omega (
            arith,
            F.counted,
            falls_low (row_entries c bs) (W c) (c.M - 1) F.falling,
            whole_blocks c (line_at n).sound,
            (line_at n).small,
          ),
        )

    row_total : (layout_of (config_at n) bs).count + length
        (members (held (blocks (layout_of (config_at n) bs) bs)) (64 * (layout_of (config_at n) bs).n))
        ≡ exact_count_at (config_at n) (shown_row (config_at n) bs)
    unfolding row_entries row_blocks
    row_total =
        let l : Layout = layout_of (config_at n) bs in
        let ones : List ℕ = members (held (blocks l bs)) (64 * l.n) in
        omega (arith, ap length row_members, length-append (row_entries (config_at n) bs) ones, length_numbers (config_at n).entry l.count bs)

  -- of the layout that was answered
  module _ {j : Result (Sizes × Layout) Refusal} {s : Sizes} {l : Layout} (e : j ≡ row_of n bs) (q : j ≡ Ok (s, l)) where
    fits_are : (P : Layout → Type 0) → P (layout_of (config_at n) bs) → P l
    fits_are P p = subst P (sym (row_told e q).2) p

    pub fits_blocks : s.blocks ≡ (sizes_at n).blocks
    fits_blocks = ap (λ (x : Sizes). x.blocks) (row_told e q).1

    pub fits_buckets : 64 * s.blocks ≡ W (config_at n)
    unfolding sizes_at
    fits_buckets = ap (λ (x : ℕ). 64 * x) fits_blocks ∙ whole_blocks (config_at n) (line_at n).sound

    pub fits_walks : (k : ℕ) → k ≡ (sizes_at n).blocks → RowWalks l bs 0 k
    fits_walks k h = fits_are (λ (x : Layout). RowWalks x bs 0 k) (row_walked (row_told e q).0 k h)

    pub fits_shows : (p : ℕ) → row_set l bs p ≡ shown_row (config_at n) bs p
    fits_shows p = fits_are (λ (x : Layout). row_set x bs p ≡ shown_row (config_at n) bs p) (row_shows (row_told e q).0 p)

    pub fits_room : (8 * l.n ≤ length bs - l.at) × (64 * l.n ≤ 2 ^ 32)
    fits_room = fits_are (λ (x : Layout). (8 * x.n ≤ length bs - x.at) × (64 * x.n ≤ 2 ^ 32)) (row_room (row_told e q).0)

    module _ {low : ℕ} (h : low ≡ length (members (held (blocks l bs)) (64 * l.n))) where
      pub fits_total : l.count + low ≡ exact_count_at (config_at n) (shown_row (config_at n) bs)
      fits_total =
          ap (◌+◌ l.count) h
          ∙ fits_are (λ (x : Layout). x.count + length (members (held (blocks x bs)) (64 * x.n))
          ≡ exact_count_at (config_at n) (shown_row (config_at n) bs))
          (row_total (row_told e q).0)

      pub fits_few : l.count + low ≤ 2 ^ 32
      fits_few = omega (arith, fits_total, members_length (shown_row (config_at n) bs) (W (config_at n)), (line_at n).small)
