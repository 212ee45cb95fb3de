-- The tests 2 and 5, each asked of a row's parts where a layout says that they stand. Assumes nothing.
use mathlib.Core.Path.{◌≡◌, refl, sym, ap, ap₂, ◌∙◌, subst}
use mathlib.Core.Bool.{Bool, true, false, cond, ◌&&◌, ◌||◌}
use mathlib.Core.List.{List, [], ◌∷◌}
use Prim.Native.Nat.{ℕ, ◌+◌, ◌-◌, ◌*◌, ◌/◌, ◌^◌, ◌≤◌, ◌<◌, min}
use native.Mathlib.Nat.{div-add-mod', mul-le-mul_right}
use native.Mathlib.Decide.{dec_lt}
use native.Mathlib.Omega.{arith}
use lib.Dec.{eqb, ltb}
use lib.ListN.{length, get_or, get_or-eq_default}
use borrow.Author.Tests.{eq-eqb, lt-ltb, ltb-true, ne_eqb}
use Rattle.sets.specs.Sets.{all_below, members, onward}
use Rattle.sets.specs.Words.{held}
use Rattle.sets.specs.Configurations.{Config, W, blocks_for, config_at}
use Rattle.sets.specs.Row.{Fault, count_fault, entries_fit, fall_fault, high_fault, lowest, nowhere, numbers, place, rising, row_block_count, row_blocks}
use Rattle.sets.specs.Row.{row_boundary, row_entries, spare_byte, spare_fault, top_bytes}
use Rattle.sets.proofs.Configurations.{entry_width, line_at}
use Rattle.sets.proofs.Tests.{all_below_lem, and_intro}
use Rattle.sizes.specs.Sizes.{sizes_at}
use Rattle.sizes.specs.declared.Sizes.{Sizes}
use Rattle.bitchunks.specs.Rows.{blocks, edge_in, entries, layout_of, width_bytes}
use Rattle.bitchunks.specs.declared.Layout.{Layout}
use Rattle.bitchunks.proofs.Rows.{width_bytes_of}
use Rattle.bitchunks.proofs.Shown.{entries_are}
use Rattle.judge_row.specs.Judging.{entry_fault, fault_of, found, placed}
use Rattle.std.specs.Prelude.{⊤, Option, None, Some, Result, Ok, Err}
use Rattle.judge_row.specs.declared.RowFault.{RowFault}
use Rattle.judge_row.specs.declared.RowFault.TheVariants as faults

-- ---- where the parts stand

-- what the tests go by: the row has all that the layout names, and the sizes are small
pub record Placed (s : Sizes) (l : Layout) (bs : List ℕ) : Type 0 where
  pub entries_in : l.count * width_bytes l.width ≤ length bs
  pub some : 1 ≤ s.top
  pub spare_at : 1 ≤ l.at
  pub whole : l.n ≡ (length bs - l.at) / 8
  pub small : s.buckets ≤ 2 ^ 32

placed_at : (n : ℕ) (bs : List ℕ) → Placed (sizes_at n) (layout_of (config_at n) bs) bs
unfolding sizes_at
placed_at n bs =
    let w : ℕ = (config_at n).entry in
    let q : ℕ = length bs / w in
    let l : min (config_at n).M q ≤ q = omega arith in
    record {
      entries_in =
          subst (λ (x : ℕ). min (config_at n).M q * x ≤ length bs) (sym (width_bytes_of (entry_width n)))
          (omega (arith, mul-le-mul_right w l, div-add-mod' (length bs) w));
      some = (line_at n).sound.some;
      spare_at = omega arith;
      whole = refl;
      small = (line_at n).small;
    }

pub stands : (n : ℕ) {s : Sizes} {l : Layout} {bs : List ℕ} → s ≡ sizes_at n → l ≡ layout_of (config_at n) bs → Placed s l bs
stands n {s} {l} {bs} e m =
    subst (λ (x : Sizes). Placed x l bs) (sym e) (subst (λ (x : Layout). Placed (sizes_at n) x bs) (sym m) (placed_at n bs))

-- what falls from no more than n stays below n
pub rising_below : (width at before n : ℕ) (l : List ℕ) → before ≤ n → rising width at before l ≡ nowhere → all_below n l ≡ true
rising_below width at before n [] a h = refl
rising_below width at before n (x ∷ xs) a h = go (rising_below width (at + width) x n xs) (ltb x before) refl h
  where
    go : (x ≤ n → rising width (at + width) x xs ≡ nowhere → all_below n xs ≡ true)
        → (b : Bool) → ltb x before ≡ b → cond b (rising width (at + width) x xs) (place at) ≡ nowhere → (ltb x n && all_below n xs) ≡ true
    go f true e g =
        let l : x < before = ltb-true x before e in
        and_intro (ltb x n) (all_below n xs) (lt-ltb x n (omega arith)) (f (omega arith) g)
    go f false e g =
        let z : ◌≡◌ {A = ℕ} 0 1 = cc in
        absurd (omega arith)

-- and then no place holds more than n
low : (n : ℕ) (l : List ℕ) → all_below n l ≡ true → (i : ℕ) → get_or l i 0 ≤ n
low n l h i = go (dec_lt i (length l))
  where
    go : Dec (i < length l) → get_or l i 0 ≤ n
    go (yes a) = omega (arith, all_below_lem n l h i a)
    go (no a) = omega (arith, get_or-eq_default l 0 {n = i} (omega arith))

-- ---- what a place tells

placed_at_place : (f : Fault) (p : ℕ) → placed f ≡ Some p → f ≡ place p
placed_at_place nowhere p e =
    let z : ◌≡◌ {A = ℕ} 0 1 = cc in
    absurd (omega arith)
placed_at_place (place b) p e = cc

pub placed_nowhere : (f : Fault) → placed f ≡ None → f ≡ nowhere
placed_nowhere nowhere e = refl
placed_nowhere (place b) e =
    let z : ◌≡◌ {A = ℕ} 0 1 = cc in
    absurd (omega arith)

-- ---- the tests

abbrev spare_right : Layout → List ℕ → ℕ → Bool
spare_right l bs edge = eqb edge 0 || eqb (get_or bs (l.at - 1) 0) (spare_byte edge)

abbrev high : Layout → List ℕ → ℕ → Fault
high l bs edge = lowest l.at (members (onward edge (held (blocks l bs))) (64 * l.n))

-- what they ask
module _ {s : Sizes} {l : Layout} {bs : List ℕ} (p : Placed s l bs) where
  pub edge_small : entry_fault s l bs ≡ nowhere → {edge : ℕ} → edge ≡ edge_in l s.top bs → edge ≤ 2 ^ 32
  edge_small f q =
      omega (arith, low (2 ^ 32) (entries l bs) (rising_below (width_bytes l.width) 0 s.buckets (2 ^ 32) (entries l bs) p.small f) (s.top - 1))

  pub spare_in : {edge k : ℕ} → k ≡ blocks_for edge → l.n ≡ k → 0 < edge → l.at - 1 < length bs
  spare_in e u h = omega (arith, p.whole)

  pub blocks_in_lem : 8 * l.n ≤ length bs - l.at
  blocks_in_lem = omega (arith, p.whole)

-- what a test found that passes or fails at one place
found_cond : (F : ℕ → RowFault) (b : Bool) (n : ℕ) (x : Result ⊤ RowFault) → found F (cond b nowhere (place n)) x ≡ cond b x (Err (F n))
found_cond F true n x = refl
found_cond F false n x = refl

-- one after the other, with the boundary
abbrev bit_fault : Layout → List ℕ → ℕ → Result ⊤ RowFault
bit_fault l bs edge =
    cond (eqb l.n (blocks_for edge))
    (cond (spare_right l bs edge) (found (λ b. faults.High b) (high l bs edge) (Ok tt)) (Err (faults.Spare (l.at - 1))))
    (Err (faults.BlockCount (l.at - 1)))

abbrev fault_in : Sizes → Layout → List ℕ → ℕ → Result ⊤ RowFault
fault_in s l bs edge =
    cond (all_below s.buckets (entries l bs)) (found (λ b. faults.Fall b) (entry_fault s l bs) (bit_fault l bs edge)) (Err faults.Range)

fault_at : (n : ℕ) (bs : List ℕ) → fault_in (sizes_at n) (layout_of (config_at n) bs) bs (row_boundary (config_at n) bs) ≡ fault_of (config_at n) bs
unfolding sizes_at row_entries row_blocks entries_fit fall_fault count_fault spare_fault high_fault fault_of
fault_at n bs =
    let c : Config = config_at n in
    let edge : ℕ = row_boundary c bs in
    let at : top_bytes c + 1 - 1 ≡ top_bytes c = omega arith in
    let last : Result ⊤ RowFault = found (λ b. faults.High b) (high_fault c bs) (Ok tt) in
    ap (λ (w : ℕ). cond (all_below (W c) (numbers w (min c.M (length bs / c.entry)) bs))
    (found (λ b. faults.Fall b) (rising w 0 (W c) (numbers w (min c.M (length bs / c.entry)) bs)) (bit_fault (layout_of c bs) bs edge))
    (Err faults.Range)) (width_bytes_of (entry_width n))
    ∙ ap (λ (x : Result ⊤ RowFault). cond (entries_fit c bs) (found (λ b. faults.Fall b) (fall_fault c bs) x) (Err faults.Range))
    (ap (λ (a : ℕ). cond (eqb (row_block_count c bs) (blocks_for edge))
    (cond (eqb edge 0 || eqb (get_or bs a 0) (spare_byte edge)) last (Err (faults.Spare a))) (Err (faults.BlockCount a))) at
    ∙ ap (λ (x : Result ⊤ RowFault). cond (eqb (row_block_count c bs) (blocks_for edge)) x (Err (faults.BlockCount (top_bytes c))))
    (sym (found_cond (λ b. faults.Spare b) (eqb edge 0 || eqb (get_or bs (top_bytes c) 0) (spare_byte edge)) (top_bytes c) last))
    ∙ sym (found_cond (λ b. faults.BlockCount b) (eqb (row_block_count c bs) (blocks_for edge)) (top_bytes c)
    (found (λ b. faults.Spare b) (spare_fault c bs) last)))

-- what each of them told
module _ (n : ℕ) {s : Sizes} {l : Layout} (bs : List ℕ) (e : s ≡ sizes_at n) (m : l ≡ layout_of (config_at n) bs) where
  fault_is : {edge : ℕ} → edge ≡ edge_in l s.top bs → {x : Result ⊤ RowFault} → x ≡ fault_in s l bs edge → x ≡ fault_of (config_at n) bs
  unfolding sizes_at row_entries
  fault_is q h =
      h
      ∙ ap (fault_in s l bs) q
      ∙ ap₂ (λ (x : Sizes) (y : Layout). fault_in x y bs (edge_in y x.top bs)) e m
      ∙ ap (λ (x : List ℕ). fault_in (sizes_at n) (layout_of (config_at n) bs) bs (get_or x ((config_at n).M - 1) 0))
      (entries_are (config_at n) bs (entry_width n))
      ∙ fault_at n bs

  -- the entries do not fall
  module _ {x : Option ℕ} (f : x ≡ placed (entry_fault s l bs)) {b : Bool} (g : b ≡ all_below s.buckets (entries l bs)) where
    pub out_of_range : b ≡ false → Err faults.Range ≡ fault_of (config_at n) bs
    out_of_range t = fault_is refl
        (ap (λ (y : Bool). cond y (found (λ b. faults.Fall b) (entry_fault s l bs) (bit_fault l bs (edge_in l s.top bs))) (Err faults.Range))
        (sym t ∙ g))

    pub not_falling : {p : ℕ} → x ≡ Some p → b ≡ true → Err (faults.Fall p) ≡ fault_of (config_at n) bs
    not_falling {p} h t =
        fault_is refl
        (ap₂ (λ (y : Bool) (z : Fault). cond y (found (λ b. faults.Fall b) z (bit_fault l bs (edge_in l s.top bs))) (Err faults.Range))
        (sym t ∙ g) (sym (placed_at_place (entry_fault s l bs) p (sym f ∙ h))))

  module _ (f : entry_fault s l bs ≡ nowhere) {edge : ℕ} (q : edge ≡ edge_in l s.top bs) {k : ℕ} (g : k ≡ blocks_for edge) where
    -- the entries fall, so they are in range, and the bit part decides
    by_bits : {x : Result ⊤ RowFault} → x ≡ bit_fault l bs edge → x ≡ fault_of (config_at n) bs
    by_bits h =
        let w : ℕ = s.buckets in
        let r : all_below w (entries l bs) ≡ true = rising_below (width_bytes l.width) 0 w w (entries l bs) (omega arith) f in
        fault_is q (h
        ∙ ap₂ (λ (y : Bool) (z : Fault). cond y (found (λ b. faults.Fall b) z (bit_fault l bs edge)) (Err faults.Range)) (sym r) (sym f))

    pub not_counted : (l.n ≡ k → ⊥) → Err (faults.BlockCount (l.at - 1)) ≡ fault_of (config_at n) bs
    not_counted u =
        by_bits
        (ap (λ (b : Bool). cond b (cond (spare_right l bs edge) (found (λ b. faults.High b) (high l bs edge) (Ok tt))
        (Err (faults.Spare (l.at - 1)))) (Err (faults.BlockCount (l.at - 1)))) (sym (ne_eqb _ _ (λ h. u (h ∙ sym g)))))

    module _ (u : l.n ≡ k) {d : Bool} (v : d ≡ spare_right l bs edge) where
      by_spare : {x : Result ⊤ RowFault} (b : Bool) → d ≡ b → x ≡ cond b (found (λ b. faults.High b) (high l bs edge) (Ok tt))
          (Err (faults.Spare (l.at - 1))) → x ≡ fault_of (config_at n) bs
      by_spare b w h =
          by_bits (h
          ∙ ap₂ (λ (y z : Bool). cond y (cond z (found (λ b. faults.High b) (high l bs edge) (Ok tt)) (Err (faults.Spare (l.at - 1))))
          (Err (faults.BlockCount (l.at - 1)))) (sym (eq-eqb _ _ (u ∙ g))) (sym w ∙ v))

      pub not_spare : d ≡ false → Err (faults.Spare (l.at - 1)) ≡ fault_of (config_at n) bs
      not_spare w = by_spare false w refl

      module _ (w : d ≡ true) {x : Option ℕ} (h : x ≡ placed (high l bs edge)) where
        pub too_high : {p : ℕ} → x ≡ Some p → Err (faults.High p) ≡ fault_of (config_at n) bs
        too_high {p} t =
            by_spare true w
            (ap (λ (z : Fault). found (λ b. faults.High b) z (Ok tt)) (sym (placed_at_place (high l bs edge) p (sym h ∙ t))))

        pub no_fault : x ≡ None → (Ok tt) ≡ fault_of (config_at n) bs
        no_fault t =
            by_spare true w
            (ap (λ (z : Fault). found (λ b. faults.High b) z (Ok tt)) (sym (placed_nowhere (high l bs edge) (sym h ∙ t))))
