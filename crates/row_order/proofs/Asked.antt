-- The order of two rows once mask and rows are judged, and what each path answers. Assumes nothing.
use mathlib.Core.Path.{◌≡◌, refl, sym, ap, ap₂, ◌∙◌}
use mathlib.Core.Bool.{Bool, true, cond}
use mathlib.Core.List.{List, [], ◌∷◌, ◌++◌}
use Prim.Native.Nat.{ℕ, ◌*◌}
use Rattle.sets.specs.Sets.{Set}
use Rattle.sets.specs.Words.{block_at}
use Rattle.sets.specs.Configurations.{Config, W, known, config_at}
use Rattle.sets.specs.Masks.{laid, order_of}
use Rattle.sets.specs.Row.{shown_row}
use Rattle.sets.specs.Refusals.{Cause, Test, taken, refused, verdict, first_failing, is_known, is_mask, is_row_of, because, configuration}
use Rattle.sets.proofs.Order.{order_same, order_self}
use Rattle.sets.proofs.Verdicts.{after_taken, after_refused}
use Rattle.sizes.specs.Sizes.{sizes_of}
use Rattle.sizes.specs.declared.Sizes.{Sizes}
use Rattle.sizes.specs.declared.Refusal.{Refusal}
use Rattle.sizes.proofs.Laws.{known_of, unknown_of}
use Rattle.bitchunks.specs.Rows.{RowWalks, row_set}
use Rattle.bitchunks.specs.declared.Layout.{Layout}
use Rattle.judge.specs.Judging.{mask_of, passing}
use Rattle.judge.proofs.Verdicts.{mask_told_lem, mask_refused, refuses, takes}
use Rattle.judge_row.specs.Judging.{row_of, row_verdict}
use Rattle.judge_row.proofs.Verdicts.{fits_blocks, fits_buckets, fits_shows, fits_walks, row_alone, row_refused, row_taken, row_told}
use Rattle.masked.specs.Inner.{order_answer}
use Rattle.masked.proofs.Asked.{mask_decides, mask_passes, order_asked}
use Rattle.row_order.specs.Calls.{cmp_rows_of, rows_order, rows_verdict}
use Rattle.row_order.specs.Inner.{both_verdict, judged_of}
use Rattle.std.specs.Prelude.{⊤, Result, Ok, Err}
use Rattle.std.specs.declared.cmp.Ordering.{Ordering}
use Rattle.std.specs.declared.cmp.Ordering.TheVariants.{Equal}

-- ---- the first row, then the second

module _ (n : ℕ) (first second : List ℕ) where
  abbrev tests : List Test
  tests = is_row_of (config_at n) first

  abbrev tests2 : List Test
  tests2 = is_row_of (config_at n) second

  first_decides : {k : Cause} → row_verdict n first ≡ refused k → both_verdict n first second ≡ refused k
  unfolding both_verdict row_verdict
  first_decides v = after_refused (is_known n ∷ tests) tests2 v

  second_decides : row_verdict n first ≡ taken → both_verdict n first second ≡ row_verdict n second
  unfolding both_verdict row_verdict
  second_decides t = after_taken (is_known n ∷ tests) tests2 t ∙ sym (row_alone n second (row_taken n first t).0)

  -- both walks begin at the blocks that the first judge tells
  pub both_walk : {j i : Result (Sizes × Layout) Refusal} {s s₂ : Sizes} {l l₂ : Layout} → j ≡ row_of n first → j ≡ Ok (s, l) → i ≡ row_of n second
      → i ≡ Ok (s₂, l₂)
      → RowWalks l first 0 s.blocks × RowWalks l₂ second 0 s.blocks
  both_walk e q e₂ q₂ =
      let b = fits_blocks n first e q in
      (fits_walks n first e q _ b, fits_walks n second e₂ q₂ _ b)

module _ (n mask size : ℕ) (first second : List ℕ) where
  abbrev rows_shown : Result Ordering Refusal
  rows_shown = Ok (rows_order n mask size first second)

  -- what a judge refuses, the order does
  pub judged_first : {j : Result (Sizes × Layout) Refusal} {x : Refusal} → j ≡ row_of n first → j ≡ Err x
      → Err x ≡ judged_of n mask size first second
  unfolding judged_of
  judged_first e q =
      let t = row_refused n first e q in
      refuses (λ x. Err x) rows_shown (t.0, first_decides n first second t.1, t.2)

  module _ {j : Result (Sizes × Layout) Refusal} {s : Sizes} {l : Layout} (e : j ≡ row_of n first) (q : j ≡ Ok (s, l)) where
    -- rows of the same bytes show one set
    pub judged_same : first ≡ second → (Ok Equal) ≡ judged_of n mask size first second
    unfolding judged_of rows_order
    judged_same h =
        let c : Config = config_at n in
        let fits = (row_told n first e q).0 in
        takes (λ x. Err x) rows_shown (second_decides n first second fits ∙ ap (row_verdict n) (sym h) ∙ fits)
        (ap Ok
        (sym (order_self (W c) mask size (shown_row c first))
        ∙ ap (λ (x : List ℕ). order_of (W c) mask size (shown_row c first) (shown_row c x)) h))

    pub judged_second_lem : {i : Result (Sizes × Layout) Refusal} {x : Refusal} → i ≡ row_of n second → i ≡ Err x
        → Err x ≡ judged_of n mask size first second
    unfolding judged_of
    judged_second_lem e₂ q₂ =
        let t = row_refused n second e₂ q₂ in
        refuses (λ x. Err x) rows_shown (t.0, second_decides n first second (row_told n first e q).0 ∙ t.1, t.2)

    module _ {i : Result (Sizes × Layout) Refusal} {s₂ : Sizes} {l₂ : Layout} (e₂ : i ≡ row_of n second) (q₂ : i ≡ Ok (s₂, l₂)) where
      pub judged_done : {r : Ordering} → r ≡ order_of (64 * s.blocks) mask size (row_set l first) (row_set l₂ second)
          → Ok r ≡ judged_of n mask size first second
      unfolding judged_of rows_order
      judged_done r =
          takes (λ x. Err x) rows_shown (second_decides n first second (row_told n first e q).0 ∙ (row_told n second e₂ q₂).0)
          (ap Ok
          (r
          ∙ order_same (64 * s.blocks) mask size (row_set l first) (row_set l₂ second) (shown_row (config_at n) first)
          (shown_row (config_at n) second)
          (λ p h. fits_shows n first e q p) (λ p h. fits_shows n second e₂ q₂ p)
          ∙ ap (λ (x : ℕ). order_of x mask size (shown_row (config_at n) first) (shown_row (config_at n) second)) (fits_buckets n first e q)))

-- ---- 1, 6 and 7 before the rows

pub known_taken : (n : ℕ) → known n ≡ true → first_failing (is_known n ∷ []) ≡ taken
known_taken n k = ap (λ (b : Bool). cond b taken (refused (because configuration))) k

module _ (n mask size : ℕ) (first second : List ℕ) where
  abbrev row_tests : List Test
  row_tests = is_row_of (config_at n) first ++ is_row_of (config_at n) second

  pub rows_unknown : {j : Result Sizes Refusal} {x : Refusal} → j ≡ sizes_of n → j ≡ Err x
      → Err x ≡ cmp_rows_of n mask size first second
  unfolding cmp_rows_of rows_verdict
  rows_unknown {x = x} e q =
      let u = unknown_of n x (sym e ∙ q) in
      refuses (λ x. Err x) (rows_shown n mask size first second)
      (because configuration, after_refused (is_known n ∷ []) (is_mask mask size ++ row_tests) (ap (λ (b : Bool). cond b taken (refused (because configuration))) u.0), u.1)

  -- where 1, 6 and 7 pass, the rows decide
  rows_decide : known n ≡ true → verdict (is_mask mask size) ≡ taken → rows_verdict n mask size first second ≡ both_verdict n first second
  unfolding both_verdict rows_verdict
  rows_decide k m =
      let t = known_taken n k in
      mask_passes mask size (is_known n ∷ []) row_tests t m ∙ sym (after_taken (is_known n ∷ []) row_tests t)

  module _ {j : Result Sizes Refusal} {s : Sizes} (e : j ≡ sizes_of n) (q : j ≡ Ok s) {i : Result ⊤ Refusal} (m : i ≡ mask_of mask size) where
    is_known_lem : known n ≡ true
    is_known_lem = (known_of n s (sym e ∙ q)).0

    pub rows_unmasked : {x : Refusal} → i ≡ Err x → Err x ≡ cmp_rows_of n mask size first second
    unfolding cmp_rows_of rows_verdict
    rows_unmasked {x} u =
        let t = mask_refused mask size x (sym m ∙ u) in
        refuses (λ x. Err x) (rows_shown n mask size first second)
        (t.0, mask_decides mask size (is_known n ∷ []) row_tests (known_taken n is_known_lem) t.1, t.2)

    pub rows_done : i ≡ passing → {block len : ℕ} → (block ≡ block_at (laid mask size) 0) × (len ≡ size) → {r : Result Ordering Refusal}
        → r ≡ judged_of n block len first second
        → r ≡ cmp_rows_of n mask size first second
    unfolding cmp_rows_of judged_of rows_order
    rows_done f l r =
        let S : Set = shown_row (config_at n) first in
        let T : Set = shown_row (config_at n) second in
        r
        ∙ ap₂ order_answer (sym (rows_decide is_known_lem (mask_told_lem mask size (sym m ∙ f)).0))
        (order_asked mask size m f l refl S T S T (λ p h. refl) (λ p h. refl))
