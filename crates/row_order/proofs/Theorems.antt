-- Theorems about the functions that the two promises cite. Assumes nothing.
use mathlib.Core.Path.{◌≡◌, refl, sym, ap, ap₂, ◌∙◌}
use mathlib.Core.Bool.{true, cond}
use mathlib.Core.List.{List, [], ◌∷◌, ◌++◌}
use Prim.Native.Nat.{ℕ}
use denote.Ref.{Bor}
use Rattle.sets.specs.Sets.{Set}
use Rattle.sets.specs.Configurations.{Config, W, known, config_at}
use Rattle.sets.specs.Masks.{first_wins, order_of}
use Rattle.sets.specs.Row.{row, shown_row}
use Rattle.sets.specs.Refusals.{Test, Verdict, taken, refused, verdict, answer, is_known, is_mask, is_row_of}
use Rattle.sets.proofs.Configurations.{line_at}
use Rattle.sets.proofs.Order.{order_same}
use Rattle.sets.proofs.Reading.{row_passes, verdict_row}
use Rattle.sets.proofs.Rows.{row_back}
use Rattle.sets.proofs.Verdicts.{after_taken, before_taken}
use Rattle.sizes.specs.declared.Refusal.{Refusal}
use Rattle.diff_count.specs.declared.Filter.{Filter}
use Rattle.diff_count.proofs.OfSets.{Of}
use Rattle.masked.specs.Calls.{cmp_of}
use Rattle.masked.specs.Inner.{order_answer}
use Rattle.masked.proofs.Theorems.{cmp_asked}
use Rattle.row_order.specs.Calls.{Seen, cmp_rows_of, greater_of, rows_order, rows_verdict, seen}
use Rattle.row_order.proofs.Asked.{known_taken}
use Rattle.std.specs.Prelude.{Result, Ok, Err}
use Rattle.std.specs.declared.cmp.Ordering.{Ordering}
use Rattle.std.specs.declared.cmp.Ordering.TheVariants.{Less, Equal, Greater}

-- ---- two answers that one promise allows coincide

pub cmp_rows_once : (n mask size : ℕ) (first second : List ℕ) (r t : Result Ordering Refusal) → r ≡ cmp_rows_of n mask size first second
    → t ≡ cmp_rows_of n mask size first second
    → r ≡ t
cmp_rows_once n mask size first second r t x y = x ∙ sym y

pub greater_once : (n mask size : ℕ) (first second r t : Bor (List ℕ)) → seen r ≡ greater_of n mask size first second
    → seen t ≡ greater_of n mask size first second
    → seen r ≡ seen t
greater_once n mask size first second r t x y = x ∙ sym y

-- ---- the order names the row that is handed back

abbrev handed : Result Ordering Refusal → Seen → Seen → Seen → Seen
handed (Ok Less) first second none = second
handed (Ok Equal) first second none = first
handed (Ok Greater) first second none = first
handed (Err r) first second none = none

handed_is : (v : Verdict) (o : Ordering) (first second none : Seen)
    → answer v (λ r. none) (cond (first_wins o) first second) ≡ handed (order_answer v o) first second none
handed_is taken Less first second none = refl
handed_is taken Equal first second none = refl
handed_is taken Greater first second none = refl
handed_is (refused k) o first second none = refl

module _ (n mask size : ℕ) (first second : Bor (List ℕ)) where
  by_order : {a : Result Ordering Refusal} → cmp_rows_of n mask size first.now second.now ≡ a
      → greater_of n mask size first second ≡ handed a (seen first) (seen second) (first.ref_ptr, [])
  unfolding cmp_rows_of greater_of
  by_order e =
      handed_is (rows_verdict n mask size first.now second.now) (rows_order n mask size first.now second.now)
      (seen first) (seen second) (first.ref_ptr, [])
      ∙ ap (λ (a : Result Ordering Refusal). handed a (seen first) (seen second) (first.ref_ptr, [])) e

  pub greater_less : cmp_rows_of n mask size first.now second.now ≡ (Ok Less) → greater_of n mask size first second ≡ seen second
  greater_less e = by_order e

  pub greater_equal : cmp_rows_of n mask size first.now second.now ≡ (Ok Equal) → greater_of n mask size first second ≡ seen first
  greater_equal e = by_order e

  pub greater_greater : cmp_rows_of n mask size first.now second.now ≡ (Ok Greater) → greater_of n mask size first second ≡ seen first
  greater_greater e = by_order e

  pub greater_refused : {r : Refusal} → cmp_rows_of n mask size first.now second.now ≡ Err r
      → greater_of n mask size first second ≡ (first.ref_ptr, [])
  greater_refused e = by_order e

-- ---- the rows of sets

-- the order of two sets, or the mask's refusal
abbrev pub sets_order : Config → ℕ → ℕ → Set → Set → Result Ordering Refusal
sets_order c mask size S T = order_answer (verdict (is_mask mask size)) (order_of (W c) mask size S T)

-- rows are ordered as the sets that have them
pub rows_of_sets : (n : ℕ) → known n ≡ true → (mask size : ℕ) (S T : Set) →
    let c = config_at n in
    cmp_rows_of n mask size (row c S) (row c T) ≡ sets_order c mask size S T
unfolding cmp_rows_of rows_order rows_verdict
rows_of_sets n k mask size S T =
    let c : Config = config_at n in
    let s = (line_at n).sound in
    let t = (verdict_row c (row c S)).1 (row_passes c s S) in
    let u = (verdict_row c (row c T)).1 (row_passes c s T) in
    let rest : List Test = is_row_of c (row c S) ++ is_row_of c (row c T) in
    ap₂ order_answer
    (after_taken (is_known n ∷ []) (is_mask mask size ++ rest) (known_taken n k)
    ∙ before_taken (is_mask mask size) rest (after_taken (is_row_of c (row c S)) (is_row_of c (row c T)) t ∙ u))
    (order_same (W c) mask size (shown_row c (row c S)) (shown_row c (row c T)) S T (row_back c s S) (row_back c s T))

-- and so as the filters of the sets
pub rows_as_filters : (f : Filter) (top bits : List ℕ) (g : Filter) (top2 bits2 : List ℕ) (S T : Set) → Of f top bits S
    → Of g top2 bits2 T → f.config ≡ g.config
    → (mask size : ℕ) →
    let c = config_at f.config in
    cmp_rows_of f.config mask size (row c S) (row c T) ≡ cmp_of f top bits g top2 bits2 mask size
rows_as_filters f top bits g top2 bits2 S T x y e mask size =
    rows_of_sets f.config x.known mask size S T ∙ sym (cmp_asked f top bits g top2 bits2 S T x y e mask size)
