-- 01, "The comparing program": what the call answers and leaves; and the parts of it that the code makes one after the other.
use Rattle.std.specs.Prelude.{◌≡◌, List, [], ◌∷◌, ◌++◌, ℕ, length, Result, Ok, Err}
use Rattle.sets.specs.Filter.{filled}
use Rattle.sets.specs.Refusals.{Verdict, answer, areas_lent, holds_row, taken, verdict}
use Rattle.sets.specs.Text.{compare_text, line, order_word, to_decimal, to_hex}
use Rattle.sizes.specs.Sizes.{number_of, refusal}
use Rattle.figures.specs.declared.Figures.{Figures}
use Rattle.compare_text.specs.declared.RefusedAt.{RefusedAt}
use Rattle.sizes.specs.declared.Refusal.{Refusal}
use Rattle.sizes.specs.declared.Refusal.TheVariants.{TextForm}
use Rattle.std.specs.declared.cmp.Ordering.{Ordering}

-- ---- the call

-- 3: "a lent slice is shorter .. than the row to be written"; here, than the answer
unfoldable pub text_verdict : List ℕ → List ℕ → Verdict
text_verdict input out = verdict (holds_row (compare_text input) out ∷ [])

pub record Compares (input out : List ℕ) (r : Result ℕ Refusal) (out' : List ℕ) : Type 0 where
  pub answers : r ≡ answer (text_verdict input out) (λ n. Err (refusal n)) (Ok (length (compare_text input)))
  pub bytes : out' ≡ answer (text_verdict input out) (λ n. out) (filled (compare_text input) (length (compare_text input)) out)

-- ---- the input, line by line

-- the areas in which the program reads a row hold a filter of this configuration
abbrev pub Areas : ℕ → Type 0
Areas n = verdict (areas_lent n 64 1040) ≡ taken

abbrev pub on_line : {A : Type 0} → ℕ → Result A Refusal → Result A RefusedAt
on_line l (Ok a) = Ok a
on_line l (Err r) = Err (record { refusal = r; line = l })

abbrev pub malformed_at : ℕ → RefusedAt
malformed_at l = record { refusal = TextForm; line = l }

-- ---- the answer

abbrev pub counts_text : Figures → List ℕ
counts_text x =
    line "config" (to_decimal x.config ∷ [])
    ++ line "ones" (to_decimal x.first.ones ∷ to_decimal x.second.ones ∷ [])
    ++ line "limited"
    (to_decimal x.first.limited.count
    ∷ to_decimal x.first.limited.bound
    ∷ to_decimal x.second.limited.count
    ∷ to_decimal x.second.limited.bound
    ∷ [])
    ++ line "difference"
    (to_decimal x.between.difference ∷ to_decimal x.between.limited.count ∷ to_decimal x.between.limited.bound ∷ [])

abbrev pub order_text : Ordering → List ℕ
order_text o = line "order" (order_word o ∷ [])

abbrev pub outer_text : Figures → List ℕ
outer_text x =
    order_text x.between.order
    ++ line "key" (to_hex 16 x.first.key ∷ to_hex 16 x.second.key ∷ [])
    ++ line "overlap" (to_decimal x.overlap ∷ [])

unfoldable pub spelled : Result Figures RefusedAt → List ℕ
spelled (Ok x) = counts_text x ++ outer_text x
spelled (Err r) = line "refused" (to_decimal (number_of r.refusal) ∷ to_decimal r.line ∷ [])
