-- What was judged, spelled. Assumes nothing.
use mathlib.Core.Path.{◌≡◌, sym, ap, ◌∙◌}
use mathlib.Core.List.{List, [], ◌∷◌, ◌++◌}
use Prim.Native.Nat.{ℕ}
use Rattle.sets.specs.Text.{line, to_decimal}
use Rattle.figures.specs.declared.Figures.{Figures}
use Rattle.encode.specs.Pieces.{Puts}
use Rattle.encode.proofs.Pieces.{puts_then}
use Rattle.compare_text.specs.Answers.{counts_text, outer_text, spelled}
use Rattle.compare_text.specs.declared.RefusedAt.{RefusedAt}
use Rattle.sizes.specs.Sizes.{number_of}
use Rattle.std.specs.Prelude.{Result, Ok, Err}

-- what is put to an empty text is the text
put_first : {m : ℕ} {piece before after : List ℕ} → before ≡ [] → Puts m piece before after → after ≡ piece
put_first {piece = piece} e p = p.text ∙ ap (λ (l : List ℕ). l ++ piece) e

module _ {j : Result Figures RefusedAt} {empty text : List ℕ} (new : empty ≡ []) where
  pub figures_put : {x : Figures} {now : List ℕ} → j ≡ Ok x → Puts 241 (counts_text x) empty now → Puts 81 (outer_text x) now text
      → text ≡ spelled j
  unfolding spelled
  figures_put e p q = put_first new (puts_then p q) ∙ sym (ap spelled e)

  pub refusal_put : {m n : ℕ} {x : RefusedAt} → j ≡ Err x → n ≡ number_of x.refusal
      → Puts m (line "refused" (to_decimal n ∷ to_decimal x.line ∷ [])) empty text
      → text ≡ spelled j
  unfolding spelled
  refusal_put {x = x} e h p =
      put_first new p
      ∙ ap (λ (i : ℕ). line "refused" (to_decimal i ∷ to_decimal x.line ∷ [])) h ∙ sym (ap spelled e)
