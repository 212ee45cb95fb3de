-- The text of the answer, copied into the buffer where it has room. Assumes nothing.
use mathlib.Core.Path.{◌≡◌, refl, sym, ap, ◌∙◌}
use mathlib.Core.Bool.{Bool, cond}
use mathlib.Core.List.{List}
use Prim.Native.Nat.{ℕ, ◌≤◌, ◌<◌}
use native.Mathlib.Omega.{arith}
use borrow.Author.Tests.{le-leb, lt-leb}
use lib.Dec.{leb}
use lib.ListN.{length}
use Rattle.sets.specs.Filter.{filled}
use Rattle.sets.specs.Refusals.{Verdict, taken, refused, answer, because, buffer}
use Rattle.sets.specs.Text.{compare_text}
use Rattle.sizes.specs.Sizes.{refusal}
use Rattle.judge.proofs.Verdicts.{refuses, takes}
use Rattle.compare_text.specs.Answers.{Compares, text_verdict}
use Rattle.std.specs.Prelude.{Ok, Err}

module _ (input out : List ℕ) where
  -- 3 for the buffer is the one test
  by_buffer : text_verdict input out ≡ cond (leb (length (compare_text input)) (length out)) taken (refused (because buffer))
  unfolding text_verdict
  by_buffer = refl

  pub fits : length (compare_text input) ≤ length out → text_verdict input out ≡ taken
  fits h = by_buffer ∙ ap (λ (b : Bool). cond b taken (refused (because buffer))) (le-leb _ _ h)

  -- the bytes left on a verdict
  abbrev left_by : Verdict → List ℕ
  left_by v = answer v (λ n. out) (filled (compare_text input) (length (compare_text input)) out)

  -- the answer's length
  module _ {text : List ℕ} (e : text ≡ compare_text input) where
    pub too_short : length out < length text → Compares input out (Err (refusal (because buffer))) out
    too_short h =
        let s : length out < length (compare_text input) = omega (arith, ap length e) in
        let v : text_verdict input out ≡ refused (because buffer) = by_buffer ∙ ap (λ (b : Bool). cond b taken (refused (because buffer))) (lt-leb _ _ s) in
        record {
          answers = refuses (λ x. Err x) _ (because buffer, v, refl);
          bytes = ap left_by (sym v);
        }

    pub copied : {out' : List ℕ} → length text ≤ length out → out' ≡ filled text (length text) out
        → Compares input out (Ok (length text)) out'
    copied {out'} h q =
        let room : length (compare_text input) ≤ length out = omega (arith, ap length e) in
        let v = fits room in
        record {
          answers = takes (λ x. Err x) (Ok (length (compare_text input))) v (ap (λ (l : List ℕ). Ok (length l)) e);
          bytes = q ∙ ap (λ (l : List ℕ). filled l (length l) out) e ∙ ap left_by (sym v);
        }
