-- The answer to what was read is the answer to the whole input.
use Rattle.std.proofs.Common.{◌≡◌, ℕ, ◌<◌, ◌≤◌, Bool, Option, Some, None, IfSome, List, [], ◌++◌, length, take, cond, sym, ap, subst, ◌∙◌, ◌⊎◌, inl, inr, arith, length-append, append-nil, length-take-le}
use Rattle.std.proofs.lemmas.Bool.{cases_lt}
use borrow.Author.Tests.{lt-ltb}
use Rattle.std.specs.Io.KnownBytes.{Appends, Consumes, IsAtEnd}
use Rattle.sets.specs.Text.{compare_text, judged_input, largest_input, malformed, printed}

-- an input that is too long is refused, whatever follows
too_long : (bs : List ℕ) → largest_input < length bs → compare_text bs ≡ printed (malformed 0)
unfolding compare_text
too_long bs h = ap (λ (b : Bool). printed (cond b (malformed 0) (judged_input bs))) (lt-ltb _ _ h)

-- what follows the first 40,001 bytes is of no account
of_beginning : (bs rest : List ℕ) → (length bs ≤ largest_input → rest ≡ []) → compare_text bs ≡ compare_text (bs ++ rest)
of_beginning bs rest h = by_length (cases_lt largest_input (length bs))
  where
    by_length : (largest_input < length bs) ⊎ (length bs ≤ largest_input) → compare_text bs ≡ compare_text (bs ++ rest)
    by_length (inr short) = ap compare_text (sym (ap (λ (r : List ℕ). bs ++ r) (h short) ∙ append-nil bs))
    by_length (inl long) = too_long bs long ∙ sym (too_long (bs ++ rest) (omega (arith, length-append bs rest)))

-- the answer to what a buffer holds after a read is the answer to all that there was to read
pub of_all : (a b c d : Option (List ℕ)) (n : ℕ) (buf : List ℕ) → length buf ≡ 40001 → n ≤ length buf → Consumes a b (take n buf)
    → (n < length buf → IsAtEnd b) → Appends c d (compare_text (take n buf)) → IfSome a (λ text. Appends c d (compare_text text))
of_all None b c d n buf size within read end written = tt
of_all (Some x) None c d n buf size within read end written = absurd read
of_all (Some x) (Some y) c d n buf size within read end written =
    subst (λ (t : List ℕ). Appends c d t) (of_beginning (take n buf) y (λ h. end (omega (arith, length-take-le n buf within))) ∙ ap compare_text (sym read)) written
