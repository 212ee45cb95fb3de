-- Theorems about the promise of the comparing call. Assumes nothing.
use mathlib.Core.Path.{◌≡◌, refl, sym, ap, ◌∙◌}
use mathlib.Core.Bool.{Bool, true, false, cond}
use mathlib.Core.List.{List, [], ◌∷◌, ◌++◌, map}
use Prim.Native.Nat.{ℕ, ◌+◌, ◌*◌, ◌≤◌}
use native.Mathlib.Omega.{arith}
use lib.Dec.{ltb}
use lib.ListN.{length, take, drop, length-append}
use lib.Seq.{take_at}
use Rattle.sets.specs.Sets.{Set, apart}
use Rattle.sets.specs.Configurations.{Config, W, config_at}
use Rattle.sets.specs.Filter.{exact_count_at, filled, limited_bound_at, limited_count_at}
use Rattle.sets.specs.Masks.{key_of, order_of}
use Rattle.sets.specs.Refusals.{Verdict, taken, refused, answer}
use Rattle.sets.specs.Row.{shown_row}
use Rattle.sets.specs.Text.{Cut, whole, cut, Judged, is, refused_at, Mask, and_then, at_line, compare_text, compared, config_line, cut_at, fields}
use Rattle.sets.specs.Text.{judged_input, judged_masked, judged_rows, judged_second, largest_input, line, malformed, mask_line, newline}
use Rattle.sets.specs.Text.{nothing_follows, order_word, overlap, printed, row_line, text, to_decimal, to_hex}
use Rattle.sizes.specs.Sizes.{refusal}
use Rattle.encode.proofs.Decimals.{decimal_length}
use Rattle.compare_text.specs.Answers.{Compares, text_verdict}
use Rattle.compare_text.proofs.Answering.{fits}
use Rattle.sizes.specs.declared.Refusal.{Refusal}
use Rattle.std.specs.Prelude.{Result, Ok, Err}
use Rattle.std.specs.declared.cmp.Ordering.{Ordering}
use Rattle.std.specs.declared.cmp.Ordering.TheVariants.{Less, Equal, Greater}

-- ---- two outcomes that the promise allows coincide

pub compares_once : (input out : List ℕ) {r r' : Result ℕ Refusal} {o o' : List ℕ} → Compares input out r o → Compares input out r' o'
    → (r ≡ r') × (o ≡ o')
compares_once input out x y = (x.answers ∙ sym y.answers, x.bytes ∙ sym y.bytes)

-- ---- the bytes that were written

wrote : (v : Verdict) (x n : ℕ) → Ok n ≡ answer v (λ k. Err (refusal k)) (Ok x) → (v ≡ taken) × (n ≡ x)
wrote taken x n e = (refl, (cc))
wrote (refused k) x n e =
    let z : ◌≡◌ {A = ℕ} 0 1 = cc in
    absurd (omega arith)

module _ {input out : List ℕ} {r : Result ℕ Refusal} {out' : List ℕ} {n : ℕ} (w : Compares input out r out') (e : r ≡ Ok n) where
  told : (text_verdict input out ≡ taken) × (n ≡ length (compare_text input))
  told = wrote (text_verdict input out) (length (compare_text input)) n (sym e ∙ w.answers)

  left : out' ≡ filled (compare_text input) (length (compare_text input)) out
  left = w.bytes ∙ rw told.0

  -- they are the answer
  pub bytes_written : take n out' ≡ compare_text input
  bytes_written = ap (take n) left ∙ take_at (compare_text input) (drop (length (compare_text input)) out) n (sym told.1)

  pub written_length : n ≡ length (take n out')
  written_length = told.1 ∙ ap length (sym bytes_written)

  pub written_in : n ≤ length out'
  written_in = omega (arith, told.1, ap length left, length-append (compare_text input) (drop (length (compare_text input)) out))

-- ---- no answer is longer than 322 bytes

record Short (most : ℕ) (bytes : List ℕ) : Type 0 where
  pub short : length bytes ≤ most

then : {m k : ℕ} {a b : List ℕ} → Short m a → Short k b → Short (m + k) (a ++ b)
then {a = a} {b = b} x y = record { short = omega (arith, length-append a b, x.short, y.short) }

numbers_short : (ns : List ℕ) → Short (21 * length ns + 1) (fields (map to_decimal ns))
numbers_short [] = record { short = omega arith }
numbers_short (n ∷ ns) =
    let d : Short 20 (to_decimal n) = record { short = decimal_length n } in
    record { short = omega (arith, (then d (numbers_short ns)).short) }

line_short : (word ns : List ℕ) → Short (length word + (21 * length ns + 1)) (word ++ fields (map to_decimal ns))
line_short word ns = record { short = omega (arith, length-append word (fields (map to_decimal ns)), (numbers_short ns).short) }

order_short : (o : Ordering) → Short 14 (line "order" (order_word o ∷ []))
order_short Less = record { short = omega arith }
order_short Equal = record { short = omega arith }
order_short Greater = record { short = omega arith }

keys_short : (a b : ℕ) → Short 38 (line "key" (to_hex 16 a ∷ to_hex 16 b ∷ []))
keys_short a b = record { short = omega arith }

compared_short : (c : Config) (m : Mask) (S T : Set) → Short 322 (compared c m S T)
unfolding compared
compared_short c m S T =
    let D : Set = apart S T in
    let s = exact_count_at c S in
    let t = exact_count_at c T in
    let d = exact_count_at c D in
    let config = line_short (text "config") (c.number ∷ []) in
    let ones = line_short (text "ones") (s ∷ t ∷ []) in
    let limited = line_short (text "limited") (limited_count_at c S ∷ limited_bound_at c S ∷ limited_count_at c T ∷ limited_bound_at c T ∷ []) in
    let difference = line_short (text "difference") (d ∷ limited_count_at c D ∷ limited_bound_at c D ∷ []) in
    let order = order_short (order_of (W c) m.mask m.size S T) in
    let keys = keys_short (key_of c m.mask m.size S) (key_of c m.mask m.size T) in
    then (then (then (then (then (then config ones) limited) difference) order) keys) (line_short (text "overlap") (overlap s t d ∷ []))

abbrev Fits : Judged (List ℕ) → Type 0
Fits j = Short 322 (printed j)

refusal_fits : (n l : ℕ) → Fits (refused_at n l)
refusal_fits n l = record { short = omega (arith, (line_short (text "refused") (n ∷ l ∷ [])).short) }

then_fits : {A : Type 0} (j : Judged A) (f : A → Judged (List ℕ)) → ((a : A) → Fits (f a)) → Fits (and_then j f)
then_fits (is a) f h = h a
then_fits (refused_at n l) f h = refusal_fits n l

line_fits : (l : ℕ) (x : Cut) (f : List ℕ → List ℕ → Judged (List ℕ)) → ((before rest : List ℕ) → Fits (f before rest))
    → Fits (at_line l x f)
line_fits l whole f h = refusal_fits 11 l
line_fits l (cut before rest) f h = h before rest

last_fits : (tail bytes : List ℕ) → Short 322 bytes → Fits (nothing_follows tail bytes)
last_fits [] bytes h = h
last_fits (b ∷ bs) bytes h = refusal_fits 11 5

rows_fit : (c : Config) (m : Mask) (bs : List ℕ) → Fits (judged_rows c m bs)
unfolding judged_rows judged_second
rows_fit c m bs =
    line_fits 3 (cut_at newline bs) _ (λ third rest.
    then_fits (row_line c 3 third) _ (λ first.
    line_fits 4 (cut_at newline rest) _ (λ fourth tail.
    then_fits (row_line c 4 fourth) _ (λ second.
    last_fits tail _ (compared_short c m (shown_row c first) (shown_row c second))))))

input_fits : (bs : List ℕ) → Fits (judged_input bs)
unfolding judged_input judged_masked
input_fits bs =
    line_fits 1 (cut_at newline bs) _ (λ first rest.
    then_fits (config_line first) _ (λ n.
    line_fits 2 (cut_at newline rest) _ (λ second tail.
    then_fits (mask_line second) _ (λ m. rows_fit (config_at n) m tail))))

pub longest : (input : List ℕ) → length (compare_text input) ≤ 322
unfolding compare_text
longest input = (go (ltb largest_input (length input))).short
  where
    go : (b : Bool) → Fits (cond b (malformed 0) (judged_input input))
    go true = refusal_fits 11 0
    go false = input_fits input

-- A buffer of 322 bytes is long enough for every input.
pub never_short : (input out : List ℕ) {r : Result ℕ Refusal} {out' : List ℕ} → 322 ≤ length out → Compares input out r out'
    → r ≡ Ok (length (compare_text input))
never_short input out h w = w.answers ∙ rw (fits input out (omega (arith, longest input)))
