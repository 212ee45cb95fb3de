-- 01, "The comparing program": the bytes of the input to the bytes of the output.
use Rattle.std.specs.Prelude.{Bool, true, false, cond, not, ◌&&◌, ◌||◌, List, [], ◌∷◌, ◌++◌, ℕ, zero, suc, ◌+◌, ◌-◌, ◌*◌, ◌/◌, ◌%◌, ◌^◌, eqb, ltb, leb, length}
use Rattle.std.proofs.Math.Option.{Option, none, some}
use Prim.Native.Char.{code}
use Prim.Native.String as string
use Prim.Native.String.{String}
use Rattle.sets.specs.Sets.{Set, apart, same}
use Rattle.sets.specs.Configurations.{Config, W, config_at}
use Rattle.sets.specs.Filter.{exact_count_at, limited_count_at, limited_bound_at}
use Rattle.sets.specs.Masks.{order_of, key_of}
use Rattle.sets.specs.Row.{shown_row}
use Rattle.sets.specs.Refusals.{Verdict, taken, refused, verdict, number, configuration, text_form, is_mask, is_row_of}
use Rattle.std.specs.declared.cmp.Ordering.{Ordering}
use Rattle.std.specs.declared.cmp.Ordering.TheVariants.{Less, Equal, Greater}

-- the bytes of a text
abbrev pub text : String → List ℕ
text string.[] = []
text (string.◌∷◌ c s) = code c ∷ text s

-- what judging gives: a value, or a refusal's number and line
pub data Judged (A : Type 0) : Type 0 where
  is : A → Judged A
  refused_at : ℕ → ℕ → Judged A

abbrev pub and_then : {A B : Type 0} → Judged A → (A → Judged B) → Judged B
and_then (is a) f = f a
and_then (refused_at n line) f = refused_at n line

-- 11: "the program's text is malformed"
abbrev pub malformed : {A : Type 0} → ℕ → Judged A
malformed line = refused_at (number text_form) line

abbrev pub unless_refused : {A : Type 0} → Verdict → ℕ → A → Judged A
unless_refused taken line a = is a
unless_refused (refused k) line a = refused_at k.number line

abbrev pub or_malformed : {A B : Type 0} → Option A → ℕ → (A → Judged B) → Judged B
or_malformed none line f = malformed line
or_malformed (some a) line f = f a

-- ---- words, decimals, hex

abbrev pub newline : ℕ
newline = 10

abbrev pub space : ℕ
space = 32

-- what stands before the first such byte, and what after it
pub data Cut : Type 0 where
  whole : Cut
  cut : List ℕ → List ℕ → Cut

abbrev pub longer : ℕ → Cut → Cut
longer b whole = whole
longer b (cut before after) = cut (b ∷ before) after

abbrev pub cut_at : ℕ → List ℕ → Cut
cut_at mark [] = whole
cut_at mark (b ∷ bs) = cond (eqb b mark) (cut [] bs) (longer b (cut_at mark bs))

-- what follows the word
abbrev pub after : List ℕ → List ℕ → Option (List ℕ)
after [] bs = some bs
after (w ∷ ws) [] = none
after (w ∷ ws) (b ∷ bs) = cond (eqb b w) (after ws bs) none

abbrev pub all : (ℕ → Bool) → List ℕ → Bool
all f [] = true
all f (b ∷ bs) = f b && all f bs

abbrev pub is_digit : ℕ → Bool
is_digit b = leb 48 b && leb b 57

abbrev pub decimal_from : ℕ → List ℕ → ℕ
decimal_from value [] = value
decimal_from value (b ∷ bs) = decimal_from (10 * value + (b - 48)) bs

-- 01: "decimals below 2^64 with no sign and no leading zero but `0` itself"
abbrev pub leading_zero : List ℕ → Bool
leading_zero [] = true
leading_zero (b ∷ []) = false
leading_zero (b ∷ d ∷ ds) = eqb b 48

abbrev pub decimal : List ℕ → Option ℕ
decimal bs = cond (all is_digit bs && (not (leading_zero bs) && ltb (decimal_from 0 bs) (2 ^ 64))) (some (decimal_from 0 bs)) none

abbrev pub is_hex : ℕ → Bool
is_hex b = is_digit b || (leb 97 b && leb b 102)

abbrev pub nibble : ℕ → ℕ
nibble b = cond (is_digit b) (b - 48) (b - 87)

abbrev pub pairs : List ℕ → List ℕ
pairs [] = []
pairs (h ∷ []) = []
pairs (h ∷ l ∷ bs) = (16 * nibble h + nibble l) ∷ pairs bs

-- 01: "in lower-case hex"; "an odd count of hex digits is refused 11"
abbrev pub from_hex : List ℕ → Option (List ℕ)
from_hex bs = cond (all is_hex bs && eqb (length bs % 2) 0) (some (pairs bs)) none

abbrev pub decimal_digits : ℕ → ℕ → List ℕ → List ℕ
decimal_digits zero n later = later
decimal_digits (suc most) n later = cond (ltb n 10) ((48 + n) ∷ later) (decimal_digits most (n / 10) ((48 + n % 10) ∷ later))

-- a number below 10^20 in decimal
abbrev pub to_decimal : ℕ → List ℕ
to_decimal n = decimal_digits 20 n []

abbrev pub hex_digit : ℕ → ℕ
hex_digit n = cond (ltb n 10) (48 + n) (87 + n)

abbrev pub to_hex : ℕ → ℕ → List ℕ
to_hex zero n = []
to_hex (suc digits) n = hex_digit (n / 16 ^ digits % 16) ∷ to_hex digits n

-- ---- the four lines. 01: "Each line is judged whole, text first, before the next."

-- 01: "(`config` alone means 7)"
abbrev pub bare_config : ℕ
bare_config = 7

-- 01: "`config ` and one or two digits other than 7 or 10, 13 among them, is refused 1."
abbrev pub numbered : List ℕ → Judged ℕ
numbered ds =
    cond (all is_digit ds && (eqb (length ds) 1 || eqb (length ds) 2))
    (cond (same ds (text "7")) (is 7) (cond (same ds (text "10")) (is 10) (refused_at (number configuration) 1)))
    (malformed 1)

unfoldable pub config_line : List ℕ → Judged ℕ
config_line bs = cond (same bs (text "config")) (is bare_config) (or_malformed (after (text "config ") bs) 1 numbered)

pub record Mask : Type 0 where
  pub mask : ℕ
  pub size : ℕ

abbrev pub judged_mask : ℕ → ℕ → Judged Mask
judged_mask mask size = unless_refused (verdict (is_mask mask size)) 2 (record { mask = mask; size = size })

abbrev pub two_decimals : Cut → Judged Mask
two_decimals whole = malformed 2
two_decimals (cut v s) = or_malformed (decimal v) 2 (λ mask. or_malformed (decimal s) 2 (λ size. judged_mask mask size))

-- 01: "`mask V SIZE`"
unfoldable pub mask_line : List ℕ → Judged Mask
mask_line bs = or_malformed (after (text "mask ") bs) 2 (λ rest. two_decimals (cut_at space rest))

-- 01: "two rows in lower-case hex, each line possibly blank, which is the empty row"
unfoldable pub row_line : Config → ℕ → List ℕ → Judged (List ℕ)
row_line c line bs = or_malformed (from_hex bs) line (λ row. unless_refused (verdict (is_row_of c row)) line row)

-- 01: "A missing line, one without its newline .. is refused 11 at that line."
abbrev pub at_line : {A : Type 0} → ℕ → Cut → (List ℕ → List ℕ → Judged A) → Judged A
at_line line whole f = malformed line
at_line line (cut before rest) f = f before rest

-- ---- the answer

-- 01: "Overlap is (a + b - d)·1000/(a + b) rounded down, with a, b, d the exact counts, and 0 if a + b is 0."
unfoldable pub overlap : ℕ → ℕ → ℕ → ℕ
overlap a b d = cond (eqb (a + b) 0) 0 ((a + b - d) * 1000 / (a + b))

abbrev pub order_word : Ordering → List ℕ
order_word Less = text "less"
order_word Equal = text "equal"
order_word Greater = text "greater"

-- a line: its word, its fields with a space before each, and a newline
abbrev pub fields : List (List ℕ) → List ℕ
fields [] = text "\n"
fields (f ∷ fs) = text " " ++ f ++ fields fs

abbrev pub line : String → List (List ℕ) → List ℕ
line word fs = text word ++ fields fs

-- 01: "Fields: configuration; exact counts; limited count and bound for each; exact difference, its limited count and bound; the first
-- row against the second (less, equal, greater); both keys in 16 hex digits; overlap in thousandths."
unfoldable pub compared : Config → Mask → Set → Set → List ℕ
compared c m S T =
    line "config" (to_decimal c.number ∷ [])
    ++ line "ones" (to_decimal (exact_count_at c S) ∷ to_decimal (exact_count_at c T) ∷ [])
    ++ line "limited"
    (to_decimal (limited_count_at c S) ∷ to_decimal (limited_bound_at c S) ∷ to_decimal (limited_count_at c T) ∷ to_decimal (limited_bound_at c T) ∷ [])
    ++ line "difference"
    (to_decimal (exact_count_at c (apart S T)) ∷ to_decimal (limited_count_at c (apart S T)) ∷ to_decimal (limited_bound_at c (apart S T)) ∷ [])
    ++ line "order" (order_word (order_of (W c) m.mask m.size S T) ∷ [])
    ++ line "key" (to_hex 16 (key_of c m.mask m.size S) ∷ to_hex 16 (key_of c m.mask m.size T) ∷ [])
    ++ line "overlap" (to_decimal (overlap (exact_count_at c S) (exact_count_at c T) (exact_count_at c (apart S T))) ∷ [])

-- 01: "Each of the four lines ends in a newline and nothing follows."; "bytes after line four are `refused 11 5`"
abbrev pub nothing_follows : {A : Type 0} → List ℕ → A → Judged A
nothing_follows [] a = is a
nothing_follows (b ∷ bs) a = malformed 5

-- after the first row, whose set is S
unfoldable pub judged_second : Config → Mask → Set → List ℕ → Judged (List ℕ)
judged_second c m S bs =
    at_line 4 (cut_at newline bs) (λ fourth tail.
    and_then (row_line c 4 fourth) (λ second. nothing_follows tail (compared c m S (shown_row c second))))

-- after the mask
unfoldable pub judged_rows : Config → Mask → List ℕ → Judged (List ℕ)
judged_rows c m bs =
    at_line 3 (cut_at newline bs) (λ third rest. and_then (row_line c 3 third) (λ first. judged_second c m (shown_row c first) rest))

-- after the configuration
unfoldable pub judged_masked : Config → List ℕ → Judged (List ℕ)
judged_masked c bs = at_line 2 (cut_at newline bs) (λ second rest. and_then (mask_line second) (λ m. judged_rows c m rest))

unfoldable pub judged_input : List ℕ → Judged (List ℕ)
judged_input bs = at_line 1 (cut_at newline bs) (λ first rest. and_then (config_line first) (λ n. judged_masked (config_at n) rest))

-- 01: "A refusal is one line, `refused N L`: number and input line."
abbrev pub printed : Judged (List ℕ) → List ℕ
printed (is bs) = bs
printed (refused_at n l) = line "refused" (to_decimal n ∷ to_decimal l ∷ [])

-- 01: "reads standard input, at most 40,000 bytes"; "Input above 40,000 bytes is `refused 11 0` before all else"
abbrev pub largest_input : ℕ
largest_input = 40000

unfoldable pub compare_text : List ℕ → List ℕ
compare_text bs = printed (cond (ltb largest_input (length bs)) (malformed 0) (judged_input bs))
