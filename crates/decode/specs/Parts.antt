-- What the parts of a text are, told by the places and numbers that the code gives.
use Rattle.std.specs.Prelude.{◌≡◌, Bool, true, false, cond, Option, None, Some, ◌&&◌, List, ℕ, suc, ◌^◌, ◌<◌, ◌≤◌, ltb, length, take, drop}
use Rattle.std.proofs.Math.Option as maybe
use Rattle.sets.specs.Text.{whole, cut, cut_at, after, all, is_digit, is_hex, nibble, decimal_from, from_hex}

-- a text is cut at the first such byte, or it has none
abbrev pub Finds : ℕ → List ℕ → Option ℕ → Type 0
Finds mark s (Some i) = (i < length s) × (cut_at mark s ≡ cut (take i s) (drop (suc i) s))
Finds mark s None = cut_at mark s ≡ whole

-- what follows the word is what is left of the text at its length, or the text begins otherwise
abbrev pub Starts : List ℕ → List ℕ → Bool → Type 0
Starts word s true = (length word ≤ length s) × (after word s ≡ maybe.some (drop (length word) s))
Starts word s false = after word s ≡ maybe.none

abbrev pub hex_value : ℕ → Option ℕ
hex_value b = cond (is_hex b) (Some (nibble b)) None

abbrev pub number_in : maybe.Option ℕ → Option ℕ
number_in maybe.none = None
number_in (maybe.some n) = Some n

-- a decimal, but for leading zeros and the empty text
abbrev pub spelled : List ℕ → maybe.Option ℕ
spelled bs = cond (all is_digit bs && ltb (decimal_from 0 bs) (2 ^ 64)) (maybe.some (decimal_from 0 bs)) maybe.none

-- so many bytes, at the beginning of what was written
abbrev pub Hexed : List ℕ → Option ℕ → List ℕ → Type 0
Hexed s (Some n) to' = (n ≤ length to') × (from_hex s ≡ maybe.some (take n to'))
Hexed s None to' = from_hex s ≡ maybe.none
