-- Digits read one by one, and decimals. Assumes nothing.
use mathlib.Core.Path.{◌≡◌, refl, sym, ap, ◌∙◌}
use mathlib.Core.Bool.{Bool, true, cond, and-false, ◌&&◌}
use mathlib.Core.List.{List, [], ◌∷◌}
use mathlib.Core.Option as maybe
use Prim.Native.Nat.{ℕ, ◌+◌, ◌-◌, ◌*◌, ◌^◌, ◌≤◌, ◌<◌}
use native.Mathlib.Numerals.{add-one}
use native.Mathlib.Omega.{arith}
use lib.Dec.{ltb}
use lib.ListN.{length, get_or, drop}
use lib.Seq.{drop-cons}
use borrow.Author.Tests.{le-ltb}
use Rattle.std.specs.Prelude.{None}
use Rattle.std.specs.List.{list_all}
use Rattle.sets.specs.Text.{all, decimal_from, is_digit}
use Rattle.decode.specs.Parts.{number_in, spelled}

pub all_listed : (s : List ℕ) → list_all is_digit s ≡ all is_digit s
all_listed [] = refl
all_listed (b ∷ bs) = ap (◌&&◌ (is_digit b)) (all_listed bs)

-- what digits spell that follow a number
abbrev pub spelled_from : ℕ → List ℕ → maybe.Option ℕ
spelled_from n bs = cond (all is_digit bs && ltb (decimal_from n bs) (2 ^ 64)) (maybe.some (decimal_from n bs)) maybe.none

-- a number read so far only grows
decimal_grows : (n : ℕ) (bs : List ℕ) → n ≤ decimal_from n bs
decimal_grows n [] = omega arith
decimal_grows n (b ∷ bs) = omega (arith, decimal_grows (10 * n + (b - 48)) bs)

-- a number read up to place i, and the digits from there on, spell what the text does
pub record Spelling (s : List ℕ) (n i : ℕ) : Type 0 where
  pub small : n < 2 ^ 64
  pub rest : spelled_from n (drop i s) ≡ spelled s

module _ {s : List ℕ} {n i : ℕ} (t : Spelling s n i) where
  module _ (h : i < length s) where
    abbrev value : ℕ
    value = 10 * n + (get_or s i 0 - 48)

    abbrev later : List ℕ
    later = drop (i + 1) s

    -- the byte at place i decides first
    decides : {b : Bool} → is_digit (get_or s i 0) ≡ b
        → cond ((b && all is_digit later) && ltb (decimal_from value later) (2 ^ 64)) (maybe.some (decimal_from value later)) maybe.none ≡ spelled s
    decides e =
        let next : drop i s ≡ get_or s i 0 ∷ later = rw (add-one, drop-cons s i 0) in
        sym (ap (λ (b : Bool). cond ((b && all is_digit later) && ltb (decimal_from value later) (2 ^ 64)) (maybe.some (decimal_from value later)) maybe.none) e)
        ∙ ap (spelled_from n) (sym next)
        ∙ t.rest

    pub spelling_past : is_digit (get_or s i 0) ≡ true → 2 ^ 64 ≤ value → None ≡ number_in (spelled s)
    spelling_past d l =
        let large : maybe.none ≡ spelled_from value later =
        rw (le-ltb (decimal_from value later) (2 ^ 64) (omega (arith, decimal_grows value later)), and-false (all is_digit later)) in
        ap number_in (large ∙ decides d)
