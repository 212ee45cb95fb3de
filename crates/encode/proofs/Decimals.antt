-- The decimal digits of a number, found from the last to the first. Assumes nothing.
use mathlib.Core.Path.{◌≡◌, sym, ap, ap₂, ◌∙◌, subst}
use mathlib.Core.Bool.{Bool, true, false, cond}
use mathlib.Core.List.{List, [], ◌∷◌}
use Prim.Native.Nat.{ℕ, zero, suc, ◌+◌, ◌-◌, ◌/◌, ◌%◌, ◌^◌, ◌≤◌, ◌<◌}
use native.Mathlib.Nat.{pow-succ'}
use native.Mathlib.Omega.{arith}
use lib.Dec.{ltb}
use lib.ListN.{length, take, drop, set, length-drop, length-set}
use lib.Seq.{take_all, drop-cons, drop-set-lt, get_or-set_same, lt-length-set}
use borrow.Author.Tests.{lt-ltb, le-ltb}
use Rattle.encode.specs.Pieces.{PutsAt}
use Rattle.encode.proofs.Pieces.{puts_at_more}
use Rattle.sets.specs.Text.{decimal_digits, hex_digit, to_decimal}

drop_set : (l : List ℕ) (i a : ℕ) → i < length l → drop i (set l i a) ≡ a ∷ drop (suc i) l
drop_set l i a h =
    drop-cons (set l i a) i 0 (lt-length-set l i a h) ∙ ap₂ ◌∷◌ (get_or-set_same l i a 0 h) (drop-set-lt (suc i) l i a (omega arith))

low_digit : (n : ℕ) → n < 10 → hex_digit n ≡ 48 + n
low_digit n h = rw (lt-ltb n 10 h)

-- the digits after place i are found, and the rest of the number is still to print
pub record Digits (n : ℕ) (digits : List ℕ) (i rest : ℕ) : Type 0 where
  pub high : i ≤ 19
  pub length_is : length digits ≡ 20
  pub small : rest < 10 ^ suc i
  pub are : to_decimal n ≡ decimal_digits (suc i) rest (drop (suc i) digits)

pub digits_left : {n : ℕ} {digits : List ℕ} (i : ℕ) {rest : ℕ} → 9 < rest → Digits n digits i rest → 1 ≤ i
digits_left zero h t = absurd (omega (arith, t.small))
digits_left (suc i) h t = omega arith

pub digits_turn : {n : ℕ} {digits : List ℕ} (i : ℕ) {rest : ℕ} (d : ℕ) → 9 < rest → d ≡ hex_digit (rest % 10)
    → Digits n digits i rest → Digits n (set digits i d) (i - 1) (rest / 10)
digits_turn zero d h e t = absurd (omega (arith, digits_left zero h t))
digits_turn {n} {digits} (suc i) {rest} d h e t =
    let f : d ≡ 48 + rest % 10 = e ∙ low_digit (rest % 10) (omega arith) in
    let l : suc i < length digits = omega arith in
    let z : i ≡ suc i - 1 = omega arith in
    subst (λ (k : ℕ). Digits n (set digits (suc i) d) k (rest / 10)) z
    (record {
      high = omega arith;
      length_is = length-set digits (suc i) d ∙ t.length_is;
      small = omega (arith, t.small, pow-succ' 10 (suc i));
      are = rw (le-ltb rest 10 h) at t.are
          ∙ ap (decimal_digits (suc i) (rest / 10)) (sym (drop_set digits (suc i) d l ∙ ap (λ (x : ℕ). x ∷ drop (suc (suc i)) digits) f));
    })

-- ---- the length of a decimal

digits_length : (most n : ℕ) (later : List ℕ) → length (decimal_digits most n later) ≤ most + length later
digits_length zero n later = omega arith
digits_length (suc most) n later = go (ltb n 10) (digits_length most (n / 10) ((48 + n % 10) ∷ later))
  where
    go : (b : Bool) → length (decimal_digits most (n / 10) ((48 + n % 10) ∷ later)) ≤ most + suc (length later)
        → length (cond b ((48 + n) ∷ later) (decimal_digits most (n / 10) ((48 + n % 10) ∷ later))) ≤ suc most + length later
    go true h = omega arith
    go false h = omega arith

pub decimal_length : (n : ℕ) → length (to_decimal n) ≤ 20
decimal_length n = omega (arith, digits_length 20 n [])

-- ---- the digits put

-- the digits from place i on are put, once the first of them is found
pub digits_put : {n : ℕ} {digits : List ℕ} (i : ℕ) {rest : ℕ} (d : ℕ) {out : List ℕ} {at : ℕ} {out' : List ℕ} {r : ℕ}
    → rest ≤ 9 → d ≡ hex_digit rest → Digits n digits i rest
    → PutsAt (length (take (20 - i) (drop i (set digits i d)))) (take (20 - i) (drop i (set digits i d))) out at out' r
    → PutsAt 20 (to_decimal n) out at out' r
digits_put {n} {digits} i {rest} d {out} {at} {out'} {r} h e t p =
    let l : i < length digits = omega arith in
    let s : rest < 10 = omega arith in
    let all : take (20 - i) (drop i (set digits i d)) ≡ to_decimal n =
    take_all (20 - i) (drop i (set digits i d)) (simp (length-drop, length-set) (omega arith))
    ∙ drop_set digits i d l
    ∙ ap (λ (x : ℕ). x ∷ drop (suc i) digits) (e ∙ low_digit rest s)
    ∙ sym (rw (lt-ltb rest 10 s) at t.are) in
    puts_at_more (decimal_length n) (subst (λ (bs : List ℕ). PutsAt (length bs) bs out at out' r) all p)
