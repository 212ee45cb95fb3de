-- The laws of words: numbers whose binary digits tell the members of a set in a block. Assumes nothing.
use mathlib.Core.Path.{◌≡◌, refl, sym, ap, ap₂, ◌∙◌, subst, fun_ext}
use mathlib.Core.Bool.{Bool, true, false, true≢false, cond, ◌&&◌, ◌||◌}
use mathlib.Core.List.{List, [], ◌∷◌, ◌++◌}
use Prim.Native.Nat.{ℕ, zero, suc, ◌+◌, ◌-◌, ◌*◌, ◌/◌, ◌%◌, ◌^◌, ◌≤◌, ◌<◌, max, min}
use native.Mathlib.Nat.{pow-suc, add_comm, div-eq_of_lt, div-eq_of_lt-le, mod-eq_of_lt, mod_self, mul-add-mod_self_right, mul-mod_left}
use native.Mathlib.Nat.{lt_of_lt_of_le}
use native.Mathlib.Decide.{dec_lt, ℕ_discrete}
use native.Mathlib.Numerals.{add-one}
use native.Mathlib.Omega.{arith}
use lib.Dec.{eqb}
use lib.ListN.{length, get_or, set, drop, length-set}
use lib.Seq.{get_or-set_same, get_or-set_other, drop-set-lt}
use lib.Pow.{pow_pos, pow_mono, pow-lt, high, low, field, mod-mod-pow, shl-shr, shr-shr, shr_lt}
use lib.Bits.{bit_and, bit_or, bit_xor, and_shr, and_step, and_lt, or_shr, or_step, xor_shr, xor_step, xor_lt}
use lib.Count.{ones, ones_in, ones_cat, count_leading_zeros, leading_top}
use borrow.Author.Tests.{eq-eqb, ne_eqb}
use Rattle.sets.specs.Sets.{Below, Set, apart, differ, flip, flips, members}
use Rattle.sets.specs.Words.{TopDigit, bit, block_at, digit, flip_bit, flip_bits, held, word}
use Rattle.sets.proofs.Laws.{differ_comm, flip_other}

-- ---- digits

-- the digit j of a number is the lowest of what is left when j digits are dropped
pub digit_shift : (w i j : ℕ) → digit (w / 2 ^ i) j ≡ digit w (i + j)
unfolding digit
digit_shift w i j = ap (λ (x : ℕ). eqb (x % 2) 1) (shr-shr w i j)

-- digits from n on do not matter to the digits below n
pub digit_low : (w n j : ℕ) → j < n → digit (w % 2 ^ n) j ≡ digit w j
unfolding digit
digit_low w n j h =
    let d : ℕ = n - suc j in
    let e : n ≡ (d + 1) + j = omega arith in
    ap (λ (x : ℕ). eqb (w % 2 ^ x / 2 ^ j % 2) 1) e
    ∙ ap (λ (x : ℕ). eqb (x % 2) 1) (field w (d + 1) j)
    ∙ ap (λ (x : ℕ). eqb x 1) (mod-mod-pow (w / 2 ^ j) d 1)

bit_digit : (b : Bool) → eqb (bit b % 2) 1 ≡ b
bit_digit true = refl
bit_digit false = refl

bit_lt : (b : Bool) → bit b < 2
bit_lt true = omega arith
bit_lt false = omega arith

pub digit_high : (b : Bool) (n w : ℕ) → w < 2 ^ n → digit (w + bit b * 2 ^ n) n ≡ b
unfolding digit
digit_high b n w h =
    ap (λ (x : ℕ). eqb (x / 2 ^ n % 2) 1) (add_comm w (bit b * 2 ^ n)) ∙ ap (λ (x : ℕ). eqb (x % 2) 1) (high (bit b) n h) ∙ bit_digit b

-- a digit past the number is not set
pub digit_past : (w j : ℕ) → w < 2 ^ j → digit w j ≡ false
unfolding digit
digit_past w j h = ap (λ (x : ℕ). eqb (x % 2) 1) (div-eq_of_lt h)

pub digit_zero : (j : ℕ) → digit 0 j ≡ false
digit_zero j = digit_past 0 j (pow_pos j)

-- ---- words

pub word_lt : (S : Set) (from n : ℕ) → word S from n < 2 ^ n
unfolding word
word_lt S from zero = omega arith
word_lt S from (suc n) = go (S (from + n)) (word_lt S from n)
  where
    go : (b : Bool) → word S from n < 2 ^ n → word S from n + bit b * 2 ^ n < 2 ^ suc n
    go true h = omega (arith, pow-suc 2 n)
    go false h = omega (arith, pow-suc 2 n)

-- the digits of a word tell the members
pub digit_word : (S : Set) (from n j : ℕ) → j < n → digit (word S from n) j ≡ S (from + j)
unfolding word
digit_word S from zero j h = absurd (omega arith)
digit_word S from (suc n) j h = go (λ l. digit_word S from n j l) (ℕ_discrete j n)
  where
    go : (j < n → digit (word S from n) j ≡ S (from + j)) → Dec (j ≡ n)
        → digit (word S from n + bit (S (from + n)) * 2 ^ n) j ≡ S (from + j)
    go ih (yes e) = rw e (digit_high (S (from + n)) n (word S from n) (word_lt S from n))
    go ih (no e) =
        let l : j < n = omega arith in
        sym (digit_low (word S from n + bit (S (from + n)) * 2 ^ n) n j l)
        ∙ ap (λ (x : ℕ). digit (x % 2 ^ n) j) (add_comm (word S from n) (bit (S (from + n)) * 2 ^ n))
        ∙ ap (λ (x : ℕ). digit x j) (low (bit (S (from + n))) n (word_lt S from n))
        ∙ ih l

-- two numbers of n digits with the same digits are equal
half_lt : {w : ℕ} (n : ℕ) → w < 2 ^ suc n → w / 2 < 2 ^ n
half_lt {w} n h = shr_lt n 1 (subst (λ (x : ℕ). w < 2 ^ x) (sym (add-one n)) h)

one_digit : (x y : ℕ) → x < 2 → y < 2 → eqb x 1 ≡ eqb y 1 → x ≡ y
one_digit zero zero hx hy h = refl
one_digit zero (suc zero) hx hy h = absurd (true≢false (sym h))
one_digit zero (suc (suc y)) hx hy h = absurd (omega arith)
one_digit (suc zero) zero hx hy h = absurd (true≢false h)
one_digit (suc zero) (suc zero) hx hy h = refl
one_digit (suc zero) (suc (suc y)) hx hy h = absurd (omega arith)
one_digit (suc (suc x)) y hx hy h = absurd (omega arith)

low_eq : (a b : ℕ) → digit a 0 ≡ digit b 0 → a % 2 ≡ b % 2
unfolding digit
low_eq a b h = omega (arith, one_digit (a / 1 % 2) (b / 1 % 2) (omega arith) (omega arith) h)

pub digits_same : (n a b : ℕ) → a < 2 ^ n → b < 2 ^ n → ((j : ℕ) → j < n → digit a j ≡ digit b j) → a ≡ b
digits_same zero a b ha hb h = omega arith
digits_same (suc n) a b ha hb h =
    let t : a / 2 ≡ b / 2 = digits_same n (a / 2) (b / 2) (half_lt n ha) (half_lt n hb)
    (λ j l. digit_shift a 1 j ∙ h (1 + j) (omega arith) ∙ sym (digit_shift b 1 j)) in
    omega (arith, low_eq a b (h 0 (omega arith)))

-- ---- exclusive or, and, or

differ_digit : (x y : ℕ) → x < 2 → y < 2 → eqb (lib.Bits.differ x y) 1 ≡ differ (eqb x 1) (eqb y 1)
differ_digit zero zero hx hy = refl
differ_digit zero (suc zero) hx hy = refl
differ_digit zero (suc (suc y)) hx hy = absurd (omega arith)
differ_digit (suc zero) zero hx hy = refl
differ_digit (suc zero) (suc zero) hx hy = refl
differ_digit (suc zero) (suc (suc y)) hx hy = absurd (omega arith)
differ_digit (suc (suc x)) y hx hy = absurd (omega arith)

differ_lt : (x y : ℕ) → x < 2 → y < 2 → lib.Bits.differ x y < 2
differ_lt zero y hx hy = hy
differ_lt (suc zero) zero hx hy = hx
differ_lt (suc zero) (suc y) hx hy = omega arith
differ_lt (suc (suc x)) y hx hy = absurd (omega arith)

xor_low : (a b : ℕ) → bit_xor a b % 2 ≡ lib.Bits.differ (a % 2) (b % 2)
xor_low a b =
    ap (λ (x : ℕ). x % 2) (xor_step a b)
    ∙ mul-add-mod_self_right (bit_xor (a / 2) (b / 2)) 2 (lib.Bits.differ (a % 2) (b % 2))
    ∙ mod-eq_of_lt (differ_lt (a % 2) (b % 2) (omega arith) (omega arith))

pub digit_xor : (a b j : ℕ) → digit (bit_xor a b) j ≡ differ (digit a j) (digit b j)
unfolding digit
digit_xor a b j =
    ap (λ (x : ℕ). eqb (x % 2) 1) (xor_shr a b j)
    ∙ ap (λ (x : ℕ). eqb x 1) (xor_low (a / 2 ^ j) (b / 2 ^ j))
    ∙ differ_digit (a / 2 ^ j % 2) (b / 2 ^ j % 2) (omega arith) (omega arith)

min_digit : (x y : ℕ) → x < 2 → y < 2 → eqb (min x y) 1 ≡ (eqb x 1 && eqb y 1)
min_digit zero zero hx hy = refl
min_digit zero (suc zero) hx hy = refl
min_digit zero (suc (suc y)) hx hy = absurd (omega arith)
min_digit (suc zero) zero hx hy = refl
min_digit (suc zero) (suc zero) hx hy = refl
min_digit (suc zero) (suc (suc y)) hx hy = absurd (omega arith)
min_digit (suc (suc x)) y hx hy = absurd (omega arith)

and_low : (a b : ℕ) → bit_and a b % 2 ≡ min (a % 2) (b % 2)
and_low a b =
    ap (λ (x : ℕ). x % 2) (and_step a b)
    ∙ mul-add-mod_self_right (bit_and (a / 2) (b / 2)) 2 (min (a % 2) (b % 2))
    ∙ mod-eq_of_lt (omega arith)

pub digit_and : (a b j : ℕ) → digit (bit_and a b) j ≡ (digit a j && digit b j)
unfolding digit
digit_and a b j =
    ap (λ (x : ℕ). eqb (x % 2) 1) (and_shr a b j)
    ∙ ap (λ (x : ℕ). eqb x 1) (and_low (a / 2 ^ j) (b / 2 ^ j))
    ∙ min_digit (a / 2 ^ j % 2) (b / 2 ^ j % 2) (omega arith) (omega arith)

max_digit : (x y : ℕ) → x < 2 → y < 2 → eqb (max x y) 1 ≡ (eqb x 1 || eqb y 1)
max_digit zero zero hx hy = refl
max_digit zero (suc zero) hx hy = refl
max_digit zero (suc (suc y)) hx hy = absurd (omega arith)
max_digit (suc zero) zero hx hy = refl
max_digit (suc zero) (suc zero) hx hy = refl
max_digit (suc zero) (suc (suc y)) hx hy = absurd (omega arith)
max_digit (suc (suc x)) y hx hy = absurd (omega arith)

or_low : (a b : ℕ) → bit_or a b % 2 ≡ max (a % 2) (b % 2)
or_low a b =
    ap (λ (x : ℕ). x % 2) (or_step a b)
    ∙ mul-add-mod_self_right (bit_or (a / 2) (b / 2)) 2 (max (a % 2) (b % 2))
    ∙ mod-eq_of_lt (omega arith)

pub digit_or : (a b j : ℕ) → digit (bit_or a b) j ≡ (digit a j || digit b j)
unfolding digit
digit_or a b j =
    ap (λ (x : ℕ). eqb (x % 2) 1) (or_shr a b j)
    ∙ ap (λ (x : ℕ). eqb x 1) (or_low (a / 2 ^ j) (b / 2 ^ j))
    ∙ max_digit (a / 2 ^ j % 2) (b / 2 ^ j % 2) (omega arith) (omega arith)

-- the one digit of a power of two
pub digit_pow : (i j : ℕ) → digit (2 ^ i) j ≡ eqb j i
digit_pow i j = go (ℕ_discrete j i) (dec_lt j i)
  where
    go : Dec (j ≡ i) → Dec (j < i) → digit (2 ^ i) j ≡ eqb j i
    go (yes e) d =
        let w : 2 ^ i ≡ 0 + bit true * 2 ^ i = omega arith in
        ap (digit (2 ^ i)) e ∙ ap (λ (x : ℕ). digit x i) w ∙ digit_high true i 0 (pow_pos i) ∙ sym (eq-eqb j i e)
    go (no e) (yes l) =
        sym (digit_low (2 ^ i) i j l) ∙ ap (λ (x : ℕ). digit x j) (mod_self (2 ^ i)) ∙ digit_zero j ∙ sym (ne_eqb j i e)
    go (no e) (no l) = digit_past (2 ^ i) j (pow-lt (omega arith)) ∙ sym (ne_eqb j i e)

pub word_apart : (S R : Set) (from n : ℕ) → word (apart S R) from n ≡ bit_xor (word S from n) (word R from n)
word_apart S R from n =
    digits_same n (word (apart S R) from n) (bit_xor (word S from n) (word R from n)) (word_lt (apart S R) from n)
    (xor_lt n (word S from n) (word R from n) (word_lt S from n) (word_lt R from n))
    (λ j l. digit_word (apart S R) from n j l
    ∙ sym (digit_xor (word S from n) (word R from n) j ∙ ap₂ differ (digit_word S from n j l) (digit_word R from n j l)))

pub word_both : (S R : Set) (from n : ℕ) → word (λ p. S p && R p) from n ≡ bit_and (word S from n) (word R from n)
word_both S R from n =
    let both : Set = λ p. S p && R p in
    let v : ℕ = word S from n in
    let w : ℕ = word R from n in
    digits_same n (word both from n) (bit_and v w) (word_lt both from n) (and_lt n v w (word_lt S from n) (word_lt R from n))
    (λ j l. digit_word both from n j l ∙ sym (digit_and v w j ∙ ap₂ ◌&&◌ (digit_word S from n j l) (digit_word R from n j l)))

-- ---- a bitmap

same_place : (q p : ℕ) → q / 64 ≡ p / 64 → eqb (q % 64) (p % 64) ≡ eqb q p
same_place q p e = go (ℕ_discrete q p)
  where
    go : Dec (q ≡ p) → eqb (q % 64) (p % 64) ≡ eqb q p
    go (yes k) = eq-eqb (q % 64) (p % 64) (omega arith) ∙ sym (eq-eqb q p k)
    go (no k) = ne_eqb (q % 64) (p % 64) (omega arith) ∙ sym (ne_eqb q p k)

-- to change the digit of p is to flip p
pub held_flip : (l : List ℕ) (p : ℕ) → p / 64 < length l → held (flip_bit l p) ≡ flip p (held l)
unfolding held flip_bit
held_flip l p h = fun_ext (λ q. go q (ℕ_discrete (q / 64) (p / 64)))
  where
    v : ℕ
    v = bit_xor (get_or l (p / 64) 0) (2 ^ (p % 64))

    go : (q : ℕ) → Dec (q / 64 ≡ p / 64)
        → digit (get_or (set l (p / 64) v) (q / 64) 0) (q % 64) ≡ differ (eqb q p) (digit (get_or l (q / 64) 0) (q % 64))
    go q (yes e) =
        ap (λ (i : ℕ). digit (get_or (set l (p / 64) v) i 0) (q % 64)) e
        ∙ ap (λ (x : ℕ). digit x (q % 64)) (get_or-set_same l (p / 64) v 0 h)
        ∙ digit_xor (get_or l (p / 64) 0) (2 ^ (p % 64)) (q % 64)
        ∙ ap₂ differ (ap (λ (i : ℕ). digit (get_or l i 0) (q % 64)) (sym e)) (digit_pow (p % 64) (q % 64) ∙ same_place q p e)
        ∙ differ_comm (digit (get_or l (q / 64) 0) (q % 64)) (eqb q p)
    go q (no e) =
        ap (λ (x : ℕ). digit x (q % 64)) (get_or-set_other l (p / 64) (q / 64) v 0 e)
        ∙ ap (λ (b : Bool). differ b (digit (get_or l (q / 64) 0) (q % 64))) (sym (ne_eqb q p (λ k. e (ap (λ (x : ℕ). x / 64) k))))

-- ---- many flips

pub length_flip_bit : (l : List ℕ) (p : ℕ) → length (flip_bit l p) ≡ length l
unfolding flip_bit
length_flip_bit l p = length-set l (p / 64) _

pub drop_flip_bit : (k : ℕ) (l : List ℕ) (p : ℕ) → p / 64 < k → drop k (flip_bit l p) ≡ drop k l
unfolding flip_bit
drop_flip_bit k l p h = drop-set-lt k l (p / 64) _ h

pub length_flip_bits : (l bs : List ℕ) → length (flip_bits l bs) ≡ length l
length_flip_bits l [] = refl
length_flip_bits l (b ∷ bs) = length_flip_bits (flip_bit l b) bs ∙ length_flip_bit l b

pub flip_bits_append : (l bs cs : List ℕ) → flip_bits l (bs ++ cs) ≡ flip_bits (flip_bits l bs) cs
flip_bits_append l [] cs = refl
flip_bits_append l (b ∷ bs) cs = flip_bits_append (flip_bit l b) bs cs

module _ (k : ℕ) where
  pub drop_flip_bits : (l bs : List ℕ) → Below (64 * k) bs → drop k (flip_bits l bs) ≡ drop k l
  drop_flip_bits l [] h = refl
  drop_flip_bits l (b ∷ bs) h =
      drop_flip_bits (flip_bit l b) bs (λ i a. h (suc i) (omega arith)) ∙ drop_flip_bit k l b (omega (arith, h 0 (omega arith)))

  pub held_flips : (l bs : List ℕ) → k ≤ length l → Below (64 * k) bs → held (flip_bits l bs) ≡ flips bs (held l)
  held_flips l [] n h = refl
  held_flips l (b ∷ bs) n h =
      held_flips (flip_bit l b) bs (omega (arith, length_flip_bit l b)) (λ i a. h (suc i) (omega arith))
      ∙ ap (flips bs) (held_flip l b (omega (arith, h 0 (omega arith))))

-- 1 << j
pub shl_one : (j : ℕ) → j < 64 → 1 * 2 ^ j % 2 ^ 64 ≡ 2 ^ j
shl_one j h =
    let e : 1 * 2 ^ j ≡ 2 ^ j = omega arith in
    ap (λ (x : ℕ). x % 2 ^ 64) e ∙ mod-eq_of_lt (pow-lt {i = j} {j = 64} h)

-- a shift left, cut at 64 digits
pub digit_shl : (a k j : ℕ) → k ≤ j → j < 64 → digit (a * 2 ^ k % 2 ^ 64) j ≡ digit a (j - k)
digit_shl a k j l h =
    let e : j ≡ k + (j - k) = omega arith in
    digit_low (a * 2 ^ k) 64 j h
    ∙ ap (digit (a * 2 ^ k)) e
    ∙ sym (digit_shift (a * 2 ^ k) k (j - k))
    ∙ ap (λ (x : ℕ). digit x (j - k)) (shl-shr a k)

pub digit_shl_clear : (a k j : ℕ) → j < k → j < 64 → digit (a * 2 ^ k % 2 ^ 64) j ≡ false
digit_shl_clear a k j l h =
    digit_low (a * 2 ^ k) 64 j h
    ∙ sym (digit_low (a * 2 ^ k) k j l)
    ∙ ap (λ (x : ℕ). digit x j) (mul-mod_left a (2 ^ k))
    ∙ digit_zero j

-- a block of 0 holds nothing
pub held_zero : (l : List ℕ) (i q : ℕ) → get_or l i 0 ≡ 0 → q / 64 ≡ i → held l q ≡ false
unfolding held
held_zero l i q h e =
    ap (λ (x : ℕ). digit (get_or l x 0) (q % 64)) e ∙ ap (λ (x : ℕ). digit x (q % 64)) h ∙ digit_zero (q % 64)

-- a block tells its part of the set
pub held_block : (l : List ℕ) (i j : ℕ) → j < 64 → held l (64 * i + j) ≡ digit (get_or l i 0) j
unfolding held
held_block l i j h =
    let a : (64 * i + j) / 64 ≡ i = omega arith in
    let b : (64 * i + j) % 64 ≡ j = omega arith in
    ap₂ (λ (x y : ℕ). digit (get_or l x 0) y) a b

-- a block of 64 digits is the word of what it holds
pub held_word : (l : List ℕ) (i : ℕ) → get_or l i 0 < 2 ^ 64 → word (held l) (64 * i) 64 ≡ get_or l i 0
held_word l i h =
    digits_same 64 (word (held l) (64 * i) 64) (get_or l i 0) (word_lt (held l) (64 * i) 64) h
    (λ j k. digit_word (held l) (64 * i) 64 j k ∙ held_block l i j k)

-- the words of two sets that agree in the block are equal
pub word_same : (S R : Set) (from n : ℕ) → ((j : ℕ) → j < n → S (from + j) ≡ R (from + j)) → word S from n ≡ word R from n
word_same S R from n h =
    digits_same n (word S from n) (word R from n) (word_lt S from n) (word_lt R from n)
    (λ j k. digit_word S from n j k ∙ h j k ∙ sym (digit_word R from n j k))

pub word_none : (S : Set) (from n : ℕ) → ((j : ℕ) → j < n → S (from + j) ≡ false) → word S from n ≡ 0
word_none S from n h =
    digits_same n (word S from n) 0 (word_lt S from n) (pow_pos n) (λ j k. digit_word S from n j k ∙ h j k ∙ sym (digit_zero j))

pub word_none_back : (S : Set) (from n : ℕ) → word S from n ≡ 0 → (j : ℕ) → j < n → S (from + j) ≡ false
word_none_back S from n e j k = sym (digit_word S from n j k) ∙ ap (λ (x : ℕ). digit x j) e ∙ digit_zero j

-- one bucket flipped: its block has one digit changed, and any other block is as it was
pub word_flip : (b : ℕ) (S : Set) → word (flip b S) (64 * (b / 64)) 64 ≡ bit_xor (word S (64 * (b / 64)) 64) (2 ^ (b % 64))
word_flip b S =
    let w : ℕ = word S (64 * (b / 64)) 64 in
    digits_same 64 (word (flip b S) (64 * (b / 64)) 64) (bit_xor w (2 ^ (b % 64))) (word_lt (flip b S) (64 * (b / 64)) 64)
    (xor_lt 64 w (2 ^ (b % 64)) (word_lt S (64 * (b / 64)) 64) (pow-lt {i = b % 64} {j = 64} (omega arith)))
    (λ j k.
    let q : ℕ = 64 * (b / 64) + j in
    let e : q / 64 ≡ b / 64 = omega arith in
    let m : q % 64 ≡ j = omega arith in
    digit_word (flip b S) (64 * (b / 64)) 64 j k
    ∙ differ_comm (eqb q b) (S q)
    ∙ sym (digit_xor w (2 ^ (b % 64)) j
    ∙ ap₂ differ (digit_word S (64 * (b / 64)) 64 j k) (digit_pow (b % 64) j ∙ ap (λ (x : ℕ). eqb x (b % 64)) (sym m) ∙ same_place q b e)))

pub word_flip_other : (b : ℕ) (S : Set) (i : ℕ) → (i ≡ b / 64 → ⊥) → word (flip b S) (64 * i) 64 ≡ word S (64 * i) 64
word_flip_other b S i h =
    word_same (flip b S) S (64 * i) 64 (λ j k. flip_other b S (64 * i + j) (omega arith))

-- ---- the highest digit, and the number of digits

-- the place of the highest set digit
pub highest_digit : (w j : ℕ) → j < 64 → 2 ^ j ≤ w → w < 2 * 2 ^ j → TopDigit w j
unfolding digit
highest_digit w j s a b =
    record {
      small = s;
      is_set = ap (λ (x : ℕ). eqb (x % 2) 1) (div-eq_of_lt-le {k = 1} (2 ^ j) (omega (arith, a)) (omega (arith, b)));
      above = λ q l. digit_past w q (lt_of_lt_of_le (omega (arith, b, pow-suc 2 j)) (pow_mono l));
    }

-- it is told by the zeros above it
pub top_digit : (w : ℕ) → 0 < w → w < 2 ^ 64 → TopDigit w (63 - count_leading_zeros 64 w)
top_digit w p h =
    let t = leading_top 64 w p h in
    let e : 63 - count_leading_zeros 64 w ≡ t.0 = omega (arith, t.1) in
    subst (TopDigit w) (sym e) (highest_digit w t.0 (omega (arith, t.1)) (omega (arith, t.2)) (omega (arith, t.3, pow-suc 2 t.0)))

-- in a block of a set it is the largest member
pub top_member : (S : Set) (i j : ℕ) → TopDigit (block_at S i) j
    → (S (64 * i + j) ≡ true) × ((q : ℕ) → j < q → q < 64 → S (64 * i + q) ≡ false)
top_member S i j t =
    (sym (digit_word S (64 * i) 64 j t.small) ∙ t.is_set, λ q l h. sym (digit_word S (64 * i) 64 q h) ∙ t.above q l)

-- of two words the one that has the highest place in which either has one is greater
pub word_less : (A B : Set) (from n j : ℕ) → j < n → A (from + j) ≡ true → B (from + j) ≡ false
    → ((q : ℕ) → j < q → q < n → A (from + q) ≡ false) → ((q : ℕ) → j < q → q < n → B (from + q) ≡ false) → word B from n < word A from n
unfolding word
word_less A B from zero j l a b f g = absurd (omega arith)
word_less A B from (suc n) j l a b f g = go (ℕ_discrete j n) (word_less A B from n j)
  where
    go : Dec (j ≡ n)
        → (j < n → A (from + j) ≡ true → B (from + j)
        ≡ false → ((q : ℕ) → j < q → q < n → A (from + q) ≡ false) → ((q : ℕ) → j < q → q < n → B (from + q) ≡ false)
        → word B from n < word A from n)
        → word B from (suc n) < word A from (suc n)
    go (yes e) h =
        let x : A (from + n) ≡ true = ap (λ (q : ℕ). A (from + q)) (sym e) ∙ a in
        let y : B (from + n) ≡ false = ap (λ (q : ℕ). B (from + q)) (sym e) ∙ b in
        rw (x, y) (omega (arith, word_lt B from n))
    go (no e) h =
        let t : word B from n < word A from n = h (omega (arith, e)) a b (λ q u v. f q u (omega arith)) (λ q u v. g q u (omega arith)) in
        rw (f n (omega (arith, e)) (omega arith), g n (omega (arith, e)) (omega arith)) (omega (arith, t))

-- the set seen from a bucket on
abbrev pub seen : ℕ → Set → Set
seen from S j = S (from + j)

-- as many digits are set as there are members in the block
pub ones_word : (S : Set) (from n : ℕ) → ones (word S from n) ≡ length (members (seen from S) n)
unfolding word members ones ones_in
ones_word S from zero = refl
ones_word S from (suc n) = go (S (from + n)) (ones_word S from n)
  where
    go : (b : Bool) → ones (word S from n) ≡ length (members (seen from S) n)
        → ones (word S from n + bit b * 2 ^ n) ≡ length (cond b (n ∷ members (seen from S) n) (members (seen from S) n))
    go true ih =
        ap ones (add_comm (word S from n) (1 * 2 ^ n)) ∙ ones_cat n 1 (word S from n) (word_lt S from n) ∙ omega (arith, ih)
    go false ih =
        ap ones (add_comm (word S from n) (0 * 2 ^ n)) ∙ ones_cat n 0 (word S from n) (word_lt S from n) ∙ omega (arith, ih)
