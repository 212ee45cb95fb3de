-- The laws of little-endian bytes: of one number, and of several one after the other. Assumes nothing.
use mathlib.Core.Path.{◌≡◌, refl, sym, ap, ap₂, ◌∙◌}
use mathlib.Core.List.{List, [], ◌∷◌, ◌++◌, append_assoc}
use Prim.Native.Nat.{ℕ, zero, suc, ◌+◌, ◌*◌, ◌/◌, ◌%◌, ◌^◌, ◌≤◌, ◌<◌}
use native.Mathlib.Nat.{suc-mul, zero-mul, lt_of_lt_of_le}
use native.Mathlib.Omega.{arith}
use lib.ListN.{length, take, drop, length-append, length-take, length-drop}
use lib.Seq.{length-take-le, take-add, take-append-add, take_at, drop_at}
use lib.Pow.{pow-add, pow_mono}
use Rattle.sets.specs.Sets.{Below}
use Rattle.sets.specs.Row.{bytes, bytes_of, little, numbers}
use Rattle.sets.proofs.Lists.{below_append, below_take, below_drop}

abbrev pub Bytes : List ℕ → Type 0
Bytes bs = Below 256 bs

-- ---- one number

pub length_bytes : (w v : ℕ) → length (bytes w v) ≡ w
length_bytes zero v = refl
length_bytes (suc w) v = ap suc (length_bytes w (v / 256))

pub bytes_below : (w v : ℕ) → Bytes (bytes w v)
bytes_below zero v i h = absurd (omega arith)
bytes_below (suc w) v zero h = omega arith
bytes_below (suc w) v (suc i) h = bytes_below w (v / 256) i (omega arith)

-- one more byte is 8 more digits
pow_byte : (w : ℕ) → 2 ^ (8 * suc w) ≡ 2 ^ (8 * w) * 256
pow_byte w =
    let e : 8 * suc w ≡ 8 * w + 8 = omega arith in
    ap (λ (x : ℕ). 2 ^ x) e ∙ pow-add 2 (8 * w) 8

pub little_bytes : (w v : ℕ) → v < 2 ^ (8 * w) → little (bytes w v) ≡ v
little_bytes zero v h = omega arith
little_bytes (suc w) v h = omega (arith, little_bytes w (v / 256) (omega (arith, pow_byte w)))

pub bytes_little : (bs : List ℕ) → Bytes bs → bytes (length bs) (little bs) ≡ bs
bytes_little [] h = refl
bytes_little (b ∷ bs) h =
    let l : b < 256 = h 0 (omega arith) in
    let e : (b + 256 * little bs) % 256 ≡ b = omega arith in
    let f : (b + 256 * little bs) / 256 ≡ little bs = omega arith in
    ap₂ (λ (x y : ℕ). x ∷ bytes (length bs) y) e f ∙ ap (◌∷◌ b) (bytes_little bs (λ i a. h (suc i) (omega arith)))

pub little_lt : (bs : List ℕ) → Bytes bs → little bs < 2 ^ (8 * length bs)
little_lt [] h = omega arith
little_lt (b ∷ bs) h = omega (arith, h 0 (omega arith), pow_byte (length bs), little_lt bs (λ i a. h (suc i) (omega arith)))

-- ---- several

pub length_bytes_of : (w : ℕ) (vs : List ℕ) → length (bytes_of w vs) ≡ length vs * w
length_bytes_of w [] = omega arith
length_bytes_of w (v ∷ vs) =
    omega (arith, length-append (bytes w v) (bytes_of w vs), length_bytes w v, length_bytes_of w vs, suc-mul (length vs) w)

pub bytes_of_below : (w : ℕ) (vs : List ℕ) → Bytes (bytes_of w vs)
bytes_of_below w [] i h = absurd (omega arith)
bytes_of_below w (v ∷ vs) i h = below_append (bytes w v) (bytes_of w vs) 256 (bytes_below w v) (bytes_of_below w vs) i h

pub length_numbers : (w n : ℕ) (bs : List ℕ) → length (numbers w n bs) ≡ n
length_numbers w zero bs = refl
length_numbers w (suc n) bs = ap suc (length_numbers w n (drop w bs))

pub numbers_below : (w n : ℕ) (bs : List ℕ) → Bytes bs → Below (2 ^ (8 * w)) (numbers w n bs)
numbers_below w zero bs h i a = absurd (omega arith)
numbers_below w (suc n) bs h zero a =
    let l : 8 * length (take w bs) ≤ 8 * w = omega (arith, length-take w bs) in
    lt_of_lt_of_le (little_lt (take w bs) (below_take w bs 256 h)) (pow_mono l)
numbers_below w (suc n) bs h (suc i) a = numbers_below w n (drop w bs) (below_drop w bs 256 h) i (omega arith)

-- written and read again
pub numbers_bytes_of : (w : ℕ) (vs tail : List ℕ) → Below (2 ^ (8 * w)) vs → numbers w (length vs) (bytes_of w vs ++ tail) ≡ vs
numbers_bytes_of w [] tail h = refl
numbers_bytes_of w (v ∷ vs) tail h =
    let n : length (bytes w v) ≡ w = length_bytes w v in
    let rest : List ℕ = bytes_of w vs ++ tail in
    rw (append_assoc, take_at (bytes w v) rest w n, drop_at (bytes w v) rest w n, little_bytes w v (h 0 (omega arith)))
    (ap (◌∷◌ v) (numbers_bytes_of w vs tail (λ i a. h (suc i) (omega arith))))

-- read and written again
pub bytes_of_numbers : (w n : ℕ) (bs : List ℕ) → Bytes bs → n * w ≤ length bs → bytes_of w (numbers w n bs) ≡ take (n * w) bs
bytes_of_numbers w zero bs h l = rw (zero-mul w)
bytes_of_numbers w (suc n) bs h l =
    let e : suc n * w ≡ w + n * w = omega (arith, suc-mul n w) in
    let k : length (take w bs) ≡ w = length-take-le w bs (omega arith) in
    ap₂ ◌++◌
    (ap (λ (x : ℕ). bytes x (little (take w bs))) (sym k) ∙ bytes_little (take w bs) (below_take w bs 256 h))
    (bytes_of_numbers w n (drop w bs) (below_drop w bs 256 h) (omega (arith, length-drop w bs)))
    ∙ sym (take-add w (n * w) bs)
    ∙ ap (λ (x : ℕ). take x bs) (sym e)

-- the first ones
pub take_bytes_of : (w j : ℕ) (vs tail : List ℕ) → j ≤ length vs → take (j * w) (bytes_of w vs ++ tail) ≡ bytes_of w (take j vs)
take_bytes_of w zero vs tail h = rw (zero-mul w)
take_bytes_of w (suc j) [] tail h = absurd (omega arith)
take_bytes_of w (suc j) (v ∷ vs) tail h =
    let e : suc j * w ≡ length (bytes w v) + j * w = omega (arith, suc-mul j w, length_bytes w v) in
    ap₂ (λ (n : ℕ) (l : List ℕ). take n l) e (append_assoc (bytes w v) (bytes_of w vs) tail)
    ∙ take-append-add (bytes w v) (bytes_of w vs ++ tail) (j * w)
    ∙ ap (◌++◌ (bytes w v)) (take_bytes_of w j vs tail (omega arith))
