-- Sets of buckets, told by membership, and their members from the largest down. The words in which every other file speaks.
use Rattle.std.specs.Prelude.{◌≡◌, Bool, true, false, cond, ◌&&◌, ◌||◌, List, [], ◌∷◌, ℕ, zero, suc, ◌+◌, ◌≤◌, ◌<◌, ltb, leb, eqb, length, get_or}

-- 01: "A filter stands for a set S of buckets." The bucket p is in S exactly when `S p` is true.
abbrev pub Set : Type 0
Set = ℕ → Bool

abbrev pub none : Set
none p = false

-- in exactly one of two (the library's `xor` does not compute where one side is known)
abbrev pub differ : Bool → Bool → Bool
differ true true = false
differ true false = true
differ false b = b

-- 01: "Toggle a list of buckets: membership flips once for each."
abbrev pub flip : ℕ → Set → Set
flip b S p = differ (eqb p b) (S p)

abbrev pub flips : List ℕ → Set → Set
flips [] S = S
flips (b ∷ bs) S = flips bs (flip b S)

-- 01: "Symmetric difference: in exactly one of the two".
abbrev pub apart : Set → Set → Set
apart S T p = differ (S p) (T p)

-- the members below b, and those at or above it
abbrev pub below : ℕ → Set → Set
below b S p = ltb p b && S p

abbrev pub onward : ℕ → Set → Set
onward b S p = leb b p && S p

-- the same set of the buckets below n
abbrev pub Agree : ℕ → Set → Set → Type 0
Agree n S T = (p : ℕ) → p < n → S p ≡ T p

-- no member from a up to b
abbrev pub Empty : Set → ℕ → ℕ → Type 0
Empty S a b = (p : ℕ) → a ≤ p → p < b → S p ≡ false

-- the members of S below n, from the largest down
unfoldable pub members : Set → ℕ → List ℕ
members S zero = []
members S (suc n) = cond (S n) (n ∷ members S n) (members S n)

-- ---- lists of buckets

-- whether p stands in the list
abbrev pub among : List ℕ → Set
among [] p = false
among (x ∷ xs) p = eqb p x || among xs p

-- how often p stands in the list
abbrev pub times : List ℕ → ℕ → ℕ
times [] p = 0
times (b ∷ bs) p = cond (eqb p b) 1 0 + times bs p

-- whether p stands in the list an odd number of times
abbrev pub odd : List ℕ → Set
odd [] p = false
odd (b ∷ bs) p = differ (eqb p b) (odd bs p)

-- the list falls, from below n
abbrev pub Falls : ℕ → List ℕ → Type 0
Falls n [] = Unit {0}
Falls n (x ∷ xs) = (x < n) × Falls x xs

-- every bucket listed is below n: as a fact, and as a test
abbrev pub Below : ℕ → List ℕ → Type 0
Below n l = (i : ℕ) → i < length l → get_or l i 0 < n

abbrev pub all_below : ℕ → List ℕ → Bool
all_below n [] = true
all_below n (x ∷ xs) = ltb x n && all_below n xs

-- whether two lists are equal
abbrev pub same : List ℕ → List ℕ → Bool
same [] [] = true
same [] (y ∷ ys) = false
same (x ∷ xs) [] = false
same (x ∷ xs) (y ∷ ys) = eqb x y && same xs ys

-- f i, f (i + 1), .. : n of them
unfoldable pub from : {A : Type 0} → ℕ → ℕ → (ℕ → A) → List A
from i zero f = []
from i (suc n) f = f i ∷ from (suc i) n f

-- f 0, f 1, .. : n of them
abbrev pub tabulate : {A : Type 0} → ℕ → (ℕ → A) → List A
tabulate n f = from 0 n f
