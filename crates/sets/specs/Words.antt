-- Numbers as rows of binary digits, and blocks of 64 of these as sets. 01: "Bit p mod 64 of block p/64".
use Rattle.std.specs.Prelude.{◌≡◌, Bool, true, false, List, [], ◌∷◌, ℕ, zero, suc, ◌+◌, ◌*◌, ◌/◌, ◌%◌, ◌^◌, ◌<◌, eqb, get_or, set}
use Rattle.std.specs.Int.Bits.{bit_xor}
use Rattle.sets.specs.Sets.{Set}

-- whether the digit j of w, its 2 ^ j, is set
unfoldable pub digit : ℕ → ℕ → Bool
digit w j = eqb (w / 2 ^ j % 2) 1

-- 1 for a member, 0 for any other
abbrev pub bit : Bool → ℕ
bit true = 1
bit false = 0

-- the number whose digit j, of n digits, is set exactly when `start + j` is in S
unfoldable pub word : Set → ℕ → ℕ → ℕ
word S start zero = 0
word S start (suc n) = word S start n + bit (S (start + n)) * 2 ^ n

-- the i-th block of a set
abbrev pub block_at : Set → ℕ → ℕ
block_at S i = word S (64 * i) 64

-- the set that blocks hold: p is in it exactly when the digit p % 64 of the block p / 64 is set
unfoldable pub held : List ℕ → Set
held l p = digit (get_or l (p / 64) 0) (p % 64)

-- j is the place of the highest set digit of w, a number of 64 digits
pub record TopDigit (w j : ℕ) : Type 0 where
  pub small : j < 64
  pub is_set : digit w j ≡ true
  pub above : (q : ℕ) → j < q → digit w q ≡ false

-- the blocks with the digit of p changed
unfoldable pub flip_bit : List ℕ → ℕ → List ℕ
flip_bit l p = set l (p / 64) (bit_xor (get_or l (p / 64) 0) (2 ^ (p % 64)))

-- one after the other, the digits of the buckets listed
abbrev pub flip_bits : List ℕ → List ℕ → List ℕ
flip_bits l [] = l
flip_bits l (b ∷ bs) = flip_bits (flip_bit l b) bs
