-- 01, "Three configurations".
use Rattle.std.specs.Prelude.{Bool, false, cond, ◌||◌, List, [], ◌∷◌, ℕ, ◌+◌, ◌-◌, ◌*◌, ◌/◌, ◌%◌, ◌^◌, ◌≤◌, eqb}

-- a line of 01's table: the columns from which the others follow
pub record Config : Type 0 where
  pub number : ℕ
  pub B : ℕ
  pub M : ℕ
  pub entry : ℕ
  pub budget : ℕ

abbrev pub config : ℕ → ℕ → ℕ → ℕ → ℕ → Config
config number B M entry budget = record { number = number; B = B; M = M; entry = entry; budget = budget }

-- 01's table: number, B, M, bytes per top entry, byte budget
abbrev pub seven : Config
seven = config 7 7 12 2 112

abbrev pub ten : Config
ten = config 10 10 64 4 896

abbrev pub thirteen : Config
thirteen = config 13 13 384 4 7138

abbrev pub configurations : List Config
configurations = seven ∷ ten ∷ thirteen ∷ []

-- 01: "The configuration number is 7, 10 or 13 and nothing else."
abbrev pub listed : ℕ → List Config → Bool
listed n [] = false
listed n (c ∷ cs) = eqb n c.number || listed n cs

unfoldable pub known : ℕ → Bool
known n = listed n configurations

-- the line of a known number; for any other the first line stands in, and nothing asks for it
abbrev pub line_of : ℕ → List Config → Config
line_of n [] = seven
line_of n (c ∷ cs) = cond (eqb n c.number) c (line_of n cs)

unfoldable pub config_at : ℕ → Config
config_at n = line_of n configurations

-- 01: "B gives 2^B buckets per level and W = 65·2^B buckets in all, numbered 0 to W-1."
abbrev pub W : Config → ℕ
W c = 65 * 2 ^ c.B

-- blocks for W
abbrev pub blocks : Config → ℕ
blocks c = W c / 64

-- 01: "Position bits are B+7."
abbrev pub position_bits : Config → ℕ
position_bits c = c.B + 7

-- 01: "Window blocks are (byte budget - M·entry bytes) / 8, rounded down."
abbrev pub window_blocks : Config → ℕ
window_blocks c = (c.budget - c.M * c.entry) / 8

-- "boundary/64 rounded up": how many blocks hold the buckets below a boundary
abbrev pub blocks_for : ℕ → ℕ
blocks_for boundary = (boundary + 63) / 64

-- the longest row: no boundary is above that of the M largest buckets, W - M
abbrev pub longest_row : Config → ℕ
longest_row c = c.M * c.entry + 1 + 8 * blocks_for (W c - c.M)

-- 01, "Key": "64/position bits whole slots; the leftover low bits"
abbrev pub whole_slots : Config → ℕ
whole_slots c = 64 / position_bits c

abbrev pub leftover_bits : Config → ℕ
leftover_bits c = 64 % position_bits c

-- 01: "M (at least 1), B (at least 6, so that 64 divides W) and an entry width of at least B+7 bits"
pub record Sound (c : Config) : Type 0 where
  pub some : 1 ≤ c.M
  pub wide : 6 ≤ c.B
  pub fits : c.B + 7 ≤ 8 * c.entry
