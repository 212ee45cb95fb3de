-- What the loops over cells leave.
use Rattle.std.specs.Prelude.{◌≡◌, ◌↔◌, List, ◌++◌, ℕ, ◌-◌, ◌≤◌, ◌<◌, get_or, take, replicate}
use Rattle.std.specs.Int.Bits.{bit_xor}
use Rattle.sets.specs.Sets.{tabulate}
use Rattle.sets.specs.Filter.{filled}

-- zeros from the cell a up to the cell b
unfoldable pub zeroed : ℕ → ℕ → List ℕ → List ℕ
zeroed a b l = take a l ++ filled (replicate (b - a) 0) b l

-- the first k blocks of two, block by block
unfoldable pub xored : ℕ → List ℕ → List ℕ → List ℕ
xored k xs ys = tabulate k (λ i. bit_xor (get_or xs i 0) (get_or ys i 0))

-- the cells from a up to b are 0
abbrev pub Zeros : ℕ → ℕ → List ℕ → Type 0
Zeros a b l = (i : ℕ) → a ≤ i → i < b → get_or l i 0 ≡ 0

-- r is 0 exactly where the cells from a up to b are
abbrev pub Gathered : ℕ → ℕ → List ℕ → ℕ → Type 0
Gathered a b l r = (r ≡ 0) ↔ Zeros a b l
