-- What the tests tell, and what is answered of the first that fails.
use Rattle.std.specs.Prelude.{Bool, true, false, ◌&&◌, List, ◌++◌, ℕ, ◌≤◌, leb, take, ⊤, Result, Ok, Err}
use Rattle.sets.specs.Sets.{Falls}
use Rattle.sets.specs.Configurations.{config_at}
use Rattle.sets.specs.Filter.{FilterRecord}
use Rattle.sets.specs.Refusals.{Verdict, verdict, answer, areas_lent, filter_lent, filters_lent, hold_areas, is_mask}
use Rattle.sizes.specs.Sizes.{sizes_at, refusal}
use Rattle.sizes.specs.declared.Sizes.{Sizes}
use Rattle.bitvec.specs.Cells.{Zeros}
use Rattle.bitvec.specs.declared.Tally.{Tally}
use Rattle.sizes.specs.declared.Refusal.{Refusal}

-- the flag tells whether P holds
abbrev pub Tells : Bool → Type 0 → Type 0
Tells true P = P
Tells false P = P → ⊥

-- the first cells, no more than m, fall from below the limit, and the others are 0
pub record TopFits (m limit : ℕ) (top : List ℕ) (count : ℕ) : Type 0 where
  pub few : count ≤ m
  pub falling : Falls limit (take count top)
  pub unused : Zeros count m top

-- slices of these lengths have room for the areas
abbrev pub roomy : Sizes → ℕ → ℕ → Bool
roomy s top bits = leb s.top top && leb s.blocks bits

-- ---- what is judged before a call goes on with the sizes of a configuration

-- the sizes, or the number of the first test that fails
abbrev pub judged : ℕ → Verdict → Result Sizes Refusal
judged n v = answer v (λ r. Err (refusal r)) (Ok (sizes_at n))

abbrev pub record_at : ℕ → Tally → FilterRecord
record_at n t = record { config = n; count = t.count; boundary = t.boundary }

-- 1, 3
unfoldable pub areas_of : ℕ → ℕ → ℕ → Result Sizes Refusal
areas_of n top bits = judged n (verdict (areas_lent n top bits))

-- 1, 3, 8
unfoldable pub filter_of : ℕ → Tally → List ℕ → List ℕ → Result Sizes Refusal
filter_of n t top bits = judged n (verdict (filter_lent (record_at n t) top bits))

-- 1, 3, 8, 9, with room for a third filter
unfoldable pub two_of : ℕ → Tally → List ℕ → List ℕ → ℕ → Tally → List ℕ → List ℕ → ℕ → ℕ → Result Sizes Refusal
two_of n t top bits o u top2 bits2 x y =
    judged n (verdict (filters_lent (record_at n t) top bits (record_at o u) top2 bits2 ++ hold_areas (config_at n) x y))

-- a mask that passes
abbrev pub passing : Result ⊤ Refusal
passing = Ok tt

-- 6, 7
unfoldable pub mask_of : ℕ → ℕ → Result ⊤ Refusal
mask_of mask size = answer (verdict (is_mask mask size)) (λ r. Err (refusal r)) passing
