-- What a call tells a program in C: a number, and values in lent cells, one cell or an array of them. For each case of each answer,
-- 01's number and values.
use Rattle.std.specs.Prelude.{◌≡◌, List, [], ◌∷◌, ◌++◌, ℕ, get_or, Option, Some, None, Result, Ok, Err}
use Rattle.std.specs.declared.cmp.Ordering.{Ordering}
use Rattle.std.specs.declared.cmp.Ordering.TheVariants.{Less, Equal, Greater}
use Rattle.sizes.specs.Sizes as sizes
use Rattle.sizes.specs.declared.Sizes.{Sizes}
use Rattle.sizes.specs.declared.Refusal.{Refusal}
use Rattle.diff_count.specs.declared.Filter.{Filter}
use Rattle.builder.specs.declared.Builder.{Builder}
use Rattle.bitchunks.specs.declared.Limited.{Limited}

pub data Told (C : Type 0) : Type 0 where
  gives : (values : C) → Told C
  refuses : (number : ℕ) → Told C

-- the number that a call returns: 0 where it was taken
abbrev pub number_of : {C : Type 0} → Told C → ℕ
number_of (gives values) = 0
number_of (refuses n) = n

-- the cells after it: a refusal leaves them as they came
abbrev pub cells_after : {C : Type 0} → Told C → C → C
cells_after (gives values) cells = values
cells_after (refuses n) cells = cells

-- the promise of a call: an equation for the number and for the cells
pub record Tells {C : Type 0} (t : Told C) (cells : C) (r : ℕ) (cells' : C) : Type 0 where
  pub number : r ≡ number_of t
  pub values : cells' ≡ cells_after t cells

-- what an answer tells, by the cells of its values
abbrev pub told : {A C : Type 0} → (A → C) → Result A Refusal → Told C
told cells (Ok a) = gives (cells a)
told cells (Err r) = refuses (sizes.number_of r)

-- ---- values in cells

abbrev pub filter_in : List ℕ → Filter
filter_in cells = record { config = get_or cells 0 0; count = get_or cells 1 0; boundary = get_or cells 2 0 }

abbrev pub filter_cells : Filter → List ℕ
filter_cells f = f.config ∷ f.count ∷ f.boundary ∷ []

abbrev pub builder_in : List ℕ → Builder
builder_in cells = record { config = get_or cells 0 0; split = get_or cells 1 0; count = get_or cells 2 0 }

abbrev pub builder_cells : Builder → List ℕ
builder_cells b = b.config ∷ b.split ∷ b.count ∷ []

abbrev pub sizes_cells : Sizes → List ℕ
sizes_cells s =
    s.level ∷ s.top ∷ s.entry ∷ s.budget ∷ s.buckets ∷ s.blocks ∷ s.bits ∷ s.window ∷ s.longest ∷ []

abbrev pub limited_cells : Limited → List ℕ
limited_cells l = l.count ∷ l.bound ∷ []

-- a count, a length or a key
abbrev pub number_cell : ℕ → ℕ
number_cell n = n

-- less is 0, equal 1, greater 2
abbrev pub order_cell : Ordering → ℕ
order_cell Less = 0
order_cell Equal = 1
order_cell Greater = 2

-- which row is the greater one: 0 the first, 1 the second. 01: "the first if equal"
abbrev pub greater_cell : Ordering → ℕ
greater_cell Less = 1
greater_cell Equal = 0
greater_cell Greater = 0

-- 1 and the bucket; at the end 0 and 0
abbrev pub step_cells : Option ℕ → List ℕ
step_cells (Some p) = 1 ∷ p ∷ []
step_cells None = 0 ∷ 0 ∷ []

-- the same, and the place after the step
abbrev pub stepped_cells : ℕ → Option ℕ → List ℕ
stepped_cells place given = step_cells given ++ place ∷ []
