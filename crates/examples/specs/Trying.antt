-- A filter to try the calls on: the empty one of configuration 7, and then a list toggled in it.
use Rattle.std.specs.Prelude.{List, ℕ, ◌≡◌, Result, Ok, Err}
use Rattle.diff_count.specs.Calls.{Empties, Toggles}
use Rattle.sizes.specs.declared.Refusal.{Refusal}
use Rattle.diff_count.specs.declared.Filter.{Filter}

-- the list toggled in a filter that was made; a refusal stays, and so does what was lent
abbrev pub Toggled : Result Filter Refusal → List ℕ → List ℕ → List ℕ → Result Filter Refusal → List ℕ → List ℕ → Type 0
Toggled (Ok f) top bits list made top' bits' = Toggles f top bits list made top' bits'
Toggled (Err r) top bits list made top' bits' = (made ≡ Err r) × ((top' ≡ top) × (bits' ≡ bits))

-- each step is an equation for the answer and both slices, so the two are
pub record Tried (top bits list : List ℕ) (made : Result Filter Refusal) (top' bits' : List ℕ) : Type 0 where
  pub first : Result Filter Refusal
  pub top_between : List ℕ
  pub bits_between : List ℕ
  pub empties : Empties 7 top bits first top_between bits_between
  pub toggled : Toggled first top_between bits_between list made top' bits'
