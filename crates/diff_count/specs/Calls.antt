-- The calls that make a filter: what each judges, and the set that it makes.
use Rattle.std.specs.Prelude.{List, [], ◌∷◌, ◌++◌, ℕ, length, Result}
use Rattle.sets.specs.Sets.{Set, none, apart, flips}
use Rattle.sets.specs.Configurations.{config_at}
use Rattle.sets.specs.Filter.{shown}
use Rattle.sets.specs.Refusals.{Verdict, verdict, areas_lent, filter_lent, filters_lent, hold_areas, are_buckets}
use Rattle.diff_count.specs.Making.{Makes, record_in}
use Rattle.diff_count.specs.declared.Filter.{Filter}
use Rattle.sizes.specs.declared.Refusal.{Refusal}

-- the set that a filter shows
abbrev pub shown_by : Filter → List ℕ → List ℕ → Set
shown_by f top bits = shown top bits f.count f.boundary

-- 01: "Making the empty filter, or a builder, zeroes its areas."
unfoldable pub empty_verdict : ℕ → List ℕ → List ℕ → Verdict
empty_verdict n top bits = verdict (areas_lent n (length top) (length bits))

abbrev pub Empties : ℕ → List ℕ → List ℕ → Result Filter Refusal → List ℕ → List ℕ → Type 0
Empties n top bits = Makes (empty_verdict n top bits) (config_at n) none top bits

-- 01: "Toggle a list of buckets: membership flips once for each."
unfoldable pub toggle_verdict : Filter → List ℕ → List ℕ → List ℕ → Verdict
toggle_verdict f top bits list = verdict (filter_lent (record_in f) top bits ++ (are_buckets (config_at f.config) list ∷ []))

abbrev pub Toggles : Filter → List ℕ → List ℕ → List ℕ → Result Filter Refusal → List ℕ → List ℕ → Type 0
Toggles f top bits list = Makes (toggle_verdict f top bits list) (config_at f.config) (flips list (shown_by f top bits)) top bits

-- 01: "Symmetric difference: in exactly one of the two; written to a third pair of areas." "A third pair of areas is sized by the
-- first filter."
unfoldable pub difference_verdict : Filter → List ℕ → List ℕ → Filter → List ℕ → List ℕ → List ℕ → List ℕ → Verdict
difference_verdict f top bits g top2 bits2 to to_bits =
    verdict (filters_lent (record_in f) top bits (record_in g) top2 bits2 ++ hold_areas (config_at f.config) (length to) (length to_bits))

abbrev pub Differs : Filter → List ℕ → List ℕ → Filter → List ℕ → List ℕ → List ℕ → List ℕ → Result Filter Refusal → List ℕ → List ℕ → Type 0
Differs f top bits g top2 bits2 to to_bits =
    Makes (difference_verdict f top bits g top2 bits2 to to_bits) (config_at f.config)
    (apart (shown_by f top bits) (shown_by g top2 bits2)) to to_bits
