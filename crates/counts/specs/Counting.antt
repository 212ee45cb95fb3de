-- The calls that count: the count of the set shown, or the refusal.
use Rattle.std.specs.Prelude.{List, ℕ, Result, Ok, Err}
use Rattle.sets.specs.Sets.{Set, apart}
use Rattle.sets.specs.Configurations.{Config, config_at}
use Rattle.sets.specs.Filter.{exact_count_at, limited_count_at, limited_bound_at}
use Rattle.sets.specs.Refusals.{Verdict, verdict, answer, filter_lent, filters_lent}
use Rattle.sizes.specs.Sizes.{refusal}
use Rattle.bitchunks.specs.declared.Limited.{Limited}
use Rattle.diff_count.specs.Making.{record_in}
use Rattle.diff_count.specs.Calls.{shown_by}
use Rattle.diff_count.specs.declared.Filter.{Filter}
use Rattle.sizes.specs.declared.Refusal.{Refusal}

-- 01: "Exact count: the size of S."
abbrev pub exactly : Verdict → Config → Set → Result ℕ Refusal
exactly v c S = answer v (λ n. Err (refusal n)) (Ok (exact_count_at c S))

-- 01, "Limited count": the count and its bound
abbrev pub limited_to : Config → Set → Limited
limited_to c S = record { count = limited_count_at c S; bound = limited_bound_at c S }

abbrev pub limitedly : Verdict → Config → Set → Result Limited Refusal
limitedly v c S = answer v (λ n. Err (refusal n)) (Ok (limited_to c S))

-- ---- of a filter

unfoldable pub exact_of : Filter → List ℕ → List ℕ → Result ℕ Refusal
exact_of f top bits = exactly (verdict (filter_lent (record_in f) top bits)) (config_at f.config) (shown_by f top bits)

unfoldable pub limited_of : Filter → List ℕ → List ℕ → Result Limited Refusal
limited_of f top bits = limitedly (verdict (filter_lent (record_in f) top bits)) (config_at f.config) (shown_by f top bits)

-- ---- of two. 01: "For two filters it is that of their symmetric difference."

unfoldable pub exact_difference_of : Filter → List ℕ → List ℕ → Filter → List ℕ → List ℕ → Result ℕ Refusal
exact_difference_of f top bits g top2 bits2 =
    exactly (verdict (filters_lent (record_in f) top bits (record_in g) top2 bits2)) (config_at f.config)
    (apart (shown_by f top bits) (shown_by g top2 bits2))

unfoldable pub limited_difference_of : Filter → List ℕ → List ℕ → Filter → List ℕ → List ℕ → Result Limited Refusal
limited_difference_of f top bits g top2 bits2 =
    limitedly (verdict (filters_lent (record_in f) top bits (record_in g) top2 bits2)) (config_at f.config)
    (apart (shown_by f top bits) (shown_by g top2 bits2))
