-- The calls under a mask: order and key of the sets shown, or the refusal.
use Rattle.std.specs.Prelude.{List, [], ◌∷◌, ◌++◌, ℕ, Result, Ok, Err}
use Rattle.sets.specs.Configurations.{W, config_at}
use Rattle.sets.specs.Masks.{key_of, order_of}
use Rattle.sets.specs.Refusals.{Verdict, verdict, answer, filter_lent, filters_lent, fits_slots, is_mask}
use Rattle.sizes.specs.Sizes.{refusal}
use Rattle.diff_count.specs.Making.{record_in}
use Rattle.diff_count.specs.Calls.{shown_by}
use Rattle.diff_count.specs.declared.Filter.{Filter}
use Rattle.masked.specs.Inner.{order_answer}
use Rattle.sizes.specs.declared.Refusal.{Refusal}
use Rattle.std.specs.declared.cmp.Ordering.{Ordering}

unfoldable pub cmp_verdict : Filter → List ℕ → List ℕ → Filter → List ℕ → List ℕ → ℕ → ℕ → Verdict
cmp_verdict f top bits g top2 bits2 mask size = verdict (filters_lent (record_in f) top bits (record_in g) top2 bits2 ++ is_mask mask size)

-- 01, "Order": the largest kept bucket held by exactly one filter decides
unfoldable pub cmp_of : Filter → List ℕ → List ℕ → Filter → List ℕ → List ℕ → ℕ → ℕ → Result Ordering Refusal
cmp_of f top bits g top2 bits2 mask size =
    order_answer (cmp_verdict f top bits g top2 bits2 mask size)
    (order_of (W (config_at f.config)) mask size (shown_by f top bits) (shown_by g top2 bits2))

-- 10 is the last of the tests
unfoldable pub key_verdict : Filter → List ℕ → List ℕ → ℕ → ℕ → Verdict
key_verdict f top bits mask size =
    verdict (filter_lent (record_in f) top bits
    ++ (is_mask mask size ++ (fits_slots (config_at f.config) mask size (shown_by f top bits) ∷ [])))

-- 01, "Key": the kept buckets in their slots
unfoldable pub key_for : Filter → List ℕ → List ℕ → ℕ → ℕ → Result ℕ Refusal
key_for f top bits mask size =
    answer (key_verdict f top bits mask size) (λ n. Err (refusal n))
    (Ok (key_of (config_at f.config) mask size (shown_by f top bits)))
