-- A filter made in lent memory: what a call answers and leaves.
use Rattle.std.specs.Prelude.{◌≡◌, List, ℕ, ◌*◌, ◌≤◌, ◌<◌, length, get_or, drop, Result, Ok, Err}
use Rattle.sets.specs.Sets.{Agree, Below, Empty, Set, apart, flips}
use Rattle.sets.specs.Words.{held}
use Rattle.sets.specs.Configurations.{Config}
use Rattle.sets.specs.Filter.{FilterRecord, record_of, shown, top_slice, bit_slice}
use Rattle.sets.specs.Refusals.{Verdict, verdict, answer, filters_lent}
use Rattle.sizes.specs.Sizes.{refusal}
use Rattle.bitvec.specs.Parts.{Becomes}
use Rattle.bitvec.specs.declared.Tally.{Tally}
use Rattle.judge.specs.Judging.{judged}
use Rattle.diff_count.specs.declared.Filter.{Filter}
use Rattle.sizes.specs.declared.Sizes.{Sizes}
use Rattle.sizes.specs.declared.Refusal.{Refusal}

-- 01's record (configuration, top count, boundary)
abbrev pub record_in : Filter → FilterRecord
record_in f = record { config = f.config; count = f.count; boundary = f.boundary }

abbrev pub filter_in : FilterRecord → Filter
filter_in r = record { config = r.config; count = r.count; boundary = r.boundary }

abbrev pub tally_of : Filter → Tally
tally_of f = record { count = f.count; boundary = f.boundary }

-- 1, 3, 8 and 9 of two filters: the sizes, or the number of the first test that fails
unfoldable pub filters_of : Filter → List ℕ → List ℕ → Filter → List ℕ → List ℕ → Result Sizes Refusal
filters_of f top bits g top2 bits2 = judged f.config (verdict (filters_lent (record_in f) top bits (record_in g) top2 bits2))

-- the promise of a call that makes the filter of S in a configuration: an equation for the answer and for each slice that it writes;
-- a refusal gives its number, and leaves the slices as they came
pub record Makes (v : Verdict) (c : Config) (S : Set) (top bits : List ℕ) (r : Result Filter Refusal) (top' bits' : List ℕ) : Type 0 where
  pub answers : r ≡ answer v (λ n. Err (refusal n)) (Ok (filter_in (record_of c S)))
  pub tops : top' ≡ answer v (λ n. top) (top_slice c S top)
  pub blocks : bits' ≡ answer v (λ n. bits) (bit_slice c S bits)

-- ---- inner functions

-- the set that areas show, by a tally of their top entries and boundary
abbrev pub shown_of : Tally → List ℕ → List ℕ → Set
shown_of t top bits = shown top bits t.count t.boundary

-- the areas show their set flipped by a list
abbrev pub Flipped : ℕ → ℕ → List ℕ → Tally → List ℕ → List ℕ → Tally → List ℕ → List ℕ → Type 0
Flipped m k list t top bits r top' bits' =
    Becomes m k (flips list (shown_of t top bits)) top bits top' bits' r.count r.boundary

-- no fewer than `least` and no more than are needed for it and for the buckets listed
pub record UpTo (list : List ℕ) (least r : ℕ) : Type 0 where
  pub low : least ≤ r
  pub covers : Below (64 * r) list
  pub high : (k : ℕ) → least ≤ k → Below (64 * k) list → r ≤ k

-- no bucket listed is above the first
abbrev pub Led : List ℕ → Type 0
Led list = (i : ℕ) → i < length list → get_or list i 0 ≤ get_or list 0 0

-- k blocks that hold no bucket at or above the edge
pub record BitsBelow (k edge : ℕ) (bits : List ℕ) : Type 0 where
  pub room : k ≤ length bits
  pub low : edge ≤ 64 * k
  pub clear : Empty (held bits) edge (64 * k)

-- k blocks hold the buckets that exactly one of two holds; what stands past them is as it was
pub record BitsApart (k : ℕ) (first second old now : List ℕ) : Type 0 where
  pub bits : Agree (64 * k) (held now) (apart (held first) (held second))
  pub rest : drop k now ≡ drop k old
