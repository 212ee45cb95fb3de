-- 01, "Numbers a call may refuse with". A call names its tests; the order of judging stands here, once.
use Rattle.std.specs.Prelude.{Bool, false, cond, ◌&&◌, ◌||◌, List, [], ◌∷◌, ◌++◌, ℕ, ◌*◌, eqb, leb, length}
use Rattle.sets.specs.Sets.{Set, all_below}
use Rattle.sets.specs.Configurations.{Config, W, blocks, known, config_at}
use Rattle.sets.specs.Filter.{FilterRecord, BuilderRecord, is_filter, is_builder}
use Rattle.sets.specs.Masks.{size_fits, mask_fits, slots_fit}
use Rattle.sets.specs.Row.{Fault, length_fits, entries_fit, sound, place_of, fall_fault, count_fault, spare_fault, high_fault}

-- what a test looks at
pub data Reason : Type 0 where
  configuration room soundness likeness mask_size mask_bits row_length range fall block_count spare high slot buffer text_form : Reason

-- 01's table: the number, and which it is of the reasons that have this number
abbrev pub in_table : Reason → ℕ × ℕ
in_table configuration = (1, 0)
in_table range = (2, 0)
in_table room = (3, 0)
in_table buffer = (3, 1)
in_table row_length = (4, 0)
in_table fall = (5, 0)
in_table block_count = (5, 1)
in_table spare = (5, 2)
in_table high = (5, 3)
in_table mask_size = (6, 0)
in_table mask_bits = (7, 0)
in_table soundness = (8, 0)
in_table likeness = (9, 0)
in_table slot = (10, 0)
in_table text_form = (11, 0)

abbrev pub number : Reason → ℕ
number x = (in_table x).0

-- 01: "Order: 1 for each argument; 3 for each area; 8 for each; 9; 6; 7; 4; 2; 5; 10; last, 3 for the row buffer." Tests of one group
-- stand as the call names them: "Of two rows, the first is judged by 4, 2 and 5 before the second." 11 is the comparing program's alone.
abbrev pub order_of_judging : List (List Reason)
order_of_judging =
    (configuration ∷ [])
    ∷ (room ∷ [])
    ∷ (soundness ∷ [])
    ∷ (likeness ∷ [])
    ∷ (mask_size ∷ [])
    ∷ (mask_bits ∷ [])
    ∷ (row_length ∷ range ∷ fall ∷ block_count ∷ spare ∷ high ∷ [])
    ∷ (slot ∷ [])
    ∷ (buffer ∷ [])
    ∷ []

-- a test: its reason, whether it passes, and the place of the fault that it found, 0 for none
pub record Test : Type 0 where
  pub reason : Reason
  pub passes : Bool
  pub place : ℕ

abbrev pub test : Reason → Bool → Test
test x b = record { reason = x; passes = b; place = 0 }

abbrev pub finds : Reason → Fault → Test
finds x f = record { reason = x; passes = sound f; place = place_of f }

-- whether a reason is one of a group
abbrev pub one_of : List Reason → Reason → Bool
one_of [] x = false
one_of (y ∷ ys) x = (eqb (in_table x).0 (in_table y).0 && eqb (in_table x).1 (in_table y).1) || one_of ys x

abbrev pub of_group : List Reason → List Test → List Test
of_group group [] = []
of_group group (t ∷ ts) = cond (one_of group t.reason) (t ∷ of_group group ts) (of_group group ts)

abbrev pub in_groups : List (List Reason) → List Test → List Test
in_groups [] ts = []
in_groups (group ∷ groups) ts = of_group group ts ++ in_groups groups ts

abbrev pub in_order : List Test → List Test
in_order ts = in_groups order_of_judging ts

-- what a refusal tells. 01: "A refusal returns its number alone"
pub record Cause : Type 0 where
  pub number : ℕ

abbrev pub because_at : Reason → ℕ → Cause
because_at x place = record { number = number x }

abbrev pub because : Reason → Cause
because x = because_at x 0

pub data Verdict : Type 0 where
  taken : Verdict
  refused : Cause → Verdict

-- the first test that fails decides
abbrev pub first_failing : List Test → Verdict
first_failing [] = taken
first_failing (t ∷ ts) = cond t.passes (first_failing ts) (refused (because_at t.reason t.place))

abbrev pub verdict : List Test → Verdict
verdict ts = first_failing (in_order ts)

-- what a refusal gives of its cause, or what is given where the call is taken
abbrev pub answer : {A : Type 0} → Verdict → (Cause → A) → A → A
answer taken on_refusal a = a
answer (refused k) on_refusal a = on_refusal k

-- ---- the tests, by number

-- 1: "the configuration is not 7, 10 or 13"
abbrev pub is_known : ℕ → Test
is_known n = test configuration (known n)

-- 2: "a listed bucket .. is W or more, or a split handed in exceeds W"
abbrev pub are_buckets : Config → List ℕ → Test
are_buckets c list = test range (all_below (W c) list)

abbrev pub is_split : Config → ℕ → Test
is_split c split = test range (leb split (W c))

-- 3: "a lent slice is shorter than its area, or than the row to be written"
abbrev pub holds_area : ℕ → ℕ → Test
holds_area cells lent = test room (leb cells lent)

-- a filter's two areas, in slices of so many cells
abbrev pub hold_areas : Config → ℕ → ℕ → List Test
hold_areas c top bits = holds_area c.M top ∷ holds_area (blocks c) bits ∷ []

abbrev pub holds_row : List ℕ → List ℕ → Test
holds_row written slice = test buffer (leb (length written) (length slice))

-- 8: "record and areas are no set's filter; or the builder has .."
abbrev pub are_filter : Config → FilterRecord → List ℕ → List ℕ → Test
are_filter c r top bits = test soundness (is_filter c.M (blocks c) top bits r.count r.boundary)

abbrev pub are_builder : Config → BuilderRecord → List ℕ → List ℕ → Test
are_builder c r pending bits = test soundness (is_builder c.M (W c) pending bits r.count r.split)

-- 9: "two filters have different configurations"
abbrev pub are_alike : ℕ → ℕ → Test
are_alike n o = test likeness (eqb n o)

-- 6 and 7
abbrev pub is_mask : ℕ → ℕ → List Test
is_mask mask size = test mask_size (size_fits size) ∷ test mask_bits (mask_fits mask size) ∷ []

-- 10: "a bucket does not fit its key slot"
abbrev pub fits_slots : Config → ℕ → ℕ → Set → Test
fits_slots c mask size S = test slot (slots_fit c mask size S)

-- 4, 2 and 5 of a row
abbrev pub is_row_of : Config → List ℕ → List Test
is_row_of c bs =
    test row_length (length_fits c bs)
    ∷ test range (entries_fit c bs)
    ∷ finds fall (fall_fault c bs)
    ∷ finds block_count (count_fault c bs)
    ∷ finds spare (spare_fault c bs)
    ∷ finds high (high_fault c bs)
    ∷ []

-- ---- the tests on what a call is lent

-- 1 and 3: two slices of so many cells, to hold a filter of the configuration n
abbrev pub areas_lent : ℕ → ℕ → ℕ → List Test
areas_lent n top bits = is_known n ∷ hold_areas (config_at n) top bits

-- 1, 3 and 8: a filter
abbrev pub filter_lent : FilterRecord → List ℕ → List ℕ → List Test
filter_lent r top bits = areas_lent r.config (length top) (length bits) ++ (are_filter (config_at r.config) r top bits ∷ [])

-- 1, 3, 8 and 9: two filters
abbrev pub filters_lent : FilterRecord → List ℕ → List ℕ → FilterRecord → List ℕ → List ℕ → List Test
filters_lent r top bits o top2 bits2 = filter_lent r top bits ++ (filter_lent o top2 bits2 ++ (are_alike r.config o.config ∷ []))

-- 1 and 3: two slices of so many cells, to hold a builder: "pending buckets (area of 2M), bits"
abbrev pub builder_areas : ℕ → ℕ → ℕ → List Test
builder_areas n pending bits = is_known n ∷ holds_area (2 * (config_at n).M) pending ∷ holds_area (blocks (config_at n)) bits ∷ []

-- 1, 3 and 8: a builder
abbrev pub builder_lent : BuilderRecord → List ℕ → List ℕ → List Test
builder_lent r pending bits =
    builder_areas r.config (length pending) (length bits) ++ (are_builder (config_at r.config) r pending bits ∷ [])
