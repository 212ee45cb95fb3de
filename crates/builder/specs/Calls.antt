-- The calls on a builder: what each judges, answers and leaves.
use Rattle.std.specs.Prelude.{◌≡◌, true, List, [], ◌∷◌, ◌++◌, ℕ, ◌+◌, ◌*◌, ◌^◌, ◌≤◌, max, length, drop, Result, Ok, Err}
use Rattle.sets.specs.Sets.{Set, Agree, flips}
use Rattle.sets.specs.Configurations.{Config, W, blocks, config_at}
use Rattle.sets.specs.Filter.{BuilderRecord, Rises, at_or_above, builder_set, cleared, is_builder}
use Rattle.sets.specs.Refusals.{Verdict, taken, refused, verdict, answer, builder_areas, builder_lent, hold_areas, are_buckets, is_split}
use Rattle.sizes.specs.Sizes.{refusal}
use Rattle.pending.specs.Stages.{stage_at}
use Rattle.pending.specs.declared.Stage.{Stage}
use Rattle.judge_builder.specs.Judging.{record_at}
use Rattle.diff_count.specs.Making.{Makes}
use Rattle.builder.specs.declared.Builder.{Builder}
use Rattle.sizes.specs.declared.Refusal.{Refusal}
use Rattle.diff_count.specs.declared.Filter.{Filter}

abbrev pub builder_in : ℕ → ℕ → ℕ → Builder
builder_in n split count = record { config = n; split = split; count = count }

abbrev pub stage_of : Builder → Stage
stage_of b = stage_at b.split b.count

-- 01's builder: configuration, split, number pending
abbrev pub record_in : Builder → BuilderRecord
record_in b = record_at b.config (stage_of b)

abbrev pub config_of : Builder → Config
config_of b = config_at b.config

-- the set that a builder holds
abbrev pub set_of : Builder → List ℕ → List ℕ → Set
set_of b pending bits = builder_set pending bits b.count

-- ---- new

-- 01: "Builder: a starting split from 0 to W"
unfoldable pub new_verdict : ℕ → ℕ → List ℕ → List ℕ → Verdict
new_verdict n split pending bits = verdict (builder_areas n (length pending) (length bits) ++ (is_split (config_at n) split ∷ []))

-- 01: "Making the empty filter, or a builder, zeroes its areas."
pub record News (n split : ℕ) (pending bits : List ℕ) (r : Result Builder Refusal) (pending' bits' : List ℕ) : Type 0 where
  pub answers : r ≡ answer (new_verdict n split pending bits) (λ k. Err (refusal k)) (Ok (builder_in n split 0))
  pub cells : pending' ≡ answer (new_verdict n split pending bits) (λ k. pending) (cleared (2 * (config_at n).M) pending)
  pub blocks : bits' ≡ answer (new_verdict n split pending bits) (λ k. bits) (cleared (blocks (config_at n)) bits)

-- ---- push

-- 01: "Pushing a list flips like toggling and likewise judges the whole list first."
unfoldable pub push_verdict : Builder → List ℕ → List ℕ → List ℕ → Verdict
push_verdict b pending bits list = verdict (builder_lent (record_in b) pending bits ++ (are_buckets (config_of b) list ∷ []))

-- 01: "The builder's pending list, split and bits may vary; they stand as an exception, .. and its set is still fixed." What a push that
-- is taken leaves:
pub record Pushed (b : Builder) (pending bits list : List ℕ) (next : Builder) (pending' bits' : List ℕ) : Type 0 where
  pub config_is : next.config ≡ b.config
  -- the set is flipped by the buckets listed
  pub sets : Agree (W (config_of b)) (set_of next pending' bits') (flips list (set_of b pending bits))
  -- the builder is sound again
  pub sound : is_builder (config_of b).M (W (config_of b)) pending' bits' next.count next.split ≡ true
  -- "the split rises by 2^B, never past W"
  pub rises : Rises (2 ^ (config_of b).B) (W (config_of b)) b.split next.split
  -- and stays where the pending area is never met full
  pub stays : b.count + at_or_above b.split list ≤ 2 * (config_of b).M → next.split ≡ b.split
  -- "Cells past an area are never written."
  pub pending_rest : drop (2 * (config_of b).M) pending' ≡ drop (2 * (config_of b).M) pending
  pub bit_rest : drop (blocks (config_of b)) bits' ≡ drop (blocks (config_of b)) bits
  pub pending_length : length pending' ≡ length pending
  pub bit_length : length bits' ≡ length bits

abbrev pub PushOutcome : Verdict → Builder → List ℕ → List ℕ → List ℕ → Result Builder Refusal → List ℕ → List ℕ → Type 0
PushOutcome taken b pending bits list r pending' bits' = (next : Builder) × (r ≡ Ok next) × Pushed b pending bits list next pending' bits'
PushOutcome (refused k) b pending bits list r pending' bits' = (r ≡ Err (refusal k)) × (pending' ≡ pending) × (bits' ≡ bits)

abbrev pub Pushes : Builder → List ℕ → List ℕ → List ℕ → Result Builder Refusal → List ℕ → List ℕ → Type 0
Pushes b pending bits list = PushOutcome (push_verdict b pending bits list) b pending bits list

-- ---- raise

unfoldable pub raise_verdict : Builder → List ℕ → List ℕ → ℕ → Verdict
raise_verdict b pending bits split = verdict (builder_lent (record_in b) pending bits ++ (is_split (config_of b) split ∷ []))

-- 01: "The split may be raised by hand; a value no higher than the present one changes nothing."
unfoldable pub raised : Builder → List ℕ → List ℕ → ℕ → Result Builder Refusal
raised b pending bits split =
    answer (raise_verdict b pending bits split) (λ k. Err (refusal k)) (Ok (builder_in b.config (max b.split split) b.count))

-- ---- finish

unfoldable pub finish_verdict : Builder → List ℕ → List ℕ → List ℕ → List ℕ → Verdict
finish_verdict b pending bits top blocks =
    verdict (builder_lent (record_in b) pending bits ++ hold_areas (config_of b) (length top) (length blocks))

-- 01: "Finishing writes a filter and leaves the builder as found."
abbrev pub Finishes : Builder → List ℕ → List ℕ → List ℕ → List ℕ → Result Filter Refusal → List ℕ → List ℕ → Type 0
Finishes b pending bits top blocks = Makes (finish_verdict b pending bits top blocks) (config_of b) (set_of b pending bits) top blocks
