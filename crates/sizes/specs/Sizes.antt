-- What the call answers: the line of the table of configurations, or the refusal.
use Rattle.std.specs.Prelude.{List, [], ◌∷◌, ◌-◌, slice_index_or, ℕ, Result, Ok, Err}
use Rattle.sets.specs.Configurations.{Config, config_at, W, blocks, position_bits, window_blocks, longest_row}
use Rattle.sets.specs.Refusals.{Cause, verdict, answer, is_known}
use Rattle.sizes.specs.declared.Sizes.{Sizes}
use Rattle.sizes.specs.declared.Refusal.{Refusal}
use Rattle.sizes.specs.declared.Refusal.TheVariants.{Configuration, Range, Room, RowLength, NoSet, MaskSize, MaskBits, Soundness, Likeness, Slot, TextForm}

abbrev pub sizes : Config → Sizes
sizes c =
    record {
      level = c.B;
      top = c.M;
      entry = c.entry;
      budget = c.budget;
      buckets = W c;
      blocks = blocks c;
      bits = position_bits c;
      window = window_blocks c;
      longest = longest_row c;
    }

-- 01's number of a refusal
abbrev pub number_of : Refusal → ℕ
number_of Configuration = 1
number_of Range = 2
number_of Room = 3
number_of RowLength = 4
number_of NoSet = 5
number_of MaskSize = 6
number_of MaskBits = 7
number_of Soundness = 8
number_of Likeness = 9
number_of Slot = 10
number_of TextForm = 11

-- the refusal of a number: a verdict has none but these (`refusal_numbered` in proofs/Numbers.antt)
abbrev pub refusals : List Refusal
refusals =
    Configuration ∷ Range ∷ Room ∷ RowLength ∷ NoSet ∷ MaskSize ∷ MaskBits ∷ Soundness ∷ Likeness ∷ Slot ∷ TextForm ∷ []

abbrev pub refusal : Cause → Refusal
refusal k = slice_index_or refusals (k.number - 1) TextForm

unfoldable pub sizes_at : ℕ → Sizes
sizes_at n = sizes (config_at n)

-- 01: "The configuration number is 7, 10 or 13 and nothing else"; any other is refusal 1
unfoldable pub sizes_of : ℕ → Result Sizes Refusal
sizes_of n = answer (verdict (is_known n ∷ [])) (λ r. Err (refusal r)) (Ok (sizes_at n))
