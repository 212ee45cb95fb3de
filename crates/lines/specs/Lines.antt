-- What the lines are judged to be, told by the answers that the code gives.
use Rattle.std.specs.Prelude.{List, [], ℕ, Result, Ok, Err}
use Rattle.std.proofs.Math.Option.{Option, none, some}
use Rattle.sets.specs.Configurations.{Config, config_at}
use Rattle.sets.specs.Refusals.{Verdict, is_row_of, refused, verdict, because, text_form}
use Rattle.sets.specs.Row.{shown_row}
use Rattle.sets.specs.Text.{Judged, Mask as Text-as-Mask, from_hex, is, refused_at}
use Rattle.diff_count.specs.Making.{Makes}
use Rattle.lines.specs.declared.Mask.{Mask}
use Rattle.sizes.specs.Sizes.{number_of}
use Rattle.sizes.specs.declared.Refusal.{Refusal}
use Rattle.diff_count.specs.declared.Filter.{Filter}

-- the first line
abbrev pub config_told : Result ℕ Refusal → Judged ℕ
config_told (Ok n) = is n
config_told (Err r) = refused_at (number_of r) 1

abbrev pub mask_in : Mask → Text-as-Mask
mask_in m = record { mask = m.mask; size = m.size }

-- the second line
abbrev pub mask_told : Result Mask Refusal → Judged Text-as-Mask
mask_told (Ok m) = is (mask_in m)
mask_told (Err r) = refused_at (number_of r) 2

-- a row's line: 11 of its text, or 4, 2 and 5 of its bytes
abbrev pub line_verdict : Config → Option (List ℕ) → Verdict
line_verdict c none = refused (because text_form)
line_verdict c (some row) = verdict (is_row_of c row)

abbrev pub bytes_in : Option (List ℕ) → List ℕ
bytes_in none = []
bytes_in (some row) = row

-- the filter of the row's set is made, or the line is refused
abbrev pub ReadsLine : ℕ → List ℕ → List ℕ → List ℕ → Result Filter Refusal → List ℕ → List ℕ → Type 0
ReadsLine n bs top bits = Makes (line_verdict (config_at n) (from_hex bs)) (config_at n) (shown_row (config_at n) (bytes_in (from_hex bs))) top bits
