-- The cases of 01's edges, and ours, computed. Assumes nothing.
use lib.Dec.{T}
use Rattle.sets.specs.Sets.{members, from}
use Rattle.sets.specs.Words.{digit, word, held}
use Rattle.sets.specs.Configurations.{config_at}
use Rattle.sets.specs.Filter.{is_builder, low, limited_count, limited_bound}
use Rattle.sets.specs.Masks.{order_of, packed, key_of}
use Rattle.sets.specs.Row.{
  bit_part,
  row,
  row_entries,
  row_blocks,
  shown_row,
  length_fits,
  entries_fit,
  fall_fault,
  count_fault,
  spare_fault,
  high_fault,
}
use Rattle.sets.specs.Text.{config_line, mask_line, row_line, overlap, compared, judged_second, judged_rows, judged_masked, judged_input}
use Rattle.sets.specs.Text.{compare_text}
use Rattle.sets.specs.Edges.{down, holds, each, figures, cases, traps}

pub figures_hold : T (each figures)
unfolding holds each figures
figures_hold = tt

pub cases_hold : T (each cases)
unfolding members from digit word held low limited_count limited_bound packed key_of bit_part row row_entries row_blocks shown_row
    length_fits entries_fit fall_fault count_fault spare_fault high_fault down holds each cases
cases_hold = tt

pub traps_hold : T (each traps)
unfolding members from digit word held config_at is_builder low limited_count limited_bound order_of packed key_of bit_part row
    row_entries row_blocks shown_row length_fits entries_fit fall_fault count_fault spare_fault high_fault config_line mask_line row_line
    overlap compared judged_second judged_rows judged_masked judged_input compare_text down holds each traps
traps_hold = tt
