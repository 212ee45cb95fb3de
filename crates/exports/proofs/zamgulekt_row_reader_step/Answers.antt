-- `exports::zamgulekt_row_reader_step` meets its contract: it tells what `step_at` answers at the reader's place, and moves the
-- place.
use mathlib.Core.Path.{sym, ap, ◌∙◌}
use mathlib.Core.List.{[], ◌∷◌}
use lib.ListN.{get_or}
use Rattle.std.proofs.Common.{rules}
use Rattle.row_reader.specs.declared.Stepped.{Stepped}
use Rattle.exports.proofs.Telling.{place_held, place_kept}
use Rattle.exports.proofs.zamgulekt_row_reader_step.Goals as goal

pub returns-then-next-place : goal.returns-then-next-place
returns-then-next-place c =
    record {
      tells = search rules;
      moves =
          place_held c.args.reader.now c.args.row.now (search rules)
          (sym (ap (λ (s : Stepped). s.place) c.step_at-next.ensures) ∙ c.if-next-place.true);
    }

pub returns : goal.returns
returns c =
    record {
      tells = search rules;
      moves =
          ap (λ (s : Stepped). get_or c.args.reader.now 0 0 ∷ s.place ∷ []) c.step_at-next.ensures
          ∙ place_kept c.args.reader.now c.args.row.now (search rules);
    }
