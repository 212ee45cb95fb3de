-- `Line::fault_of` meets its contract: entries that do not fall are asked for their range, and of others the bit part decides.
use mathlib.Core.Path.{sym, ◌∙◌}
use Rattle.judge_row.proofs.Faults.{Placed, not_falling, out_of_range, stands, placed_nowhere}
use Rattle.judge_row.proofs.Line.fault_of.Goals as goal
use Rattle.judge_row.proofs.Line.fault_of.Goals.{Start}

-- where the row's parts stand
stand : (k : Start) → Placed k.args.self.sizes k.args.layout k.args.row.now
stand k = stands _ k.args.self.listed k.requires.measured

pub fall_place-requires : goal.fall_place-requires
fall_place-requires c = (stand (goal.at.fall_place-requires c).Start).entries_in

pub entries_fit-requires : goal.entries_fit-requires
entries_fit-requires c = (stand (goal.at.entries_fit-requires c).Start).entries_in

pub returns-then-not-entries_fit : goal.returns-then-not-entries_fit
returns-then-not-entries_fit c = out_of_range _ _ c.args.self.listed c.requires.measured c.fall_place.ensures c.entries_fit.ensures c.if-not-entries_fit.true

pub bit_fault-requires : goal.bit_fault-requires
bit_fault-requires c = record { measured = c.requires.measured; row_value = placed_nowhere _ (sym c.fall_place.ensures ∙ c.in-None.is) }

pub returns-else-not-entries_fit : goal.returns-else-not-entries_fit
returns-else-not-entries_fit c =
    not_falling _ _ c.args.self.listed c.requires.measured c.fall_place.ensures c.entries_fit.ensures c.in-Some.is
    c.if-not-entries_fit.false
