-- `Line::bit_fault` meets its contract: the entries fall, and each call answers one of the other three tests.
use mathlib.Core.Path.{◌∙◌}
use Rattle.judge_row.proofs.Faults.{Placed, blocks_in_lem, edge_small, no_fault, not_counted, not_spare, stands, spare_in, too_high}
use Rattle.judge_row.proofs.Line.bit_fault.Goals as goal
use Rattle.judge_row.proofs.Line.bit_fault.Goals.{Start}

-- where the row's parts stand
stand : (k : Start) → Placed k.args.self.sizes k.args.layout k.args.row.now
stand k = stands _ k.args.self.listed k.requires.measured

pub boundary_of-boundary-requires : goal.boundary_of-boundary-requires
boundary_of-boundary-requires c =
    let p = stand (goal.at.boundary_of-boundary-requires c).Start in
    (p.entries_in, p.some)

pub overflow_sub-place : goal.overflow_sub-place
overflow_sub-place c = (stand (goal.at.overflow_sub-place c).Start).spare_at

pub num_blocks-requires : goal.num_blocks-requires
num_blocks-requires c = edge_small (stand (goal.at.num_blocks-requires c).Start) c.requires.row_value c.boundary_of-boundary.ensures

pub returns-then-layout-num_blocks : goal.returns-then-layout-num_blocks
returns-then-layout-num_blocks c = not_counted _ _ c.args.self.listed c.requires.measured c.requires.row_value c.boundary_of-boundary.ensures c.num_blocks.ensures c.if-layout-num_blocks.true

pub spare_fits-requires : goal.spare_fits-requires
spare_fits-requires c h = spare_in (stand (goal.at.spare_fits-requires c).Start) c.num_blocks.ensures c.if-layout-num_blocks.false h

pub returns-then-not-spare_fits : goal.returns-then-not-spare_fits
returns-then-not-spare_fits c =
    not_spare _ _ c.args.self.listed c.requires.measured c.requires.row_value c.boundary_of-boundary.ensures c.num_blocks.ensures
    c.if-layout-num_blocks.false c.spare_fits.ensures c.if-not-spare_fits.true

pub high_place-requires : goal.high_place-requires
high_place-requires c = (
  c.if-layout-num_blocks.false ∙ c.num_blocks.ensures,
  blocks_in_lem (stand (goal.at.high_place-requires c).Start),
  edge_small (stand (goal.at.high_place-requires c).Start) c.requires.row_value c.boundary_of-boundary.ensures,
)

pub returns-in-Some : goal.returns-in-Some
returns-in-Some c =
    too_high _ _ c.args.self.listed c.requires.measured c.requires.row_value c.boundary_of-boundary.ensures c.num_blocks.ensures
    c.if-layout-num_blocks.false c.spare_fits.ensures c.if-not-spare_fits.false c.high_place.ensures c.in-Some.is

pub returns-in-None : goal.returns-in-None
returns-in-None c =
    no_fault _ _ c.args.self.listed c.requires.measured c.requires.row_value c.boundary_of-boundary.ensures c.num_blocks.ensures
    c.if-layout-num_blocks.false c.spare_fits.ensures c.if-not-spare_fits.false c.high_place.ensures c.in-None.is
