-- `rows::read_entries` meets its contract: the first i cells are the entries read.
use mathlib.Core.Path.{refl, ap, ◌∙◌}
use mathlib.Core.List.{List, ◌++◌, append-nil}
use Prim.Native.Nat.{ℕ, ◌*◌}
use native.Mathlib.Omega.{arith}
use lib.ListN.{take, drop, drop_of_length-le}
use lib.Seq.{length-take-le}
use Rattle.unaligned.proofs.Runs.{numbers_next}
use Rattle.bitvec.proofs.Filling.{fill_start, fill_turn, fill_end}
use Rattle.bitchunks.specs.Rows.{entries, width_bytes}
use Rattle.rows.proofs.Filling.{entry_small}
use Rattle.rows.proofs.read_entries.Goals as goal

pub loop-i-init : goal.loop-i-init
loop-i-init c = fill_start _ _ _ 0 (omega arith) refl refl

pub overflow_cast-cell : goal.overflow_cast-cell
overflow_cast-cell c =
    omega (
      arith,
      entry_small c.args.layout.width _ (λ i a. (c.type_inv.row i).fits)
          (c.loop-i.i * width_bytes c.args.layout.width) c.row_entry.ensures,
    )

pub loop-i-preserved : goal.loop-i-preserved
loop-i-preserved c =
    fill_turn _ (omega (arith, length-take-le _ _ c.requires.1)) (omega (arith, length-take-le _ _ c.requires.1))
    (numbers_next _ c.loop-i.i 0 _ (c.loop-i.i * width_bytes c.args.layout.width) _ (omega arith) c.row_entry.ensures)
    c.loop-i.invariant

-- the cells behind them stay
pub returns : goal.returns
returns c =
    let n = c.args.layout.count in
    let top = c.args.top.now in
    let l = length-take-le n top c.requires.1 in
    ap (λ (x : List ℕ). x ++ drop n top)
    (fill_end (omega (arith, l, c.loop-i-test.false)) c.loop-i.invariant
    ∙ ap (◌++◌ (entries c.args.layout c.args.row.now)) (drop_of_length-le (take n top) {i = n} (omega (arith, l)))
    ∙ append-nil (entries c.args.layout c.args.row.now))
