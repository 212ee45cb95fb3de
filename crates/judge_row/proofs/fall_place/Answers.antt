-- `judge_row::fall_place` meets its contract: one turn of the loop for each entry.
use mathlib.Core.Path.{ap, ◌∙◌}
use Prim.Native.Nat.{ℕ, ◌*◌}
use native.Mathlib.Omega.{arith}
use lib.ListN.{length}
use Rattle.bitchunks.proofs.Rows.{entry_room}
use Rattle.std.specs.Prelude.{Some}
use Rattle.bitchunks.specs.Rows.{width_bytes}
use Rattle.judge_row.proofs.Entries.{fall_start, fall_at, fall_turn, fall_end, place_in}
use Rattle.judge_row.proofs.fall_place.Goals as goal

pub loop-i-init : goal.loop-i-init
loop-i-init c =
    let a = c.args in
    fall_start a.limit (width_bytes a.layout.width) a.layout.count a.row.now

pub row_entry-bucket-requires : goal.row_entry-bucket-requires
row_entry-bucket-requires c = entry_room _ c.loop-i-test.true c.requires

pub overflow_mul-result : goal.overflow_mul-result
overflow_mul-result c =
    omega (
      arith,
      place_in c.loop-i.i c.args.layout.count (width_bytes c.args.layout.width) (length c.args.row.now)
          c.loop-i-test.true c.requires,
      ap (λ (x : ℕ). c.loop-i.i * x) c.bytes.ensures,
    )

pub returns-then-bucket-last : goal.returns-then-bucket-last
returns-then-bucket-last c =
    ap (λ (x : ℕ). Some (c.loop-i.i * x)) c.bytes.ensures
    ∙ fall_at _ _ _ _ _ _ c.loop-i.invariant c.loop-i-test.true _ c.row_entry-bucket.ensures
    c.if-bucket-last.true

pub loop-i-preserved : goal.loop-i-preserved
loop-i-preserved c =
    fall_turn _ _ _ _ _ _ c.loop-i.invariant c.loop-i-test.true _ c.row_entry-bucket.ensures
    c.if-bucket-last.false

pub returns : goal.returns
returns c = fall_end _ _ _ _ _ _ c.loop-i.invariant c.loop-i-test.false
