-- `rows::write` meets its contract: the judge's refusal is the call's, and the bytes of a filter that it takes are the set's row.
use mathlib.Core.Path.{◌≡◌, ap, sym}
use Prim.Native.Nat.{ℕ, ◌*◌}
use native.Mathlib.Omega.{arith}
use lib.Seq.{length-take-le}
use Rattle.sets.specs.Words.{held}
use Rattle.sets.proofs.Rows.{length_bit_part}
use Rattle.sizes.proofs.Laws.{handed_on}
use Rattle.bitchunks.specs.Rows.{width_bytes}
use Rattle.diff_count.proofs.Told.{one_not}
use Rattle.rows.proofs.Writing.{Writable, entry_wide, writable, write_done, write_refused, write_short}
use Rattle.rows.proofs.write.Goals as goal
use Rattle.rows.proofs.write.Goals.{After-of-width}

-- what the judge told
told : (k : After-of-width) →
    let a = k.args in
    Writable a.f a.top.now a.blocks.now k.in_ok-s.s (width_bytes k.of-width.result)
told k = writable _ _ _ _ k.filter_lent.ensures k.in_ok-s.was k.of-width.ensures

pub of-width-requires : goal.of-width-requires
of-width-requires c = entry_wide _ _ _ c.filter_lent.ensures c.in_ok-s.was

pub row_len-len-requires : goal.row_len-len-requires
row_len-len-requires c =
    let R = told (goal.at.row_len-len-requires c).After-of-width in
    (omega (arith, R.short), omega (arith, R.low))

pub returns-then-to-len : goal.returns-then-to-len
returns-then-to-len c = write_short _ _ _ _ (told (goal.at.returns-then-to-len c).After-of-width) c.row_len-len.ensures c.if-to-len.true

pub slice_bounds-write_entries-end : goal.slice_bounds-write_entries-end
slice_bounds-write_entries-end c = sym (length-take-le _ _ (told (goal.at.slice_bounds-write_entries-end c).After-of-width).cells)

pub write_entries-requires : goal.write_entries-requires
write_entries-requires c =
    let R = told (goal.at.write_entries-requires c).After-of-width in
    let n = ap (λ (x : ℕ). x * width_bytes c.of-width.result) (length-take-le _ _ R.cells) in
    (omega (arith, n, c.row_len-len.ensures), R.fit)

-- where the entries end
end : (k : After-of-width) → k.args.f.count * k.in_ok-s.s.entry ≡ k.args.f.count * width_bytes k.of-width.result
end k = ap (λ (x : ℕ). k.args.f.count * x) (sym k.of-width.ensures)

pub write-requires : goal.write-requires
write-requires c =
    let a = c.args in
    let k = (goal.at.write-requires c).After-of-width in
    let R = told k in
    record {
      boundary_bound = (R.low, R.blocks_in);
      empty = R.clear;
      blocks_in_bounds = omega (arith, end k, c.write_entries.auto.to, c.row_len-len.ensures, length_bit_part a.f.boundary (held a.blocks.now));
    }

pub returns : goal.returns
returns c =
    let k = (goal.at.returns c).After-of-width in
    write_done _ _ _ _ (told k) c.row_len-len.ensures c.if-to-len.false
    c.write_entries.ensures (end k) c.write.ensures.0 c.write.ensures.1

pub returns-in_err-s : goal.returns-in_err-s
returns-in_err-s c =
    write_refused _ _ _ _ (handed_on _ c.from_residual.ensures.1)
    (one_not _ _ _ _ c.filter_lent.ensures c.in_err-s.was)
