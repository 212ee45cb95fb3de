-- `bitvec::resize` meets its contract: the blocks below the boundary are cut, and zeros follow.
use native.Mathlib.Omega.{arith}
use Rattle.bitvec.proofs.Filling.{zeroed_fill}
use Rattle.bitvec.proofs.Resizing.{Trimming, cut_none, cut_one, resized}
use Rattle.bitvec.proofs.resize.Goals as goal
use Rattle.bitvec.proofs.resize.Goals.{Joined-bit-gt0, else-bit-gt0, then-bit-gt0}

-- the blocks below `whole` are cut
is_cut : (c : Joined-bit-gt0)
    → Trimming c.args.boundary c.args.blocks.now
    c.if-bit-gt0.blocks c.if-bit-gt0.whole
is_cut c =
    elim c.if-bit-gt0.branch [
      | then-bit-gt0 w ↦
          cut_one _ _ (λ i. (c.slice_known-1.given i).fits) c.into_index-whole.result c.into_bit-bit.result c.into_index-whole.ensures
          c.into_bit-bit.ensures _ _ w.into_mask.result w.if-bit-gt0.true w.into_mask.ensures (omega arith) w.blocks-is w.whole-is
      | else-bit-gt0 w ↦
          cut_none _ _ (λ i. (c.slice_known-1.given i).fits) c.into_index-whole.result c.into_bit-bit.result c.into_index-whole.ensures
          c.into_bit-bit.ensures _ _ w.if-bit-gt0.false w.blocks-is w.whole-is
    ]

pub returns : goal.returns
returns c =
    let t = is_cut (goal.at.returns c).Joined-bit-gt0 in
    resized _ c.requires.0 c.requires.1 t
    (zeroed_fill _ _ _ (omega (arith, t.whole_is)) (omega (arith, t.length_is)) c.fill.ensures.after)
