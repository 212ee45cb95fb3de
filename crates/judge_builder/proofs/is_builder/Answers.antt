-- `judge_builder::is_builder` meets its contract: each return's test is a part of test 8.
use mathlib.Core.Path.{sym}
use native.Mathlib.Omega.{arith}
use lib.Seq.{length-take-le}
use borrow.Author.Tests.{not-true, not-false}
use Rattle.bitvec.proofs.Gathering.{gathered}
use Rattle.judge.proofs.Soundness.{slice_tells}
use Rattle.judge_builder.proofs.Soundness.{unsound, past_range, by_bits}
use Rattle.judge_builder.proofs.is_builder.Goals as goal

pub returns-then-m-count : goal.returns-then-m-count
returns-then-m-count c = unsound _ _ _ _ _ (λ S. omega (arith, c.if-m-count.true, S.few))

pub returns-then-k-stage : goal.returns-then-k-stage
returns-then-k-stage c = unsound _ _ _ _ _ (λ S. omega (arith, c.if-k-stage.true, S.low))

pub slice_bounds-all_below-end : goal.slice_bounds-all_below-end
slice_bounds-all_below-end c = sym (length-take-le _ _ (omega (arith, c.requires.cells)))

pub returns-then-not-all_below : goal.returns-then-not-all_below
returns-then-not-all_below c =
    let r = c.all_below in
    past_range _ _ _ _ _ _ r.ensures (not-true _ c.if-not-all_below.true-raw)

pub returns-then-or-ne0 : goal.returns-then-or-ne0
returns-then-or-ne0 c = unsound _ _ _ _ _ (λ S. c.if-or-ne0.true ((gathered _ _ _ _ c.or.ensures).1 S.unused))

pub returns : goal.returns
returns c =
    let r = c.all_below in
    by_bits _ _ _ _ _ _ r.ensures (not-false _ c.if-not-all_below.false-raw)
    c.if-m-count.false c.if-k-stage.false
    ((gathered _ _ _ _ c.or.ensures).0 c.if-or-ne0.false) _
    (slice_tells _ _ c.requires.blocks_in _ c.bits_fit.ensures)
