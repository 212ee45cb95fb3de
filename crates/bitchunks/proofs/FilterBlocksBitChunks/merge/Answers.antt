-- The merge of a filter meets its contract: the entries left have what the block still lacks.
use mathlib.Core.Path.{refl, sym, subst, ◌∙◌}
use native.Mathlib.Omega.{arith}
use Rattle.bitchunks.specs.Walk.{Merging, Passed}
use Rattle.bitchunks.proofs.Walk.{merge_start, merge_turn, merge_stop, merge_end}
use Rattle.bitchunks.proofs.FilterBlocksBitChunks.merge.Goals as goal

pub loop-at-init : goal.loop-at-init
loop-at-init c = (refl, merge_start 0 _ _ _ (omega arith) c.block-block.ensures c.requires.1)

pub returns-then-into_index-i : goal.returns-then-into_index-i
returns-then-into_index-i c =
    merge_stop c.loop-at.invariant.1 _ refl c.loop-at-test.true c.into_usize-bucket.ensures
    (λ e. c.if-into_index-i.true (c.into_index.ensures ∙ e))

pub loop-at-preserved : goal.loop-at-preserved
loop-at-preserved c = (
  refl,
  subst (Merging _ _ _ _) (sym c.with_bucket-block.ensures)
      (merge_turn c.loop-at.invariant.1 _ refl c.loop-at-test.true c.into_usize-bucket.ensures
      (sym c.into_index.ensures ∙ c.if-into_index-i.false)),
)

pub returns : goal.returns
returns c =
    let t = c.loop-at.invariant in
    subst (Passed _ _ _ _) (omega (arith, t.0, t.1.some, c.loop-at-test.false)) (merge_end t.1 refl c.loop-at-test.false)
