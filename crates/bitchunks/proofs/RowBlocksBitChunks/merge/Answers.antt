-- The merge of a row meets its contract: the entries left have what the block still lacks.
use mathlib.Core.Path.{refl, sym, subst, ◌∙◌}
use native.Mathlib.Omega.{arith}
use Rattle.sets.proofs.Bytes.{length_numbers}
use Rattle.bitchunks.specs.Walk.{Merging, Passed}
use Rattle.bitchunks.proofs.Walk.{merge_start, merge_turn, merge_stop, merge_end}
use Rattle.bitchunks.proofs.Rows.{entry_at}
use Rattle.bitchunks.proofs.RowBlocksBitChunks.merge.Goals as goal

pub loop-at-init : goal.loop-at-init
loop-at-init c = (refl, merge_start _ _ _ _ (omega arith) c.block-joined.ensures c.requires.1)

pub returns-then-into_index-i : goal.returns-then-into_index-i
returns-then-into_index-i c =
    let l = c.loop-at-test.true in
    merge_stop c.loop-at.invariant.1 _ (length_numbers _ _ _) l
    (entry_at _ l _ _ c.row_entry-bucket.ensures)
    (λ e. c.if-into_index-i.true (c.into_index.ensures ∙ e))

pub loop-at-preserved : goal.loop-at-preserved
loop-at-preserved c =
    let l = c.loop-at-test.true in (
      refl,
      subst (Merging _ _ _ _) (sym c.with_bucket-joined.ensures)
          (merge_turn c.loop-at.invariant.1 _ (length_numbers _ _ _) l
          (entry_at _ l _ _ c.row_entry-bucket.ensures) (sym c.into_index.ensures ∙ c.if-into_index-i.false)),
    )

pub returns : goal.returns
returns c =
    let t = c.loop-at.invariant in
    let n = length_numbers _ _ _ in
    subst (Passed _ _ _ _) (omega (arith, t.0, t.1.some, n, c.loop-at-test.false)) (merge_end t.1 n c.loop-at-test.false)
