-- Test 8 of a builder: what the flag tells of the stage is the test's answer. Assumes nothing.
use mathlib.Core.Path.{◌≡◌, sym, ◌∙◌}
use mathlib.Core.Bool.{Bool, true, false, true≢false}
use mathlib.Core.List.{List}
use Prim.Native.Nat.{ℕ, ◌*◌, ◌≤◌}
use lib.ListN.{take}
use Rattle.sets.specs.Sets.{Empty, all_below}
use Rattle.sets.specs.Words.{held}
use Rattle.sets.specs.Filter.{is_builder}
use Rattle.sets.proofs.Tests.{both_true, all_below_lem, below_all}
use Rattle.bitvec.specs.Cells.{Zeros}
use Rattle.judge.specs.Judging.{Tells}
use Rattle.pending.specs.Stages.{Staged}
use Rattle.pending.specs.declared.Stage.{Stage}
use Rattle.pending.proofs.Sound.{builder_staged, staged_builder}

module _ (m k : ℕ) (pending bits : List ℕ) (s : Stage) where
  abbrev sound : Bool
  sound = is_builder m (64 * k) pending bits s.count s.split

  pub unsound : (Staged m k pending bits s → ⊥) → false ≡ sound
  unsound h = both_true false sound (λ e. absurd (true≢false (sym e))) (λ e. absurd (h (builder_staged m k pending bits s e)))

  -- the buckets pending were looked at
  module _ (b : Bool) (e : b ≡ all_below (64 * k) (take s.count pending)) where
    pub past_range : b ≡ false → false ≡ sound
    past_range h = unsound (λ S. true≢false (sym (below_all (64 * k) (take s.count pending) S.in_range) ∙ sym e ∙ h))

    pub by_bits : b ≡ true → s.count ≤ 2 * m → s.split ≤ 64 * k → Zeros s.count (2 * m) pending
        → (r : Bool) → Tells r (Empty (held bits) s.split (64 * k)) → r ≡ sound
    by_bits h few low z true B =
        sym (staged_builder m k pending bits s
        (record { few = few; in_range = all_below_lem (64 * k) (take s.count pending) (sym e ∙ h); low = low; clear = B; unused = z }))
    by_bits h few low z false B = unsound (λ S. B S.clear)
