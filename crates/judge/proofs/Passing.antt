-- A filter that passes the tests on what is lent, and that the filter of a set does. Assumes nothing.
use mathlib.Core.Path.{◌≡◌, refl, sym, ◌∙◌}
use mathlib.Core.Bool.{true}
use mathlib.Core.List.{List, ◌++◌}
use Prim.Native.Nat.{ℕ, ◌≤◌}
use native.Mathlib.Omega.{arith}
use borrow.Author.Tests.{eq-eqb, le-leb}
use lib.Dec.{eqb}
use lib.ListN.{length}
use Rattle.sets.specs.Sets.{Set}
use Rattle.sets.specs.Configurations.{blocks, known, config_at}
use Rattle.sets.specs.Refusals.{taken, verdict, filter_lent, filters_lent, hold_areas}
use Rattle.sets.proofs.Areas.{Stands, stands_holds}
use Rattle.sets.proofs.Configurations.{line_at, whole_blocks}
use Rattle.sets.proofs.Filters.{holds_room_top, holds_room_bits}
use Rattle.sets.proofs.Shown.{holds_filter}
use Rattle.sizes.specs.Sizes.{sizes_at}
use Rattle.bitvec.specs.declared.Tally.{Tally}
use Rattle.judge.specs.Judging.{record_at}
use Rattle.judge.proofs.Verdicts.{Passes, two_alone}

pub stands_pass : {n : ℕ} {t : Tally} {top bits : List ℕ} {S : Set} → known n ≡ true
    → Stands (config_at n) (record_at n t) top bits S → Passes n t top bits
unfolding sizes_at
stands_pass {n} {t} {top} {bits} {S} k H =
    let s = (line_at n).sound in
    let G = stands_holds (config_at n) s H in
    record {
      known = k;
      room = record {
        some = s.some;
        cells = holds_room_top G;
        blocks_in = holds_room_bits G;
        small = omega (arith, (line_at n).small, whole_blocks (config_at n) s);
      };
      sound = holds_filter (config_at n).M (blocks (config_at n)) top bits t.count t.boundary S s.some G;
    }

module _ {n : ℕ} {t : Tally} {top bits : List ℕ} (p : Passes n t top bits) where
  pub lent_taken : verdict (filter_lent (record_at n t) top bits) ≡ taken
  unfolding sizes_at
  lent_taken = rw (p.known, le-leb _ _ p.room.cells, le-leb _ _ p.room.blocks_in, p.sound)

  module _ {u : Tally} {top2 bits2 : List ℕ} (q : Passes n u top2 bits2) where
    alike : eqb n n ≡ true
    alike = eq-eqb n n refl

    -- with room for a third
    pub all_taken : (x y : ℕ) → (config_at n).M ≤ x → blocks (config_at n) ≤ y
        → verdict (filters_lent (record_at n t) top bits (record_at n u) top2 bits2 ++ hold_areas (config_at n) x y) ≡ taken
    unfolding sizes_at
    all_taken x y h l =
        rw (
          p.known,
          le-leb _ _ p.room.cells,
          le-leb _ _ p.room.blocks_in,
          le-leb _ _ q.room.cells,
          le-leb _ _ q.room.blocks_in,
          le-leb _ _ h,
          le-leb _ _ l,
          p.sound,
          q.sound,
          alike,
        )

    pub both_taken : verdict (filters_lent (record_at n t) top bits (record_at n u) top2 bits2) ≡ taken
    unfolding sizes_at
    both_taken = sym (two_alone n t top bits n u top2 bits2) ∙ all_taken (length top) (length bits) p.room.cells p.room.blocks_in
