-- The bit part of a row, written from blocks that hold no bucket at or above the boundary. Assumes nothing.
use mathlib.Core.Path.{◌≡◌, refl, sym, ap, ap₂, ◌∙◌}
use mathlib.Core.Bool.{Bool, cond}
use mathlib.Core.List.{List, ◌∷◌}
use Prim.Native.Nat.{ℕ, ◌+◌, ◌*◌, ◌^◌, ◌≤◌, ◌<◌}
use native.Mathlib.Decide.{dec_lt}
use native.Mathlib.Numerals.{add-one}
use native.Mathlib.Omega.{arith}
use lib.ListN.{length, get_or, take, set}
use lib.Seq.{sets}
use borrow.Author.Tests.{ne_eqb}
use Rattle.sets.specs.Sets.{Agree, Empty, below}
use Rattle.sets.specs.Words.{held}
use Rattle.sets.specs.Configurations.{blocks_for}
use Rattle.sets.specs.Row.{bit_part, bytes_of, spare_byte}
use Rattle.sets.proofs.Filters.{held_blocks}
use Rattle.sets.proofs.Laws.{below_in, below_out}
use Rattle.sets.proofs.Rows.{bit_part_none, bit_part_some, length_bit_part, row_bits}

clear_below : (edge k : ℕ) (blocks : List ℕ) → Empty (held blocks) edge (64 * k) → Agree (64 * k) (held blocks) (below edge (held blocks))
clear_below edge k blocks h p l = go (dec_lt p edge)
  where
    go : Dec (p < edge) → held blocks p ≡ below edge (held blocks) p
    go (yes a) = sym (below_in edge (held blocks) p a)
    go (no a) = h p (omega arith) l ∙ sym (below_out edge (held blocks) p (omega arith))

-- what the writer leaves, and the place that it answers
abbrev Wrote : ℕ → List ℕ → List ℕ → ℕ → ℕ → List ℕ → Type 0
Wrote edge blocks old at r now = (r ≡ at + length (bit_part edge (held blocks))) × (now ≡ sets old at (bit_part edge (held blocks)))

pub part_none : (edge : ℕ) (blocks old : List ℕ) (at : ℕ) → edge ≡ 0 → Wrote edge blocks old at at old
part_none edge blocks old at e = rw (bit_part_none edge (held blocks) e) (omega arith, refl)

module _ (edge : ℕ) (blocks : List ℕ) (e : edge ≡ 0 → ⊥) where
  pub part_length : length (bit_part edge (held blocks)) ≡ 1 + 8 * blocks_for edge
  part_length = length_bit_part edge (held blocks) ∙ ap (λ (b : Bool). cond b 0 (1 + 8 * blocks_for edge)) (ne_eqb edge 0 e)

  -- the spare byte, then the blocks
  pub part_some : blocks_for edge ≤ length blocks → ((i : ℕ) → get_or blocks i 0 < 2 ^ 64) → Empty (held blocks) edge (64 * blocks_for edge)
      → (old : List ℕ) (at n spare : ℕ) (now : List ℕ) → n ≡ blocks_for edge → spare ≡ spare_byte edge → now
      ≡ sets (set old at spare) (at + 1) (bytes_of 8 (take n blocks))
      → Wrote edge blocks old at (at + 1 + 8 * n) now
  part_some l f h old at n spare now k s w =
      let b : take (blocks_for edge) blocks ≡ row_bits edge (held blocks) =
      held_blocks (blocks_for edge) blocks (below edge (held blocks)) l f (clear_below edge (blocks_for edge) blocks h) in (
        omega (arith, part_length),
        w
            ∙ ap₂ (λ (x y : ℕ). sets (set old at x) y (bytes_of 8 (take n blocks))) s (add-one at)
            ∙ ap (λ (l : List ℕ). sets old at (spare_byte edge ∷ bytes_of 8 l)) (ap (λ (x : ℕ). take x blocks) k ∙ b)
            ∙ ap (sets old at) (sym (bit_part_some edge (held blocks) e)),
      )
