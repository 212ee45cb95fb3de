-- The xor of two walks.
use Rattle.std.specs.Prelude.{◌≡◌, List, ℕ, suc, ◌*◌, ◌<◌, Option, MatchOption}
use Rattle.sets.specs.Sets.{Empty, Set, apart}
use Rattle.sets.specs.Words.{block_at}
use Rattle.bitchunks.specs.Walk.{Ahead}
use Rattle.bitchunks.specs.declared.Cursors.{Cursors}

-- the block of the number i of the symmetric difference, with that of the first set, nothing between it and `end`, and cursors past it
pub record Crossed (S R : Set) (tops others : List ℕ) (end i block first passed other : ℕ) : Type 0 where
  pub under : i < end
  pub gap : Empty (apart S R) (64 * suc i) (64 * end)
  pub is : block ≡ block_at (apart S R) i
  pub first_is : first ≡ block_at S i
  pub ahead : Ahead tops passed i
  pub other_ahead : Ahead others other i

abbrev pub NextApart : Set → Set → List ℕ → List ℕ → ℕ → Option (ℕ × ℕ × Cursors) → Type 0
NextApart S R tops others end r =
    MatchOption r (Empty (apart S R) 0 (64 * end)) (λ x. Crossed S R tops others end x.2.end x.0 x.1 x.2.passed x.2.passed2)
