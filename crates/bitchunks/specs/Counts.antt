-- The counts of one walk and of the xor of two.
use Rattle.std.specs.Prelude.{◌≡◌, List, ℕ, suc, ◌*◌, ◌≤◌, ◌<◌, length, Result, MatchResult}
use Rattle.sets.specs.Sets.{Set, apart, members, onward}
use Rattle.sets.specs.Configurations.{blocks_for}
use Rattle.sets.specs.Filter.{exact_count, last_entry, limited_bound, limited_count}
use Rattle.bitchunks.specs.Walk.{Ahead}
use Rattle.bitchunks.specs.declared.Cursors.{Cursors}

-- the limited count and its bound
pub record LimitedTo (m n window : ℕ) (S : Set) (count bound : ℕ) : Type 0 where
  pub count_is : count ≡ limited_count m n window S
  pub bound_is : bound ≡ limited_bound m n window S

-- of the blocks below k those from `end` up have m members or more: how many, and the blocks for the last of the m largest
pub record FullAt (S R : Set) (tops others : List ℕ) (k m total upper passed other end : ℕ) : Type 0 where
  pub under : end < k
  pub total_is : total ≡ length (members (onward (64 * end) (apart S R)) (64 * k))
  pub upper_is : upper ≡ blocks_for (last_entry m (64 * k) (apart S R))
  pub near : upper ≤ suc end
  pub ahead : Ahead tops passed end
  pub other_ahead : Ahead others other end

-- m members were met; or all were met, and they are fewer
abbrev pub FirstOf : Set → Set → List ℕ → List ℕ → ℕ → ℕ → Result (ℕ × ℕ × Cursors) ℕ → Type 0
FirstOf S R tops others k m r =
    MatchResult r (λ x. FullAt S R tops others k m x.0 x.1 x.2.passed x.2.passed2 x.2.end)
    (λ total. (total ≡ exact_count (64 * k) (apart S R)) × (total < m))
