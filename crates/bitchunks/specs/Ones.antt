-- The members of a set, given one by one from a walk.
use Rattle.std.specs.Prelude.{◌≡◌, cond, List, [], ◌∷◌, ℕ, suc, ◌-◌, ◌*◌, ltb, ◌<◌, Option, None, Some, MatchOption}
use Rattle.sets.specs.Sets.{Set, members}
use Rattle.sets.specs.Words.{digit}
use Rattle.bitchunks.specs.Walk.{Ahead, Next}
use Rattle.bitchunks.specs.declared.Cursor.{Cursor}
use Rattle.bitchunks.specs.declared.Ones.{Ones}

-- what is left of a set: the members below the block of the number `end`, and of that block the places that are set in `block`
abbrev pub left : Set → ℕ → ℕ → Set
left S end block p = cond (ltb p (64 * end)) (S p) (digit block (p - 64 * end))

-- the members still to be given
unfoldable pub rest : Set → ℕ → ℕ → List ℕ
rest S end block = members (left S end block) (64 * suc end)

-- a step past the blocks that are 0: what it gives is not 0
abbrev pub NextKept : Set → List ℕ → ℕ → Option (ℕ × Cursor) → Type 0
NextKept S tops end r = MatchOption r (Next S tops end None) (λ x. (0 < x.0) × Next S tops end (Some x))

-- of the members l the largest, and what stands for the others; or there is none
abbrev pub Gives : Set → List ℕ → List ℕ → Option (ℕ × Ones) → Type 0
Gives S tops l r =
    MatchOption r (l ≡ []) (λ x.
    (l ≡ x.0 ∷ rest S x.1.cursor.end x.1.block) × Ahead tops x.1.cursor.passed x.1.cursor.end)
