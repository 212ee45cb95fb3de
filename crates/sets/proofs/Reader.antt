-- The laws of a row reader's place and of what it gives there. Assumes nothing.
use mathlib.Core.Path.{◌≡◌, refl, ap}
use mathlib.Core.Bool.{Bool, cond}
use mathlib.Core.List.{List, [], ◌∷◌}
use Prim.Native.Nat.{ℕ, zero, suc, ◌≤◌, ◌<◌}
use native.Mathlib.Omega.{arith}
use lib.ListN.{length, get_or}
use borrow.Author.Tests.{lt-ltb, le-ltb}
use Rattle.sets.specs.Sets.{Set, members}
use Rattle.sets.specs.Masks.{bucket, end, given_at, place_after}

pub given_bucket : (ps : List ℕ) (place : ℕ) → place < length ps → given_at ps place ≡ bucket (get_or ps place 0)
given_bucket [] place h = absurd (omega arith)
given_bucket (p ∷ ps) zero h = refl
given_bucket (p ∷ ps) (suc place) h = given_bucket ps place (omega arith)

pub given_end : (ps : List ℕ) (place : ℕ) → length ps ≤ place → given_at ps place ≡ end
given_end [] place h = refl
given_end (p ∷ ps) zero h = absurd (omega arith)
given_end (p ∷ ps) (suc place) h = given_end ps place (omega arith)

module _ (n : ℕ) (S : Set) (place : ℕ) where
  pub place_moves : place < length (members S n) → place_after n S place ≡ suc place
  place_moves h = ap (λ (b : Bool). cond b (suc place) place) (lt-ltb place (length (members S n)) h)

  pub place_stays : length (members S n) ≤ place → place_after n S place ≡ place
  place_stays h = ap (λ (b : Bool). cond b (suc place) place) (le-ltb place (length (members S n)) h)
