-- The laws of the buckets that a mask keeps. Assumes nothing.
use mathlib.Core.Path.{◌≡◌, refl, ap, ◌∙◌, fun_ext}
use mathlib.Core.Bool.{Bool, true, false, ◌&&◌}
use Prim.Native.Nat.{ℕ, ◌+◌, ◌*◌, ◌%◌, ◌<◌}
use native.Mathlib.Nat.{add-mod_right}
use lib.Bits.{bit_and, and_comm}
use Rattle.sets.specs.Sets.{Set, apart, differ}
use Rattle.sets.specs.Words.{block_at, digit}
use Rattle.sets.specs.Masks.{kept, laid}
use Rattle.sets.proofs.Tests.{and_left, and_right}
use Rattle.sets.proofs.Words.{digit_zero, digit_word, word_both}

pub kept_zero : (size : ℕ) (S : Set) (p : ℕ) → kept 0 size S p ≡ false
kept_zero size S p = ap (λ (b : Bool). b && S p) (digit_zero (p % size))

pub laid_again : (mask size p : ℕ) → laid mask size (p + size) ≡ laid mask size p
laid_again mask size p = ap (digit mask) (add-mod_right p size)

and_differ : (a b c : Bool) → (a && differ b c) ≡ differ (a && b) (a && c)
and_differ true b c = refl
and_differ false b c = refl

module _ (mask size : ℕ) where
  pub kept_laid : (S : Set) (p : ℕ) → kept mask size S p ≡ true → laid mask size p ≡ true
  kept_laid S p h = and_left (laid mask size p) (S p) h

  pub kept_at : (S : Set) (p : ℕ) → laid mask size p ≡ true → kept mask size S p ≡ S p
  kept_at S p h = ap (λ (b : Bool). b && S p) h

  pub kept_in : (S : Set) (p : ℕ) → kept mask size S p ≡ true → S p ≡ true
  kept_in S p h = and_right (laid mask size p) (S p) h

  pub kept_same : (S T : Set) (p : ℕ) → S p ≡ T p → kept mask size S p ≡ kept mask size T p
  kept_same S T p h = ap (◌&&◌ (laid mask size p)) h

  pub kept_apart_at : (S T : Set) (p : ℕ) → kept mask size (apart S T) p ≡ apart (kept mask size S) (kept mask size T) p
  kept_apart_at S T p = and_differ (laid mask size p) (S p) (T p)

  pub kept_apart : (S T : Set) → kept mask size (apart S T) ≡ apart (kept mask size S) (kept mask size T)
  kept_apart S T = fun_ext (λ p. kept_apart_at S T p)

  -- what a walk over blocks does: a block and-ed with that of the mask
  pub kept_block : (S : Set) (i : ℕ) → block_at (kept mask size S) i ≡ bit_and (block_at S i) (block_at (laid mask size) i)
  kept_block S i = word_both (laid mask size) S (64 * i) 64 ∙ and_comm (block_at (laid mask size) i) (block_at S i)

  pub laid_digit : (i j : ℕ) → j < 64 → digit (block_at (laid mask size) i) j ≡ digit mask ((64 * i + j) % size)
  laid_digit i j h = digit_word (laid mask size) (64 * i) 64 j h
