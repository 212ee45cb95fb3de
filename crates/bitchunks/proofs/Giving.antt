-- A walk under a mask, and the members given one by one. Assumes nothing.
use mathlib.Core.Path.{◌≡◌, refl, sym, ap, ap₂, ◌∙◌, subst}
use mathlib.Core.Bool.{Bool, false, cond, and-false}
use mathlib.Core.List.{List, [], ◌∷◌}
use Prim.Native.Nat.{ℕ, suc, ◌+◌, ◌-◌, ◌*◌, ◌^◌, ◌≤◌, ◌<◌}
use native.Mathlib.Decide.{dec_lt}
use native.Mathlib.Omega.{arith}
use Rattle.std.specs.Prelude.{Option, None, Some}
use lib.Bits.{bit_and, bit_xor}
use lib.Dec.{eqb}
use borrow.Author.Tests.{eq-eqb, lt-ltb, le-ltb}
use Rattle.sets.specs.Sets.{Empty, Set, differ, flip, members, none}
use Rattle.sets.specs.Words.{block_at, digit, TopDigit}
use Rattle.sets.specs.Masks.{kept, laid}
use Rattle.sets.proofs.Laws.{differ_comm, flip_other, members_gap, members_head, members_none, members_same}
use Rattle.sets.proofs.Masks.{kept_block, kept_same}
use Rattle.sets.proofs.Words.{digit_pow, digit_word, digit_xor, digit_zero, word_none_back}
use Rattle.bitchunks.specs.Walk.{Ahead, Next, Passed}
use Rattle.bitchunks.specs.Ones.{Gives, NextKept, left, rest}
use Rattle.bitchunks.specs.declared.Cursor.{Cursor}
use Rattle.bitchunks.specs.declared.Ones.{Ones}

-- ---- what a mask keeps of a walk

module _ {S : Set} (mask size : ℕ) where
  kept_empty : {a b : ℕ} → Empty S a b → Empty (kept mask size S) a b
  kept_empty h p x y = kept_same mask size S none p (h p x y) ∙ and-false (laid mask size p)

  pub kept_merge : {tops : List ℕ} {i block passed keeps : ℕ} → Passed S tops i block passed
      → keeps ≡ bit_and block (block_at (laid mask size) i) → Passed (kept mask size S) tops i keeps passed
  kept_merge {i = i} t e =
      record {
        is = e ∙ ap (λ (x : ℕ). bit_and x (block_at (laid mask size) i)) t.is ∙ sym (kept_block mask size S i);
        ahead = t.ahead;
      }

-- ---- past the blocks that are 0

-- no member stands in the blocks from `end` up to `start`
pub record Skipping (S : Set) (tops : List ℕ) (start passed end : ℕ) : Type 0 where
  pub ahead : Ahead tops passed end
  pub within : end ≤ start
  pub empty : Empty S (64 * end) (64 * start)

pub skip_start : {tops : List ℕ} {start passed : ℕ} (S : Set) → Ahead tops passed start → Skipping S tops start passed start
skip_start S a = record { ahead = a; within = omega arith; empty = λ p h l. absurd (omega arith) }

module _ {S : Set} {tops : List ℕ} {start passed end : ℕ} (t : Skipping S tops start passed end) where
  -- a step's gap joins what was passed before
  skip_gap : (k : ℕ) → Empty S (64 * k) (64 * end) → Empty S (64 * k) (64 * start)
  skip_gap k g p a b = go (dec_lt p (64 * end))
    where
      go : Dec (p < 64 * end) → S p ≡ false
      go (yes h) = g p a h
      go (no h) = t.empty p (omega arith) b

  pub skip_none : Next S tops end None → NextKept S tops start None
  skip_none n = skip_gap 0 n

  module _ {block : ℕ} {c : Cursor} (n : Next S tops end (Some (block, c))) where
    pub skip_turn : block ≡ 0 → Skipping S tops start c.passed c.end
    skip_turn z =
        record {
          ahead = n.2.ahead;
          within = omega (arith, n.0, t.within);
          empty = λ p a b. go p a b (dec_lt p (64 * suc c.end));
        }
      where
        go : (p : ℕ) → 64 * c.end ≤ p → p < 64 * start → Dec (p < 64 * suc c.end) → S p ≡ false
        go p a b (yes h) =
            let x : p ≡ 64 * c.end + (p - 64 * c.end) = omega arith in
            ap S x ∙ word_none_back S (64 * c.end) 64 (sym n.2.is ∙ z) (p - 64 * c.end) (omega arith)
        go p a b (no h) = skip_gap (suc c.end) n.1 p (omega arith) b

    pub skip_end : (block ≡ 0 → ⊥) → NextKept S tops start (Some (block, c))
    skip_end z = (omega (arith, z), (omega (arith, n.0, t.within), skip_gap (suc c.end) n.1, n.2))

-- ---- what is left

module _ (S : Set) (end : ℕ) where
  left_low : (block p : ℕ) → p < 64 * end → left S end block p ≡ S p
  left_low block p h = ap (λ (b : Bool). cond b (S p) (digit block (p - 64 * end))) (lt-ltb p (64 * end) h)

  left_high : (block p : ℕ) → 64 * end ≤ p → left S end block p ≡ digit block (p - 64 * end)
  left_high block p h = ap (λ (b : Bool). cond b (S p) (digit block (p - 64 * end))) (le-ltb p (64 * end) h)

  -- nothing of the block is left
  pub rest_none : rest S end 0 ≡ members S (64 * end)
  unfolding rest
  rest_none =
      members_gap (left S end 0) (64 * end) (64 * suc end) (omega arith) (λ p a b. left_high 0 p a ∙ digit_zero (p - 64 * end))
      ∙ members_same (left S end 0) S (64 * end) (λ p l. left_low 0 p l)

  -- past a gap the whole block is left
  pub rest_block : (start : ℕ) → end < start → Empty S (64 * suc end) (64 * start) → members S (64 * start) ≡ rest S end (block_at S end)
  unfolding rest
  rest_block start h g =
      members_gap S (64 * suc end) (64 * start) (omega arith) g
      ∙ members_same S (left S end (block_at S end)) (64 * suc end) (λ p l. same p l (dec_lt p (64 * end)))
    where
      same : (p : ℕ) → p < 64 * suc end → Dec (p < 64 * end) → S p ≡ left S end (block_at S end) p
      same p l (yes k) = sym (left_low (block_at S end) p k)
      same p l (no k) =
          let q : p ≡ 64 * end + (p - 64 * end) = omega arith in
          ap S q ∙ sym (digit_word S (64 * end) 64 (p - 64 * end) (omega arith)) ∙ sym (left_high (block_at S end) p (omega arith))

  -- the highest place of the block is the largest member
  pub rest_one : (block j : ℕ) → TopDigit block j → rest S end block ≡ (64 * end + j) ∷ rest S end (bit_xor block (2 ^ j))
  unfolding rest
  rest_one block j t =
      let e : 64 * end + j - 64 * end ≡ j = omega arith in
      members_head (left S end block) (64 * end + j) (64 * suc end) (omega (arith, t.small))
      (left_high block (64 * end + j) (omega arith) ∙ ap (digit block) e ∙ t.is_set)
      (λ p a b. left_high block p (omega arith) ∙ t.above (p - 64 * end) (omega arith))
      ∙ ap (λ (l : List ℕ). (64 * end + j) ∷ l)
      (sym
      (members_gap (left S end next) (64 * end + j) (64 * suc end) (omega (arith, t.small))
      (λ p a b. left_high next p (omega arith) ∙ clear (p - 64 * end) (omega arith))
      ∙ members_same (left S end next) (left S end block) (64 * end + j) (λ p l. same p l (dec_lt p (64 * end)))))
    where
      next : ℕ
      next = bit_xor block (2 ^ j)

      flipped : (q : ℕ) → digit next q ≡ flip j (digit block) q
      flipped q = digit_xor block (2 ^ j) q ∙ ap (differ (digit block q)) (digit_pow j q) ∙ differ_comm (digit block q) (eqb q j)

      clear : (q : ℕ) → j ≤ q → digit next q ≡ false
      clear q l = flipped q ∙ go (dec_lt j q)
        where
          go : Dec (j < q) → flip j (digit block) q ≡ false
          go (yes h) = flip_other j (digit block) q (omega arith) ∙ t.above q h
          go (no h) =
              let e : q ≡ j = omega arith in
              ap₂ differ (eq-eqb q j e) (ap (digit block) e ∙ t.is_set)

      same : (p : ℕ) → p < 64 * end + j → Dec (p < 64 * end) → left S end next p ≡ left S end block p
      same p l (yes h) = left_low next p h ∙ sym (left_low block p h)
      same p l (no h) =
          left_high next p (omega arith)
          ∙ flipped (p - 64 * end)
          ∙ flip_other j (digit block) (p - 64 * end) (omega arith)
          ∙ sym (left_high block p (omega arith))

-- ---- the search for the next member

-- what was to be given with `start` blocks ahead and `first` left of the next is still to be given
pub record Seeking (S : Set) (tops : List ℕ) (start first passed end block : ℕ) : Type 0 where
  pub ahead : Ahead tops passed end
  pub same : rest S start first ≡ rest S end block

pub seek_start : {tops : List ℕ} {passed end : ℕ} (S : Set) (block : ℕ) → Ahead tops passed end → Seeking S tops end block passed end block
seek_start S block a = record { ahead = a; same = refl }

module _ {S : Set} {tops : List ℕ} {start first passed end block : ℕ} (t : Seeking S tops start first passed end block) where
  pub seek_end : (o : Option (ℕ × Ones)) → ((R : Set) (l : List ℕ) → Ahead l passed end → Gives R l (rest R end block) o)
      → Gives S tops (rest S start first) o
  seek_end o g = subst (λ (l : List ℕ). Gives S tops l o) (sym t.same) (g S tops t.ahead)

  -- the block is used up
  module _ (z : block ≡ 0) where
    seek_below : rest S start first ≡ members S (64 * end)
    seek_below = t.same ∙ ap (rest S end) z ∙ rest_none S end

    pub seek_none : Next S tops end None → rest S start first ≡ []
    seek_none n = seek_below ∙ members_none S (64 * end) (λ p l. n p (omega arith) l)

    pub seek_turn : {next : ℕ} {c : Cursor} → Next S tops end (Some (next, c)) → Seeking S tops start first c.passed c.end next
    seek_turn {next} {c} n =
        record { ahead = n.2.ahead; same = seek_below ∙ rest_block S c.end end n.0 n.1 ∙ ap (rest S c.end) (sym n.2.is) }
