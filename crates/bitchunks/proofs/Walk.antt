-- What holds at each step of a walk. Assumes nothing.
use mathlib.Core.Path.{◌≡◌, refl, sym, ap, ap₂, ◌∙◌, subst}
use mathlib.Core.Bool.{Bool, false, cond, ◌&&◌, ◌||◌, or_assoc, or_comm, or-false}
use mathlib.Core.Logic.{◌⊎◌, inl, inr}
use mathlib.Core.List.{List, [], ◌∷◌}
use Prim.Native.Nat.{ℕ, suc, ◌+◌, ◌-◌, ◌*◌, ◌/◌, ◌%◌, ◌^◌, ◌≤◌, ◌<◌, max}
use native.Mathlib.Decide.{dec_le, ℕ_discrete}
use native.Mathlib.Numerals.{add-one}
use native.Mathlib.Omega.{arith}
use lib.Dec.{eqb, leb}
use lib.Bits.{bit_or, bit_xor, or_lt}
use lib.Pow.{pow-lt}
use lib.ListN.{length, get_or, drop, get_or-eq_default}
use lib.Seq.{drop-cons, drop-length}
use borrow.Author.Tests.{eq-eqb, ne_eqb, le-leb, lt-leb}
use Rattle.sets.specs.Sets.{Empty, Falls, Set, among}
use Rattle.sets.specs.Words.{block_at, digit, held}
use Rattle.sets.proofs.Laws.{falls_more, odd_above, apart_empty}
use Rattle.sets.proofs.Tests.{falls_among}
use Rattle.sets.proofs.Words.{held_block, digit_or, digit_zero, digit_pow, digits_same, digit_word, word_lt, word_apart}
use Rattle.bitchunks.specs.Walk.{merged, bits_at, Ahead, Bounded, Merging, Passed, Reached}
use Rattle.bitchunks.specs.Xor.{Crossed}

-- a falling list has nothing at or above where it falls from
among_above : (l : List ℕ) (n p : ℕ) → Falls n l → n ≤ p → among l p ≡ false
among_above l n p f h = falls_among l n p f ∙ odd_above l n p f h

-- the entries passed are all: none is left
none_left : (l : List ℕ) (n : ℕ) → n ≤ length l → length l ≤ n → drop n l ≡ []
none_left l n a b =
    let e : n ≡ length l = omega arith in
    ap (λ (x : ℕ). drop x l) e ∙ drop-length l

-- ---- the blocks

pub bits_in : (first : ℕ) (bits : List ℕ) (i : ℕ) → first ≤ i → bits_at first bits i ≡ get_or bits (i - first) 0
unfolding bits_at
bits_in first bits i h = rw (le-leb first i h)

pub bits_under : (first : ℕ) (bits : List ℕ) (i : ℕ) → i < first → bits_at first bits i ≡ 0
unfolding bits_at
bits_under first bits i h = rw (lt-leb first i h)

pub bits_past : (first : ℕ) (bits : List ℕ) (i : ℕ) → first + length bits ≤ i → bits_at first bits i ≡ 0
bits_past first bits i h = bits_in first bits i (omega arith) ∙ get_or-eq_default bits 0 {n = i - first} (omega arith)

-- a digit of a block of the set
merged_digit : (tops : List ℕ) (first : ℕ) (bits : List ℕ) (i j : ℕ) → j < 64
    → merged tops first bits (64 * i + j) ≡ (digit (bits_at first bits i) j || among tops (64 * i + j))
unfolding merged bits_at
merged_digit tops first bits i j h =
    or_comm (among tops (64 * i + j)) _ ∙ ap (λ (b : Bool). b || among tops (64 * i + j)) (go (dec_le first i))
  where
    go : Dec (first ≤ i)
        → (leb (64 * first) (64 * i + j) && held bits (64 * i + j - 64 * first)) ≡ digit (cond (leb first i) (get_or bits (i - first) 0) 0) j
    go (yes l) =
        let e : 64 * i + j - 64 * first ≡ 64 * (i - first) + j = omega arith in
        rw (le-leb (64 * first) (64 * i + j) (omega arith), le-leb first i l, e) (held_block bits (i - first) j h)
    go (no l) = rw (lt-leb (64 * first) (64 * i + j) (omega arith), lt-leb first i (omega arith)) (sym (digit_zero j))

-- ---- where a walk starts

pub ahead_start : (tops : List ℕ) (k : ℕ) → Falls (64 * k) tops → 64 * k ≤ 2 ^ 32 → Ahead tops 0 k
ahead_start tops k f h = record { some = omega arith; falling = f; rest = λ p l. refl; small = h }

-- ---- one block

pub merge_start : {tops : List ℕ} {passed : ℕ} (first : ℕ) (bits : List ℕ) (i : ℕ) (block : ℕ) → block < 2 ^ 64
    → block ≡ bits_at first bits i
    → Ahead tops passed (suc i) → Merging (merged tops first bits) tops i passed block
merge_start {tops} {passed} first bits i block f e a =
    record {
      fits = f;
      some = a.some;
      small = omega (arith, a.small);
      falling = a.falling;
      rest = λ p h. a.rest p (omega arith);
      are = λ j h. merged_digit tops first bits i j h
          ∙ ap₂ (λ (x : ℕ) (b : Bool). digit x j || b) (sym e) (a.rest (64 * i + j) (omega arith));
    }

module _ {S : Set} {tops : List ℕ} {i at block : ℕ} (t : Merging S tops i at block) where
  pub merge_turn : {n : ℕ} (p : ℕ) → length tops ≡ n → at < n → p ≡ get_or tops at 0 → p / 64 ≡ i
      → Merging S tops i (at + 1) (bit_or block (2 ^ (p % 64)))
  merge_turn p len l ep ei =
      let h : at < length tops = omega arith in
      let d : drop at tops ≡ p ∷ drop (at + 1) tops =
      drop-cons tops at 0 h ∙ ap₂ (λ (x y : ℕ). x ∷ drop y tops) (sym ep) (sym (add-one at)) in
      let f : Falls (64 * suc i) (p ∷ drop (at + 1) tops) = subst (Falls (64 * suc i)) d t.falling in
      record {
        fits = or_lt 64 block (2 ^ (p % 64)) t.fits (pow-lt {i = p % 64} {j = 64} (omega arith));
        some = omega arith;
        small = t.small;
        falling = falls_more (drop (at + 1) tops) {m = p} {n = 64 * suc i} (omega (arith, f.0)) f.1;
        rest =
            λ p' l. t.rest p' l ∙ ap (λ (x : List ℕ). among x p') d
            ∙ ap (λ (b : Bool). b || among (drop (at + 1) tops) p') (ne_eqb p' p (omega arith));
        are = λ j l. t.are j l ∙ ap (λ (x : List ℕ). digit block j || among x (64 * i + j)) d
            ∙ sym (or_assoc (digit block j) (eqb (64 * i + j) p) (among (drop (at + 1) tops) (64 * i + j)))
            ∙ ap (λ (b : Bool). (digit block j || b) || among (drop (at + 1) tops) (64 * i + j)) (here j l)
            ∙ ap (λ (b : Bool). b || among (drop (at + 1) tops) (64 * i + j)) (sym (digit_or block (2 ^ (p % 64)) j));
      }
    where
      here : (j : ℕ) → j < 64 → eqb (64 * i + j) p ≡ digit (2 ^ (p % 64)) j
      here j l = go (ℕ_discrete j (p % 64))
        where
          go : Dec (j ≡ p % 64) → eqb (64 * i + j) p ≡ digit (2 ^ (p % 64)) j
          go (yes e) = eq-eqb (64 * i + j) p (omega arith) ∙ sym (eq-eqb j (p % 64) e) ∙ sym (digit_pow (p % 64) j)
          go (no e) = ne_eqb (64 * i + j) p (omega arith) ∙ sym (ne_eqb j (p % 64) e) ∙ sym (digit_pow (p % 64) j)

  merge_done : Falls (64 * i) (drop at tops) → Passed S tops i block at
  merge_done f =
      record {
        is = digits_same 64 block (block_at S i) t.fits (word_lt S (64 * i) 64) (λ j h.
            sym (digit_word S (64 * i) 64 j h ∙ t.are j h
            ∙ ap (λ (b : Bool). digit block j || b) (among_above (drop at tops) (64 * i) (64 * i + j) f (omega arith))
            ∙ or-false (digit block j)));
        ahead = record { some = t.some; falling = f; rest = t.rest; small = t.small };
      }

  -- no entry is left
  pub merge_end : {n : ℕ} → length tops ≡ n → n ≤ at → Passed S tops i block n
  merge_end {n} len h =
      let e : at ≡ n = omega (arith, t.some) in
      subst (Passed S tops i block) e (merge_done (subst (Falls (64 * i)) (sym (none_left tops at t.some (omega arith))) tt))

  -- the next entry stands in a lower block
  pub merge_stop : {n : ℕ} (p : ℕ) → length tops ≡ n → at < n → p ≡ get_or tops at 0 → (p / 64 ≡ i → ⊥) → Passed S tops i block at
  merge_stop p len l ep ne =
      let h : at < length tops = omega arith in
      let d : drop at tops ≡ p ∷ drop (suc at) tops = drop-cons tops at 0 h ∙ ap (λ (x : ℕ). x ∷ drop (suc at) tops) (sym ep) in
      let f : Falls (64 * suc i) (p ∷ drop (suc at) tops) = subst (Falls (64 * suc i)) d t.falling in
      let u : p < 64 * i = omega (arith, f.0) in
      merge_done (subst (Falls (64 * i)) (sym d) (u, f.1))

-- ---- how far down the next block is

module _ {tops : List ℕ} {passed end : ℕ} (a : Ahead tops passed end) {first n b : ℕ} (B : Bounded first n end b) (bits : List ℕ)
    (size : length bits ≡ n) where
  -- what bounds both the blocks and the entries bounds the members
  reach_done : (e : ℕ) → b ≤ e → e ≤ end → Falls (64 * e) (drop passed tops) → Reached (merged tops first bits) tops passed end e
  reach_done e h l f =
      record {
        within = l;
        empty = λ p x y.
            let q : p ≡ 64 * (p / 64) + p % 64 = omega arith in
            ap (merged tops first bits) q ∙ merged_digit tops first bits (p / 64) (p % 64) (omega arith)
            ∙ ap₂ ◌||◌ (ap (λ (w : ℕ). digit w (p % 64)) (void (p / 64) (B.past (p / 64) (omega arith) (omega arith)))
            ∙ digit_zero (p % 64))
            (ap (among tops) (sym q) ∙ a.rest p y ∙ among_above (drop passed tops) (64 * e) p f x);
        ahead = record { some = a.some; falling = f; rest = λ p x. a.rest p (omega arith); small = omega (arith, a.small) };
      }
    where
      void : (i : ℕ) → (i < first) ⊎ (first + n ≤ i) → bits_at first bits i ≡ 0
      void i (inl x) = bits_under first bits i x
      void i (inr x) = bits_past first bits i (omega arith)

  -- no entry is left
  pub reach_end : {count : ℕ} → length tops ≡ count → count ≤ passed → Reached (merged tops first bits) tops passed end b
  reach_end len h =
      reach_done b (omega arith) B.within (subst (Falls (64 * b)) (sym (none_left tops passed a.some (omega arith))) tt)

  -- the next entry bounds those left
  pub reach_entry : {count : ℕ} (p i r : ℕ) → length tops ≡ count → passed < count → p ≡ get_or tops passed 0 → i ≡ p / 64 → r ≡ max b (i + 1)
      → Reached (merged tops first bits) tops passed end r
  reach_entry p i r len u ep ei er =
      let h : passed < length tops = omega arith in
      let d : drop passed tops ≡ p ∷ drop (suc passed) tops =
      drop-cons tops passed 0 h ∙ ap (λ (x : ℕ). x ∷ drop (suc passed) tops) (sym ep) in
      let f : Falls (64 * end) (p ∷ drop (suc passed) tops) = subst (Falls (64 * end)) d a.falling in
      let l : p < 64 * r = omega arith in
      reach_done r (omega arith) (omega (arith, B.within, f.0)) (subst (Falls (64 * r)) (sym d) (l, f.1))

-- a bound further up bounds too
reached_more : {S : Set} {tops : List ℕ} {passed end e : ℕ} (x : ℕ) → e ≤ x → x ≤ end → Ahead tops passed end → Reached S tops passed end e
    → Reached S tops passed end x
reached_more {S} {tops} {passed} {end} {e} x h l a r =
    record {
      within = l;
      empty = λ p y z. r.empty p (omega arith) z;
      ahead = record {
        some = a.some;
        falling = falls_more (drop passed tops) {m = 64 * e} {n = 64 * x} (omega arith) r.ahead.falling;
        rest = λ p y. a.rest p (omega arith);
        small = omega (arith, a.small);
      };
    }

-- ---- the step

module _ {S : Set} {tops : List ℕ} {passed end e : ℕ} (r : Reached S tops passed end e) where
  pub step_none : e ≡ 0 → Empty S 0 (64 * end)
  step_none z = subst (λ (x : ℕ). Empty S (64 * x) (64 * end)) z r.empty

  module _ (z : e ≡ 0 → ⊥) where
    -- the number of the block below e, and one
    up : e ≡ suc (e - 1)
    up = omega (arith, z)

    pub step_ahead : Ahead tops passed (suc (e - 1))
    step_ahead = subst (Ahead tops passed) up r.ahead

    pub step_under : e - 1 < end
    step_under = omega (arith, z, r.within)

    pub step_gap : Empty S (64 * suc (e - 1)) (64 * end)
    step_gap = subst (λ (x : ℕ). Empty S (64 * x) (64 * end)) up r.empty

-- ---- the step of two walks

module _ {S R : Set} {tops others : List ℕ} {passed other end x y : ℕ} (a : Ahead tops passed end) (b : Ahead others other end)
    (r : Reached S tops passed end x) (t : Reached R others other end y) (e : ℕ) (m : e ≡ max x y) where
  here : Reached S tops passed end e
  here = reached_more e (omega arith) (omega (arith, r.within, t.within)) a r

  there : Reached R others other end e
  there = reached_more e (omega arith) (omega (arith, r.within, t.within)) b t

  module _ (z : e ≡ 0 → ⊥) where
    pub cross_ahead : Ahead tops passed (suc (e - 1))
    cross_ahead = step_ahead here z

    pub cross_other : Ahead others other (suc (e - 1))
    cross_other = step_ahead there z

    pub cross_chunk : {v w p q : ℕ} → Passed S tops (e - 1) v p → Passed R others (e - 1) w q
        → Crossed S R tops others end (e - 1) (bit_xor v w) v p q
    cross_chunk u s =
        record {
          under = step_under here z;
          gap = apart_empty S R (64 * suc (e - 1)) (64 * end) (step_gap here z) (step_gap there z);
          is = ap₂ bit_xor u.is s.is ∙ sym (word_apart S R (64 * (e - 1)) 64);
          first_is = u.is;
          ahead = u.ahead;
          other_ahead = s.ahead;
        }
