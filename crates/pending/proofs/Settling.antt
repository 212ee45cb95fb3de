-- The buckets at or above a split, counted from inside a block on, and the split raised until few are left there. Assumes nothing.
use mathlib.Core.Path.{◌≡◌, sym, ap, ◌∙◌, subst}
use mathlib.Core.List.{List}
use Prim.Native.Nat.{ℕ, ◌+◌, ◌-◌, ◌*◌, ◌/◌, ◌%◌, ◌^◌, ◌≤◌, ◌<◌, min}
use native.Mathlib.Decide.{dec_lt}
use native.Mathlib.Nat.{add-mul, mul-le-mul_right}
use native.Mathlib.Omega.{arith}
use lib.Count.{ones}
use lib.ListN.{length, get_or}
use lib.Pow.{shr_lt}
use Rattle.sets.specs.Sets.{Set, members, onward}
use Rattle.sets.specs.Words.{held, word}
use Rattle.sets.specs.Filter.{Rises}
use Rattle.sets.proofs.Laws.{members_count, members_length, onward_none}
use Rattle.sets.proofs.Counts.{members_onward}
use Rattle.sets.proofs.Words.{digits_same, digit_shift, digit_word, held_block, ones_word, seen, word_lt}
use Rattle.pending.specs.Stages.{Settled, held_from, stage_at}

-- ---- counts from a split on

-- from b up to n there are at most n - b
pub onward_few : (S : Set) (b n : ℕ) → b ≤ n → length (members (onward b S) n) ≤ n - b
onward_few S b n h =
    let e : n ≡ b + (n - b) = omega arith in
    omega (
      arith,
      members_onward S b n h,
      ap (λ (x : ℕ). length (members S x)) e,
      members_count S b (n - b),
      members_length (seen b S) (n - b),
    )

-- a block shifted down is the word of what it holds from that place on
shifted_word : (l : List ℕ) (i s : ℕ) → s ≤ 64 → get_or l i 0 < 2 ^ 64 → word (held l) (64 * i + s) (64 - s) ≡ get_or l i 0 / 2 ^ s
shifted_word l i s h f =
    let e : 64 ≡ 64 - s + s = omega arith in
    digits_same (64 - s) (word (held l) (64 * i + s) (64 - s)) (get_or l i 0 / 2 ^ s) (word_lt (held l) (64 * i + s) (64 - s))
    (shr_lt (64 - s) s (subst (λ (x : ℕ). get_or l i 0 < 2 ^ x) e f))
    (λ j k.
    let p : 64 * i + s + j ≡ 64 * i + (s + j) = omega arith in
    digit_word (held l) (64 * i + s) (64 - s) j k
    ∙ ap (held l) p
    ∙ held_block l i (s + j) (omega arith)
    ∙ sym (digit_shift (get_or l i 0) s j))

-- no block has a bucket at or above the split
pub none_from : (l : List ℕ) (split k : ℕ) → 64 * k ≤ split → 0 ≡ length (members (onward split (held l)) (64 * k))
none_from l split k h = ap length (sym (onward_none split (held l) (64 * k) (λ p a b. absurd (omega arith))))

-- those of the split's own block, and those of the blocks above it
pub parts_from : (l : List ℕ) (split k i s first rest : ℕ) → i ≡ split / 64 → s ≡ split % 64 → i < k → get_or l i 0 < 2 ^ 64
    → first ≡ ones (get_or l i 0 / 2 ^ s) → rest ≡ length (members (onward (64 * (i + 1)) (held l)) (64 * k))
    → first + rest ≡ length (members (onward split (held l)) (64 * k))
parts_from l split k i s first rest a b h f e r =
    let at : split ≡ 64 * i + s = omega arith in
    let end : 64 * (i + 1) ≡ 64 * i + s + (64 - s) = omega arith in
    omega (
      arith,
      e ∙ ap ones (sym (shifted_word l i s (omega arith) f)) ∙ ones_word (held l) (64 * i + s) (64 - s),
      members_count (held l) (64 * i + s) (64 - s),
      ap (λ (x : ℕ). length (members (held l) x)) end,
      ap (λ (x : ℕ). length (members (held l) x)) at,
      members_onward (held l) (64 * (i + 1)) (64 * k) (omega arith),
      members_onward (held l) split (64 * k) (omega arith),
    )

-- ---- rising

pub rises_stay : (level limit a : ℕ) → a ≤ limit → Rises level limit a a
rises_stay level limit a h = (0, omega arith)

pub rises_trans : (level limit a b c : ℕ) → Rises level limit a b → Rises level limit b c → Rises level limit a c
rises_trans level limit a b c f g = (f.0 + g.0, omega (arith, f.1, g.1, add-mul f.0 g.0 level))

rises_once : (level limit a b : ℕ) → b ≡ min limit (a + level) → Rises level limit a b
rises_once level limit a b e = (1, omega arith)

-- a level below the next one is at or below the present one
level_below : (level limit a b next : ℕ) → Rises level limit a b → next ≡ min limit (b + level) → (t : ℕ)
    → min limit (a + t * level) < next → min limit (a + t * level) ≤ b
level_below level limit a b next f e t h = go (dec_lt f.0 t)
  where
    go : Dec (f.0 < t) → min limit (a + t * level) ≤ b
    go (yes l) =
        let m : f.0 + 1 ≤ t = omega arith in
        absurd (omega (arith, f.1, add-mul f.0 1 level, mul-le-mul_right level m))
    go (no l) =
        let m : t ≤ f.0 = omega arith in
        omega (arith, f.1, mul-le-mul_right level m)

-- the split has risen to `up`, what is at or above it is counted, and at each level before there were more than m
pub record Settling (m k level : ℕ) (bits : List ℕ) (split up count : ℕ) : Type 0 where
  pub rises : Rises level (64 * k) split up
  pub low : up ≤ 64 * k
  pub counts : count ≡ held_from k bits up
  pub before : (t : ℕ) → min (64 * k) (split + t * level) < up → m < held_from k bits (min (64 * k) (split + t * level))

pub settle_start : {k : ℕ} (m level : ℕ) {bits : List ℕ} {split count : ℕ} → split ≤ 64 * k → count ≡ held_from k bits split
    → Settling m k level bits split split count
settle_start {k} m level {bits} {split} {count} h e =
    record { rises = rises_stay level (64 * k) split h; low = h; counts = e; before = λ t l. absurd (omega arith) }

module _ {m k level : ℕ} {bits : List ℕ} {split up count : ℕ} (t : Settling m k level bits split up count) where
  -- while any is at or above it, the split can rise
  pub settle_room : 0 < count → up < 64 * k
  settle_room h = omega (arith, t.low, t.counts, onward_few (held bits) up (64 * k) t.low)

  pub settle_turn : m < count → (next : ℕ) {n : ℕ} → next ≡ min (64 * k) (up + level) → n ≡ held_from k bits next
      → Settling m k level bits split next n
  settle_turn more next e c =
      record {
        rises = rises_trans level (64 * k) split up next t.rises (rises_once level (64 * k) up next e);
        low = omega arith;
        counts = c;
        before = λ i l. go i (level_below level (64 * k) split up next t.rises e i l) (dec_lt (min (64 * k) (split + i * level)) up);
      }
    where
      go : (i : ℕ) → min (64 * k) (split + i * level) ≤ up → Dec (min (64 * k) (split + i * level) < up)
          → m < held_from k bits (min (64 * k) (split + i * level))
      go i l (yes b) = t.before i b
      go i l (no b) =
          let v : up ≡ min (64 * k) (split + i * level) = omega arith in
          subst (λ (x : ℕ). m < held_from k bits x) v (omega (arith, t.counts))

  pub settle_end : count ≤ m → Settled m k level bits split (stage_at up count)
  settle_end h = record { rises = t.rises; low = t.low; counts = t.counts; few = h; before = t.before }
