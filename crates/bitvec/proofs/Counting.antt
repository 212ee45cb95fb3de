-- The buckets that blocks hold, counted block by block. Assumes nothing.
use mathlib.Core.Path.{◌≡◌, refl, sym, ap, ◌∙◌}
use mathlib.Core.List.{List}
use Prim.Native.Nat.{ℕ, ◌+◌, ◌-◌, ◌*◌, ◌/◌, ◌%◌, ◌^◌, ◌≤◌, ◌<◌}
use native.Mathlib.Omega.{arith}
use lib.Count.{ones}
use lib.ListN.{length, get_or, take, drop, length-drop}
use lib.Seq.{get_or-take, get_or-drop, length-take-le}
use Rattle.sets.specs.Sets.{members, onward}
use Rattle.sets.specs.Words.{held}
use Rattle.sets.proofs.Laws.{members_count, members_length, members_same}
use Rattle.sets.proofs.Counts.{members_onward}
use Rattle.sets.proofs.Words.{held_word, ones_word, seen}

-- of n blocks, the first i are counted
pub record Counting (l : List ℕ) (n total i : ℕ) : Type 0 where
  pub high : i ≤ n
  pub are : total ≡ length (members (held l) (64 * i))

pub count_start : (l : List ℕ) (n : ℕ) → Counting l n 0 0
unfolding members
count_start l n = record { high = omega arith; are = refl }

pub count_turn : {l : List ℕ} {n total i : ℕ} (r : ℕ) → i < n → get_or l i 0 < 2 ^ 64 → r ≡ ones (get_or l i 0)
    → Counting l n total i → Counting l n (total + r) (i + 1)
count_turn {l} {i = i} r h f e t =
    let s : 64 * (i + 1) ≡ 64 * i + 64 = omega arith in
    let w : r ≡ length (members (seen (64 * i) (held l)) 64) = e ∙ ap ones (sym (held_word l i f)) ∙ ones_word (held l) (64 * i) 64 in
    record {
      high = omega arith;
      are = omega (arith, t.are, w, ap (λ (x : ℕ). length (members (held l) x)) s, members_count (held l) (64 * i) 64);
    }

pub count_few : {l : List ℕ} {n total i : ℕ} → Counting l n total i → total ≤ 64 * i
count_few {l} {i = i} t = omega (arith, t.are, members_length (held l) (64 * i))

pub count_end : {l : List ℕ} {n total i : ℕ} → n ≤ i → Counting l n total i → total ≡ length (members (held l) (64 * n))
count_end {l} h t = t.are ∙ ap (λ (x : ℕ). length (members (held l) (64 * x))) (omega (arith, t.high))

-- blocks from a up to b, counted for themselves
pub part_count : (l : List ℕ) (a b : ℕ) → a ≤ b → b ≤ length l
    → let part : List ℕ = take (b - a) (drop a l) in
    length (members (held part) (64 * length part)) ≡ length (members (onward (64 * a) (held l)) (64 * b))
unfolding held
part_count l a b h n =
    let part : List ℕ = take (b - a) (drop a l) in
    let long : length part ≡ b - a = length-take-le (b - a) (drop a l) (omega (arith, length-drop a l)) in
    let e : 64 * b ≡ 64 * a + 64 * (b - a) = omega arith in
    omega (
      arith,
      ap (λ (x : ℕ). length (members (held part) (64 * x))) long,
      ap length (members_same (held part) (seen (64 * a) (held l)) (64 * (b - a)) in_part),
      members_count (held l) (64 * a) (64 * (b - a)),
      members_onward (held l) (64 * a) (64 * b) (omega arith),
      ap (λ (x : ℕ). length (members (held l) x)) e,
    )
  where
    in_part : (p : ℕ) → p < 64 * (b - a) → held (take (b - a) (drop a l)) p ≡ held l (64 * a + p)
    in_part p q =
        let i : (64 * a + p) / 64 ≡ a + p / 64 = omega arith in
        let r : (64 * a + p) % 64 ≡ p % 64 = omega arith in
        rw (get_or-take (b - a) (drop a l) (p / 64) 0 (omega arith), get_or-drop a l (p / 64) 0, i, r)
