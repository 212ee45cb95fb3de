-- The members of the xor of two walks, counted block by block. Assumes nothing.
use mathlib.Core.Path.{◌≡◌, refl, sym, ap, ◌∙◌}
use mathlib.Core.Bool.{Bool, false, cond, ◌&&◌}
use mathlib.Core.List.{List}
use Prim.Native.Nat.{ℕ, suc, ◌+◌, ◌-◌, ◌*◌, ◌%◌, ◌≤◌, ◌<◌}
use native.Mathlib.Decide.{dec_lt}
use native.Mathlib.Omega.{arith}
use lib.Count.{ones}
use lib.Dec.{eqb, leb}
use lib.ListN.{length}
use borrow.Author.Tests.{le-leb}
use Rattle.sets.specs.Sets.{Empty, Set, apart, members, onward}
use Rattle.sets.specs.Configurations.{blocks_for}
use Rattle.sets.specs.Filter.{exact_count, last_entry, low, limited_count}
use Rattle.sets.proofs.Laws.{members_count, members_gap, members_length, members_none, onward_in, onward_out}
use Rattle.sets.proofs.Counts.{members_onward, limited_few, limited_is_lem, onward_all}
use Rattle.sets.proofs.Words.{ones_word, seen, word_same}
use Rattle.bitchunks.proofs.Counts.{last_blocks, last_near, limited_of_lem}
use Rattle.bitchunks.specs.Walk.{Ahead}
use Rattle.bitchunks.specs.Xor.{Crossed}
use Rattle.bitchunks.specs.Counts.{FullAt, LimitedTo}

-- ---- the loop

-- of the members in the blocks from `floor` up and below k, those in the blocks from `end` up are counted
pub record Total (S R : Set) (floor : ℕ) (tops others : List ℕ) (k total passed other end : ℕ) : Type 0 where
  pub within : end ≤ k
  pub are : total + length (members (onward (64 * floor) (apart S R)) (64 * end))
      ≡ length (members (onward (64 * floor) (apart S R)) (64 * k))
  pub ahead : Ahead tops passed end
  pub other_ahead : Ahead others other end

module _ {S R : Set} {floor : ℕ} {tops others : List ℕ} {k total passed other end : ℕ}
    (t : Total S R floor tops others k total passed other end) where
  pub total_few : total ≤ 64 * k
  total_few = omega (arith, t.are, members_length (onward (64 * floor) (apart S R)) (64 * k))

  -- no member is left from the block a up, which is the floor or below it
  pub total_end : (a : ℕ) → a ≤ floor → Empty (apart S R) (64 * a) (64 * end)
      → total ≡ length (members (onward (64 * floor) (apart S R)) (64 * k))
  total_end a h g =
      omega (arith, t.are, ap length (members_none (onward (64 * floor) (apart S R)) (64 * end) (λ b l. go b l (dec_lt b (64 * floor)))))
    where
      go : (b : ℕ) → b < 64 * end → Dec (b < 64 * floor) → onward (64 * floor) (apart S R) b ≡ false
      go b l (yes u) = onward_out (64 * floor) (apart S R) b u
      go b l (no u) = onward_in (64 * floor) (apart S R) b (omega arith) ∙ g b (omega arith) l

  pub total_turn : {i block first p q : ℕ} (r : ℕ) → Crossed S R tops others end i block first p q → floor ≤ i → r ≡ ones block
      → Total S R floor tops others k (total + r) p q i
  total_turn {i} r x h e =
      let E : Set = onward (64 * floor) (apart S R) in
      let s : 64 * suc i ≡ 64 * i + 64 = omega arith in
      let w : r ≡ length (members (seen (64 * i) E) 64) =
      e ∙ ap ones (x.is
      ∙ word_same (apart S R) E (64 * i) 64 (λ j l. sym (onward_in (64 * floor) (apart S R) (64 * i + j) (omega arith))))
      ∙ ones_word E (64 * i) 64 in
      let c : length (members E (64 * end)) ≡ length (members E (64 * i)) + r =
      ap length (members_gap E (64 * suc i) (64 * end) (omega (arith, x.under))
      (λ b u l. onward_in (64 * floor) (apart S R) b (omega arith) ∙ x.gap b u l))
      ∙ ap (λ (y : ℕ). length (members E y)) s ∙ members_count E (64 * i) 64 ∙ ap (◌+◌ (length (members E (64 * i)))) (sym w) in
      record {
        within = omega (arith, x.under, t.within);
        are = omega (arith, t.are);
        ahead = x.ahead;
        other_ahead = x.other_ahead;
      }

-- ---- until m members are met

module _ {S R : Set} {tops others : List ℕ} {k total passed other end : ℕ} (t : Total S R 0 tops others k total passed other end) where
  all_are : total + length (members (apart S R) (64 * end)) ≡ length (members (apart S R) (64 * k))
  all_are = omega (arith, t.are, onward_all (apart S R) (64 * end), onward_all (apart S R) (64 * k))

  pub first_few : {m : ℕ} → total < m → Empty (apart S R) 0 (64 * end) → (total ≡ exact_count (64 * k) (apart S R)) × (total < m)
  first_few l h = (total_end t 0 (omega arith) h ∙ onward_all (apart S R) (64 * k), l)

-- the block i is the first with which the members are m
pub first_full : {S R : Set} {tops others : List ℕ} {k m total passed other end i block first p q : ℕ} (r upper : ℕ)
    → Total S R 0 tops others k total passed other end → total < m → Crossed S R tops others end i block first p q → r
    ≡ ones block → m ≤ total + r
    → upper ≡ cond (eqb (total + r) m && eqb (block % 2) 1) i (i + 1) → FullAt S R tops others k m (total + r) upper p q i
first_full {S} {R} {k = k} {m = m} {total = total} {end = end} {i = i} {block = block} r upper t l x e h eu =
    let D : Set = apart S R in
    let z : 0 < m = omega arith in
    let T = total_turn t r x (omega arith) e in
    let f : m ≤ length (members D (64 * k)) = omega (arith, all_are T) in
    let u : length (members D (64 * k)) < m + length (members D (64 * suc i)) =
    omega (arith, all_are t, ap length (members_gap D (64 * suc i) (64 * end) (omega (arith, x.under)) x.gap)) in
    let q : upper ≡ blocks_for (last_entry m (64 * k) D) =
    last_blocks D m (64 * k) z f i (total + r) (all_are T) h u block upper x.is eu in
    record {
      under = omega (arith, x.under, t.within);
      total_is = omega (arith, all_are T, members_onward D (64 * i) (64 * k) (omega (arith, T.within)));
      upper_is = q;
      near = omega (arith, last_near D m (64 * k) z f i (total + r) (all_are T) h u);
      ahead = x.ahead;
      other_ahead = x.other_ahead;
    }

-- ---- the limited count

module _ {S R : Set} {tops others : List ℕ} {k m total upper passed other end : ℕ}
    (F : FullAt S R tops others k m total upper passed other end)
    (window : ℕ) (z : 1 ≤ m) (w : 1 ≤ window) (lo rest : ℕ) (el : lo ≡ upper - window)
    (er : rest ≡ length (members (onward (64 * lo) (apart S R)) (64 * end))) where
  all_is : total + rest ≡ length (members (onward (64 * lo) (apart S R)) (64 * k))
  all_is =
      let D : Set = apart S R in
      let h : lo ≤ end = omega (arith, F.near) in
      omega (
        arith,
        F.total_is,
        members_onward D (64 * end) (64 * k) (omega (arith, F.under)),
        members_onward D (64 * lo) (64 * end) (omega arith),
        members_onward D (64 * lo) (64 * k) (omega (arith, F.under)),
      )

  pub all_few : total + rest ≤ 64 * k
  all_few = omega (arith, all_is, members_length (onward (64 * lo) (apart S R)) (64 * k))

  pub full_limited : (bound : ℕ) → bound ≡ cond (leb (total + rest) m) 0 (64 * lo)
      → LimitedTo m (64 * k) window (apart S R) (total + rest) bound
  unfolding low
  full_limited bound eb =
      let D : Set = apart S R in
      let g : lo ≡ low m (64 * k) window D = el ∙ ap (λ (x : ℕ). x - window) F.upper_is in
      limited_of_lem (all_is ∙ ap (λ (x : ℕ). length (members (onward (64 * x) D) (64 * k))) g ∙ sym (limited_is_lem m (64 * k) D z window w)) g eb

pub few_limited : {m n window total : ℕ} {S : Set} → 1 ≤ m → 1 ≤ window → (total ≡ exact_count n S) × (total < m)
    → LimitedTo m n window S total 0
few_limited {m} {n} {window} {total} {S} z w f =
    let c : total ≡ limited_count m n window S = f.0 ∙ sym (limited_few m n S z window w (omega (arith, f.0, f.1))) in
    limited_of_lem c refl (sym (ap (λ (b : Bool). cond b 0 (64 * low m n window S)) (le-leb total m (omega (arith, f.1)))))
