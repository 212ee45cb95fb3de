-- Demand 3, sentence by sentence. Assumes nothing.
use mathlib.Core.Path.{◌≡◌, refl, sym, ap, ◌∙◌, subst, subst₂, fun_ext}
use mathlib.Core.Bool.{true}
use mathlib.Core.List.{List, [], ◌++◌}
use mathlib.Core.Logic.{◌↔◌}
use Prim.Native.Nat.{ℕ, ◌≤◌}
use lib.ListN.{length, take, drop}
use lib.Seq.{take_at}
use Rattle.sets.specs.Sets.{Agree, Set, all_below, apart, flips, odd, times}
use Rattle.sets.specs.Configurations.{Config, W, blocks, known, config_at}
use Rattle.sets.specs.Filter.{bit_area, bit_slice, record_of, top_area, top_slice}
use Rattle.sets.specs.Row.{row}
use Rattle.sets.proofs.Areas.{stands_slices}
use Rattle.sets.proofs.Bytes.{Bytes}
use Rattle.sets.proofs.Configurations.{line_at, number_at}
use Rattle.sets.proofs.Filters.{length_bits, length_top}
use Rattle.sets.proofs.Laws.{differ_comm, flips_odd, odd_append, odd_order}
use Rattle.sets.proofs.Tests.{below_first, below_second}
use Rattle.bitvec.proofs.Filling.{filled_rest}
use Rattle.diff_count.specs.Making.{filter_in}
use Rattle.diff_count.specs.Calls.{Differs, Empties, Toggles}
use Rattle.diff_count.specs.declared.Filter.{Filter}
use Rattle.diff_count.proofs.OfSets.{Of, of_set}
use Rattle.diff_count.proofs.Theorems.{InPlace, Lent, difference_step, empty_step, makes_once, toggle_step}
use Rattle.builder.specs.Calls.{Finishes, News, Pushes, raised}
use Rattle.builder.specs.declared.Builder.{Builder}
use Rattle.builder.proofs.Steps.{Ample, Carries, finish_step, new_step, push_step, raise_step}
use Rattle.rows.specs.Calls.{Reads, Writes, open_of}
use Rattle.rows.proofs.Theorems.{HasSet, one_row, open_iff, read_iff, write_set}
use Rattle.sizes.specs.declared.Refusal.{Refusal}
use Rattle.std.specs.Prelude.{Result, Ok}

-- "Take one configuration, any list of buckets in its range, and memory as large as 01 asks."
--
-- The configuration: `known n ≡ true`. The list: `all_below (W (config_at n)) bs ≡ true`. The memory: `Lent` for a filter, `Ample` for a
-- builder. A call is known by its promise alone, and works on the record that was answered last and on the slices as they were left.

-- "Toggle them in any order from the empty filter; or build them from any split 01 allows, raised within 01's range at any time; or cut
-- the list into groups, make a filter of each and combine these by symmetric difference in any order."

-- A builder's run, of the buckets bs, in slices that held p₀ and q₀, up to the answer r and the slices p and q: `Building n p₀ q₀
-- bs r p q`.
-- Finishing does not end it: a builder may be pushed to again and finished again.
pub data Building (n : ℕ) (p₀ q₀ : List ℕ) : List ℕ → Result Builder Refusal → List ℕ → List ℕ → Type 0 where
  begun : {p q : List ℕ} {r : Result Builder Refusal} (split : ℕ) → split ≤ W (config_at n) → Ample n p₀ q₀ → News n split p₀ q₀ r p q
      → Building n p₀ q₀ [] r p q
  pushed : {bs p q p' q' : List ℕ} {b : Builder} {r : Result Builder Refusal} (cs : List ℕ) → Building n p₀ q₀ bs (Ok b) p q
      → Pushes b p q cs r p' q' → Building n p₀ q₀ (bs ++ cs) r p' q'
  split_raised : {bs p q : List ℕ} {b : Builder} {r : Result Builder Refusal} (split : ℕ) → split ≤ W (config_at n)
      → Building n p₀ q₀ bs (Ok b) p q → r ≡ raised b p q split → Building n p₀ q₀ bs r p q

-- A filter's run, of the buckets bs, in slices that held t₀ and b₀, up to the answer r and the slices t and b: `Way n bs t₀ b₀ r
-- t b`. Toggling
-- goes on from any filter, and the difference is that of any two.
pub data Way (n : ℕ) : List ℕ → List ℕ → List ℕ → Result Filter Refusal → List ℕ → List ℕ → Type 0 where
  emptied : {t₀ b₀ t b : List ℕ} {r : Result Filter Refusal} → Lent n t₀ b₀ → Empties n t₀ b₀ r t b → Way n [] t₀ b₀ r t b
  toggled : {bs t₀ b₀ t b t' b' : List ℕ} {f : Filter} {r : Result Filter Refusal} (cs : List ℕ) → Way n bs t₀ b₀ (Ok f) t b
      → Toggles f t b cs r t' b' → Way n (bs ++ cs) t₀ b₀ r t' b'
  finished : {bs p₀ q₀ p q to to_bits t b : List ℕ} {x : Builder} {r : Result Filter Refusal}
      → Building n p₀ q₀ bs (Ok x) p q → Lent n to to_bits → Finishes x p q to to_bits r t b → Way n bs to to_bits r t b
  differed : {bs cs t₀ b₀ t b t₁ b₁ t₂ b₂ to to_bits t' b' : List ℕ} {f g : Filter} {r : Result Filter Refusal}
      → Way n bs t₀ b₀ (Ok f) t b → Way n cs t₁ b₁ (Ok g) t₂ b₂ → Lent n to to_bits → Differs f t b g t₂ b₂ to to_bits r t' b'
      → Way n (bs ++ cs) to to_bits r t' b'

-- "No call is refused, and record, areas and row are the same each time: those of the buckets listed an odd number of times."

odd_flips : (bs cs : List ℕ) → flips cs (odd bs) ≡ odd (bs ++ cs)
odd_flips bs cs = flips_odd cs (odd bs) ∙ fun_ext (λ p. differ_comm (odd cs p) (odd bs p) ∙ sym (odd_append bs cs p))

odd_apart : (bs cs : List ℕ) → apart (odd bs) (odd cs) ≡ odd (bs ++ cs)
odd_apart bs cs = fun_ext (λ p. sym (odd_append bs cs p))

-- No call on the builder is refused, and it holds these buckets.
pub every_building : {n : ℕ} {p₀ q₀ bs p q : List ℕ} {r : Result Builder Refusal} → known n ≡ true → all_below (W (config_at n)) bs ≡ true
    → Building n p₀ q₀ bs r p q → Carries n (odd bs) p₀ q₀ r p q
every_building {n} k w (begun split l L N) = new_step n k split _ _ l L N
every_building {n} {p₀} {q₀} {p = p} {q} {r} k w (pushed {bs} cs X P) =
    subst (λ (S : Set). Carries n S p₀ q₀ r p q) (odd_flips bs cs)
    (push_step n k (odd bs) p₀ q₀ (every_building k (below_first (W (config_at n)) bs cs w) X) cs (below_second (W (config_at n)) bs cs w) P)
every_building {n} {p₀} {q₀} {bs} k w (split_raised split l X e) = raise_step n k (odd bs) p₀ q₀ (every_building k w X) split l e

-- No call is refused, and record and slices are those of these buckets.
pub every_way : {n : ℕ} {bs t₀ b₀ t b : List ℕ} {r : Result Filter Refusal} → known n ≡ true → all_below (W (config_at n)) bs ≡ true
    → Way n bs t₀ b₀ r t b → InPlace n (odd bs) t₀ b₀ r t b
every_way {n} k w (emptied L M) = empty_step n k _ _ L M
every_way {n} {t₀ = t₀} {b₀} {t} {b} {r} k w (toggled {bs} cs X M) =
    subst (λ (S : Set). InPlace n S t₀ b₀ r t b) (odd_flips bs cs)
    (toggle_step n k (odd bs) t₀ b₀ cs (below_second (W (config_at n)) bs cs w) (every_way k (below_first (W (config_at n)) bs cs w) X) M)
every_way {n} {bs} {t₀} {b₀} k w (finished {p₀ = p₀} {q₀} X L F) = finish_step n k (odd bs) p₀ q₀ (every_building k w X) t₀ b₀ L F
every_way {n} {t₀ = t₀} {b₀} {t} {b} {r} k w (differed {bs} {cs} {t₀ = u} {b₀ = a} {t₁ = u₁} {b₁ = a₁} X Y L M) =
    subst (λ (S : Set). InPlace n S t₀ b₀ r t b) (odd_apart bs cs)
    (difference_step n k (odd bs) u a (odd cs) u₁ a₁ t₀ b₀ L (every_way k (below_first (W (config_at n)) bs cs w) X)
    (every_way k (below_second (W (config_at n)) bs cs w) Y) M)

-- what stands in the slices is the record and the areas of S, and what stood past the areas is as it was
pub record Leaves (n : ℕ) (S : Set) (t₀ b₀ : List ℕ) (r : Result Filter Refusal) (t b : List ℕ) : Type 0 where
  pub record_is : r ≡ Ok (filter_in (record_of (config_at n) S))
  pub top_is : take (config_at n).M t ≡ top_area (config_at n) S
  pub bits_are : take (blocks (config_at n)) b ≡ bit_area (config_at n) S
  pub top_rest : drop (config_at n).M t ≡ drop (config_at n).M t₀
  pub bit_rest : drop (blocks (config_at n)) b ≡ drop (blocks (config_at n)) b₀

-- the row of S stands first in the buffer, and what stood behind it is as it was
pub record LeavesRow (n : ℕ) (S : Set) (to : List ℕ) (a : Result ℕ Refusal) (to' : List ℕ) : Type 0 where
  pub length_is : a ≡ Ok (length (row (config_at n) S))
  pub row_is : take (length (row (config_at n) S)) to' ≡ row (config_at n) S
  pub rest : drop (length (row (config_at n) S)) to' ≡ drop (length (row (config_at n) S)) to

module _ {n : ℕ} {S : Set} {t₀ b₀ t b : List ℕ} where
  leaves : {r : Result Filter Refusal} → InPlace n S t₀ b₀ r t b → Leaves n S t₀ b₀ r t b
  leaves P =
      let c : Config = config_at n in
      let H = stands_slices c (line_at n).sound S t₀ b₀ in
      record {
        record_is = P.answers;
        top_is = ap (take c.M) P.tops ∙ H.top_is;
        bits_are = ap (take (blocks c)) P.blocks ∙ H.bits_are;
        top_rest = ap (drop c.M) P.tops ∙ filled_rest (top_area c S) c.M t₀ (length_top c.M (W c) S);
        bit_rest = ap (drop (blocks c)) P.blocks ∙ filled_rest (bit_area c S) (blocks c) b₀ (length_bits c.M (W c) (blocks c) S);
      }

  leaves_row : {f : Filter} → known n ≡ true → InPlace n S t₀ b₀ (Ok f) t b → (to : List ℕ) {a : Result ℕ Refusal} {to' : List ℕ}
      → length (row (config_at n) S) ≤ length to → Writes f t b to a to' → LeavesRow n S to a to'
  unfolding record_of
  leaves_row {f} k P to {a} {to'} l M =
      let c : Config = config_at n in
      let e : f ≡ filter_in (record_of c S) = cc P.answers in
      let o : Of f t b S =
      subst₂ (λ (x y : List ℕ). Of f x y S) (sym P.tops) (sym P.blocks)
      (subst (λ (g : Filter). Of g (top_slice c S t₀) (bit_slice c S b₀) S) (sym e) (of_set n k S t₀ b₀)) in
      let i : f.config ≡ n = ap (λ (g : Filter). g.config) e ∙ number_at n k in
      subst (λ (m : ℕ). length (row (config_at m) S) ≤ length to → LeavesRow m S to a to') i
      (λ h.
      let R = write_set f t b S o to h M in
      let bytes : List ℕ = row (config_at f.config) S in
      record {
        length_is = R.0;
        row_is = ap (take (length bytes)) R.1 ∙ take_at bytes (drop (length bytes) to) (length bytes) refl;
        rest = ap (drop (length bytes)) R.1 ∙ filled_rest bytes (length bytes) to refl;
      })
      l

-- The record and the areas are theirs; and so is the row, in a buffer that is long enough.
module _ {n : ℕ} {bs t₀ b₀ t b : List ℕ} (k : known n ≡ true) (w : all_below (W (config_at n)) bs ≡ true) where
  pub the_areas : {r : Result Filter Refusal} → Way n bs t₀ b₀ r t b → Leaves n (odd bs) t₀ b₀ r t b
  the_areas X = leaves (every_way k w X)

  pub the_row : {f : Filter} → Way n bs t₀ b₀ (Ok f) t b → (to : List ℕ) {a : Result ℕ Refusal} {to' : List ℕ}
      → length (row (config_at n) (odd bs)) ≤ length to → Writes f t b to a to' → LeavesRow n (odd bs) to a to'
  the_row X to l M = leaves_row k (every_way k w X) to l M

-- So they are the same each time: for two ways of lists that have each bucket as often, in whatever order, groups and memory.
module _ (n : ℕ) (k : known n ≡ true) (bs cs : List ℕ) (v : all_below (W (config_at n)) bs ≡ true) (w : all_below (W (config_at n)) cs ≡ true)
    (e : (p : ℕ) → times bs p ≡ times cs p) where
  other_way : {t₁ b₁ t' b' : List ℕ} {r : Result Filter Refusal} → Way n cs t₁ b₁ r t' b' → InPlace n (odd bs) t₁ b₁ r t' b'
  other_way {t₁} {b₁} {t'} {b'} {r} Y = subst (λ (S : Set). InPlace n S t₁ b₁ r t' b') (sym (odd_order bs cs e)) (every_way k w Y)

  module _ {t₀ b₀ t b t₁ b₁ t' b' : List ℕ} where
    pub same_each_time : {r r' : Result Filter Refusal} → Way n bs t₀ b₀ r t b → Way n cs t₁ b₁ r' t' b'
        → (r ≡ r') × (take (config_at n).M t ≡ take (config_at n).M t') × (take (blocks (config_at n)) b ≡ take (blocks (config_at n)) b')
    same_each_time X Y =
        let P = the_areas k v X in
        let Q = leaves (other_way Y) in
        (P.record_is ∙ sym Q.record_is, P.top_is ∙ sym Q.top_is, P.bits_are ∙ sym Q.bits_are)

    pub same_row : {f g : Filter} → Way n bs t₀ b₀ (Ok f) t b → Way n cs t₁ b₁ (Ok g) t' b'
        → (to to₁ : List ℕ) {a a' : Result ℕ Refusal} {x y : List ℕ} →
        let size = length (row (config_at n) (odd bs)) in
        size ≤ length to → size ≤ length to₁ → Writes f t b to a x → Writes g t' b' to₁ a' y → (a ≡ a') × (take size x ≡ take size y)
    same_row X Y to to₁ l l₁ M N =
        let P = the_row k v X to l M in
        let Q = leaves_row k (other_way Y) to₁ l₁ N in
        (P.length_is ∙ sym Q.length_is, P.row_is ∙ sym Q.row_is)

  -- in the same memory the whole slices are
  pub any_order : {t₀ b₀ t b t' b' : List ℕ} {r r' : Result Filter Refusal} → Way n bs t₀ b₀ r t b → Way n cs t₀ b₀ r' t' b' → (r ≡ r') × (t ≡ t') × (b ≡ b')
  any_order X Y = makes_once (every_way k v X) (other_way Y)

-- a way ends with a record, from which the next call goes on
answered : {n : ℕ} {bs t₀ b₀ t b : List ℕ} {r : Result Filter Refusal} → known n ≡ true → all_below (W (config_at n)) bs ≡ true → Way n bs t₀ b₀ r t b
    → Way n bs t₀ b₀ (Ok (filter_in (record_of (config_at n) (odd bs)))) t b
answered {n} {bs} {t₀} {b₀} {t} {b} k w X = subst (λ (r : Result Filter Refusal). Way n bs t₀ b₀ r t b) (every_way k w X).answers X

-- There is a way for every list, in slices that are long enough: toggled from the empty filter. That a push has an outcome that its promise
-- allows is what the proof of `push` shows; the other calls on builders promise equations.
pub some_way : (n : ℕ) → known n ≡ true → (bs t₀ b₀ : List ℕ) → Lent n t₀ b₀
    → (r : Result Filter Refusal) × (t : List ℕ) × (b : List ℕ) × Way n bs t₀ b₀ r t b
some_way n k bs t₀ b₀ L =
    let E : Way n [] t₀ b₀ _ _ _ = emptied L (record { answers = refl; tops = refl; blocks = refl }) in
    (_, _, _, toggled bs (answered k refl E) (record { answers = refl; tops = refl; blocks = refl }))

-- "A row is accepted exactly when some set of buckets in range has it, and no two sets share one."

-- opening it
pub accepted_exactly : (n : ℕ) (bs : List ℕ) → Bytes bs → ((size : ℕ) × (open_of n bs ≡ Ok size)) ↔ ((known n ≡ true) × HasSet n bs)
accepted_exactly n bs d = open_iff n bs d

-- reading it, in slices that are long enough
pub read_exactly : (n : ℕ) (bs top bits : List ℕ) → Bytes bs → {r : Result Filter Refusal} {t b : List ℕ} → Reads n bs top bits r t b
    → ((f : Filter) × (r ≡ Ok f)) ↔ ((known n ≡ true) × Lent n top bits × HasSet n bs)
read_exactly n bs top bits d R = read_iff n bs top bits d R

pub one_set : (n : ℕ) (S T : Set) → row (config_at n) S ≡ row (config_at n) T → Agree (W (config_at n)) S T
one_set n S T e = one_row n S T e
