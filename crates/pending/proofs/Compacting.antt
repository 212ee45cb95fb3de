-- The pending area compacted: its buckets go into the blocks, and those at or above the split are taken out again. Assumes nothing.
use mathlib.Core.Path.{◌≡◌, refl, sym, ap, ap₂, ◌∙◌, subst}
use mathlib.Core.Bool.{Bool, true, false}
use mathlib.Core.List.{List, []}
use Prim.Native.Nat.{ℕ, suc, ◌*◌, ◌≤◌, ◌<◌}
use native.Mathlib.Decide.{dec_lt}
use native.Mathlib.Omega.{arith}
use lib.ListN.{length, take, drop}
use Rattle.sets.specs.Sets.{Agree, Below, Empty, Set, below, differ, flips, members, odd, onward}
use Rattle.sets.specs.Words.{held, flip_bits}
use Rattle.sets.specs.Filter.{boundary, builder_set}
use Rattle.sets.proofs.Laws.{below_in, below_out, falls_at, member_more, members_fall}
use Rattle.sets.proofs.Counts.{full_rest, members_mono, members_onward}
use Rattle.sets.proofs.Filters.{flips_at, fold_back}
use Rattle.sets.proofs.Lists.{below_take}
use Rattle.sets.proofs.Words.{drop_flip_bits, held_flips, length_flip_bits}
use Rattle.bitvec.specs.Cells.{Zeros, zeroed}
use Rattle.bitvec.specs.Parts.{Lifted, Room}
use Rattle.bitvec.proofs.Filling.{later_rest, length_zeroed, zeroed_first, zeroed_rest, zeroed_zero}
use Rattle.pending.specs.Stages.{Moves, Settled, Staged}
use Rattle.pending.specs.declared.Stage.{Stage}

-- where no more members are below e than below b, none stands between
none_more : (S : Set) (b e : ℕ) → length (members S e) ≤ length (members S b) → Empty S b e
none_more S b e f p a h = go (S p) refl
  where
    go : (x : Bool) → S p ≡ x → S p ≡ false
    go false s = s
    go true s = absurd (omega (arith, member_more S p s, members_mono S b p a, members_mono S (suc p) e h))

-- where c members stand at or above b, none of these is below the c-th largest
cut_clear : (S : Set) (b n c : ℕ) → b ≤ n → 0 < c → c ≡ length (members (onward b S) n) → Empty (below (boundary c n S) S) b n
cut_clear S b n c l z e p a h = go (dec_lt p edge)
  where
    edge : ℕ
    edge = boundary c n S

    go : Dec (p < edge) → below edge S p ≡ false
    go (yes k) = below_in edge S p k ∙ none_more S b edge (omega (arith, full_rest c n S z, members_onward S b n l)) p a k
    go (no k) = below_out edge S p (omega arith)

-- The c buckets at or above the split stand in the first c cells, and the blocks have the others left.
pub record Taken (k split c : ℕ) (pending₀ bits₀ pending bits : List ℕ) : Type 0 where
  pub in_range : Below (64 * k) (take c pending)
  pub clear : Empty (held bits) split (64 * k)
  pub sets : Agree (64 * k) (builder_set pending bits c) (held bits₀)
  pub pending_rest : drop c pending ≡ drop c pending₀
  pub bit_rest : drop k bits ≡ drop k bits₀
  pub pending_length : length pending ≡ length pending₀
  pub bit_length : length bits ≡ length bits₀

module _ {m k level : ℕ} {bits₀ : List ℕ} {split : ℕ} {next : Stage} (s : Settled m k level bits₀ split next) where
  -- where there are none
  pub take_none : (pending : List ℕ) → next.count ≤ 0 → Taken k next.split next.count pending bits₀ pending bits₀
  take_none pending z =
      let none : 0 ≡ next.count = omega arith in
      subst (λ (c : ℕ). Taken k next.split c pending bits₀ pending bits₀) none
      record {
        in_range = λ i h. absurd (omega arith);
        clear =
            none_more (held bits₀) next.split (64 * k)
            (omega (arith, s.counts, members_onward (held bits₀) next.split (64 * k) s.low));
        sets = λ p h. refl;
        pending_rest = refl;
        bit_rest = refl;
        pending_length = refl;
        bit_length = refl;
      }

  -- where there are some
  pub take_some : {pending₀ pending bits : List ℕ} {r : ℕ} → 0 < next.count → Lifted next.count k pending₀ bits₀ pending bits r
      → Taken k next.split next.count pending₀ bits₀ pending bits
  take_some {pending₀} {pending} {bits} {r} z l =
      record {
        in_range = subst (Below n) (sym tops) (below_take c (members S n) n (λ i h. falls_at (members S n) n i (members_fall S n) h));
        clear = λ p a h. l.bits p h ∙ cut_clear S next.split n c s.low z s.counts p a h;
        sets = λ p h.
            flips_at (take c pending) (held bits) p
            ∙ ap₂ differ (ap (λ (x : List ℕ). odd x p) tops) (l.bits p h)
            ∙ fold_back S c n p z h;
        pending_rest = l.top_rest;
        bit_rest = l.bit_rest;
        pending_length = l.top_length;
        bit_length = l.bit_length;
      }
    where
      n : ℕ
      n = 64 * k

      S : Set
      S = held bits₀

      c : ℕ
      c = next.count

      all : r ≡ c
      all = omega (arith, l.count, s.counts, members_onward S next.split n s.low)

      tops : take c pending ≡ take c (members S n)
      tops = subst (λ (x : ℕ). take x pending ≡ take x (members S n)) all l.tops

module _ {m k : ℕ} {pending₀ bits₀ : List ℕ} {stage : Stage} (room : Room (2 * m) k pending₀ bits₀)
    (staged : Staged m k pending₀ bits₀ stage) where
  -- the blocks have room for the buckets pending
  pub fold_fits : Below (64 * length bits₀) (take stage.count pending₀)
  fold_fits i h = omega (arith, staged.in_range i h, room.blocks_in)

  module _ {level : ℕ} {bits₁ pending₁ bits : List ℕ} {next : Stage} (folded : bits₁ ≡ flip_bits bits₀ (take stage.count pending₀))
      (s : Settled m k level bits₁ stage.split next) (t : Taken k next.split next.count pending₀ bits₁ pending₁ bits) where
    few : next.count ≤ 2 * m
    few = omega (arith, s.few)

    fits : 2 * m ≤ length pending₁
    fits = omega (arith, t.pending_length, room.cells)

    pub compacted : {pending : List ℕ} → pending ≡ zeroed next.count (2 * m) pending₁
        → Moves m k level [] pending₀ bits₀ stage pending bits next × (next.count ≤ m)
    compacted {pending} z = (moves, s.few)
      where
        c : ℕ
        c = next.count

        flipped : List ℕ
        flipped = take stage.count pending₀

        first : take c pending ≡ take c pending₁
        first = ap (take c) z ∙ zeroed_first c (2 * m) pending₁ few fits

        moves : Moves m k level [] pending₀ bits₀ stage pending bits next
        moves =
            record {
              staged = record {
                few = few;
                in_range = subst (Below (64 * k)) (sym first) t.in_range;
                low = s.low;
                clear = t.clear;
                unused = subst (Zeros c (2 * m)) (sym z) (zeroed_zero c (2 * m) pending₁ few fits);
              };
              sets = λ p h.
                  ap (λ (l : List ℕ). flips l (held bits) p) first
                  ∙ t.sets p h
                  ∙ ap (λ (R : Set). R p) (ap held folded ∙ held_flips k bits₀ flipped room.blocks_in staged.in_range);
              rises = s.rises;
              pending_rest = ap (drop (2 * m)) z
                  ∙ zeroed_rest c (2 * m) pending₁ few fits
                  ∙ later_rest c (2 * m) pending₁ pending₀ few t.pending_rest;
              bit_rest = t.bit_rest ∙ ap (drop k) folded ∙ drop_flip_bits k bits₀ flipped staged.in_range;
              pending_length = ap length z ∙ length_zeroed c (2 * m) pending₁ few fits ∙ t.pending_length;
              bit_length = t.bit_length ∙ ap length folded ∙ length_flip_bits bits₀ flipped;
            }
