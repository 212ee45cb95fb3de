-- The two areas of a filter, from what is left when its largest buckets are taken out of the blocks. Assumes nothing.
use mathlib.Core.Path.{◌≡◌, sym, ap, ◌∙◌}
use mathlib.Core.Bool.{and-false, ◌&&◌}
use mathlib.Core.List.{List}
use Prim.Native.Nat.{ℕ, ◌+◌, ◌-◌, ◌*◌, ◌/◌, ◌%◌, ◌^◌, ◌≤◌, ◌<◌, min}
use native.Mathlib.Decide.{dec_lt}
use native.Mathlib.Omega.{arith}
use lib.Dec.{ltb}
use lib.ListN.{length, get_or, take, drop, get_or-eq_default}
use lib.Seq.{get_or-take, get_or-drop}
use Rattle.sets.specs.Sets.{Empty, Set, below, members}
use Rattle.sets.specs.Words.{digit, held}
use Rattle.sets.specs.Filter.{boundary, bits_of, top_cells, bit_cells}
use Rattle.sets.proofs.Filters.{held_blocks}
use Rattle.sets.proofs.Laws.{members_gap}
use Rattle.bitvec.specs.Cells.{zeroed}
use Rattle.bitvec.specs.Parts.{Room, Lifted, SplitOf}
use Rattle.bitvec.proofs.Filling.{later_rest, zeroed_is, zeroed_rest, zeroed_tabulate}

-- what stands from the block n on
same_held : (n : ℕ) (xs ys : List ℕ) → drop n xs ≡ drop n ys → (p : ℕ) → 64 * n ≤ p → held xs p ≡ held ys p
unfolding held
same_held n xs ys e p h =
    let i : n + (p / 64 - n) ≡ p / 64 = omega arith in
    ap (λ (x : ℕ). digit x (p % 64))
    (ap (λ (x : ℕ). get_or xs x 0) (sym i)
    ∙ sym (get_or-drop n xs (p / 64 - n) 0)
    ∙ ap (λ (l : List ℕ). get_or l (p / 64 - n) 0) e
    ∙ get_or-drop n ys (p / 64 - n) 0
    ∙ ap (λ (x : ℕ). get_or ys x 0) i)

-- with no bucket from the block n up to the block k, taken out of the first n is taken out of the first k
lifted_more : {m n k : ℕ} {top₀ blocks₀ top blocks : List ℕ} {r : ℕ} → n ≤ k → Empty (held blocks₀) (64 * n) (64 * k)
    → Lifted m n top₀ blocks₀ top blocks r → Lifted m k top₀ blocks₀ top blocks r
lifted_more {m} {n} {k} {top₀} {blocks₀} {top} {blocks} {r} h clear l =
    record {
      count = l.count ∙ ap (λ (x : List ℕ). min m (length x)) e;
      tops = l.tops ∙ ap (take r) e;
      bits = λ p a. go p a (dec_lt p (64 * n));
      top_rest = l.top_rest;
      bit_rest = later_rest n k blocks blocks₀ h l.bit_rest;
      top_length = l.top_length;
      bit_length = l.bit_length;
    }
  where
    S : Set
    S = held blocks₀

    e : members S (64 * n) ≡ members S (64 * k)
    e = sym (members_gap S (64 * n) (64 * k) (omega arith) clear)

    go : (p : ℕ) → p < 64 * k → Dec (p < 64 * n) → held blocks p ≡ bits_of m (64 * k) S p
    go p a (yes b) = l.bits p b ∙ ap (λ (x : List ℕ). below (get_or x (m - 1) 0) S p) e
    go p a (no b) =
        let z = clear p (omega arith) a in
        same_held n blocks blocks₀ l.bit_rest p (omega arith) ∙ z
        ∙ sym (ap (◌&&◌ (ltb p (boundary m (64 * k) S))) z ∙ and-false (ltb p (boundary m (64 * k) S)))

module _ {m n k : ℕ} {top₀ blocks₀ top₁ top blocks : List ℕ} {r : ℕ} (room : Room m k top₀ blocks₀) (h : n ≤ k)
    (clear : Empty (held blocks₀) (64 * n) (64 * k))
    (first : Lifted m n top₀ blocks₀ top₁ blocks r) (z : top ≡ zeroed r m top₁) where
  all : Lifted m k top₀ blocks₀ top₁ blocks r
  all = lifted_more h clear first

  few : r ≤ m
  few = omega (arith, all.count)

  room₁ : m ≤ length top₁
  room₁ = omega (arith, all.top_length, room.cells)

  low : (i : ℕ) → i < r → get_or top₁ i 0 ≡ get_or (members (held blocks₀) (64 * k)) i 0
  low i a =
      sym (get_or-take r top₁ i 0 a)
      ∙ ap (λ (l : List ℕ). get_or l i 0) all.tops
      ∙ get_or-take r (members (held blocks₀) (64 * k)) i 0 a

  high : (i : ℕ) → r ≤ i → i < m → get_or (members (held blocks₀) (64 * k)) i 0 ≡ 0
  high i a b = get_or-eq_default (members (held blocks₀) (64 * k)) 0 (omega (arith, all.count))

  pub areas : ((i : ℕ) → get_or blocks i 0 < 2 ^ 64) → (edge : ℕ) → edge ≡ get_or top (m - 1) 0 → SplitOf m k top₀ blocks₀ top blocks r edge
  unfolding top_cells bit_cells
  areas fit edge e =
      let S : Set = held blocks₀ in
      let E : Set = bits_of m (64 * k) S in
      let f : ℕ → ℕ = λ i. get_or (members S (64 * k)) i 0 in
      record {
        holds = record {
          count_is = all.count;
          edge_is =
              e ∙ ap (λ (l : List ℕ). get_or l (m - 1) 0) z ∙ zeroed_is r m top₁ few room₁ f low high (m - 1) (omega (arith, room.some));
          tops = ap (take m) z ∙ zeroed_tabulate r m top₁ few room₁ f low high;
          bits = held_blocks k blocks E (omega (arith, all.bit_length, room.blocks_in)) fit all.bits;
        };
        top_rest = ap (drop m) z ∙ zeroed_rest r m top₁ few room₁ ∙ all.top_rest;
        bit_rest = all.bit_rest;
      }
