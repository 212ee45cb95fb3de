-- The set of a filter, flipped in its blocks: where its members end, and what `split` then leaves. Assumes nothing.
use mathlib.Core.Path.{◌≡◌, refl, sym, ap, ap₂, ◌∙◌, subst}
use mathlib.Core.Bool.{Bool}
use mathlib.Core.List.{List}
use Prim.Native.Nat.{ℕ, ◌-◌, ◌*◌, ◌^◌, ◌≤◌, ◌<◌}
use native.Mathlib.Decide.{dec_lt}
use native.Mathlib.Omega.{arith}
use lib.ListN.{length, get_or, take, drop, length-take, get_or-eq_default}
use lib.Seq.{get_or-take}
use Rattle.sets.specs.Sets.{Agree, Below, Empty, Set, differ, flips, members, odd}
use Rattle.sets.specs.Words.{held, flip_bits}
use Rattle.sets.specs.Filter.{Holds, boundary, shown}
use Rattle.sets.proofs.Laws.{agree_empty, below_out, differ_assoc, differ_comm, falls_order, odd_past}
use Rattle.sets.proofs.Words.{held_flips, drop_flip_bits, length_flip_bits}
use Rattle.sets.proofs.Filters.{count_fits, fold_back, flips_at, holds_below, holds_same, holds_set, holds_tops}
use Rattle.sets.proofs.Canon.{Canon, canon_holds, holds_canon}
use Rattle.bitvec.specs.Parts.{Becomes, Folded, Room, SplitOf}
use Rattle.diff_count.specs.Making.{Led, UpTo}

-- ---- no member from a bucket on

pub flips_empty : (l : List ℕ) (S : Set) (a b : ℕ) → Below a l → Empty S a b → Empty (flips l S) a b
flips_empty l S a b w e p h i = flips_at l S p ∙ ap₂ differ (odd_past l a p w h) (e p h i)

-- where the m largest members are below b, so are all
pub largest_empty : (S : Set) (m n b : ℕ) → 0 < m → Below b (take m (members S n)) → Empty S b n
largest_empty S m n b z w p h i =
    sym (fold_back S m n p z i)
    ∙ ap₂ differ (odd_past (take m (members S n)) b p w h) (below_out (boundary m n S) S p (go (dec_lt (m - 1) (length (members S n)))))
  where
    go : Dec (m - 1 < length (members S n)) → boundary m n S ≤ p
    go (yes l) = omega (arith, w (m - 1) (omega (arith, length-take m (members S n))), get_or-take m (members S n) (m - 1) 0 (omega arith))
    go (no l) = omega (arith, get_or-eq_default (members S n) 0 {n = m - 1} (omega arith))

-- ---- a filter's top entries

module _ {m k : ℕ} {top bits : List ℕ} {count edge : ℕ} {S : Set} (H : Holds m k top bits count edge S) where
  pub tops_empty : (n : ℕ) → 0 < m → Below (64 * n) (take count top) → Empty S (64 * n) (64 * k)
  tops_empty n z w = largest_empty S m (64 * k) (64 * n) z (subst (Below (64 * n)) (holds_tops H) w)

  pub tops_led : 0 < m → (count ≤ length top) × Led (take count top)
  tops_led z = (count_fits H, λ i h. falls_order (take count top) (64 * k) 0 i (holds_canon z H).falling (omega arith) h)

  pub tops_fit : (blocks : List ℕ) → k ≤ length blocks → Below (64 * length blocks) (take count top)
  tops_fit blocks n i h = omega (arith, holds_below H i h)

-- ---- buckets flipped in blocks

pub flipped_at : (k : ℕ) (blocks bs blocks' : List ℕ) → k ≤ length blocks → Below (64 * k) bs → blocks' ≡ flip_bits blocks bs
    → (p : ℕ) → held blocks' p ≡ differ (odd bs p) (held blocks p)
flipped_at k blocks bs blocks' n w e p =
    ap (λ (l : List ℕ). held l p) e ∙ ap (λ (R : Set). R p) (held_flips k blocks bs n w) ∙ flips_at bs (held blocks) p

pub flipped_rest : (k : ℕ) (blocks bs blocks' : List ℕ) → Below (64 * k) bs → blocks' ≡ flip_bits blocks bs → drop k blocks' ≡ drop k blocks
flipped_rest k blocks bs blocks' w e = ap (drop k) e ∙ drop_flip_bits k blocks bs w

-- the filter of the set that the blocks came to hold
pub becomes : {m k : ℕ} {top₀ bits₁ top bits : List ℕ} {count edge : ℕ} (S : Set) (bits₀ : List ℕ) → Agree (64 * k) (held bits₁) S
    → drop k bits₁ ≡ drop k bits₀
    → SplitOf m k top₀ bits₁ top bits count edge → Becomes m k S top₀ bits₀ top bits count edge
becomes {m} {k} {top₀} {bits₁} S bits₀ g r s =
    record { holds = holds_same m k (held bits₁) S g s.holds; top_rest = s.top_rest; bit_rest = s.bit_rest ∙ r }

-- ---- a list flipped in a filter

differ_swap : (a b x : Bool) → differ a (differ b x) ≡ differ b (differ a x)
differ_swap a b x = sym (differ_assoc a b x) ∙ ap (λ (d : Bool). differ d x) (differ_comm a b) ∙ differ_assoc b a x

module _ {m k : ℕ} {top₀ bits₀ : List ℕ} {count₀ edge₀ : ℕ} {S : Set} (list : List ℕ) (room : Room m k top₀ bits₀)
    (H : Holds m k top₀ bits₀ count₀ edge₀ S)
    (w : Below (64 * k) list) where
  pub fold_fits : (count₀ ≤ length top₀) × (k ≤ length bits₀) × Below (64 * k) (take count₀ top₀)
  fold_fits = (count_fits H, room.blocks_in, holds_below H)

  pub list_fits : (blocks : List ℕ) → length blocks ≡ length bits₀ → Below (64 * length blocks) list
  list_fits blocks n i h = omega (arith, w i h, room.blocks_in)

  module _ {bits₁ bits₂ : List ℕ} (n : length bits₁ ≡ length bits₀) (f : Folded k top₀ count₀ bits₀ bits₁)
      (e : bits₂ ≡ flip_bits bits₁ list) where
    flipped : Agree (64 * k) (held bits₂) (flips list S)
    flipped p h =
        flipped_at k bits₁ list bits₂ (omega (arith, room.blocks_in)) w e p
        ∙ ap (differ (odd list p)) (f.sets m edge₀ S room.some H p h)
        ∙ sym (flips_at list S p)

    pub flip_ends : {n₀ n : ℕ} → UpTo (take count₀ top₀) 0 n₀ → UpTo list n₀ n
        → (n ≤ k) × Empty (held bits₂) (64 * n) (64 * k)
    flip_ends {n₀} {n} u v =
        let t : Below (64 * n) (take count₀ top₀) = λ i h. omega (arith, u.covers i h, v.low) in (
          v.high k (u.high k (omega arith) (holds_below H)) w,
          agree_empty (held bits₂) (flips list S) (64 * n) (64 * k) flipped
              (flips_empty list S (64 * n) (64 * k) v.covers (tops_empty H n room.some t)),
        )

    pub flip_becomes : {top bits : List ℕ} {count edge : ℕ} → SplitOf m k top₀ bits₂ top bits count edge
        → Becomes m k (flips list S) top₀ bits₀ top bits count edge
    flip_becomes s = becomes (flips list S) bits₀ flipped (flipped_rest k bits₁ list bits₂ w e ∙ f.bit_rest) s

  -- where each bucket listed is below the edge, the top list stays
  module _ {bits : List ℕ} (u : Below edge₀ list) (fit : (i : ℕ) → get_or bits i 0 < 2 ^ 64)
      (e : bits ≡ flip_bits bits₀ list) where
    bits_at : (p : ℕ) → held bits p ≡ differ (odd list p) (held bits₀ p)
    bits_at p = flipped_at k bits₀ list bits room.blocks_in w e p

    stays : Holds m k top₀ bits count₀ edge₀ (shown top₀ bits count₀ edge₀)
    stays =
        let C = holds_canon room.some H in
        let D : Canon m k top₀ bits count₀ edge₀ =
        record {
          few = C.few;
          falling = C.falling;
          unused = C.unused;
          edge_is = C.edge_is;
          clear = λ p a b. bits_at p ∙ ap₂ differ (odd_past list edge₀ p u a) (C.clear p a b);
        } in
        canon_holds room.some room.cells D (omega (arith, room.blocks_in, ap length e ∙ length_flip_bits bits₀ list)) fit

    pub bits_become : Becomes m k (flips list S) top₀ bits₀ top₀ bits count₀ edge₀
    bits_become =
        let t : List ℕ = take count₀ top₀ in
        record {
          holds = holds_same m k (shown top₀ bits count₀ edge₀) (flips list S)
              (λ p h. sym (holds_set stays room.some p h)
              ∙ flips_at t (held bits) p
              ∙ ap (differ (odd t p)) (bits_at p)
              ∙ differ_swap (odd t p) (odd list p) (held bits₀ p)
              ∙ ap (differ (odd list p)) (sym (flips_at t (held bits₀) p) ∙ holds_set H room.some p h)
              ∙ sym (flips_at list S p))
              stays;
          top_rest = refl;
          bit_rest = flipped_rest k bits₀ list bits w e;
        }
