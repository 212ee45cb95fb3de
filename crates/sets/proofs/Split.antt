-- A set split at its m largest members: the list of these, and what stands below the edge. Assumes nothing.
use mathlib.Core.Path.{◌≡◌, sym, ap, ◌∙◌}
use mathlib.Core.Bool.{Bool, ◌||◌}
use mathlib.Core.List.{List, ◌++◌, append-nil}
use Prim.Native.Nat.{ℕ, ◌-◌, ◌≤◌, ◌<◌}
use native.Mathlib.Decide.{dec_lt}
use native.Mathlib.Omega.{arith}
use lib.ListN.{length, get_or, take, drop, length-take, take-append-drop, get_or-eq_default}
use lib.Seq.{get_or-take, take_all, take_at}
use Rattle.sets.specs.Sets.{Empty, Falls, Set, among, below, members}
use Rattle.sets.specs.Filter.{boundary, joined}
use Rattle.sets.proofs.Laws.{members_fall, members_unique, falls_take, falls_room, falls_order, falls_append, below_in, below_out}
use Rattle.sets.proofs.Laws.{below_same}
use Rattle.sets.proofs.Filters.{drop_edge}
use Rattle.sets.proofs.Tests.{among_append, falls_among, members_among, among_under}

-- the m largest members of a set of buckets below n, or all if fewer, and its boundary
pub record Split (m n : ℕ) (xs : List ℕ) (edge : ℕ) : Type 0 where
  pub few : length xs ≤ m
  pub falling : Falls n xs
  pub edge_is : edge ≡ get_or xs (m - 1) 0

module _ (m n : ℕ) (z : 0 < m) (S : Set) where
  pub set_split : Split m n (take m (members S n)) (boundary m n S)
  set_split =
      record {
        few = omega (arith, length-take m (members S n));
        falling = falls_take (members S n) n m (members_fall S n);
        edge_is = sym (get_or-take m (members S n) (m - 1) 0 (omega arith));
      }

  -- a set is joined of its parts
  pub joined_set : (R : Set) (p : ℕ) → ((q : ℕ) → q < boundary m n S → R q ≡ S q) → p < n
      → joined (take m (members S n)) (boundary m n S) R p ≡ S p
  joined_set R p a h =
      let l : List ℕ = members S n in
      let e : ℕ = boundary m n S in
      ap (◌||◌ (among (take m l) p)) (below_same e R S a p ∙ sym (members_among S e p)
      ∙ ap (λ (x : List ℕ). among x p) (sym (drop_edge S m n z)))
      ∙ sym (among_append (take m l) (drop m l) p)
      ∙ ap (λ (x : List ℕ). among x p) (take-append-drop m l)
      ∙ members_among S n p
      ∙ below_in n S p h

module _ {m n : ℕ} {xs : List ℕ} {edge : ℕ} (z : 0 < m) (C : Split m n xs edge) where
  -- the list is full, or the boundary is 0
  pub split_full : {P : Type 0} → (length xs ≡ m → P) → (length xs < m → edge ≡ 0 → P) → P
  split_full {P} f g = go (dec_lt (length xs) m)
    where
      go : Dec (length xs < m) → P
      go (yes l) = g l (C.edge_is ∙ get_or-eq_default xs 0 {n = m - 1} (omega arith))
      go (no l) = f (omega (arith, C.few))

  pub edge_low : edge ≤ n
  edge_low = split_full (λ e. omega (arith, C.edge_is, falls_room xs n (m - 1) C.falling (omega arith))) (λ l e. omega arith)

  edge_under : (i : ℕ) → i < length xs → edge ≤ get_or xs i 0
  edge_under i h =
      split_full (λ e. omega (arith, C.edge_is, falls_order xs n i (m - 1) C.falling (omega arith) (omega arith))) (λ l e. omega arith)

  pub joined_members : (R : Set) → members (joined xs edge R) n ≡ xs ++ members R edge
  joined_members R =
      let ys : List ℕ = members R edge in
      let f : Falls n (xs ++ ys) = falls_append xs ys n edge C.falling edge_low edge_under (members_fall R edge) in
      sym (members_unique (xs ++ ys) (joined xs edge R) n f
      (λ p h. sym (falls_among (xs ++ ys) n p f) ∙ among_append xs ys p ∙ ap (◌||◌ (among xs p)) (members_among R edge p)))

  -- and the parts are those of the set joined
  pub joined_top : (R : Set) → take m (members (joined xs edge R) n) ≡ xs
  unfolding members
  joined_top R =
      ap (take m) (joined_members R)
      ∙ split_full
      {P = take m (xs ++ members R edge) ≡ xs}
      (λ e. take_at xs (members R edge) m e)
      (λ l e. ap (λ (x : ℕ). take m (xs ++ members R x)) e ∙ ap (take m) (append-nil xs) ∙ take_all m xs C.few)

  pub joined_edge : (R : Set) → boundary m n (joined xs edge R) ≡ edge
  joined_edge R =
      sym (get_or-take m (members (joined xs edge R) n) (m - 1) 0 (omega arith))
      ∙ ap (λ (l : List ℕ). get_or l (m - 1) 0) (joined_top R)
      ∙ sym C.edge_is

  pub joined_bit : (R : Set) (b : ℕ) → Empty R edge b → (p : ℕ) → p < b → R p ≡ below edge (joined xs edge R) p
  joined_bit R b clear p h = go (dec_lt p edge)
    where
      go : Dec (p < edge) → R p ≡ below edge (joined xs edge R) p
      go (yes l) =
          sym (below_in edge R p l)
          ∙ ap (λ (t : Bool). t || below edge R p) (sym (among_under xs edge p edge_under l))
          ∙ sym (below_in edge (joined xs edge R) p l)
      go (no l) = clear p (omega arith) h ∙ sym (below_out edge (joined xs edge R) p (omega arith))
