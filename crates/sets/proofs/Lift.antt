-- The largest members of a set, taken out of it one by one from the top. Assumes nothing.
use mathlib.Core.Path.{◌≡◌, refl, sym, ap, ◌∙◌}
use mathlib.Core.Bool.{true, false, true≢false}
use mathlib.Core.List.{List, [], ◌∷◌, ◌++◌, append_assoc, append-nil}
use Prim.Native.Nat.{ℕ, suc, ◌-◌, ◌≤◌, ◌<◌}
use native.Mathlib.Decide.{dec_lt, ℕ_discrete}
use native.Mathlib.Omega.{arith}
use lib.ListN.{length, get_or, length-append, get_or-append, get_or-eq_default}
use lib.Seq.{get_or-append_seam}
use Rattle.sets.specs.Sets.{Set, below, differ, flip, members}
use Rattle.sets.specs.Filter.{boundary}
use Rattle.sets.proofs.Laws.{flip_at, flip_other, below_in, below_out, members_head, members_none}

-- Of the members of S below n, those of the list `tops` are taken out, all that stand from `edge` on, and R is what is left.
pub record Lifting (S : Set) (n : ℕ) (tops : List ℕ) (R : Set) (edge : ℕ) : Type 0 where
  pub within : edge ≤ n
  pub taken : members S n ≡ tops ++ members S edge
  pub last : (j : ℕ) → suc j ≡ length tops → get_or tops j 0 ≡ edge
  pub left : (p : ℕ) → p < n → R p ≡ below edge S p

pub lift_none : (S : Set) (n : ℕ) → Lifting S n [] S n
lift_none S n =
    record { within = omega arith; taken = refl; last = λ j h. absurd (omega arith); left = λ p h. sym (below_in n S p h) }

module _ {S : Set} {n : ℕ} {tops : List ℕ} {R : Set} {edge : ℕ} (L : Lifting S n tops R edge) where
  -- a member that is left stands below the edge
  left_below : (p : ℕ) → p < n → R p ≡ true → p < edge
  left_below p h r = go (dec_lt p edge)
    where
      go : Dec (p < edge) → p < edge
      go (yes l) = l
      go (no l) = absurd (true≢false (sym r ∙ L.left p h ∙ below_out edge S p (omega arith)))

  -- the largest member that is left is the next
  module _ (p e : ℕ) (en : e ≤ n) (ed : edge ≤ e) (small : p < e) (is_in : R p ≡ true) (above : (q : ℕ) → p < q → q < e → R q ≡ false) where
    pe : p < edge
    pe = left_below p (omega arith) is_in

    gone : (q : ℕ) → p < q → q < edge → S q ≡ false
    gone q a b = sym (below_in edge S q b) ∙ sym (L.left q (omega (arith, L.within))) ∙ above q a (omega arith)

    next : members S edge ≡ p ∷ members S p
    next = members_head S p edge pe (sym (below_in edge S p pe) ∙ sym (L.left p (omega (arith, L.within))) ∙ is_in) gone

    still : (q : ℕ) → q < n → flip p R q ≡ below p S q
    still q h = go (ℕ_discrete q p) (dec_lt q p) (dec_lt q e)
      where
        go : Dec (q ≡ p) → Dec (q < p) → Dec (q < e) → flip p R q ≡ below p S q
        go (yes k) d f =
            ap (flip p R) k ∙ flip_at p R ∙ ap (differ true) is_in ∙ sym (below_out p S q (omega arith))
        go (no k) (yes l) f =
            flip_other p R q k ∙ L.left q h ∙ below_in edge S q (omega (arith, pe)) ∙ sym (below_in p S q l)
        go (no k) (no l) (yes f) = flip_other p R q k ∙ above q (omega arith) f ∙ sym (below_out p S q (omega arith))
        go (no k) (no l) (no f) =
            flip_other p R q k ∙ L.left q h ∙ below_out edge S q (omega arith) ∙ sym (below_out p S q (omega arith))

    pub lift_next : Lifting S n (tops ++ (p ∷ [])) (flip p R) p
    lift_next =
        record {
          within = omega arith;
          taken = L.taken ∙ ap (λ (l : List ℕ). tops ++ l) next ∙ sym (append_assoc tops (p ∷ []) (members S p));
          last = λ j h.
              let e : j ≡ length tops = omega (arith, length-append tops (p ∷ [])) in
              ap (λ (i : ℕ). get_or (tops ++ (p ∷ [])) i 0) e ∙ get_or-append_seam tops p [] 0;
          left = still;
        }

  -- the members from the top on are those taken out
  pub taken_at : (i : ℕ) → i < length tops → get_or (members S n) i 0 ≡ get_or tops i 0
  taken_at i h = ap (λ (l : List ℕ). get_or l i 0) L.taken ∙ get_or-append tops (members S edge) 0 i h

  -- with m taken out, what is left is what stands below the m-th largest
  pub lift_full : (m : ℕ) → 0 < m → length tops ≡ m → (p : ℕ) → p < n → R p ≡ below (boundary m n S) S p
  lift_full m z e p h =
      let k : edge ≡ boundary m n S = sym (taken_at (m - 1) (omega arith) ∙ L.last (m - 1) (omega arith)) in
      L.left p h ∙ ap (λ (x : ℕ). below x S p) k

  -- with nothing left below e, all are taken out
  module _ (e : ℕ) (en : e ≤ n) (ed : edge ≤ e) (void : (q : ℕ) → q < e → R q ≡ false) where
    pub lift_all : members S n ≡ tops
    lift_all =
        L.taken
        ∙ ap (λ (l : List ℕ). tops ++ l)
        (members_none S edge (λ q h. sym (below_in edge S q h) ∙ sym (L.left q (omega (arith, L.within))) ∙ void q (omega arith)))
        ∙ append-nil tops

    pub lift_empty : (m : ℕ) → length tops < m → (p : ℕ) → p < n → R p ≡ below (boundary m n S) S p
    lift_empty m l p h =
        let k : boundary m n S ≡ 0 = ap (λ (t : List ℕ). get_or t (m - 1) 0) lift_all ∙ get_or-eq_default tops 0 (omega arith) in
        go (dec_lt p e) ∙ sym (ap (λ (x : ℕ). below x S p) k ∙ below_out 0 S p (omega arith))
      where
        go : Dec (p < e) → R p ≡ false
        go (yes a) = void p a
        go (no a) = L.left p h ∙ below_out edge S p (omega arith)
