-- The tests that compute, and the facts that they tell. Assumes nothing.
use mathlib.Core.Path.{◌≡◌, refl, sym, ap, ap₂, ◌∙◌}
use mathlib.Core.Bool.{or_assoc, Bool, true, false, true≢false, ◌&&◌, ◌||◌}
use mathlib.Core.Logic.{◌⊎◌, inl, inr}
use mathlib.Core.List.{List, [], ◌∷◌, ◌++◌}
use Prim.Native.Nat.{ℕ, zero, suc, ◌≤◌, ◌<◌}
use native.Mathlib.Decide.{ℕ_discrete}
use native.Mathlib.Omega.{arith}
use lib.Dec.{ltb, eqb}
use lib.ListN.{length, get_or}
use borrow.Author.Tests.{lt-ltb, eq-eqb, ne_eqb, ltb-true, eqb-true}
use Rattle.sets.specs.Sets.{Below, Falls, Set, all_below, among, below, differ, members, odd, same}
use Rattle.sets.proofs.Laws.{odd_above, members_odd, members_fall}

pub and_left : (a b : Bool) → (a && b) ≡ true → a ≡ true
and_left true b h = refl
and_left false b h = h

pub and_right : (a b : Bool) → (a && b) ≡ true → b ≡ true
and_right true b h = h
and_right false b h = absurd (true≢false (sym h))

pub and_intro : (a b : Bool) → a ≡ true → b ≡ true → (a && b) ≡ true
and_intro a b h l = ap₂ ◌&&◌ h l

pub or_left : (a b : Bool) → a ≡ true → (a || b) ≡ true
or_left a b h = ap (λ (x : Bool). x || b) h

pub or_right : (a b : Bool) → b ≡ true → (a || b) ≡ true
or_right true b h = refl
or_right false b h = h

pub or_cases : (a b : Bool) → (a || b) ≡ true → (a ≡ true) ⊎ (b ≡ true)
or_cases true b h = inl refl
or_cases false b h = inr h

-- two tests that pass together are one
pub both_true : (a b : Bool) → (a ≡ true → b ≡ true) → (b ≡ true → a ≡ true) → a ≡ b
both_true true b f g = sym (f refl)
both_true false true f g = g refl
both_true false false f g = refl

pub same_eq : (xs ys : List ℕ) → same xs ys ≡ true → xs ≡ ys
same_eq [] [] h = refl
same_eq [] (y ∷ ys) h = absurd (true≢false (sym h))
same_eq (x ∷ xs) [] h = absurd (true≢false (sym h))
same_eq (x ∷ xs) (y ∷ ys) h =
    ap₂ (λ (a : ℕ) (l : List ℕ). a ∷ l) (eqb-true x y (and_left (eqb x y) (same xs ys) h))
    (same_eq xs ys (and_right (eqb x y) (same xs ys) h))

same_refl : (xs : List ℕ) → same xs xs ≡ true
same_refl [] = refl
same_refl (x ∷ xs) = and_intro (eqb x x) (same xs xs) (eq-eqb x x refl) (same_refl xs)

pub eq_same : (xs ys : List ℕ) → xs ≡ ys → same xs ys ≡ true
eq_same xs ys e = ap (same xs) (sym e) ∙ same_refl xs

-- every bucket listed is below n exactly when `all_below` computes true
pub all_below_lem : (n : ℕ) (l : List ℕ) → all_below n l ≡ true → Below n l
all_below_lem n [] h i a = absurd (omega arith)
all_below_lem n (x ∷ xs) h zero a = ltb-true x n (and_left (ltb x n) (all_below n xs) h)
all_below_lem n (x ∷ xs) h (suc i) a = all_below_lem n xs (and_right (ltb x n) (all_below n xs) h) i (omega arith)

pub below_all : (n : ℕ) (l : List ℕ) → Below n l → all_below n l ≡ true
below_all n [] h = refl
below_all n (x ∷ xs) h =
    and_intro (ltb x n) (all_below n xs) (lt-ltb x n (h 0 (omega arith))) (below_all n xs (λ i a. h (suc i) (omega arith)))

-- ---- among

pub among_append : (xs ys : List ℕ) (p : ℕ) → among (xs ++ ys) p ≡ (among xs p || among ys p)
among_append [] ys p = refl
among_append (x ∷ xs) ys p = ap (◌||◌ (eqb p x)) (among_append xs ys p) ∙ sym (or_assoc (eqb p x) (among xs p) (among ys p))

-- in a falling list a bucket stands once or not at all
pub falls_among : (l : List ℕ) (n p : ℕ) → Falls n l → among l p ≡ odd l p
falls_among [] n p f = refl
falls_among (x ∷ xs) n p f = go (falls_among xs x p f.1) (ℕ_discrete p x)
  where
    go : among xs p ≡ odd xs p → Dec (p ≡ x) → (eqb p x || among xs p) ≡ differ (eqb p x) (odd xs p)
    go ih (yes e) =
        ap (λ (b : Bool). b || among xs p) (eq-eqb p x e)
        ∙ sym (ap₂ differ (eq-eqb p x e) (odd_above xs x p f.1 (omega arith)))
    go ih (no e) = ap₂ ◌||◌ (ne_eqb p x e) ih ∙ ap (λ (b : Bool). differ b (odd xs p)) (sym (ne_eqb p x e))

pub members_among : (S : Set) (n p : ℕ) → among (members S n) p ≡ below n S p
members_among S n p = falls_among (members S n) n p (members_fall S n) ∙ members_odd S n p

-- what is under every bucket listed is not listed
pub among_under : (l : List ℕ) (e p : ℕ) → ((i : ℕ) → i < length l → e ≤ get_or l i 0) → p < e → among l p ≡ false
among_under [] e p h a = refl
among_under (x ∷ xs) e p h a =
    ap₂ ◌||◌ (ne_eqb p x (omega (arith, h 0 (omega arith)))) (among_under xs e p (λ i b. h (suc i) (omega arith)) a)

pub below_first : (n : ℕ) (xs ys : List ℕ) → all_below n (xs ++ ys) ≡ true → all_below n xs ≡ true
below_first n [] ys h = refl
below_first n (x ∷ xs) ys h =
    and_intro (ltb x n) (all_below n xs) (and_left (ltb x n) (all_below n (xs ++ ys)) h)
    (below_first n xs ys (and_right (ltb x n) (all_below n (xs ++ ys)) h))

pub below_second : (n : ℕ) (xs ys : List ℕ) → all_below n (xs ++ ys) ≡ true → all_below n ys ≡ true
below_second n [] ys h = h
below_second n (x ∷ xs) ys h = below_second n xs ys (and_right (ltb x n) (all_below n (xs ++ ys)) h)
