-- The laws of the order of two sets under a mask. Assumes nothing.
use mathlib.Core.Path.{◌≡◌, refl, sym, ap, ap₂, ◌∙◌, subst}
use mathlib.Core.Bool.{Bool, true, false, true≢false, cond}
use Prim.Native.Nat.{ℕ, zero, suc, ◌<◌}
use native.Mathlib.Decide.{dec_lt, ℕ_discrete}
use native.Mathlib.Omega.{arith}
use Rattle.sets.specs.Sets.{Agree, Set, apart, differ}
use Rattle.sets.specs.Masks.{holder, kept, order_of}
use Rattle.sets.proofs.Laws.{differ_self, members_head, members_none}
use Rattle.sets.proofs.Masks.{kept_apart_at, kept_laid, kept_at, kept_same}
use Rattle.std.specs.declared.cmp.Ordering.{Ordering}
use Rattle.std.specs.declared.cmp.Ordering.TheVariants.{Less, Equal, Greater}

-- ---- two sets, seen from the top

-- p is the largest bucket below n that exactly one of the two holds, and A holds it
pub record Leads (n : ℕ) (A B : Set) (p : ℕ) : Type 0 where
  pub small : p < n
  pub has : A p ≡ true
  pub lacks : B p ≡ false
  pub above : (q : ℕ) → p < q → q < n → A q ≡ B q

-- what each answer tells of A and B
abbrev pub Told : Ordering → ℕ → Set → Set → Type 0
Told Less n A B = (p : ℕ) × Leads n B A p
Told Equal n A B = Agree n A B
Told Greater n A B = (p : ℕ) × Leads n A B p

-- sets that agree at n and below it agree below n + 1
at_most : (A B : Set) {n : ℕ} (q : ℕ) → A n ≡ B n → (q < n → A q ≡ B q) → q < suc n → A q ≡ B q
at_most A B {n} q e f h = go (ℕ_discrete q n)
  where
    go : Dec (q ≡ n) → A q ≡ B q
    go (yes x) = ap A x ∙ e ∙ ap B (sym x)
    go (no x) = f (omega arith)

leads_last : {n : ℕ} {A B : Set} → A n ≡ true → B n ≡ false → Leads (suc n) A B n
leads_last a b = record { small = omega arith; has = a; lacks = b; above = λ q l h. absurd (omega arith) }

leads_more : {n p : ℕ} {A B : Set} → A n ≡ B n → Leads n A B p → Leads (suc n) A B p
leads_more {A = A} {B = B} e L =
    record { small = omega (arith, L.small); has = L.has; lacks = L.lacks; above = λ q l h. at_most A B q e (L.above q l) h }

told_more : (n : ℕ) (A B : Set) → A n ≡ B n → (o : Ordering) → Told o n A B → Told o (suc n) A B
told_more n A B e Less t = (t.0, leads_more (sym e) t.1)
told_more n A B e Equal t = λ p h. at_most A B p e (t p) h
told_more n A B e Greater t = (t.0, leads_more e t.1)

-- of any two sets one of the three is told
compared : (n : ℕ) (A B : Set) → (o : Ordering) × Told o n A B
compared zero A B = (Equal, λ p h. absurd (omega arith))
compared (suc n) A B = go (A n) (B n) refl refl (compared n A B)
  where
    go : (a b : Bool) → A n ≡ a → B n ≡ b → (o : Ordering) × Told o n A B → (o : Ordering) × Told o (suc n) A B
    go true true x y c = (c.0, told_more n A B (x ∙ sym y) c.0 c.1)
    go true false x y c = (Greater, (n, leads_last x y))
    go false true x y c = (Less, (n, leads_last y x))
    go false false x y c = (c.0, told_more n A B (x ∙ sym y) c.0 c.1)

abbrev pub opposite : Ordering → Ordering
opposite Less = Greater
opposite Equal = Equal
opposite Greater = Less

told_swap : (n : ℕ) (A B : Set) (o : Ordering) → Told o n A B → Told (opposite o) n B A
told_swap n A B Less t = t
told_swap n A B Equal t = λ p h. sym (t p h)
told_swap n A B Greater t = t

leads_same : {n : ℕ} (A B C D : Set) {p : ℕ} → Agree n A C → Agree n B D → Leads n A B p → Leads n C D p
leads_same A B C D {p} f g L =
    record {
      small = L.small;
      has = sym (f p L.small) ∙ L.has;
      lacks = sym (g p L.small) ∙ L.lacks;
      above = λ q l h. sym (f q h) ∙ L.above q l h ∙ g q h;
    }

told_same : (n : ℕ) (A B C D : Set) → Agree n A C → Agree n B D → (o : Ordering) → Told o n A B → Told o n C D
told_same n A B C D f g Less t = (t.0, leads_same B A D C g f t.1)
told_same n A B C D f g Equal t = λ p h. sym (f p h) ∙ t p h ∙ g p h
told_same n A B C D f g Greater t = (t.0, leads_same A B C D f g t.1)

-- the larger of two leads is the lead of the first over the last
leads_trans : {n p q : ℕ} {A B C : Set} → Leads n A B p → Leads n B C q → (r : ℕ) × Leads n A C r
leads_trans {n} {p} {q} {A} {B} {C} L M = go (dec_lt p q) (ℕ_discrete p q)
  where
    go : Dec (p < q) → Dec (p ≡ q) → (r : ℕ) × Leads n A C r
    go (yes l) d = (
      q,
      record {
        small = M.small;
        has = L.above q l M.small ∙ M.has;
        lacks = M.lacks;
        above = λ r k h. L.above r (omega arith) h ∙ M.above r k h;
      },
    )
    go (no l) (yes e) = absurd (true≢false (sym M.has ∙ ap B (sym e) ∙ L.lacks))
    go (no l) (no e) = (
      p,
      record {
        small = L.small;
        has = L.has;
        lacks = sym (M.above p (omega arith) L.small) ∙ L.lacks;
        above = λ r k h. L.above r k h ∙ M.above r (omega arith) h;
      },
    )

-- ---- the order

module _ (n mask size : ℕ) where
  module _ (S T : Set) where
    abbrev A : Set
    A = kept mask size S

    abbrev B : Set
    B = kept mask size T

    abbrev D : Set
    D = kept mask size (apart S T)

    shared : (p : ℕ) → A p ≡ B p → D p ≡ false
    shared p e = kept_apart_at mask size S T p ∙ ap (λ (b : Bool). differ b (B p)) e ∙ differ_self (B p)

    -- the bucket that decides
    decided : (p : ℕ) (a b : Bool) → p < n → A p ≡ a → B p ≡ b → differ a b ≡ true → ((q : ℕ) → p < q → q < n → A q ≡ B q)
        → order_of n mask size S T ≡ cond a Greater Less
    unfolding order_of
    decided p a b h x y d g =
        let e : D p ≡ true = kept_apart_at mask size S T p ∙ ap₂ differ x y ∙ d in
        ap (holder S) (members_head D p n h e (λ q l k. shared q (g q l k)))
        ∙ ap (λ (c : Bool). cond c Greater Less) (sym (kept_at mask size S p (kept_laid mask size (apart S T) p e)) ∙ x)

    -- The answer is o exactly where the kept buckets are as o tells.
    pub told_order : (o : Ordering) → Told o n (kept mask size S) (kept mask size T) → order_of n mask size S T ≡ o
    unfolding order_of
    told_order Less t =
        let L = t.1 in decided t.0 false true L.small L.lacks L.has refl (λ q l h. sym (L.above q l h))
    told_order Equal t = ap (holder S) (members_none D n (λ p h. shared p (t p h)))
    told_order Greater t =
        let L = t.1 in decided t.0 true false L.small L.has L.lacks refl L.above

    pub order_told_lem : (o : Ordering) → order_of n mask size S T ≡ o → Told o n (kept mask size S) (kept mask size T)
    order_told_lem o e =
        let c = compared n A B in
        subst (λ (x : Ordering). Told x n A B) (sym (told_order c.0 c.1) ∙ e) c.1

  pub order_swap : (S T : Set) → order_of n mask size T S ≡ opposite (order_of n mask size S T)
  order_swap S T =
      let o : Ordering = order_of n mask size S T in
      told_order T S (opposite o) (told_swap n (kept mask size S) (kept mask size T) o (order_told_lem S T o refl))

  pub order_self : (S : Set) → order_of n mask size S S ≡ Equal
  order_self S = told_order S S Equal (λ p h. refl)

  pub order_trans : (S T R : Set) → order_of n mask size S T ≡ Greater → order_of n mask size T R ≡ Greater
      → order_of n mask size S R ≡ Greater
  order_trans S T R x y =
      told_order S R Greater (leads_trans (order_told_lem S T Greater x).1 (order_told_lem T R Greater y).1)

  -- the order depends only on the buckets kept below n
  pub order_kept : (S T Q R : Set) → Agree n (kept mask size S) (kept mask size Q) → Agree n (kept mask size T) (kept mask size R)
      → order_of n mask size S T ≡ order_of n mask size Q R
  order_kept S T Q R f g =
      let o : Ordering = order_of n mask size S T in
      sym (told_order Q R o
      (told_same n (kept mask size S) (kept mask size T) (kept mask size Q) (kept mask size R) f g o (order_told_lem S T o refl)))

  pub order_same : (S T Q R : Set) → Agree n S Q → Agree n T R → order_of n mask size S T ≡ order_of n mask size Q R
  order_same S T Q R f g =
      order_kept S T Q R (λ p h. kept_same mask size S Q p (f p h)) (λ p h. kept_same mask size T R p (g p h))

  -- sets that the order does not tell apart stand alike to any other
  pub equal_left : (S T R : Set) → order_of n mask size S T ≡ Equal → order_of n mask size S R ≡ order_of n mask size T R
  equal_left S T R e = order_kept S R T R (order_told_lem S T Equal e) (λ p h. refl)

  pub equal_right : (S T R : Set) → order_of n mask size S T ≡ Equal → order_of n mask size R S ≡ order_of n mask size R T
  equal_right S T R e = order_kept R S R T (λ p h. refl) (order_told_lem S T Equal e)
