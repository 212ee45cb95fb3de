-- The laws of sets told by membership, and of the falling list of a set's members. Assumes nothing.
use mathlib.Core.Path.{◌≡◌, refl, sym, ap, ap₂, ◌∙◌, fun_ext}
use mathlib.Core.Bool.{Bool, true, false, cond, ◌&&◌}
use mathlib.Core.List.{List, [], ◌∷◌, ◌++◌}
use Prim.Native.Nat.{ℕ, zero, suc, ◌+◌, ◌-◌, ◌%◌, ◌≤◌, ◌<◌}
use native.Mathlib.Nat.{add-zero, add-suc}
use native.Mathlib.Decide.{le_ind, dec_lt, ℕ_discrete}
use native.Mathlib.Omega.{arith}
use lib.Dec.{ltb, eqb}
use lib.ListN.{length, get_or, take, get_or-eq_default}
use borrow.Author.Tests.{lt-ltb, le-ltb, le-leb, lt-leb, eq-eqb, ne_eqb}
use Rattle.sets.specs.Sets.{Agree, Below, Empty, Falls, Set, apart, below, differ, flip, flips, members, none, odd, onward, times}

-- ---- differ is a sum without carry

pub differ_false : (a : Bool) → differ a false ≡ a
differ_false true = refl
differ_false false = refl

pub differ_self : (a : Bool) → differ a a ≡ false
differ_self true = refl
differ_self false = refl

pub differ_comm : (a b : Bool) → differ a b ≡ differ b a
differ_comm true true = refl
differ_comm true false = refl
differ_comm false true = refl
differ_comm false false = refl

pub differ_assoc : (a b c : Bool) → differ (differ a b) c ≡ differ a (differ b c)
differ_assoc true true true = refl
differ_assoc true true false = refl
differ_assoc true false c = refl
differ_assoc false b c = refl

pub differ_twice : (a b : Bool) → differ a (differ a b) ≡ b
differ_twice a b = sym (differ_assoc a a b) ∙ ap (λ (x : Bool). differ x b) (differ_self a)

-- ---- flips

pub flip_at : (b : ℕ) (S : Set) → flip b S b ≡ differ true (S b)
flip_at b S = ap (λ (x : Bool). differ x (S b)) (eq-eqb b b refl)

pub flip_other : (b : ℕ) (S : Set) (p : ℕ) → (p ≡ b → ⊥) → flip b S p ≡ S p
flip_other b S p h = ap (λ (x : Bool). differ x (S p)) (ne_eqb p b h)

-- toggling twice is the identity
pub flip_twice : (b : ℕ) (S : Set) → flip b (flip b S) ≡ S
flip_twice b S = fun_ext (λ p. differ_twice (eqb p b) (S p))

-- the flips of a list are one symmetric difference
pub flips_odd : (bs : List ℕ) (S : Set) → flips bs S ≡ apart (odd bs) S
flips_odd [] S = refl
flips_odd (b ∷ bs) S =
    flips_odd bs (flip b S) ∙ fun_ext (λ p.
    sym (differ_assoc (odd bs p) (eqb p b) (S p)) ∙ ap (λ (x : Bool). differ x (S p)) (differ_comm (odd bs p) (eqb p b)))

pub odd_append : (bs cs : List ℕ) (p : ℕ) → odd (bs ++ cs) p ≡ differ (odd bs p) (odd cs p)
odd_append [] cs p = refl
odd_append (b ∷ bs) cs p = ap (differ (eqb p b)) (odd_append bs cs p) ∙ sym (differ_assoc (eqb p b) (odd bs p) (odd cs p))

-- `odd` tells whether the bucket stands in the list an odd number of times
pub odd_times : (bs : List ℕ) (p : ℕ) → odd bs p ≡ eqb (times bs p % 2) 1
odd_times [] p = refl
odd_times (b ∷ bs) p = go (eqb p b) (times bs p) (odd_times bs p)
  where
    turn : (x y : ℕ) → x < 2 → y ≡ 1 - x → differ true (eqb x 1) ≡ eqb y 1
    turn zero y h q = sym (ap (λ (z : ℕ). eqb z 1) q)
    turn (suc zero) y h q = sym (ap (λ (z : ℕ). eqb z 1) q)
    turn (suc (suc x)) y h q = absurd (omega arith)

    go : (a : Bool) (n : ℕ) → odd bs p ≡ eqb (n % 2) 1 → differ a (odd bs p) ≡ eqb ((cond a 1 0 + n) % 2) 1
    go false n e =
        let z : n ≡ 0 + n = omega arith in
        e ∙ ap (λ (x : ℕ). eqb (x % 2) 1) z
    go true n e = ap (differ true) e ∙ turn (n % 2) ((1 + n) % 2) (omega arith) (omega arith)

-- so the order of the list does not matter
pub odd_order : (bs cs : List ℕ) → ((p : ℕ) → times bs p ≡ times cs p) → odd bs ≡ odd cs
odd_order bs cs h = fun_ext (λ p. odd_times bs p ∙ ap (λ (n : ℕ). eqb (n % 2) 1) (h p) ∙ sym (odd_times cs p))

-- two lists in which each bucket stands as often, but for even numbers, flip a set to the same set
pub flips_same : (bs cs : List ℕ) (S : Set) → ((p : ℕ) → odd bs p ≡ odd cs p) → flips bs S ≡ flips cs S
flips_same bs cs S h = flips_odd bs S ∙ fun_ext (λ p. ap (λ (x : Bool). differ x (S p)) (h p)) ∙ sym (flips_odd cs S)

-- so the order does not matter
pub flips_swap : (bs cs : List ℕ) (S : Set) → flips (bs ++ cs) S ≡ flips (cs ++ bs) S
flips_swap bs cs S =
    flips_same (bs ++ cs) (cs ++ bs) S
    (λ p. odd_append bs cs p ∙ differ_comm (odd bs p) (odd cs p) ∙ sym (odd_append cs bs p))

-- ---- symmetric difference

pub apart_comm : (S T : Set) → apart S T ≡ apart T S
apart_comm S T = fun_ext (λ p. differ_comm (S p) (T p))

pub apart_assoc : (S T R : Set) → apart (apart S T) R ≡ apart S (apart T R)
apart_assoc S T R = fun_ext (λ p. differ_assoc (S p) (T p) (R p))

pub apart_self : (S : Set) → apart S S ≡ none
apart_self S = fun_ext (λ p. differ_self (S p))

pub apart_none : (S : Set) → apart S none ≡ S
apart_none S = fun_ext (λ p. differ_false (S p))

pub apart_agree : {n : ℕ} (S R T U : Set) → Agree n S R → Agree n T U → Agree n (apart S T) (apart R U)
apart_agree S R T U h k p l = ap₂ differ (h p l) (k p l)

pub apart_empty : (S R : Set) (a b : ℕ) → Empty S a b → Empty R a b → Empty (apart S R) a b
apart_empty S R a b s r p h i = ap₂ differ (s p h i) (r p h i)

pub agree_empty : (S R : Set) (a b : ℕ) → Agree b S R → Empty R a b → Empty S a b
agree_empty S R a b g e p h i = g p i ∙ e p h i

-- two lists joined flip to the symmetric difference of what each flips to
pub flips_joined : (bs cs : List ℕ) → flips (bs ++ cs) none ≡ apart (flips bs none) (flips cs none)
flips_joined bs cs =
    flips_odd (bs ++ cs) none
    ∙ apart_none (odd (bs ++ cs))
    ∙ fun_ext (odd_append bs cs)
    ∙ sym (ap₂ apart (flips_odd bs none ∙ apart_none (odd bs)) (flips_odd cs none ∙ apart_none (odd cs)))

pub flips_append : (bs cs : List ℕ) (S : Set) → flips (bs ++ cs) S ≡ flips cs (flips bs S)
flips_append [] cs S = refl
flips_append (b ∷ bs) cs S = flips_append bs cs (flip b S)

-- ---- below and onward

pub below_in : (b : ℕ) (S : Set) (p : ℕ) → p < b → below b S p ≡ S p
below_in b S p h = ap (λ (x : Bool). x && S p) (lt-ltb p b h)

pub below_out : (b : ℕ) (S : Set) (p : ℕ) → b ≤ p → below b S p ≡ false
below_out b S p h = ap (λ (x : Bool). x && S p) (le-ltb p b h)

pub onward_in : (b : ℕ) (S : Set) (p : ℕ) → b ≤ p → onward b S p ≡ S p
onward_in b S p h = ap (λ (x : Bool). x && S p) (le-leb b p h)

pub onward_out : (b : ℕ) (S : Set) (p : ℕ) → p < b → onward b S p ≡ false
onward_out b S p h = ap (λ (x : Bool). x && S p) (lt-leb b p h)

pub below_same : (b : ℕ) (S R : Set) → Agree b S R → (p : ℕ) → below b S p ≡ below b R p
below_same b S R h p = go (dec_lt p b)
  where
    go : Dec (p < b) → below b S p ≡ below b R p
    go (yes l) = ap (◌&&◌ (ltb p b)) (h p l)
    go (no l) = below_out b S p (omega arith) ∙ sym (below_out b R p (omega arith))

-- ---- members

-- two sets that agree below n have the same members
pub members_same : (S R : Set) (n : ℕ) → Agree n S R → members S n ≡ members R n
unfolding members
members_same S R zero h = refl
members_same S R (suc n) h = rw (h n (omega arith), members_same S R n (λ p l. h p (omega arith)))

-- with no member from m up to n
pub members_gap : (S : Set) (m n : ℕ) → m ≤ n → Empty S m n → members S n ≡ members S m
unfolding members
members_gap S m n l h =
    le_ind (λ (k : ℕ). Empty S m k → members S k ≡ members S m)
    (λ _. refl)
    (λ k ml ih hk. ap (λ (b : Bool). cond b (k ∷ members S k) (members S k)) (hk k ml (omega arith)) ∙ ih (λ p a b. hk p a (omega arith)))
    n
    l
    h

pub members_none : (S : Set) (n : ℕ) → ((p : ℕ) → p < n → S p ≡ false) → members S n ≡ []
unfolding members
members_none S n h = members_gap S 0 n (omega arith) (λ p a b. h p b)

-- the largest member heads the list, and the members below it follow
pub members_head : (S : Set) (p n : ℕ) → p < n → S p ≡ true → ((q : ℕ) → p < q → q < n → S q ≡ false) → members S n ≡ p ∷ members S p
unfolding members
members_head S p n l h g =
    members_gap S (suc p) n l g ∙ ap (λ (b : Bool). cond b (p ∷ members S p) (members S p)) h

-- a member counts
pub member_more : (S : Set) (p : ℕ) → S p ≡ true → length (members S (suc p)) ≡ suc (length (members S p))
unfolding members
member_more S p h = rw h

-- each place of the list has a member
pub member_at : (S : Set) (n i : ℕ) → i < length (members S n) → S (get_or (members S n) i 0) ≡ true
unfolding members
member_at S zero i h = absurd (omega arith)
member_at S (suc n) i h = go (λ j l. member_at S n j l) (S n) refl i h
  where
    go : ((j : ℕ) → j < length (members S n) → S (get_or (members S n) j 0) ≡ true) → (b : Bool) → S n ≡ b → (j : ℕ)
        → j < length (cond b (n ∷ members S n) (members S n)) → S (get_or (cond b (n ∷ members S n) (members S n)) j 0) ≡ true
    go ih true e zero l = e
    go ih true e (suc j) l = ih j (omega arith)
    go ih false e j l = ih j l

pub falls_more : (l : List ℕ) {m n : ℕ} → m ≤ n → Falls m l → Falls n l
falls_more [] h f = tt
falls_more (x ∷ xs) h f = (omega (arith, f.0), f.1)

pub falls_take : (l : List ℕ) (n m : ℕ) → Falls n l → Falls n (take m l)
falls_take [] n zero f = tt
falls_take [] n (suc m) f = tt
falls_take (x ∷ xs) n zero f = tt
falls_take (x ∷ xs) n (suc m) f = (f.0, falls_take xs x m f.1)

-- under the bucket at i there is room for the i before it
pub falls_room : (l : List ℕ) (n i : ℕ) → Falls n l → i < length l → get_or l i 0 + i < n
falls_room [] n i f h = absurd (omega arith)
falls_room (x ∷ xs) n zero f h = omega (arith, f.0)
falls_room (x ∷ xs) n (suc i) f h = omega (arith, falls_room xs x i f.1 (omega arith), f.0)

pub falls_at : (l : List ℕ) (n i : ℕ) → Falls n l → i < length l → get_or l i 0 < n
falls_at l n i f h = omega (arith, falls_room l n i f h)

pub falls_low : (l : List ℕ) (n i : ℕ) → Falls n l → get_or l i 0 ≤ n
falls_low l n i F = go (dec_lt i (length l))
  where
    go : Dec (i < length l) → get_or l i 0 ≤ n
    go (yes h) = omega (arith, falls_at l n i F h)
    go (no h) = omega (arith, get_or-eq_default l 0 {n = i} (omega arith))

-- a later bucket is smaller
pub falls_order : (l : List ℕ) (n i j : ℕ) → Falls n l → i ≤ j → j < length l → get_or l j 0 ≤ get_or l i 0
falls_order [] n i j f h a = absurd (omega arith)
falls_order (x ∷ xs) n zero zero f h a = omega arith
falls_order (x ∷ xs) n zero (suc j) f h a = omega (arith, falls_room xs x j f.1 (omega arith))
falls_order (x ∷ xs) n (suc i) zero f h a = absurd (omega arith)
falls_order (x ∷ xs) n (suc i) (suc j) f h a = falls_order xs x i j f.1 (omega arith) (omega arith)

-- the members fall from below n
pub members_fall : (S : Set) (n : ℕ) → Falls n (members S n)
unfolding members
members_fall S zero = tt
members_fall S (suc n) = go (S n) (members_fall S n)
  where
    go : (b : Bool) → Falls n (members S n) → Falls (suc n) (cond b (n ∷ members S n) (members S n))
    go true f = (omega arith, f)
    go false f = falls_more (members S n) (omega arith) f

-- in a list nothing stands from its bound on
pub odd_past : (l : List ℕ) (n p : ℕ) → Below n l → n ≤ p → odd l p ≡ false
odd_past [] n p b h = refl
odd_past (x ∷ xs) n p b h =
    ap₂ differ (ne_eqb p x (omega (arith, b 0 (omega arith)))) (odd_past xs n p (λ i a. b (suc i) (omega arith)) h)

pub odd_above : (l : List ℕ) (n p : ℕ) → Falls n l → n ≤ p → odd l p ≡ false
odd_above l n p f h = odd_past l n p (λ i a. falls_at l n i f a) h

below_more : (n : ℕ) (S : Set) (p : ℕ) → (p ≡ n → ⊥) → below n S p ≡ below (suc n) S p
below_more n S p h = go (dec_lt p n)
  where
    go : Dec (p < n) → below n S p ≡ below (suc n) S p
    go (yes l) = below_in n S p l ∙ sym (below_in (suc n) S p (omega arith))
    go (no l) = below_out n S p (omega arith) ∙ sym (below_out (suc n) S p (omega arith))

-- sound and complete: the members are the set below n
pub members_odd : (S : Set) (n p : ℕ) → odd (members S n) p ≡ below n S p
unfolding members
members_odd S zero p = sym (below_out zero S p (omega arith))
members_odd S (suc n) p = go (members_odd S n p) (S n) refl (ℕ_discrete p n)
  where
    go : odd (members S n) p ≡ below n S p → (b : Bool) → S n ≡ b → Dec (p ≡ n)
        → odd (cond b (n ∷ members S n) (members S n)) p ≡ below (suc n) S p
    go ih true e (yes q) =
        ap₂ differ (eq-eqb p n q) (ih ∙ below_out n S p (omega arith))
        ∙ sym e ∙ ap S (sym q) ∙ sym (below_in (suc n) S p (omega arith))
    go ih true e (no q) = ap₂ differ (ne_eqb p n q) ih ∙ below_more n S p q
    go ih false e (yes q) = ih ∙ below_out n S p (omega arith) ∙ sym e ∙ ap S (sym q) ∙ sym (below_in (suc n) S p (omega arith))
    go ih false e (no q) = ih ∙ below_more n S p q

members_none_back : (S : Set) (n : ℕ) → members S n ≡ [] → (p : ℕ) → p < n → S p ≡ false
members_none_back S n e p h = sym (below_in n S p h) ∙ sym (members_odd S n p) ∙ ap (λ (l : List ℕ). odd l p) e

-- no member stands from b on exactly when none is listed
pub onward_none : (b : ℕ) (S : Set) (n : ℕ) → Empty S b n → members (onward b S) n ≡ []
onward_none b S n h = members_none (onward b S) n (λ p l. go p l (dec_lt p b))
  where
    go : (p : ℕ) → p < n → Dec (p < b) → onward b S p ≡ false
    go p l (yes a) = onward_out b S p a
    go p l (no a) = onward_in b S p (omega arith) ∙ h p (omega arith) l

pub onward_none_back : (b : ℕ) (S : Set) (n : ℕ) → members (onward b S) n ≡ [] → Empty S b n
onward_none_back b S n e p a l = sym (onward_in b S p a) ∙ members_none_back (onward b S) n e p l

-- a falling list with the same membership is the list of the members
pub members_unique : (l : List ℕ) (S : Set) (n : ℕ) → Falls n l → ((p : ℕ) → p < n → odd l p ≡ S p) → l ≡ members S n
members_unique [] S n f h = sym (members_none S n (λ p l. sym (h p l)))
members_unique (x ∷ xs) S n f h =
    ap (λ (l : List ℕ). x ∷ l) (members_unique xs S x f.1
    (λ p l. ap (λ (b : Bool). differ b (odd xs p)) (sym (ne_eqb p x (omega arith))) ∙ h p (omega (arith, f.0))))
    ∙ sym (members_head S x n f.0
    (sym (h x f.0) ∙ ap₂ differ (eq-eqb x x refl) (odd_above xs x x f.1 (omega arith)))
    (λ q a b. sym (h q b) ∙ ap₂ differ (ne_eqb q x (omega arith)) (odd_above xs x q f.1 (omega arith))))

-- ---- how many

pub members_length : (S : Set) (n : ℕ) → length (members S n) ≤ n
unfolding members
members_length S zero = omega arith
members_length S (suc n) = go (S n) (members_length S n)
  where
    go : (b : Bool) → length (members S n) ≤ n → length (cond b (n ∷ members S n) (members S n)) ≤ suc n
    go true h = omega arith
    go false h = omega arith

-- the members below a + n are those below a and those of the n buckets from a on
pub members_count : (S : Set) (a n : ℕ) → length (members S (a + n)) ≡ length (members S a) + length (members (λ j. S (a + j)) n)
unfolding members
members_count S a zero =
    ap (λ (x : ℕ). length (members S x)) (add-zero a) ∙ sym (add-zero (length (members S a)))
members_count S a (suc n) =
    ap (λ (x : ℕ). length (members S x)) (add-suc a n) ∙ go (S (a + n)) (members_count S a n)
  where
    go : (b : Bool) → length (members S (a + n)) ≡ length (members S a) + length (members (λ j. S (a + j)) n)
        → length (cond b ((a + n) ∷ members S (a + n)) (members S (a + n)))
        ≡ length (members S a) + length (cond b (n ∷ members (λ j. S (a + j)) n) (members (λ j. S (a + j)) n))
    go true h = omega arith
    go false h = h

-- ---- a falling list, and another below it

pub falls_append : (xs ys : List ℕ) (n e : ℕ) → Falls n xs → e ≤ n → ((i : ℕ) → i < length xs → e ≤ get_or xs i 0) → Falls e ys
    → Falls n (xs ++ ys)
falls_append [] ys n e f l h g = falls_more ys l g
falls_append (x ∷ xs) ys n e f l h g =
    (f.0, falls_append xs ys x e f.1 (h 0 (omega arith)) (λ i a. h (suc i) (omega arith)) g)
