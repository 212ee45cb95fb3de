-- The laws of the key: it fits 64 bits, and under one mask it never falls where the order rises. Assumes nothing.
use mathlib.Core.Path.{◌≡◌, refl, ap, ◌∙◌, subst}
use mathlib.Core.Bool.{Bool, true, false, cond}
use mathlib.Core.List.{List, [], ◌∷◌}
use Prim.Native.Nat.{ℕ, zero, suc, ◌+◌, ◌-◌, ◌*◌, ◌^◌, ◌≤◌, ◌<◌}
use native.Mathlib.Nat.{div-add-mod', mod-lt, mul-le-mul_right, suc-mul, zero-div}
use native.Mathlib.Decide.{ℕ_discrete}
use native.Mathlib.Omega.{arith}
use lib.ListN.{get_or, drop, take}
use lib.Pow.{pow_pos, pow-add, shr_lt, shr_mono}
use Rattle.sets.specs.Sets.{Agree, Below, Falls, Set, members}
use Rattle.sets.specs.Configurations.{Config, W, position_bits, whole_slots, leftover_bits}
use Rattle.sets.specs.Masks.{kept, key_of, order_of, packed, slots_fit}
use Rattle.sets.proofs.Configurations.{w_lt}
use Rattle.sets.proofs.Laws.{members_fall, members_same, falls_at, falls_take}
use Rattle.sets.proofs.Masks.{kept_same}
use Rattle.sets.proofs.Order.{Leads, opposite, order_swap, order_told_lem}
use Rattle.sets.proofs.Tests.{below_all}
use Rattle.std.specs.declared.cmp.Ordering.{Ordering}
use Rattle.std.specs.declared.cmp.Ordering.TheVariants.{Less, Equal, Greater}

head_lt : {n : ℕ} (ps : List ℕ) → 0 < n → Below n ps → get_or ps 0 0 < n
head_lt [] z h = z
head_lt (p ∷ ps) z h = h 0 (omega arith)

tail_below : {n : ℕ} (ps : List ℕ) → Below n ps → Below n (drop 1 ps)
tail_below [] h = h
tail_below (p ∷ ps) h = λ i l. h (suc i) (omega arith)

falls_below : (ps : List ℕ) {n m : ℕ} → Falls n ps → n ≤ m → Below m ps
falls_below ps {n} f h i l = omega (arith, falls_at ps n i f l)

digit_lt : {a x y r : ℕ} → x < a → y < r → x * r + y < a * r
digit_lt {a} {x} {y} {r} h l = omega (arith, mul-le-mul_right r h, suc-mul x r)

-- ---- packed lists of falling buckets

module _ (bits leftover : ℕ) where
  pub packed_nil : (slots : ℕ) → packed bits leftover slots [] ≡ 0
  unfolding packed
  packed_nil zero = zero-div (2 ^ (bits - leftover))
  packed_nil (suc slots) = omega (arith, packed_nil slots)

  -- whatever the number of slots, ps packs to no more than qs
  abbrev Within : List ℕ → List ℕ → Type 0
  Within ps qs = (slots : ℕ) → packed bits leftover slots ps ≤ packed bits leftover slots qs

  within_more : (n : ℕ) (ps qs : List ℕ) → Within ps qs → Within (n ∷ ps) (n ∷ qs)
  unfolding packed
  within_more n ps qs h zero = omega arith
  within_more n ps qs h (suc slots) = omega (arith, h slots)

  module _ (fits : leftover ≤ bits) where
    pub packed_lt : (slots : ℕ) (ps : List ℕ) → Below (2 ^ bits) ps → packed bits leftover slots ps < 2 ^ (slots * bits + leftover)
    unfolding packed
    packed_lt zero ps h =
        let e : leftover + (bits - leftover) ≡ bits = omega arith in
        let z : 0 * bits + leftover ≡ leftover = omega arith in
        rw z (shr_lt leftover (bits - leftover) (rw e (head_lt ps (pow_pos bits) h)))
    packed_lt (suc slots) ps h =
        let room : ℕ = slots * bits + leftover in
        let e : suc slots * bits + leftover ≡ bits + room = omega (arith, suc-mul slots bits) in
        rw (e, pow-add 2 bits room) (digit_lt (head_lt ps (pow_pos bits) h) (packed_lt slots (drop 1 ps) (tail_below ps h)))

    -- a larger bucket in front outweighs all that follow
    within_front : {n : ℕ} (ps qs : List ℕ) → n ≤ 2 ^ bits → Falls n ps → Within ps (n ∷ qs)
    unfolding packed
    within_front [] qs h f zero = shr_mono (bits - leftover) (omega arith)
    within_front [] qs h f (suc slots) = omega (arith, packed_nil slots)
    within_front (p ∷ ps) qs h f zero = shr_mono (bits - leftover) (omega (arith, f.0))
    within_front (p ∷ ps) qs h f (suc slots) =
        omega (arith, digit_lt f.0 (packed_lt slots ps (falls_below ps f.1 (omega (arith, f.0)))))

    pub packed_mono : (n : ℕ) (A B : Set) (p : ℕ) → n ≤ 2 ^ bits → Leads n A B p
        → (slots : ℕ) → packed bits leftover slots (members B n) ≤ packed bits leftover slots (members A n)
    unfolding members
    packed_mono zero A B p h L = absurd (omega (arith, L.small))
    packed_mono (suc n) A B p h L = go (λ M. packed_mono n A B p (omega arith) M) (ℕ_discrete p n)
      where
        agreed : (b : Bool) → Within (members B n) (members A n)
            → Within (cond b (n ∷ members B n) (members B n)) (cond b (n ∷ members A n) (members A n))
        agreed true g = within_more n (members B n) (members A n) g
        agreed false g = g

        go : (Leads n A B p → Within (members B n) (members A n)) → Dec (p ≡ n) → Within (members B (suc n)) (members A (suc n))
        go ih (yes e) = rw (← e, L.has, L.lacks) (within_front (members B p) (members A p) (omega arith) (members_fall B p))
        go ih (no e) =
            let l : p < n = omega (arith, L.small) in
            rw (L.above n l (omega arith)) (agreed (B n)
            (ih (record { small = l; has = L.has; lacks = L.lacks; above = λ q k b. L.above q k (omega arith) })))

-- ---- by configuration

module _ (c : Config) where
  leftover_fits : leftover_bits c ≤ position_bits c
  leftover_fits = omega (arith, mod-lt 64 {m = position_bits c} (omega arith))

  module _ (mask size : ℕ) where
    kept_below : (S : Set) → Below (2 ^ position_bits c) (members (kept mask size S) (W c))
    kept_below S =
        falls_below (members (kept mask size S) (W c)) (members_fall (kept mask size S) (W c)) (omega (arith, w_lt c))

    pub key_lt : (S : Set) → key_of c mask size S < 2 ^ 64
    unfolding key_of
    key_lt S =
        subst (λ (x : ℕ). key_of c mask size S < 2 ^ x) (div-add-mod' 64 (position_bits c))
        (packed_lt (position_bits c) (leftover_bits c) leftover_fits (whole_slots c) (members (kept mask size S) (W c)) (kept_below S))

    pub equal_key : (S T : Set) → order_of (W c) mask size S T ≡ Equal → key_of c mask size S ≡ key_of c mask size T
    unfolding key_of
    equal_key S T e =
        ap (packed (position_bits c) (leftover_bits c) (whole_slots c))
        (members_same (kept mask size S) (kept mask size T) (W c) (order_told_lem (W c) mask size S T Equal e))

    -- under one mask a greater filter never has a smaller key
    pub greater_key : (S T : Set) → order_of (W c) mask size S T ≡ Greater → key_of c mask size T ≤ key_of c mask size S
    unfolding key_of
    greater_key S T e =
        let t = order_told_lem (W c) mask size S T Greater e in
        packed_mono (position_bits c) (leftover_bits c) leftover_fits (W c) (kept mask size S) (kept mask size T) t.0
        (omega (arith, w_lt c)) t.1 (whole_slots c)

    -- so keys that differ decide the order
    pub key_greater : (S T : Set) → key_of c mask size T < key_of c mask size S → order_of (W c) mask size S T ≡ Greater
    key_greater S T h = go (order_of (W c) mask size S T) refl
      where
        go : (o : Ordering) → order_of (W c) mask size S T ≡ o → o ≡ Greater
        go Less e = absurd (omega (arith, greater_key T S (order_swap (W c) mask size S T ∙ ap opposite e)))
        go Equal e = absurd (omega (arith, equal_key S T e))
        go Greater e = refl

-- every bucket is below W, and so fits its slot
pub slots_fit_lem : (c : Config) (mask size : ℕ) (S : Set) → slots_fit c mask size S ≡ true
unfolding slots_fit
slots_fit_lem c mask size S =
    let l : List ℕ = members (kept mask size S) (W c) in
    let w : W c ≤ 2 ^ position_bits c = omega (arith, w_lt c) in
    below_all (2 ^ position_bits c) (take (suc (whole_slots c)) l)
    (falls_below (take (suc (whole_slots c)) l) (falls_take l (W c) (suc (whole_slots c)) (members_fall (kept mask size S) (W c))) w)

-- the key looks at the buckets below W alone
pub key_same : (c : Config) (mask size : ℕ) (S T : Set) → Agree (W c) S T → key_of c mask size S ≡ key_of c mask size T
unfolding key_of
key_same c mask size S T h =
    ap (packed (position_bits c) (leftover_bits c) (whole_slots c))
    (members_same (kept mask size S) (kept mask size T) (W c) (λ p l. kept_same mask size S T p (h p l)))
