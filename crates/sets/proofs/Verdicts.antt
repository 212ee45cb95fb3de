-- Tests one after the other: the first that fails decides. Assumes nothing.
use mathlib.Core.Path.{◌≡◌, refl, sym, ap, ◌∙◌}
use mathlib.Core.Bool.{Bool, true, false, cond, ◌&&◌}
use mathlib.Core.List.{List, [], ◌∷◌, ◌++◌}
use Prim.Native.Nat.{ℕ, ◌+◌, ◌<◌}
use native.Mathlib.Omega.{arith}
use Rattle.sets.specs.Refusals.{Cause, Reason, Test, Verdict, because_at, first_failing, in_order, number, one_of, order_of_judging, refused, taken, verdict}
use Rattle.sets.specs.Refusals.{configuration, room, soundness, likeness, mask_size, mask_bits, row_length, range, fall, block_count, spare, high, slot, buffer, text_form}

-- where the first tests pass, the others decide
pub after_taken : (ts us : List Test) → first_failing ts ≡ taken → first_failing (ts ++ us) ≡ first_failing us
after_taken [] us e = refl
after_taken (t ∷ ts) us e = go t.passes (after_taken ts us) e
  where
    go : (b : Bool) → (first_failing ts ≡ taken → first_failing (ts ++ us) ≡ first_failing us)
        → cond b (first_failing ts) (refused (because_at t.reason t.place)) ≡ taken → cond b (first_failing (ts ++ us)) (refused (because_at t.reason t.place))
        ≡ first_failing us
    go true f e = f e
    go false f e =
        let z : ◌≡◌ {A = ℕ} 0 1 = cc in
        absurd (omega arith)

-- where one of them fails, the others are not asked
pub after_refused : (ts us : List Test) {k : Cause} → first_failing ts ≡ refused k → first_failing (ts ++ us) ≡ refused k
after_refused [] us e =
    let z : ◌≡◌ {A = ℕ} 0 1 = cc in
    absurd (omega arith)
after_refused (t ∷ ts) us {k} e = go t.passes (after_refused ts us) e
  where
    go : (b : Bool) → (first_failing ts ≡ refused k → first_failing (ts ++ us) ≡ refused k)
        → cond b (first_failing ts) (refused (because_at t.reason t.place))
        ≡ refused k → cond b (first_failing (ts ++ us)) (refused (because_at t.reason t.place)) ≡ refused k
    go true f e = f e
    go false f e = e

-- last tests that pass change nothing
pub before_taken : (ts us : List Test) → first_failing us ≡ taken → first_failing (ts ++ us) ≡ first_failing ts
before_taken ts us u = go (first_failing ts) refl
  where
    go : (v : Verdict) → first_failing ts ≡ v → first_failing (ts ++ us) ≡ first_failing ts
    go taken h = after_taken ts us h ∙ u ∙ sym h
    go (refused k) h = after_refused ts us h ∙ sym h

-- tests that pass together pass apart
pub all_pass : (ts us : List Test) → first_failing (ts ++ us) ≡ taken → (first_failing ts ≡ taken) × (first_failing us ≡ taken)
all_pass ts us e = go (first_failing ts) refl
  where
    go : (v : Verdict) → first_failing ts ≡ v → (first_failing ts ≡ taken) × (first_failing us ≡ taken)
    go taken h = (h, sym (after_taken ts us h) ∙ e)
    go (refused k) h =
        let x : refused k ≡ taken = sym (after_refused ts us h) ∙ e in
        let z : ◌≡◌ {A = ℕ} 0 1 = cc in
        absurd (omega arith)

-- a test before others, where all pass
pub passed : (b : Bool) (v : Verdict) (k : Cause) → cond b v (refused k) ≡ taken → (b ≡ true) × (v ≡ taken)
passed true v k e = (refl, e)
passed false v k e =
    let z : ◌≡◌ {A = ℕ} 0 1 = cc in
    absurd (omega arith)

-- two tests of one number are one
pub cond_and : (a b : Bool) (v w : Verdict) → cond a (cond b v w) w ≡ cond (a && b) v w
cond_and true b v w = refl
cond_and false b v w = refl

-- ---- the table of refusals

-- in how many groups of the order a reason stands
abbrev groups_of : List (List Reason) → Reason → ℕ
groups_of [] x = 0
groups_of (group ∷ groups) x = cond (one_of group x) 1 0 + groups_of groups x

-- each reason stands in one group, so that no test is left out or asked twice; 11, which no call gives, stands in none
pub listed_once : (x : Reason) → groups_of order_of_judging x ≡ cond (one_of (text_form ∷ []) x) 0 1
listed_once configuration = refl
listed_once room = refl
listed_once soundness = refl
listed_once likeness = refl
listed_once mask_size = refl
listed_once mask_bits = refl
listed_once row_length = refl
listed_once range = refl
listed_once fall = refl
listed_once block_count = refl
listed_once spare = refl
listed_once high = refl
listed_once slot = refl
listed_once buffer = refl
listed_once text_form = refl

-- 0 is no refusal's number
numbered : (x : Reason) → 0 < number x
numbered configuration = omega arith
numbered room = omega arith
numbered soundness = omega arith
numbered likeness = omega arith
numbered mask_size = omega arith
numbered mask_bits = omega arith
numbered row_length = omega arith
numbered range = omega arith
numbered fall = omega arith
numbered block_count = omega arith
numbered spare = omega arith
numbered high = omega arith
numbered slot = omega arith
numbered buffer = omega arith
numbered text_form = omega arith

pub never_zero : (ts : List Test) (k : Cause) → verdict ts ≡ refused k → 0 < k.number
never_zero ts k q = go (in_order ts) q
  where
    by : (t : Test) (rest : List Test) (b : Bool) → (first_failing rest ≡ refused k → 0 < k.number)
        → cond b (first_failing rest) (refused (because_at t.reason t.place)) ≡ refused k → 0 < k.number
    by t rest true h e = h e
    by t rest false h e =
        let z : because_at t.reason t.place ≡ k = cc in
        omega (arith, numbered t.reason, ap (λ (x : Cause). x.number) z)

    go : (us : List Test) → first_failing us ≡ refused k → 0 < k.number
    go [] e =
        let z : ◌≡◌ {A = ℕ} 0 1 = cc in
        absurd (omega arith)
    go (t ∷ us) e = by t us t.passes (go us) e
