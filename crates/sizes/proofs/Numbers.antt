-- Every refusal has the number of its test: no verdict gives a number that is none of 01's. Assumes nothing.
use mathlib.Core.Path.{◌≡◌, refl, sym, ap, ◌∙◌}
use mathlib.Core.Bool.{Bool, true, false, cond}
use mathlib.Core.List.{List, [], ◌∷◌}
use Prim.Native.Nat.{ℕ}
use native.Mathlib.Omega.{arith}
use Rattle.sets.specs.Refusals.{Cause, Reason, Test, because_at, first_failing, in_order, number, refused, verdict}
use Rattle.sets.specs.Refusals.{configuration, room, soundness, likeness, mask_size, mask_bits, row_length, range, fall, block_count, spare, high, slot, buffer, text_form}
use Rattle.sizes.specs.Sizes.{number_of, refusal}

-- each reason
pub reason_numbered : (x : Reason) (place : ℕ) → number_of (refusal (because_at x place)) ≡ number x
reason_numbered configuration place = refl
reason_numbered room place = refl
reason_numbered soundness place = refl
reason_numbered likeness place = refl
reason_numbered mask_size place = refl
reason_numbered mask_bits place = refl
reason_numbered row_length place = refl
reason_numbered range place = refl
reason_numbered fall place = refl
reason_numbered block_count place = refl
reason_numbered spare place = refl
reason_numbered high place = refl
reason_numbered slot place = refl
reason_numbered buffer place = refl
reason_numbered text_form place = refl

-- the first of some tests that fails
pub first_numbered : (ts : List Test) (k : Cause) → first_failing ts ≡ refused k → number_of (refusal k) ≡ k.number
first_numbered [] k e =
    let z : ◌≡◌ {A = ℕ} 0 1 = cc in
    absurd (omega arith)
first_numbered (t ∷ ts) k e = go t.passes (first_numbered ts k) e
  where
    go : (b : Bool) → (first_failing ts ≡ refused k → number_of (refusal k) ≡ k.number)
        → cond b (first_failing ts) (refused (because_at t.reason t.place)) ≡ refused k → number_of (refusal k) ≡ k.number
    go true f e = f e
    go false f e =
        let q : because_at t.reason t.place ≡ k = cc in
        sym (ap (λ (j : Cause). number_of (refusal j)) q) ∙ reason_numbered t.reason t.place ∙ ap (λ (j : Cause). j.number) q

-- a call's verdict
pub refusal_numbered : (ts : List Test) {k : Cause} → verdict ts ≡ refused k → number_of (refusal k) ≡ k.number
refusal_numbered ts {k} e = first_numbered (in_order ts) k e
