-- What an answer tells of the number, and that two answers allowed by the promise coincide. Assumes nothing.
use mathlib.Core.Path.{◌≡◌, refl, sym, ap, ◌∙◌}
use mathlib.Core.Bool.{Bool, true, false, cond}
use Prim.Native.Nat.{ℕ}
use native.Mathlib.Omega.{arith}
use Rattle.sets.specs.Configurations.{known}
use Rattle.sets.specs.Refusals.{answer, because, configuration, taken, refused}
use Rattle.sizes.specs.Sizes.{sizes_at, sizes_of, refusal}
use Rattle.sizes.specs.declared.Sizes.{Sizes}
use Rattle.sizes.specs.declared.Refusal.{Refusal}
use Rattle.std.specs.Prelude.{Result, Ok, Err, IsErrAnd}

abbrev told : ℕ → Bool → Result Sizes Refusal
told n b = answer (cond b taken (refused (because configuration))) (λ r. Err (refusal r)) (Ok (sizes_at n))

pub known_of : (n : ℕ) (s : Sizes) → sizes_of n ≡ Ok s → (known n ≡ true) × (s ≡ sizes_at n)
unfolding sizes_of
known_of n s e = go (known n) e
  where
    go : (b : Bool) → told n b ≡ Ok s → (b ≡ true) × (s ≡ sizes_at n)
    go true e = (refl, (cc))
    go false e =
        let z : ◌≡◌ {A = ℕ} 0 1 = cc in
        absurd (omega arith)

pub unknown_of : (n : ℕ) (x : Refusal) → sizes_of n ≡ Err x → (known n ≡ false) × (x ≡ refusal (because configuration))
unfolding sizes_of
unknown_of n x e = go (known n) e
  where
    go : (b : Bool) → told n b ≡ Err x → (b ≡ false) × (x ≡ refusal (because configuration))
    go true e =
        let z : ◌≡◌ {A = ℕ} 0 1 = cc in
        absurd (omega arith)
    go false e = (refl, (cc))

pub coincide : (n : ℕ) (r t : Result Sizes Refusal) → r ≡ sizes_of n → t ≡ sizes_of n → r ≡ t
coincide n r t x y = x ∙ sym y

-- what `?` hands on is the refusal that it met
pub handed_on : {A : Type 0} {x : Refusal} (r : Result A Refusal) → IsErrAnd r (λ y. y ≡ x) → r ≡ Err x
handed_on (Ok a) h = absurd h
handed_on (Err y) h = ap (λ (z : Refusal). Err z) h
