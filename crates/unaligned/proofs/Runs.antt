-- Several numbers of w bytes, one after the other: the next one read, and the next one written. Assumes nothing.
use mathlib.Core.Path.{◌≡◌, refl, sym, ap, ◌∙◌}
use mathlib.Core.List.{List, [], ◌∷◌, ◌++◌, append_assoc, append-nil}
use Prim.Native.Nat.{ℕ, zero, suc, ◌+◌, ◌*◌, ◌≤◌, ◌<◌}
use native.Mathlib.Nat.{suc-mul, zero-mul}
use native.Mathlib.Numerals.{add-one}
use native.Mathlib.Omega.{arith}
use lib.ListN.{length, get_or, take, drop}
use lib.Seq.{sets, length-sets, drop-drop, length-take-le}
use Rattle.sets.specs.Row.{bytes, bytes_of, little, numbers}
use Rattle.sets.proofs.Bytes.{length_bytes_of}
use Rattle.sets.proofs.Lists.{sets_append}

numbers_suc : (w n : ℕ) (bs : List ℕ) → numbers w (suc n) bs ≡ numbers w n bs ++ (little (take w (drop (n * w) bs)) ∷ [])
numbers_suc w zero bs = rw zero-mul
numbers_suc w (suc n) bs =
    let e : w + n * w ≡ suc n * w = omega (arith, suc-mul n w) in
    ap (◌∷◌ (little (take w bs)))
    (numbers_suc w n (drop w bs)
    ∙ ap (λ (l : List ℕ). numbers w n (drop w bs) ++ (little (take w l) ∷ [])) (drop-drop (n * w) w bs ∙ ap (λ (k : ℕ). drop k bs) e))

-- the number read at the next place is the next one
pub numbers_next : (w n at : ℕ) (l : List ℕ) (place v : ℕ) → place ≡ at + n * w → v ≡ little (take w (drop place l))
    → numbers w (suc n) (drop at l) ≡ numbers w n (drop at l) ++ (v ∷ [])
numbers_next w n at l place v p e =
    numbers_suc w n (drop at l)
    ∙ ap (λ (x : ℕ). numbers w n (drop at l) ++ (x ∷ []))
    (sym (e ∙ ap (λ (x : List ℕ). little (take w x)) (ap (λ (k : ℕ). drop k l) p ∙ sym (drop-drop (n * w) at l))))

-- the number at a place among several
pub numbers_at : (w n : ℕ) (bs : List ℕ) (j : ℕ) → j < n → get_or (numbers w n bs) j 0 ≡ little (take w (drop (j * w) bs))
numbers_at w zero bs j h = absurd (omega arith)
numbers_at w (suc n) bs zero h = rw zero-mul
numbers_at w (suc n) bs (suc j) h =
    let e : w + j * w ≡ suc j * w = omega (arith, suc-mul j w) in
    numbers_at w n (drop w bs) j (omega arith)
    ∙ ap (λ (x : List ℕ). little (take w x)) (drop-drop (j * w) w bs ∙ ap (λ (x : ℕ). drop x bs) e)

pub number_read : (w n at : ℕ) (l : List ℕ) {i : ℕ} (place : ℕ) {v : ℕ} → i < n → place ≡ at + i * w → v ≡ little (take w (drop place l))
    → v ≡ get_or (numbers w n (drop at l)) i 0
number_read w n at l {i} place {v} h p e =
    sym (numbers_at w n (drop at l) i h
    ∙ ap (λ (x : List ℕ). little (take w x)) (drop-drop (i * w) at l ∙ ap (λ (k : ℕ). drop k l) (sym p))
    ∙ sym e)

bytes_of_suc : (w : ℕ) (vs : List ℕ) (i : ℕ) → i < length vs → bytes_of w (take (suc i) vs) ≡ bytes_of w (take i vs) ++ bytes w (get_or vs i 0)
bytes_of_suc w [] i h = absurd (omega arith)
bytes_of_suc w (v ∷ vs) zero h = append-nil (bytes w v)
bytes_of_suc w (v ∷ vs) (suc i) h =
    ap (◌++◌ (bytes w v)) (bytes_of_suc w vs i (omega arith))
    ∙ sym (append_assoc (bytes w v) (bytes_of w (take i vs)) (bytes w (get_or vs i 0)))

-- of the n numbers to write from a place on, i are written
pub record Written (w : ℕ) (vs : List ℕ) (n : ℕ) (old : List ℕ) (at : ℕ) (now : List ℕ) (i : ℕ) : Type 0 where
  pub high : i ≤ n
  pub are : now ≡ sets old at (bytes_of w (take i vs))
  pub length_is : length now ≡ length old

pub written_start : (w : ℕ) (vs : List ℕ) (n : ℕ) (old : List ℕ) (at : ℕ) → Written w vs n old at old 0
written_start w vs n old at = record { high = omega arith; are = refl; length_is = refl }

module _ {w : ℕ} {vs : List ℕ} {n : ℕ} {old : List ℕ} {at : ℕ} {now : List ℕ} {i : ℕ} where
  pub written_turn : (next : List ℕ) (place : ℕ) → n ≤ length vs → i < n → place ≡ at + i * w
      → next ≡ sets now place (bytes w (get_or vs i 0))
      → Written w vs n old at now i → Written w vs n old at next (i + 1)
  written_turn next place l h p e t =
      let done : List ℕ = bytes_of w (take i vs) in
      let v : List ℕ = bytes w (get_or vs i 0) in
      let d : length done ≡ i * w = length_bytes_of w (take i vs) ∙ ap (λ (k : ℕ). k * w) (length-take-le i vs (omega arith)) in
      record {
        high = omega arith;
        are = e
            ∙ ap (λ (k : ℕ). sets now k v) (p ∙ ap (◌+◌ at) (sym d))
            ∙ ap (λ (x : List ℕ). sets x (at + length done) v) t.are
            ∙ sym (sets_append old at done v)
            ∙ ap (sets old at) (sym (bytes_of_suc w vs i (omega arith)))
            ∙ ap (λ (k : ℕ). sets old at (bytes_of w (take k vs))) (sym (add-one i));
        length_is = ap length e ∙ length-sets now place v ∙ t.length_is;
      }

  pub written_end : n ≤ i → Written w vs n old at now i → now ≡ sets old at (bytes_of w (take n vs))
  written_end h t =
      let e : i ≡ n = omega (arith, t.high) in
      t.are ∙ ap (λ (k : ℕ). sets old at (bytes_of w (take k vs))) e
