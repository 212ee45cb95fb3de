-- A number of at most 8 bytes, read and written by way of all 8. Assumes nothing.
use mathlib.Core.Path.{◌≡◌, refl, ap, ◌∙◌}
use mathlib.Core.List.{List, [], ◌∷◌, ◌++◌, append_assoc}
use Prim.Native.Nat.{ℕ, zero, suc, ◌+◌, ◌-◌, ◌*◌, ◌/◌, ◌%◌, ◌^◌, ◌≤◌}
use native.Mathlib.Nat.{pow-succ'}
use native.Mathlib.Omega.{arith}
use borrow.Rule.Slice.PartMut.{put_mid}
use lib.ListN.{length, take, drop, length-append, length-drop}
use lib.Seq.{sets, drop-drop, length-take-le}
use mir.Syntax.{w64}
use Rattle.std.specs.Prelude.{slice_index}
use Rattle.std.specs.Int.{from_le_bytes, to_le_bytes, byte_worth, sum_through}
use Rattle.std.proofs.lemmas.List.Edits.{sets-eq}
use Rattle.sets.specs.Row.{bytes, little}
use Rattle.sets.proofs.Bytes.{length_bytes}

-- ---- read

worth : List ℕ → ℕ → ℕ
worth bs k = sum_through (λ i. byte_worth i (slice_index bs i)) k

worth_none : (k : ℕ) → worth [] k ≡ 0
unfolding worth
worth_none zero = refl
worth_none (suc k) = omega (arith, worth_none k)

worth_more : (b : ℕ) (bs : List ℕ) (k : ℕ) → worth (b ∷ bs) (suc k) ≡ b + 256 * worth bs k
unfolding worth
worth_more b bs zero = omega arith
worth_more b bs (suc k) =
    let x : ℕ = slice_index bs (suc k) in
    let e : x * 256 ^ suc (suc k) ≡ 256 * (x * 256 ^ suc k) = omega (arith, ap (◌*◌ x) (pow-succ' 256 (suc k))) in
    omega (arith, worth_more b bs k)

little_all : (bs : List ℕ) (k : ℕ) → length bs ≤ suc k → worth bs k ≡ little bs
unfolding worth
little_all [] k h = worth_none k
little_all (b ∷ []) zero h = omega arith
little_all (b ∷ c ∷ bs) zero h = absurd (omega arith)
little_all (b ∷ bs) (suc k) h = omega (arith, worth_more b bs k, little_all bs k (omega arith))

little_none : (n : ℕ) (ys : List ℕ) → little ys ≡ 0 → little (drop n ys) ≡ 0
little_none zero ys h = h
little_none (suc n) [] h = h
little_none (suc n) (y ∷ ys) h = little_none n ys (omega arith)

little_more : (xs ys : List ℕ) → little ys ≡ 0 → little (xs ++ ys) ≡ little xs
little_more [] ys h = h
little_more (x ∷ xs) ys h = omega (arith, little_more xs ys h)

pub read_as : (n at : ℕ) (from : List ℕ) {word : List ℕ} (rest : List ℕ) {v : ℕ} → n ≤ 8 → at + n ≤ length from
    → word ≡ take (at + n - at) (drop at from) → length rest ≡ 8 → little rest ≡ 0 → v ≡ from_le_bytes w64 (word ++ drop n rest)
    → v ≡ little (take n (drop at from))
unfolding worth
read_as n at from {word} rest h l e m z f =
    let k : at + n - at ≡ n = omega arith in
    let g : word ≡ take n (drop at from) = e ∙ ap (λ (x : ℕ). take x (drop at from)) k in
    let w : length word ≡ n = ap length g ∙ length-take-le n (drop at from) (omega (arith, length-drop at from)) in
    f ∙ little_all (word ++ drop n rest) 7 (omega (arith, length-append word (drop n rest), length-drop n rest))
    ∙ little_more word (drop n rest) (little_none n rest z) ∙ ap little g

-- ---- written

bytes_eight : (v : ℕ) → to_le_bytes w64 v ≡ bytes 8 v
bytes_eight v = grind arith

take_bytes : (n k v : ℕ) → n ≤ k → take n (bytes k v) ≡ bytes n v
take_bytes zero k v h = refl
take_bytes (suc n) zero v h = absurd (omega arith)
take_bytes (suc n) (suc k) v h = ap (◌∷◌ (v % 256)) (take_bytes n k (v / 256) (omega arith))

pub written_as : (n at : ℕ) (to : List ℕ) {word low : List ℕ} (v : ℕ) → n ≤ 8 → at + n ≤ length to → word ≡ to_le_bytes w64 v
    → low ≡ take n word → put_mid at (at + n - at) to low ≡ sets to at (bytes n v)
written_as n at to v h l e f =
    let k : at + n - at ≡ n = omega arith in
    let g : _ ≡ bytes n v = f ∙ ap (take n) (e ∙ bytes_eight v) ∙ take_bytes n 8 v h in
    rw (g, k, sets-eq (bytes n v) to at (omega (arith, length_bytes n v)), length_bytes n v, drop-drop n at to, append_assoc)
