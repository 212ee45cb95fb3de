-- Bytes read from pairs of hexadecimal digits. Assumes nothing.
use mathlib.Core.Path.{◌≡◌, refl, sym, ap, ap₂, ◌∙◌}
use mathlib.Core.Bool.{Bool, true, false, cond, ◌&&◌}
use mathlib.Core.List.{List, ◌∷◌, ◌++◌, append_assoc}
use Prim.Native.Nat.{ℕ, suc, ◌+◌, ◌*◌, ◌<◌}
use native.Mathlib.Numerals.{add-one}
use native.Mathlib.Omega.{arith}
use lib.ListN.{length, get_or, set, take, drop}
use lib.Seq.{take-suc-set, drop-cons}
use Rattle.std.specs.Prelude.{None, Some}
use Rattle.sets.specs.Text.{all, is_hex, nibble, pairs}
use Rattle.decode.specs.Parts.{hex_value}

-- what a digit stands for

hex_is : (b : ℕ) {x : ℕ} → Some x ≡ hex_value b → (is_hex b ≡ true) × (x ≡ nibble b)
hex_is b {x} = go (is_hex b)
  where
    go : (t : Bool) → Some x ≡ cond t (Some (nibble b)) None → (t ≡ true) × (x ≡ nibble b)
    go true e = (refl, cc)
    go false e = cc

-- i bytes are decoded
pub record Decoding (s to : List ℕ) (i : ℕ) : Type 0 where
  pub hexadecimal : all is_hex s ≡ all is_hex (drop (2 * i) s)
  pub decoded : pairs s ≡ take i to ++ pairs (drop (2 * i) s)

module _ {s to : List ℕ} {i : ℕ} (t : Decoding s to i) where
  module _ (h : 2 * i + 1 < length s) where
    abbrev high : ℕ
    high = get_or s (2 * i) 0

    abbrev low : ℕ
    low = get_or s (2 * i + 1) 0

    pair : drop (2 * i) s ≡ high ∷ low ∷ drop (2 * (i + 1)) s
    pair =
        let y : suc (2 * i) ≡ 2 * i + 1 = omega arith in
        let z : suc (suc (2 * i)) ≡ 2 * (i + 1) = omega arith in
        drop-cons s (2 * i) 0 (omega arith)
        ∙ ap (◌∷◌ high) (drop-cons s (suc (2 * i)) 0 (omega arith) ∙ ap₂ (λ (j k : ℕ). get_or s j 0 ∷ drop k s) y z)

    tells : {a b : Bool} → is_hex high ≡ a → is_hex low ≡ b → all is_hex s ≡ (a && (b && all is_hex (drop (2 * (i + 1)) s)))
    tells p q = t.hexadecimal ∙ ap (all is_hex) pair ∙ ap₂ (λ (a b : Bool). a && (b && all is_hex (drop (2 * (i + 1)) s))) p q

    pub decoding_turn : (x y : ℕ) → i < length to → Some x ≡ hex_value high → Some y ≡ hex_value low → Decoding s (set to i (16 * x + y)) (i + 1)
    decoding_turn x y l e f =
        let H = hex_is high e in
        let L = hex_is low f in
        record {
          hexadecimal = tells H.0 L.0;
          decoded =
              t.decoded
              ∙ ap (λ (l : List ℕ). take i to ++ pairs l) pair
              ∙ sym (rw (add-one i, take-suc-set to i (16 * x + y) l, append_assoc, H.1, L.1));
        }
