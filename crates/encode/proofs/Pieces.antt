-- Pieces put one after another are one piece, and what is put where a text ends is put to the text. Assumes nothing.
use mathlib.Core.Path.{◌≡◌, refl, sym, ap, ◌∙◌}
use mathlib.Core.List.{List, ◌++◌, append_assoc}
use Prim.Native.Nat.{ℕ, ◌+◌, ◌≤◌}
use native.Mathlib.Omega.{arith}
use borrow.Rule.Slice.PartMut.{put_mid}
use lib.ListN.{length, take, drop, length-append}
use lib.Seq.{sets, sets-eq, take_at, length-take-le, take-length}
use Rattle.std.proofs.lemmas.Slice.{put_mid-paste}
use Rattle.sets.proofs.Lists.{sets_append}
use Rattle.encode.specs.Pieces.{Puts, PutsAt}

module _ {m : ℕ} {a t₀ t₁ : List ℕ} where
  pub puts_more : {n : ℕ} → m ≤ n → Puts m a t₀ t₁ → Puts n a t₀ t₁
  puts_more h p = record { text = p.text; near = omega arith }

  pub puts_then : {k : ℕ} {b t₂ : List ℕ} → Puts m a t₀ t₁ → Puts k b t₁ t₂ → Puts (m + k) (a ++ b) t₀ t₂
  puts_then {b = b} p q = record { text = q.text ∙ ap (λ (l : List ℕ). l ++ b) p.text ∙ append_assoc t₀ a b; near = omega arith }

module _ {m : ℕ} {a out : List ℕ} {at : ℕ} {out₁ : List ℕ} {r₁ : ℕ} where
  pub puts_at_more : {n : ℕ} → m ≤ n → PutsAt m a out at out₁ r₁ → PutsAt n a out at out₁ r₁
  puts_at_more h p = record { text = p.text; end = p.end; near = omega arith }

  pub puts_at_then : {k : ℕ} {b out₂ : List ℕ} {r₂ : ℕ} → PutsAt m a out at out₁ r₁ → PutsAt k b out₁ r₁ out₂ r₂
      → PutsAt (m + k) (a ++ b) out at out₂ r₂
  puts_at_then {b = b} p q =
      record {
        text = q.text
            ∙ ap (λ (l : List ℕ). sets l r₁ b) p.text
            ∙ ap (λ (i : ℕ). sets (sets out at a) i b) p.end
            ∙ sym (sets_append out at a b);
        end = omega (arith, length-append a b);
        near = omega arith;
      }

  -- a text of n bytes at most, shown up to where it ends
  pub puts_to_text : {n : ℕ} {t : List ℕ} → length out ≡ n → at ≤ n → length t + m ≤ n → take at out ≡ t
      → PutsAt m a out at out₁ r₁ → Puts m a t (take r₁ out₁)
  puts_to_text {t = t} l h k e p =
      let from : length t ≡ at = sym (ap length e) ∙ length-take-le at out (omega arith) in
      let rest : List ℕ = drop (at + length a) out in
      let whole : out₁ ≡ t ++ a ++ rest = p.text ∙ sets-eq a out at (omega arith) ∙ ap (λ (x : List ℕ). x ++ a ++ rest) e in
      let shown : take r₁ out₁ ≡ t ++ a = ap (take r₁) whole ∙ take_at (t ++ a) rest r₁ (omega (arith, length-append t a)) in
      record { text = shown; near = omega (arith, ap length shown, length-append t a) }

-- a copy of the bytes to a part of the buffer
pub copied : {a out now : List ℕ} {at k : ℕ} → at + length a ≤ length out → k ≡ length a → now ≡ a
    → PutsAt (length a) a out at (put_mid at k out now) (at + length a)
copied {a} {out} {now} {at} {k} h n e =
    record {
      text = put_mid-paste at k out now a (length a) e (sym n) refl ∙ ap (λ (l : List ℕ). take at out ++ l ++ drop (at + length a) out) (take-length a)
          ∙ sym (sets-eq a out at h);
      end = refl;
      near = omega arith;
    }
