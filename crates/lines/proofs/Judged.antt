-- What a line that is judged tells its reader. Assumes nothing.
use mathlib.Core.Path.{◌≡◌, refl, subst}
use mathlib.Core.Bool.{Bool, true, false, cond, ◌&&◌, ◌||◌}
use mathlib.Core.List.{List}
use mathlib.Core.Option.{Option, none, some}
use Prim.Native.Nat.{ℕ}
use native.Mathlib.Omega.{arith}
use lib.Dec.{eqb}
use lib.ListN.{length}
use Rattle.sets.specs.Sets.{same}
use Rattle.sets.specs.Configurations.{Config, config_at, known}
use Rattle.sets.specs.Refusals.{Verdict, areas_lent, is_mask, is_row_of, refused, taken, verdict}
use Rattle.sets.specs.Text.{Cut, Mask as Text-as-Mask, after, all, bare_config, config_line, cut, cut_at, decimal, from_hex, is, is_digit}
use Rattle.sets.specs.Text.{judged_mask, malformed, mask_line, numbered, or_malformed, refused_at, row_line, space, text, two_decimals}
use Rattle.sets.specs.Text.{unless_refused, whole}
use Rattle.lines.specs.Lines.{bytes_in, line_verdict}

is_same : {A : Type 0} {a b : A} → is a ≡ is b → a ≡ b
is_same e = cc

-- what was refused is no value
refused_is : {A B : Type 0} (n l : ℕ) (a : A) → refused_at n l ≡ is a → B
refused_is n l a e =
    let z : ◌≡◌ {A = ℕ} 0 1 = cc in
    absurd (omega arith)

-- ---- the first line

-- slices as long as the areas of configuration 10 have room
abbrev Areas : ℕ → Type 0
Areas n = verdict (areas_lent n 64 1040) ≡ taken

seven_areas : Areas 7
unfolding known config_at
seven_areas = refl

ten_areas : Areas 10
unfolding known config_at
ten_areas = refl

numbered_areas : (ds : List ℕ) (n : ℕ) → numbered ds ≡ is n → Areas n
numbered_areas ds n e = go (all is_digit ds && (eqb (length ds) 1 || eqb (length ds) 2)) (same ds (text "7")) (same ds (text "10")) e
  where
    go : (a b d : Bool) → cond a (cond b (is 7) (cond d (is 10) (refused_at 1 1))) (malformed 1) ≡ is n → Areas n
    go true true d e = subst Areas (is_same e) seven_areas
    go true false true e = subst Areas (is_same e) ten_areas
    go true false false e = refused_is 1 1 n e
    go false b d e = refused_is 11 1 n e

pub config_areas : (bs : List ℕ) (n : ℕ) → config_line bs ≡ is n → verdict (areas_lent n 64 1040) ≡ taken
unfolding config_line
config_areas bs n e = go (same bs (text "config")) (after (text "config ") bs) e
  where
    go : (b : Bool) (rest : Option (List ℕ)) → cond b (is bare_config) (or_malformed rest 1 numbered) ≡ is n → Areas n
    go true rest e = subst Areas (is_same e) seven_areas
    go false none e = refused_is 11 1 n e
    go false (some ds) e = numbered_areas ds n e

-- ---- the second line

abbrev Fits : Text-as-Mask → Type 0
Fits m = verdict (is_mask m.mask m.size) ≡ taken

module _ (m : Text-as-Mask) where
  judged_fits : (k : Text-as-Mask) → unless_refused (verdict (is_mask k.mask k.size)) 2 k ≡ is m → Fits m
  judged_fits k e = go (verdict (is_mask k.mask k.size)) refl e
    where
      go : (v : Verdict) → verdict (is_mask k.mask k.size) ≡ v → unless_refused v 2 k ≡ is m → Fits m
      go taken t e = subst Fits (is_same e) t
      go (refused x) t e = refused_is x.number 2 m e

  decimals_fit : (v s : Option ℕ) → or_malformed v 2 (λ mask. or_malformed s 2 (λ size. judged_mask mask size)) ≡ is m → Fits m
  decimals_fit none s e = refused_is 11 2 m e
  decimals_fit (some mask) none e = refused_is 11 2 m e
  decimals_fit (some mask) (some size) e = judged_fits (record { mask = mask; size = size }) e

  two_fit : (c : Cut) → two_decimals c ≡ is m → Fits m
  two_fit whole e = refused_is 11 2 m e
  two_fit (cut v s) e = decimals_fit (decimal v) (decimal s) e

pub mask_fits_lem : (bs : List ℕ) (m : Text-as-Mask) → mask_line bs ≡ is m → verdict (is_mask m.mask m.size) ≡ taken
unfolding mask_line
mask_fits_lem bs m e = go (after (text "mask ") bs) e
  where
    go : (rest : Option (List ℕ)) → or_malformed rest 2 (λ r. two_decimals (cut_at space r)) ≡ is m → Fits m
    go none e = refused_is 11 2 m e
    go (some r) e = two_fit m (cut_at space r) e

-- ---- the third and the fourth line

pub row_line_lem : (c : Config) (l : ℕ) (bs : List ℕ) → row_line c l bs ≡ unless_refused (line_verdict c (from_hex bs)) l (bytes_in (from_hex bs))
unfolding row_line
row_line_lem c l bs = go (from_hex bs)
  where
    go : (o : Option (List ℕ))
        → or_malformed o l (λ row. unless_refused (verdict (is_row_of c row)) l row) ≡ unless_refused (line_verdict c o) l (bytes_in o)
    go none = refl
    go (some row) = refl
