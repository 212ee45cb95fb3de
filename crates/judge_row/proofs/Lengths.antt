-- What holds of every line's sizes, how a row's length is judged, and where the row's parts stand. Assumes nothing.
use mathlib.Core.Path.{◌≡◌, sym, ap, ◌∙◌, subst}
use mathlib.Core.Bool.{Bool, true, false, ◌&&◌, ◌||◌, and-true, and-false, or-false}
use mathlib.Core.Logic.{◌⊎◌}
use mathlib.Core.List.{List}
use Prim.Native.Nat.{ℕ, ◌+◌, ◌-◌, ◌*◌, ◌/◌, ◌%◌, ◌^◌, ◌≤◌, ◌<◌, min}
use native.Mathlib.Omega.{arith}
use lib.Dec.{eqb, leb}
use lib.ListN.{length}
use borrow.Author.Tests.{le-leb, lt-leb}
use Rattle.sets.specs.Configurations.{config_at}
use Rattle.sets.specs.Row.{length_fits}
use Rattle.sets.proofs.Configurations.{entry_width, line_at}
use Rattle.sizes.specs.Sizes.{sizes_at}
use Rattle.sizes.specs.declared.Sizes.{Sizes}
use Rattle.bitchunks.specs.Rows.{layout_of, width_bytes, width_of}
use Rattle.bitchunks.specs.declared.Layout.{Layout}
use Rattle.bitchunks.specs.declared.Width.{Width}
use Rattle.bitchunks.proofs.Rows.{width_is}

-- ---- every line

-- an entry has 2 or 4 bytes, and the entries of a row have not many
pub row_sizes : {s : Sizes} (n : ℕ) → s ≡ sizes_at n
    → ((s.entry ≡ 2) ⊎ (s.entry ≡ 4)) × (0 < s.entry) × (s.top * s.entry ≤ 2 ^ 32)
unfolding sizes_at
row_sizes n e =
    subst (λ (s : Sizes). ((s.entry ≡ 2) ⊎ (s.entry ≡ 4)) × (0 < s.entry) × (s.top * s.entry ≤ 2 ^ 32)) (sym e)
    (entry_width n, omega (arith, (line_at n).sound.fits), omega (arith, (line_at n).short))

-- ---- length_fits

-- the test, at the sizes
abbrev fits : Sizes → List ℕ → Bool
fits s row =
    leb (length row) s.longest
    && ((eqb (length row % s.entry) 0 && leb (length row) (s.top * s.entry))
    || (leb (s.top * s.entry + 9) (length row) && eqb ((length row - (s.top * s.entry + 1)) % 8) 0))

module _ (row : List ℕ) (s : Sizes) (n : ℕ) (e : s ≡ sizes_at n) where
  tells : {b : Bool} → fits s row ≡ b → b ≡ length_fits (config_at n) row
  unfolding sizes_at length_fits
  tells q = sym q ∙ ap (λ (x : Sizes). fits x row) e

  pub too_long : s.longest < length row → false ≡ length_fits (config_at n) row
  too_long h = tells (rw (lt-leb (length row) s.longest h))

  module _ (h : length row ≤ s.longest) where
    pub only_entries : length row ≤ s.top * s.entry → eqb (length row % s.entry) 0 ≡ length_fits (config_at n) row
    only_entries l =
        let whole : Bool = eqb (length row % s.entry) 0 in
        tells
        (rw (
          le-leb (length row) s.longest h,
          le-leb (length row) (s.top * s.entry) l,
          lt-leb (s.top * s.entry + 9) (length row) (omega arith),
        )
        (or-false (whole && true) ∙ and-true whole))

    module _ (l : s.top * s.entry < length row) where
      past : fits s row ≡ (leb (s.top * s.entry + 9) (length row) && eqb ((length row - (s.top * s.entry + 1)) % 8) 0)
      past = rw (le-leb (length row) s.longest h, lt-leb (length row) (s.top * s.entry) l, and-false (eqb (length row % s.entry) 0))

      pub with_blocks : s.top * s.entry + 9 ≤ length row
          → eqb ((length row - (s.top * s.entry + 1)) % 8) 0 ≡ length_fits (config_at n) row
      with_blocks g = tells (past ∙ rw (le-leb (s.top * s.entry + 9) (length row) g))

      pub too_short : length row < s.top * s.entry + 9 → leb (s.top * s.entry + 9) (length row) ≡ length_fits (config_at n) row
      too_short g = tells (past ∙ rw (lt-leb (s.top * s.entry + 9) (length row) g))

-- ---- layout_of

-- the layout, at the sizes
abbrev layout_at : Sizes → List ℕ → Layout
layout_at s row =
    record {
      width = width_of s.entry;
      count = min s.top (length row / s.entry);
      at = s.top * s.entry + 1;
      first = 0;
      n = (length row - (s.top * s.entry + 1)) / 8;
    }

pub layout_is : (row : List ℕ) {s : Sizes} (n : ℕ) → s ≡ sizes_at n → {w : Width} {count k : ℕ} → width_bytes w ≡ s.entry
    → count ≡ min s.top (length row / s.entry) → k ≡ length row - (s.top * s.entry + 1)
    → record { width = w; count = count; at = s.top * s.entry + 1; first = 0; n = k / 8 } ≡ layout_of (config_at n) row
unfolding sizes_at
layout_is row {s} n e {w} {count} {k} a c b =
    let v : w ≡ width_of s.entry = width_is w a in
    let q : record { width = w; count = count; at = s.top * s.entry + 1; first = 0; n = k / 8 } ≡ layout_at s row = cc in
    q ∙ ap (λ (x : Sizes). layout_at x row) e
