-- A builder's set in the blocks of a filter's areas: its bits, then its pending buckets flipped in them. Assumes nothing.
use mathlib.Core.Path.{◌≡◌, sym, ap, ◌∙◌}
use mathlib.Core.List.{List}
use Prim.Native.Nat.{ℕ, ◌*◌, ◌≤◌}
use native.Mathlib.Omega.{arith}
use lib.ListN.{length, take, drop, length-append}
use lib.Seq.{length-take-le}
use Rattle.sets.specs.Sets.{Agree, Below, differ, flips, odd}
use Rattle.sets.specs.Words.{held, flip_bits}
use Rattle.sets.specs.Filter.{filled}
use Rattle.sets.proofs.Filters.{flips_at}
use Rattle.bitvec.specs.Parts.{Becomes, Room, SplitOf}
use Rattle.bitvec.proofs.Filling.{copied_held, filled_rest}
use Rattle.diff_count.proofs.Flips.{becomes, flipped_at, flipped_rest}

module _ {m k : ℕ} {top₀ blocks₀ : List ℕ} (pending bits : List ℕ) (room : Room m k top₀ blocks₀)
    (pre : (k ≤ length bits) × Below (64 * k) pending) where
  abbrev copied : List ℕ
  copied = filled (take k bits) k blocks₀

  built : {now : List ℕ} → now ≡ flip_bits copied pending → Agree (64 * k) (held now) (flips pending (held bits))
  built {now} e p h =
      flipped_at k copied pending now (omega (arith, length-append (take k bits) (drop k blocks₀), length-take-le k bits pre.0)) pre.1 e p
      ∙ ap (differ (odd pending p)) (copied_held k bits blocks₀ pre.0 p h)
      ∙ sym (flips_at pending (held bits) p)

  pub built_becomes : {now top blocks : List ℕ} {count edge : ℕ} → now ≡ flip_bits copied pending
      → SplitOf m k top₀ now top blocks count edge
      → Becomes m k (flips pending (held bits)) top₀ blocks₀ top blocks count edge
  built_becomes {now} e s =
      becomes (flips pending (held bits)) blocks₀ (built e)
      (flipped_rest k copied pending now pre.1 e ∙ filled_rest (take k bits) k blocks₀ (length-take-le k bits pre.0))
      s
