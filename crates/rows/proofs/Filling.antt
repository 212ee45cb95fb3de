-- The filter of the set that has a row, in two areas: the entries and the blocks of the row, and zeros behind them. Assumes nothing.
use mathlib.Core.Path.{◌≡◌, sym, ap, ap₂, ◌∙◌, subst}
use mathlib.Core.Bool.{false, ◌||◌}
use mathlib.Core.List.{List}
use Prim.Native.Nat.{ℕ, ◌-◌, ◌*◌, ◌/◌, ◌%◌, ◌^◌, ◌≤◌, ◌<◌}
use native.Mathlib.Decide.{dec_lt}
use native.Mathlib.Nat.{lt_of_lt_of_le}
use native.Mathlib.Omega.{arith}
use lib.ListN.{length, get_or, take, drop, length-append, length-drop, length-take, get_or-append, get_or-eq_default}
use lib.Pow.{pow_mono}
use lib.Seq.{take_at}
use Rattle.sets.specs.Sets.{Agree, Empty, Falls, among}
use Rattle.sets.specs.Words.{digit, held}
use Rattle.sets.specs.Filter.{filled, joined, shown}
use Rattle.sets.specs.Row.{little}
use Rattle.sets.proofs.Bytes.{Bytes, length_numbers, little_lt}
use Rattle.sets.proofs.Canon.{Canon, canon_holds}
use Rattle.sets.proofs.Filters.{holds_same}
use Rattle.sets.proofs.Laws.{below_same, falls_low}
use Rattle.sets.proofs.Lists.{below_drop, below_take}
use Rattle.sets.proofs.Words.{held_zero}
use Rattle.bitvec.specs.Cells.{zeroed}
use Rattle.bitvec.specs.Parts.{Becomes, Room}
use Rattle.bitvec.proofs.Filling.{filled_rest, later_rest, zeroed_is, zeroed_first, zeroed_rest, length_zeroed}
use Rattle.bitchunks.specs.Rows.{blocks, edge_in, entries, width_bytes}
use Rattle.bitchunks.specs.declared.Width.{Width}
use Rattle.bitchunks.specs.declared.Width.TheVariants.{Two, Four}
use Rattle.bitchunks.specs.declared.Layout.{Layout}
use Rattle.rows.specs.Inner.{Readable, set_in}

-- an entry fits a cell of the top area
bytes_few : (w : Width) → width_bytes w ≤ 4
bytes_few Two = omega arith
bytes_few Four = omega arith

pub entry_small : (w : Width) (row : List ℕ) → Bytes row → (at : ℕ) {v : ℕ} → v ≡ little (take (width_bytes w) (drop at row)) → v < 2 ^ 32
entry_small w row b at {v} e =
    let bs : List ℕ = take (width_bytes w) (drop at row) in
    let l : 8 * length bs ≤ 32 = omega (arith, length-take (width_bytes w) (drop at row), bytes_few w) in
    subst (λ (x : ℕ). x < 2 ^ 32) (sym e)
    (lt_of_lt_of_le (little_lt bs (below_take (width_bytes w) (drop at row) 256 (below_drop at row 256 b))) (pow_mono l))

-- ---- cells, and zeros behind them up to the cell b

record Padded (cells : List ℕ) (n b : ℕ) (old now : List ℕ) : Type 0 where
  pub cell : (i : ℕ) → i < b → get_or now i 0 ≡ get_or cells i 0
  pub first : take n now ≡ cells
  pub room : b ≤ length now
  pub rest : drop b now ≡ drop b old

padded : (cells : List ℕ) {n b : ℕ} {old now : List ℕ} → length cells ≡ n → n ≤ b → b ≤ length old
    → now ≡ zeroed n b (filled cells n old) → Padded cells n b old now
padded cells {n} {b} {old} e h l q = subst (Padded cells n b old) (sym q) go
  where
    all : List ℕ
    all = filled cells n old

    long : b ≤ length all
    long = omega (arith, length-append cells (drop n old), length-drop n old)

    first : take n all ≡ cells
    first = take_at cells (drop n old) n e

    go : Padded cells n b old (zeroed n b all)
    go =
        record {
          cell = zeroed_is n b all h long (λ i. get_or cells i 0)
              (λ i a. get_or-append cells (drop n old) 0 i (omega arith)) (λ i a d. get_or-eq_default cells 0 {n = i} (omega arith));
          first = zeroed_first n b all h long ∙ first;
          room = omega (arith, long, length_zeroed n b all h long);
          rest = zeroed_rest n b all h long ∙ later_rest n b all old h (filled_rest cells n old e);
        }

padded_held : {cells : List ℕ} {n b : ℕ} {old now : List ℕ} → Padded cells n b old now → Agree (64 * b) (held now) (held cells)
unfolding held
padded_held P p a = ap (λ (x : ℕ). digit x (p % 64)) (P.cell (p / 64) (omega arith))

-- ---- the areas

module _ {s : Layout} {m k : ℕ} {row : List ℕ} (R : Readable s m k row) where
  edge_low : edge_in s m row ≤ 64 * k
  edge_low = falls_low (entries s row) (64 * k) (m - 1) R.falling

  pub blocks_low : s.n ≤ k
  blocks_low = omega (arith, R.counted, edge_low)

  -- no bit of the row stands at or above the boundary, and none past its blocks
  row_clear : Empty (held (blocks s row)) (edge_in s m row) (64 * k)
  row_clear p a b = go (dec_lt p (64 * s.n))
    where
      go : Dec (p < 64 * s.n) → held (blocks s row) p ≡ false
      go (yes l) = R.clear p a l
      go (no l) =
          held_zero (blocks s row) (p / 64) p
          (get_or-eq_default (blocks s row) 0 {n = p / 64} (omega (arith, length_numbers 8 s.n (drop s.at row)))) (omega arith)

module _ {s : Layout} {m k : ℕ} {row top₀ blocks₀ : List ℕ} (room : Room m k top₀ blocks₀) (R : Readable s m k row) where
  pub fill_asks : (s.n ≤ length blocks₀) × (8 * s.n ≤ length row - s.at)
  fill_asks = (omega (arith, blocks_low R, room.blocks_in), R.fits.blocks_in)

  abbrev tops : List ℕ
  tops = entries s row

  module _ {top₁ top : List ℕ} (f : top₁ ≡ filled (entries s row) s.count top₀) (z : top ≡ zeroed s.count m top₁) where
    length_tops : length tops ≡ s.count
    length_tops = length_numbers (width_bytes s.width) s.count row

    top_is_lem : Padded tops s.count m top₀ top
    top_is_lem = padded tops length_tops R.few room.cells (z ∙ ap (zeroed s.count m) f)

    -- the last cell is the boundary
    module _ {edge : ℕ} (e : edge ≡ get_or top (m - 1) 0) where
      edge_is_lem : edge ≡ edge_in s m row
      edge_is_lem = e ∙ top_is_lem.cell (m - 1) (omega (arith, room.some))

      module _ {blocks₁ bits : List ℕ} (g : blocks₁ ≡ filled (blocks s row) s.n blocks₀)
          (y : bits ≡ zeroed s.n k blocks₁) where
        bits_are_lem : Padded (blocks s row) s.n k blocks₀ bits
        bits_are_lem =
            padded (blocks s row) (length_numbers 8 s.n (drop s.at row)) (blocks_low R) room.blocks_in
            (y ∙ ap (zeroed s.n k) g)

        canon : Canon m k top bits s.count edge
        canon =
            record {
              few = R.few;
              falling = subst (Falls (64 * k)) (sym top_is_lem.first) R.falling;
              unused = λ i a b. top_is_lem.cell i b ∙ get_or-eq_default tops 0 {n = i} (omega (arith, length_tops));
              edge_is = e;
              clear = λ p a b. padded_held bits_are_lem p b ∙ row_clear R p (omega (arith, edge_is_lem)) b;
            }

        shows : Agree (64 * k) (shown top bits s.count edge) (set_in s m row)
        shows p h =
            ap₂ (λ (l : List ℕ) (x : ℕ). joined l x (held bits) p) top_is_lem.first edge_is_lem
            ∙ ap (◌||◌ (among tops p)) (below_same (edge_in s m row) (held bits) (held (blocks s row))
            (λ q l. padded_held bits_are_lem q (omega (arith, edge_low R))) p)

        pub fill_becomes : ((i : ℕ) → get_or bits i 0 < 2 ^ 64) → Becomes m k (set_in s m row) top₀ blocks₀ top bits s.count edge
        fill_becomes fit =
            record {
              holds =
                  holds_same m k (shown top bits s.count edge) (set_in s m row) shows
                  (canon_holds room.some top_is_lem.room canon bits_are_lem.room fit);
              top_rest = top_is_lem.rest;
              bit_rest = bits_are_lem.rest;
            }
