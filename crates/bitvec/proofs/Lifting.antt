-- The largest buckets taken out of the blocks one by one, from the top, into the top cells. Assumes nothing.
use mathlib.Core.Path.{◌≡◌, refl, sym, ap, ◌∙◌, subst₂}
use mathlib.Core.Bool.{true, false}
use mathlib.Core.List.{List, [], ◌∷◌, ◌++◌}
use Prim.Native.Nat.{ℕ, ◌+◌, ◌-◌, ◌*◌, ◌/◌, ◌%◌, ◌^◌, ◌≤◌, ◌<◌}
use native.Mathlib.Decide.{dec_le}
use native.Mathlib.Numerals.{add-one}
use native.Mathlib.Omega.{arith}
use lib.Bits.{bit_xor}
use lib.ListN.{length, get_or, take, drop, set, length-set, length-append}
use lib.Seq.{take-suc-set, drop-set-lt, get_or-set_same, get_or-take, length-take-le, take_all, take_at}
use Rattle.sets.specs.Sets.{Set, Empty, flip, members}
use Rattle.sets.specs.Words.{TopDigit, digit, held, flip_bit}
use Rattle.sets.proofs.Laws.{below_out}
use Rattle.sets.proofs.Words.{held_zero, held_block, held_flip}
use Rattle.sets.proofs.Lift.{Lifting, lift_none, lift_next, lift_full, lift_all, lift_empty}
use Rattle.bitvec.specs.Cells.{Zeros}
use Rattle.bitvec.specs.Parts.{Lifted, Room}

-- `count` buckets are taken out, `block` is what the block i has left, and the blocks above it have nothing left
pub record Turn (m k : ℕ) (top₀ blocks₀ top blocks : List ℕ) (count i block : ℕ) : Type 0 where
  pub few : count ≤ m
  pub ends : i ≤ k
  pub edge : ℕ
  pub lifting : Lifting (held blocks₀) (64 * k) (take count top) (held blocks) edge
  pub in_hand : i < k → get_or blocks i 0 ≡ block
  -- no block is read yet where i is k
  pub is_read : 0 < block → i < k
  pub clear : Empty (held blocks) (64 * (i + 1)) (64 * k)
  pub top_rest : drop m top ≡ drop m top₀
  pub bit_rest : drop k blocks ≡ drop k blocks₀
  pub top_length : length top ≡ length top₀
  pub bit_length : length blocks ≡ length blocks₀

pub start : (m k : ℕ) (top blocks : List ℕ) → Turn m k top blocks top blocks 0 k 0
start m k top blocks =
    record {
      few = omega arith;
      ends = omega arith;
      edge = 64 * k;
      lifting = lift_none (held blocks) (64 * k);
      in_hand = λ h. absurd (omega arith);
      is_read = λ h. absurd (omega arith);
      clear = λ q a b. absurd (omega arith);
      top_rest = refl;
      bit_rest = refl;
      top_length = refl;
      bit_length = refl;
    }

-- to store a block with its digit j changed is to flip its bucket
flipped : (l : List ℕ) (i j block one : ℕ) → j < 64 → get_or l i 0 ≡ block → one ≡ 2 ^ j → set l i (bit_xor block one) ≡ flip_bit l (64 * i + j)
unfolding flip_bit
flipped l i j block one s e o =
    let d : (64 * i + j) / 64 ≡ i = omega arith in
    let r : (64 * i + j) % 64 ≡ j = omega arith in
    rw (d, r, e, o)

module _ {m k : ℕ} {top₀ blocks₀ top blocks : List ℕ} {count i block : ℕ} (r : Room m k top₀ blocks₀)
    (t : Turn m k top₀ blocks₀ top blocks count i block) where
  length_taken : length (take count top) ≡ count
  length_taken = length-take-le count top (omega (arith, t.few, t.top_length, r.cells))

  -- nothing is left in the block in hand
  module _ (z : block ≡ 0) where
    clear_more : Empty (held blocks) (64 * i) (64 * k)
    clear_more q a b = go (dec_le (64 * (i + 1)) q)
      where
        go : Dec (64 * (i + 1) ≤ q) → held blocks q ≡ false
        go (yes h) = t.clear q h b
        go (no h) = held_zero blocks i q (t.in_hand (omega arith) ∙ z) (omega arith)

    -- blocks that are 0 are passed over, down to the first n
    module _ (n : ℕ) (o : (n ≤ length (take i blocks)) × Zeros n (length (take i blocks)) (take i blocks)) where
      long : length (take i blocks) ≡ i
      long = length-take-le i blocks (omega (arith, t.ends, t.bit_length, r.blocks_in))

      clear_down : Empty (held blocks) (64 * n) (64 * k)
      clear_down q a b = go (dec_le (64 * i) q)
        where
          go : Dec (64 * i ≤ q) → held blocks q ≡ false
          go (yes h) = clear_more q h b
          go (no h) =
              let e : get_or (take i blocks) (q / 64) 0 ≡ get_or blocks (q / 64) 0 = get_or-take i blocks (q / 64) 0 (omega arith) in
              held_zero blocks (q / 64) q (sym e ∙ o.1 (q / 64) (omega arith) (omega (arith, long))) (omega arith)

      -- the next one is read
      pub down : 0 < n → Turn m k top₀ blocks₀ top blocks count (n - 1) (get_or blocks (n - 1) 0)
      down h =
          record {
            few = t.few;
            ends = omega (arith, t.ends, long, o.0);
            edge = t.edge;
            lifting = t.lifting;
            in_hand = λ l. refl;
            is_read = λ l. omega (arith, t.ends, long, o.0);
            clear = λ q a b. clear_down q (omega arith) b;
            top_rest = t.top_rest;
            bit_rest = t.bit_rest;
            top_length = t.top_length;
            bit_length = t.bit_length;
          }

      -- there is no next one
      pub emptied : n ≡ 0 → count < m → Lifted m k top₀ blocks₀ top blocks count
      emptied e l =
          let L = t.lifting in
          let void : (q : ℕ) → q < 64 * k → held blocks q ≡ false = λ q h. clear_down q (omega arith) h in
          let w : 64 * k ≤ 64 * k = omega arith in
          let a : members (held blocks₀) (64 * k) ≡ take count top = lift_all L (64 * k) w L.within void in
          record {
            count = omega (arith, length_taken, ap length a);
            tops = sym (ap (take count) a ∙ take_all count (take count top) (omega (arith, length_taken)));
            bits = lift_empty L (64 * k) w L.within void m (omega (arith, length_taken));
            top_rest = t.top_rest;
            bit_rest = t.bit_rest;
            top_length = t.top_length;
            bit_length = t.bit_length;
          }

  -- the highest bucket of the block in hand is the largest left, and goes to the next cell
  module _ (j : ℕ) (l : count < m) (h : i < k) (d : TopDigit block j) where
    is_left : held blocks (64 * i + j) ≡ true
    is_left = held_block blocks i j d.small ∙ ap (λ (x : ℕ). digit x j) (t.in_hand h) ∙ d.is_set

    above : (q : ℕ) → 64 * i + j < q → q < 64 * k → held blocks q ≡ false
    above q a b = go (dec_le (64 * (i + 1)) q)
      where
        go : Dec (64 * (i + 1) ≤ q) → held blocks q ≡ false
        go (yes n) = t.clear q n b
        go (no n) =
            let s : q ≡ 64 * i + (q - 64 * i) = omega arith in
            ap (held blocks) s ∙ held_block blocks i (q - 64 * i) (omega arith)
            ∙ ap (λ (x : ℕ). digit x (q - 64 * i)) (t.in_hand h) ∙ d.above (q - 64 * i) (omega arith)

    pub turn : (p one : ℕ) → p ≡ 64 * i + j → one ≡ 2 ^ j
        → Turn m k top₀ blocks₀ (set top count p) (set blocks i (bit_xor block one)) (count + 1) i (bit_xor block one)
    turn p one e o =
        let n : i < length blocks = omega (arith, t.bit_length, r.blocks_in) in
        let L = lift_next t.lifting (64 * i + j) (64 * k) (omega arith) t.lifting.within (omega (arith, d.small)) is_left above in
        let tk : take count top ++ ((64 * i + j) ∷ []) ≡ take (count + 1) (set top count p) =
        ap (λ (x : ℕ). take count top ++ (x ∷ [])) (sym e)
        ∙ sym (ap (λ (x : ℕ). take x (set top count p)) (add-one count)
        ∙ take-suc-set top count p (omega (arith, t.top_length, r.cells))) in
        let hd : flip (64 * i + j) (held blocks) ≡ held (set blocks i (bit_xor block one)) =
        sym (ap held (flipped blocks i j block one d.small (t.in_hand h) o) ∙ held_flip blocks (64 * i + j) (omega (arith, d.small))) in
        let L' : Lifting (held blocks₀) (64 * k) (take (count + 1) (set top count p)) (held (set blocks i (bit_xor block one)))
        (64 * i + j) =
        subst₂ (λ (x : List ℕ) (y : Set). Lifting (held blocks₀) (64 * k) x y (64 * i + j)) tk hd L in
        record {
          few = omega arith;
          ends = omega arith;
          edge = 64 * i + j;
          lifting = L';
          in_hand = λ _. get_or-set_same blocks i (bit_xor block one) 0 n;
          is_read = λ _. h;
          clear = λ q a b. L'.left q b ∙ below_out (64 * i + j) (held blocks₀) q (omega (arith, d.small));
          top_rest = drop-set-lt m top count p l ∙ t.top_rest;
          bit_rest = drop-set-lt k blocks i (bit_xor block one) h ∙ t.bit_rest;
          top_length = length-set top count p ∙ t.top_length;
          bit_length = length-set blocks i (bit_xor block one) ∙ t.bit_length;
        }

  -- with m taken out
  pub full : m ≤ count → Lifted m k top₀ blocks₀ top blocks count
  full l =
      let e : count ≡ m = omega (arith, t.few) in
      let L = t.lifting in
      let rest : List ℕ = members (held blocks₀) t.edge in
      record {
        count = omega (arith, length_taken, ap length L.taken ∙ length-append (take count top) rest);
        tops = sym (ap (take count) L.taken ∙ take_at (take count top) rest count length_taken);
        bits = lift_full L m r.some (length_taken ∙ e);
        top_rest = t.top_rest;
        bit_rest = t.bit_rest;
        top_length = t.top_length;
        bit_length = t.bit_length;
      }
