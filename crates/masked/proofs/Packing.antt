-- The slots of a key, filled from the members given one by one. Assumes nothing.
use mathlib.Core.Path.{◌≡◌, sym, ap, ◌∙◌, subst}
use mathlib.Core.Bool.{cond}
use mathlib.Core.List.{List, [], ◌∷◌}
use Prim.Native.Nat.{ℕ, zero, suc, ◌+◌, ◌-◌, ◌*◌, ◌/◌, ◌%◌, ◌^◌, ◌≤◌, ◌<◌}
use native.Mathlib.Nat.{add_assoc, div-add-mod', mod-eq_of_lt, mod-lt, mul-le-mul_right, suc-mul, zero-add}
use native.Mathlib.Omega.{arith}
use lib.ListN.{take}
use lib.Pow.{pow-add, pow_pos, shr_lt}
use borrow.Author.Tests.{lt-ltb, le-ltb}
use Rattle.sets.specs.Sets.{Set, all_below, members}
use Rattle.sets.specs.Masks.{packed}
use Rattle.sets.proofs.Keys.{packed_nil}
use Rattle.sets.proofs.Words.{shl_one}
use Rattle.sizes.specs.Sizes.{refusal}
use Rattle.bitchunks.specs.Walk.{Ahead}
use Rattle.bitchunks.specs.Ones.{Gives, rest}
use Rattle.bitchunks.specs.declared.Ones.{Ones}
use Rattle.bitchunks.proofs.Giving.{rest_none}
use Rattle.masked.specs.Inner.{key_told}
use Rattle.sets.specs.Refusals.{because, slot}
use Rattle.sizes.specs.declared.Refusal.{Refusal}
use Rattle.std.specs.Prelude.{None, Some, Result, Ok, Err}

-- ---- what is still to be packed

-- the answer where `slots` whole slots and the leftover are still to be filled from ps, below what `key` holds
unfoldable pub told : ℕ → ℕ → ℕ → ℕ → List ℕ → Result ℕ Refusal
told bits leftover slots key ps =
    cond (all_below (2 ^ bits) (take (suc slots) ps)) (Ok (key + packed bits leftover slots ps)) (Err (refusal (because slot)))

module _ (bits leftover : ℕ) where
  told_nil : (slots key : ℕ) → told bits leftover slots key [] ≡ Ok key
  unfolding told
  told_nil slots key = ap Ok (omega (arith, packed_nil bits leftover slots))

  module _ (p : ℕ) (ps : List ℕ) where
    told_bad : (slots key : ℕ) → 2 ^ bits ≤ p → told bits leftover slots key (p ∷ ps) ≡ Err (refusal (because slot))
    unfolding told
    told_bad slots key h = rw (le-ltb p (2 ^ bits) h)

    module _ (h : p < 2 ^ bits) where
      told_more : (slots key : ℕ)
          → told bits leftover (suc slots) key (p ∷ ps) ≡ told bits leftover slots (key + p * 2 ^ (slots * bits + leftover)) ps
      unfolding told packed
      told_more slots key = rw (lt-ltb p (2 ^ bits) h, add_assoc key (p * 2 ^ (slots * bits + leftover)) (packed bits leftover slots ps))

      told_last : (key : ℕ) → told bits leftover 0 key (p ∷ ps) ≡ Ok (key + p / 2 ^ (bits - leftover))
      unfolding told packed
      told_last key = rw (lt-ltb p (2 ^ bits) h)

-- ---- one slot

module _ (bits room p : ℕ) (h : p < 2 ^ bits) where
  slot_room : bits ≤ room → p * 2 ^ (room - bits) + 2 ^ (room - bits) ≤ 2 ^ room
  slot_room r =
      let q : 2 ^ room ≡ 2 ^ bits * 2 ^ (room - bits) = ap (λ (k : ℕ). 2 ^ k) (omega arith) ∙ pow-add 2 bits (room - bits) in
      omega (arith, suc-mul p (2 ^ (room - bits)), mul-le-mul_right (2 ^ (room - bits)) h)

  last_room : room ≤ bits → p / 2 ^ (bits - room) < 2 ^ room
  last_room r =
      let e : bits ≡ room + (bits - room) = omega arith in
      shr_lt room (bits - room) (subst (λ (k : ℕ). p < 2 ^ k) e h)

-- ---- the loop

-- `key` holds the slots filled, the low `room` bits are free, and the answer is told by what is still to be given
pub record Packing (S : Set) (tops : List ℕ) (bits : ℕ) (all : List ℕ) (key room passed end block : ℕ) : Type 0 where
  pub slots : ℕ
  pub room_is : room ≡ slots * bits + 64 % bits
  pub small : room ≤ 64
  pub spare : key + 2 ^ room ≤ 2 ^ 64
  pub same : key_told bits all ≡ told bits (64 % bits) slots key (rest S end block)
  pub ahead : Ahead tops passed end

pub pack_start : {tops : List ℕ} {k : ℕ} (S : Set) (bits : ℕ) → Ahead tops 0 k → Packing S tops bits (members S (64 * k)) 0 64 0 k 0
unfolding key_told told
pack_start {tops} {k} S bits a =
    record {
      slots = 64 / bits;
      room_is = sym (div-add-mod' 64 bits);
      small = omega arith;
      spare = omega arith;
      same = rw (rest_none S k, zero-add);
      ahead = a;
    }

module _ {S : Set} {tops : List ℕ} {bits : ℕ} {all : List ℕ} {key room passed end block : ℕ}
    (t : Packing S tops bits all key room passed end block) where
  pub pack_none : Gives S tops (rest S end block) None → Ok key ≡ key_told bits all
  pack_none g = sym (t.same ∙ ap (told bits (64 % bits) t.slots key) g ∙ told_nil bits (64 % bits) t.slots key)

  module _ (p : ℕ) (o : Ones) (step : Gives S tops (rest S end block) (Some (p, o))) where
    abbrev ps : List ℕ
    ps = rest S o.cursor.end o.block

    next : key_told bits all ≡ told bits (64 % bits) t.slots key (p ∷ ps)
    next = t.same ∙ ap (told bits (64 % bits) t.slots key) step.0

    module _ (w : (1 ≤ bits) × (bits ≤ 63)) where
      limit_is : 1 * 2 ^ bits % 2 ^ 64 ≡ 2 ^ bits
      limit_is = shl_one bits (omega arith)

      pub pack_bad : 1 * 2 ^ bits % 2 ^ 64 ≤ p → Err (refusal (because slot)) ≡ key_told bits all
      pack_bad b = sym (next ∙ told_bad bits (64 % bits) p ps t.slots key (omega (arith, limit_is)))

      module _ (b : p < 1 * 2 ^ bits % 2 ^ 64) where
        h : p < 2 ^ bits
        h = omega (arith, limit_is)

        -- a whole slot
        module _ (l : bits ≤ room) where
          slot_spare : key + p * 2 ^ (room - bits) < 2 ^ 64
          slot_spare = omega (arith, slot_room bits room p h l, t.spare, pow_pos (room - bits))

          slot_is : p * 2 ^ (room - bits) % 2 ^ 64 ≡ p * 2 ^ (room - bits)
          slot_is = mod-eq_of_lt (omega (arith, slot_spare))

          pub pack_fits : key + p * 2 ^ (room - bits) % 2 ^ 64 < 2 ^ 64
          pack_fits = rw slot_is slot_spare

          pub pack_turn : Packing S tops bits all (key + p * 2 ^ (room - bits) % 2 ^ 64) (room - bits) o.cursor.passed o.cursor.end o.block
          pack_turn = rw slot_is (go t.slots t.room_is next)
            where
              go : (n : ℕ) → room ≡ n * bits + 64 % bits → key_told bits all ≡ told bits (64 % bits) n key (p ∷ ps)
                  → Packing S tops bits all (key + p * 2 ^ (room - bits)) (room - bits) o.cursor.passed o.cursor.end o.block
              go zero e n = absurd (omega (arith, mod-lt 64 {m = bits} (omega arith)))
              go (suc slots) e n =
                  let f : room - bits ≡ slots * bits + 64 % bits = omega (arith, suc-mul slots bits) in
                  record {
                    slots = slots;
                    room_is = f;
                    small = omega (arith, t.small);
                    spare = omega (arith, slot_room bits room p h l, t.spare);
                    same =
                        n ∙ told_more bits (64 % bits) p ps h slots key
                        ∙ ap (λ (x : ℕ). told bits (64 % bits) slots (key + p * 2 ^ x) ps) (sym f);
                    ahead = step.1;
                  }

        -- the leftover bits
        module _ (l : room < bits) where
          pub last_fits : key + p / 2 ^ (bits - room) < 2 ^ 64
          last_fits = omega (arith, last_room bits room p h (omega arith), t.spare)

          pub pack_last : Ok (key + p / 2 ^ (bits - room)) ≡ key_told bits all
          pack_last = sym (go t.slots t.room_is next)
            where
              go : (n : ℕ) → room ≡ n * bits + 64 % bits → key_told bits all ≡ told bits (64 % bits) n key (p ∷ ps)
                  → key_told bits all ≡ Ok (key + p / 2 ^ (bits - room))
              go zero e n =
                  let f : 64 % bits ≡ room = omega arith in
                  n ∙ told_last bits (64 % bits) p ps h key ∙ ap (λ (x : ℕ). Ok (key + p / 2 ^ (bits - x))) f
              go (suc slots) e n = absurd (omega (arith, suc-mul slots bits))
