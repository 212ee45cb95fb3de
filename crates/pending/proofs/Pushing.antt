-- A bucket pushed, and a list of them. Assumes nothing.
use mathlib.Core.Path.{◌≡◌, refl, sym, ap, subst, ◌∙◌}
use mathlib.Core.List.{List, [], ◌∷◌, ◌++◌}
use Prim.Native.Nat.{ℕ, zero, suc, ◌+◌, ◌/◌, ◌*◌, ◌≤◌, ◌<◌}
use native.Mathlib.Numerals.{add-one}
use native.Mathlib.Omega.{arith}
use lib.ListN.{length, get_or, take, drop, set, length-set}
use lib.Seq.{take-suc, take-suc-set, take_all, drop-set-lt, get_or-set_other}
use borrow.Author.Tests.{le-leb, lt-leb}
use Rattle.sets.specs.Sets.{Set, Below, flip, flips}
use Rattle.sets.specs.Words.{held, flip_bit}
use Rattle.sets.specs.Filter.{Rises, at_or_above}
use Rattle.sets.proofs.Laws.{flip_other, flips_append, flips_swap}
use Rattle.sets.proofs.Lists.{below_append}
use Rattle.sets.proofs.Words.{held_flip, length_flip_bit, drop_flip_bit}
use Rattle.bitvec.specs.Parts.{Room}
use Rattle.pending.specs.declared.Stage.{Stage}
use Rattle.pending.specs.Stages.{Staged, Moves, Stays}
use Rattle.pending.proofs.Settling.{rises_stay}
use Rattle.pending.proofs.Moving.{moves_stay, moves_trans, moves_room, stays_stay, stays_trans}

-- ---- one bucket

above_one : (split b : ℕ) → split ≤ b → at_or_above split (b ∷ []) ≡ 1
above_one split b h = rw (le-leb split b h)

above_none : (split b : ℕ) → b < split → at_or_above split (b ∷ []) ≡ 0
above_none split b h = rw (lt-leb split b h)

below_one : (n b : ℕ) → b < n → Below n (b ∷ [])
below_one n b h zero i = h
below_one n b h (suc j) i = absurd (omega arith)

module _ {m k : ℕ} {pending bits : List ℕ} {s : Stage} (room : Room (2 * m) k pending bits) (h : Staged m k pending bits s)
    (b : ℕ) (w : b < 64 * k) where
  -- one more bucket pending
  stored : (level : ℕ) (pending' : List ℕ) (r : Stage) → s.count < 2 * m → pending' ≡ set pending s.count b
      → r.split ≡ s.split → r.count ≡ s.count + 1
      → Moves m k level (b ∷ []) pending bits s pending' bits r
  stored level pending' r l e x y =
      let c : ℕ = s.count in
      let tk : take r.count pending' ≡ take c pending ++ (b ∷ []) =
      ap (λ (i : ℕ). take i pending') (y ∙ add-one c) ∙ ap (take (suc c)) e ∙ take-suc-set pending c b (omega (arith, room.cells)) in
      record {
        staged = record {
          few = omega arith;
          in_range = subst (Below (64 * k)) (sym tk) (below_append (take c pending) (b ∷ []) (64 * k) h.in_range (below_one (64 * k) b w));
          low = omega (arith, h.low);
          clear = λ p i. h.clear p (omega arith);
          unused =
              λ i a j. ap (λ (z : List ℕ). get_or z i 0) e ∙ get_or-set_other pending c i b 0 (λ q. absurd (omega arith))
              ∙ h.unused i (omega arith) j;
        };
        sets =
            λ p j. ap (λ (z : List ℕ). flips z (held bits) p) tk
            ∙ ap (λ (R : Set). R p) (flips_append (take c pending) (b ∷ []) (held bits));
        rises = subst (Rises level (64 * k) s.split) (sym x) (rises_stay level (64 * k) s.split h.low);
        pending_rest = ap (drop (2 * m)) e ∙ drop-set-lt (2 * m) pending c b l;
        bit_rest = refl;
        pending_length = ap length e ∙ length-set pending c b;
        bit_length = refl;
      }

  -- below the split its bit flips
  pub push_low : (level : ℕ) (bits' : List ℕ) → b < s.split → bits' ≡ flip_bit bits b
      → Moves m k level (b ∷ []) pending bits s pending bits' s × Stays m (b ∷ []) s s
  push_low level bits' l e =
      let c : List ℕ = take s.count pending in
      let d : b / 64 < k = omega arith in
      let hd : held bits' ≡ flip b (held bits) = ap held e ∙ held_flip bits b (omega (arith, room.blocks_in)) in
      let z = above_none s.split b l in (
        record {
          staged = record {
            few = h.few;
            in_range = h.in_range;
            low = h.low;
            clear = λ p i j. ap (λ (R : Set). R p) hd ∙ flip_other b (held bits) p (λ q. absurd (omega arith)) ∙ h.clear p i j;
            unused = h.unused;
          };
          sets = λ p j. ap (λ (R : Set). R p) (ap (flips c) hd ∙ flips_swap (b ∷ []) c (held bits) ∙ flips_append c (b ∷ []) (held bits));
          rises = rises_stay level (64 * k) s.split h.low;
          pending_rest = refl;
          bit_rest = ap (drop k) e ∙ drop_flip_bit k bits b d;
          pending_length = refl;
          bit_length = ap length e ∙ length_flip_bit bits b;
        },
        λ f. (refl, omega (arith, z)),
      )

  -- otherwise it waits
  pub push_high : (level : ℕ) (pending' : List ℕ) (r : Stage) → s.split ≤ b → s.count < 2 * m
      → (pending' ≡ set pending s.count b) × (r.split ≡ s.split) × (r.count ≡ s.count + 1)
      → Moves m k level (b ∷ []) pending bits s pending' bits r × Stays m (b ∷ []) s r
  push_high level pending' r a l e =
      let z = above_one s.split b a in
      (stored level pending' r l e.0 e.1 e.2, λ f. (e.1, omega (arith, z, e.2)))

-- once a full area is compacted
pub push_full : {m k level : ℕ} {pending₀ bits₀ pending bits : List ℕ} {s r : Stage} → Room (2 * m) k pending₀ bits₀ → (b : ℕ)
    → b < 64 * k → (pending' : List ℕ) (u : Stage)
    → s.split ≤ b → 2 * m ≤ s.count → Moves m k level [] pending₀ bits₀ s pending bits r × (r.count ≤ m)
    → (pending' ≡ set pending r.count b) × (u.split ≡ r.split) × (u.count ≡ r.count + 1)
    → Moves m k level (b ∷ []) pending₀ bits₀ s pending' bits u × Stays m (b ∷ []) s u
push_full {level = level} {s = s} room b w pending' u a l c e =
    let z = above_one s.split b a in
    let v = stored (moves_room c.0 room) c.0.staged b w level pending' u (omega (arith, room.some, c.1)) e.0 e.1 e.2 in
    (moves_trans c.0 v, λ f. absurd (omega (arith, z)))

-- ---- a list of buckets

-- the first i buckets listed are pushed
pub record Pushing (m k level : ℕ) (list pending₀ bits₀ : List ℕ) (s : Stage) (pending bits : List ℕ) (r : Stage) (i : ℕ) : Type 0 where
  pub few : i ≤ length list
  pub moves : Moves m k level (take i list) pending₀ bits₀ s pending bits r
  pub stays : Stays m (take i list) s r

pub push_start : (m k level : ℕ) (list pending bits : List ℕ) (s : Stage) → Staged m k pending bits s
    → Pushing m k level list pending bits s pending bits s 0
push_start m k level list pending bits s h =
    record { few = omega arith; moves = moves_stay m k level pending bits s h; stays = stays_stay m s }

module _ {m k level : ℕ} {list pending₀ bits₀ : List ℕ} {s : Stage} {pending bits : List ℕ} {r : Stage} {i : ℕ}
    (t : Pushing m k level list pending₀ bits₀ s pending bits r i) where
  pub push_end : length list ≤ i → Moves m k level list pending₀ bits₀ s pending bits r × Stays m list s r
  push_end h =
      subst (λ (l : List ℕ). Moves m k level l pending₀ bits₀ s pending bits r × Stays m l s r) (take_all i list h) (t.moves, t.stays)

  -- the next one
  pub push_turn : (b : ℕ) → i < length list → b ≡ get_or list i 0 → (pending' bits' : List ℕ) (u : Stage)
      → Moves m k level (b ∷ []) pending bits r pending' bits' u
      × Stays m (b ∷ []) r u → Pushing m k level list pending₀ bits₀ s pending' bits' u (i + 1)
  push_turn b h e pending' bits' u v =
      let tk : take i list ++ (b ∷ []) ≡ take (i + 1) list =
      ap (λ (x : ℕ). take i list ++ (x ∷ [])) e ∙ sym (ap (λ (x : ℕ). take x list) (add-one i) ∙ take-suc list i 0 h) in
      record {
        few = omega arith;
        moves = subst (λ (l : List ℕ). Moves m k level l pending₀ bits₀ s pending' bits' u) tk (moves_trans t.moves v.0);
        stays = subst (λ (l : List ℕ). Stays m l s u) tk (stays_trans m (take i list) (b ∷ []) s r u t.stays v.1);
      }
