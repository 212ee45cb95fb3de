-- Moves of a builder, one after the other. Assumes nothing.
use mathlib.Core.Path.{◌≡◌, refl, sym, ap, ◌∙◌}
use mathlib.Core.List.{List, [], ◌∷◌, ◌++◌}
use Prim.Native.Nat.{ℕ, ◌+◌, ◌*◌}
use native.Mathlib.Nat.{add-zero, zero-add}
use native.Mathlib.Omega.{arith}
use Rattle.sets.specs.Sets.{Set, flips}
use Rattle.sets.specs.Filter.{at_or_above, builder_set}
use Rattle.sets.proofs.Laws.{flips_append}
use Rattle.sets.proofs.Filters.{flips_agree}
use Rattle.bitvec.specs.Parts.{Room}
use Rattle.pending.specs.declared.Stage.{Stage}
use Rattle.pending.specs.Stages.{Staged, Moves, Stays}
use Rattle.pending.proofs.Settling.{rises_stay, rises_trans}

pub moves_stay : (m k level : ℕ) (pending bits : List ℕ) (s : Stage) → Staged m k pending bits s
    → Moves m k level [] pending bits s pending bits s
moves_stay m k level pending bits s h =
    record {
      staged = h;
      sets = λ p l. refl;
      rises = rises_stay level (64 * k) s.split h.low;
      pending_rest = refl;
      bit_rest = refl;
      pending_length = refl;
      bit_length = refl;
    }

pub moves_trans : {m k level : ℕ} {bs cs pending₀ bits₀ pending bits pending' bits' : List ℕ} {s r u : Stage}
    → Moves m k level bs pending₀ bits₀ s pending bits r
    → Moves m k level cs pending bits r pending' bits' u → Moves m k level (bs ++ cs) pending₀ bits₀ s pending' bits' u
moves_trans {m} {k} {level} {bs} {cs} {pending₀} {bits₀} {pending} {bits} {pending'} {bits'} {s} {r} {u} a b =
    let S : Set = builder_set pending₀ bits₀ s.count in
    record {
      staged = b.staged;
      sets = λ p l.
          b.sets p l
          ∙ flips_agree cs (builder_set pending bits r.count) (flips bs S) p (a.sets p l)
          ∙ ap (λ (R : Set). R p) (sym (flips_append bs cs S));
      rises = rises_trans level (64 * k) s.split r.split u.split a.rises b.rises;
      pending_rest = b.pending_rest ∙ a.pending_rest;
      bit_rest = b.bit_rest ∙ a.bit_rest;
      pending_length = b.pending_length ∙ a.pending_length;
      bit_length = b.bit_length ∙ a.bit_length;
    }

pub moves_room : {m k level : ℕ} {bs pending₀ bits₀ pending bits : List ℕ} {s r : Stage}
    → Moves m k level bs pending₀ bits₀ s pending bits r
    → Room (2 * m) k pending₀ bits₀ → Room (2 * m) k pending bits
moves_room a r =
    record {
      some = r.some;
      cells = omega (arith, a.pending_length, r.cells);
      blocks_in = omega (arith, a.bit_length, r.blocks_in);
      small = r.small;
    }

-- ---- where all finds room

above_append : (split : ℕ) (bs cs : List ℕ) → at_or_above split (bs ++ cs) ≡ at_or_above split bs + at_or_above split cs
above_append split [] cs = sym (zero-add (at_or_above split cs))
above_append split (b ∷ bs) cs = omega (arith, above_append split bs cs)

pub stays_stay : (m : ℕ) (s : Stage) → Stays m [] s s
stays_stay m s h = (refl, sym (add-zero s.count))

pub stays_trans : (m : ℕ) (bs cs : List ℕ) (s r u : Stage) → Stays m bs s r → Stays m cs r u → Stays m (bs ++ cs) s u
stays_trans m bs cs s r u a b h =
    let e = above_append s.split bs cs in
    let x = a (omega (arith, e)) in
    let f : at_or_above r.split cs ≡ at_or_above s.split cs = ap (λ (i : ℕ). at_or_above i cs) x.0 in
    let y = b (omega (arith, e, f, x.1)) in
    (y.0 ∙ x.0, omega (arith, e, f, x.1, y.1))
