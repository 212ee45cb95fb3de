-- `judge::two_filters` meets its contract: each return is what its tests told.
use mathlib.Core.Path.{◌≡◌, refl, sym, ◌∙◌}
use mathlib.Core.Bool.{Bool, true, false, not}
use borrow.Author.Tests.{not-true, not-false, eq-eqb, ne_eqb}
use Rattle.sizes.proofs.Laws.{known_of}
use Rattle.judge.proofs.Verdicts.{room_told, two_first, two_second, two_rest}
use Rattle.sizes.proofs.Laws.{handed_on}
use Rattle.judge.proofs.two_filters.Goals as goal

-- what a test told of what it answers
held : {r b : Bool} → r ≡ b → not r ≡ false → true ≡ b
held {r} e h = sym (not-false r h) ∙ e

failed : {r b : Bool} → r ≡ b → not r ≡ true → false ≡ b
failed {r} e h = sym (not-true r h) ∙ e

pub returns-in_err-s : goal.returns-in_err-s
returns-in_err-s c = handed_on _ c.from_residual.ensures.1 ∙ two_first _ _ _ _ _ _ _ _ _ _ _ (sym c.sizes_of.ensures ∙ c.in_err-s.was)

pub returns-in_err-o : goal.returns-in_err-o
returns-in_err-o c =
    handed_on _ c.from_residual-in_err-o.ensures.1 ∙ two_second _ _ _ _ _ _ _ _ _ _ _ (sym c.sizes_of.ensures ∙ c.in_ok-s.was) _
    (sym c.sizes_of-2.ensures ∙ c.in_err-o.was)

pub returns-then-not-has_room : goal.returns-then-not-has_room
returns-then-not-has_room c =
    two_rest _ _ _ _ _ _ _ _ _ _ _ _ (sym c.sizes_of.ensures ∙ c.in_ok-s.was) (sym c.sizes_of-2.ensures ∙ c.in_ok-o.was) false _ _ _ _ _
    (failed c.has_room.ensures c.if-not-has_room.true-raw)
    refl refl refl refl refl

pub returns-then-not-has_room-2 : goal.returns-then-not-has_room-2
returns-then-not-has_room-2 c =
    two_rest _ _ _ _ _ _ _ _ _ _ _ _ (sym c.sizes_of.ensures ∙ c.in_ok-s.was) (sym c.sizes_of-2.ensures ∙ c.in_ok-o.was) true false _ _ _ _
    (held c.has_room.ensures c.if-not-has_room.false-raw)
    (failed c.has_room-2.ensures c.if-not-has_room-2.true-raw)
    refl refl refl refl

pub returns-then-not-has_room-3 : goal.returns-then-not-has_room-3
returns-then-not-has_room-3 c =
    two_rest _ _ _ _ _ _ _ _ _ _ _ _ (sym c.sizes_of.ensures ∙ c.in_ok-s.was) (sym c.sizes_of-2.ensures ∙ c.in_ok-o.was) true true false _ _ _
    (held c.has_room.ensures c.if-not-has_room.false-raw)
    (held c.has_room-2.ensures c.if-not-has_room-2.false-raw)
    (failed c.has_room-3.ensures c.if-not-has_room-3.true-raw)
    refl refl refl

pub is_filter-requires : goal.is_filter-requires
is_filter-requires c = room_told _ _ _ _ (known_of _ _ (sym c.sizes_of.ensures ∙ c.in_ok-s.was)).1 (held c.has_room.ensures c.if-not-has_room.false-raw)

pub returns-then-not-is_filter : goal.returns-then-not-is_filter
returns-then-not-is_filter c =
    two_rest _ _ _ _ _ _ _ _ _ _ _ _ (sym c.sizes_of.ensures ∙ c.in_ok-s.was) (sym c.sizes_of-2.ensures ∙ c.in_ok-o.was) true true true false _ _
    (held c.has_room.ensures c.if-not-has_room.false-raw)
    (held c.has_room-2.ensures c.if-not-has_room-2.false-raw)
    (held c.has_room-3.ensures c.if-not-has_room-3.false-raw)
    (failed c.is_filter.ensures c.if-not-is_filter.true-raw)
    refl refl

pub is_filter-requires-2 : goal.is_filter-requires-2
is_filter-requires-2 c = room_told _ _ _ _ (known_of _ _ (sym c.sizes_of-2.ensures ∙ c.in_ok-o.was)).1 (held c.has_room-2.ensures c.if-not-has_room-2.false-raw)

pub returns-then-not-is_filter-2 : goal.returns-then-not-is_filter-2
returns-then-not-is_filter-2 c =
    two_rest _ _ _ _ _ _ _ _ _ _ _ _ (sym c.sizes_of.ensures ∙ c.in_ok-s.was) (sym c.sizes_of-2.ensures ∙ c.in_ok-o.was) true true true true false _
    (held c.has_room.ensures c.if-not-has_room.false-raw)
    (held c.has_room-2.ensures c.if-not-has_room-2.false-raw)
    (held c.has_room-3.ensures c.if-not-has_room-3.false-raw)
    (held c.is_filter.ensures c.if-not-is_filter.false-raw)
    (failed c.is_filter-2.ensures c.if-not-is_filter-2.true-raw)
    refl

pub returns-then-config-config2 : goal.returns-then-config-config2
returns-then-config-config2 c =
    two_rest _ _ _ _ _ _ _ _ _ _ _ _ (sym c.sizes_of.ensures ∙ c.in_ok-s.was) (sym c.sizes_of-2.ensures ∙ c.in_ok-o.was) true true true true true false
    (held c.has_room.ensures c.if-not-has_room.false-raw)
    (held c.has_room-2.ensures c.if-not-has_room-2.false-raw)
    (held c.has_room-3.ensures c.if-not-has_room-3.false-raw)
    (held c.is_filter.ensures c.if-not-is_filter.false-raw)
    (held c.is_filter-2.ensures c.if-not-is_filter-2.false-raw)
    (sym (ne_eqb _ _ c.if-config-config2.true))

pub returns : goal.returns
returns c =
    two_rest _ _ _ _ _ _ _ _ _ _ _ _ (sym c.sizes_of.ensures ∙ c.in_ok-s.was) (sym c.sizes_of-2.ensures ∙ c.in_ok-o.was) true true true true true true
    (held c.has_room.ensures c.if-not-has_room.false-raw)
    (held c.has_room-2.ensures c.if-not-has_room-2.false-raw)
    (held c.has_room-3.ensures c.if-not-has_room-3.false-raw)
    (held c.is_filter.ensures c.if-not-is_filter.false-raw)
    (held c.is_filter-2.ensures c.if-not-is_filter-2.false-raw)
    (sym (eq-eqb _ _ c.if-config-config2.false))
