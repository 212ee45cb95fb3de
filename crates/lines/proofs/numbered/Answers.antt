-- `lines::numbered` meets its contract: each path by its law.
use mathlib.Core.Path.{◌≡◌, sym, ◌∙◌}
use mathlib.Core.Bool.{true, ◌||◌}
use lib.Dec.{eqb}
use lib.ListN.{length}
use borrow.Author.Tests.{eq-eqb, ne_eqb, not-false, not-true}
use Rattle.lines.proofs.Paths.{is_neither, is_seven, is_ten, other_byte, other_length}
use Rattle.lines.proofs.numbered.Goals as goal
use Rattle.lines.proofs.numbered.Goals.{Joined-else-digits-ne1, else-digits-ne1-via-then-digits-ne1+else-digits-ne2, else-digits-ne1-via-else-digits-ne1}

-- past the first test there are one or two bytes
few : (c : Joined-else-digits-ne1)
    → (eqb (length c.args.digits.now) 1 || eqb (length c.args.digits.now) 2) ≡ true
few c =
    let n = length c.args.digits.now in
    elim c.else-digits-ne1.branch [
      | else-digits-ne1-via-then-digits-ne1+else-digits-ne2 w ↦ rw (ne_eqb n 1 w.if-digits-ne1.true) (eq-eqb n 2 w.if-digits-ne2.false)
      | else-digits-ne1-via-else-digits-ne1 w ↦ rw (eq-eqb n 1 w.if-digits-ne1.false)
    ]

pub returns-then-digits-ne2 : goal.returns-then-digits-ne2
returns-then-digits-ne2 c =
    let ds = c.args.digits.now in
    other_length ds c.if-digits-ne1.true (not-true (eqb (length ds) 2) c.if-digits-ne2.true-raw)

pub returns-then-not-all_digits : goal.returns-then-not-all_digits
returns-then-not-all_digits c = other_byte c.args.digits.now (sym (not-true _ c.if-not-all_digits.true-raw) ∙ c.all_digits.ensures)

pub returns-then-equals : goal.returns-then-equals
returns-then-equals c =
    is_seven c.args.digits.now (few (goal.at.returns-then-equals c).Joined-else-digits-ne1)
    (sym (not-false _ c.if-not-all_digits.false-raw) ∙ c.all_digits.ensures)
    (sym c.if-equals.true ∙ c.equals.ensures)

pub returns-then-equals-2 : goal.returns-then-equals-2
returns-then-equals-2 c =
    is_ten c.args.digits.now (few (goal.at.returns-then-equals-2 c).Joined-else-digits-ne1)
    (sym (not-false _ c.if-not-all_digits.false-raw) ∙ c.all_digits.ensures)
    (sym c.if-equals.false ∙ c.equals.ensures) (sym c.if-equals-2.true ∙ c.equals-2.ensures)

pub returns : goal.returns
returns c =
    is_neither c.args.digits.now (few (goal.at.returns c).Joined-else-digits-ne1)
    (sym (not-false _ c.if-not-all_digits.false-raw) ∙ c.all_digits.ensures)
    (sym c.if-equals.false ∙ c.equals.ensures) (sym c.if-equals-2.false ∙ c.equals-2.ensures)
