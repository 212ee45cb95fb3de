-- `sizes::sizes_of` meets its contract: each arm is a line of the table.
use borrow.Author.Tests.{ne_eqb}
use Rattle.sets.specs.Configurations.{known, config_at}
use Rattle.sizes.specs.Sizes.{sizes_of, sizes_at}
use Rattle.sizes.proofs.sizes_of.Goals as goal

pub returns-in-7 : goal.returns-in-7
unfolding sizes_of sizes_at known config_at
returns-in-7 c = simp c.in-7.is

pub returns-in-10 : goal.returns-in-10
unfolding sizes_of sizes_at known config_at
returns-in-10 c = simp c.in-10.is

pub returns-in-13 : goal.returns-in-13
unfolding sizes_of sizes_at known config_at
returns-in-13 c = simp c.in-13.is

pub returns-in_default : goal.returns-in_default
unfolding sizes_of sizes_at known config_at
returns-in_default c =
    simp
    (ne_eqb _ _ c.in_default.in_default-own.rest.0.0.1, ne_eqb _ _ c.in_default.in_default-own.rest.0.1, ne_eqb _ _ c.in_default.in_default-own.rest.1)
