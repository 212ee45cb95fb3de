-- `row_reader::step_at` meets its contract: where the row is some set's, the member at the place is found by the walk.
use Rattle.row_reader.proofs.Steps.{walks, bucket_fits, place_fits, gives, ends, refuses}
use Rattle.row_reader.proofs.step_at.Goals as goal

pub bucket_at-requires : goal.bucket_at-requires
bucket_at-requires c = walks _ _ c.row.ensures c.in-Ok.is

pub overflow_cast-result : goal.overflow_cast-result
overflow_cast-result c = record { fits = bucket_fits _ _ c.row.ensures c.in-Ok.is _ c.bucket_at.ensures c.in-Some.is }

pub overflow_add-result : goal.overflow_add-result
overflow_add-result c = record { fits = place_fits _ _ c.row.ensures c.in-Ok.is _ c.bucket_at.ensures c.in-Some.is }

pub returns-in-Some : goal.returns-in-Some
returns-in-Some c = gives _ _ c.row.ensures c.in-Ok.is _ c.bucket_at.ensures c.in-Some.is

pub returns-in-None : goal.returns-in-None
returns-in-None c = ends _ _ c.row.ensures c.in-Ok.is _ c.bucket_at.ensures c.in-None.is

pub returns-in-Err : goal.returns-in-Err
returns-in-Err c = refuses _ _ _ c.row.ensures c.in-Err.is
