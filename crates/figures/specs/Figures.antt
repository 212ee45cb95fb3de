-- 01, "The comparing program", "Fields": the numbers behind the text.
use Rattle.std.specs.Prelude.{ℕ}
use Rattle.sets.specs.Sets.{Set, apart}
use Rattle.sets.specs.Configurations.{Config, W}
use Rattle.sets.specs.Filter.{exact_count_at}
use Rattle.sets.specs.Masks.{order_of, key_of}
use Rattle.sets.specs.Text.{overlap}
use Rattle.counts.specs.Counting.{limited_to}
use Rattle.figures.specs.declared.Single.{Single}
use Rattle.figures.specs.declared.Pair.{Pair}
use Rattle.figures.specs.declared.Figures.{Figures}

-- ---- of sets

abbrev pub single_of : Config → ℕ → ℕ → Set → Single
single_of c mask size S = record { ones = exact_count_at c S; limited = limited_to c S; key = key_of c mask size S }

abbrev pub pair_of : Config → ℕ → ℕ → Set → Set → Pair
pair_of c mask size S T =
    record {
      difference = exact_count_at c (apart S T);
      limited = limited_to c (apart S T);
      order = order_of (W c) mask size S T;
    }

unfoldable pub figures_of : Config → ℕ → ℕ → Set → Set → Figures
figures_of c mask size S T =
    record {
      config = c.number;
      first = single_of c mask size S;
      second = single_of c mask size T;
      between = pair_of c mask size S T;
      overlap = overlap (exact_count_at c S) (exact_count_at c T) (exact_count_at c (apart S T));
    }
