-- The texts of more than four columns, which a record leaves to be given beside it: the columns where they start, and what `field` gives there.
use Rattle.std.specs.Prelude.{Bool, false, cond, List, [], ◌∷◌, ℕ, get_or}
use Rattle.rules.specs.Tests.{◌≤?◌}
use Rattle.rules.specs.Items.{Item, blank, constant, number, height, angle, month, media, word}
use Rattle.rules.specs.Fields.{Field}
use Rattle.rules.specs.Layouts.{layouts, kept}
use Rattle.rules.specs.Calls.{field_of}
use Rattle.kinds.specs.declared.Record.{Record}
use Rattle.kinds.specs.Values.{kind_number}

-- whether a field's text is given beside the record
unfoldable pub is_long : Item → Bool
is_long (blank w) = false
is_long (constant c) = false
is_long (number w lo hi may) = false
is_long (height w lo hi may) = false
is_long (angle way) = false
is_long month = false
is_long media = false
is_long (word w t) = 5 ≤? w

-- their first columns, from the left
unfoldable pub long_columns : List Field → List ℕ
long_columns [] = []
long_columns (f ∷ fs) = let rest = long_columns fs in cond (is_long f.item) (f.from ∷ rest) rest

-- those of a record, by its kind
unfoldable pub text_columns : Record → List ℕ
text_columns w = long_columns (get_or layouts (kind_number w) kept)

-- text i of record n, as `field` gives it; past the last it is asked for at column 0, where no field starts
unfoldable pub text_at : List ℕ → ℕ → Record → ℕ → List ℕ
text_at file n w i = field_of file n (get_or (text_columns w) i 0)
