-- The width of the field that starts at a column, as the code looks it up.
use Rattle.std.specs.Prelude.{cond, List, [], ◌∷◌, ℕ}
use Rattle.rules.specs.Tests.{◌=?◌}
use Rattle.rules.specs.Fields.{is_ok}
use Rattle.rules.specs.Layouts.{layout}
use Rattle.rules.specs.Records.{code_at, read_line}
use Rattle.rules.specs.Calls.{field_width}
use Rattle.rules.specs.Chapter4.{chapter4}
use Rattle.kinds.specs.Tables.{Row}

-- the width of the first row that starts at column c
unfoldable pub row_width : ℕ → List Row → ℕ
row_width c [] = 0
row_width c (r ∷ rs) = cond (c =? r.first) r.width (row_width c rs)

-- a control point's fields that are no angle's
unfoldable pub plain_width : ℕ → ℕ
plain_width c = cond (c =? 11) 4 (cond (c =? 15) 30 (cond (c =? 70) 7 (cond (c =? 77) 2 (cond (c =? 79) 2 0))))

-- of a line: 0 if it does not read
unfoldable pub width_in : List ℕ → ℕ → ℕ
width_in l c = cond (is_ok (read_line chapter4 l)) (field_width c (layout (code_at l))) 0
