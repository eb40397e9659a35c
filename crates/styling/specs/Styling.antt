-- A good line in house style: what a field, a row and a kind's rows become, and how the code changes a copy of the line in place.
use Rattle.std.specs.Prelude.{Bool, true, false, cond, not, ◌&&◌, List, [], ◌∷◌, map, ℕ, suc, ◌-◌, eqb, length, get_or, set, take, drop}
use Rattle.rules.specs.Tests.{◌≤?◌, ◌=?◌, all}
use Rattle.rules.specs.Characters.{is_blank}
use Rattle.rules.specs.Digits.{val}
use Rattle.rules.specs.Items.{Item, blank, constant, number, height, angle, month, media, word, minus, columns, plus, value_of, render, good}
use Rattle.rules.specs.Fields.{columns_of}
use Rattle.kinds.specs.Tables.{Row, field_of}
use Rattle.styling.specs.Laying.{lay}

-- ---- house style
-- 01, "house style": a field's columns as its value is written
unfoldable pub style_of : Item → List ℕ → List ℕ
style_of i bs = render i (value_of i bs)

-- a row of the tables
unfoldable pub good_row : List ℕ → Row → Bool
good_row l r = good (field_of r).item (columns_of (field_of r) l)

unfoldable pub style_row : List ℕ → Row → List ℕ → List ℕ
style_row l r out = lay r.first (style_of (field_of r).item (columns_of (field_of r) l)) out

-- rows from the left
unfoldable pub good_rows : List ℕ → List Row → Bool
good_rows l rs = all (good_row l) rs

unfoldable pub style_rows : List ℕ → List Row → List ℕ → List ℕ
style_rows l [] out = out
style_rows l (r ∷ rs) out = style_rows l rs (style_row l r out)

-- ---- in place: no value is read and none is written
-- columns that stand in house style are left, others are written anew
unfoldable pub settled : (List ℕ → Bool) → (List ℕ → List ℕ) → List ℕ → List ℕ
settled stands anew bs = cond (stands bs) bs (anew bs)

-- the number that at most sixteen columns write
abbrev pub value_in : List ℕ → ℕ
value_in bs = cond (length bs ≤? 16) (val 0 bs) 0

-- 01, "written zero filled": what stands before the digits becomes a zero
unfoldable pub filled : ℕ → ℕ
filled b = cond (48 ≤? b) b 48

-- 01, "Signed height", 02, T-03, "a signed field by 01's height rule at its own width": in house style stand digits from the first column on, and a minus in the first column of what is not zero
unfoldable pub rise_stands : List ℕ → Bool
rise_stands bs = cond (48 ≤? get_or bs 0 0) true (cond (get_or bs 0 0 =? 45) (not (eqb (value_in bs) 0)) false)

-- and a height that is missing
unfoldable pub metres_stands : List ℕ → Bool
metres_stands bs = cond (rise_stands bs) true (all is_blank bs)

-- any other height: zeros before the digits, and a minus in the first column of what is below zero
unfoldable pub height_anew : List ℕ → List ℕ
height_anew bs = cond (minus bs && not (eqb (value_in bs) 0)) (set (map filled bs) 0 45) (map filled bs)

abbrev pub height_style : Bool → List ℕ → List ℕ
height_style may = settled (cond may metres_stands rise_stands) height_anew

-- digits of an angle that is neither zero nor 180 degrees
unfoldable pub sided : List ℕ → Bool
sided bs = not (eqb (value_in bs) 0) && not (eqb (value_in bs) 180_000_000_000)

-- 01, angles of n digits and a letter: in house style stand north and east, and south and west of what is neither zero nor 180 degrees
unfoldable pub angle_stands : (n plus : ℕ) → List ℕ → Bool
angle_stands n plus bs = cond (get_or bs n 0 =? plus) true (sided (take n bs))

-- any other angle gets the other letter
abbrev pub angle_style : (n plus : ℕ) → List ℕ → List ℕ
angle_style n plus = settled (angle_stands n plus) (λ bs. set bs n plus)

-- w columns of a line from column c on become what f makes of them
unfoldable pub changed : (List ℕ → List ℕ) → ℕ → ℕ → List ℕ → List ℕ
changed f c w l = lay c (f (take w (drop (c - 1) l))) l

-- a field that starts at column c: only numbers, heights and angles can be in another style
unfoldable pub change_field : Item → ℕ → List ℕ → List ℕ
change_field (blank w) c l = l
change_field (constant b) c l = l
change_field (number w lo hi may) c l = changed (map filled) c w l
change_field (height w lo hi may) c l = changed (height_style may) c w l
change_field (angle way) c l = changed (angle_style (columns way) (plus way)) c (suc (columns way)) l
change_field month c l = l
change_field media c l = l
change_field (word w t) c l = l

unfoldable pub change_rows : List Row → List ℕ → List ℕ
change_rows [] l = l
change_rows (r ∷ rs) l = change_rows rs (change_field (field_of r).item r.first l)
