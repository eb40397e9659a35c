-- The judge of a line's fields as the code goes about it: row by row of the tables, with the columns that a field is compared with at hand.
use Rattle.std.specs.Prelude.{◌≡◌, Bool, true, cond, not, List, [], ◌∷◌, ℕ, ◌+◌, ◌-◌, length, take, drop, get_or}
use Rattle.rules.specs.Tests.{all, ◌&◌, ◌≤?◌, ◌=?◌}
use Rattle.rules.specs.Characters.{is_blank, is_printable}
use Rattle.rules.specs.Digits.{val}
use Rattle.rules.specs.Items.{Item, blank, constant, number, height, angle, month, media, word, each, or_blank, width, good, spot}
use Rattle.rules.specs.Fields.{Expect, Verdict, ok, fault, check, ◌⨾◌, same_truth, meets}
use Rattle.columns.specs.Types.{way_of, set_of}
use Rattle.kinds.specs.declared.tables.Item as code
use Rattle.kinds.specs.declared.tables.Bond.{Bond}
use Rattle.kinds.specs.declared.tables.Bond.TheVariants as B
use Rattle.kinds.specs.declared.tables.Item.TheVariants as I
use Rattle.kinds.specs.Tables.{item_of, Row, items, bonds, firsts, widths}
use Rattle.judging.specs.declared.spots.FieldKind.{FieldKind}
use Rattle.judging.specs.declared.spots.FieldKind.TheVariants as K

-- w columns of a line from column c on
abbrev pub part : ℕ → ℕ → List ℕ → List ℕ
part c w l = take w (drop (c - 1) l)

-- a number of at most sixteen columns
abbrev pub number_in : List ℕ → ℕ
number_in bs = cond (length bs ≤? 16) (val 0 bs) 0

-- whether a field's columns agree with the record's earlier ones and with what is expected
unfoldable pub agrees_in : Expect → List ℕ → Bond → List ℕ → Bool
agrees_in e l B.Free bs = true
agrees_in e l B.Expected bs = meets e (number_in bs)
agrees_in e l (B.NotBefore c w) bs = number_in (part c w l) ≤? number_in bs
agrees_in e l (B.GoesWith c w) bs = same_truth (all is_blank (part c w l)) (all is_blank bs)
agrees_in e l (B.Differs c w) bs = not (number_in (part c w l) =? number_in bs)

-- the columns of a number, with a sign or without, are at most sixteen
unfoldable pub sized : Item → Bool
sized (blank w) = true
sized (constant c) = true
sized (number w lo hi may) = w ≤? 16
sized (height w lo hi may) = w ≤? 16
sized (angle way) = true
sized month = true
sized media = true
sized (word w t) = true

-- ---- a kind of field in w columns
abbrev pub item_as : FieldKind → ℕ → Item
item_as K.Blank w = blank w
item_as (K.Constant c) w = constant c
item_as (K.Number lo hi may) w = number w lo hi may
item_as (K.Height lo hi may) w = height w lo hi may
item_as (K.Angle way) w = angle (way_of way)
item_as K.Month w = month
item_as K.Media w = media
item_as (K.Word s) w = word w (each (set_of s))
item_as (K.WordOrBlank s) w = word w (or_blank (set_of s))

-- the kind of field that stands there, however many columns it has
abbrev pub KindOf : code.Item → FieldKind → Type 0
KindOf i kind = (w : ℕ) → item_as kind w ≡ item_of i w

-- so many columns hold it: they are as wide, and a line has them
unfoldable pub spans : Item → ℕ → Bool
spans i w = width i =? w & w ≤? 80 & sized i

-- one row: 9 before 10
unfoldable pub judge_row : Expect → List ℕ → code.Item → Bond → ℕ → ℕ → Verdict
judge_row e l i b c w =
    check (good (item_of i w) (part c w l)) 9 (c + spot (item_of i w) (part c w l)) ⨾ check (agrees_in e l b (part c w l)) 10 c

-- the rows from the left
unfoldable pub judge_rows : Expect → List ℕ → List Row → Verdict
judge_rows e l [] = ok
judge_rows e l (r ∷ rs) = judge_row e l r.item r.bond r.first r.width ⨾ judge_rows e l rs

-- ---- in two steps: first the field, named at its first column, of row i of the tables
unfoldable pub judge_field : Expect → List ℕ → code.Item → Bond → ℕ → ℕ → Verdict
judge_field e l i b c w = check (good (item_of i w) (part c w l)) 9 c ⨾ check (agrees_in e l b (part c w l)) 10 c

unfoldable pub judge_field_at : Expect → List ℕ → ℕ → Verdict
judge_field_at e l i = judge_field e l (get_or items i I.Blank) (get_or bonds i B.Free) (get_or firsts i 0) (get_or widths i 0)

-- then the column at which it is refused
unfoldable pub refused : List ℕ → code.Item → ℕ → ℕ → ℕ
refused l i c w = c + spot (item_of i w) (part c w l)

unfoldable pub refused_at : List ℕ → ℕ → ℕ
refused_at l i = refused l (get_or items i I.Blank) (get_or firsts i 0) (get_or widths i 0)

-- a verdict with its 9 named in column p
unfoldable pub pointed : ℕ → Verdict → Verdict
pointed p ok = ok
pointed p (fault n c) = cond (n =? 9) (fault 9 p) (fault n c)

-- ---- 80 printable bytes, and a line feed behind them
unfoldable pub clean : List ℕ → Bool
clean l = 81 ≤? length l & (all is_printable (take 80 l) & get_or l 80 0 =? 10)
