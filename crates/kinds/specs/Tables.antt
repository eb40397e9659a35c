-- The code's tables: the layouts of `rules` with names of the code's own for what stands in each field and what it agrees with.
use Rattle.std.specs.Prelude.{true, false, List, [], ◌∷◌, ◌++◌, map, ℕ, ◌+◌, get_or}
use Rattle.rules.specs.Items.{each, or_blank, blank, constant, number, height, angle, month, media, word}
use Rattle.rules.specs.Items as rules
use Rattle.rules.specs.Fields.{free, not_before, goes_with, differs, expected, Field}
use Rattle.rules.specs.Fields as fields
use Rattle.columns.specs.declared.Way.{Way}
use Rattle.columns.specs.declared.Set.{Set}
use Rattle.columns.specs.Types.{way_of, set_of}
use Rattle.kinds.specs.declared.tables.Item.{Item}
use Rattle.kinds.specs.declared.tables.Item.TheVariants as I
use Rattle.kinds.specs.declared.tables.Bond.{Bond}
use Rattle.kinds.specs.declared.tables.Bond.TheVariants as B
use Rattle.kinds.specs.declared.tables.Tie.{Tie}
use Rattle.kinds.specs.declared.tables.Tie.TheVariants as T

-- what stands in a field of w columns
abbrev pub item_of : Item → ℕ → rules.Item
item_of I.Blank w = blank w
item_of I.Method w = constant 52
item_of I.Station w = number w 1 9_999 false
item_of I.Equipment w = number w 1 999 false
item_of I.Date w = number w 0 999_999 false
item_of I.Time w = number w 0 9_999 false
item_of I.Rise w = height w 9_999 99_999 false
item_of I.Metres w = height w 999_999 9_999_999 true
item_of I.Deviation w = number w 0 999_999_999 false
item_of I.Correlation w = height w 99_999_990 99_999_999 false
item_of I.Variance w = number w 1 9_999 false
item_of I.Month w = month
item_of I.Media w = media
item_of I.Latitude w = angle (way_of Way.Latitude)
item_of I.Longitude w = angle (way_of Way.Longitude)
item_of I.Letter w = word w (each (set_of Set.Letter))
item_of I.LetterOrSpace w = word w (each (set_of Set.LetterOrSpace))
item_of I.LetterOrDigitOrSpace w = word w (each (set_of Set.LetterOrDigitOrSpace))
item_of I.YesNo w = word w (each (set_of Set.YesNo))
item_of I.YesNoOrSpace w = word w (each (set_of Set.YesNoOrSpace))
item_of I.Pair w = word w (or_blank (set_of Set.Digit))
item_of I.Datum w = word w (or_blank (set_of Set.LetterOrDigit))
item_of I.Title w = word w (each (set_of Set.Title))
item_of I.Name w = word w (each (set_of Set.Name))
item_of I.Printable w = word w (each (set_of Set.Printable))

-- what it must agree with
abbrev pub bond_of : Bond → fields.Bond
bond_of B.Free = free
bond_of B.Expected = expected
bond_of (B.NotBefore c w) = not_before c
bond_of (B.GoesWith c w) = goes_with c
bond_of (B.Differs c w) = differs c

-- the bonds by name
abbrev pub bond_as : Tie → Bond
bond_as T.Free = B.Free
bond_as T.Expected = B.Expected
bond_as T.Began = B.NotBefore 11 6
bond_as T.Orthometric = B.GoesWith 17 7
bond_as T.Geoid = B.GoesWith 36 7
bond_as T.Ellipsoid = B.GoesWith 46 7
bond_as T.Standpoint = B.Differs 11 4

pub record Row : Type 0 where
  pub item : Item
  pub tie : Tie
  pub bond : Bond
  pub first : ℕ
  pub width : ℕ

abbrev pub row : Item → ℕ → ℕ → Row
row i c w = record { item = i; tie = T.Free; bond = B.Free; first = c; width = w }

abbrev pub tied : Item → ℕ → ℕ → Tie → Row
tied i c w t = record { item = i; tie = t; bond = bond_as t; first = c; width = w }

unfoldable pub field_of : Row → Field
field_of r = record { from = r.first; item = item_of r.item r.width; bond = bond_of r.bond }

-- ---- the rows of each kind
abbrev pub row_lists : List (List Row)
row_lists =
    (row I.Printable 11 70 ∷ [])
    ∷ (row I.Title 11 70 ∷ [])
    ∷ (row I.Title 11 70 ∷ [])
    ∷ (row I.Month 11 6 ∷ tied I.Month 17 6 T.Began ∷ row I.LetterOrSpace 23 3 ∷ row I.Name 26 18 ∷ row I.LetterOrSpace 44 3 ∷ row I.Name 47 18 ∷ row I.Blank 65 11 ∷ row I.Method 76 1 ∷ row I.Letter 77 2 ∷ row I.Blank 79 2 ∷ [])
    ∷ (row I.Station 11 4 ∷ row I.Media 15 10 ∷ row I.LetterOrSpace 25 3 ∷ row I.Equipment 28 3 ∷ row I.Blank 31 2 ∷ row I.Equipment 33 3 ∷ row I.Blank 36 45 ∷ [])
    ∷ (row I.Printable 11 70 ∷ [])
    ∷ (tied I.Station 11 4 T.Expected ∷ row I.Date 15 6 ∷ row I.Time 21 4 ∷ row I.Blank 25 31 ∷ row I.Rise 56 5 ∷ row I.Blank 61 20 ∷ [])
    ∷ (tied I.Equipment 11 3 T.Expected ∷ row I.Equipment 14 3 ∷ row I.Blank 17 6 ∷ row I.Printable 23 18 ∷ row I.Blank 41 22 ∷ row I.Printable 63 8 ∷ row I.Printable 71 10 ∷ [])
    ∷ (tied I.Equipment 11 3 T.Expected ∷ row I.Blank 14 3 ∷ row I.Printable 17 16 ∷ row I.Letter 33 4 ∷ row I.Blank 37 8 ∷ row I.Printable 45 20 ∷ row I.Blank 65 16 ∷ [])
    ∷ (row I.Station 11 4 ∷ row I.Printable 15 30 ∷ row I.Latitude 45 12 ∷ row I.Longitude 57 13 ∷ row I.Blank 70 7 ∷ row I.Letter 77 2 ∷ row I.Blank 79 2 ∷ [])
    ∷ (tied I.Station 11 4 T.Expected ∷ row I.Blank 15 2 ∷ row I.Metres 17 7 ∷ tied I.LetterOrSpace 24 1 T.Orthometric ∷ row I.Pair 25 2 ∷ tied I.YesNoOrSpace 27 1 T.Orthometric ∷ row I.Datum 28 2 ∷ row I.Printable 30 6 ∷ row I.Metres 36 7 ∷ tied I.LetterOrDigitOrSpace 43 1 T.Geoid ∷ row I.Blank 44 2 ∷ row I.Metres 46 7 ∷ tied I.LetterOrSpace 53 1 T.Ellipsoid ∷ row I.Blank 54 2 ∷ row I.LetterOrSpace 56 1 ∷ row I.Printable 57 24 ∷ [])
    ∷ (row I.Station 11 4 ∷ row I.Blank 15 6 ∷ row I.Deviation 21 10 ∷ row I.Deviation 31 10 ∷ row I.Correlation 41 10 ∷ row I.Deviation 51 10 ∷ row I.Blank 61 4 ∷ row I.YesNo 65 1 ∷ row I.Printable 66 15 ∷ [])
    ∷ (row I.Station 11 4 ∷ row I.Blank 15 2 ∷ tied I.Station 17 4 T.Standpoint ∷ row I.Blank 21 2 ∷ row I.Deviation 23 10 ∷ row I.Deviation 33 10 ∷ row I.Correlation 43 10 ∷ row I.Deviation 53 10 ∷ row I.Blank 63 4 ∷ row I.YesNo 67 1 ∷ row I.Printable 68 13 ∷ [])
    ∷ (row I.Variance 11 8 ∷ row I.Variance 19 8 ∷ row I.Printable 27 54 ∷ [])
    ∷ []

-- what *91* and *92* have in common, from column c on
abbrev pub accuracy_rows : ℕ → List Row
accuracy_rows c =
    row I.Deviation c 10 ∷ row I.Deviation (c + 10) 10 ∷ row I.Correlation (c + 20) 10 ∷ row I.Deviation (c + 30) 10
    ∷ row I.Blank (c + 40) 4 ∷ row I.YesNo (c + 44) 1 ∷ []

abbrev pub concat : List (List Row) → List Row
concat [] = []
concat (x ∷ xs) = x ++ concat xs

abbrev pub rows : List Row
rows = concat row_lists

-- row i of them all
unfoldable pub row_at : ℕ → Row
row_at i = get_or rows i (row I.Blank 0 0)

abbrev pub items : List Item
items = map (λ r. r.item) rows

abbrev pub ties : List Tie
ties = map (λ r. r.tie) rows

abbrev pub bonds : List Bond
bonds = map (λ r. r.bond) rows

abbrev pub firsts : List ℕ
firsts = map (λ r. r.first) rows

abbrev pub widths : List ℕ
widths = map (λ r. r.width) rows

abbrev pub starts : List ℕ
starts = 0 ∷ 1 ∷ 2 ∷ 3 ∷ 13 ∷ 20 ∷ 21 ∷ 27 ∷ 34 ∷ 41 ∷ 48 ∷ 64 ∷ 73 ∷ 84 ∷ 87 ∷ []
