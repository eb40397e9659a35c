-- What may stand in each column: classes of characters for a field, for a record of each kind, and the test of a line by them. No rule of 01 is said here: the rows are computed from the layouts, and what passes them is proved to be good.
use Rattle.std.specs.Prelude.{◌≡◌, Bool, true, false, ◌&&◌, ◌||◌, List, [], ◌∷◌, ◌++◌, map, ℕ, zero, suc, ◌+◌, ◌-◌, ◌<◌, leb, eqb, get_or, replicate}
use Rattle.rules.specs.Tests.{◌&◌}
use Rattle.kinds.specs.declared.tables.Item.{Item}
use Rattle.kinds.specs.declared.tables.Item.TheVariants as I
use Rattle.kinds.specs.Tables.{Row, row_lists}

-- low to high, or one of two more; a character above `free` only before a digit, or what comes after the digits
pub record Class : Type 0 where
  pub low : ℕ
  pub high : ℕ
  pub other : ℕ
  pub also : ℕ
  pub free : ℕ

abbrev pub class : (low high other also free : ℕ) → Class
class l h o a f = record { low = l; high = h; other = o; also = a; free = f }

-- a character of a class
unfoldable pub in_class : Class → ℕ → Bool
in_class k b = leb k.low b && leb b k.high || eqb b k.other || eqb b k.also

-- column b of a class, before column c
unfoldable pub col : Class → ℕ → ℕ → Bool
col k b c = in_class k b && (leb b k.free || leb 48 c)

-- a row of classes, from the first column of a line on
unfoldable pub row_ok : List Class → List ℕ → Bool
row_ok [] bs = true
row_ok (k ∷ ks) [] = false
row_ok (k ∷ ks) (b ∷ bs) = col k b (get_or bs 0 0) & row_ok ks bs

-- ---- classes (01, "How a field is read")
-- from low to high, or one of two more, before any character
abbrev pub span : (low high other also : ℕ) → Class
span l h o a = class l h o a 126

-- "Blank"
abbrev pub blanks : Class
blanks = span 32 32 32 32

-- "printable"
abbrev pub texts : Class
texts = span 32 126 32 32

-- a column of an angle, a day or a year
abbrev pub digits : Class
digits = span 48 57 48 48

-- the tens of minutes and of whole seconds, "below 60"
abbrev pub tens : Class
tens = span 48 53 48 48

-- "Letters"
abbrev pub letters : Class
letters = span 65 90 65 65

-- "A-Z or space"
abbrev pub spaced : Class
spaced = span 65 90 65 32

-- "letters and digits", with the seven characters between them, which a row does not tell apart
abbrev pub wide : Class
wide = span 48 90 48 48

-- the same, or blank
abbrev pub wide_spaced : Class
wide_spaced = span 48 90 48 32

-- "Digit pair"
abbrev pub pairs : Class
pairs = span 48 57 48 32

-- "Y or N"
abbrev pub yes_no : Class
yes_no = span 89 89 78 78

-- the same, or blank
abbrev pub answers : Class
answers = span 89 89 78 32

-- "Number" and "Signed height": blanks, perhaps the mark, then digits to the end; `last` is 32 where all may be blank
abbrev pub run : (mark last : ℕ) → ℕ → List Class
run mark last zero = []
run mark last (suc zero) = span 48 57 48 last ∷ []
run mark last (suc (suc w)) = class 48 57 mark 32 32 ∷ run mark last (suc w)

-- the first column of a number that may not fill its columns: a zero, the mark or a blank
abbrev pub nought : (mark : ℕ) → Class
nought mark = class 48 48 mark 32 32

-- "Angle": degrees, then minutes and seconds with five decimals, then one of two letters
abbrev pub angles : List Class → (positive negative : ℕ) → List Class
angles degrees p n = degrees ++ tens ∷ digits ∷ tens ∷ digits ∷ digits ∷ digits ∷ digits ∷ digits ∷ digits ∷ span p p n n ∷ []

-- what stands in a field of w columns
abbrev pub row_of : Item → ℕ → List Class
row_of I.Blank w = replicate w blanks
row_of I.Method w = replicate w texts
row_of I.Station w = run 32 48 w
row_of I.Equipment w = run 32 48 w
row_of I.Date w = run 32 48 w
row_of I.Time w = run 32 48 w
row_of I.Rise w = run 45 48 w
row_of I.Metres w = run 45 32 w
row_of I.Deviation w = nought 32 ∷ run 32 48 (w - 1)
row_of I.Correlation w = nought 45 ∷ nought 45 ∷ run 45 48 (w - 2)
row_of I.Variance w = replicate w texts
row_of I.Month w = replicate w texts
row_of I.Media w = letters ∷ digits ∷ digits ∷ digits ∷ digits ∷ wide ∷ texts ∷ texts ∷ texts ∷ texts ∷ []
row_of I.Latitude w = angles (digits ∷ digits ∷ []) 78 83
row_of I.Longitude w = angles (digits ∷ digits ∷ digits ∷ []) 69 87
row_of I.Letter w = replicate w letters
row_of I.LetterOrSpace w = replicate w spaced
row_of I.LetterOrDigitOrSpace w = replicate w wide_spaced
row_of I.YesNo w = replicate w yes_no
row_of I.YesNoOrSpace w = replicate w answers
row_of I.Pair w = replicate w pairs
row_of I.Datum w = replicate w wide_spaced
row_of I.Title w = replicate w texts
row_of I.Name w = replicate w texts
row_of I.Printable w = replicate w texts

-- ---- rows of records (01, "Field tables")
-- the fields of a kind, one after the other
abbrev pub layout_row : List Row → List Class
layout_row [] = []
layout_row (r ∷ rs) = row_of r.item r.width ++ layout_row rs

-- columns 1-6, blank or a number, and the code
abbrev pub lead_row : List Class
lead_row = run 32 32 6 ++ replicate 4 texts

-- the 80 columns of a record
abbrev pub kind_row : List Row → List Class
kind_row rs = lead_row ++ layout_row rs

-- a row as the code holds it: five lists over the columns
abbrev pub spelled : List Class → List (List ℕ)
spelled ks = map (λ k. k.low) ks ∷ map (λ k. k.high) ks ∷ map (λ k. k.other) ks ∷ map (λ k. k.also) ks ∷ map (λ k. k.free) ks ∷ []

-- every kind, in the order of the kinds: what `CLASSES` is
abbrev pub class_table : List (List (List ℕ))
class_table = map (λ rs. spelled (kind_row rs)) row_lists

-- ---- a line by a row as the code holds it
-- column j
abbrev pub col_at : (row : List (List ℕ)) (l : List ℕ) → ℕ → Bool
col_at row l j =
    (leb (get_or (get_or row 0 []) j 0) (get_or l j 0) && leb (get_or l j 0) (get_or (get_or row 1 []) j 0) || eqb (get_or l j 0) (get_or (get_or row 2 []) j 0) || eqb (get_or l j 0) (get_or (get_or row 3 []) j 0))
    && (leb (get_or l j 0) (get_or (get_or row 4 []) j 0) || leb 48 (get_or l (j + 1) 0))

-- every column
pub record Columns (row : List (List ℕ)) (l : List ℕ) : Type 0 where
  pub at : (j : ℕ) → j < 80 → col_at row l j ≡ true

-- five columns that lie sixteen apart
unfoldable pub five_at : (row : List (List ℕ)) (l : List ℕ) → ℕ → Bool
five_at row l i = col_at row l i && col_at row l (16 + i) && col_at row l (32 + i) && col_at row l (48 + i) && col_at row l (64 + i)

-- ---- kinds that are all text: from column 17 on every class is the same
-- a printable column
unfoldable pub text_at : List ℕ → ℕ → Bool
text_at l j = leb 32 (get_or l j 0) && leb (get_or l j 0) 126

-- five of them that lie sixteen apart
unfoldable pub five_texts : List ℕ → ℕ → Bool
five_texts l i = text_at l i && text_at l (16 + i) && text_at l (32 + i) && text_at l (48 + i) && text_at l (64 + i)

-- the first sixteen columns by the row, and every column printable
pub record Texts (row : List (List ℕ)) (l : List ℕ) : Type 0 where
  pub first : (j : ℕ) → j < 16 → col_at row l j ≡ true
  pub all : (j : ℕ) → j < 80 → text_at l j ≡ true

-- *26*
unfoldable pub is_text : ℕ → Bool
is_text k = eqb k 5
