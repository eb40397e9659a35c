-- What a row does not tell of a record: a few values, and columns compared with one another.
use Rattle.std.specs.Prelude.{◌≡◌, Bool, true, false, ◌&&◌, ◌||◌, not, List, [], ◌∷◌, map, ℕ, ◌+◌, ◌-◌, ◌*◌, ◌%◌, ◌≤◌, leb, eqb, get_or, take, drop}
use Rattle.rules.specs.Tests.{all, ◌=?◌}
use Rattle.rules.specs.Items.{good}
use Rattle.rules.specs.Fields.{Expect, is_ok, read, judge, same_truth, meets}
use Rattle.rules.specs.Layouts.{layouts, kept}
use Rattle.rules.specs.Records.{sequence, bytes}
use Rattle.kinds.specs.declared.tables.Item.{Item}
use Rattle.kinds.specs.declared.tables.Item.TheVariants as I
use Rattle.kinds.specs.declared.tables.Bond.{Bond}
use Rattle.kinds.specs.declared.tables.Bond.TheVariants as B
use Rattle.kinds.specs.Tables.{Row}

-- the number that columns write after the number a, by the last four bits of each (01, "Number")
unfoldable pub low_val : ℕ → List ℕ → ℕ
low_val a [] = a
low_val a (b ∷ bs) = low_val (a * 10 + b % 16) bs

-- some column is neither blank nor 0
unfoldable pub some : Bool → List ℕ → Bool
some t [] = t
some t (b ∷ bs) = some (t || not (eqb (b % 16) 0)) bs

-- the seven characters between the digits and the letters
unfoldable pub between : ℕ → Bool
between b = leb 58 b && leb b 64

-- ---- tests of columns from index a on
-- a number that may not be 0 (01, "station 1-9999", "instrument 1-999", "antenna 1-999")
unfoldable pub not_zero : List ℕ → ℕ → ℕ → Bool
not_zero l a w = some false (take w (drop a l))

-- a media identifier's day and session (01, *25*, columns 15-24)
unfoldable pub media_rest : List ℕ → ℕ → Bool
media_rest l a = leb 1 (low_val 0 (take 3 (drop (a + 1) l))) && leb (low_val 0 (take 3 (drop (a + 1) l))) 366 && not (between (get_or l (a + 5) 0))

-- ten zeros
unfoldable pub zeros : List ℕ → ℕ → Bool
zeros l a = all (λ b. b =? 48) (take 10 (drop a l))

-- at most 90 degrees, at most 180 (01, "Angle")
unfoldable pub latitude_rest : List ℕ → ℕ → Bool
latitude_rest l a = leb (get_or l a 0) 56 || zeros l (a + 1)

unfoldable pub longitude_rest : List ℕ → ℕ → Bool
longitude_rest l a = eqb (get_or l a 0) 48 || eqb (get_or l a 0) 49 && (leb (get_or l (a + 1) 0) 55 || eqb (get_or l (a + 1) 0) 56 && zeros l (a + 2))

-- both columns are blank, or neither (01, "Digit pair" and *86*)
unfoldable pub alike : List ℕ → ℕ → ℕ → Bool
alike l a b = same_truth (eqb (get_or l a 0) 32) (eqb (get_or l b 0) 32)

-- letters and digits, or both blank (01, *86*, columns 28-29)
unfoldable pub datum_rest : List ℕ → ℕ → Bool
datum_rest l a = alike l a (a + 1) && not (between (get_or l a 0)) && not (between (get_or l (a + 1) 0))

-- a correlation of ten columns, the first two no digit but 0: less than .99, or without a minus before its digits (001, *91* *92*)
unfoldable pub correlation_rest : List ℕ → ℕ → Bool
correlation_rest l a = leb (get_or l (a + 2) 0) 56 || leb (get_or l (a + 3) 0) 56 || not (eqb (get_or l a 0) 45) && not (eqb (get_or l (a + 1) 0) 45)

-- the sequence number: blank, or not 0 (01, columns 1-6)
unfoldable pub sequence_rest : List ℕ → Bool
sequence_rest l = not_zero l 0 6 || eqb (get_or l 5 0) 32

-- ---- g, and what is left of an item at index a; false where rows do not cover the item
unfoldable pub item_rest : Bool → Item → ℕ → ℕ → List ℕ → Bool
item_rest g I.Blank a w l = g
item_rest g I.Method a w l = false
item_rest g I.Station a w l = g && not_zero l a w
item_rest g I.Equipment a w l = g && not_zero l a w
item_rest g I.Date a w l = g
item_rest g I.Time a w l = g
item_rest g I.Rise a w l = g
item_rest g I.Metres a w l = g
item_rest g I.Deviation a w l = g
item_rest g I.Correlation a w l = g && correlation_rest l a
item_rest g I.Variance a w l = false
item_rest g I.Month a w l = false
item_rest g I.Media a w l = g && media_rest l a
item_rest g I.Latitude a w l = g && latitude_rest l a
item_rest g I.Longitude a w l = g && longitude_rest l a
item_rest g I.Letter a w l = g
item_rest g I.LetterOrSpace a w l = g
item_rest g I.LetterOrDigitOrSpace a w l = g && not (between (get_or l a 0))
item_rest g I.YesNo a w l = g
item_rest g I.YesNoOrSpace a w l = g
item_rest g I.Pair a w l = g && alike l a (a + 1)
item_rest g I.Datum a w l = g && datum_rest l a
item_rest g I.Title a w l = false
item_rest g I.Name a w l = false
item_rest g I.Printable a w l = g

-- g, and what is left of an agreement: a height is missing exactly where its last column is blank; v columns from c on end at index c + v - 2
unfoldable pub bond_rest : Bool → Expect → Bond → ℕ → ℕ → List ℕ → Bool
bond_rest g e B.Free a w l = g
bond_rest g e B.Expected a w l = g && meets e (low_val 0 (take w (drop a l)))
bond_rest g e (B.NotBefore c v) a w l = false
bond_rest g e (B.GoesWith c v) a w l = g && alike l (c + v - 2) a
bond_rest g e (B.Differs c v) a w l = g && not (eqb (low_val 0 (take v (drop (c - 1) l))) (low_val 0 (take w (drop a l))))

-- g, and what is left of the fields of a record
unfoldable pub rest_from : Bool → Expect → List ℕ → List Row → Bool
rest_from g e l [] = g
rest_from g e l (r ∷ rs) = rest_from (bond_rest (item_rest g r.item (r.first - 1) r.width l) e r.bond (r.first - 1) r.width l) e l rs

-- ---- a line of a kind that is no job code, in which the exact judge finds none of 3, 4 and 5 in the bytes, 9 in columns 1-6, 9 and 10 in the fields (01, "Fault numbers")
pub record Fit (l : List ℕ) (kind : ℕ) (e : Expect) : Type 0 where
  pub low : 1 ≤ kind
  pub high : kind ≤ 13
  pub fine : is_ok (bytes 80 1 l) ≡ true
  pub number : good sequence (take 6 l) ≡ true
  pub fields : is_ok (judge e (map (read l) (get_or layouts kind kept))) ≡ true
