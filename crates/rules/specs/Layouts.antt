-- 01, "Field tables", and 001's tables of *27* *70* *72* *91* *92* *93* as docs/LAYOUT.md takes them: columns 11-80 of each kind of record.
use Rattle.std.specs.Prelude.{true, false, List, [], ◌∷◌, ℕ, get_or}
use Rattle.rules.specs.Characters.{letter, digit, space, printable, title, name, only, ◌or◌}
use Rattle.rules.specs.Items.{latitude, longitude, each, or_blank, Item, blank, constant, number, height, angle, month, media, word}
use Rattle.rules.specs.Fields.{Bond, free, not_before, goes_with, differs, expected, Field}
use Rattle.rules.specs.Kinds.{kind_of}

-- a field by its first column
abbrev pub at : ℕ → Item → Field
at c i = record { from = c; item = i; bond = free }

abbrev pub tied : ℕ → Item → Bond → Field
tied c i b = record { from = c; item = i; bond = b }

-- ---- the kinds of field that several records share
abbrev pub station : Item
station = number 4 1 9_999 false

abbrev pub instrument : Item
instrument = number 3 1 999 false

abbrev pub antenna : Item
antenna = number 3 1 999 false

abbrev pub initials : Item
initials = word 3 (each (letter or space))

abbrev pub state : Item
state = word 2 (each letter)

abbrev pub any_text : ℕ → Item
any_text w = word w (each printable)

-- a height of *86*, 01: "-999,999 to 9,999,999", and the code beside it
abbrev pub metres : Item
metres = height 7 999_999 9_999_999 true

abbrev pub letter_or_blank : Item
letter_or_blank = word 1 (each (letter or space))

-- *91* *92*, 001: a standard deviation in hundredths of a centimetre, 9(7.2), and a correlation in eight decimals, from -.9999999 to .99999999
abbrev pub deviation : Item
deviation = number 10 0 999_999_999 false

abbrev pub correlation : Item
correlation = height 10 99_999_990 99_999_999 false

-- 001: whether the accuracies are scaled, Y or N
abbrev pub scaled : Item
scaled = word 1 (each (only 89 or only 78))

-- *93*, 001: 0001..9999 in thousandths
abbrev pub variance : Item
variance = number 8 1 9_999 false

-- ---- the records
-- 01, "Records kept": columns 11-80 of the job-code records are kept as printable bytes
abbrev pub kept : List Field
kept = at 11 (any_text 70) ∷ []

-- *10* *11*
abbrev pub titled : List Field
titled = at 11 (word 70 (each title)) ∷ []

-- *12*
abbrev pub project : List Field
project =
    at 11 month ∷ tied 17 month (not_before 11)
    ∷ at 23 initials ∷ at 26 (word 18 (each name))
    ∷ at 44 initials ∷ at 47 (word 18 (each name))
    ∷ at 65 (blank 11) ∷ at 76 (constant 52) ∷ at 77 state ∷ at 79 (blank 2) ∷ []

-- *25*
abbrev pub occupation : List Field
occupation = at 11 station ∷ at 15 media ∷ at 25 initials ∷ at 28 instrument ∷ at 31 (blank 2) ∷ at 33 antenna ∷ at 36 (blank 45) ∷ []

-- *26*
abbrev pub comment : List Field
comment = at 11 (any_text 70) ∷ []

-- *27*, 001: date YYMMDD, time HHMM, height of the antenna
abbrev pub measurement : List Field
measurement =
    tied 11 station expected ∷ at 15 (number 6 0 999_999 false) ∷ at 21 (number 4 0 9_999 false)
    ∷ at 25 (blank 31) ∷ at 56 (height 5 9_999 99_999 false) ∷ at 61 (blank 20) ∷ []

-- *70*, 001: equipment code, manufacturer, model, serial number
abbrev pub receiver : List Field
receiver =
    tied 11 instrument expected ∷ at 14 (number 3 1 999 false) ∷ at 17 (blank 6) ∷ at 23 (any_text 18)
    ∷ at 41 (blank 22) ∷ at 63 (any_text 8) ∷ at 71 (any_text 10) ∷ []

-- *72*, 001: antenna code, radome code, serial number
abbrev pub aerial : List Field
aerial =
    tied 11 antenna expected ∷ at 14 (blank 3) ∷ at 17 (any_text 16) ∷ at 33 (word 4 (each letter))
    ∷ at 37 (blank 8) ∷ at 45 (any_text 20) ∷ at 65 (blank 16) ∷ []

-- *80*
abbrev pub point : List Field
point =
    at 11 station ∷ at 15 (any_text 30) ∷ at 45 (angle latitude) ∷ at 57 (angle longitude)
    ∷ at 70 (blank 7) ∷ at 77 state ∷ at 79 (blank 2) ∷ []

-- *86*
abbrev pub heights : List Field
heights =
    tied 11 station expected ∷ at 15 (blank 2)
    ∷ at 17 metres ∷ tied 24 letter_or_blank (goes_with 17) ∷ at 25 (word 2 (or_blank digit))
    ∷ tied 27 (word 1 (each (only 89 or only 78 or space))) (goes_with 17)
    ∷ at 28 (word 2 (or_blank (letter or digit))) ∷ at 30 (any_text 6)
    ∷ at 36 metres ∷ tied 43 (word 1 (each (letter or digit or space))) (goes_with 36) ∷ at 44 (blank 2)
    ∷ at 46 metres ∷ tied 53 letter_or_blank (goes_with 46) ∷ at 54 (blank 2)
    ∷ at 56 letter_or_blank ∷ at 57 (any_text 24) ∷ []

-- *91*, 001: a station's standard deviations north and east, their correlation, the standard deviation of its ellipsoid height, a comment
abbrev pub network : List Field
network =
    at 11 station ∷ at 15 (blank 6) ∷ at 21 deviation ∷ at 31 deviation ∷ at 41 correlation ∷ at 51 deviation
    ∷ at 61 (blank 4) ∷ at 65 scaled ∷ at 66 (any_text 15) ∷ []

-- *92*, 001: the same of two stations, which differ
abbrev pub local : List Field
local =
    at 11 station ∷ at 15 (blank 2) ∷ tied 17 station (differs 11) ∷ at 21 (blank 2)
    ∷ at 23 deviation ∷ at 33 deviation ∷ at 43 correlation ∷ at 53 deviation
    ∷ at 63 (blank 4) ∷ at 67 scaled ∷ at 68 (any_text 13) ∷ []

-- *93*, 001: the factors of horizontal and vertical variance, a comment
abbrev pub factor : List Field
factor = at 11 variance ∷ at 19 variance ∷ at 27 (any_text 54) ∷ []

-- in the order of the kinds
unfoldable pub layouts : List (List Field)
layouts =
    kept ∷ titled ∷ titled ∷ project ∷ occupation ∷ comment ∷ measurement ∷ receiver ∷ aerial ∷ point ∷ heights ∷ network ∷ local ∷ factor ∷ []

-- columns 11-80 under a code
unfoldable pub layout : List ℕ → List Field
layout c = get_or layouts (kind_of c) kept
