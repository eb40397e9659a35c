-- The types of this crate as values and sets of `rules`, and back.
use Rattle.std.specs.Prelude.{List, [], ◌∷◌, ℕ, get_or, ℤ, pos, negsuc, Option, Some, None}
use Rattle.rules.specs.Characters as rules
use Rattle.rules.specs.Characters.{letter, digit, space, printable, title, name, only, ◌or◌}
use Rattle.rules.specs.Items.{Value, gap, missing, num, text, label, latitude, longitude}
use Rattle.rules.specs.Items as items
use Rattle.columns.specs.declared.Way.{Way}
use Rattle.columns.specs.declared.Four.{Four}
use Rattle.columns.specs.declared.Media.{Media}
use Rattle.columns.specs.declared.Set.{Set}
use Rattle.columns.specs.declared.Height.{Height}

unfoldable pub way_of : Way → items.Way
way_of Way.Latitude = latitude
way_of Way.Longitude = longitude

unfoldable pub set_of : Set → rules.Set
set_of Set.Letter = letter
set_of Set.LetterOrSpace = letter or space
set_of Set.LetterOrDigit = letter or digit
set_of Set.LetterOrDigitOrSpace = letter or digit or space
set_of Set.Digit = digit
set_of Set.Printable = printable
set_of Set.Title = title
set_of Set.Name = name
set_of Set.YesNo = only 89 or only 78
set_of Set.YesNoOrSpace = only 89 or only 78 or space

-- ---- heights
unfoldable pub height_value : Height → Value
height_value Height.Missing = missing
height_value (Height.Mm z) = num z

-- what is no height gives Missing
unfoldable pub height_of : Value → Height
height_of gap = Height.Missing
height_of missing = Height.Missing
height_of (num z) = Height.Mm z
height_of (text t) = Height.Missing
height_of (label m d y s t) = Height.Missing

-- ---- numbers
unfoldable pub count_value : Option ℕ → Value
count_value None = missing
count_value (Some n) = num (pos n)

-- what is no count gives Missing
unfoldable pub count_of : Value → Option ℕ
count_of gap = None
count_of missing = None
count_of (num (pos n)) = Some n
count_of (num (negsuc n)) = None
count_of (text t) = None
count_of (label m d y s t) = None

-- a number that is never missing, as a month; what is none gives 0
unfoldable pub nat_of : Value → ℕ
nat_of gap = 0
nat_of missing = 0
nat_of (num (pos n)) = n
nat_of (num (negsuc n)) = 0
nat_of (text t) = 0
nat_of (label m d y s t) = 0

-- a signed number that is never missing, as an angle; what is none gives 0
unfoldable pub int_of : Value → ℤ
int_of gap = pos 0
int_of missing = pos 0
int_of (num z) = z
int_of (text t) = pos 0
int_of (label m d y s t) = pos 0

-- ---- media identifiers
unfoldable pub four_of : Four → List ℕ
four_of t = t.0 ∷ t.1 ∷ t.2 ∷ t.3 ∷ []

unfoldable pub four : List ℕ → Four
four t = record { 0 = get_or t 0 0; 1 = get_or t 1 0; 2 = get_or t 2 0; 3 = get_or t 3 0 }

unfoldable pub media_value : Media → Value
media_value m = label m.maker m.day m.year m.session (four_of m.mark)

-- what is no identifier gives one of zeros
unfoldable pub media_of : Value → Media
media_of gap = record { maker = 0; day = 0; year = 0; session = 0; mark = four [] }
media_of missing = record { maker = 0; day = 0; year = 0; session = 0; mark = four [] }
media_of (num z) = record { maker = 0; day = 0; year = 0; session = 0; mark = four [] }
media_of (text t) = record { maker = 0; day = 0; year = 0; session = 0; mark = four [] }
media_of (label m d y s t) = record { maker = m; day = d; year = y; session = s; mark = four t }
