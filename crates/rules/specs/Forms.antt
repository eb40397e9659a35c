-- 01, "How a field is read", "Field tables" and the codes, said without a test: which columns hold what, and of which value.
use Rattle.std.specs.Prelude.{◌≡◌, ◌⊎◌, Bool, true, cond, List, [], ◌∷◌, ◌++◌, ℕ, ◌+◌, ◌-◌, ◌*◌, ◌≤◌, ◌<◌, length, replicate, get_or, ℤ, pos, negsuc, neg_ℤ}
use Rattle.rules.specs.Members.{◌∈◌, ◌⊆◌}
use Rattle.rules.specs.Characters.{ascii, is_printable, title_characters, name_characters, Set, letter, digit, space, printable, title, name, only, ◌or◌}
use Rattle.rules.specs.Digits.{val, put}
use Rattle.rules.specs.Items.{Value, gap, missing, num, text, label, signed, Way, columns, top, low, plus, minus_of, each, or_blank, Item, blank, constant, number, height, angle, month, media, word}
use Rattle.rules.specs.Kinds.{*AA*, data_codes}

-- ---- 01, "Field tables": the members of each set of characters
unfoldable pub characters_of : Set → List ℕ
unfolding ascii
characters_of letter = ascii "ABCDEFGHIJKLMNOPQRSTUVWXYZ"
characters_of digit = ascii "0123456789"
characters_of space = ascii " "
characters_of printable = ascii " !\"#$%&'()*+,-./0123456789:;<=>?@ABCDEFGHIJKLMNOPQRSTUVWXYZ[\\]^_`abcdefghijklmnopqrstuvwxyz{|}~"
characters_of title = title_characters
characters_of name = name_characters
characters_of (only c) = cond (is_printable c) (c ∷ []) []
characters_of (s or t) = characters_of s ++ characters_of t

-- ---- 01, "Number": "blanks, then digits up to the field's last column, at least one"
pub record IsNumber (n : ℕ) (bs : List ℕ) : Type 0 where
  pub blanks : ℕ
  pub digits : List ℕ
  pub spelled : bs ≡ replicate blanks 32 ++ digits
  pub decimal : digits ⊆ characters_of digit
  pub some : 1 ≤ length digits
  pub value : n ≡ val 0 digits

-- "all blank means missing, only where a field says it may be"; else a number of the field's range
unfoldable pub NumberField : (w lo hi : ℕ) → Bool → List ℕ → Value → Type 0
NumberField w lo hi may bs v =
    ((may ≡ true) × (bs ≡ replicate w 32) × (v ≡ missing))
    ⊎ ((n : ℕ) × (length bs ≡ w) × IsNumber n bs × (lo ≤ n) × (n ≤ hi) × (v ≡ num (pos n)))

-- ---- 01, "Signed height": "blanks, an optional minus, then digits to the end, at least one"
pub record IsHeight (z : ℤ) (bs : List ℕ) : Type 0 where
  pub blanks : ℕ
  pub minus : Bool
  pub digits : List ℕ
  pub spelled : bs ≡ replicate blanks 32 ++ (cond minus (45 ∷ []) [] ++ digits)
  pub decimal : digits ⊆ characters_of digit
  pub some : 1 ≤ length digits
  pub value : z ≡ signed minus (val 0 digits)

-- from -lo to hi
unfoldable pub Between : (lo hi : ℕ) → ℤ → Type 0
Between lo hi (pos n) = n ≤ hi
Between lo hi (negsuc n) = n < lo

-- "all blank is missing", where a field says it may be; else a signed number of the field's range
unfoldable pub HeightField : (w lo hi : ℕ) → Bool → List ℕ → Value → Type 0
HeightField w lo hi may bs v =
    ((may ≡ true) × (bs ≡ replicate w 32) × (v ≡ missing))
    ⊎ ((z : ℤ) × (length bs ≡ w) × IsHeight z bs × Between lo hi z × (v ≡ num z))

-- ---- 01, "Angle": "degrees, minutes, seconds with five decimals. Minutes and whole seconds below 60"; w columns of degrees
pub record IsAngle (m w : ℕ) (bs : List ℕ) : Type 0 where
  pub degrees : ℕ
  pub minutes : ℕ
  pub seconds : ℕ
  pub decimals : ℕ
  pub spelled : bs ≡ put w degrees ++ put 2 minutes ++ put 2 seconds ++ put 5 decimals
  pub minutes_below : minutes < 60
  pub seconds_below : seconds < 60
  pub five : decimals < 100_000
  pub value : m ≡ ((degrees * 60 + minutes) * 60 + seconds) * 100_000 + decimals

-- "north and east positive, the letter giving only the sign"; the one above `low` is 180 W, which is 180 E
unfoldable pub Sided : Way → (m letter : ℕ) → ℤ → Type 0
Sided way m l z =
    ((l ≡ plus way) × (z ≡ pos m))
    ⊎ (((l ≡ minus_of way) × (m ≤ low way) × (z ≡ neg_ℤ (pos m)))
    ⊎ ((l ≡ minus_of way) × (low way < m) × (z ≡ pos m)))

-- "latitude at most 90 degrees, longitude at most 180"
pub record AngleField (way : Way) (bs : List ℕ) (v : Value) : Type 0 where
  pub front : List ℕ
  pub side : ℕ
  pub spelled : bs ≡ front ++ side ∷ []
  pub size : ℕ
  pub angle : IsAngle size (columns way - 9) front
  pub most : size ≤ top way
  pub signed : ℤ
  pub sided : Sided way size side signed
  pub value : v ≡ num signed

-- ---- 01, *12*: "YYYYMM, six digits, year 0001-9999, month 01-12"
pub record MonthField (bs : List ℕ) (v : Value) : Type 0 where
  pub year : ℕ
  pub month : ℕ
  pub spelled : bs ≡ put 4 year ++ put 2 month
  pub from_1 : 1 ≤ year
  pub to_9999 : year ≤ 9_999
  pub from_01 : 1 ≤ month
  pub to_12 : month ≤ 12
  pub value : v ≡ num (pos (year * 100 + month))

-- ---- 01, *25*: "a letter, three digits 001-366, a digit, a letter or digit, four printable"
pub record MediaField (bs : List ℕ) (v : Value) : Type 0 where
  pub maker : ℕ
  pub day : ℕ
  pub year : ℕ
  pub session : ℕ
  pub mark : List ℕ
  pub spelled : bs ≡ maker ∷ (put 3 day ++ put 1 year ++ session ∷ mark)
  pub a_letter : maker ∈ characters_of letter
  pub from_001 : 1 ≤ day
  pub to_366 : day ≤ 366
  pub a_digit : year ≤ 9
  pub letter_or_digit : session ∈ characters_of (letter or digit)
  pub four : length mark ≡ 4
  pub printed : mark ⊆ characters_of printable
  pub value : v ≡ label maker day year session mark

-- ---- every kind of field: the columns bs hold it, and its value is v
unfoldable pub Spells : Item → List ℕ → Value → Type 0
Spells (blank w) bs v = (bs ≡ replicate w 32) × (v ≡ gap)
Spells (constant c) bs v = (bs ≡ c ∷ []) × (c ∈ characters_of printable) × (v ≡ gap)
Spells (number w lo hi may) bs v = NumberField w lo hi may bs v
Spells (height w lo hi may) bs v = HeightField w lo hi may bs v
Spells (angle way) bs v = AngleField way bs v
Spells month bs v = MonthField bs v
Spells media bs v = MediaField bs v
-- "each column by its set. Text keeps every blank"
Spells (word w (each s)) bs v = (length bs ≡ w) × (bs ⊆ characters_of s) × (v ≡ text bs)
-- "two digits or two blanks"; "letters and digits, or both blank"
Spells (word w (or_blank s)) bs v = (length bs ≡ w) × ((bs ⊆ characters_of s) ⊎ (bs ≡ replicate w 32)) × (v ≡ text bs)

-- ---- 01, "Columns 7-10: an asterisk, two characters, an asterisk. Two digits are a data code. A letter A-Z followed by a letter or digit
-- 0-9 is a job code": the columns c hold the code of kind k
unfoldable pub Code : List ℕ → ℕ → Type 0
Code c k =
    ((k ≡ *AA*) × (a : ℕ) × (b : ℕ) × (c ≡ 42 ∷ a ∷ b ∷ 42 ∷ []) × (a ∈ characters_of letter) × (b ∈ characters_of (letter or digit)))
    ⊎ ((1 ≤ k) × (k ≤ 13) × (c ≡ 42 ∷ (put 2 (get_or data_codes (k - 1) 0) ++ 42 ∷ [])))
