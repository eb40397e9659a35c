-- 01, "How a field is read": what can stand in a field, its value, and how the value is written.
use Rattle.std.specs.Prelude.{Bool, true, false, cond, List, [], ◌∷◌, ◌++◌, ℕ, zero, suc, ◌+◌, ◌-◌, ◌*◌, ◌/◌, ◌%◌, ◌^◌, length, replicate, take, drop, get_or, ℤ, pos, negsuc, neg_ℤ}
use Rattle.rules.specs.Tests.{◌&◌, ◌≤?◌, ◌=?◌, within, all}
use Rattle.rules.specs.Characters.{is_printable, is_blank, is_digit, is_letter, Set, letter, digit, ◌or◌, member, one_of}
use Rattle.rules.specs.Digits.{val, put}

-- what a field says
pub data Value : Type 0 where
  gap : Value  -- nothing: a blank or constant field
  missing : Value
  num : ℤ → Value
  text : List ℕ → Value
  label : (maker day year session : ℕ) → List ℕ → Value  -- a media identifier

pub data Way : Type 0 where
  latitude longitude : Way

-- 01, "Letters, letters and digits, printable", "Digit pair": each column of a set; or all columns blank
pub data Test : Type 0 where
  each or_blank : Set → Test

-- whose characters they are
unfoldable pub set_in : Test → Set
set_in (each s) = s
set_in (or_blank s) = s

-- the kinds of field
pub data Item : Type 0 where
  blank : ℕ → Item  -- columns
  constant : ℕ → Item  -- the character
  number : (w lo hi : ℕ) → Bool → Item  -- columns, range, whether it may be missing
  height : (w lo hi : ℕ) → Bool → Item  -- signed, at any width: columns, range from -lo to hi, whether it may be missing
  angle : Way → Item  -- with its letter
  month : Item  -- YYYYMM
  media : Item  -- media identifier
  word : ℕ → Test → Item  -- columns, kept as they stand

-- ---- the forms
-- 01, "Number": blanks, then digits up to the last column; or all blank
unfoldable pub num_form : List ℕ → Bool
num_form [] = true
num_form (b ∷ bs) = cond (is_blank b) (num_form bs) (all is_digit (b ∷ bs))

-- 01, "Signed height", 02, T-03, "a signed field by 01's height rule at its own width": blanks, an optional minus, then digits to the end, at least one; or all blank
unfoldable pub height_form : List ℕ → Bool
height_form [] = true
height_form (b ∷ bs) = cond (is_blank b) (height_form bs) (cond (b =? 45) (1 ≤? length bs & all is_digit bs) (all is_digit (b ∷ bs)))

-- whether the first character that is no blank is a minus
unfoldable pub minus : List ℕ → Bool
minus [] = false
minus (b ∷ bs) = cond (is_blank b) (minus bs) (b =? 45)

unfoldable pub signed : Bool → ℕ → ℤ
signed true m = neg_ℤ (pos m)
signed false m = pos m

unfoldable pub passes : Test → List ℕ → Bool
passes (each s) bs = all (member s) bs
passes (or_blank s) bs = cond (all is_blank bs) true (all (member s) bs)

-- ---- 01, "Angle": the digits as one number DDDMMSSsssss, and hundred-thousandths of a second
unfoldable pub angle_of : ℕ → ℕ
angle_of n = n / 1_000_000_000 * 360_000_000 + n / 10_000_000 % 100 * 6_000_000 + n % 10_000_000

unfoldable pub dms : ℕ → ℕ
dms m = m / 360_000_000 * 1_000_000_000 + m % 360_000_000 / 6_000_000 * 10_000_000 + m % 360_000_000 % 6_000_000

-- minutes and whole seconds below 60
unfoldable pub dms_form : ℕ → Bool
dms_form n = n / 10_000_000 % 100 ≤? 59 & n % 10_000_000 ≤? 5_999_999

-- columns of digits
unfoldable pub columns : Way → ℕ
columns latitude = 11
columns longitude = 12

-- at most 90, at most 180 degrees
unfoldable pub top : Way → ℕ
top latitude = 32_400_000_000
top longitude = 64_800_000_000

-- the same of a southern or western angle: 180 W is 180 E
unfoldable pub low : Way → ℕ
low latitude = 32_400_000_000
low longitude = 64_799_999_999

-- N, E
unfoldable pub plus : Way → ℕ
plus latitude = 78
plus longitude = 69

-- S, W
unfoldable pub minus_of : Way → ℕ
minus_of latitude = 83
minus_of longitude = 87

-- north and east positive, the letter giving only the sign
unfoldable pub angle_value : Way → ℕ → ℕ → ℤ
angle_value way m l = signed (l =? minus_of way & m ≤? low way) m

-- 01, *12*: year 0001-9999, month 01-12
unfoldable pub is_month : ℕ → Bool
is_month n = within 1 9_999 (n / 100) & within 1 12 (n % 100)

-- 01, *25*: a letter, three digits 001-366, a digit, a letter or digit, four printable
unfoldable pub is_media : (maker day year session : ℕ) → List ℕ → Bool
is_media maker day year session mark =
    is_letter maker & within 1 366 day & year ≤? 9 & member (letter or digit) session & (length mark =? 4 & all is_printable mark)

-- ---- values by cases; every case that is not named gives `other`
module _ {A : Type 0} (other : A) where
  unfoldable pub on_gap : A → Value → A
  on_gap a gap = a
  on_gap a missing = other
  on_gap a (num k) = other
  on_gap a (text t) = other
  on_gap a (label m d y s t) = other

  unfoldable pub on_number : A → (ℕ → A) → (ℕ → A) → Value → A
  on_number none at_least_0 below_0 gap = other
  on_number none at_least_0 below_0 missing = none
  on_number none at_least_0 below_0 (num (pos n)) = at_least_0 n
  on_number none at_least_0 below_0 (num (negsuc n)) = below_0 (suc n)
  on_number none at_least_0 below_0 (text t) = other
  on_number none at_least_0 below_0 (label m d y s t) = other

  unfoldable pub on_text : (List ℕ → A) → Value → A
  on_text f gap = other
  on_text f missing = other
  on_text f (num k) = other
  on_text f (text t) = f t
  on_text f (label m d y s t) = other

  unfoldable pub on_label : ((maker day year session : ℕ) → List ℕ → A) → Value → A
  on_label f gap = other
  on_label f missing = other
  on_label f (num k) = other
  on_label f (text t) = other
  on_label f (label m d y s t) = f m d y s t

-- ---- the functions of an item
unfoldable pub width : Item → ℕ
width (blank w) = w
width (constant c) = 1
width (number w lo hi may) = w
width (height w lo hi may) = w
width (angle way) = suc (columns way)
width month = 6
width media = 10
width (word w t) = w

-- the form of its columns
unfoldable pub shape : Item → List ℕ → Bool
shape (blank w) bs = all is_blank bs
shape (constant c) bs = all (λ b. b =? c) bs
shape (number w lo hi may) bs = num_form bs
shape (height w lo hi may) bs = height_form bs
shape (angle way) bs =
    all is_digit (take (columns way) bs)
    & dms_form (val 0 (take (columns way) bs))
    & cond (get_or bs (columns way) 0 =? plus way) true (get_or bs (columns way) 0 =? minus_of way)
shape month bs = all is_digit bs
shape media bs = all is_digit (take 4 (drop 1 bs))
shape (word w t) bs = passes t bs

-- the value of its columns
unfoldable pub value_of : Item → List ℕ → Value
value_of (blank w) bs = gap
value_of (constant c) bs = gap
value_of (number w lo hi may) bs = cond (all is_blank bs) missing (num (pos (val 0 bs)))
value_of (height w lo hi may) bs = cond (all is_blank bs) missing (num (signed (minus bs) (val 0 bs)))
value_of (angle way) bs = num (angle_value way (angle_of (val 0 (take (columns way) bs))) (get_or bs (columns way) 0))
value_of month bs = num (pos (val 0 bs))
value_of media bs = label (get_or bs 0 0) (val 0 (take 3 (drop 1 bs))) (val 0 (take 1 (drop 4 bs))) (get_or bs 5 0) (drop 6 bs)
value_of (word w t) bs = text bs

-- which values it can hold: the range of reading, and what write takes
unfoldable pub fits : Item → Value → Bool
fits (blank w) = on_gap false true
fits (constant c) = on_gap false (is_printable c)
fits (number w lo hi may) = on_number false may (λ n. 1 ≤? w & suc n ≤? 10 ^ w & within lo hi n) (λ n. false)
fits (height w lo hi may) = on_number false may (λ n. 1 ≤? w & suc n ≤? 10 ^ w & n ≤? hi) (λ n. 1 ≤? w & suc n ≤? 10 ^ (w - 1) & n ≤? lo)
fits (angle way) = on_number false false (λ n. n ≤? top way) (λ n. n ≤? low way)
fits month = on_number false false is_month (λ n. false)
fits media = on_label false is_media
fits (word w t) = on_text false (λ bs. length bs =? w & passes t bs)

-- the house style of a value; what is missing is written blank
unfoldable pub render : Item → Value → List ℕ
render (blank w) = on_gap [] (replicate w 32)
render (constant c) = on_gap [] (c ∷ [])
render (number w lo hi may) = on_number [] (replicate w 32) (put w) (λ n. [])
render (height w lo hi may) = on_number [] (replicate w 32) (put w) (λ n. 45 ∷ put (w - 1) n)
render (angle way) = on_number [] [] (λ n. put (columns way) (dms n) ++ plus way ∷ []) (λ n. put (columns way) (dms n) ++ minus_of way ∷ [])
render month = on_number [] [] (put 6) (λ n. [])
render media = on_label [] (λ maker day year session mark. maker ∷ (put 3 day ++ (48 + year) ∷ session ∷ mark))
render (word w t) = on_text [] (λ bs. bs)

-- of its kind and range: of the width and form, with a value that the item can hold
unfoldable pub good : Item → List ℕ → Bool
good i bs = length bs =? width i & shape i bs & fits i (value_of i bs)

-- ---- the fields of an item: an angle and its letter are two
unfoldable pub parts : Item → List ℕ
parts (blank w) = w ∷ []
parts (constant c) = 1 ∷ []
parts (number w lo hi may) = w ∷ []
parts (height w lo hi may) = w ∷ []
parts (angle way) = columns way ∷ 1 ∷ []
parts month = 6 ∷ []
parts media = 10 ∷ []
parts (word w t) = w ∷ []

-- ---- 02, T-02: "the first column at which no acceptable field begins with the characters up to there"; Beginnings says it without a test
-- a value of the kind, the least where values are numbers
unfoldable pub least : Item → Value
least (blank w) = gap
least (constant c) = gap
least (number w lo hi may) = num (pos lo)
least (height w lo hi may) = num (pos 0)
least (angle way) = num (pos 0)
least month = num (pos 101)
least media = label 65 1 0 48 (replicate 4 32)
least (word w t) = text (replicate w (one_of (set_in t)))

-- the ends that a beginning is tried with: whatever begins a good field begins one with such an end
unfoldable pub ends : Item → List (List ℕ)
ends i = render i (least i) ∷ replicate (width i) 48 ∷ replicate (width i) 32 ∷ []

-- with the rest of one of these behind it, it is good
unfoldable pub goes_on : Item → List ℕ → List (List ℕ) → Bool
goes_on i p [] = false
goes_on i p (e ∷ es) = let rest = goes_on i p es in cond (good i (p ++ drop (length p) e)) true rest

-- these characters begin a good field
unfoldable pub begins : Item → List ℕ → Bool
begins i p = goes_on i p (ends i)

-- the first of n columns, from k on, up to which the characters begin no good field; the next one where there is none
unfoldable pub first_bad : Item → List ℕ → (n k : ℕ) → ℕ
first_bad i bs zero k = k
first_bad i bs (suc n) k = let rest = first_bad i bs n (k + 1) in cond (begins i (take (k + 1) bs)) rest k

-- where in a bad field the fault is named: the first such column; it is the last one of the field if none before it is
unfoldable pub spot : Item → List ℕ → ℕ
spot i bs = first_bad i bs (width i - 1) 0
