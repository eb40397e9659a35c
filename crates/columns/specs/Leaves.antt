-- What the parts of the work give.
use Rattle.std.specs.Prelude.{◌≡◌, Bool, true, false, cond, not, ◌&&◌, ◌||◌, List, [], ◌∷◌, ℕ, zero, suc, ◌+◌, ◌-◌, ◌*◌, ◌^◌, ◌≤◌, leb, eqb, length, get_or, ℤ, pos, negsuc, Option}
use Rattle.rules.specs.Tests.{◌&◌, ◌≤?◌, ◌=?◌, all}
use Rattle.rules.specs.Characters.{is_digit, any_of, title_characters, name_characters}
use Rattle.rules.specs.Digits.{val, put}
use Rattle.rules.specs.Items.{Item, height, Value, width, fits, render, dms_form, angle_of}
use Rattle.columns.specs.Types.{height_value}
use Rattle.columns.specs.declared.Way.{Way}
use Rattle.columns.specs.declared.Set.{Set}
use Rattle.columns.specs.declared.sets.Ranges.{Ranges}
use Rattle.columns.specs.declared.angles.Limits.{Limits}
use Rattle.columns.specs.declared.Height.{Height}

-- what a writer leaves in columns that held `old`: the value in house style, if it fits and so do they; else what they held
unfoldable pub written : Item → Value → List ℕ → List ℕ
written i v old = cond (length old =? width i & fits i v) (render i v) old

-- ---- sets
abbrev pub inside : Ranges → ℕ → Bool
inside m b = leb m.low b && leb b m.high || leb m.bottom b && leb b m.top || eqb b m.one

abbrev pub ranges : (low high bottom top one : ℕ) → Ranges
ranges low high bottom top one = record { low = low; high = high; bottom = bottom; top = top; one = one }

-- the test of a character by its set
abbrev pub test_of : Set → ℕ → Bool
test_of Set.Letter = inside (ranges 65 90 65 90 65)
test_of Set.LetterOrSpace = inside (ranges 65 90 65 90 32)
test_of Set.LetterOrDigit = inside (ranges 65 90 48 57 65)
test_of Set.LetterOrDigitOrSpace = inside (ranges 65 90 48 57 32)
test_of Set.Digit = inside (ranges 48 57 48 57 48)
test_of Set.Printable = inside (ranges 32 126 32 126 32)
test_of Set.Title = any_of title_characters
test_of Set.Name = any_of name_characters
test_of Set.YesNo = inside (ranges 89 89 78 78 89)
test_of Set.YesNoOrSpace = inside (ranges 89 89 78 78 32)

-- ---- numbers
-- the sum of any bytes: a byte counts at most 207, which is 9 times 23
pub record Summed (bs : List ℕ) (r : ℕ) : Type 0 where
  pub is : r ≡ val 0 bs
  pub small : r + 23 ≤ 23 * 10 ^ length bs

-- blanks, then perhaps the mark, then digits, after the column p
unfoldable pub formed : ℕ → ℕ → List ℕ → Bool
formed mark p [] = not (p =? 45)
formed mark p (b ∷ bs) = (is_digit b || (b =? 32 || b =? mark) && p =? 32) & formed mark b bs

unfoldable pub last_of : List ℕ → ℕ
last_of bs = get_or (32 ∷ bs) (length bs) 0

-- ---- heights
-- a number with its sign lies from -lo to hi
unfoldable pub between : (lo hi : ℕ) → Bool → ℕ → Bool
between lo hi negative n = n ≤? cond negative lo hi

-- a height in no columns is nothing, and else in house style
unfoldable pub height_columns : ℕ → Height → List ℕ
height_columns zero h = []
height_columns (suc w) h = render (height (suc w) 0 0 true) (height_value h)

-- ---- angles
abbrev pub limits_of : Way → Limits
limits_of Way.Latitude = record { columns = 11; top = 32_400_000_000; low = 32_400_000_000; plus = 78; minus = 83 }
limits_of Way.Longitude = record { columns = 12; top = 64_800_000_000; low = 64_799_999_999; plus = 69; minus = 87 }

unfoldable pub digits_up_to : ℕ → List ℕ → Bool
digits_up_to top ds = all is_digit ds & dms_form (val 0 ds) & angle_of (val 0 ds) ≤? top
