-- Which words a field is given by, and whether its type holds them; what stands to the left of a field.
use Rattle.std.specs.Prelude.{Bool, true, false, cond, List, [], ◌∷◌, ℕ, zero, suc, ◌+◌, length, take, ℤ, pos, negsuc}
use Rattle.rules.specs.Tests.{◌&◌, ◌≤?◌, ◌=?◌}
use Rattle.rules.specs.Items.{Item, blank, constant, number, height, angle, month, media, word, fits}
use Rattle.rules.specs.Fields.{Field, anything, Verdict, check, ◌⨾◌, judge_each}
use Rattle.rules.specs.Records.{sequence, told, of_kind}
use Rattle.rules.specs.Layouts.{at}
use Rattle.rules.specs.Chapter4.{chapter4}
use Rattle.kinds.specs.Values.{kind_number, meaning_of}
use Rattle.answers.specs.Given.{word_at, is_least, given, sequence_given}
use Rattle.columns.specs.Types.{count_value}

-- ---- a field's words
-- how many it has: the texts of more than four columns have none
unfoldable pub word_count : Item → ℕ
word_count (blank w) = 0
word_count (constant c) = 0
word_count (number w lo hi may) = 1
word_count (height w lo hi may) = 1
word_count (angle way) = 1
word_count month = 1
word_count media = 8
word_count (word w t) = cond (w ≤? 4) w 0

-- what stands for a field that is not there
unfoldable pub no_field : Field
no_field = at 0 (blank 0)

-- the first word of field i, where the fields' words start at word p
unfoldable pub word_from : ℕ → ℕ → List Field → ℕ
word_from p i [] = p
word_from p zero (f ∷ fs) = p
word_from p (suc i) (f ∷ fs) = word_from (p + word_count f.item) i fs

-- ---- whether a type holds a word; a word that is lacking is held by none
unfoldable pub is_held : ℕ → ℤ → Bool
is_held most (pos n) = n ≤? most
is_held most (negsuc n) = false

unfoldable pub holds_number : List ℤ → ℕ → Bool
holds_number ws p = is_held 4_294_967_294 (word_at ws p)

-- -1 is a missing sequence number
unfoldable pub holds_sequence : ℤ → Bool
holds_sequence (pos n) = n ≤? 4_294_967_294
holds_sequence (negsuc n) = suc n =? 1

unfoldable pub holds_signed : ℤ → Bool
holds_signed (pos n) = n ≤? 99_999_999
holds_signed (negsuc n) = suc n ≤? 99_999_999

unfoldable pub holds_characters : ℕ → List ℤ → ℕ → Bool
holds_characters zero ws p = true
holds_characters (suc w) ws p = is_held 255 (word_at ws p) & holds_characters w ws (p + 1)

-- of a field whose words start at word p
unfoldable pub holds : Item → List ℤ → ℕ → Bool
holds (blank w) ws p = true
holds (constant c) ws p = true
holds (number w lo hi may) ws p = holds_number ws p
holds (height w lo hi may) ws p = cond (is_least (word_at ws p)) may (holds_signed (word_at ws p))
holds (angle way) ws p = suc p ≤? length ws
holds month ws p = holds_number ws p
holds media ws p =
    is_held 255 (word_at ws p) & (holds_number ws (p + 1) & (is_held 9 (word_at ws (p + 2)) & (is_held 255 (word_at ws (p + 3)) & holds_characters 4 ws (p + 4))))
holds (word w t) ws p = cond (w ≤? 4) (holds_characters w ws p) true

-- ---- the verdict on what stands to the left of a field, with room for so many bytes
unfoldable pub left_of_code : ℕ → List ℤ → Verdict
left_of_code room ws = check (81 ≤? room) 1 0 ⨾ check (fits sequence (count_value (sequence_given ws))) 9 1

unfoldable pub left_of_field : ℕ → List ℤ → (x y z : List ℕ) → ℕ → Verdict
left_of_field room ws x y z i =
    let m = meaning_of (given ws) x y z in
    left_of_code room ws ⨾ check (of_kind chapter4 (kind_number (given ws)) m) 9 7 ⨾ judge_each anything (told chapter4 m) (take i (told chapter4 m))
