-- 01, "What the shelf needs": the fourteen kinds of record, and their codes in columns 7-10.
use Rattle.std.specs.Prelude.{Bool, cond, List, [], ◌∷◌, ℕ, ◌+◌, length, get_or}
use Rattle.rules.specs.Tests.{◌&◌, ◌≤?◌, ◌=?◌}
use Rattle.rules.specs.Characters.{is_digit, is_letter, letter, digit, ◌or◌, member}
use Rattle.rules.specs.Digits.{val}

-- kinds are numbered in the order of the deposit sheet; *AA* is a job code, *none* no kind at all
abbrev pub *AA* : ℕ
*AA* = 0

abbrev pub *10* : ℕ
*10* = 1

abbrev pub *11* : ℕ
*11* = 2

abbrev pub *12* : ℕ
*12* = 3

abbrev pub *25* : ℕ
*25* = 4

abbrev pub *26* : ℕ
*26* = 5

abbrev pub *27* : ℕ
*27* = 6

abbrev pub *70* : ℕ
*70* = 7

abbrev pub *72* : ℕ
*72* = 8

abbrev pub *80* : ℕ
*80* = 9

abbrev pub *86* : ℕ
*86* = 10

abbrev pub *91* : ℕ
*91* = 11

abbrev pub *92* : ℕ
*92* = 12

abbrev pub *93* : ℕ
*93* = 13

abbrev pub *none* : ℕ
*none* = 14

-- the data codes of the kinds from *10* on
unfoldable pub data_codes : List ℕ
data_codes = 10 ∷ 11 ∷ 12 ∷ 25 ∷ 26 ∷ 27 ∷ 70 ∷ 72 ∷ 80 ∷ 86 ∷ 91 ∷ 92 ∷ 93 ∷ []

unfoldable pub kind_from : ℕ → ℕ → List ℕ → ℕ
kind_from k n [] = *none*
kind_from k n (c ∷ cs) = cond (n =? c) k (kind_from (k + 1) n cs)

-- 01, "The line and the file": an asterisk, two characters, an asterisk
unfoldable pub starred : List ℕ → Bool
starred c = length c =? 4 & get_or c 0 0 =? 42 & get_or c 3 0 =? 42

-- two digits are a data code; a letter followed by a letter or digit is a job code
unfoldable pub kind_between : ℕ → ℕ → ℕ
kind_between a b =
    cond (is_digit a & is_digit b) (kind_from *10* (val 0 (a ∷ b ∷ [])) data_codes) (cond (is_letter a & member (letter or digit) b) *AA* *none*)

unfoldable pub kind_of : List ℕ → ℕ
kind_of c = cond (starred c) (kind_between (get_or c 1 0) (get_or c 2 0)) *none*

unfoldable pub known : List ℕ → Bool
known c = kind_of c ≤? 13
