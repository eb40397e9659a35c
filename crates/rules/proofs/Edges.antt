-- The edges of every field: contents of its columns just inside, which are taken, and just outside, which are refused with their fault and column.
-- Written from 01, 02 (T-02) and, of *27* *70* *72*, docs/LAYOUT.md, and not from the definitions, to be held beside them.
use mathlib.Core.Path.{◌≡◌, refl}
use mathlib.Core.Bool.{Bool, true, false, cond}
use mathlib.Core.List.{List, [], ◌∷◌, ◌++◌}
use Prim.Native.Nat.{ℕ, zero, suc, ◌+◌, ◌-◌}
use Prim.Native.String.{String}
use lib.ListN.{length, take, drop, replicate}
use Rattle.rules.specs.Tests.{◌&◌, ◌=?◌}
use Rattle.rules.specs.Characters.{ascii, title_characters, name_characters, Set, letter, digit, space, printable, title, name, member}
use Rattle.rules.specs.Digits.{put}
use Rattle.rules.specs.Fields.{Verdict, ok, fault}
use Rattle.rules.specs.Records.{read_line}
use Rattle.rules.specs.Kinds.{kind_of, known, *AA*}
use Rattle.rules.specs.Chapter4.{chapter4}
use Rattle.rules.proofs.Samples.{judged}

-- ---- how a row is tried
-- a line: its text, blanks up to column 80, a line feed
unfoldable pub lined : String → List ℕ
unfolding ascii
lined s = take 80 (ascii s ++ replicate 80 32) ++ 10 ∷ []

-- a line with other bytes from column c on
unfoldable pub laid : ℕ → List ℕ → List ℕ → List ℕ
laid c bs l = take (c - 1) l ++ (bs ++ drop (c - 1 + length bs) l)

-- the contents that a text lists, parted by strokes
unfoldable pub parted : List ℕ → List ℕ → List (List ℕ)
parted now [] = now ∷ []
parted now (b ∷ bs) = cond (b =? 124) (now ∷ parted [] bs) (parted (now ++ b ∷ []) bs)

pub data Row : Type 0 where
  takes : (from : ℕ) → String → Row  -- each of these contents is good
  refuses : (from : ℕ) → String → Row  -- each of these contents is fault 9 at the character behind its caret
  wrong : (number column from : ℕ) → String → Row  -- each of these contents has this fault at this column
  holds : (from width : ℕ) → String → String → Row  -- full of each of the first characters it is good; each of the others, in its first or last column, is fault 9 there

-- how many characters stand before the caret, and the contents without it
unfoldable pub caret_in : List ℕ → ℕ
caret_in [] = 0
caret_in (b ∷ bs) = let rest = caret_in bs in cond (b =? 94) 0 (rest + 1)

unfoldable pub bare : List ℕ → List ℕ
bare [] = []
bare (b ∷ bs) = let rest = bare bs in cond (b =? 94) bs (b ∷ rest)

unfoldable pub same_verdict : Verdict → Verdict → Bool
unfolding ◌&◌ ◌=?◌
same_verdict ok ok = true
same_verdict ok (fault n c) = false
same_verdict (fault n c) ok = false
same_verdict (fault n c) (fault n' c') = n =? n' & c =? c'

-- the contents from column c on that are judged otherwise
unfoldable pub unlike : List ℕ → Verdict → ℕ → List (List ℕ) → List (List ℕ)
unfolding judged laid same_verdict
unlike l v c [] = []
unlike l v c (bs ∷ more) = let rest = unlike l v c more in cond (same_verdict (read_line chapter4 (laid c bs l)) v) rest (bs ∷ rest)

-- the same of contents with a caret
unfoldable pub unlike_caret : List ℕ → ℕ → List (List ℕ) → List (List ℕ)
unfolding judged laid same_verdict caret_in bare
unlike_caret l c [] = []
unlike_caret l c (bs ∷ more) = let rest = unlike_caret l c more in cond (same_verdict (read_line chapter4 (laid c (bare bs) l)) (fault 9 (c + caret_in bs))) rest (bs ∷ rest)

unfoldable pub full_of : ℕ → List ℕ → List (List ℕ)
full_of w [] = []
full_of w (b ∷ bs) = replicate w b ∷ full_of w bs

-- what a row says of a line and the line does not do
unfoldable pub failing : List ℕ → Row → List (List ℕ)
unfolding ascii parted unlike unlike_caret full_of
failing l (takes c s) = unlike l ok c (parted [] (ascii s))
failing l (refuses c s) = unlike_caret l c (parted [] (ascii s))
failing l (wrong n d c s) = unlike l (fault n d) c (parted [] (ascii s))
failing l (holds c w good bad) =
    unlike l ok c (full_of w (ascii good)) ++ (unlike l (fault 9 c) c (full_of 1 (ascii bad)) ++ unlike l (fault 9 (c + w - 1)) (c + w - 1) (full_of 1 (ascii bad)))

unfoldable pub failures : List ℕ → List Row → List (List ℕ)
unfolding failing
failures l [] = []
failures l (r ∷ rs) = let rest = failures l rs in failing l r ++ rest

-- a line is good as it stands and does all that the rows say
unfoldable pub edges : String → List Row → List (List ℕ)
unfolding failures lined
edges s rows = unlike (lined s) ok 1 ([] ∷ []) ++ failures (lined s) rows

-- ---- the sets of characters: every byte
unfoldable pub sweep : (ℕ → Bool) → ℕ → ℕ → List ℕ
sweep p zero b = []
sweep p (suc n) b = let rest = sweep p n (b + 1) in cond (p b) (b ∷ rest) rest

unfoldable pub members : Set → List ℕ
unfolding judged sweep
members s = sweep (member s) 256 0

abbrev A_Z : String
A_Z = "ABCDEFGHIJKLMNOPQRSTUVWXYZ"

pub sets :
    (members letter ∷ members digit ∷ members space ∷ members printable ∷ members title ∷ members name ∷ [])
    ≡ (ascii A_Z ∷ ascii "0123456789" ∷ ascii " "
    ∷ ascii " !\"#$%&'()*+,-./0123456789:;<=>?@ABCDEFGHIJKLMNOPQRSTUVWXYZ[\\]^_`abcdefghijklmnopqrstuvwxyz{|}~"
    ∷ ascii " '()*+,-./0123456789=ABCDEFGHIJKLMNOPQRSTUVWXYZ\\"
    ∷ ascii " '()*+,-./0123456789=ABCDEFGHIJKLMNOPQRSTUVWXYZ" ∷ [])
unfolding members
sets = refl

-- 001's cells, part by part in the order printed: *10* *11* "A..Z 0..9 * , ' =", ") ( - . + \ /", "space"; *12* "A..Z, 0..9, *, , ,", "' , =, (, -, ., +,", ") , /, space", and "\n", which cannot stand in a line
pub printed :
    (title_characters ∷ name_characters ∷ [])
    ≡ ((ascii A_Z ++ ascii "0123456789" ++ ascii "*,'=" ++ ascii ")(-.+\\/" ++ ascii " ")
    ∷ (ascii A_Z ++ ascii "0123456789" ++ ascii "*," ++ ascii "'=(-.+" ++ ascii ")/ ") ∷ [])
unfolding ascii title_characters name_characters
printed = refl

-- ---- columns 7-10: every pair of digits; every byte as the first, as the second character of a job code, and in the place of each asterisk
unfoldable pub codes : List (List ℕ)
unfolding judged sweep known
codes =
    sweep (λ n. known (42 ∷ put 2 n ++ 42 ∷ [])) 100 0
    ∷ sweep (λ b. kind_of (42 ∷ b ∷ 65 ∷ 42 ∷ []) =? *AA*) 256 0
    ∷ sweep (λ b. kind_of (42 ∷ 65 ∷ b ∷ 42 ∷ []) =? *AA*) 256 0
    ∷ sweep (λ b. known (42 ∷ b ∷ 48 ∷ 42 ∷ [])) 256 0
    ∷ sweep (λ b. known (b ∷ 65 ∷ 49 ∷ 42 ∷ [])) 256 0
    ∷ sweep (λ b. known (42 ∷ 65 ∷ 49 ∷ b ∷ [])) 256 0
    ∷ []

pub codes_known :
    codes
    ≡ ((10 ∷ 11 ∷ 12 ∷ 25 ∷ 26 ∷ 27 ∷ 70 ∷ 72 ∷ 80 ∷ 86 ∷ 91 ∷ 92 ∷ 93 ∷ [])
    ∷ ascii A_Z ∷ ascii "0123456789ABCDEFGHIJKLMNOPQRSTUVWXYZ" ∷ ascii "178ABCDEFGHIJKLMNOPQRSTUVWXYZ" ∷ ascii "*" ∷ ascii "*" ∷ [])
unfolding codes
codes_known = refl

-- ---- 01, "How a field is read": what several fields share
abbrev letters : ℕ → ℕ → Row
letters c w = holds c w "AZ" "@[az09 "

abbrev letters_or_space : ℕ → ℕ → Row
letters_or_space c w = holds c w "AZ " "@[az09!"

abbrev any_text : ℕ → ℕ → Row
any_text c w = holds c w " ~" ""

abbrev spacer : ℕ → ℕ → Row
spacer c w = holds c w " " "!0A-"

abbrev titles : ℕ → ℕ → Row
titles c w = holds c w "AZ09*,'=)(-.+\\/ " "!&:<>@[]^_az~"

abbrev names : ℕ → ℕ → Row
names c w = holds c w "AZ09*,'=)(-.+/ " "!&:<>@[\\]^_az~"

-- station 1-9999
abbrev stations : List Row
stations = takes 11 "0001|9999|   1|  12| 012" ∷ refuses 11 "000^0|   ^0|   ^ |1^   |001^ |1^ 23|^-001|  ^-1|^+001|000^/|000^:|^/001|^:001|000^A|0^.01" ∷ []

-- instrument, antenna and equipment code 1-999
abbrev hundreds : ℕ → List Row
hundreds c = takes c "001|999|  1| 12" ∷ refuses c "00^0|  ^0|  ^ |1^  |01^ |1^ 2|^-01| ^-1|^+01|00^/|00^:|^/01|^:01|00^A" ∷ []

-- 9(4.3) in seven columns, where the height is there
abbrev sevens : ℕ → List Row
sevens c =
    takes c "0000000|9999999|-999999|-000000|-000001|      0|     -1|    -12|  12345"
    ∷ refuses c "      ^-|-^      |1^      |012345^ |12^ 3456|-^ 12345|-^-12345|^+012345|1^-23456|012345^/|012345^:|^/012345|^:012345|012345^A|1234^.56" ∷ []

-- ---- every record: the sequence number, the code, the bytes
pub edges-line :
    edges "000010*26*TEXT" (
    takes 1 "      |000001|     1|999999| 00001"
    ∷ refuses 1 "00000^0|     ^0|1^     |10^    |00001^ |1^ 0000|^-00001|    ^-1|^+00001|00000^/|00000^:|^/00001|^:00001|00000^A"
    ∷ wrong 6 7 7 "*13*|*28*|*@A*|*[A*|*A@*|*A[*|*A/*|*A:*|*0A*|*aA*|*Aa*|*A *|* A*|*  *|+A1*|)A1*|*A1+|*A1)|**1*|*1**"
    ∷ wrong 4 1 1 "\u{1f}|\u{7f}|\n|\0" ∷ wrong 4 7 7 "\u{1f}|\u{7f}" ∷ wrong 4 80 80 "\u{1f}|\u{7f}|\n|\r"
    ∷ wrong 5 81 81 "\r| |\u{b}|\t|\u{1a}" ∷ [])
    ≡ []
unfolding edges
edges-line = refl

-- ---- job code
pub edges_AA : edges "000010*A1*HZTLOBS  KABUN" (takes 7 "*AA*|*AZ*|*A0*|*A9*|*ZZ*|*Z9*" ∷ any_text 11 70 ∷ []) ≡ []
unfolding edges
edges_AA = refl

-- ---- *10* *11*: 11-80, from A-Z 0-9 * , ' = ) ( - . + \ / and space; *26*: 11-80 printable
pub edges_10 : edges "      *10*RIVER MOUTH" (titles 11 70 ∷ []) ≡ []
unfolding edges
edges_10 = refl

pub edges_11 : edges "      *11*TO THE LIGHT" (titles 11 70 ∷ []) ≡ []
unfolding edges
edges_11 = refl

pub edges_26 : edges "      *26*WIND" (any_text 11 70 ∷ []) ≡ []
unfolding edges
edges_26 = refl

-- ---- *12*
pub edges-12 :
    edges "      *12*202401202402JDCCRUZ              ABCREYES                        4MD" (
    -- 11-16 and 17-22 YYYYMM, six digits, year 0001-9999, month 01-12, not missing, the end not before the beginning
    takes 11 "000101|000112|202401|202402|000101000101|999912999912"
    ∷ refuses 11 "000^001|000^012|20240^0|20241^3|2024^20|2024^99|^      |^ 02401|20240^ |2024^ 1|^-02401|20240^/|20240^:|^/02401|^:02401|20240^A"
    ∷ takes 17 "202401|202402|202412|999912"
    ∷ refuses 17 "000^001|000^012|20240^0|20241^3|2024^20|2024^99|^      |^ 02402|20240^ |2024^ 2|^-02402|20240^/|20240^:|^/02402|^:02402|20240^A|2023^X1"
    ∷ wrong 10 17 11 "202403|999912|202402202401" ∷ wrong 10 17 17 "202312|000101"
    -- 23-25 and 44-46 A-Z or space; 26-43 and 47-64 as *10* without the backslash
    ∷ letters_or_space 23 3 ∷ names 26 18 ∷ letters_or_space 44 3 ∷ names 47 18
    -- 65-75 blank, 76 is 4, 77-78 letters, 79-80 blank
    ∷ spacer 65 11 ∷ holds 76 1 "4" "35 D" ∷ letters 77 2 ∷ spacer 79 2 ∷ [])
    ≡ []
unfolding edges
edges-12 = refl

-- ---- *25*
pub edges-25 :
    edges "      *25*0001T0324AHILLJDC010  005" (
    stations ++ (
    -- 15-24: a letter, three digits 001-366, a digit, a letter or digit, four printable
    takes 15 "A0010A    |Z3669Z~~~~|M10000/\"{}|M299999999"
    ∷ refuses 15 "^@0010A    |^[0010A    |^a0010A    |^00010A    |^ 0010A    "
    ∷ refuses 15 "A00^00A    |A36^70A    |A3^700A    |A^4000A    |A^9990A    |A^  10A    |A01^ 0A    |A^   0A    |A^-010A    |A00^/0A    |A00^:0A    |A^/010A    |A^:010A    "
    ∷ refuses 15 "A001^/A    |A001^:A    |A001^ A    |A001^AA    "
    ∷ refuses 15 "A0010^/    |A0010^:    |A0010^@    |A0010^[    |A0010^a    |A0010^     "
    ∷ letters_or_space 25 3 ∷ [])
    ++ hundreds 28 ++ spacer 31 2 ∷ hundreds 33 ++ spacer 36 45 ∷ [])
    ≡ []
unfolding edges
edges-25 = refl

-- ---- *80*
pub edges-80 :
    edges "      *80*0001HILL 1931                     38531512345N121003007500W       MD" (
    stations ++ (any_text 15 30
    -- 45-55 latitude, 56 N or S: minutes and whole seconds below 60, at most 90 degrees
    ∷ takes 45 "00000000000N|00000000000S|00000000001S|00005999999N|00595999999S|89595999999N|89595999999S|90000000000N|90000000000S"
    ∷ refuses 45 "9000000000^1N|9000000000^1S|90000^100000N|900^10000000N|90^600000000N|9^1000000000N|9^9000000000S|0000^6000000N|00^600000000N|00^605959999S|0000^9999999N|00^990000000S"
    ∷ refuses 45 "^ 8531512345N|3853151234^ N|38^ 31512345N|^-8531512345N|3853151234^/N|3853151234^:N|^/8531512345N|^:8531512345N|3853151234^AN|^           N"
    ∷ holds 56 1 "NS" "MORTEWns 0"
    -- 57-68 longitude, 69 E or W: at most 180 degrees
    ∷ takes 57 "000000000000E|000000000000W|000000000001W|000005999999E|000595999999W|179595999999E|179595999999W|180000000000E|180000000000W"
    ∷ refuses 57 "18000000000^1E|18000000000^1W|180000^100000W|1800^10000000E|18^1000000000E|1^90000000000W|^200000000000E|^999000000000E|00000^6000000E|000^600000000W|000^605959999E|00000^9999999E|000^990000000W"
    ∷ refuses 57 "^ 21003007500W|12100300750^ W|121^ 03007500W|^-21003007500W|12100300750^/W|12100300750^:W|^/21003007500W|^:21003007500W|12100300750^AW|^            W"
    ∷ holds 69 1 "EW" "DFVXNSew 0"
    ∷ spacer 70 7 ∷ letters 77 2 ∷ spacer 79 2 ∷ []))
    ≡ []
unfolding edges
edges-80 = refl

-- ---- *86*
pub edges-86 :
    edges "      *86*0001  -001234A12Y88NGS   -034500G  0012345D  ACOMMENT" (
    stations ++ spacer 15 2
    -- 17-23 orthometric height, 24 code A-Z, 27 Y or N: blank exactly when the height is missing
    ∷ sevens 17 ++ wrong 10 24 17 "       |       A12 "
    ∷ takes 17 "        12 |           " ∷ wrong 10 27 17 "        12Y|        12N|0000000A12 "
    ∷ takes 24 "A|Z" ∷ refuses 24 "^@|^[|^a|^z|^0|^9|^!|^-" ∷ wrong 10 24 24 " "
    -- 25-26 digit pair: two digits or two blanks
    ∷ takes 25 "00|99|09|90|  " ∷ refuses 25 "1^ | ^1|0^ | ^0|^/0|^:0|0^/|0^:|^A0|0^A|^-1|^! "
    ∷ takes 27 "Y|N" ∷ refuses 27 "^X|^Z|^M|^O|^y|^n|^0|^!" ∷ wrong 10 27 27 " "
    -- 28-29 letters and digits, or both blank
    ∷ takes 28 "AA|ZZ|00|99|A0|9Z|  " ∷ refuses 28 "A^ | ^A|9^ | ^0|^@A|^[A|A^@|A^[|^/0|^:0|0^/|0^:|^aA|A^a|^a8|8^:|^! "
    ∷ any_text 30 6
    -- 36-42 geoid height, 43 code A-Z or 0-9
    ∷ sevens 36 ++ wrong 10 43 36 "       " ∷ takes 36 "        "
    ∷ takes 43 "A|Z|0|9" ∷ refuses 43 "^@|^[|^/|^:|^a|^z|^!|^-" ∷ wrong 10 43 43 " "
    ∷ spacer 44 2
    -- 46-52 ellipsoid height, 53 code A-Z
    ∷ sevens 46 ++ wrong 10 53 46 "       " ∷ takes 46 "        "
    ∷ takes 53 "A|Z" ∷ refuses 53 "^@|^[|^a|^z|^0|^9|^!|^-" ∷ wrong 10 53 53 " "
    ∷ spacer 54 2 ∷ letters_or_space 56 1 ∷ any_text 57 24 ∷ [])
    ≡ []
unfolding edges
edges-86 = refl

-- no height, so no code; a code that is none is 9, and 9 goes before 10
pub edges-86-missing :
    edges "      *86*0001" (
    wrong 10 24 24 "A|Z" ∷ wrong 9 24 24 "0|a" ∷ wrong 10 27 27 "Y|N" ∷ wrong 9 27 27 "X|0"
    ∷ wrong 10 43 43 "A|Z|0|9" ∷ wrong 9 43 43 "a|/" ∷ wrong 10 53 53 "A|Z" ∷ wrong 9 53 53 "0|a"
    ∷ takes 25 "12" ∷ takes 28 "88" ∷ takes 56 "A" ∷ [])
    ≡ []
unfolding edges
edges-86-missing = refl

-- ---- docs/LAYOUT.md: *27*, date and time any number of their columns, height 9(2.3), none missing
pub edges-27 :
    edges "      *27*00012402011315                               01543" (
    stations ++ (
    takes 15 "000000|999999|     0|    12|241332" ∷ refuses 15 "     ^ |1^     |24020^ |24^ 201|^-40201|^+40201|24020^/|24020^:|^/40201|^:40201|24020^A"
    ∷ takes 21 "0000|9999|   0|  12|2460" ∷ refuses 21 "   ^ |1^   |131^ |1^ 15|^-315|^+315|131^/|131^:|^/315|^:315|131^A"
    ∷ spacer 25 31
    ∷ takes 56 "00000|99999|-9999|-0000|-0001|    0|   -1|  -12| 1543"
    ∷ refuses 56 "    ^ |    ^-|-^    |1^    |0154^ |12^ 34|-^ 123|-^-123|^+0012|1^-234|0154^/|0154^:|^/1543|^:1543|0154^A|12^.34"
    ∷ spacer 61 20 ∷ []))
    ≡ []
unfolding edges
edges-27 = refl

-- *70*: instrument, equipment code 1-999
pub edges-70 :
    edges "      *70*010123      TRIMBLE                                 R10     5512345678" (
    hundreds 11 ++ hundreds 14 ++ spacer 17 6 ∷ any_text 23 18 ∷ spacer 41 22 ∷ any_text 63 8 ∷ any_text 71 10 ∷ [])
    ≡ []
unfolding edges
edges-70 = refl

-- *72*: antenna, radome code of four letters
pub edges-72 :
    edges "      *72*005   TRMR10          NONE        5512345678" (
    hundreds 11 ++ spacer 14 3 ∷ any_text 17 16 ∷ letters 33 4 ∷ spacer 37 8 ∷ any_text 45 20 ∷ spacer 65 16 ∷ [])
    ≡ []
unfolding edges
edges-72 = refl

-- ---- docs/LAYOUT.md: *91* *92* *93*, none missing, no decimal point
-- a standard deviation, 9(7.2) in ten columns
abbrev deviations : ℕ → List Row
deviations c =
    takes c "0000000000|0999999999|         0|      1234|  12345678| 999999999"
    ∷ refuses c "^1000000000|^9999999999|         ^ |0^         |^1         |000000123^ |   12^ 345 |^-000000001|        ^-1|^+000000001|000000012^/|000000012^:|^/000000012|^:000000012|000000012^A|0000012^.34|   12345^.6" ∷ []

-- a correlation, from -.9999999 to .99999999
abbrev correlations : ℕ → List Row
correlations c =
    takes c "0000000000|0099999999|-099999990|0050000000|-050000000|        -0|-000000000|         0|        -1|  99999999| -99999990|   1234567"
    ∷ refuses c "^1000000000|0^100000000| ^100000000|-^100000000|-^199999990|-09999999^1|-09999999^9| -9999999^1|         ^-|         ^ |-^         |0^ 12345678|005000000^ "
    ∷ refuses c "-^ 12345678|-^-12345678|0^-12345678|^+012345678|^.500000000|-^.50000000|0000000^.50|005000000^/|005000000^:|^/050000000|^:050000000|005000000^A" ∷ []

-- Y or N
abbrev scaled : ℕ → Row
scaled c = holds c 1 "YN" " XZMOyn01!"

pub edges-91 :
    edges "      *91*0001      00000001230000000098-0012345670000000250    NNETWORK" (
    stations ++ spacer 15 6 ∷ deviations 21 ++ deviations 31 ++ correlations 41 ++ deviations 51 ++ spacer 61 4 ∷ scaled 65 ∷ any_text 66 15 ∷ [])
    ≡ []
unfolding edges
edges-91 = refl

-- the forepoint is another than the standpoint; a forepoint that is none is 9
pub edges-92 :
    edges "      *92*0001  0002  0000000045000000005000000000000000000120    YLOCAL" (
    stations ++ spacer 15 2
    ∷ takes 17 "0002|9999|   2|  12" ∷ refuses 17 "000^0|   ^0|   ^ |1^   |001^ |1^ 23|^-002|  ^-2|^+002|000^/|000^:|^/002|^:002|000^A"
    ∷ wrong 10 17 17 "0001|   1|  01" ∷ wrong 10 17 11 "0002|   2| 002"
    ∷ spacer 21 2 ∷ deviations 23 ++ deviations 33 ++ correlations 43 ++ deviations 53 ++ spacer 63 4 ∷ scaled 67 ∷ any_text 68 13 ∷ [])
    ≡ []
unfolding edges
edges-92 = refl

-- a factor, 0001..9999 in eight columns
abbrev factors : ℕ → List Row
factors c =
    takes c "00000001|00009999|       1|    1000|    9999"
    ∷ refuses c "0000000^0|       ^0|       ^ |000^10000|   ^10000|00^100000|0^1000000|^10000000|^1       |0^       |0000100^ |   0^ 100|^-0000001|      ^-1|^+0000001|   ^1.000|    1^.00|0000000^/|0000000^:|^/0000001|^:0000001|0000000^A" ∷ []

pub edges-93 :
    edges "      *93*0000100000009999FACTORS" (factors 11 ++ factors 19 ++ any_text 27 54 ∷ [])
    ≡ []
unfolding edges
edges-93 = refl
