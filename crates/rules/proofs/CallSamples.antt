-- Every call by computation: what read, field, write, rewrite, the words of the table and the sheet are for the sample file, and write at the ends of every field.
use mathlib.Core.Path.{◌≡◌, refl, ◌∙◌, ap}
use mathlib.Core.Bool.{cond}
use mathlib.Core.List.{List, [], ◌∷◌, ◌++◌, map}
use Prim.Native.Nat.{ℕ, zero, suc, ◌+◌, ◌≤◌}
use Prim.Native.String.{String}
use lib.ListN.{length, take, set, replicate}
use lib.IntN.{pos}
use Rattle.rules.specs.Tests.{◌≤?◌, ◌=?◌}
use Rattle.rules.specs.Characters.{ascii}
use Rattle.rules.specs.Digits.{stripped, numeral}
use Rattle.rules.specs.Items.{Value, gap, missing, num, text, label, parts}
use Rattle.rules.specs.Fields.{Verdict, ok, fault}
use Rattle.rules.specs.Records.{Meaning, meaning, of_kind, judge_given}
use Rattle.rules.specs.Files.{accept, meanings, verdict}
use Rattle.rules.specs.Layouts.{layout}
use Rattle.rules.specs.References.{of_first, has_word, word_at, counts}
use Rattle.rules.specs.Kinds.{*AA*, *10*, *12*, *25*, *27*, *70*, *72*, *80*, *86*, *91*, *92*, *93*}
use Rattle.rules.specs.Chapter4.{chapter4}
use Rattle.rules.specs.Calls.{file_answer, values, unread, is_read, part_width, field_width, width_asked, field_offset, field_of, write_verdict, write_output}
use Rattle.rules.specs.Sheet.{tabbed, file_line, kind_names, kind_lines, listed, sheet}
use Rattle.rules.proofs.Samples.{full, judged, full_accepted, counted, full_counts, styled, read_from, bytes_of}
use Rattle.rules.proofs.Published.{below_0}
use Rattle.rules.proofs.Edges.{lined, same_verdict}
use Rattle.rules.proofs.Limits.{taken_file}

-- ---- rewrite: the sample file in house style
unfoldable pub joined : List String → List ℕ
unfolding lined
joined [] = []
joined (s ∷ ss) = lined s ++ joined ss

pub full-styled :
    styled full ≡ joined (
    "000010*A1*HZTLOBS  KABUN KABUNLISOG SURVEYORS"
    ∷ "000020*10*RIVER MOUTH TO THE OLD LIGHT, 2024"
    ∷ "000030*11*CONTINUED"
    ∷ "000040*12*202401202402JDCCRUZ J D                                          4MD"
    ∷ "000050*25*0001T0324AHILLJDC010  005"
    ∷ "000060*26*"
    ∷ "000070*27*00012402011315                               01543"
    ∷ "000080*27*00012402011815                               -0012"
    ∷ "000090*25*0002T0334BDOCK   011  006"
    ∷ "000100*27*00022402020000                               00000"
    ∷ "000110*27*00022402020000                               00000"
    ∷ "000120*27*00022402020000                               00000"
    ∷ "000130*70*010123      TRIMBLE                                 R10     5512345678"
    ∷ "000140*70*011123      TRIMBLE                                 R10"
    ∷ "000150*72*005   TRMR10          NONE        5512345678"
    ∷ "000160*72*006   TRMR10          NONE        UNK"
    ∷ "000170*80*0001HILL 1931                     38531512345N180000000000E       MD"
    ∷ "000180*86*0001  -001234A12Y88NGS             9999999A  A"
    ∷ "000190*80*0002DOCK                          00000000001S000000000001W       MD"
    ∷ "000200*86*0002                     -0005006"
    ∷ "000210*91*0001      00000001230000000098-0012345670000000250    NNETWORK"
    ∷ "000220*92*0001  0002  0000000045000000005000000000000000000120    YLOCAL"
    ∷ "000230*93*0000100000009999FACTORS"
    ∷ "000240*A1*" ∷ [])
unfolding styled joined
full-styled = refl

-- ---- read: the sequence number and the values of a record of each kind
-- a text of w columns, blank behind what is given
unfoldable pub wide : ℕ → String → Value
unfolding ascii
wide w s = text (take w (ascii s ++ replicate w 32))

unfoldable pub meant : String → List Value → Meaning
unfolding ascii
meant c vs = record { code = ascii c; values = vs }

pub full-read :
    (read_from full 1 ∷ read_from full 2 ∷ read_from full 3 ∷ read_from full 4 ∷ read_from full 5 ∷ read_from full 6 ∷ read_from full 8
    ∷ read_from full 13 ∷ read_from full 15 ∷ read_from full 17 ∷ read_from full 18 ∷ read_from full 19 ∷ read_from full 20
    ∷ read_from full 21 ∷ read_from full 22 ∷ read_from full 23 ∷ read_from full 24 ∷ read_from full 25 ∷ [])
    ≡ (values (num (pos 10)) (meant "*A1*" (wide 70 "HZTLOBS  KABUN KABUNLISOG SURVEYORS" ∷ []))
    ∷ values missing (meant "*10*" (wide 70 "RIVER MOUTH TO THE OLD LIGHT, 2024" ∷ []))
    ∷ values missing (meant "*11*" (wide 70 "CONTINUED" ∷ []))
    ∷ values (num (pos 30)) (meant "*12*" (num (pos 202_401) ∷ num (pos 202_402) ∷ wide 3 "JDC" ∷ wide 18 "CRUZ J D" ∷ wide 3 "" ∷ wide 18 "" ∷ gap ∷ gap ∷ wide 2 "MD" ∷ gap ∷ []))
    ∷ values missing (meant "*25*" (num (pos 1) ∷ label 84 32 4 65 (ascii "HILL") ∷ wide 3 "JDC" ∷ num (pos 10) ∷ gap ∷ num (pos 5) ∷ gap ∷ []))
    ∷ values missing (meant "*26*" (wide 70 "" ∷ []))
    ∷ values missing (meant "*27*" (num (pos 1) ∷ num (pos 240_201) ∷ num (pos 1_815) ∷ gap ∷ below_0 12 ∷ gap ∷ []))
    ∷ values missing (meant "*70*" (num (pos 10) ∷ num (pos 123) ∷ gap ∷ wide 18 "TRIMBLE" ∷ gap ∷ wide 8 "R10" ∷ wide 10 "5512345678" ∷ []))
    ∷ values missing (meant "*72*" (num (pos 5) ∷ gap ∷ wide 16 "TRMR10" ∷ wide 4 "NONE" ∷ gap ∷ wide 20 "5512345678" ∷ gap ∷ []))
    ∷ values missing (meant "*80*" (num (pos 1) ∷ wide 30 "HILL 1931" ∷ num (pos 13_999_512_345) ∷ num (pos 64_800_000_000) ∷ gap ∷ wide 2 "MD" ∷ gap ∷ []))
    ∷ values missing (meant "*86*" (num (pos 1) ∷ gap ∷ below_0 1_234 ∷ wide 1 "A" ∷ wide 2 "12" ∷ wide 1 "Y" ∷ wide 2 "88" ∷ wide 6 "NGS" ∷ missing ∷ wide 1 "" ∷ gap ∷ num (pos 9_999_999) ∷ wide 1 "A" ∷ gap ∷ wide 1 "A" ∷ wide 24 "" ∷ []))
    ∷ values missing (meant "*80*" (num (pos 2) ∷ wide 30 "DOCK" ∷ below_0 1 ∷ below_0 1 ∷ gap ∷ wide 2 "MD" ∷ gap ∷ []))
    ∷ values missing (meant "*86*" (num (pos 2) ∷ gap ∷ missing ∷ wide 1 "" ∷ wide 2 "" ∷ wide 1 "" ∷ wide 2 "" ∷ wide 6 "" ∷ below_0 500 ∷ wide 1 "6" ∷ gap ∷ missing ∷ wide 1 "" ∷ gap ∷ wide 1 "" ∷ wide 24 "" ∷ []))
    ∷ values missing (meant "*91*" (num (pos 1) ∷ gap ∷ num (pos 123) ∷ num (pos 98) ∷ below_0 1_234_567 ∷ num (pos 250) ∷ gap ∷ wide 1 "N" ∷ wide 15 "NETWORK" ∷ []))
    ∷ values missing (meant "*92*" (num (pos 1) ∷ gap ∷ num (pos 2) ∷ gap ∷ num (pos 45) ∷ num (pos 50) ∷ num (pos 0) ∷ num (pos 120) ∷ gap ∷ wide 1 "Y" ∷ wide 13 "LOCAL" ∷ []))
    ∷ values missing (meant "*93*" (num (pos 1_000) ∷ num (pos 9_999) ∷ wide 54 "FACTORS" ∷ []))
    ∷ values missing (meant "*A1*" (wide 70 "" ∷ []))
    ∷ unread 13 25 0 ∷ [])
unfolding read_from wide meant below_0
full-read = refl

-- ---- field: the first column and the width of each field from column 11 on, of every column that there is
unfoldable pub starts : String → ℕ → ℕ → List ℕ
unfolding judged part_width field_width parts
starts code zero c = []
starts code (suc n) c =
    let rest = starts code n (c + 1) in
    let w = field_width c (layout (ascii code)) in
    cond (w =? 0) rest (c ∷ w ∷ rest)

abbrev whole : List ℕ
whole = 11 ∷ 70 ∷ []

pub field-starts :
    map (λ code. starts code 100 0) ("*A1*" ∷ "*10*" ∷ "*11*" ∷ "*12*" ∷ "*25*" ∷ "*26*" ∷ "*27*" ∷ "*70*" ∷ "*72*" ∷ "*80*" ∷ "*86*" ∷ "*91*" ∷ "*92*" ∷ "*93*" ∷ [])
    ≡ (whole ∷ whole ∷ whole
    ∷ (11 ∷ 6 ∷ 17 ∷ 6 ∷ 23 ∷ 3 ∷ 26 ∷ 18 ∷ 44 ∷ 3 ∷ 47 ∷ 18 ∷ 65 ∷ 11 ∷ 76 ∷ 1 ∷ 77 ∷ 2 ∷ 79 ∷ 2 ∷ [])
    ∷ (11 ∷ 4 ∷ 15 ∷ 10 ∷ 25 ∷ 3 ∷ 28 ∷ 3 ∷ 31 ∷ 2 ∷ 33 ∷ 3 ∷ 36 ∷ 45 ∷ [])
    ∷ whole
    ∷ (11 ∷ 4 ∷ 15 ∷ 6 ∷ 21 ∷ 4 ∷ 25 ∷ 31 ∷ 56 ∷ 5 ∷ 61 ∷ 20 ∷ [])
    ∷ (11 ∷ 3 ∷ 14 ∷ 3 ∷ 17 ∷ 6 ∷ 23 ∷ 18 ∷ 41 ∷ 22 ∷ 63 ∷ 8 ∷ 71 ∷ 10 ∷ [])
    ∷ (11 ∷ 3 ∷ 14 ∷ 3 ∷ 17 ∷ 16 ∷ 33 ∷ 4 ∷ 37 ∷ 8 ∷ 45 ∷ 20 ∷ 65 ∷ 16 ∷ [])
    ∷ (11 ∷ 4 ∷ 15 ∷ 30 ∷ 45 ∷ 11 ∷ 56 ∷ 1 ∷ 57 ∷ 12 ∷ 69 ∷ 1 ∷ 70 ∷ 7 ∷ 77 ∷ 2 ∷ 79 ∷ 2 ∷ [])
    ∷ (11 ∷ 4 ∷ 15 ∷ 2 ∷ 17 ∷ 7 ∷ 24 ∷ 1 ∷ 25 ∷ 2 ∷ 27 ∷ 1 ∷ 28 ∷ 2 ∷ 30 ∷ 6 ∷ 36 ∷ 7 ∷ 43 ∷ 1 ∷ 44 ∷ 2 ∷ 46 ∷ 7 ∷ 53 ∷ 1 ∷ 54 ∷ 2 ∷ 56 ∷ 1 ∷ 57 ∷ 24 ∷ [])
    ∷ (11 ∷ 4 ∷ 15 ∷ 6 ∷ 21 ∷ 10 ∷ 31 ∷ 10 ∷ 41 ∷ 10 ∷ 51 ∷ 10 ∷ 61 ∷ 4 ∷ 65 ∷ 1 ∷ 66 ∷ 15 ∷ [])
    ∷ (11 ∷ 4 ∷ 15 ∷ 2 ∷ 17 ∷ 4 ∷ 21 ∷ 2 ∷ 23 ∷ 10 ∷ 33 ∷ 10 ∷ 43 ∷ 10 ∷ 53 ∷ 10 ∷ 63 ∷ 4 ∷ 67 ∷ 1 ∷ 68 ∷ 13 ∷ [])
    ∷ (11 ∷ 8 ∷ 19 ∷ 8 ∷ 27 ∷ 54 ∷ []) ∷ [])
unfolding starts
field-starts = refl

-- a field's columns: the caller's own, empty where no field starts, at columns 1 and 7, past the last record and where read refuses
unfoldable pub field_from : List String → ℕ → ℕ → List ℕ
unfolding read_from is_read part_width field_width parts width_asked field_offset field_of
field_from ls r c = field_of (bytes_of ls) r c

unfoldable pub offset_from : List String → ℕ → ℕ → ℕ
unfolding field_from
offset_from ls r c = field_offset (bytes_of ls) r c

abbrev backward : List String
backward = "      *12*202402202401JDCCRUZ J D                                          4MD  \n" ∷ []

pub full-fields :
    (field_from full 17 11 ∷ field_from full 17 45 ∷ field_from full 17 56 ∷ field_from full 17 57 ∷ field_from full 17 69 ∷ field_from full 17 77 ∷ field_from full 17 79
    ∷ field_from full 4 76 ∷ field_from full 5 15 ∷ field_from full 18 17 ∷ field_from full 1 11
    ∷ field_from full 17 1 ∷ field_from full 17 7 ∷ field_from full 17 10 ∷ field_from full 17 12 ∷ field_from full 17 46 ∷ field_from full 5 16 ∷ field_from full 17 81
    ∷ field_from full 0 11 ∷ field_from full 25 11 ∷ field_from backward 1 11 ∷ [])
    ≡ (ascii "0001" ∷ ascii "38531512345" ∷ ascii "N" ∷ ascii "180000000000" ∷ ascii "W" ∷ ascii "MD" ∷ ascii "  "
    ∷ ascii "4" ∷ ascii "T0324AHILL" ∷ ascii "  -1234" ∷ ascii "HZTLOBS  KABUN KABUNLISOG SURVEYORS                                   "
    ∷ [] ∷ [] ∷ [] ∷ [] ∷ [] ∷ [] ∷ [] ∷ [] ∷ [] ∷ [] ∷ [])
unfolding field_from
full-fields = refl

-- byte 81 x (r - 1) + c - 1; 0 where the field is empty
pub full-offsets :
    (offset_from full 1 11 ∷ offset_from full 17 11 ∷ offset_from full 17 45 ∷ offset_from full 17 46 ∷ offset_from full 25 11 ∷ [])
    ≡ (10 ∷ 1_306 ∷ 1_340 ∷ 0 ∷ 0 ∷ [])
unfolding offset_from
full-offsets = refl

-- ---- the words of the table: at both ends of each family
abbrev definers : List String
definers = "      *70*001123" ∷ "      *70*999123" ∷ "      *72*001" ∷ "      *72*999" ∷ "      *80*0001" ∷ "      *80*9999" ∷ []

unfoldable pub words_at : List ℕ → List ℕ
unfolding judged lined of_first has_word word_at
words_at js = let ms = map (λ s. meaning chapter4 (lined s)) definers in map (word_at ms) js

pub words-at-the-ends :
    words_at (0 ∷ 1 ∷ 2 ∷ 9_998 ∷ 9_999 ∷ 10_000 ∷ 10_001 ∷ 10_002 ∷ 10_998 ∷ 10_999 ∷ 11_000 ∷ 11_001 ∷ 11_002 ∷ 11_998 ∷ 11_999 ∷ [])
    ≡ 0 ∷ 5 ∷ 0 ∷ 0 ∷ 6 ∷ 0 ∷ 1 ∷ 0 ∷ 0 ∷ 2 ∷ 0 ∷ 3 ∷ 0 ∷ 0 ∷ 4 ∷ []
unfolding words_at
words-at-the-ends = refl

-- ---- the sheet of an accepted file
full_taken : verdict chapter4 (bytes_of full) ≡ accept
unfolding judged
full_taken = full_accepted

full_counted : counts (meanings chapter4 (bytes_of full)) ≡ 2 ∷ 1 ∷ 1 ∷ 1 ∷ 2 ∷ 1 ∷ 5 ∷ 2 ∷ 2 ∷ 2 ∷ 2 ∷ 1 ∷ 1 ∷ 1 ∷ []
unfolding counted
full_counted = full_counts

full_long : length (bytes_of full) ≡ 1_944
unfolding bytes_of
full_long = refl

full_listed : (table : List ℕ) → sheet (bytes_of full) table ≡ listed 24 (file_answer (bytes_of full) table)
unfolding sheet ◌≤?◌
full_listed table = rw full_long

pub full_sheet : (table : List ℕ) → 12_000 ≤ length table
    → sheet (bytes_of full) table
    ≡ bytes_of (
    "FILE\t24\t0\t0\t0\n" ∷ "KIND\tAA\t2\n" ∷ "KIND\t10\t1\n" ∷ "KIND\t11\t1\n" ∷ "KIND\t12\t1\n" ∷ "KIND\t25\t2\n" ∷ "KIND\t26\t1\n" ∷ "KIND\t27\t5\n"
    ∷ "KIND\t70\t2\n" ∷ "KIND\t72\t2\n" ∷ "KIND\t80\t2\n" ∷ "KIND\t86\t2\n" ∷ "KIND\t91\t1\n" ∷ "KIND\t92\t1\n" ∷ "KIND\t93\t1\n" ∷ [])
full_sheet table h =
    full_listed table
    ∙ ap (listed 24) ((taken_file (bytes_of full) table h full_taken).0 ∙ ap (λ ns. record { number = 0; place = 0; column = 0; counts = ns }) full_counted)
    ∙ (unfold listed file_line kind_names kind_lines tabbed numeral stripped judged in refl)

-- ---- write
unfoldable pub writing : ℕ → ℕ → Value → Meaning → Verdict
unfolding judged write_verdict judge_given of_kind
writing room k q m = write_verdict room k q m

-- the i-th field of a record given another value, and the verdict
pub data Given : Type 0 where
  given : ℕ → Value → Verdict → Given

unfoldable pub misjudged : ℕ → String → List Value → List Given → List Value
unfolding writing meant same_verdict
misjudged k code vs [] = []
misjudged k code vs (given i v u ∷ more) =
    let rest = misjudged k code vs more in
    cond (same_verdict (writing 81 k missing (meant code (set vs i v))) u) rest (v ∷ rest)

-- the values themselves are taken, and every change is judged as said
unfoldable pub writes : ℕ → String → List Value → List Given → List Value
unfolding misjudged
writes k code vs rows = cond (same_verdict (writing 81 k missing (meant code vs)) ok) [] (gap ∷ []) ++ misjudged k code vs rows

abbrev is : ℕ → Value
is n = num (pos n)

abbrev values_12 : List Value
values_12 = is 202_401 ∷ is 202_402 ∷ wide 3 "JDC" ∷ wide 18 "CRUZ" ∷ wide 3 "" ∷ wide 18 "" ∷ gap ∷ gap ∷ wide 2 "MD" ∷ gap ∷ []

pub writes-12 :
    writes *12* "*12*" values_12 (
    given 0 (is 101) ok ∷ given 0 (is 100) (fault 9 11) ∷ given 0 (is 113) (fault 9 11) ∷ given 0 (is 12) (fault 9 11) ∷ given 0 (is 1_000_001) (fault 9 11)
    ∷ given 0 missing (fault 9 11) ∷ given 0 gap (fault 9 11) ∷ given 0 (wide 6 "202401") (fault 9 11) ∷ given 0 (is 202_403) (fault 10 17)
    ∷ given 1 (is 202_401) ok ∷ given 1 (is 999_912) ok ∷ given 1 (is 202_312) (fault 10 17) ∷ given 1 (is 202_413) (fault 9 17) ∷ given 1 missing (fault 9 17)
    ∷ given 2 (wide 3 "") ok ∷ given 2 (wide 2 "JD") (fault 9 23) ∷ given 2 (wide 4 "JDC") (fault 9 23) ∷ given 2 (wide 3 "jdc") (fault 9 23)
    ∷ given 3 (wide 17 "") (fault 9 26) ∷ given 3 (wide 19 "") (fault 9 26) ∷ given 3 (wide 18 "A\\B") (fault 9 26) ∷ given 3 (wide 18 "A/B") ok
    ∷ given 4 (wide 2 "") (fault 9 44) ∷ given 5 (wide 17 "") (fault 9 47) ∷ given 6 (is 0) (fault 9 65) ∷ given 7 (is 4) (fault 9 76)
    ∷ given 8 (wide 1 "M") (fault 9 77) ∷ given 8 (wide 2 "M") (fault 9 77) ∷ given 9 missing (fault 9 79) ∷ [])
    ≡ []
unfolding writes wide
writes-12 = refl

abbrev media : ℕ → ℕ → ℕ → ℕ → ℕ → Value
media maker day year session w = label maker day year session (replicate w 65)

pub writes-25 :
    writes *25* "*25*" (is 1 ∷ media 65 1 0 65 4 ∷ wide 3 "" ∷ is 10 ∷ gap ∷ is 5 ∷ gap ∷ []) (
    given 0 (is 9_999) ok ∷ given 0 (is 0) (fault 9 11) ∷ given 0 (is 10_000) (fault 9 11) ∷ given 0 (below_0 1) (fault 9 11) ∷ given 0 missing (fault 9 11)
    ∷ given 1 (media 90 366 9 57 4) ok ∷ given 1 (media 90 366 9 48 4) ok ∷ given 1 (media 65 0 0 65 4) (fault 9 15) ∷ given 1 (media 65 367 0 65 4) (fault 9 15)
    ∷ given 1 (media 64 1 0 65 4) (fault 9 15) ∷ given 1 (media 91 1 0 65 4) (fault 9 15) ∷ given 1 (media 65 1 10 65 4) (fault 9 15)
    ∷ given 1 (media 65 1 0 47 4) (fault 9 15) ∷ given 1 (media 65 1 0 58 4) (fault 9 15) ∷ given 1 (media 65 1 0 64 4) (fault 9 15) ∷ given 1 (media 65 1 0 91 4) (fault 9 15)
    ∷ given 1 (media 65 1 0 65 3) (fault 9 15) ∷ given 1 (media 65 1 0 65 5) (fault 9 15) ∷ given 1 (wide 10 "A0010AAAAA") (fault 9 15)
    ∷ given 2 (wide 4 "") (fault 9 25)
    ∷ given 3 (is 1) ok ∷ given 3 (is 999) ok ∷ given 3 (is 0) (fault 9 28) ∷ given 3 (is 1_000) (fault 9 28) ∷ given 3 missing (fault 9 28)
    ∷ given 5 (is 1) ok ∷ given 5 (is 999) ok ∷ given 5 (is 0) (fault 9 33) ∷ given 5 (is 1_000) (fault 9 33) ∷ given 5 missing (fault 9 33) ∷ [])
    ≡ []
unfolding writes wide below_0
writes-25 = refl

pub writes-27 :
    writes *27* "*27*" (is 1 ∷ is 240_201 ∷ is 1_315 ∷ gap ∷ is 1_543 ∷ gap ∷ []) (
    given 0 (is 0) (fault 9 11) ∷ given 0 (is 10_000) (fault 9 11)
    ∷ given 1 (is 0) ok ∷ given 1 (is 999_999) ok ∷ given 1 (is 1_000_000) (fault 9 15) ∷ given 1 missing (fault 9 15)
    ∷ given 2 (is 0) ok ∷ given 2 (is 9_999) ok ∷ given 2 (is 10_000) (fault 9 21) ∷ given 2 missing (fault 9 21)
    ∷ given 4 (is 0) ok ∷ given 4 (is 99_999) ok ∷ given 4 (is 100_000) (fault 9 56) ∷ given 4 (below_0 9_999) ok ∷ given 4 (below_0 10_000) (fault 9 56) ∷ given 4 missing (fault 9 56) ∷ [])
    ≡ []
unfolding writes below_0
writes-27 = refl

pub writes-70 :
    writes *70* "*70*" (is 10 ∷ is 123 ∷ gap ∷ wide 18 "" ∷ gap ∷ wide 8 "" ∷ wide 10 "" ∷ []) (
    given 0 (is 1) ok ∷ given 0 (is 999) ok ∷ given 0 (is 0) (fault 9 11) ∷ given 0 (is 1_000) (fault 9 11)
    ∷ given 1 (is 1) ok ∷ given 1 (is 999) ok ∷ given 1 (is 0) (fault 9 14) ∷ given 1 (is 1_000) (fault 9 14) ∷ given 1 missing (fault 9 14)
    ∷ given 3 (wide 17 "") (fault 9 23) ∷ given 3 (wide 19 "") (fault 9 23) ∷ given 5 (wide 7 "") (fault 9 63) ∷ given 6 (wide 11 "") (fault 9 71) ∷ [])
    ≡ []
unfolding writes wide
writes-70 = refl

pub writes-72 :
    writes *72* "*72*" (is 5 ∷ gap ∷ wide 16 "" ∷ wide 4 "NONE" ∷ gap ∷ wide 20 "" ∷ gap ∷ []) (
    given 0 (is 1) ok ∷ given 0 (is 999) ok ∷ given 0 (is 0) (fault 9 11) ∷ given 0 (is 1_000) (fault 9 11)
    ∷ given 2 (wide 15 "") (fault 9 17) ∷ given 2 (wide 17 "") (fault 9 17) ∷ given 3 (wide 4 "NON") (fault 9 33) ∷ given 3 (wide 3 "NON") (fault 9 33) ∷ given 5 (wide 21 "") (fault 9 45) ∷ [])
    ≡ []
unfolding writes wide
writes-72 = refl

pub writes-80 :
    writes *80* "*80*" (is 1 ∷ wide 30 "" ∷ is 0 ∷ is 0 ∷ gap ∷ wide 2 "MD" ∷ gap ∷ []) (
    given 0 (is 0) (fault 9 11) ∷ given 0 (is 9_999) ok ∷ given 0 (is 10_000) (fault 9 11) ∷ given 1 (wide 29 "") (fault 9 15) ∷ given 1 (wide 31 "") (fault 9 15)
    ∷ given 2 (is 32_400_000_000) ok ∷ given 2 (is 32_400_000_001) (fault 9 45) ∷ given 2 (below_0 32_400_000_000) ok ∷ given 2 (below_0 32_400_000_001) (fault 9 45) ∷ given 2 missing (fault 9 45)
    ∷ given 3 (is 64_800_000_000) ok ∷ given 3 (is 64_800_000_001) (fault 9 57) ∷ given 3 (below_0 64_799_999_999) ok ∷ given 3 (below_0 64_800_000_000) (fault 9 57) ∷ given 3 missing (fault 9 57)
    ∷ given 5 (wide 3 "MDA") (fault 9 77) ∷ [])
    ≡ []
unfolding writes wide below_0
writes-80 = refl

abbrev values_86 : List Value
values_86 = is 1 ∷ gap ∷ is 0 ∷ wide 1 "A" ∷ wide 2 "12" ∷ wide 1 "Y" ∷ wide 2 "" ∷ wide 6 "" ∷ is 0 ∷ wide 1 "0" ∷ gap ∷ is 0 ∷ wide 1 "Z" ∷ gap ∷ wide 1 "" ∷ wide 24 "" ∷ []

abbrev ends_86 : ℕ → ℕ → List Given
ends_86 i c = given i (is 9_999_999) ok ∷ given i (is 10_000_000) (fault 9 c) ∷ given i (below_0 999_999) ok ∷ given i (below_0 1_000_000) (fault 9 c) ∷ given i (wide 7 "") (fault 9 c) ∷ []

pub writes-86 :
    writes *86* "*86*" values_86 (
    given 0 (is 0) (fault 9 11) ∷ given 0 (is 10_000) (fault 9 11)
    ∷ ends_86 2 17 ++ given 2 missing (fault 10 24) ∷ given 3 (wide 1 "") (fault 10 24) ∷ given 3 (wide 1 "0") (fault 9 24) ∷ given 3 (wide 2 "A") (fault 9 24)
    ∷ given 4 (wide 2 "") ok ∷ given 4 (wide 2 "1") (fault 9 25) ∷ given 5 (wide 1 "N") ok ∷ given 5 (wide 1 "") (fault 10 27) ∷ given 5 (wide 1 "X") (fault 9 27)
    ∷ given 6 (wide 2 "A9") ok ∷ given 6 (wide 2 "A") (fault 9 28) ∷ given 7 (wide 5 "") (fault 9 30) ∷ given 7 (wide 7 "") (fault 9 30)
    ∷ ends_86 8 36 ++ given 8 missing (fault 10 43) ∷ given 9 (wide 1 "A") ok ∷ given 9 (wide 1 "9") ok ∷ given 9 (wide 1 "") (fault 10 43)
    ∷ ends_86 11 46 ++ given 11 missing (fault 10 53) ∷ given 12 (wide 1 "") (fault 10 53) ∷ given 12 (wide 1 "0") (fault 9 53)
    ∷ given 14 (wide 1 "A") ok ∷ given 14 (wide 1 "1") (fault 9 56) ∷ given 15 (wide 23 "") (fault 9 57) ∷ given 15 (wide 25 "") (fault 9 57) ∷ [])
    ≡ []
unfolding writes wide below_0
writes-86 = refl

-- 02, T-03: the ends of every field of the accuracies; a *92* of one station is 10, of a bad one 9
abbrev deviations : ℕ → ℕ → List Given
deviations i c = given i (is 0) ok ∷ given i (is 999_999_999) ok ∷ given i (is 1_000_000_000) (fault 9 c) ∷ given i (below_0 1) (fault 9 c) ∷ given i missing (fault 9 c) ∷ []

abbrev correlations : ℕ → ℕ → List Given
correlations i c =
    given i (is 0) ok ∷ given i (is 99_999_999) ok ∷ given i (is 100_000_000) (fault 9 c) ∷ given i (below_0 99_999_990) ok ∷ given i (below_0 99_999_991) (fault 9 c)
    ∷ given i missing (fault 9 c) ∷ []

abbrev scales : ℕ → ℕ → List Given
scales i c = given i (wide 1 "N") ok ∷ given i (wide 1 "") (fault 9 c) ∷ given i (wide 1 "y") (fault 9 c) ∷ given i (wide 2 "Y") (fault 9 c) ∷ []

abbrev values_91 : List Value
values_91 = is 1 ∷ gap ∷ is 123 ∷ is 98 ∷ below_0 50_000_000 ∷ is 250 ∷ gap ∷ wide 1 "Y" ∷ wide 15 "NETWORK" ∷ []

pub writes-91 :
    writes *91* "*91*" values_91 (
    given 0 (is 9_999) ok ∷ given 0 (is 0) (fault 9 11) ∷ given 0 (is 10_000) (fault 9 11) ∷ given 0 missing (fault 9 11)
    ∷ deviations 2 21 ++ deviations 3 31 ++ correlations 4 41 ++ deviations 5 51 ++ scales 7 65 ++ given 8 (wide 14 "") (fault 9 66) ∷ given 8 (wide 16 "") (fault 9 66) ∷ [])
    ≡ []
unfolding writes wide below_0
writes-91 = refl

abbrev values_92 : List Value
values_92 = is 1 ∷ gap ∷ is 2 ∷ gap ∷ is 45 ∷ is 50 ∷ is 50_000_000 ∷ is 120 ∷ gap ∷ wide 1 "Y" ∷ wide 13 "LOCAL" ∷ []

pub writes-92 :
    writes *92* "*92*" values_92 (
    given 0 (is 9_999) ok ∷ given 0 (is 0) (fault 9 11) ∷ given 0 (is 10_000) (fault 9 11) ∷ given 0 (is 2) (fault 10 17)
    ∷ given 2 (is 9_999) ok ∷ given 2 (is 0) (fault 9 17) ∷ given 2 (is 10_000) (fault 9 17) ∷ given 2 missing (fault 9 17) ∷ given 2 (is 1) (fault 10 17)
    ∷ deviations 4 23 ++ deviations 5 33 ++ correlations 6 43 ++ deviations 7 53 ++ scales 9 67 ++ given 10 (wide 12 "") (fault 9 68) ∷ given 10 (wide 14 "") (fault 9 68) ∷ [])
    ≡ []
unfolding writes wide below_0
writes-92 = refl

abbrev variances : ℕ → ℕ → List Given
variances i c = given i (is 1) ok ∷ given i (is 9_999) ok ∷ given i (is 0) (fault 9 c) ∷ given i (is 10_000) (fault 9 c) ∷ given i missing (fault 9 c) ∷ []

pub writes-93 :
    writes *93* "*93*" (is 1_000 ∷ is 1_000 ∷ wide 54 "" ∷ []) (variances 0 11 ++ variances 1 19 ++ given 2 (wide 53 "") (fault 9 27) ∷ given 2 (wide 55 "") (fault 9 27) ∷ [])
    ≡ []
unfolding writes wide
writes-93 = refl

-- texts of 70 columns: *26* and its like, *10*; the sequence number; the code; 1 before 9
pub writes-else :
    (writing 81 *AA* missing (meant "*A1*" (wide 70 "" ∷ [])) ∷ writing 81 *AA* missing (meant "*A1*" (wide 69 "" ∷ [])) ∷ writing 81 *AA* missing (meant "*A1*" (wide 71 "" ∷ []))
    ∷ writing 81 *10* missing (meant "*10*" (wide 70 "A\\B" ∷ [])) ∷ writing 81 *10* missing (meant "*10*" (wide 70 "a" ∷ []))
    ∷ writing 81 *10* (is 1) (meant "*10*" (wide 70 "" ∷ [])) ∷ writing 81 *10* (is 999_999) (meant "*10*" (wide 70 "" ∷ []))
    ∷ writing 81 *10* (is 0) (meant "*10*" (wide 70 "" ∷ [])) ∷ writing 81 *10* (is 1_000_000) (meant "*10*" (wide 70 "" ∷ [])) ∷ writing 81 *10* (below_0 1) (meant "*10*" (wide 70 "" ∷ []))
    ∷ writing 81 *AA* missing (meant "*1A*" (wide 70 "" ∷ [])) ∷ writing 81 *AA* missing (meant "*a1*" (wide 70 "" ∷ [])) ∷ writing 81 *AA* missing (meant "*A1" (wide 70 "" ∷ [])) ∷ writing 81 *AA* missing (meant "*10*" (wide 70 "" ∷ []))
    ∷ writing 80 *10* missing (meant "*10*" (wide 70 "" ∷ [])) ∷ writing 80 *10* (is 0) (meant "*10*" (wide 69 "" ∷ [])) ∷ writing 81 *10* (is 0) (meant "*1*" (wide 69 "" ∷ [])) ∷ [])
    ≡ (ok ∷ fault 9 11 ∷ fault 9 11 ∷ ok ∷ fault 9 11 ∷ ok ∷ ok ∷ fault 9 1 ∷ fault 9 1 ∷ fault 9 1 ∷ fault 9 7 ∷ fault 9 7 ∷ fault 9 7 ∷ fault 9 7 ∷ fault 1 0 ∷ fault 1 0 ∷ fault 9 1 ∷ [])
unfolding writing wide meant below_0
writes-else = refl

-- the record from the output's first byte on, what stands behind it unchanged; and an output unchanged by 9 and by 1
unfoldable pub written : ℕ → Value → Meaning → ℕ → List ℕ
unfolding writing write_output
written k q m room = write_output k q m (replicate room 120)

pub written-lines :
    (written *86* (is 20) (meant "*86*" (is 2 ∷ gap ∷ missing ∷ wide 1 "" ∷ wide 2 "" ∷ wide 1 "" ∷ wide 2 "" ∷ wide 6 "" ∷ below_0 500 ∷ wide 1 "6" ∷ gap ∷ is 7 ∷ wide 1 "A" ∷ gap ∷ wide 1 "" ∷ wide 24 "" ∷ [])) 83
    ∷ written *80* missing (meant "*80*" (is 1 ∷ wide 30 "HILL" ∷ below_0 13_999_512_345 ∷ is 64_800_000_000 ∷ gap ∷ wide 2 "MD" ∷ gap ∷ [])) 81
    ∷ written *25* (is 999_999) (meant "*25*" (is 12 ∷ media 84 7 0 65 4 ∷ wide 3 "" ∷ is 1 ∷ gap ∷ is 20 ∷ gap ∷ [])) 82
    ∷ written *12* (is 1) (meant "*12*" values_12) 81
    ∷ written *27* missing (meant "*27*" (is 1 ∷ is 0 ∷ is 59 ∷ gap ∷ below_0 12 ∷ gap ∷ [])) 81
    ∷ written *27* missing (meant "*27*" (is 0 ∷ is 0 ∷ is 59 ∷ gap ∷ below_0 12 ∷ gap ∷ [])) 82
    ∷ written *91* (is 7) (meant "*91*" values_91) 81 ∷ written *92* missing (meant "*92*" values_92) 81
    ∷ written *91* missing (meant "*91*" (is 1 ∷ gap ∷ is 0 ∷ is 0 ∷ below_0 99_999_990 ∷ is 999_999_999 ∷ gap ∷ wide 1 "N" ∷ wide 15 "" ∷ [])) 81
    ∷ written *93* missing (meant "*93*" (is 1 ∷ is 9_999 ∷ wide 54 "FACTORS" ∷ [])) 81
    ∷ written *10* missing (meant "*10*" (wide 70 "" ∷ [])) 80 ∷ [])
    ≡ ((lined "000020*86*0002                     -0005006  0000007A" ++ 120 ∷ 120 ∷ [])
    ∷ lined "      *80*0001HILL                          38531512345S180000000000E       MD"
    ∷ (lined "999999*25*0012T0070AAAAA   001  020" ++ 120 ∷ [])
    ∷ lined "000001*12*202401202402JDCCRUZ                                              4MD"
    ∷ lined "      *27*00010000000059                               -0012"
    ∷ replicate 82 120
    ∷ lined "000007*91*0001      00000001230000000098-0500000000000000250    YNETWORK"
    ∷ lined "      *92*0001  0002  0000000045000000005000500000000000000120    YLOCAL"
    ∷ lined "      *91*0001      00000000000000000000-0999999900999999999    N"
    ∷ lined "      *93*0000000100009999FACTORS"
    ∷ replicate 80 120 ∷ [])
unfolding written wide meant below_0 lined
written-lines = refl
