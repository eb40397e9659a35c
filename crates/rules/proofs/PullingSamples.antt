-- 02, T-07: a pull list by computation. Written from the paper and not from the definitions.
use mathlib.Core.Path.{◌≡◌, refl}
use mathlib.Core.Bool.{false}
use mathlib.Core.List.{List, [], ◌∷◌, ◌++◌, map}
use Prim.Native.Nat.{ℕ}
use lib.ListN.{replicate}
use Rattle.rules.specs.Characters.{ascii}
use Rattle.rules.specs.Files.{accept, refuse, is_accept, accepted}
use Rattle.rules.specs.Chapter4.{chapter4}
use Rattle.rules.specs.Pulling.{blank_line, line_for, fault_for, pulled_line, pulled_fault, pulled_lines, pulled_faults, records_from, every_record, pull_room, pull_answer, pull_output, pull_faults}
use Rattle.rules.proofs.Samples.{read_from}
use Rattle.rules.proofs.Edges.{lined}
use Rattle.rules.proofs.CallSamples.{joined}

-- ---- nine records, of which the first two are good. No file begins with an *80*, so this one is refused; its last line is cut
unfoldable pub sheaf : List ℕ
unfolding joined
sheaf =
    joined (
    "     7*80*   2DOCK                          00000000001S000000000000W       MD"
    ∷ "      *86*   2       -5A  N"
    ∷ "      *13*"
    ∷ "      *25*0000T0334BDOCK    11  006"
    ∷ "      *12*202402202401JDCCRUZ J D                                          4MD"
    ∷ "      *86*0002         A"
    ∷ "      *26*WIND\tAND RAIN" ∷ [])
    ++ ascii "      *26*                                                                      X      *26*CUT"

-- an entry by itself, with every definition that it goes through
unfoldable pub drawn : List ℕ → ℕ → List ℕ
unfolding read_from sheaf lined joined blank_line line_for fault_for pulled_line pulled_fault pulled_lines pulled_faults records_from every_record pull_room pull_answer pull_output pull_faults
drawn f r = pulled_line f r

pub sheaf_refused : accepted chapter4 sheaf ≡ false
unfolding drawn accepted is_accept
sheaf_refused = refl

-- in any order, repeated, and asked for in vain: record 0, past the last, above 99,999
abbrev asked : List ℕ
asked = 9 ∷ 2 ∷ 0 ∷ 1 ∷ 2 ∷ 10 ∷ 8 ∷ 7 ∷ 6 ∷ 5 ∷ 4 ∷ 3 ∷ 100_000 ∷ []

-- each at its place, under 10 times its own record number, and 80 blanks for what cannot be read
pub lines-pulled :
    pulled_lines sheaf asked ≡ joined (
    ""
    ∷ "000020*86*0002  -000005A  N"
    ∷ ""
    ∷ "000010*80*0002DOCK                          00000000001S000000000000E       MD"
    ∷ "000020*86*0002  -000005A  N"
    ∷ replicate 8 "")
unfolding drawn
lines-pulled = refl

-- 3 of the cut line, 5, 4, 10 inside a record, 9, 6 and 13; the 7 of the file does not show
pub faults_pulled : pulled_faults sheaf asked ≡ 3 ∷ 0 ∷ 13 ∷ 0 ∷ 0 ∷ 13 ∷ 5 ∷ 4 ∷ 10 ∷ 10 ∷ 9 ∷ 6 ∷ 13 ∷ []
unfolding drawn
faults_pulled = refl

-- a bad byte in a cut line goes before its end; an empty file has no record
pub cut_and_empty : (pulled_faults (ascii "      *26*C\tT") (1 ∷ 2 ∷ []) ≡ 4 ∷ 13 ∷ []) × (pulled_faults [] (1 ∷ []) ≡ 13 ∷ [])
unfolding drawn
cut_and_empty = (refl, refl)

pub every_record_lem : map every_record ([] ∷ ascii "A" ∷ sheaf ∷ []) ≡ [] ∷ (1 ∷ []) ∷ (1 ∷ 2 ∷ 3 ∷ 4 ∷ 5 ∷ 6 ∷ 7 ∷ 8 ∷ 9 ∷ []) ∷ []
unfolding drawn
every_record_lem = refl

-- ---- what is lent: so many bytes and so many places, for two entries
abbrev two : List ℕ
two = 1 ∷ 0 ∷ []

abbrev lent : ℕ → List ℕ
lent n = replicate n 7

-- 162 bytes and two places are enough, and none for no entry
pub rooms :
    (pull_answer two (lent 162) (lent 2) ∷ pull_answer two (lent 161) (lent 2) ∷ pull_answer two (lent 162) (lent 1) ∷ pull_answer two (lent 161) (lent 1)
    ∷ pull_answer two (lent 1_000) (lent 9) ∷ pull_answer [] [] [] ∷ pull_answer (1 ∷ []) [] (lent 1) ∷ pull_answer (1 ∷ []) (lent 81) [] ∷ [])
    ≡ (accept ∷ refuse 1 0 0 ∷ refuse 1 0 0 ∷ refuse 1 0 0 ∷ accept ∷ accept ∷ refuse 1 0 0 ∷ refuse 1 0 0 ∷ [])
unfolding drawn
rooms = refl

-- 1 leaves both as they were
pub untouched :
    (pull_output sheaf two (lent 161) (lent 2) ≡ lent 161) × (pull_faults sheaf two (lent 161) (lent 2) ≡ lent 2)
    × (pull_output sheaf two (lent 162) (lent 1) ≡ lent 162) × (pull_faults sheaf two (lent 162) (lent 1) ≡ lent 1)
unfolding drawn
untouched = (refl, refl, refl, refl)

-- bytes and places behind the entries stay, and all of them where there is no entry
pub behind :
    (pull_output sheaf two (lent 165) (lent 4) ≡ joined ("000010*80*0002DOCK                          00000000001S000000000000E       MD" ∷ "" ∷ []) ++ lent 3)
    × (pull_faults sheaf two (lent 165) (lent 4) ≡ 0 ∷ 13 ∷ lent 2)
    × (pull_output sheaf [] (lent 3) (lent 2) ≡ lent 3) × (pull_faults sheaf [] (lent 3) (lent 2) ≡ lent 2)
unfolding drawn
behind = (refl, refl, refl, refl)
