-- 01, "What may follow what": every place of the table, reached by records, with each of the fourteen kinds tried there;
-- and what column 11 must be beside the records before. Written from 01's table, to be held beside it.
use mathlib.Core.Path.{◌≡◌, refl}
use mathlib.Core.Bool.{Bool, cond, not}
use mathlib.Core.List.{List, [], ◌∷◌, ◌++◌, map}
use Prim.Native.Nat.{ℕ}
use Prim.Native.String.{String}
use lib.ListN.{get_or}
use Rattle.rules.specs.Characters.{ascii}
use Rattle.rules.specs.Fields.{Verdict, ok, fault}
use Rattle.rules.specs.Records.{judge_line, meaning}
use Rattle.rules.specs.Files.{passed}
use Rattle.rules.specs.Kinds.{*AA*, *10*, *11*, *12*, *25*, *26*, *27*, *70*, *72*, *80*, *86*, *91*, *92*, *93*}
use Rattle.rules.specs.Chapter4.{Past, at_start, chapter4}
use Rattle.rules.proofs.Samples.{judged}
use Rattle.rules.proofs.Edges.{lined, laid, same_verdict, sweep}

-- ---- a good record of each kind: job code A1, station 1, instrument 10, antenna 5
unfoldable pub sample_records : List (List ℕ)
unfolding lined
sample_records =
    lined "      *A1*" ∷ lined "      *10*TITLE" ∷ lined "      *11*TITLE" ∷ lined "      *12*202401202402JDCCRUZ                                             4MD"
    ∷ lined "      *25*0001T0324AHILLJDC010  005" ∷ lined "      *26*WIND" ∷ lined "      *27*00012402011315                               01543"
    ∷ lined "      *70*010123      TRIMBLE" ∷ lined "      *72*005   TRMR10          NONE"
    ∷ lined "      *80*0001HILL                          38531512345N121003007500W       MD" ∷ lined "      *86*0001"
    ∷ lined "      *91*" ∷ lined "      *92*" ∷ lined "      *93*" ∷ []

unfoldable pub record_of : ℕ → List ℕ
unfolding sample_records
record_of k = get_or sample_records k []

unfoldable pub since : List (List ℕ) → Past
unfolding judged
since ls = passed chapter4 at_start (map (meaning chapter4) ls)

-- the kinds whose record is not refused with 7 after records of these kinds
unfoldable pub may_follow : List ℕ → List ℕ
unfolding since record_of sweep same_verdict
may_follow ks = let s = since (map record_of ks) in sweep (λ k. not (same_verdict (judge_line chapter4 s (record_of k)) (fault 7 7))) 14 0

abbrev titles : List ℕ
titles = *AA* ∷ *10* ∷ []

abbrev project : List ℕ
project = titles ++ *12* ∷ []

abbrev group : List ℕ
group = *25* ∷ *27* ∷ *27* ∷ []

abbrev groups : List ℕ
groups = project ++ group

abbrev defined : List ℕ
defined = groups ++ *70* ∷ *72* ∷ []

abbrev points : List ℕ
points = defined ++ *80* ∷ *86* ∷ []

-- a place of the table: records that lead to it, in each way that the table has, and what may come, in the sheet's order
pub data Place : Type 0 where
  after : (ways : List (List ℕ)) (may : List ℕ) → Place

abbrev places : List Place
places =
    after ([] ∷ []) (*AA* ∷ [])  -- nothing
    ∷ after ((*AA* ∷ []) ∷ []) (*10* ∷ [])  -- first job code
    ∷ after (titles ∷ []) (*11* ∷ *12* ∷ [])  -- 10
    ∷ after ((titles ++ *11* ∷ []) ∷ []) (*12* ∷ [])  -- 11
    ∷ after (project ∷ (titles ++ *11* ∷ *12* ∷ []) ∷ []) (*25* ∷ [])  -- 12
    ∷ after ((project ++ *25* ∷ []) ∷ (groups ++ *25* ∷ []) ∷ (groups ++ *27* ∷ *25* ∷ []) ∷ []) (*26* ∷ *27* ∷ [])  -- 25
    ∷ after ((project ++ *25* ∷ *26* ∷ []) ∷ (project ++ *25* ∷ *26* ∷ *26* ∷ []) ∷ []) (*26* ∷ *27* ∷ [])  -- or 26
    ∷ after ((project ++ *25* ∷ *27* ∷ []) ∷ (project ++ *25* ∷ *26* ∷ *27* ∷ []) ∷ (groups ++ *25* ∷ *27* ∷ []) ∷ (groups ++ *27* ∷ *25* ∷ *27* ∷ []) ∷ []) (*27* ∷ [])  -- first 27 of a group
    ∷ after (groups ∷ (groups ++ group) ∷ (groups ++ *27* ∷ group) ∷ []) (*25* ∷ *27* ∷ *70* ∷ [])  -- second 27
    ∷ after ((groups ++ *27* ∷ []) ∷ (groups ++ group ++ *27* ∷ []) ∷ []) (*25* ∷ *70* ∷ [])  -- third 27
    ∷ after ((groups ++ *70* ∷ []) ∷ (groups ++ *27* ∷ *70* ∷ []) ∷ (groups ++ *70* ∷ *70* ∷ []) ∷ []) (*70* ∷ *72* ∷ [])  -- 70
    ∷ after (defined ∷ (defined ++ *72* ∷ []) ∷ []) (*72* ∷ *80* ∷ [])  -- 72
    ∷ after ((defined ++ *80* ∷ []) ∷ (points ++ *80* ∷ []) ∷ []) (*86* ∷ [])  -- 80
    ∷ after (points ∷ (points ++ *80* ∷ *86* ∷ []) ∷ []) (*AA* ∷ *80* ∷ *91* ∷ *92* ∷ *93* ∷ [])  -- 86
    ∷ after ((points ++ *91* ∷ []) ∷ (points ++ *91* ∷ *91* ∷ []) ∷ []) (*AA* ∷ *91* ∷ *92* ∷ *93* ∷ [])  -- 91
    ∷ after ((points ++ *92* ∷ []) ∷ (points ++ *92* ∷ *92* ∷ []) ∷ (points ++ *91* ∷ *92* ∷ []) ∷ []) (*AA* ∷ *92* ∷ *93* ∷ [])  -- 92
    ∷ after ((points ++ *93* ∷ []) ∷ (points ++ *91* ∷ *93* ∷ []) ∷ (points ++ *92* ∷ *93* ∷ []) ∷ []) (*AA* ∷ [])  -- 93
    ∷ after ((points ++ *AA* ∷ []) ∷ (points ++ *91* ∷ *AA* ∷ []) ∷ (points ++ *92* ∷ *AA* ∷ []) ∷ (points ++ *93* ∷ *AA* ∷ []) ∷ []) []  -- last job code: nothing
    ∷ []

unfoldable pub found : Place → List (List ℕ)
unfolding may_follow
found (after ways may) = map may_follow ways

unfoldable pub said : Place → List (List ℕ)
said (after ways may) = map (λ way. may) ways

pub the_order : map found places ≡ map said places
unfolding found said
the_order = refl

-- ---- other columns of a record after others
pub data Case : Type 0 where
  case : (before : List ℕ) (kind from : ℕ) → String → Verdict → Case  -- after records of these kinds, a record of this kind with this text from this column on

unfoldable pub case_fails : Case → Bool
unfolding since record_of laid same_verdict
case_fails (case ks k c s v) = not (same_verdict (judge_line chapter4 (since (map record_of ks)) (laid c (ascii s) (record_of k))) v)

-- the cases that come out otherwise
unfoldable pub failed : List Case → List Case
unfolding case_fails
failed [] = []
failed (x ∷ xs) = let rest = failed xs in cond (case_fails x) (x ∷ rest) rest

-- the first record's job code, and no other
pub last-job-code :
    failed (
    case [] *AA* 7 "*Z9*" ok ∷ case points *AA* 7 "*A1*" ok
    ∷ case points *AA* 7 "*B1*" (fault 7 7) ∷ case points *AA* 7 "*A2*" (fault 7 7) ∷ case points *AA* 7 "*A0*" (fault 7 7) ∷ case points *AA* 7 "*AA*" (fault 7 7)
    ∷ case (points ++ *91* ∷ []) *AA* 7 "*B1*" (fault 7 7) ∷ case (points ++ *92* ∷ []) *AA* 7 "*B1*" (fault 7 7) ∷ case (points ++ *93* ∷ []) *AA* 7 "*B1*" (fault 7 7) ∷ [])
    ≡ []
unfolding failed
last-job-code = refl

-- a *27* has its group's station, an *86* the station of the *80* before it
pub same-station :
    failed (
    case (project ++ *25* ∷ []) *27* 11 "0001" ok ∷ case (project ++ *25* ∷ []) *27* 11 "   1" ok
    ∷ case (project ++ *25* ∷ []) *27* 11 "0002" (fault 10 11) ∷ case (project ++ *25* ∷ *27* ∷ []) *27* 11 "0011" (fault 10 11)
    ∷ case groups *27* 11 "0010" (fault 10 11) ∷ case (project ++ *25* ∷ *26* ∷ []) *27* 11 "9999" (fault 10 11)
    ∷ case (defined ++ *80* ∷ []) *86* 11 "0001" ok ∷ case (defined ++ *80* ∷ []) *86* 11 "   1" ok
    ∷ case (defined ++ *80* ∷ []) *86* 11 "0002" (fault 10 11) ∷ case (points ++ *80* ∷ []) *86* 11 "1001" (fault 10 11) ∷ [])
    ≡ []
unfolding failed
same-station = refl

-- *70* records never fall by instrument number, and may repeat it
pub never-falling :
    failed (
    case groups *70* 11 "001" ok ∷ case groups *70* 11 "999" ok
    ∷ case (groups ++ *70* ∷ []) *70* 11 "001" (fault 10 11) ∷ case (groups ++ *70* ∷ []) *70* 11 "009" (fault 10 11)
    ∷ case (groups ++ *70* ∷ []) *70* 11 "010" ok ∷ case (groups ++ *70* ∷ []) *70* 11 " 10" ok ∷ case (groups ++ *70* ∷ []) *70* 11 "011" ok
    ∷ case (groups ++ *70* ∷ *70* ∷ []) *70* 11 "009" (fault 10 11) ∷ case (groups ++ *70* ∷ *70* ∷ []) *70* 11 "010" ok ∷ [])
    ≡ []
unfolding failed
never-falling = refl

-- *72* records rise strictly by antenna number
pub strictly-rising :
    failed (
    case (groups ++ *70* ∷ []) *72* 11 "001" ok ∷ case (groups ++ *70* ∷ []) *72* 11 "999" ok
    ∷ case defined *72* 11 "004" (fault 10 11) ∷ case defined *72* 11 "005" (fault 10 11) ∷ case defined *72* 11 "006" ok ∷ [])
    ≡ []
unfolding failed
strictly-rising = refl
