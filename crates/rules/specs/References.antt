-- 01, "A station number is defined by its *80*, and by one only; each *25* names a defined station, instrument and antenna",
-- 02, T-03, of *91* and *92*: "Each station they name must be defined", 02, T-04: "An instrument is defined by at least one *70*",
-- and 01, "Memory": the words of the lent table.
use Rattle.std.specs.Prelude.{◌≡◌, Bool, true, cond, List, [], ◌∷◌, map, ℕ, zero, suc, ◌+◌, ◌-◌, ◌≤◌, ◌<◌, length, get_or, set}
use Rattle.rules.specs.Tests.{◌&◌, ◌≤?◌, ◌=?◌, within}
use Rattle.rules.specs.Members.{◌∈◌}
use Rattle.rules.specs.Fields.{Check, value_at, entries_of, num_of}
use Rattle.rules.specs.Records.{Meaning}
use Rattle.rules.specs.Kinds.{kind_of, *25*, *70*, *72*, *80*, *91*, *92*}
use Rattle.rules.specs.Layouts.{layout}

-- ---- a family of numbers: 01's stations, instruments and antennas
pub record Family : Type 0 where
  pub kind : ℕ  -- of the records that define its numbers, each at column 11
  pub base : ℕ  -- the word of number 0
  pub most : ℕ  -- the greatest number; the least is 1
  pub width : ℕ  -- the columns of a number

abbrev pub stations : Family
stations = record { kind = *80*; base = 0; most = 9_999; width = 4 }

abbrev pub instruments : Family
instruments = record { kind = *70*; base = 10_000; most = 999; width = 3 }

abbrev pub antennas : Family
antennas = record { kind = *72*; base = 11_000; most = 999; width = 3 }

abbrev pub families : List Family
families = stations ∷ instruments ∷ antennas ∷ []

-- ---- the records of a kind name, at a column, a number of a family
pub record Naming : Type 0 where
  pub by : ℕ  -- their kind
  pub column : ℕ
  pub family : Family

abbrev pub names : (by column : ℕ) → Family → Naming
names k c F = record { by = k; column = c; family = F }

-- 01, *25*, and 02, T-03: *91* and *92*; the lowest column first
abbrev pub namings : List Naming
namings =
    names *25* 11 stations ∷ names *91* 11 stations ∷ names *92* 11 stations ∷ names *92* 17 stations
    ∷ names *25* 28 instruments ∷ names *25* 33 antennas ∷ []

-- what f says of the first family with p, d where there is none
unfoldable pub of_first : (Family → Bool) → (Family → ℕ) → ℕ → List Family → ℕ
of_first p f d [] = d
of_first p f d (F ∷ Fs) = cond (p F) (f F) (of_first p f d Fs)

-- ---- the numbers of records
unfoldable pub is_a : ℕ → Meaning → Bool
is_a k m = kind_of m.code =? k

-- the number that starts at a column of a record
unfoldable pub number_at : ℕ → Meaning → ℕ
number_at c m = num_of (value_at c (entries_of (layout m.code) m.values))

-- the record of kind k with number n
unfoldable pub defines : ℕ → ℕ → Meaning → Bool
defines k n m = is_a k m & number_at 11 m =? n

-- its record number, the first where there are several, 0 where there is none; the records are counted from r on
unfoldable pub definer_from : ℕ → ℕ → ℕ → List Meaning → ℕ
definer_from r k n [] = 0
definer_from r k n (m ∷ ms) = cond (defines k n m) r (definer_from (r + 1) k n ms)

unfoldable pub definer : ℕ → ℕ → List Meaning → ℕ
definer k n ms = definer_from 1 k n ms

-- a test that is asked of some records only
unfoldable pub asked : Bool → Bool → Bool
asked a b = cond a b true

-- 12: what a record names, some record of the whole file defines
abbrev pub named_check : List Meaning → Meaning → Naming → Check
named_check file m N = record { test = asked (is_a N.by m) (1 ≤? definer N.family.kind (number_at N.column m) file); number = 12; column = N.column }

-- 11: an *80* is the first with its number; 12: a *25* names a defined station, instrument and antenna, a *91* and a *92* defined stations
unfoldable pub ref_checks : List Meaning → ℕ → Meaning → List Check
ref_checks file r m =
    record { test = asked (is_a *80* m) (definer *80* (number_at 11 m) file =? r); number = 11; column = 11 }
    ∷ map (named_check file m) namings

-- ---- the list of f i, f (i + 1), ..: n places
unfoldable pub tabulate : (ℕ → ℕ) → ℕ → ℕ → List ℕ
tabulate f zero i = []
tabulate f (suc n) i = f i ∷ tabulate f n (i + 1)

-- word n is the record number of station n's *80*, word 10,000 + n of instrument n's *70*, word 11,000 + n of antenna n's *72*;
-- of several *70*, 02, T-04: "The table word holds the first such record"
unfoldable pub has_word : ℕ → Family → Bool
has_word j F = within F.base (F.base + F.most) j

unfoldable pub word_at : List Meaning → ℕ → ℕ
word_at ms j = of_first (has_word j) (λ F. definer F.kind (j - F.base) ms) 0 families

unfoldable pub words : List Meaning → List ℕ
words ms = tabulate (word_at ms) 12_000 0

-- the same as a pass over the records fills it: each record that defines a number puts its own into a word that is still 0
-- the word that a record defines, 12,000 where it defines none
unfoldable pub slot_of : Meaning → ℕ
slot_of m = of_first (λ F. is_a F.kind m) (λ F. F.base + number_at 11 m) 12_000 families

unfoldable pub mark : ℕ → ℕ → List ℕ → List ℕ
mark r j table = cond (get_or table j 0 =? 0) (set table j r) table

unfoldable pub filled : ℕ → List Meaning → List ℕ → List ℕ
filled r [] table = table
filled r (m ∷ ms) table = filled (r + 1) ms (mark r (slot_of m) table)

-- ---- 01, "a count of each kind of record"
unfoldable pub tally : ℕ → List Meaning → ℕ
tally k [] = 0
tally k (m ∷ ms) = cond (is_a k m) (1 + tally k ms) (tally k ms)

unfoldable pub counts : List Meaning → List ℕ
counts ms = tabulate (λ k. tally k ms) 14 0

unfoldable pub sum : List ℕ → ℕ
sum [] = 0
sum (n ∷ ns) = n + sum ns

-- ---- the references as the paper says them, record i + 1 of a file being ms at i
unfoldable pub blank_record : Meaning
blank_record = record { code = []; values = [] }

-- record i + 1 is of kind k and has number n
unfoldable pub Defines : List Meaning → ℕ → ℕ → ℕ → Type 0
Defines ms k n i = (i < length ms) × (kind_of (get_or ms i blank_record).code ≡ k) × (number_at 11 (get_or ms i blank_record) ≡ n)

-- and no record before it has
unfoldable pub Earliest : List Meaning → ℕ → ℕ → ℕ → Type 0
Earliest ms k n i = Defines ms k n i × ((j : ℕ) → Defines ms k n j → i ≤ j)

-- what a record names, some record defines
unfoldable pub Named : List Meaning → Meaning → Naming → Type 0
Named ms m N = (i : ℕ) × Defines ms N.family.kind (number_at N.column m) i

pub record Referred (ms : List Meaning) : Type 0 where
  pub one_only : (n i j : ℕ) → Defines ms *80* n i → Defines ms *80* n j → i ≡ j
  pub named : (N : Naming) → N ∈ namings → (i : ℕ) → i < length ms → kind_of (get_or ms i blank_record).code ≡ N.by → Named ms (get_or ms i blank_record) N
