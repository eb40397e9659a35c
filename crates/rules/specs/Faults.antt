-- 01, "Fault numbers": which faults a file has, and which of two comes first.
use Rattle.std.specs.Prelude.{◌≡◌, ◌⊎◌, Bool, true, false, cond, List, [], ◌∷◌, map, ℕ, ◌+◌, ◌≤◌, ◌<◌, length, take, get_or}
use Rattle.rules.specs.Tests.{◌≤?◌, ◌=?◌}
use Rattle.rules.specs.Characters.{is_printable}
use Rattle.rules.specs.Items.{Value, good, spot, fits}
use Rattle.rules.specs.Fields.{Expect, anything, Entry, agrees, Check, Verdict, ok, fault}
use Rattle.rules.specs.Records.{Meaning, Edition, sequence, code_at, entries, meaning, told, of_kind}
use Rattle.rules.specs.Files.{Result, accept, refuse, line_at, begun, lines, meanings, passed}

-- the faults of one record: number and column; of a file: number, record and column
abbrev pub Faults : Type 1
Faults = ℕ → ℕ → Type 0

abbrev pub FileFaults : Type 1
FileFaults = ℕ → ℕ → ℕ → Type 0

infixr 15 ◌∪◌
abbrev pub ◌∪◌ : Faults → Faults → Faults
(R ∪ Q) n c = R n c ⊎ Q n c

-- one fault, there when a test fails
abbrev pub Fails : Bool → ℕ → ℕ → Faults
Fails b n c n' c' = (b ≡ false) × (n' ≡ n) × (c' ≡ c)

-- the faults of any member of a list
unfoldable pub Some : {A : Type 0} → (A → Faults) → List A → Faults
Some P [] n c = ⊥
Some P (x ∷ xs) n c = P x n c ⊎ Some P xs n c

-- 3, 4, 5: the line has k bytes, k at most 80; a byte of columns 1-80 outside 20-7E; a byte in column 81 that is no line feed
unfoldable pub ByteFaults : List ℕ → Faults
ByteFaults l n c =
    ((length l ≤ 80) × (n ≡ 3) × (c ≡ length l + 1))
    ⊎ (((i : ℕ) × (i < 80) × (i < length l) × (is_printable (get_or l i 0) ≡ false) × (n ≡ 4) × (c ≡ i + 1))
    ⊎ ((80 < length l) × (get_or l 80 0 =? 10 ≡ false) × (n ≡ 5) × (c ≡ 81)))

-- 9, 10: a field not of its kind or range; a field well formed that disagrees with an earlier one
abbrev pub FieldFaults : Expect → List Entry → Entry → Faults
FieldFaults e xs x n c = Fails x.formed 9 (x.column + x.spot) n c ⊎ ((x.formed ≡ true) × Fails (agrees e xs x) 10 x.column n c)

abbrev pub CheckFaults : Check → Faults
CheckFaults k = Fails k.test k.number k.column

-- ---- the order: within a record 2, then 3 4 5, 6, 7, then 9 and 10; 8 stands alone, where the next record would be, and 14 for all of these
unfoldable pub stage : ℕ → ℕ
stage n = get_or (9 ∷ 9 ∷ 0 ∷ 1 ∷ 1 ∷ 1 ∷ 2 ∷ 3 ∷ 0 ∷ 4 ∷ 4 ∷ 5 ∷ 5 ∷ 9 ∷ 0 ∷ []) n 9

-- 1 first; then record by record; only a file with none of these is judged for 11 and 12
unfoldable pub phase : ℕ → ℕ
phase n = cond (n =? 1) 0 (cond (stage n ≤? 4) 1 2)

-- by stage, then the lowest column, 9 before 10
unfoldable pub Before : ℕ → ℕ → ℕ → ℕ → Type 0
Before n c n' c' = (stage n < stage n') ⊎ ((stage n ≡ stage n') × ((c < c') ⊎ ((c ≡ c') × (n ≤ n'))))

-- by phase, then the earliest record
unfoldable pub Precedes : ℕ → ℕ → ℕ → ℕ → ℕ → ℕ → Type 0
Precedes n r c n' r' c' = (phase n < phase n') ⊎ ((phase n ≡ phase n') × ((r < r') ⊎ ((r ≡ r') × Before n c n' c')))

-- a verdict is the first of the faults: there is none, or it is one of them and no other comes before it
unfoldable pub First : Faults → Verdict → Type 0
First R ok = (n c : ℕ) → R n c → ⊥
First R (fault n c) = R n c × ((n' c' : ℕ) → R n' c' → Before n c n' c')

unfoldable pub FirstOf : FileFaults → Result → Type 0
FirstOf R accept = (n r c : ℕ) → R n r c → ⊥
FirstOf R (refuse n r c) = R n r c × ((n' r' c' : ℕ) → R n' r' c' → Precedes n r c n' r' c')

module _ {S : Type 0} (E : Edition S) where
  -- of a line, where s is what went before
  unfoldable pub LineFaults : S → List ℕ → Faults
  LineFaults s l =
      ByteFaults l
      ∪ Fails (E.known (code_at l)) 6 7
      ∪ Fails (E.allowed s (code_at l)) 7 7
      ∪ Fails (good sequence (take 6 l)) 9 (1 + spot sequence (take 6 l))
      ∪ Some (FieldFaults (E.expects s (code_at l)) (entries E l)) (entries E l)

  -- of a line by itself, as read judges it
  unfoldable pub ReadFaults : List ℕ → Faults
  ReadFaults l =
      ByteFaults l
      ∪ Fails (E.known (code_at l)) 6 7
      ∪ Fails (good sequence (take 6 l)) 9 (1 + spot sequence (take 6 l))
      ∪ Some (FieldFaults anything (entries E l)) (entries E l)

  -- of a kind, a sequence number and a meaning, as write judges them
  unfoldable pub GivenFaults : ℕ → Value → Meaning → Faults
  GivenFaults k q m =
      Fails (fits sequence q) 9 1
      ∪ Fails (of_kind E k m) 9 7
      ∪ (λ n c. (of_kind E k m ≡ true) × Some (FieldFaults anything (told E m)) (told E m) n c)

  -- of record r: a record 100,000 has begun; its line
  unfoldable pub RecordFaults : S → ℕ → List ℕ → Faults
  RecordFaults s r l = Fails (r ≤? 99_999) 2 1 ∪ LineFaults s l

  -- what the first i records of a file leave behind
  unfoldable pub before : List ℕ → ℕ → S
  before f i = passed E E.start (map (meaning E) (take i (lines f)))

  -- ---- all faults of a file, record by record
  -- of its form and order: 2 to 10
  unfoldable pub FormFault : List ℕ → FileFaults
  FormFault f n r c =
      ((i : ℕ) × (i < begun f) × (r ≡ i + 1) × RecordFaults (before f i) r (line_at f i) n c)
      ⊎ ((E.ends (before f (begun f)) ≡ false) × (n ≡ 8) × (r ≡ begun f + 1) × (c ≡ 1))

  -- of its references: 11 and 12
  unfoldable pub ReferenceFault : List ℕ → FileFaults
  ReferenceFault f n r c = (i : ℕ) × (i < begun f) × (r ≡ i + 1) × Some CheckFaults (E.refs (meanings E f) r (meaning E (line_at f i))) n c

  unfoldable pub HasFault : List ℕ → FileFaults
  HasFault f n r c = FormFault f n r c ⊎ ReferenceFault f n r c

  -- with 1, where a lent table or output is too short
  unfoldable pub CallFaults : Bool → List ℕ → FileFaults
  CallFaults enough f n r c = ((enough ≡ false) × (n ≡ 1) × (r ≡ 0) × (c ≡ 0)) ⊎ HasFault f n r c

  -- 02, T-05, "form not good"
  unfoldable pub Malformed : List ℕ → Type 0
  Malformed f = (n : ℕ) × (r : ℕ) × (c : ℕ) × FormFault f n r c

  -- of `references`: "1, then new number 14 (form not good, record and column 0), then 11 and 12 as before"
  unfoldable pub ReferencesFaults : Bool → List ℕ → FileFaults
  ReferencesFaults enough f n r c =
      ((enough ≡ false) × (n ≡ 1) × (r ≡ 0) × (c ≡ 0)) ⊎ ((Malformed f × (n ≡ 14) × (r ≡ 0) × (c ≡ 0)) ⊎ ReferenceFault f n r c)
