-- What an accepted file is, record by record, in the paper's words and without a test.
use Rattle.std.specs.Prelude.{◌≡◌, ◌⊎◌, ◌↔◌, cond, List, [], ◌∷◌, ℕ, zero, suc, ◌+◌, ◌≤◌, ◌<◌, length, take, get_or, replicate}
use Rattle.rules.specs.Tests.{◌&◌, ◌≤?◌, ◌=?◌}
use Rattle.rules.specs.Members.{◌∈◌, ◌⊆◌}
use Rattle.rules.specs.Characters.{printable}
use Rattle.rules.specs.Items.{Value, gap, missing, text}
use Rattle.rules.specs.Forms.{characters_of, Spells, Code}
use Rattle.rules.specs.Fields.{Bond, free, not_before, goes_with, differs, expected, Field, columns_of, value_at, num_of}
use Rattle.rules.specs.Records.{Meaning, sequence, code_at, meaning, told}
use Rattle.rules.specs.Files.{line_at, begun, meanings}
use Rattle.rules.specs.Kinds.{kind_of, *AA*, *25*, *27*, *70*, *72*, *80*, *86*}
use Rattle.rules.specs.Layouts.{layout}
use Rattle.rules.specs.Order.{may_come, place_named, nothing, first_job, first27, second27, third27, last_job}
use Rattle.rules.specs.References.{number_at, Referred}
use Rattle.rules.specs.Chapter4.{chapter4}

-- ---- record i + 1 of a file: its kind, and what it means
unfoldable pub kind_at : List ℕ → ℕ → ℕ
kind_at f i = kind_of (code_at (line_at f i))

unfoldable pub record_at : List ℕ → ℕ → Meaning
record_at f i = meaning chapter4 (line_at f i)

-- record j + 1 is the last of kind k before record i + 1, and none of kind h has come since
pub record Nearest (f : List ℕ) (k h j i : ℕ) : Type 0 where
  pub before : j < i
  pub its_kind : kind_at f j ≡ k
  pub none_since : (x : ℕ) → j < x → x < i → (kind_at f x ≡ k → ⊥) × (kind_at f x ≡ h → ⊥)

-- "a group is a *25* with what follows up to the next *25* or *70*": that of record i + 1 opens with record j + 1
abbrev pub Group : List ℕ → ℕ → ℕ → Type 0
Group f j i = Nearest f *25* *70* j i

-- 02, T-04, "when the number falls": that of record i + 1 is below that of the *70* before it
unfoldable pub Falls : List ℕ → ℕ → Type 0
Falls f i = (j : ℕ) × Nearest f *70* *70* j i × (number_at 11 (record_at f i) < number_at 11 (record_at f j))

-- how many records of kind k stand between record j + 1 and record i + 1
unfoldable pub between : List ℕ → (k j i : ℕ) → ℕ
between f k j zero = 0
between f k j (suc i) = cond (suc j ≤? i & kind_at f i =? k) 1 0 + between f k j i

-- ---- 01, "What may follow what": the place p that the first i records make
-- "first, second, third 27 of a group"
pub record Measured (f : List ℕ) (i p : ℕ) : Type 0 where
  pub its_kind : kind_at f i ≡ *27*
  pub opened : ℕ
  pub group : Group f opened i
  pub most : between f *27* opened i < 3
  pub place : p ≡ get_or (first27 ∷ second27 ∷ third27 ∷ []) (between f *27* opened i) 0

unfoldable pub Place : List ℕ → ℕ → ℕ → Type 0
Place f zero p = p ≡ nothing
Place f (suc i) p =
    ((kind_at f i ≡ *AA*) × (i ≡ 0) × (p ≡ first_job))
    ⊎ (((kind_at f i ≡ *AA*) × (1 ≤ i) × (p ≡ last_job))
    ⊎ (Measured f i p
    ⊎ ((kind_at f i ≡ *AA* → ⊥) × (kind_at f i ≡ *27* → ⊥) × (p ≡ place_named 0 0 (kind_at f i)))))

-- ---- agreement
-- what says nothing: a blank field, a missing number, a text of blanks
unfoldable pub Absent : Value → Type 0
Absent v = (v ≡ gap) ⊎ ((v ≡ missing) ⊎ ((w : ℕ) × (v ≡ text (replicate w 32))))

-- 01, *12*: "the end not before the beginning"; *86*: "blank exactly when their height is missing"; 02, T-03, *92*: "where a record names two they differ"
unfoldable pub Agreed : Meaning → Bond → Value → Type 0
Agreed m free v = Unit {0}
Agreed m (not_before c) v = number_at c m ≤ num_of v
Agreed m (goes_with c) v = Absent v ↔ Absent (value_at c (told chapter4 m))
Agreed m (differs c) v = number_at c m ≡ num_of v → ⊥
Agreed m expected v = Unit {0}  -- with another record: below

-- ---- record i + 1 of a file
pub record Stands (f : List ℕ) (i : ℕ) : Type 0 where
  pub whole : length (line_at f i) ≡ 81
  pub printed : take 80 (line_at f i) ⊆ characters_of printable  -- "80 bytes from 20 to 7E hexadecimal"
  pub fed : get_or (line_at f i) 80 0 ≡ 10  -- "then one line feed"
  pub numbered : (q : Value) × Spells sequence (take 6 (line_at f i)) q  -- "sequence number, blank or 1..999999"
  pub coded : Code (code_at (line_at f i)) (kind_at f i)
  pub comes : (p : ℕ) × Place f i p × (kind_at f i ∈ get_or may_come p [])  -- "what may follow what"
  pub job : kind_at f i ≡ *AA* → (i ≡ 0) ⊎ (code_at (line_at f i) ≡ code_at (line_at f 0))  -- "the first record's job code"
  -- each field of its kind and range, in agreement with the others
  pub its_fields : (d : Field) → d ∈ layout (code_at (line_at f i)) → (v : Value) × Spells d.item (columns_of d (line_at f i)) v × Agreed (record_at f i) d.bond v
  -- "a *27* has its group's station"
  pub measured : kind_at f i ≡ *27* → (j : ℕ) × Group f j i × (number_at 11 (record_at f i) ≡ number_at 11 (record_at f j))
  -- "an *86* the station of the *80* before it"
  pub paired : kind_at f i ≡ *86* → (j : ℕ) × Nearest f *80* *80* j i × (number_at 11 (record_at f i) ≡ number_at 11 (record_at f j))
  -- 02, T-04, *70*: "Instrument numbers may repeat, standing together, and never fall"
  pub never_falls : kind_at f i ≡ *70* → (j : ℕ) → j < i → kind_at f j ≡ *70* → number_at 11 (record_at f j) ≤ number_at 11 (record_at f i)
  -- "*72* by antenna number", rising strictly
  pub rises : kind_at f i ≡ *72* → (j : ℕ) → j < i → kind_at f j ≡ *72* → number_at 11 (record_at f j) < number_at 11 (record_at f i)

-- 02, T-05, "form and order": the records, their order and their fields
pub record Formed (f : List ℕ) : Type 0 where
  pub few : begun f ≤ 99_999
  pub each : (i : ℕ) → i < begun f → Stands f i
  pub ends : Place f (begun f) last_job  -- "last job code: nothing"

pub record Conforms (f : List ℕ) : Type 0 where
  pub form : Formed f
  pub references : Referred (meanings chapter4 f)
