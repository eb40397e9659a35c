-- 02, T-02, "Point at the character": "Reading a field should name the first column at which no acceptable field begins with the characters up to there."
use Rattle.std.specs.Prelude.{◌≡◌, ◌⊎◌, List, ℕ, ◌+◌, ◌<◌, length, take}
use Rattle.rules.specs.Members.{◌∈◌}
use Rattle.rules.specs.Items.{Value, Item, width}
use Rattle.rules.specs.Fields.{Field, columns_of}
use Rattle.rules.specs.Forms.{Spells}
use Rattle.rules.specs.Layouts.{at}
use Rattle.rules.specs.Records.{Edition, sequence, code_at}

-- "acceptable": by the field's own width, kind and range, never by agreement with another field
abbrev pub Acceptable : Item → List ℕ → Type 0
Acceptable i field = (length field ≡ width i) × (v : Value) × Spells i field v

-- some acceptable field "begins with the characters"
unfoldable pub Begins : Item → List ℕ → Type 0
Begins i p = (field : List ℕ) × Acceptable i field × (take (length p) field ≡ p)

-- "the first column at which no acceptable field begins with the characters up to there": k columns into the field
pub record Names (i : Item) (bs : List ℕ) (k : ℕ) : Type 0 where
  pub inside : k < width i
  pub before : (j : ℕ) → j < k → Begins i (take (j + 1) bs)
  pub here : Begins i (take (k + 1) bs) → ⊥

-- the same as a column of a line
unfoldable pub NamesIn : Field → List ℕ → ℕ → Type 0
NamesIn f l c = (k : ℕ) × (c ≡ f.from + k) × Names f.item (columns_of f l) k

-- "for everything read": columns 1-6, or a field from column 11 on
unfoldable pub Points : {S : Type 0} → Edition S → List ℕ → ℕ → Type 0
Points E l c = NamesIn (at 1 sequence) l c ⊎ ((f : Field) × (f ∈ E.layout (code_at l)) × NamesIn f l c)
