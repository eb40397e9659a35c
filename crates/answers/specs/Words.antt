-- What read answers: a record's values as words, in column order.
use Rattle.std.specs.Prelude.{◌≡◌, Bool, true, List, [], ◌∷◌, ◌++◌, ℕ, ◌+◌, ◌-◌, length, replicate, set, ℤ, pos, negsuc, Result, Ok, Err, Option, Some, None}
use Rattle.rules.specs.Tests.{all, ◌≤?◌}
use Rattle.columns.specs.declared.Four.{Four}
use Rattle.columns.specs.declared.Media.{Media}
use Rattle.kinds.specs.declared.Two.{Two}
use Rattle.kinds.specs.declared.Three.{Three}
use Rattle.kinds.specs.declared.Project.{Project}
use Rattle.kinds.specs.declared.Occupation.{Occupation}
use Rattle.kinds.specs.declared.Measurement.{Measurement}
use Rattle.kinds.specs.declared.Point.{Point}
use Rattle.kinds.specs.declared.Heights.{Heights}
use Rattle.kinds.specs.declared.Network.{Network}
use Rattle.kinds.specs.declared.Local.{Local}
use Rattle.kinds.specs.declared.Fault.{Fault}
use Rattle.kinds.specs.declared.Record.{Record}
use Rattle.kinds.specs.declared.Record.TheVariants as R
use Rattle.kinds.specs.Values.{kind_number}
use Rattle.answers.specs.Answers.{Small}
use Rattle.columns.specs.declared.Height.{Height}

-- ---- one value: a number one word, a short code one for each character
-- missing is the least word, and not 0
unfoldable pub height_word : Height → ℤ
height_word Height.Missing = negsuc 9_223_372_036_854_775_807
height_word (Height.Mm z) = z

unfoldable pub sequence_word : Option ℕ → ℤ
sequence_word None = negsuc 0
sequence_word (Some n) = pos n

unfoldable pub two_words : Two → List ℤ
two_words t = pos t.0 ∷ pos t.1 ∷ []

unfoldable pub three_words : Three → List ℤ
three_words t = pos t.0 ∷ pos t.1 ∷ pos t.2 ∷ []

unfoldable pub four_words : Four → List ℤ
four_words t = pos t.0 ∷ pos t.1 ∷ pos t.2 ∷ pos t.3 ∷ []

-- maker, day, digit of the year, session, four characters
unfoldable pub media_words : Media → List ℤ
media_words m = pos m.maker ∷ pos m.day ∷ pos m.year ∷ pos m.session ∷ four_words m.mark

-- ---- one record: the texts of more than four columns have no word
unfoldable pub project_words : Project → List ℤ
project_words r = pos r.began ∷ pos r.ended ∷ (three_words r.initials ++ (three_words r.second ++ two_words r.state))

unfoldable pub occupation_words : Occupation → List ℤ
occupation_words r = pos r.station ∷ (media_words r.media ++ (three_words r.initials ++ (pos r.instrument ∷ pos r.antenna ∷ [])))

unfoldable pub measurement_words : Measurement → List ℤ
measurement_words r = pos r.station ∷ pos r.date ∷ pos r.time ∷ r.height ∷ []

unfoldable pub point_words : Point → List ℤ
point_words r = pos r.station ∷ r.latitude ∷ r.longitude ∷ two_words r.state

-- up to the orthometric height's datum
unfoldable pub heights_first : Heights → List ℤ
heights_first r = pos r.station ∷ height_word r.orthometric ∷ pos r.code ∷ (two_words r.class ++ (pos r.indicator ∷ two_words r.datum))

unfoldable pub heights_words : Heights → List ℤ
heights_words r =
    heights_first r
    ++ (height_word r.geoid ∷ pos r.geoidcode ∷ height_word r.ellipsoid ∷ pos r.ellipsoidcode ∷ pos r.ellipsoiddatum ∷ [])

-- *91* *92*
unfoldable pub network_words : Network → List ℤ
network_words r = pos r.station ∷ pos r.north ∷ pos r.east ∷ r.correlation ∷ pos r.ellipsoid ∷ pos r.scaled ∷ []

unfoldable pub local_words : Local → List ℤ
local_words r = pos r.standpoint ∷ pos r.forepoint ∷ pos r.north ∷ pos r.east ∷ r.correlation ∷ pos r.ellipsoid ∷ pos r.scaled ∷ []

unfoldable pub value_words : Record → List ℤ
value_words (R.Job r) = pos r.first ∷ pos r.second ∷ []
value_words (R.Title r) = []
value_words (R.Continuation r) = []
value_words (R.Project r) = project_words r
value_words (R.Occupation r) = occupation_words r
value_words (R.Comment r) = []
value_words (R.Measurement r) = measurement_words r
value_words (R.Instrument r) = pos r.instrument ∷ pos r.equipment ∷ []
value_words (R.Antenna r) = pos r.antenna ∷ four_words r.radome
value_words (R.Point r) = point_words r
value_words (R.Heights r) = heights_words r
value_words (R.Network r) = network_words r
value_words (R.Local r) = local_words r
value_words (R.Factor r) = pos r.horizontal ∷ pos r.vertical ∷ []

-- ---- the answer: number, record, column, kind, sequence number, values; unused words are 0
unfoldable pub padded : ℕ → List ℤ → List ℤ
padded n ws = ws ++ replicate (n - length ws) (pos 0)

unfoldable pub read_words : Result (Option ℕ × Record) Fault → List ℤ
read_words (Err f) = padded 32 (pos f.number ∷ pos f.«record» ∷ pos f.column ∷ negsuc 0 ∷ [])
read_words (Ok v) = pos 0 ∷ pos 0 ∷ pos 0 ∷ pos (kind_number v.1) ∷ sequence_word v.0 ∷ padded 27 (value_words v.1)

-- the numbers of 64 bits, of which a word holds no more than its half: standard deviations
unfoldable pub deviations_of : Record → List ℕ
deviations_of (R.Job r) = []
deviations_of (R.Title r) = []
deviations_of (R.Continuation r) = []
deviations_of (R.Project r) = []
deviations_of (R.Occupation r) = []
deviations_of (R.Comment r) = []
deviations_of (R.Measurement r) = []
deviations_of (R.Instrument r) = []
deviations_of (R.Antenna r) = []
deviations_of (R.Point r) = []
deviations_of (R.Heights r) = []
deviations_of (R.Network r) = r.north ∷ r.east ∷ r.ellipsoid ∷ []
deviations_of (R.Local r) = r.north ∷ r.east ∷ r.ellipsoid ∷ []
deviations_of (R.Factor r) = []

unfoldable pub in_range : Record → Bool
in_range r = all (λ n. n ≤? 999_999_999) (deviations_of r)

-- a refusal's record and column fit words, and so do the standard deviations of a record
pub record Told (x : Result (Option ℕ × Record) Fault) : Type 0 where
  pub small : (f : Fault) → x ≡ Err f → Small f
  pub held : (s : Option ℕ) (r : Record) → x ≡ Ok (s, r) → in_range r ≡ true

-- ---- words laid over others from word i on
unfoldable pub laid : ℕ → List ℤ → List ℤ → List ℤ
laid i [] ws = ws
laid i (z ∷ zs) ws = laid (i + 1) zs (set ws i z)
