-- What write is given: words taken for a sequence number and a record, in the order in which read answers them.
use Rattle.std.specs.Prelude.{Bool, false, cond, List, [], ◌∷◌, ℕ, suc, ◌+◌, get_or, ℤ, pos, negsuc, Result, Option, Some, None}
use Rattle.rules.specs.Tests.{◌≤?◌, ◌=?◌}
use Rattle.columns.specs.declared.Four.{Four}
use Rattle.columns.specs.declared.Media.{Media}
use Rattle.kinds.specs.declared.Two.{Two}
use Rattle.kinds.specs.declared.Three.{Three}
use Rattle.kinds.specs.declared.Project.{Project}
use Rattle.kinds.specs.declared.Occupation.{Occupation}
use Rattle.kinds.specs.declared.Measurement.{Measurement}
use Rattle.kinds.specs.declared.Point.{Point}
use Rattle.kinds.specs.declared.Heights.{Heights}
use Rattle.kinds.specs.declared.Network.{Network}
use Rattle.kinds.specs.declared.Local.{Local}
use Rattle.kinds.specs.declared.Record.{Record}
use Rattle.kinds.specs.declared.Record.TheVariants as R
use Rattle.kinds.specs.declared.Fault.{Fault}
use Rattle.answers.specs.Answers.{fault_words, fault_in}
use Rattle.columns.specs.declared.Height.{Height}

-- ---- one word: what its field's type cannot hold is taken for a value that no field holds, so that it is refused at its own column
-- a word that is lacking counts as the largest one, which no field holds
unfoldable pub word_at : List ℤ → ℕ → ℤ
word_at ws i = get_or ws i (pos 9_223_372_036_854_775_807)

-- from 0 to the most that is taken; else another, which is none
unfoldable pub held_or : (most other : ℕ) → ℤ → ℕ
held_or most other (pos n) = cond (n ≤? most) n other
held_or most other (negsuc n) = other

-- a number, a character, a digit
abbrev pub number_of : ℤ → ℕ
number_of z = held_or 4_294_967_294 4_294_967_295 z

abbrev pub character_of : ℤ → ℕ
character_of z = held_or 255 0 z

abbrev pub digit_of : ℤ → ℕ
digit_of z = held_or 9 10 z

-- a signed number: a height in millimetres, a correlation; 100,000,000 is neither
unfoldable pub signed_of : ℤ → ℤ
signed_of (pos n) = cond (n ≤? 99_999_999) (pos n) (pos 100_000_000)
signed_of (negsuc n) = cond (suc n ≤? 99_999_999) (negsuc n) (pos 100_000_000)

-- the least word is a missing height
unfoldable pub is_least : ℤ → Bool
is_least (pos n) = false
is_least (negsuc n) = suc n =? 9_223_372_036_854_775_808

unfoldable pub height_of : ℤ → Height
height_of z = cond (is_least z) Height.Missing (Height.Mm (signed_of z))

-- -1 is a missing sequence number
unfoldable pub sequence_of : ℤ → Option ℕ
sequence_of (pos n) = Some (number_of (pos n))
sequence_of (negsuc n) = cond (suc n =? 1) None (Some 4_294_967_295)

-- ---- short codes from word i on
abbrev pub character_at : List ℤ → ℕ → ℕ
character_at ws i = character_of (word_at ws i)

abbrev pub number_at : List ℤ → ℕ → ℕ
number_at ws i = number_of (word_at ws i)

unfoldable pub two_at : List ℤ → ℕ → Two
two_at ws i = record { 0 = character_at ws i; 1 = character_at ws (i + 1) }

unfoldable pub three_at : List ℤ → ℕ → Three
three_at ws i = record { 0 = character_at ws i; 1 = character_at ws (i + 1); 2 = character_at ws (i + 2) }

unfoldable pub four_at : List ℤ → ℕ → Four
four_at ws i = record { 0 = character_at ws i; 1 = character_at ws (i + 1); 2 = character_at ws (i + 2); 3 = character_at ws (i + 3) }

unfoldable pub media_at : List ℤ → ℕ → Media
media_at ws i = record {
  maker = character_at ws i;
  day = number_at ws (i + 1);
  year = digit_of (word_at ws (i + 2));
  session = character_at ws (i + 3);
  mark = four_at ws (i + 4);
}

-- ---- records: word 0 is the kind, word 1 the sequence number
unfoldable pub project_given : List ℤ → Project
project_given ws = record { began = number_at ws 2; ended = number_at ws 3; initials = three_at ws 4; second = three_at ws 7; state = two_at ws 10 }

unfoldable pub occupation_given : List ℤ → Occupation
occupation_given ws = record { station = number_at ws 2; media = media_at ws 3; initials = three_at ws 11; instrument = number_at ws 14; antenna = number_at ws 15 }

unfoldable pub measurement_given : List ℤ → Measurement
measurement_given ws = record { station = number_at ws 2; date = number_at ws 3; time = number_at ws 4; height = signed_of (word_at ws 5) }

unfoldable pub point_given : List ℤ → Point
point_given ws = record { station = number_at ws 2; latitude = word_at ws 3; longitude = word_at ws 4; state = two_at ws 5 }

unfoldable pub heights_given : List ℤ → Heights
heights_given ws = record {
  station = number_at ws 2;
  orthometric = height_of (word_at ws 3);
  code = character_at ws 4;
  class = two_at ws 5;
  indicator = character_at ws 7;
  datum = two_at ws 8;
  geoid = height_of (word_at ws 10);
  geoidcode = character_at ws 11;
  ellipsoid = height_of (word_at ws 12);
  ellipsoidcode = character_at ws 13;
  ellipsoiddatum = character_at ws 14;
}

unfoldable pub network_given : List ℤ → Network
network_given ws = record { station = number_at ws 2; north = number_at ws 3; east = number_at ws 4; correlation = signed_of (word_at ws 5); ellipsoid = number_at ws 6; scaled = character_at ws 7 }

unfoldable pub local_given : List ℤ → Local
local_given ws = record {
  standpoint = number_at ws 2;
  forepoint = number_at ws 3;
  north = number_at ws 4;
  east = number_at ws 5;
  correlation = signed_of (word_at ws 6);
  ellipsoid = number_at ws 7;
  scaled = character_at ws 8;
}

-- the record of each kind
unfoldable pub records_given : List ℤ → List Record
records_given ws =
    R.Job record { first = character_at ws 2; second = character_at ws 3 }
    ∷ R.Title record {}
    ∷ R.Continuation record {}
    ∷ R.Project (project_given ws)
    ∷ R.Occupation (occupation_given ws)
    ∷ R.Comment record {}
    ∷ R.Measurement (measurement_given ws)
    ∷ R.Instrument record { instrument = number_at ws 2; equipment = number_at ws 3 }
    ∷ R.Antenna record { antenna = number_at ws 2; radome = four_at ws 3 }
    ∷ R.Point (point_given ws)
    ∷ R.Heights (heights_given ws)
    ∷ R.Network (network_given ws)
    ∷ R.Local (local_given ws)
    ∷ R.Factor record { horizontal = number_at ws 2; vertical = number_at ws 3 }
    ∷ []

-- the record of kind k; where there is no such kind, one whose job code is none
unfoldable pub record_given : ℕ → List ℤ → Record
record_given k ws = get_or (records_given ws) k (R.Job record { first = 0; second = 0 })

abbrev pub given : List ℤ → Record
given ws = record_given (number_at ws 0) ws

abbrev pub sequence_given : List ℤ → Option ℕ
sequence_given ws = sequence_of (word_at ws 1)

-- ---- the answer: number, record, column
unfoldable pub written_words : Result (Unit {0}) Fault → List ℕ
written_words w = fault_words (fault_in w)
