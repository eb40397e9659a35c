-- The typed values of a line, each from its own columns.
use Rattle.std.specs.Prelude.{true, List, ℕ, ℤ, get_or}
use Rattle.rules.specs.Items.{gap, number, height, angle, month, media, value_of}
use Rattle.rules.specs.Fields.{values}
use Rattle.rules.specs.Layouts.{layouts, kept}
use Rattle.rules.specs.Records.{code_at}
use Rattle.columns.specs.declared.Way.{Way}
use Rattle.columns.specs.Types.{nat_of, int_of, height_of, media_of, four, way_of}
use Rattle.kinds.specs.declared.Job.{Job}
use Rattle.kinds.specs.declared.Project.{Project}
use Rattle.kinds.specs.declared.Occupation.{Occupation}
use Rattle.kinds.specs.declared.Measurement.{Measurement}
use Rattle.kinds.specs.declared.Instrument.{Instrument}
use Rattle.kinds.specs.declared.Antenna.{Antenna}
use Rattle.kinds.specs.declared.Point.{Point}
use Rattle.kinds.specs.declared.Heights.{Heights}
use Rattle.kinds.specs.declared.Network.{Network}
use Rattle.kinds.specs.declared.Local.{Local}
use Rattle.kinds.specs.declared.Factor.{Factor}
use Rattle.kinds.specs.declared.Record.{Record}
use Rattle.kinds.specs.Values.{two, three, record_from}
use Rattle.judging.specs.Judging.{part}
use Rattle.columns.specs.declared.Height.{Height}

unfoldable pub nat_in : ℕ → ℕ → List ℕ → ℕ
nat_in c w l = nat_of (value_of (number 0 0 0 true) (part c w l))

unfoldable pub month_in : ℕ → List ℕ → ℕ
month_in c l = nat_of (value_of month (part c 6 l))

unfoldable pub height_in : ℕ → List ℕ → Height
height_in c l = height_of (value_of (height 0 0 0 true) (part c 7 l))

unfoldable pub signed_in : ℕ → ℕ → List ℕ → ℤ
signed_in c w l = int_of (value_of (height 0 0 0 true) (part c w l))

-- ---- the records
unfoldable pub job_in : List ℕ → Job
job_in l = record { first = get_or (code_at l) 1 0; second = get_or (code_at l) 2 0 }

unfoldable pub project_in : List ℕ → Project
project_in l = record { began = month_in 11 l; ended = month_in 17 l; initials = three (part 23 3 l); second = three (part 44 3 l); state = two (part 77 2 l) }

unfoldable pub occupation_in : List ℕ → Occupation
occupation_in l =
    record { station = nat_in 11 4 l; media = media_of (value_of media (part 15 10 l)); initials = three (part 25 3 l); instrument = nat_in 28 3 l; antenna = nat_in 33 3 l }

unfoldable pub measurement_in : List ℕ → Measurement
measurement_in l = record { station = nat_in 11 4 l; date = nat_in 15 6 l; time = nat_in 21 4 l; height = signed_in 56 5 l }

unfoldable pub instrument_in : List ℕ → Instrument
instrument_in l = record { instrument = nat_in 11 3 l; equipment = nat_in 14 3 l }

unfoldable pub antenna_in : List ℕ → Antenna
antenna_in l = record { antenna = nat_in 11 3 l; radome = four (part 33 4 l) }

unfoldable pub point_in : List ℕ → Point
point_in l = record {
  station = nat_in 11 4 l;
  latitude = int_of (value_of (angle (way_of Way.Latitude)) (part 45 12 l));
  longitude = int_of (value_of (angle (way_of Way.Longitude)) (part 57 13 l));
  state = two (part 77 2 l);
}

unfoldable pub heights_in : List ℕ → Heights
heights_in l = record {
  station = nat_in 11 4 l;
  orthometric = height_in 17 l;
  code = get_or (part 24 1 l) 0 0;
  class = two (part 25 2 l);
  indicator = get_or (part 27 1 l) 0 0;
  datum = two (part 28 2 l);
  geoid = height_in 36 l;
  geoidcode = get_or (part 43 1 l) 0 0;
  ellipsoid = height_in 46 l;
  ellipsoidcode = get_or (part 53 1 l) 0 0;
  ellipsoiddatum = get_or (part 56 1 l) 0 0;
}

unfoldable pub network_in : List ℕ → Network
network_in l = record {
  station = nat_in 11 4 l;
  north = nat_in 21 10 l;
  east = nat_in 31 10 l;
  correlation = signed_in 41 10 l;
  ellipsoid = nat_in 51 10 l;
  scaled = get_or (part 65 1 l) 0 0;
}

unfoldable pub local_in : List ℕ → Local
local_in l = record {
  standpoint = nat_in 11 4 l;
  forepoint = nat_in 17 4 l;
  north = nat_in 23 10 l;
  east = nat_in 33 10 l;
  correlation = signed_in 43 10 l;
  ellipsoid = nat_in 53 10 l;
  scaled = get_or (part 67 1 l) 0 0;
}

unfoldable pub factor_in : List ℕ → Factor
factor_in l = record { horizontal = nat_in 11 8 l; vertical = nat_in 19 8 l }

-- the record of a line of kind k
unfoldable pub record_in : ℕ → List ℕ → Record
record_in k l = record_from k (code_at l) (λ i. get_or (values (get_or layouts k kept) l) i gap)
