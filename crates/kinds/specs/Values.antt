-- The code's types as 01's numbers and values: for each case of each enum the definition that the promises use.
use Rattle.std.specs.Prelude.{cond, List, [], ◌∷◌, ℕ, get_or, pos, Result, Ok, Err, Option, Some, None}
use Rattle.rules.specs.Tests.{◌=?◌}
use Rattle.rules.specs.Characters.{ascii}
use Rattle.rules.specs.Items.{Value, gap, missing, num, text, label}
use Rattle.rules.specs.Fields.{Verdict, ok, fault}
use Rattle.rules.specs.Fields as fields
use Rattle.rules.specs.Records.{Meaning}
use Rattle.rules.specs.Files.{accept, refuse}
use Rattle.rules.specs.Files as files
use Rattle.rules.specs.Kinds.{kind_of}
use Rattle.rules.specs.Calls as calls
use Rattle.columns.specs.Types.{count_of, nat_of, int_of, height_of, height_value, media_of, media_value, four, four_of}
use Rattle.kinds.specs.declared.Two.{Two}
use Rattle.kinds.specs.declared.Three.{Three}
use Rattle.kinds.specs.declared.Kind.{Kind}
use Rattle.kinds.specs.declared.Kind.TheVariants as K
use Rattle.kinds.specs.declared.Record.{Record}
use Rattle.kinds.specs.declared.Record.TheVariants as R
use Rattle.kinds.specs.declared.Fault.{Fault}
use Rattle.kinds.specs.declared.Flaw.{Flaw}
use Rattle.kinds.specs.declared.Expect.{Expect}

-- ---- short codes
unfoldable pub text_of : Value → List ℕ
text_of gap = []
text_of missing = []
text_of (num k) = []
text_of (text t) = t
text_of (label m d y s t) = []

unfoldable pub two : List ℕ → Two
two t = record { 0 = get_or t 0 0; 1 = get_or t 1 0 }

unfoldable pub two_text : Two → List ℕ
two_text t = t.0 ∷ t.1 ∷ []

unfoldable pub three : List ℕ → Three
three t = record { 0 = get_or t 0 0; 1 = get_or t 1 0; 2 = get_or t 2 0 }

unfoldable pub three_text : Three → List ℕ
three_text t = t.0 ∷ t.1 ∷ t.2 ∷ []

-- ---- kinds by 01's number, and 14 for a code that is of no kind
unfoldable pub kind_index : Kind → ℕ
kind_index K.Job = 0
kind_index K.Title = 1
kind_index K.Continuation = 2
kind_index K.Project = 3
kind_index K.Occupation = 4
kind_index K.Comment = 5
kind_index K.Measurement = 6
kind_index K.Instrument = 7
kind_index K.Antenna = 8
kind_index K.Point = 9
kind_index K.Heights = 10
kind_index K.Network = 11
kind_index K.Local = 12
kind_index K.Factor = 13

unfoldable pub kind_in : Option Kind → ℕ
kind_in None = 14
kind_in (Some k) = kind_index k

-- ---- records: the kind, the code in columns 7-10, and the values from column 11 on, with the texts of more than four columns given in column order
unfoldable pub kind_number : Record → ℕ
kind_number (R.Job r) = 0
kind_number (R.Title r) = 1
kind_number (R.Continuation r) = 2
kind_number (R.Project r) = 3
kind_number (R.Occupation r) = 4
kind_number (R.Comment r) = 5
kind_number (R.Measurement r) = 6
kind_number (R.Instrument r) = 7
kind_number (R.Antenna r) = 8
kind_number (R.Point r) = 9
kind_number (R.Heights r) = 10
kind_number (R.Network r) = 11
kind_number (R.Local r) = 12
kind_number (R.Factor r) = 13

unfoldable pub code_of : Record → List ℕ
unfolding ascii
code_of (R.Job r) = 42 ∷ r.first ∷ r.second ∷ 42 ∷ []
code_of (R.Title r) = ascii "*10*"
code_of (R.Continuation r) = ascii "*11*"
code_of (R.Project r) = ascii "*12*"
code_of (R.Occupation r) = ascii "*25*"
code_of (R.Comment r) = ascii "*26*"
code_of (R.Measurement r) = ascii "*27*"
code_of (R.Instrument r) = ascii "*70*"
code_of (R.Antenna r) = ascii "*72*"
code_of (R.Point r) = ascii "*80*"
code_of (R.Heights r) = ascii "*86*"
code_of (R.Network r) = ascii "*91*"
code_of (R.Local r) = ascii "*92*"
code_of (R.Factor r) = ascii "*93*"

unfoldable pub values_of : Record → (a b c : List ℕ) → List Value
values_of (R.Job r) a b c = text a ∷ []
values_of (R.Title r) a b c = text a ∷ []
values_of (R.Continuation r) a b c = text a ∷ []
values_of (R.Project r) a b c =
    num (pos r.began) ∷ num (pos r.ended) ∷ text (three_text r.initials) ∷ text a ∷ text (three_text r.second) ∷ text b
    ∷ gap ∷ gap ∷ text (two_text r.state) ∷ gap ∷ []
values_of (R.Occupation r) a b c =
    num (pos r.station) ∷ media_value r.media ∷ text (three_text r.initials) ∷ num (pos r.instrument) ∷ gap ∷ num (pos r.antenna) ∷ gap ∷ []
values_of (R.Comment r) a b c = text a ∷ []
values_of (R.Measurement r) a b c = num (pos r.station) ∷ num (pos r.date) ∷ num (pos r.time) ∷ gap ∷ num r.height ∷ gap ∷ []
values_of (R.Instrument r) a b c = num (pos r.instrument) ∷ num (pos r.equipment) ∷ gap ∷ text a ∷ gap ∷ text b ∷ text c ∷ []
values_of (R.Antenna r) a b c = num (pos r.antenna) ∷ gap ∷ text a ∷ text (four_of r.radome) ∷ gap ∷ text b ∷ gap ∷ []
values_of (R.Point r) a b c =
    num (pos r.station) ∷ text a ∷ num r.latitude ∷ num r.longitude ∷ gap ∷ text (two_text r.state) ∷ gap ∷ []
values_of (R.Heights r) a b c =
    num (pos r.station) ∷ gap
    ∷ height_value r.orthometric ∷ text (r.code ∷ []) ∷ text (two_text r.class) ∷ text (r.indicator ∷ []) ∷ text (two_text r.datum) ∷ text a
    ∷ height_value r.geoid ∷ text (r.geoidcode ∷ []) ∷ gap
    ∷ height_value r.ellipsoid ∷ text (r.ellipsoidcode ∷ []) ∷ gap ∷ text (r.ellipsoiddatum ∷ []) ∷ text b ∷ []
values_of (R.Network r) a b c =
    num (pos r.station) ∷ gap ∷ num (pos r.north) ∷ num (pos r.east) ∷ num r.correlation ∷ num (pos r.ellipsoid) ∷ gap ∷ text (r.scaled ∷ []) ∷ text a ∷ []
values_of (R.Local r) a b c =
    num (pos r.standpoint) ∷ gap ∷ num (pos r.forepoint) ∷ gap
    ∷ num (pos r.north) ∷ num (pos r.east) ∷ num r.correlation ∷ num (pos r.ellipsoid) ∷ gap ∷ text (r.scaled ∷ []) ∷ text a ∷ []
values_of (R.Factor r) a b c = num (pos r.horizontal) ∷ num (pos r.vertical) ∷ text a ∷ []

unfoldable pub meaning_of : Record → (a b c : List ℕ) → Meaning
meaning_of r a b c = record { code = code_of r; values = values_of r a b c }

-- ---- and back: the record of a kind, from a code and values; what is no value of its field gives 0
unfoldable pub char_of : Value → ℕ
char_of v = get_or (text_of v) 0 0

unfoldable pub record_from : ℕ → List ℕ → (ℕ → Value) → Record
record_from k code at =
    get_or (R.Job record { first = get_or code 1 0; second = get_or code 2 0 }
    ∷ R.Title record {}
    ∷ R.Continuation record {}
    ∷ R.Project record { began = nat_of (at 0); ended = nat_of (at 1); initials = three (text_of (at 2)); second = three (text_of (at 4)); state = two (text_of (at 8)) }
    ∷ R.Occupation record { station = nat_of (at 0); media = media_of (at 1); initials = three (text_of (at 2)); instrument = nat_of (at 3); antenna = nat_of (at 5) }
    ∷ R.Comment record {}
    ∷ R.Measurement record { station = nat_of (at 0); date = nat_of (at 1); time = nat_of (at 2); height = int_of (at 4) }
    ∷ R.Instrument record { instrument = nat_of (at 0); equipment = nat_of (at 1) }
    ∷ R.Antenna record { antenna = nat_of (at 0); radome = four (text_of (at 3)) }
    ∷ R.Point record { station = nat_of (at 0); latitude = int_of (at 2); longitude = int_of (at 3); state = two (text_of (at 5)) }
    ∷ R.Heights record {
      station = nat_of (at 0);
      orthometric = height_of (at 2);
      code = char_of (at 3);
      class = two (text_of (at 4));
      indicator = char_of (at 5);
      datum = two (text_of (at 6));
      geoid = height_of (at 8);
      geoidcode = char_of (at 9);
      ellipsoid = height_of (at 11);
      ellipsoidcode = char_of (at 12);
      ellipsoiddatum = char_of (at 14);
    }
    ∷ R.Network record { station = nat_of (at 0); north = nat_of (at 2); east = nat_of (at 3); correlation = int_of (at 4); ellipsoid = nat_of (at 5); scaled = char_of (at 7) }
    ∷ R.Local record {
      standpoint = nat_of (at 0);
      forepoint = nat_of (at 2);
      north = nat_of (at 4);
      east = nat_of (at 5);
      correlation = int_of (at 6);
      ellipsoid = nat_of (at 7);
      scaled = char_of (at 9);
    }
    ∷ []) k (R.Factor record { horizontal = nat_of (at 0); vertical = nat_of (at 1) })

unfoldable pub record_of : Meaning → Record
record_of m = record_from (kind_of m.code) m.code (λ i. get_or m.values i gap)

-- ---- answers
-- the counts, or a refusal; the number 0 is acceptance
unfoldable pub checked_of : calls.Answer → Result (List ℕ) Fault
checked_of a = cond (a.number =? 0) (Ok a.counts) (Err record { number = a.number; «record» = a.place; column = a.column })

-- a verdict on a file without counts
unfoldable pub fault_of : files.Result → Result (Unit {0}) Fault
fault_of accept = Ok tt
fault_of (refuse n r c) = Err record { number = n; «record» = r; column = c }

unfoldable pub reading_of : calls.Reading → Result (Option ℕ × Record) Fault
reading_of (calls.values q m) = Ok (count_of q, record_of m)
reading_of (calls.unread n r c) = Err record { number = n; «record» = r; column = c }

-- write refuses with record 0
unfoldable pub written_of : Verdict → Result (Unit {0}) Fault
written_of ok = Ok tt
written_of (fault n c) = Err record { number = n; «record» = 0; column = c }

unfoldable pub judged_of : Verdict → Result (Unit {0}) Flaw
judged_of ok = Ok tt
judged_of (fault n c) = Err record { number = n; column = c }

unfoldable pub expect_of : Expect → fields.Expect
expect_of Expect.Anything = fields.anything
expect_of (Expect.Same n) = fields.same n
expect_of (Expect.NotBelow n) = fields.not_below n
expect_of (Expect.Above n) = fields.above n
