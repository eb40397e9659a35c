-- 02, T-07: a pulled good record reads back as the record's values, from the promises of pull, read and field alone.
use mathlib.Core.Path.{◌≡◌, refl, sym, ◌∙◌, ap}
use mathlib.Core.Bool.{true}
use mathlib.Core.List.{List, []}
use Prim.Native.Nat.{ℕ, ◌+◌, ◌-◌, ◌*◌, ◌<◌}
use native.Mathlib.Omega.{arith}
use lib.ListN.{length, get_or}
use lib.IntN.{pos}
use lib.Seq.{take_all}
use Rattle.rules.specs.Tests.{◌&◌, ◌≤?◌, within}
use Rattle.rules.specs.Items.{Value, num}
use Rattle.rules.specs.Records.{Meaning, meaning, style}
use Rattle.rules.specs.Files.{line_at, begun}
use Rattle.rules.specs.Chapter4.{chapter4}
use Rattle.rules.specs.Calls as calls
use Rattle.rules.specs.Calls.{values, unread, read_of}
use Rattle.rules.specs.Pulling.{pulled_lines}
use Rattle.rules.proofs.Truth.{and, of≤, of_within}
use Rattle.rules.proofs.PullingLaws.{taken, style_back, line_81, pulled_long, pulled_at}
use Rattle.std.specs.Prelude.{Result, Ok, Err, Option, Some}
use Rattle.kinds.proofs.ValueLaws.{same_values}
use Rattle.kinds.specs.declared.Record.{Record}
use Rattle.kinds.specs.declared.Fault.{Fault}
use Rattle.kinds.specs.Values.{record_of, reading_of}
use Rattle.reading.specs.Promise.{PromisedReading}
use Rattle.pulling.proofs.PullDemands.{line_is, lines_are, demand_2_pull}
use Rattle.round_trips.specs.Texts.{text_at}
use Rattle.round_trips.proofs.MeaningBack.{texts_of}
use Rattle.round_trips.proofs.ReadWritesBack.{same_text}
use Rattle.pulled_records.specs.AfterPull.{Pull, pulled_part, ReadsBack}
use Rattle.columns.specs.Types.{count_of}

-- what read gives as values, in the rules' terms
record Given (f : List ℕ) (r : ℕ) (s : Option ℕ) (w : Record) : Type 0 where
  pub number : Value
  pub meant : Meaning
  pub read : read_of f r ≡ values number meant
  pub record_is : w ≡ record_of meant

given : (f : List ℕ) (r : ℕ) (s : Option ℕ) (w : Record) → PromisedReading f r (Ok (s, w)) → Given f r s w
unfolding reading_of
given f r s w p = by (read_of f r) refl p.answered
  where
    by : (x : calls.Reading) → read_of f r ≡ x → Ok (s, w) ≡ reading_of (read_of f r) → Given f r s w
    by (values q m) e h =
        let same : ◌≡◌ {A = Result (Option ℕ × Record) Fault} (Ok (s, w)) (Ok (count_of q, record_of m)) = h ∙ rw e in
        record { number = q; meant = m; read = e; record_is = (same_values same).1 }
    by (unread n a c) e h =
        let clash : ◌≡◌ {A = Result (Option ℕ × Record) Fault} (Ok (s, w)) (Err record { number = n; «record» = a; column = c }) = h ∙ rw e in
        let z : ◌≡◌ {A = ℕ} 0 1 = cc in
        absurd (omega arith)

as_values : (g : List ℕ) (n k : ℕ) (m : Meaning) (w : Record) → read_of g n ≡ values (num (pos k)) m → w ≡ record_of m → reading_of (read_of g n) ≡ Ok (Some k, w)
unfolding reading_of count_of
as_values g n k m w e h = rw (e, h)

-- entry i of a run asks for record r, which read gives with values
module _ (f rs : List ℕ) (x : Pull f rs) (i : ℕ) (h : i < length rs) (s : Option ℕ) (w : Record) (was_read : PromisedReading f (get_or rs i 0) (Ok (s, w))) where
  abbrev r : ℕ
  r = get_or rs i 0

  its : Given f r s w
  its = given f r s w was_read

  its_line : line_at x.output_left i ≡ style chapter4 r its.meant
  its_line = (((demand_2_pull f rs x.output x.places x.answer x.output_left x.places_left x.promised x.good).entry i h).good its.number its.meant its.read).0

  -- wherever its line stands as record n of a file
  module _ (g : List ℕ) (n : ℕ) (there : within 1 99_999 n & n ≤? begun g ≡ true) (e : line_at g (n - 1) ≡ line_at x.output_left i) where
    back : read_of g n ≡ values (num (pos (10 * r))) its.meant
    back = style_back f r its.meant (taken f r its.number its.meant its.read) g n there (e ∙ its_line)

    is_values : (y : Result (Option ℕ × Record) Fault) → PromisedReading g n y → y ≡ Ok (Some (10 * r), w)
    is_values y p = p.answered ∙ as_values g n (10 * r) its.meant w back its.record_is

    same_meaning : meaning chapter4 (line_at g (n - 1)) ≡ meaning chapter4 (line_at f (r - 1))
    same_meaning = sym (taken g n (num (pos (10 * r))) its.meant back).means ∙ (taken f r its.number its.meant its.read).means

    promised_back : PromisedReading g n (Ok (Some (10 * r), w))
    promised_back = record { answered = sym (as_values g n (10 * r) its.meant w back its.record_is) }

    same_texts : (j : ℕ) → text_at g n w j ≡ text_at f r w j
    same_texts j =
        sym (same_text g n (Some (10 * r)) w promised_back j)
        ∙ ap (λ (m : Meaning). get_or (texts_of m) j []) same_meaning
        ∙ same_text f r s w was_read j

    pub pulled_reads_back : ReadsBack f r w g n
    unfolding text_at
    pulled_reads_back = record {
      values = is_values;
      texts = λ j block other start begin a b c d at from p q. q.contents ∙ same_texts j ∙ sym p.contents;
    }

  -- its 81 bytes as the one record of a file
  abbrev own : List ℕ
  own = line_at x.output_left i

  own_long : length own ≡ 81
  own_long = ap length (line_is f rs x.output x.places x.answer x.output_left x.places_left x.promised x.good i h) ∙ line_81 f r

  pub pulled_alone : ReadsBack f r w own 1
  pulled_alone = pulled_reads_back own 1 is_there is_line_lem
    where
      is_there : within 1 99_999 1 & 1 ≤? begun own ≡ true
      is_there = and (of_within (omega arith) (omega arith)) (of≤ (unfold begun in rw own_long (omega arith)))

      is_line_lem : line_at own 0 ≡ own
      is_line_lem = unfold line_at in take_all 81 own (omega (arith, own_long))

  -- and where it stands, in the part of the output that the run left, as far as a record number goes
  pub pulled_in_place : i < 99_999 → ReadsBack f r w (pulled_part x) (i + 1)
  pulled_in_place k = pulled_reads_back (pulled_part x) (i + 1) is_there is_line_lem
    where
      part_is : pulled_part x ≡ pulled_lines f rs
      part_is = unfold pulled_part in lines_are f rs x.output x.places x.answer x.output_left x.places_left x.promised x.good

      long : length (pulled_part x) ≡ 81 * length rs
      long = ap length part_is ∙ pulled_long f rs

      is_there : within 1 99_999 (i + 1) & i + 1 ≤? begun (pulled_part x) ≡ true
      is_there = and (of_within (omega arith) (omega arith)) (of≤ (unfold begun in omega (arith, long, h)))

      is_line_lem : line_at (pulled_part x) (i + 1 - 1) ≡ line_at x.output_left i
      is_line_lem =
          ap (line_at (pulled_part x)) (omega arith) ∙ ap (λ (p : List ℕ). line_at p i) part_is ∙ pulled_at f rs i h
          ∙ sym (line_is f rs x.output x.places x.answer x.output_left x.places_left x.promised x.good i h)
