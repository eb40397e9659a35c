-- The values of each kind of record as a row of tests: what is blank, constant or free leaves no test. Assumes nothing.
use mathlib.Core.Path.{◌≡◌, refl, sym, ap, ◌∙◌}
use mathlib.Core.Bool.{false, not}
use mathlib.Core.List.{List, [], ◌∷◌, ◌++◌}
use Prim.Native.Nat.{ℕ, ◌+◌}
use native.Mathlib.Nat.{add-zero}
use lib.IntN.{ℤ, pos}
use Rattle.rules.specs.Tests.{◌&◌, ◌≤?◌, ◌=?◌, within}
use Rattle.rules.specs.Characters.{is_printable}
use Rattle.rules.specs.Items.{Value, num, text, Item, number, height, angle, month, media, word, each, or_blank, latitude, longitude, on_gap, fits}
use Rattle.rules.specs.Fields.{Verdict, check, ◌⨾◌, anything, given, entries_of, value_at, num_of, is_missing, same_truth, meets, agrees_with, agrees, judge_each, judge}
use Rattle.rules.proofs.FieldLaws.{⨾_assoc}
use Rattle.rules.specs.Layouts.{station, metres, deviation, correlation, variance, project, occupation, measurement, receiver, aerial, point, heights, network, local, factor}
use Rattle.columns.specs.declared.Set.{Set}
use Rattle.columns.specs.Types.{set_of, height_value, media_value, four_of}
use Rattle.kinds.specs.declared.Record.TheVariants as R
use Rattle.kinds.specs.declared.Project.{Project}
use Rattle.kinds.specs.declared.Occupation.{Occupation}
use Rattle.kinds.specs.declared.Measurement.{Measurement}
use Rattle.kinds.specs.declared.Instrument.{Instrument}
use Rattle.kinds.specs.declared.Antenna.{Antenna}
use Rattle.kinds.specs.declared.Point.{Point}
use Rattle.kinds.specs.declared.Heights.{Heights}
use Rattle.kinds.specs.declared.Network.{Network}
use Rattle.kinds.specs.declared.Local.{Local}
use Rattle.kinds.specs.declared.Factor.{Factor}
use Rattle.kinds.specs.Tables.{field_of}
use Rattle.kinds.specs.Values.{two_text, three_text, values_of}
use Rattle.given_records.specs.Accuracies.{judge_accuracy}
use Rattle.given_records.specs.Judging.{height_entries, judge_orthometric, judge_others}
use Rattle.given_records.proofs.JudgeLaws.{chain, chain_append, chain_within, chain_two, firsts}
use Rattle.columns.specs.declared.Height.{Height}

-- a value of its kind and range
abbrev pub form : Item → Value → ℕ → Verdict
form i v c = check (fits i v) 9 c

-- a character that is blank exactly when a height is missing
abbrev pub tie : Height → ℕ → ℕ → Verdict
tie h t c = check (same_truth (is_missing (height_value h)) (is_missing (text (t ∷ [])))) 10 c

abbrev pub word_of : ℕ → Set → Item
word_of w s = word w (each (set_of s))

module _ (p : Project) (a b : List ℕ) where
  abbrev pub project_rest : List Verdict
  project_rest =
      form (word_of 3 Set.LetterOrSpace) (text (three_text p.initials)) 23 ∷ form (word_of 18 Set.Name) (text a) 26
      ∷ form (word_of 3 Set.LetterOrSpace) (text (three_text p.second)) 44 ∷ form (word_of 18 Set.Name) (text b) 47
      ∷ form (word_of 2 Set.Letter) (text (two_text p.state)) 77 ∷ []

  abbrev pub project_tests : List Verdict
  project_tests =
      form month (num (pos p.began)) 11 ∷ (form month (num (pos p.ended)) 17 ⨾ check (p.began ≤? p.ended) 10 17) ∷ project_rest

  project_whole : judge anything (entries_of project (values_of (R.Project p) a b []))
      ≡ chain ((form month (num (pos p.began)) 11 ∷ []) ++ form month (num (pos p.ended)) 17 ∷ check (p.began ≤? p.ended) 10 17 ∷ project_rest)
  unfolding judge judge_each entries_of given agrees agrees_with value_at num_of check ◌⨾◌ fits on_gap is_printable within ◌&◌ ◌≤?◌ ◌=?◌ values_of set_of
  project_whole = refl

  pub project_chain : judge anything (entries_of project (values_of (R.Project p) a b [])) ≡ chain project_tests
  project_chain = project_whole ∙ chain_two (form month (num (pos p.began)) 11 ∷ []) _ _ project_rest

module _ (o : Occupation) where
  abbrev pub occupation_tests : List Verdict
  occupation_tests =
      form (number 4 1 9_999 false) (num (pos o.station)) 11 ∷ form media (media_value o.media) 15
      ∷ form (word_of 3 Set.LetterOrSpace) (text (three_text o.initials)) 25 ∷ form (number 3 1 999 false) (num (pos o.instrument)) 28
      ∷ form (number 3 1 999 false) (num (pos o.antenna)) 33 ∷ []

  pub occupation_chain : judge anything (entries_of occupation (values_of (R.Occupation o) [] [] [])) ≡ chain occupation_tests
  unfolding judge judge_each entries_of given agrees agrees_with check ◌⨾◌ fits on_gap values_of set_of
  occupation_chain = refl

module _ (m : Measurement) where
  abbrev pub measurement_tests : List Verdict
  measurement_tests =
      form (number 4 1 9_999 false) (num (pos m.station)) 11 ∷ form (number 6 0 999_999 false) (num (pos m.date)) 15
      ∷ form (number 4 0 9_999 false) (num (pos m.time)) 21 ∷ form (height 5 9_999 99_999 false) (num m.height) 56 ∷ []

  pub measurement_chain : judge anything (entries_of measurement (values_of (R.Measurement m) [] [] [])) ≡ chain measurement_tests
  unfolding judge judge_each entries_of given agrees agrees_with meets check ◌⨾◌ fits on_gap values_of
  measurement_chain = refl

module _ (i : Instrument) (a b c : List ℕ) where
  abbrev pub instrument_tests : List Verdict
  instrument_tests =
      form (number 3 1 999 false) (num (pos i.instrument)) 11 ∷ form (number 3 1 999 false) (num (pos i.equipment)) 14
      ∷ form (word_of 18 Set.Printable) (text a) 23 ∷ form (word_of 8 Set.Printable) (text b) 63 ∷ form (word_of 10 Set.Printable) (text c) 71 ∷ []

  pub instrument_chain : judge anything (entries_of receiver (values_of (R.Instrument i) a b c)) ≡ chain instrument_tests
  unfolding judge judge_each entries_of given agrees agrees_with meets check ◌⨾◌ fits on_gap values_of set_of
  instrument_chain = refl

module _ (n : Antenna) (a b : List ℕ) where
  abbrev pub antenna_tests : List Verdict
  antenna_tests =
      form (number 3 1 999 false) (num (pos n.antenna)) 11 ∷ form (word_of 16 Set.Printable) (text a) 17
      ∷ form (word_of 4 Set.Letter) (text (four_of n.radome)) 33 ∷ form (word_of 20 Set.Printable) (text b) 45 ∷ []

  pub antenna_chain : judge anything (entries_of aerial (values_of (R.Antenna n) a b [])) ≡ chain antenna_tests
  unfolding judge judge_each entries_of given agrees agrees_with meets check ◌⨾◌ fits on_gap values_of set_of
  antenna_chain = refl

module _ (p : Point) (a : List ℕ) where
  abbrev pub point_tests : List Verdict
  point_tests =
      form (number 4 1 9_999 false) (num (pos p.station)) 11 ∷ form (word_of 30 Set.Printable) (text a) 15
      ∷ form (angle latitude) (num p.latitude) 45 ∷ form (angle longitude) (num p.longitude) 57
      ∷ form (word_of 2 Set.Letter) (text (two_text p.state)) 77 ∷ []

  pub point_chain : judge anything (entries_of point (values_of (R.Point p) a [] [])) ≡ chain point_tests
  unfolding judge judge_each entries_of given agrees agrees_with check ◌⨾◌ fits on_gap values_of set_of
  point_chain = refl

module _ (h : Heights) (a b : List ℕ) where
  abbrev pub orthometric_tests : List Verdict
  orthometric_tests =
      form (number 4 1 9_999 false) (num (pos h.station)) 11
      ∷ form metres (height_value h.orthometric) 17
      ∷ form (word_of 1 Set.LetterOrSpace) (text (h.code ∷ [])) 24 ∷ tie h.orthometric h.code 24
      ∷ form (word 2 (or_blank (set_of Set.Digit))) (text (two_text h.class)) 25
      ∷ form (word_of 1 Set.YesNoOrSpace) (text (h.indicator ∷ [])) 27 ∷ tie h.orthometric h.indicator 27
      ∷ form (word 2 (or_blank (set_of Set.LetterOrDigit))) (text (two_text h.datum)) 28
      ∷ form (word_of 6 Set.Printable) (text a) 30 ∷ []

  abbrev pub other_tests : List Verdict
  other_tests =
      form metres (height_value h.geoid) 36
      ∷ form (word_of 1 Set.LetterOrDigitOrSpace) (text (h.geoidcode ∷ [])) 43 ∷ tie h.geoid h.geoidcode 43
      ∷ form metres (height_value h.ellipsoid) 46
      ∷ form (word_of 1 Set.LetterOrSpace) (text (h.ellipsoidcode ∷ [])) 53 ∷ tie h.ellipsoid h.ellipsoidcode 53
      ∷ form (word_of 1 Set.LetterOrSpace) (text (h.ellipsoiddatum ∷ [])) 56
      ∷ form (word_of 24 Set.Printable) (text b) 57 ∷ []

  -- a character and its tie as one test
  abbrev pub orthometric_steps : List Verdict
  orthometric_steps =
      form (number 4 1 9_999 false) (num (pos h.station)) 11
      ∷ form metres (height_value h.orthometric) 17
      ∷ (form (word_of 1 Set.LetterOrSpace) (text (h.code ∷ [])) 24 ⨾ tie h.orthometric h.code 24)
      ∷ form (word 2 (or_blank (set_of Set.Digit))) (text (two_text h.class)) 25
      ∷ (form (word_of 1 Set.YesNoOrSpace) (text (h.indicator ∷ [])) 27 ⨾ tie h.orthometric h.indicator 27)
      ∷ form (word 2 (or_blank (set_of Set.LetterOrDigit))) (text (two_text h.datum)) 28
      ∷ form (word_of 6 Set.Printable) (text a) 30 ∷ []

  abbrev pub other_steps : List Verdict
  other_steps =
      form metres (height_value h.geoid) 36
      ∷ (form (word_of 1 Set.LetterOrDigitOrSpace) (text (h.geoidcode ∷ [])) 43 ⨾ tie h.geoid h.geoidcode 43)
      ∷ form metres (height_value h.ellipsoid) 46
      ∷ (form (word_of 1 Set.LetterOrSpace) (text (h.ellipsoidcode ∷ [])) 53 ⨾ tie h.ellipsoid h.ellipsoidcode 53)
      ∷ form (word_of 1 Set.LetterOrSpace) (text (h.ellipsoiddatum ∷ [])) 56
      ∷ form (word_of 24 Set.Printable) (text b) 57 ∷ []

  orthometric_joined : chain orthometric_tests ≡ chain orthometric_steps
  orthometric_joined = simp ⨾_assoc

  other_joined : chain other_tests ≡ chain other_steps
  other_joined = simp ⨾_assoc

  orthometric_whole : judge_orthometric h a ≡ chain orthometric_tests
  unfolding judge_orthometric height_entries judge_each entries_of given agrees agrees_with meets value_at check ◌⨾◌ fits on_gap ◌=?◌ values_of set_of
  orthometric_whole = refl

  other_whole : judge_others h b ≡ chain other_tests
  unfolding judge_others height_entries judge_each entries_of given agrees agrees_with meets value_at check ◌⨾◌ fits on_gap ◌=?◌ values_of set_of
  other_whole = refl

  pub orthometric_chain : judge_orthometric h a ≡ chain orthometric_steps
  orthometric_chain = orthometric_whole ∙ orthometric_joined

  pub other_chain : judge_others h b ≡ chain other_steps
  other_chain = other_whole ∙ other_joined

  whole_chain : judge anything (entries_of heights (values_of (R.Heights h) a b [])) ≡ chain (orthometric_tests ++ other_tests)
  unfolding judge judge_each entries_of given agrees agrees_with meets value_at check ◌⨾◌ fits on_gap ◌=?◌ values_of set_of
  whole_chain = refl

  pub heights_judged : judge anything (entries_of heights (values_of (R.Heights h) a b [])) ≡ (judge_orthometric h a ⨾ judge_others h b)
  heights_judged = whole_chain ∙ chain_append orthometric_tests other_tests ∙ sym (rw (orthometric_whole, other_whole))

-- what *91* and *92* have in common, from column c on
module _ (c north east : ℕ) (z : ℤ) (ellipsoid scaled : ℕ) where
  abbrev pub accuracy_tests : List Verdict
  accuracy_tests =
      form deviation (num (pos north)) c ∷ form deviation (num (pos east)) (c + 10) ∷ form correlation (num z) (c + 20)
      ∷ form deviation (num (pos ellipsoid)) (c + 30) ∷ form (word_of 1 Set.YesNo) (text (scaled ∷ [])) (c + 44) ∷ []

  pub accuracy_chain : judge_accuracy c north east z ellipsoid scaled ≡ chain accuracy_tests
  unfolding judge_accuracy judge judge_each entries_of given agrees agrees_with check ◌⨾◌ fits on_gap field_of set_of
  accuracy_chain = rw (add-zero c, add-zero (c + 10), add-zero (c + 20), add-zero (c + 30), add-zero (c + 44))

  -- judged as one, after other tests and before the last
  accuracy_within : (us : List Verdict) (v : Verdict) → chain (us ++ (accuracy_tests ++ v ∷ [])) ≡ chain (us ++ judge_accuracy c north east z ellipsoid scaled ∷ v ∷ [])
  accuracy_within us v = chain_within us accuracy_tests (v ∷ []) ∙ ap (λ u. chain (us ++ u ∷ v ∷ [])) (sym accuracy_chain)

module _ (n : Network) (a : List ℕ) where
  abbrev pub network_tests : List Verdict
  network_tests =
      form station (num (pos n.station)) 11 ∷ judge_accuracy 21 n.north n.east n.correlation n.ellipsoid n.scaled
      ∷ form (word_of 15 Set.Printable) (text a) 66 ∷ []

  network_whole : judge anything (entries_of network (values_of (R.Network n) a [] []))
      ≡ chain ((form station (num (pos n.station)) 11 ∷ [])
      ++ (accuracy_tests 21 n.north n.east n.correlation n.ellipsoid n.scaled ++ form (word_of 15 Set.Printable) (text a) 66 ∷ []))
  unfolding judge judge_each entries_of given agrees agrees_with check ◌⨾◌ fits on_gap values_of set_of
  network_whole = refl

  pub network_chain : judge anything (entries_of network (values_of (R.Network n) a [] [])) ≡ chain network_tests
  network_chain = network_whole ∙ accuracy_within 21 n.north n.east n.correlation n.ellipsoid n.scaled (form station (num (pos n.station)) 11 ∷ []) (form (word_of 15 Set.Printable) (text a) 66)

module _ (l : Local) (a : List ℕ) where
  -- the stations, which differ
  abbrev pub station_tests : List Verdict
  station_tests = form station (num (pos l.standpoint)) 11 ∷ form station (num (pos l.forepoint)) 17 ∷ check (not (l.standpoint =? l.forepoint)) 10 17 ∷ []

  abbrev pub local_tests : List Verdict
  local_tests =
      form station (num (pos l.standpoint)) 11 ∷ (form station (num (pos l.forepoint)) 17 ⨾ check (not (l.standpoint =? l.forepoint)) 10 17)
      ∷ judge_accuracy 23 l.north l.east l.correlation l.ellipsoid l.scaled ∷ form (word_of 13 Set.Printable) (text a) 68 ∷ []

  local_whole : judge anything (entries_of local (values_of (R.Local l) a [] []))
      ≡ chain (station_tests ++ (accuracy_tests 23 l.north l.east l.correlation l.ellipsoid l.scaled ++ form (word_of 13 Set.Printable) (text a) 68 ∷ []))
  unfolding judge judge_each entries_of given agrees agrees_with value_at num_of check ◌⨾◌ fits on_gap ◌=?◌ values_of set_of
  local_whole = refl

  pub local_chain : judge anything (entries_of local (values_of (R.Local l) a [] [])) ≡ chain local_tests
  local_chain = local_whole ∙ accuracy_within 23 l.north l.east l.correlation l.ellipsoid l.scaled station_tests (form (word_of 13 Set.Printable) (text a) 68)
      ∙ chain_two (form station (num (pos l.standpoint)) 11 ∷ []) _ _ (judge_accuracy 23 l.north l.east l.correlation l.ellipsoid l.scaled ∷ form (word_of 13 Set.Printable) (text a) 68 ∷ [])

module _ (f : Factor) (a : List ℕ) where
  abbrev pub factor_tests : List Verdict
  factor_tests = form variance (num (pos f.horizontal)) 11 ∷ form variance (num (pos f.vertical)) 19 ∷ form (word_of 54 Set.Printable) (text a) 27 ∷ []

  pub factor_chain : judge anything (entries_of factor (values_of (R.Factor f) a [] [])) ≡ chain factor_tests
  unfolding judge judge_each entries_of given agrees agrees_with check ◌⨾◌ fits on_gap values_of set_of
  factor_chain = refl

-- for the judges: a row of tests each, and the first fault counts
pub ruleset kind_laws =
    (firsts, project_chain, occupation_chain, measurement_chain, instrument_chain, antenna_chain, point_chain, orthometric_chain, other_chain, heights_judged, accuracy_chain, network_chain, local_chain, factor_chain)
