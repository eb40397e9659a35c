-- Words taken for values: what its field's type cannot hold is taken for a value that no field holds.
use mathlib.Core.Path.{◌≡◌, refl, sym, ◌∙◌, ap}
use mathlib.Core.Bool.{true, false}
use mathlib.Core.List.{List, ◌++◌}
use Prim.Native.Nat.{ℕ, suc, ◌+◌, ◌≤◌, ◌<◌, min}
use native.Mathlib.Omega.{arith}
use lib.ListN.{length, drop}
use lib.IntN.{ℤ, pos, negsuc, nat_abs}
use mir.Facts.{to_z-of_z}
use mir.Syntax.{w32, w64}
use mir.Val.{SFits, to_z, of_z}
use Rattle.std.specs.Int.{FitsUnsignedBits}
use Rattle.std.specs.Slice.{IsItemAt}
use Rattle.std.specs.Option.{unwrap_or, option_copied}
use Rattle.std.specs.Result.{OkIff, result_unwrap_or}
use Rattle.std.specs.declared.option.Option.{Option}
use Rattle.std.specs.declared.result.Result.{Result}
use Rattle.std.proofs.Common.{Ok, Err, Bor}
use Rattle.std.proofs.lemmas.List.{get_or_past}
use Rattle.rules.specs.Tests.{◌≤?◌}
use Rattle.rules.specs.Items.{Value}
use Rattle.rules.specs.Fields.{Verdict, ok, fault}
use Rattle.rules.specs.Records.{Meaning}
use Rattle.rules.specs.Calls.{write_verdict, write_output}
use Rattle.rules.proofs.Truth.{to≤, of≤, no≤, of>, of≡, of≢, cases}
use Rattle.rules.proofs.Bounds.{write_bounds}
use Rattle.columns.specs.declared.Four.{Four}
use Rattle.columns.specs.declared.Media.{Media}
use Rattle.kinds.specs.declared.Two.{Two}
use Rattle.kinds.specs.declared.Three.{Three}
use Rattle.kinds.specs.declared.Project.{Project}
use Rattle.kinds.specs.declared.Occupation.{Occupation}
use Rattle.kinds.specs.declared.Measurement.{Measurement}
use Rattle.kinds.specs.declared.Instrument.{Instrument}
use Rattle.kinds.specs.declared.Antenna.{Antenna}
use Rattle.kinds.specs.declared.Job.{Job}
use Rattle.kinds.specs.declared.Title.{Title}
use Rattle.kinds.specs.declared.Continuation.{Continuation}
use Rattle.kinds.specs.declared.Comment.{Comment}
use Rattle.kinds.specs.declared.Network.{Network}
use Rattle.kinds.specs.declared.Local.{Local}
use Rattle.kinds.specs.declared.Factor.{Factor}
use Rattle.kinds.specs.declared.Point.{Point}
use Rattle.kinds.specs.declared.Heights.{Heights}
use Rattle.kinds.specs.declared.Fault.{Fault}
use Rattle.kinds.specs.declared.Record.{Record}
use Rattle.kinds.specs.declared.Record.TheVariants as R
use Rattle.kinds.specs.Values.{kind_number, meaning_of, written_of, kind_index, kind_in}
use Rattle.answers.specs.Answers.{Small, fault_in, answered, touched}
use Rattle.answers.specs.Given.{word_at, held_or, digit_of, signed_of, is_least, height_of, sequence_of, character_at, number_at, two_at, three_at, four_at, media_at, project_given, occupation_given, measurement_given, point_given, heights_given, network_given, local_given, records_given, record_given, given, sequence_given, written_words, number_of, character_of}
use Rattle.kinds.specs.declared.Kind.{Kind}
use Rattle.kinds.proofs.KindLaws.{its_number, no_number}
use Rattle.export.proofs.AnswerLaws.{long_answer, long_touched}
use Rattle.std.specs.Prelude.{Result, Ok, Err, Option, Some, None}
use Rattle.columns.specs.Types.{count_value}
use Rattle.columns.specs.declared.Height.{Height}

-- ---- one word
pub word_found : (ws : List ℤ) (i : ℕ) (r : Option (Bor ℤ)) → IsItemAt ws i r → unwrap_or (option_copied r) (pos 9_223_372_036_854_775_807) ≡ word_at ws i
unfolding word_at
word_found ws i r d = d.4 (omega arith) (pos 9_223_372_036_854_775_807)

pub word_lacking : (ws : List ℤ) (i : ℕ) → length ws ≤ i → pos 9_223_372_036_854_775_807 ≡ word_at ws i
unfolding word_at
word_lacking ws i h = sym (get_or_past ws i (pos 9_223_372_036_854_775_807) h)

clash : {A : Type 0} → ◌≡◌ {A = ℕ} 0 1 → A
clash e = absurd (omega arith)

-- what does not go into the type is none
pub number_tried : {E : Type 0} (r : Result ℕ E) (z : ℤ) → OkIff r (FitsUnsignedBits 32 z) (nat_abs z) → result_unwrap_or r 4_294_967_295 ≡ number_of z
unfolding held_or
number_tried (Ok x) (pos n) (f, e) = cases (n ≤? 4_294_967_294) (λ h. rw (e, h)) (λ h. rw h (e ∙ omega (arith, no≤ h)))
number_tried (Ok x) (negsuc n) (f, e) = absurd f
number_tried (Err x) (pos n) f = rw (of> {m = n} {n = 4_294_967_294} (omega (arith, f)))
number_tried (Err x) (negsuc n) f = refl

pub character_tried : {E : Type 0} (r : Result ℕ E) (z : ℤ) → OkIff r (FitsUnsignedBits 8 z) (nat_abs z) → result_unwrap_or r 0 ≡ character_of z
unfolding held_or
character_tried (Ok x) (pos n) (f, e) = rw (e, of≤ {m = n} {n = 255} (omega (arith, f)))
character_tried (Ok x) (negsuc n) (f, e) = absurd f
character_tried (Err x) (pos n) f = rw (of> {m = n} {n = 255} (omega (arith, f)))
character_tried (Err x) (negsuc n) f = refl

pub digit_tried : {E : Type 0} (r : Result ℕ E) (z : ℤ) → OkIff r (FitsUnsignedBits 8 z) (nat_abs z) → min (result_unwrap_or r 10) 10 ≡ digit_of z
unfolding held_or
digit_tried (Ok x) (pos n) (f, e) = cases (n ≤? 9) (λ h. rw h (omega (arith, e, to≤ h))) (λ h. rw h (omega (arith, e, no≤ h)))
digit_tried (Ok x) (negsuc n) (f, e) = absurd f
digit_tried (Err x) (pos n) f = rw (of> {m = n} {n = 9} (omega (arith, f)))
digit_tried (Err x) (negsuc n) f = refl

-- a height or a correlation, by how far it is from 0
pub near_0 : (z : ℤ) → nat_abs z ≤ 99_999_999 → to_z w32 (of_z w32 z) ≡ signed_of z
unfolding signed_of
near_0 (pos n) h = to_z-of_z {w = w32} {z = pos n} record { sfits = omega (arith, h) } ∙ rw (of≤ {m = n} {n = 99_999_999} h)
near_0 (negsuc n) h = to_z-of_z {w = w32} {z = negsuc n} record { sfits = omega (arith, h) } ∙ rw (of≤ {m = suc n} {n = 99_999_999} (omega (arith, h)))

pub far_from_0 : (z : ℤ) → 99_999_999 < nat_abs z → pos 100_000_000 ≡ signed_of z
unfolding signed_of
far_from_0 (pos n) h = rw (of> {m = n} {n = 99_999_999} h)
far_from_0 (negsuc n) h = rw (of> {m = suc n} {n = 99_999_999} (omega (arith, h)))

-- the least word, by its bits
least_bits : (z : ℤ) → SFits w64 z → (of_z w64 z ≡ 9_223_372_036_854_775_808 → is_least z ≡ true) × ((of_z w64 z ≡ 9_223_372_036_854_775_808 → ⊥) → is_least z ≡ false)
unfolding is_least
least_bits (pos n) f = (λ e. absurd (omega (arith, f.sfits, e)), λ e. refl)
least_bits (negsuc n) f = (λ e. of≡ {m = suc n} {n = 9_223_372_036_854_775_808} (omega (arith, f.sfits, e)), λ e. of≢ {m = suc n} {n = 9_223_372_036_854_775_808} (λ y. e (omega (arith, y))))

pub height_none : (z : ℤ) → SFits w64 z → of_z w64 z ≡ 9_223_372_036_854_775_808 → Height.Missing ≡ height_of z
unfolding height_of
height_none z f e = rw ((least_bits z f).0 e)

pub height-some : (z : ℤ) → SFits w64 z → (of_z w64 z ≡ 9_223_372_036_854_775_808 → ⊥) → Height.Mm (signed_of z) ≡ height_of z
unfolding height_of
height-some z f e = rw ((least_bits z f).1 e)

-- -1, by its bits
pub sequence_none : (z : ℤ) → SFits w64 z → of_z w64 z ≡ 18_446_744_073_709_551_615 → None ≡ sequence_of z
unfolding sequence_of
sequence_none (pos n) f e = absurd (omega (arith, f.sfits, e))
sequence_none (negsuc n) f e = rw (of≡ {m = suc n} {n = 1} (omega (arith, f.sfits, e)))

pub sequence_some : (z : ℤ) → SFits w64 z → (of_z w64 z ≡ 18_446_744_073_709_551_615 → ⊥) → Some (number_of z) ≡ sequence_of z
unfolding sequence_of held_or
sequence_some (pos n) f e = refl
sequence_some (negsuc n) f e = rw (of≢ {m = suc n} {n = 1} (λ y. e (omega (arith, f.sfits, y))))

-- ---- short codes
module _ (ws : List ℤ) (i a b : ℕ) (p : a ≡ character_at ws i) (q : b ≡ character_at ws (i + 1)) where
  pub two-given : ◌≡◌ {A = Two} (record { 0 = a; 1 = b }) (two_at ws i)
  unfolding two_at
  two-given = rw (p, q)

  module _ (c : ℕ) (r : c ≡ character_at ws (i + 2)) where
    pub three-given : ◌≡◌ {A = Three} (record { 0 = a; 1 = b; 2 = c }) (three_at ws i)
    unfolding three_at
    three-given = rw (p, q, r)

    pub four-given : (d : ℕ) → d ≡ character_at ws (i + 3) → ◌≡◌ {A = Four} (record { 0 = a; 1 = b; 2 = c; 3 = d }) (four_at ws i)
    unfolding four_at
    four-given d s = rw (p, q, r, s)

pub media-given : (ws : List ℤ) (i a d y s : ℕ) (t : Four) → a ≡ character_at ws i → d ≡ number_at ws (i + 1) → y ≡ digit_of (word_at ws (i + 2)) → s ≡ character_at ws (i + 3) → t ≡ four_at ws (i + 4)
    → ◌≡◌ {A = Media} (record { maker = a; day = d; year = y; session = s; mark = t }) (media_at ws i)
unfolding media_at
media-given ws i a d y s t p q r u v = rw (p, q, r, u, v)

-- ---- records
pub project-given : (ws : List ℤ) (a : ℕ) (b : ℕ) (s : Three) (t : Three) (u : Two) (r : Project) → a ≡ number_at ws 2 → b ≡ number_at ws 3 → s ≡ three_at ws 4 → t ≡ three_at ws 7 → u ≡ two_at ws 10
    → r ≡ record { began = a; ended = b; initials = s; second = t; state = u } → r ≡ project_given ws
unfolding project_given
project-given ws a b s t u r h0 h1 h2 h3 h4 e = e ∙ rw (h0, h1, h2, h3, h4)

pub occupation-given : (ws : List ℤ) (a : ℕ) (m : Media) (s : Three) (b : ℕ) (d : ℕ) (r : Occupation) → a ≡ number_at ws 2 → m ≡ media_at ws 3 → s ≡ three_at ws 11 → b ≡ number_at ws 14 → d ≡ number_at ws 15
    → r ≡ record { station = a; media = m; initials = s; instrument = b; antenna = d } → r ≡ occupation_given ws
unfolding occupation_given
occupation-given ws a m s b d r h0 h1 h2 h3 h4 e = e ∙ rw (h0, h1, h2, h3, h4)

pub measurement-given : (ws : List ℤ) (a : ℕ) (b : ℕ) (d : ℕ) (z : ℤ) (r : Measurement) → a ≡ number_at ws 2 → b ≡ number_at ws 3 → d ≡ number_at ws 4 → z ≡ signed_of (word_at ws 5)
    → r ≡ record { station = a; date = b; time = d; height = z } → r ≡ measurement_given ws
unfolding measurement_given
measurement-given ws a b d z r h0 h1 h2 h3 e = e ∙ rw (h0, h1, h2, h3)

pub point-given : (ws : List ℤ) (a : ℕ) (x : ℤ) (y : ℤ) (u : Two) (r : Point) → a ≡ number_at ws 2 → x ≡ word_at ws 3 → y ≡ word_at ws 4 → u ≡ two_at ws 5
    → r ≡ record { station = a; latitude = x; longitude = y; state = u } → r ≡ point_given ws
unfolding point_given
point-given ws a x y u r h0 h1 h2 h3 e = e ∙ rw (h0, h1, h2, h3)

pub heights-given : (ws : List ℤ) (a : ℕ) (b : Height) (d : ℕ) (f : Two) (g : ℕ) (i : Two) (j : Height) (k : ℕ) (l : Height) (m : ℕ) (n : ℕ) (r : Heights) → a ≡ number_at ws 2 → b ≡ height_of (word_at ws 3) → d ≡ character_at ws 4 → f ≡ two_at ws 5 → g ≡ character_at ws 7 → i ≡ two_at ws 8 → j ≡ height_of (word_at ws 10) → k ≡ character_at ws 11 → l ≡ height_of (word_at ws 12) → m ≡ character_at ws 13 → n ≡ character_at ws 14
    → r ≡ record { station = a; orthometric = b; code = d; class = f; indicator = g; datum = i; geoid = j; geoidcode = k; ellipsoid = l; ellipsoidcode = m; ellipsoiddatum = n } → r ≡ heights_given ws
unfolding heights_given
heights-given ws a b d f g i j k l m n r h0 h1 h2 h3 h4 h5 h6 h7 h8 h9 h10 e = e ∙ rw (h0, h1, h2, h3, h4, h5, h6, h7, h8, h9, h10)

pub network-given : (ws : List ℤ) (a b d : ℕ) (z : ℤ) (g h : ℕ) (r : Network) → a ≡ number_at ws 2 → b ≡ number_at ws 3 → d ≡ number_at ws 4 → z ≡ signed_of (word_at ws 5) → g ≡ number_at ws 6 → h ≡ character_at ws 7
    → r ≡ record { station = a; north = b; east = d; correlation = z; ellipsoid = g; scaled = h } → r ≡ network_given ws
unfolding network_given
network-given ws a b d z g h r h0 h1 h2 h3 h4 h5 e = e ∙ rw (h0, h1, h2, h3, h4, h5)

pub local-given : (ws : List ℤ) (a f b d : ℕ) (z : ℤ) (g h : ℕ) (r : Local) → a ≡ number_at ws 2 → f ≡ number_at ws 3 → b ≡ number_at ws 4 → d ≡ number_at ws 5 → z ≡ signed_of (word_at ws 6) → g ≡ number_at ws 7 → h ≡ character_at ws 8
    → r ≡ record { standpoint = a; forepoint = f; north = b; east = d; correlation = z; ellipsoid = g; scaled = h } → r ≡ local_given ws
unfolding local_given
local-given ws a f b d z g h r h0 h1 h2 h3 h4 h5 h6 e = e ∙ rw (h0, h1, h2, h3, h4, h5, h6)

-- ---- any record, by its kind
module _ (k : ℕ) (ws : List ℤ) where
  kind_is : (j : ℕ) → k ≡ j → (r : Record) → r ≡ record_given j ws → r ≡ record_given k ws
  kind_is j e r q = q ∙ ap (λ i. record_given i ws) (sym e)

  pub given-title : k ≡ 1 → (r : Title) → r ≡ record {} → R.Title r ≡ record_given k ws
  unfolding record_given records_given
  given-title h r q = kind_is 1 h (R.Title r) (rw q)

  pub given_continuation : k ≡ 2 → (r : Continuation) → r ≡ record {} → R.Continuation r ≡ record_given k ws
  unfolding record_given records_given
  given_continuation h r q = kind_is 2 h (R.Continuation r) (rw q)

  pub given-project : k ≡ 3 → (r : Project) → r ≡ project_given ws → R.Project r ≡ record_given k ws
  unfolding record_given records_given
  given-project h r q = kind_is 3 h (R.Project r) (rw q)

  pub given-occupation : k ≡ 4 → (r : Occupation) → r ≡ occupation_given ws → R.Occupation r ≡ record_given k ws
  unfolding record_given records_given
  given-occupation h r q = kind_is 4 h (R.Occupation r) (rw q)

  pub given-comment : k ≡ 5 → (r : Comment) → r ≡ record {} → R.Comment r ≡ record_given k ws
  unfolding record_given records_given
  given-comment h r q = kind_is 5 h (R.Comment r) (rw q)

  pub given-measurement : k ≡ 6 → (r : Measurement) → r ≡ measurement_given ws → R.Measurement r ≡ record_given k ws
  unfolding record_given records_given
  given-measurement h r q = kind_is 6 h (R.Measurement r) (rw q)

  pub given-point : k ≡ 9 → (r : Point) → r ≡ point_given ws → R.Point r ≡ record_given k ws
  unfolding record_given records_given
  given-point h r q = kind_is 9 h (R.Point r) (rw q)

  pub given-heights : k ≡ 10 → (r : Heights) → r ≡ heights_given ws → R.Heights r ≡ record_given k ws
  unfolding record_given records_given
  given-heights h r q = kind_is 10 h (R.Heights r) (rw q)

  pub given-network : k ≡ 11 → (r : Network) → r ≡ network_given ws → R.Network r ≡ record_given k ws
  unfolding record_given records_given
  given-network h r q = kind_is 11 h (R.Network r) (rw q)

  pub given-local : k ≡ 12 → (r : Local) → r ≡ local_given ws → R.Local r ≡ record_given k ws
  unfolding record_given records_given
  given-local h r q = kind_is 12 h (R.Local r) (rw q)

  pub given-factor : k ≡ 13 → (a b : ℕ) (r : Factor) → a ≡ number_at ws 2 → b ≡ number_at ws 3 → r ≡ record { horizontal = a; vertical = b } → R.Factor r ≡ record_given k ws
  unfolding record_given records_given
  given-factor h a b r p q e = kind_is 13 h (R.Factor r) (rw (e, p, q))

  pub given_job : k ≡ 0 → (a b : ℕ) (r : Job) → a ≡ character_at ws 2 → b ≡ character_at ws 3 → r ≡ record { first = a; second = b } → R.Job r ≡ record_given k ws
  unfolding record_given records_given
  given_job h a b r p q e = kind_is 0 h (R.Job r) (rw (e, p, q))

  pub given-instrument : k ≡ 7 → (a b : ℕ) (r : Instrument) → a ≡ number_at ws 2 → b ≡ number_at ws 3 → r ≡ record { instrument = a; equipment = b } → R.Instrument r ≡ record_given k ws
  unfolding record_given records_given
  given-instrument h a b r p q e = kind_is 7 h (R.Instrument r) (rw (e, p, q))

  pub given-antenna : k ≡ 8 → (a : ℕ) (t : Four) (r : Antenna) → a ≡ number_at ws 2 → t ≡ four_at ws 3 → r ≡ record { antenna = a; radome = t } → R.Antenna r ≡ record_given k ws
  unfolding record_given records_given
  given-antenna h a t r p q e = kind_is 8 h (R.Antenna r) (rw (e, p, q))

  pub given_none : 14 ≤ k → (r : Job) → r ≡ record { first = 0; second = 0 } → R.Job r ≡ record_given k ws
  unfolding record_given records_given
  given_none h r e = ap R.Job e ∙ sym (get_or_past (records_given ws) k (R.Job record { first = 0; second = 0 }) h)

module _ (ws : List ℤ) (n : ℕ) (e : n ≡ number_at ws 0) (o : Option Kind) (p : kind_in o ≡ min n 14) where
  pub given_kind : (k : Kind) → o ≡ Some k → (r : Record) → r ≡ record_given (kind_index k) ws → r ≡ given ws
  given_kind k h r q = q ∙ ap (λ i. record_given i ws) (its_number o k n p h ∙ e)

  pub given_no_kind : o ≡ None → (r : Job) → r ≡ record { first = 0; second = 0 } → R.Job r ≡ given ws
  given_no_kind h r q = given_none (number_at ws 0) ws (rw e at (no_number o n p h)) r q

-- ---- the answer
noted_of : (v : Verdict) → ((n c : ℕ) → v ≡ fault n c → c ≤ 80) → Small (fault_in (written_of v))
unfolding written_of fault_in
noted_of ok h = record { place = omega arith; spot = omega arith }
noted_of (fault n c) h = record { place = omega arith; spot = omega (arith, h n c refl) }

pub written_noted : (w : Result (Unit {0}) Fault) (room k : ℕ) (q : Value) (m : Meaning) → w ≡ written_of (write_verdict room k q m) → Small (fault_in w)
written_noted w room k q m e = rw e (noted_of (write_verdict room k q m) (λ n c y. omega (arith, write_bounds room k q m n c y)))

module _ (ws : List ℤ) (a b c old : List ℕ) (r : Record) (s : Option ℕ) (h : 3 ≤ length old) (p : s ≡ sequence_given ws) (q : r ≡ given ws) where
  pub write_answer : (room : ℕ) (v : Result (Unit {0}) Fault) (u : List ℕ) → v ≡ written_of (write_verdict room (kind_number r) (count_value s) (meaning_of r a b c)) → u ≡ written_words v
      → u ++ drop 3 old ≡ answered 3 (written_words (written_of (write_verdict room (kind_number (given ws)) (count_value (sequence_given ws)) (meaning_of (given ws) a b c)))) old
  write_answer room v u e z = long_answer 3 old h u _ (z ∙ ap written_words (e ∙ rw (p, q)))

  pub write_left : (o u : List ℕ) → u ≡ write_output (kind_number r) (count_value s) (meaning_of r a b c) o
      → u ≡ touched 3 old (write_output (kind_number (given ws)) (count_value (sequence_given ws)) (meaning_of (given ws) a b c) o) o
  write_left o u e = long_touched 3 old h u _ o (e ∙ rw (p, q))
