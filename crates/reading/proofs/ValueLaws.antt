-- The typed values of each kind are those of the line's meaning; and one law for each way through the readers.
use mathlib.Core.Path.{◌≡◌, refl, sym, ◌∙◌, ap}
use mathlib.Core.Bool.{true, cond}
use mathlib.Core.List.{List}
use Prim.Native.Nat.{ℕ, ◌+◌, ◌-◌, ◌≤◌}
use native.Mathlib.Nat.{add-sub_cancel_left}
use native.Mathlib.Omega.{arith}
use lib.IntN.{ℤ, pos, negsuc}
use lib.Dec.{lit≤}
use lib.ListN.{length, take, drop, get_or}
use Rattle.rules.specs.Tests.{◌≤?◌, all}
use Rattle.rules.specs.Characters.{is_blank}
use Rattle.rules.specs.Digits.{val}
use Rattle.rules.specs.Items.{Value, gap, missing, num, text, label, month, media, columns, width, value_of, number, height, angle}
use Rattle.rules.specs.Fields.{columns_of, values}
use Rattle.rules.specs.Layouts.{layouts}
use Rattle.rules.specs.Records.{sequence, code_at}
use Rattle.rules.proofs.Truth.{of≤, cases}
use Rattle.rules.proofs.FileLaws.{length-take_most}
use Rattle.columns.proofs.ValueLaws.{blank-val}
use Rattle.columns.specs.Types.{nat_of, int_of, height_of, count_of, media_of, four, way_of}
use Rattle.columns.specs.declared.Four.{Four}
use Rattle.columns.specs.declared.Media.{Media}
use Rattle.kinds.specs.declared.Two.{Two}
use Rattle.kinds.specs.declared.Three.{Three}
use Rattle.kinds.specs.declared.Job.{Job}
use Rattle.kinds.specs.declared.Project.{Project}
use Rattle.kinds.specs.declared.Occupation.{Occupation}
use Rattle.kinds.specs.declared.Instrument.{Instrument}
use Rattle.kinds.specs.declared.Antenna.{Antenna}
use Rattle.kinds.specs.declared.Measurement.{Measurement}
use Rattle.kinds.specs.declared.Point.{Point}
use Rattle.kinds.specs.declared.Heights.{Heights}
use Rattle.kinds.specs.declared.Network.{Network}
use Rattle.kinds.specs.declared.Local.{Local}
use Rattle.kinds.specs.declared.Factor.{Factor}
use Rattle.columns.specs.declared.Way.{Way}
use Rattle.kinds.specs.declared.Record.TheVariants as R
use Rattle.kinds.specs.Values.{text_of, char_of, two, three, record_from}
use Rattle.reading.specs.Values.{nat_in, month_in, height_in, signed_in, job_in, project_in, occupation_in, measurement_in, instrument_in, antenna_in, point_in, heights_in, network_in, local_in, factor_in, record_in}
use Rattle.std.specs.Prelude.{Option, None}
use Rattle.std.specs.Option.{unwrap_or}
use Rattle.columns.specs.declared.Height.{Height}

-- ---- each kind
module _ (l : List ℕ) where
  pub job_is : R.Job (job_in l) ≡ record_in 0 l
  unfolding job_in record_in record_from code_at
  job_is = refl

  pub project_is : R.Project (project_in l) ≡ record_in 3 l
  unfolding project_in month_in record_in record_from values layouts columns_of width value_of text_of
  project_is = refl

  pub occupation_is : R.Occupation (occupation_in l) ≡ record_in 4 l
  unfolding occupation_in nat_in record_in record_from values layouts columns_of width value_of text_of
  occupation_is = refl

  pub measurement_is : R.Measurement (measurement_in l) ≡ record_in 6 l
  unfolding measurement_in nat_in signed_in record_in record_from values layouts columns_of width value_of
  measurement_is = refl

  pub instrument_is : R.Instrument (instrument_in l) ≡ record_in 7 l
  unfolding instrument_in nat_in record_in record_from values layouts columns_of width value_of
  instrument_is = refl

  pub antenna_is : R.Antenna (antenna_in l) ≡ record_in 8 l
  unfolding antenna_in nat_in record_in record_from values layouts columns_of width value_of text_of
  antenna_is = refl

  pub point_is : R.Point (point_in l) ≡ record_in 9 l
  unfolding point_in nat_in way_of record_in record_from values layouts columns_of width columns value_of text_of
  point_is = refl

  pub heights_is : R.Heights (heights_in l) ≡ record_in 10 l
  unfolding heights_in nat_in height_in record_in record_from values layouts columns_of width value_of text_of char_of
  heights_is = refl

  pub network_is : R.Network (network_in l) ≡ record_in 11 l
  unfolding network_in nat_in signed_in record_in record_from values layouts columns_of width value_of text_of char_of
  network_is = refl

  pub local_is : R.Local (local_in l) ≡ record_in 12 l
  unfolding local_in nat_in signed_in record_in record_from values layouts columns_of width value_of text_of char_of
  local_is = refl

  pub factor_is : R.Factor (factor_in l) ≡ record_in 13 l
  unfolding factor_in nat_in record_in record_from values layouts columns_of width value_of
  factor_is = refl

-- the kinds with a text and nothing else
pub title_is : (l : List ℕ) → R.Title record {} ≡ record_in 1 l
unfolding record_in record_from
title_is l = refl

pub continuation_is : (l : List ℕ) → R.Continuation record {} ≡ record_in 2 l
unfolding record_in record_from
continuation_is l = refl

pub comment_is : (l : List ℕ) → R.Comment record {} ≡ record_in 5 l
unfolding record_in record_from
comment_is l = refl

-- ---- one field
few : (n m : ℕ) (l : List ℕ) → n ≤ m → length (take n l) ≤? m ≡ true
few n m l h = of≤ (omega (arith, length-take_most n l))

-- what a reader gives of at most m columns
pub told : {A : Type 0} (n m : ℕ) (l : List ℕ) (x y : A) → n ≤ m → cond (length (take n l) ≤? m) x y ≡ x
told n m l x y h = rw (few n m l h)

-- ---- a number and a height that are never missing
or_zero : (v : Value) → unwrap_or (count_of v) 0 ≡ nat_of v
unfolding count_of nat_of
or_zero gap = refl
or_zero missing = refl
or_zero (num (pos n)) = refl
or_zero (num (negsuc n)) = refl
or_zero (text t) = refl
or_zero (label m d y s t) = refl

abbrev pub int_height : Height → ℤ
int_height Height.Missing = pos 0
int_height (Height.Mm z) = z

int_height_lem : (v : Value) → int_height (height_of v) ≡ int_of v
unfolding height_of int_of
int_height_lem gap = refl
int_height_lem missing = refl
int_height_lem (num z) = refl
int_height_lem (text t) = refl
int_height_lem (label m d y s t) = refl

pub number-given : (p : List ℕ) → length p ≤ 8 → {k : Option ℕ} → k ≡ cond (length p ≤? 8) (count_of (value_of (number 0 0 0 true) p)) None → unwrap_or k 0 ≡ nat_of (value_of (number 0 0 0 true) p)
number-given p h z = rw (z, of≤ h) (or_zero _)

-- columns that are all there, and columns of which some may not be
module _ (l : List ℕ) (c w : ℕ) where
  pub number_there : (r : ℕ) → r ≡ nat_of (value_of (number 0 0 0 true) (take (c - 1 + w - (c - 1)) (drop (c - 1) l))) → r ≡ nat_in c w l
  unfolding nat_in
  number_there r q = q ∙ rw (add-sub_cancel_left (c - 1) w)

  module _ (p : List ℕ) (e : p ≡ take w (drop (c - 1) l)) where
    pub part_few : w ≤ 8 → length p ≤ 8
    part_few h = let m : length (take w (drop (c - 1) l)) ≤ w = length-take_most w (drop (c - 1) l) in rw e (omega (arith, m))

    pub number-part : (r : ℕ) → r ≡ nat_of (value_of (number 0 0 0 true) p) → r ≡ nat_in c w l
    unfolding nat_in
    number-part r q = q ∙ rw e

module _ (l p : List ℕ) where
  pub sequence_given_lem : p ≡ take 6 l → {k : Option ℕ} → k ≡ cond (length p ≤? 8) (count_of (value_of (number 0 0 0 true) p)) None → k ≡ count_of (value_of sequence (take 6 l))
  unfolding sequence value_of
  sequence_given_lem e z = z ∙ rw e (told 6 8 l _ _ (lit≤ tt))

  module _ (e : p ≡ take 5 (drop 55 l)) (k : Height) (z : k ≡ cond (length p ≤? 7) (height_of (value_of (height 0 0 0 true) p)) Height.Missing) where
    risen : int_height k ≡ signed_in 56 5 l
    unfolding signed_in
    risen =
        let k-is : k ≡ height_of (value_of (height 0 0 0 true) (take 5 (drop 55 l))) = z ∙ rw e (told 5 7 (drop 55 l) _ _ (lit≤ tt)) in
        ap int_height k-is ∙ int_height_lem (value_of (height 0 0 0 true) (take 5 (drop 55 l)))

    pub rise_missing : k ≡ Height.Missing → pos 0 ≡ signed_in 56 5 l
    rise_missing q = sym (ap int_height q) ∙ risen

    pub rise_given : (n : ℤ) → k ≡ Height.Mm n → n ≡ signed_in 56 5 l
    rise_given n q = sym (ap int_height q) ∙ risen

  pub month-given : (c : ℕ) → p ≡ take 6 (drop (c - 1) l) → {r : ℕ} → r ≡ cond (length p ≤? 8) (nat_of (value_of month p)) 0 → r ≡ month_in c l
  unfolding month_in
  month-given c e z = z ∙ rw e (told 6 8 (drop (c - 1) l) _ _ (lit≤ tt))

  pub height-given : (c : ℕ) → p ≡ take 7 (drop (c - 1) l) → {r : Height} → r ≡ cond (length p ≤? 7) (height_of (value_of (height 0 0 0 true) p)) Height.Missing → r ≡ height_in c l
  unfolding height_in
  height-given c e z = z ∙ rw e (told 7 7 (drop (c - 1) l) _ _ (lit≤ tt))

-- a number is what its columns write, and 0 where they are blank
number_is : (bs : List ℕ) → val 0 bs ≡ nat_of (value_of (number 0 0 0 true) bs)
unfolding value_of nat_of
number_is bs = cases (all is_blank bs) (λ e. rw (e, blank-val bs e)) (λ e. rw e)

module _ (l p : List ℕ) (c : ℕ) (e : p ≡ take 10 (drop (c - 1) l)) where
  pub deviation-given : {r : ℕ} → r ≡ cond (length p ≤? 16) (val 0 p) 0 → r ≡ nat_in c 10 l
  unfolding nat_in
  deviation-given z = z ∙ rw e (told 10 16 (drop (c - 1) l) _ _ (lit≤ tt) ∙ number_is (take 10 (drop (c - 1) l)))

  pub correlation-given : {r : ℤ} → r ≡ cond (length p ≤? 16) (int_of (value_of (height 0 0 0 true) p)) (pos 0) → r ≡ signed_in c 10 l
  unfolding signed_in
  correlation-given z = z ∙ rw e (told 10 16 (drop (c - 1) l) _ _ (lit≤ tt))

-- ---- short codes
module _ (p q : List ℕ) (e : p ≡ q) (a : ℕ) (x : a ≡ get_or p 0 0) where
  module _ (b : ℕ) (y : b ≡ get_or p 1 0) where
    pub two-given : ◌≡◌ {A = Two} record { 0 = a; 1 = b } (two q)
    unfolding two
    two-given = rw (x, y, e)

    module _ (c : ℕ) (z : c ≡ get_or p 2 0) where
      pub three-given : ◌≡◌ {A = Three} record { 0 = a; 1 = b; 2 = c } (three q)
      unfolding three
      three-given = rw (x, y, z, e)

      pub four-given : (d : ℕ) → d ≡ get_or p 3 0 → ◌≡◌ {A = Four} record { 0 = a; 1 = b; 2 = c; 3 = d } (four q)
      unfolding four
      four-given d w = rw (x, y, z, w, e)

-- ---- records put together
module _ (l : List ℕ) where
  pub job_given : (p : List ℕ) → p ≡ take 4 (drop 6 l) → (a : ℕ) → a ≡ get_or p 1 0 → (b : ℕ) → b ≡ get_or p 2 0 → {r : Job} → r ≡ record { first = a; second = b } → r ≡ job_in l
  unfolding job_in code_at
  job_given p e a x b y z = z ∙ rw (x, y, e)

  pub project-given : (a : ℕ) → a ≡ month_in 11 l → (b : ℕ) → b ≡ month_in 17 l → (c : Three) → c ≡ three (take 3 (drop 22 l)) → (d : Three) → d ≡ three (take 3 (drop 43 l)) → (e : Two) → e ≡ two (take 2 (drop 76 l))
      → {r : Project} → r ≡ record { began = a; ended = b; initials = c; second = d; state = e } → r ≡ project_in l
  unfolding project_in
  project-given a x b y c z d u e v w = w ∙ rw (x, y, z, u, v)

  pub occupation-given : (a : ℕ) → a ≡ nat_in 11 4 l → (p : List ℕ) → p ≡ take 10 (drop 14 l) → (b : Media) → b ≡ media_of (value_of media p) → (c : Three) → c ≡ three (take 3 (drop 24 l))
      → (d : ℕ) → d ≡ nat_in 28 3 l → (e : ℕ) → e ≡ nat_in 33 3 l
      → {r : Occupation} → r ≡ record { station = a; media = b; initials = c; instrument = d; antenna = e } → r ≡ occupation_in l
  unfolding occupation_in
  occupation-given a x p q b y c z d u e v w = w ∙ rw (x, y, q, z, u, v)

  pub instrument-given : (a : ℕ) → a ≡ nat_in 11 3 l → (b : ℕ) → b ≡ nat_in 14 3 l → {r : Instrument} → r ≡ record { instrument = a; equipment = b } → r ≡ instrument_in l
  unfolding instrument_in
  instrument-given a x b y w = w ∙ rw (x, y)

  pub antenna-given : (a : ℕ) → a ≡ nat_in 11 3 l → (b : Four) → b ≡ four (take 4 (drop 32 l)) → {r : Antenna} → r ≡ record { antenna = a; radome = b } → r ≡ antenna_in l
  unfolding antenna_in
  antenna-given a x b y w = w ∙ rw (x, y)

  pub measurement-given : (a : ℕ) → a ≡ nat_in 11 4 l → (b : ℕ) → b ≡ nat_in 15 6 l → (c : ℕ) → c ≡ nat_in 21 4 l → (d : ℤ) → d ≡ signed_in 56 5 l
      → {r : Measurement} → r ≡ record { station = a; date = b; time = c; height = d } → r ≡ measurement_in l
  unfolding measurement_in
  measurement-given a x b y c z d u w = w ∙ rw (x, y, z, u)

  pub point-given : (a : ℕ) → a ≡ nat_in 11 4 l → (p : List ℕ) → p ≡ take 12 (drop 44 l) → (b : ℤ) → b ≡ int_of (value_of (angle (way_of Way.Latitude)) p)
      → (q : List ℕ) → q ≡ take 13 (drop 56 l) → (c : ℤ) → c ≡ int_of (value_of (angle (way_of Way.Longitude)) q) → (d : Two) → d ≡ two (take 2 (drop 76 l))
      → {r : Point} → r ≡ record { station = a; latitude = b; longitude = c; state = d } → r ≡ point_in l
  unfolding point_in
  point-given a x p e b y q f c z d u w = w ∙ rw (x, y, e, z, f, u)

  pub heights-given : (a : ℕ) → a ≡ nat_in 11 4 l → (b : Height) → b ≡ height_in 17 l → (c : ℕ) → c ≡ get_or (take 1 (drop 23 l)) 0 0 → (d : Two) → d ≡ two (take 2 (drop 24 l))
      → (e : ℕ) → e ≡ get_or (take 1 (drop 26 l)) 0 0 → (f : Two) → f ≡ two (take 2 (drop 27 l)) → (g : Height) → g ≡ height_in 36 l → (h : ℕ) → h ≡ get_or (take 1 (drop 42 l)) 0 0
      → (i : Height) → i ≡ height_in 46 l → (j : ℕ) → j ≡ get_or (take 1 (drop 52 l)) 0 0 → (k : ℕ) → k ≡ get_or (take 1 (drop 55 l)) 0 0
      → {r : Heights} → r ≡ record { station = a; orthometric = b; code = c; class = d; indicator = e; datum = f; geoid = g; geoidcode = h; ellipsoid = i; ellipsoidcode = j; ellipsoiddatum = k }
      → r ≡ heights_in l
  unfolding heights_in
  heights-given a a' b b' c c' d d' e e' f f' g g' h h' i i' j j' k k' w = w ∙ rw (a', b', c', d', e', f', g', h', i', j', k')

  pub network-given : (a : ℕ) → a ≡ nat_in 11 4 l → (b : ℕ) → b ≡ nat_in 21 10 l → (c : ℕ) → c ≡ nat_in 31 10 l → (d : ℤ) → d ≡ signed_in 41 10 l → (e : ℕ) → e ≡ nat_in 51 10 l → (f : ℕ) → f ≡ get_or (take 1 (drop 64 l)) 0 0
      → {r : Network} → r ≡ record { station = a; north = b; east = c; correlation = d; ellipsoid = e; scaled = f } → r ≡ network_in l
  unfolding network_in
  network-given a a' b b' c c' d d' e e' f f' w = w ∙ rw (a', b', c', d', e', f')

  pub local-given : (a : ℕ) → a ≡ nat_in 11 4 l → (g : ℕ) → g ≡ nat_in 17 4 l → (b : ℕ) → b ≡ nat_in 23 10 l → (c : ℕ) → c ≡ nat_in 33 10 l → (d : ℤ) → d ≡ signed_in 43 10 l → (e : ℕ) → e ≡ nat_in 53 10 l → (f : ℕ) → f ≡ get_or (take 1 (drop 66 l)) 0 0
      → {r : Local} → r ≡ record { standpoint = a; forepoint = g; north = b; east = c; correlation = d; ellipsoid = e; scaled = f } → r ≡ local_in l
  unfolding local_in
  local-given a a' g g' b b' c c' d d' e e' f f' w = w ∙ rw (a', g', b', c', d', e', f')

  pub factor-given : (a : ℕ) → a ≡ nat_in 11 8 l → (b : ℕ) → b ≡ nat_in 19 8 l → {r : Factor} → r ≡ record { horizontal = a; vertical = b } → r ≡ factor_in l
  unfolding factor_in
  factor-given a a' b b' w = w ∙ rw (a', b')
