-- Values as words: each put after the other, a record's words are laid over what was there.
use mathlib.Core.Path.{◌≡◌, refl, sym, ◌∙◌, ap}
use mathlib.Core.Bool.{true}
use mathlib.Core.List.{List, [], ◌∷◌, ◌++◌}
use Prim.Native.Nat.{ℕ, ◌+◌, ◌≤◌, ◌<◌, ◌^◌}
use native.Mathlib.Omega.{arith}
use lib.ListN.{length, set, replicate, drop}
use lib.Seq.{set_out}
use lib.IntN.{ℤ, pos, negsuc}
use mir.Syntax.{w32, w64}
use mir.Val.{SFits, to_z, of_z}
use mir.ValLaws.{to_z_pos}
use Rattle.columns.proofs.Signed.{widened}
use Rattle.rules.specs.Tests.{all, ◌≤?◌}
use Rattle.rules.proofs.Truth.{both, to≤}
use Rattle.columns.specs.declared.Four.{Four}
use Rattle.columns.specs.declared.Media.{Media}
use Rattle.std.specs.Prelude.{Result, Ok, Err, Option, Some, None}
use Rattle.kinds.specs.declared.Two.{Two}
use Rattle.kinds.specs.declared.Three.{Three}
use Rattle.kinds.specs.declared.Project.{Project}
use Rattle.kinds.specs.declared.Occupation.{Occupation}
use Rattle.kinds.specs.declared.Measurement.{Measurement}
use Rattle.kinds.specs.declared.Instrument.{Instrument}
use Rattle.kinds.specs.declared.Antenna.{Antenna}
use Rattle.kinds.specs.declared.Job.{Job}
use Rattle.kinds.specs.declared.Title.{Title}
use Rattle.kinds.specs.declared.Continuation.{Continuation}
use Rattle.kinds.specs.declared.Comment.{Comment}
use Rattle.kinds.specs.declared.Network.{Network}
use Rattle.kinds.specs.declared.Local.{Local}
use Rattle.kinds.specs.declared.Factor.{Factor}
use Rattle.kinds.specs.declared.Point.{Point}
use Rattle.kinds.specs.declared.Heights.{Heights}
use Rattle.kinds.specs.declared.Fault.{Fault}
use Rattle.kinds.specs.declared.Record.{Record}
use Rattle.kinds.specs.declared.Record.TheVariants as R
use Rattle.kinds.specs.Values.{kind_number}
use Rattle.answers.specs.Words.{height_word, sequence_word, two_words, three_words, four_words, media_words, project_words, occupation_words, measurement_words, point_words, heights_first, heights_words, network_words, local_words, value_words, padded, read_words, deviations_of, in_range, Told, laid}
use Rattle.answers.specs.Answers.{Small, answered}
use Rattle.export.proofs.AnswerLaws.{long_answer}
use Rattle.columns.specs.declared.Height.{Height}

-- ---- one word
pub put_past : (w : List ℤ) (at : ℕ) (z : ℤ) → length w ≤ at → w ≡ set w at z
put_past w at z h = sym (set_out w at z h)

pub put_word : (w : List ℤ) (at n : ℕ) → n < 2 ^ 32 → set w at (to_z w64 n) ≡ set w at (pos n)
put_word w at n h = ap (set w at) (to_z_pos w64 n (omega arith))

pub missing-word : (h : Height) → h ≡ Height.Missing → negsuc 9_223_372_036_854_775_807 ≡ height_word h
unfolding height_word
missing-word h e = rw e

pub height-word : (h : Height) (z : ℤ) → SFits w32 z → h ≡ Height.Mm z → to_z w64 (of_z w64 (to_z w32 (of_z w32 z))) ≡ height_word h
unfolding height_word
height-word h z f e = rw e (widened z f)

pub height-put : (h : Height) (z : ℤ) (at : ℕ) (w u : List ℤ) → z ≡ height_word h → to_z w64 (of_z w64 z) ≡ z → u ≡ set w at (to_z w64 (of_z w64 z)) → u ≡ set w at (height_word h)
height-put h z at w u e b q = q ∙ rw (b, e)

module _ (s : Option ℕ) (at : ℕ) (w u : List ℤ) where
  pub unnumbered_word : s ≡ None → u ≡ set w at (negsuc 0) → u ≡ set w at (sequence_word s)
  unfolding sequence_word
  unnumbered_word e q = q ∙ rw e

  pub numbered-word : (n : ℕ) → s ≡ Some n → u ≡ set w at (pos n) → u ≡ set w at (sequence_word s)
  unfolding sequence_word
  numbered-word n e q = q ∙ rw e

-- ---- short codes
module _ (at : ℕ) (w₀ w₁ w₂ : List ℤ) where
  pub two-laid : (t : Two) → w₁ ≡ set w₀ at (pos t.0) → w₂ ≡ set w₁ (at + 1) (pos t.1) → w₂ ≡ laid at (two_words t) w₀
  unfolding laid two_words
  two-laid t p q = rw (q, p)

  pub three-laid : (t : Three) (w₃ : List ℤ) → w₁ ≡ set w₀ at (pos t.0) → w₂ ≡ set w₁ (at + 1) (pos t.1) → w₃ ≡ set w₂ (at + 2) (pos t.2) → w₃ ≡ laid at (three_words t) w₀
  unfolding laid three_words
  three-laid t w₃ p q r = let e : at + 1 + 1 ≡ at + 2 = omega arith in rw (e, r, q, p)

  pub four-laid : (t : Four) (w₃ w₄ : List ℤ) → w₁ ≡ set w₀ at (pos t.0) → w₂ ≡ set w₁ (at + 1) (pos t.1) → w₃ ≡ set w₂ (at + 2) (pos t.2) → w₄ ≡ set w₃ (at + 3) (pos t.3)
      → w₄ ≡ laid at (four_words t) w₀
  unfolding laid four_words
  four-laid t w₃ w₄ p q r s =
      let e : at + 1 + 1 ≡ at + 2 = omega arith in
      let f : at + 2 + 1 ≡ at + 3 = omega arith in
      rw (e, f, s, r, q, p)

  pub media-laid : (m : Media) (w₃ w₄ w₅ : List ℤ) → w₁ ≡ set w₀ at (pos m.maker) → w₂ ≡ set w₁ (at + 1) (pos m.day) → w₃ ≡ set w₂ (at + 2) (pos m.year) → w₄ ≡ set w₃ (at + 3) (pos m.session)
      → w₅ ≡ laid (at + 4) (four_words m.mark) w₄ → w₅ ≡ laid at (media_words m) w₀
  unfolding laid media_words four_words
  media-laid m w₃ w₄ w₅ p q r s v =
      let e : at + 1 + 1 ≡ at + 2 = omega arith in
      let f : at + 2 + 1 ≡ at + 3 = omega arith in
      let g : at + 3 + 1 ≡ at + 4 = omega arith in
      rw (e, f, g, v, s, r, q, p)

-- ---- records
module _ (w₀ w₁ w₂ : List ℤ) where
  pub job_laid : (r : Job) → w₁ ≡ set w₀ 5 (pos r.first) → w₂ ≡ set w₁ 6 (pos r.second) → w₂ ≡ laid 5 (pos r.first ∷ pos r.second ∷ []) w₀
  unfolding laid
  job_laid r p q = rw (q, p)

  pub instrument-laid : (r : Instrument) → w₁ ≡ set w₀ 5 (pos r.instrument) → w₂ ≡ set w₁ 6 (pos r.equipment) → w₂ ≡ laid 5 (pos r.instrument ∷ pos r.equipment ∷ []) w₀
  unfolding laid
  instrument-laid r p q = rw (q, p)

  pub antenna-laid : (r : Antenna) → w₁ ≡ set w₀ 5 (pos r.antenna) → w₂ ≡ laid 6 (four_words r.radome) w₁ → w₂ ≡ laid 5 (pos r.antenna ∷ four_words r.radome) w₀
  unfolding laid
  antenna-laid r p q = rw (q, p)

  pub project-laid : (r : Project) (w₃ w₄ w₅ : List ℤ) → w₁ ≡ set w₀ 5 (pos r.began) → w₂ ≡ set w₁ 6 (pos r.ended) → w₃ ≡ laid 7 (three_words r.initials) w₂
      → w₄ ≡ laid 10 (three_words r.second) w₃ → w₅ ≡ laid 13 (two_words r.state) w₄ → w₅ ≡ laid 5 (project_words r) w₀
  unfolding laid project_words three_words two_words
  project-laid r w₃ w₄ w₅ p q s t v = rw (v, t, s, q, p)

  pub occupation-laid : (r : Occupation) (w₃ w₄ w₅ : List ℤ) → w₁ ≡ set w₀ 5 (pos r.station) → w₂ ≡ laid 6 (media_words r.media) w₁ → w₃ ≡ laid 14 (three_words r.initials) w₂
      → w₄ ≡ set w₃ 17 (pos r.instrument) → w₅ ≡ set w₄ 18 (pos r.antenna) → w₅ ≡ laid 5 (occupation_words r) w₀
  unfolding laid occupation_words three_words media_words four_words
  occupation-laid r w₃ w₄ w₅ p q s t v = rw (v, t, s, q, p)

  pub measurement-laid : (r : Measurement) (z : ℤ) (w₃ w₄ : List ℤ) → w₁ ≡ set w₀ 5 (pos r.station) → w₂ ≡ set w₁ 6 (pos r.date) → w₃ ≡ set w₂ 7 (pos r.time) → w₄ ≡ set w₃ 8 (height_word (Height.Mm z))
      → z ≡ r.height → w₄ ≡ laid 5 (measurement_words r) w₀
  unfolding laid measurement_words height_word
  measurement-laid r z w₃ w₄ p q s t e = rw (t, s, q, p, e)

  pub point-laid : (r : Point) (w₃ w₄ : List ℤ) → w₁ ≡ set w₀ 5 (pos r.station) → w₂ ≡ set w₁ 6 r.latitude → w₃ ≡ set w₂ 7 r.longitude → w₄ ≡ laid 8 (two_words r.state) w₃
      → w₄ ≡ laid 5 (point_words r) w₀
  unfolding laid point_words two_words
  point-laid r w₃ w₄ p q s t = rw (t, s, q, p)

  pub orthometric_laid : (r : Heights) (w₃ w₄ w₅ w₆ : List ℤ) → w₁ ≡ set w₀ 5 (pos r.station) → w₂ ≡ set w₁ 6 (height_word r.orthometric) → w₃ ≡ set w₂ 7 (pos r.code)
      → w₄ ≡ laid 8 (two_words r.class) w₃ → w₅ ≡ set w₄ 10 (pos r.indicator) → w₆ ≡ laid 11 (two_words r.datum) w₅ → w₆ ≡ laid 5 (heights_first r) w₀
  unfolding laid heights_first two_words
  orthometric_laid r w₃ w₄ w₅ w₆ p q s t v x = rw (x, v, t, s, q, p)

  pub heights-laid : (r : Heights) (w₃ w₄ w₅ w₆ : List ℤ) → w₁ ≡ laid 5 (heights_first r) w₀ → w₂ ≡ set w₁ 13 (height_word r.geoid) → w₃ ≡ set w₂ 14 (pos r.geoidcode) → w₄ ≡ set w₃ 15 (height_word r.ellipsoid)
      → w₅ ≡ set w₄ 16 (pos r.ellipsoidcode) → w₆ ≡ set w₅ 17 (pos r.ellipsoiddatum) → w₆ ≡ laid 5 (heights_words r) w₀
  unfolding laid heights_words heights_first two_words
  heights-laid r w₃ w₄ w₅ w₆ p q s t v x = rw (x, v, t, s, q, p)

  pub network-laid : (r : Network) (w₃ w₄ w₅ w₆ : List ℤ) → w₁ ≡ set w₀ 5 (pos r.station) → w₂ ≡ set w₁ 6 (pos r.north) → w₃ ≡ set w₂ 7 (pos r.east) → w₄ ≡ set w₃ 8 r.correlation
      → w₅ ≡ set w₄ 9 (pos r.ellipsoid) → w₆ ≡ set w₅ 10 (pos r.scaled) → w₆ ≡ laid 5 (network_words r) w₀
  unfolding laid network_words
  network-laid r w₃ w₄ w₅ w₆ p q s t v x = rw (x, v, t, s, q, p)

  pub local-laid : (r : Local) (w₃ w₄ w₅ w₆ w₇ : List ℤ) → w₁ ≡ set w₀ 5 (pos r.standpoint) → w₂ ≡ set w₁ 6 (pos r.forepoint) → w₃ ≡ set w₂ 7 (pos r.north) → w₄ ≡ set w₃ 8 (pos r.east)
      → w₅ ≡ set w₄ 9 r.correlation → w₆ ≡ set w₅ 10 (pos r.ellipsoid) → w₇ ≡ set w₆ 11 (pos r.scaled) → w₇ ≡ laid 5 (local_words r) w₀
  unfolding laid local_words
  local-laid r w₃ w₄ w₅ w₆ w₇ p q s t v x y = rw (y, x, v, t, s, q, p)

  pub factor-laid : (r : Factor) → w₁ ≡ set w₀ 5 (pos r.horizontal) → w₂ ≡ set w₁ 6 (pos r.vertical) → w₂ ≡ laid 5 (pos r.horizontal ∷ pos r.vertical ∷ []) w₀
  unfolding laid
  factor-laid r p q = rw (q, p)

  pub refusal-laid : (f : Fault) (w₃ w₄ : List ℤ) → w₁ ≡ set w₀ 0 (pos f.number) → w₂ ≡ set w₁ 1 (pos f.«record») → w₃ ≡ set w₂ 2 (pos f.column) → w₄ ≡ set w₃ 3 (negsuc 0)
      → w₄ ≡ laid 0 (pos f.number ∷ pos f.«record» ∷ pos f.column ∷ negsuc 0 ∷ []) w₀
  unfolding laid
  refusal-laid f w₃ w₄ p q s t = rw (t, s, q, p)

  pub values-laid : (s : Option ℕ) (r : Record) (k : ℕ) (w₃ : List ℤ) → k ≡ kind_number r → w₁ ≡ set w₀ 3 (pos k) → w₂ ≡ set w₁ 4 (sequence_word s) → w₃ ≡ laid 5 (value_words r) w₂
      → w₃ ≡ laid 3 (pos (kind_number r) ∷ sequence_word s ∷ value_words r) w₀
  unfolding laid
  values-laid s r k w₃ e p q t = rw (t, q, p, e)

-- ---- any record, by its kind
module _ (what : Record) (w u : List ℤ) where
  pub record-job : (r : Job) → what ≡ R.Job r → u ≡ laid 5 (pos r.first ∷ pos r.second ∷ []) w → u ≡ laid 5 (value_words what) w
  unfolding value_words
  record-job r e q = q ∙ rw e

  pub record-project : (r : Project) → what ≡ R.Project r → u ≡ laid 5 (project_words r) w → u ≡ laid 5 (value_words what) w
  unfolding value_words
  record-project r e q = q ∙ rw e

  pub record-occupation : (r : Occupation) → what ≡ R.Occupation r → u ≡ laid 5 (occupation_words r) w → u ≡ laid 5 (value_words what) w
  unfolding value_words
  record-occupation r e q = q ∙ rw e

  pub record-measurement : (r : Measurement) → what ≡ R.Measurement r → u ≡ laid 5 (measurement_words r) w → u ≡ laid 5 (value_words what) w
  unfolding value_words
  record-measurement r e q = q ∙ rw e

  pub record-instrument : (r : Instrument) → what ≡ R.Instrument r → u ≡ laid 5 (pos r.instrument ∷ pos r.equipment ∷ []) w → u ≡ laid 5 (value_words what) w
  unfolding value_words
  record-instrument r e q = q ∙ rw e

  pub record-antenna : (r : Antenna) → what ≡ R.Antenna r → u ≡ laid 5 (pos r.antenna ∷ four_words r.radome) w → u ≡ laid 5 (value_words what) w
  unfolding value_words
  record-antenna r e q = q ∙ rw e

  pub record-point : (r : Point) → what ≡ R.Point r → u ≡ laid 5 (point_words r) w → u ≡ laid 5 (value_words what) w
  unfolding value_words
  record-point r e q = q ∙ rw e

  pub record-heights : (r : Heights) → what ≡ R.Heights r → u ≡ laid 5 (heights_words r) w → u ≡ laid 5 (value_words what) w
  unfolding value_words
  record-heights r e q = q ∙ rw e

  pub record-network : (r : Network) → what ≡ R.Network r → u ≡ laid 5 (network_words r) w → u ≡ laid 5 (value_words what) w
  unfolding value_words
  record-network r e q = q ∙ rw e

  pub record-local : (r : Local) → what ≡ R.Local r → u ≡ laid 5 (local_words r) w → u ≡ laid 5 (value_words what) w
  unfolding value_words
  record-local r e q = q ∙ rw e

  pub record-factor : (r : Factor) → what ≡ R.Factor r → u ≡ laid 5 (pos r.horizontal ∷ pos r.vertical ∷ []) w → u ≡ laid 5 (value_words what) w
  unfolding value_words
  record-factor r e q = q ∙ rw e

-- the standard deviations of a record that was read
three_held : (a b c : ℕ) → all (λ n. n ≤? 999_999_999) (a ∷ b ∷ c ∷ []) ≡ true → (a ≤ 999_999_999) × (b ≤ 999_999_999) × (c ≤ 999_999_999)
unfolding all
three_held a b c h = (to≤ (both h).0, to≤ (both (both h).1).0, to≤ (both (both (both h).1).1).0)

module _ (what : Record) (h : in_range what ≡ true) where
  pub network_held : (r : Network) → what ≡ R.Network r → (r.north ≤ 999_999_999) × (r.east ≤ 999_999_999) × (r.ellipsoid ≤ 999_999_999)
  unfolding in_range deviations_of
  network_held r e = three_held r.north r.east r.ellipsoid (rw e at h)

  pub local_held : (r : Local) → what ≡ R.Local r → (r.north ≤ 999_999_999) × (r.east ≤ 999_999_999) × (r.ellipsoid ≤ 999_999_999)
  unfolding in_range deviations_of
  local_held r e = three_held r.north r.east r.ellipsoid (rw e at h)

-- a kind with texts only has no words
module _ (what : Record) (w : List ℤ) where
  pub record-title : (r : Title) → what ≡ R.Title r → w ≡ laid 5 (value_words what) w
  unfolding value_words laid
  record-title r e = rw e

  pub record-continuation : (r : Continuation) → what ≡ R.Continuation r → w ≡ laid 5 (value_words what) w
  unfolding value_words laid
  record-continuation r e = rw e

  pub record-comment : (r : Comment) → what ≡ R.Comment r → w ≡ laid 5 (value_words what) w
  unfolding value_words laid
  record-comment r e = rw e

-- ---- the whole answer
pub words-read : (s : Option ℕ) (r : Record) → laid 3 (pos (kind_number r) ∷ sequence_word s ∷ value_words r) (replicate 32 (pos 0)) ≡ read_words (Ok (s, r))
unfolding laid read_words padded value_words project_words occupation_words measurement_words point_words heights_words heights_first network_words local_words two_words three_words four_words media_words
words-read s (R.Job r) = refl
words-read s (R.Title r) = refl
words-read s (R.Continuation r) = refl
words-read s (R.Project r) = refl
words-read s (R.Occupation r) = refl
words-read s (R.Comment r) = refl
words-read s (R.Measurement r) = refl
words-read s (R.Instrument r) = refl
words-read s (R.Antenna r) = refl
words-read s (R.Point r) = refl
words-read s (R.Heights r) = refl
words-read s (R.Network r) = refl
words-read s (R.Local r) = refl
words-read s (R.Factor r) = refl

module _ (x : Result (Option ℕ × Record) Fault) (w u : List ℤ) (zeros : w ≡ replicate 32 (pos 0)) where
  pub answer_read : (s : Option ℕ) (r : Record) → x ≡ Ok (s, r) → u ≡ laid 3 (pos (kind_number r) ∷ sequence_word s ∷ value_words r) w → u ≡ read_words x
  answer_read s r e q = q ∙ rw (zeros, e) (words-read s r)

  pub answer_unread : (f : Fault) → x ≡ Err f → u ≡ laid 0 (pos f.number ∷ pos f.«record» ∷ pos f.column ∷ negsuc 0 ∷ []) w → u ≡ read_words x
  unfolding laid read_words padded
  answer_unread f e q = q ∙ rw (zeros, e)

pub told_small : (x : Result (Option ℕ × Record) Fault) (f : Fault) → Told x → x ≡ Err f → Small f
told_small x f t e = t.small f e

pub told_held : (x : Result (Option ℕ × Record) Fault) (s : Option ℕ) (r : Record) → Told x → x ≡ Ok (s, r) → in_range r ≡ true
told_held x s r t e = t.held s r e

pub read_answer : (old : List ℤ) → 32 ≤ length old → (v w : Result (Option ℕ × Record) Fault) → v ≡ w → (u : List ℤ) → u ≡ read_words v → u ++ drop 32 old ≡ answered 32 (read_words w) old
read_answer old h v w e u q = long_answer 32 old h u (read_words w) (q ∙ ap read_words e)
