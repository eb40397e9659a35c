-- The calls: one law for each way through them, and what their promises say by themselves.
use mathlib.Core.Path.{◌≡◌, refl, sym, ◌∙◌, ap}
use mathlib.Core.Bool.{Bool, true, false, not, ◌&&◌, not-not}
use mathlib.Core.List.{List, []}
use Prim.Native.Nat.{ℕ, ◌+◌, ◌-◌, ◌*◌, ◌≤◌, ◌<◌}
use native.Mathlib.Omega.{arith}
use lib.Dec.{leb}
use lib.ListN.{length, take, drop, get_or}
use Rattle.std.specs.Prelude.{Result, Ok, Err, is_err, Option}
use Rattle.rules.specs.Tests.{◌&◌, ◌≤?◌, ◌=?◌, within}
use Rattle.rules.specs.Items.{value_of}
use Rattle.rules.specs.Fields.{Verdict, ok, fault, is_ok}
use Rattle.rules.specs.Layouts.{layouts, kept, layout}
use Rattle.rules.specs.Kinds.{kind_of, known}
use Rattle.rules.specs.Records.{sequence, code_at, read_line, meaning, formed_line}
use Rattle.rules.specs.Files.{line_at, begun}
use Rattle.rules.specs.Calls.{read_as, read_of, is_read, field_width, width_asked, field_offset, field_of}
use Rattle.rules.specs.Chapter4.{chapter4}
use Rattle.rules.proofs.Truth.{both, to≤, of≢, cases, to_within, above_0}
use Rattle.rules.proofs.RecordLaws.{read_line_splits, line_long}
use Rattle.rules.proofs.Chapter4Laws.{layout-covers}
use Rattle.rules.proofs.FileLaws.{reaches}
use Rattle.kinds.specs.declared.Record.{Record}
use Rattle.kinds.specs.declared.Flaw.{Flaw}
use Rattle.kinds.specs.declared.Fault.{Fault}
use Rattle.kinds.specs.declared.Kind.{Kind}
use Rattle.kinds.specs.Values.{judged_of, record_of, reading_of, kind_index, kind_in}
use Rattle.kinds.proofs.KindLaws.{is_some, some_kind}
use Rattle.kinds.proofs.ValueLaws.{good_is, bad_is}
use Rattle.columns.proofs.Loops.{&_is}
use Rattle.reading.specs.Values.{record_in}
use Rattle.reading.specs.Widths.{width_in}
use Rattle.reading.proofs.WidthLaws.{field_inside}
use Rattle.std.specs.Prelude.{Option, Some, IsSome}
use Rattle.columns.specs.Types.{count_of}

pub there_is : (r n : ℕ) → ((leb 1 r && leb r 99_999) && leb r n) ≡ within 1 99_999 r & r ≤? n
unfolding within ◌≤?◌
there_is r n = sym (&_is (leb 1 r && leb r 99_999) (leb r n)) ∙ ap (λ t. t & leb r n) (sym (&_is (leb 1 r) (leb r 99_999)))

-- ---- a line that reads has a known code
module _ (l : List ℕ) (h : is_ok (read_line chapter4 l) ≡ true) where
  formed : formed_line chapter4 l ≡ true
  formed = (both (sym (read_line_splits chapter4 l) ∙ h)).0

  reads_kind : kind_of (code_at l) < 14
  unfolding formed_line known
  reads_kind = omega (arith, to≤ (both (both (both formed).0).0).1)

  reads_long : 80 < length l
  reads_long = line_long chapter4 l formed

good_ok : (v : Verdict) → judged_of v ≡ Ok tt → is_ok v ≡ true
good_ok v e = ap is_ok (good_is v e) ∙ (unfold is_ok in refl)

pub kind_known : (l : List ℕ) (j : Result (Unit {0}) Flaw) → j ≡ judged_of (read_line chapter4 l) → j ≡ Ok tt → (r : Option Kind) → kind_in r ≡ kind_of (code_at l) → IsSome r
kind_known l j p q r z = is_some r _ z (reads_kind l (good_ok (read_line chapter4 l) (sym p ∙ q)))

-- ---- read
module _ (l : List ℕ) (n : ℕ) (j : Result (Unit {0}) Flaw) (p : j ≡ judged_of (read_line chapter4 l)) where
  pub line_refused : (w : Flaw) → j ≡ Err w → {x : Fault} → x ≡ record { number = w.number; «record» = n; column = w.column } → Err x ≡ reading_of (read_as n l (read_line chapter4 l))
  unfolding read_as reading_of
  line_refused w q z = rw (z, bad_is (read_line chapter4 l) w (sym p ∙ q))

  pub line_values : j ≡ Ok tt → (o : Option Kind) → kind_in o ≡ kind_of (code_at l) → (k : Kind) → o ≡ Some k → (s : Option ℕ) → s ≡ count_of (value_of sequence (take 6 l)) → (r : Record) → r ≡ record_in (kind_index k) l
      → Ok (s, r) ≡ reading_of (read_as n l (read_line chapter4 l))
  unfolding read_as reading_of record_of record_in meaning layout
  line_values q o z k h s x r y = rw (good_is (read_line chapter4 l) (sym p ∙ q), x, y, some_kind o k _ z h)

module _ (f : List ℕ) (n : ℕ) (t : Bool) (e : t ≡ within 1 99_999 n & n ≤? begun f) where
  pub read_none : t ≡ false → {x : Fault} → x ≡ record { number = 13; «record» = n; column = 0 } → Err x ≡ reading_of (read_of f n)
  unfolding read_of reading_of
  read_none h z = rw (z, sym e ∙ h)

  pub read_there : t ≡ true → (l : List ℕ) → l ≡ line_at f (n - 1) → {r : Result (Option ℕ × Record) Fault} → r ≡ reading_of (read_as n l (read_line chapter4 l)) → r ≡ reading_of (read_of f n)
  unfolding read_of
  read_there h l z x = x ∙ sym (rw (sym e ∙ h, z))

  pub there_low : t ≡ true → 1 ≤ n
  there_low h = (to_within (both (sym e ∙ h)).0).0

-- ---- field
read_ok : (n : ℕ) (l : List ℕ) (v : Verdict) → is_read (read_as n l v) ≡ is_ok v
unfolding is_read read_as is_ok
read_ok n l ok = refl
read_ok n l (fault m c) = refl

err_is : (v : Verdict) → is_err (judged_of v) ≡ not (is_ok v)
unfolding judged_of is_ok
err_is ok = refl
err_is (fault m c) = refl

module _ (l : List ℕ) (c : ℕ) (j : Result (Unit {0}) Flaw) (p : j ≡ judged_of (read_line chapter4 l)) where
  bad : (t : Bool) → t ≡ is_err j → not t ≡ is_ok (read_line chapter4 l)
  bad t e = ap not (e ∙ ap is_err p ∙ err_is (read_line chapter4 l)) ∙ not-not (is_ok (read_line chapter4 l))

  pub width_none : (t : Bool) → t ≡ is_err j → t ≡ true → 0 ≡ width_in l c
  unfolding width_in
  width_none t e h = rw (sym (bad t e) ∙ ap not h)

  pub width_some : (t : Bool) → t ≡ is_err j → t ≡ false → (o : Option Kind) → kind_in o ≡ kind_of (code_at l) → (k : Kind) → o ≡ Some k → (w : ℕ) → w ≡ field_width c (get_or layouts (kind_index k) kept) → w ≡ width_in l c
  unfolding width_in layout
  width_some t e h o z k q w x = x ∙ sym (rw (sym (bad t e) ∙ ap not h, ← some_kind o k _ z q))

  pub width_kind : (t : Bool) → t ≡ is_err j → t ≡ false → (r : Option Kind) → kind_in r ≡ kind_of (code_at l) → IsSome r
  width_kind t e h r z = is_some r _ z (reads_kind l (sym (bad t e) ∙ ap not h))

module _ (f : List ℕ) (n c : ℕ) where
  -- by the record's line, or by there being none
  asked_in : within 1 99_999 n & n ≤? begun f ≡ true → width_asked f n c ≡ width_in (line_at f (n - 1)) c
  unfolding width_asked width_in read_of
  asked_in h = rw (h, read_ok n (line_at f (n - 1)) (read_line chapter4 (line_at f (n - 1))))

  asked_out : within 1 99_999 n & n ≤? begun f ≡ false → width_asked f n c ≡ 0
  unfolding width_asked read_of is_read
  asked_out h = rw h

  pub asked_none : (t : Bool) → t ≡ within 1 99_999 n & n ≤? begun f → t ≡ false → 0 ≡ width_asked f n c
  asked_none t e h = sym (asked_out (sym e ∙ h))

  pub asked_there : (t : Bool) → t ≡ within 1 99_999 n & n ≤? begun f → t ≡ true → (l : List ℕ) → l ≡ line_at f (n - 1) → {w : ℕ} → w ≡ width_in l c → w ≡ width_asked f n c
  asked_there t e h l z x = x ∙ ap (λ k. width_in k c) z ∙ sym (asked_in (sym e ∙ h))

-- a field that is there lies inside the file
width-inside : (l : List ℕ) (c : ℕ) → 1 ≤ width_in l c → (80 < length l) × (11 ≤ c) × (c + width_in l c ≤ 81)
unfolding width_in
width-inside l c h =
    cases (is_ok (read_line chapter4 l))
    (λ e. let k = field_inside c 11 (layout (code_at l)) (layout-covers (code_at l)) (rw e at h) in (reads_long l e, k.0, rw e k.1))
    (λ e. absurd (omega (arith, rw e at h)))

pub inside : (f : List ℕ) (n c : ℕ) → 1 ≤ width_asked f n c → (1 ≤ n) × (11 ≤ c) × (c ≤ 80) × (81 * (n - 1) + (c - 1) + width_asked f n c ≤ length f)
inside f n c h =
    cases (within 1 99_999 n & n ≤? begun f)
    (λ e.
    let same : width_asked f n c ≡ width_in (line_at f (n - 1)) c = asked_in f n c e in
    let k = width-inside (line_at f (n - 1)) c (rw same at h) in
    let far : 80 < length f - 81 * (n - 1) = reaches f (n - 1) k.0 in
    ((to_within (both e).0).0, k.1, omega (arith, k.2, h, same), omega (arith, k.2, k.1, same)))
    (λ e. absurd (omega (arith, asked_out f n c e)))

module _ (f : List ℕ) (n c w : ℕ) (e : w ≡ width_asked f n c) where
  pub room : (w ≡ 0 → ⊥) → (1 ≤ n) × (11 ≤ c) × (c ≤ 80) × (81 * (n - 1) + (c - 1) + w ≤ length f)
  room h = let k = inside f n c (above_0 (width_asked f n c) (λ z. h (e ∙ z))) in (k.0, k.1, k.2, rw e k.3)

  pub empty_contents : w ≡ 0 → [] ≡ field_of f n c
  unfolding field_of
  empty_contents z = rw (sym e ∙ z)

  pub empty_offset : w ≡ 0 → 0 ≡ field_offset f n c
  unfolding field_offset
  empty_offset z = rw (sym e ∙ z) (unfold ◌=?◌ in refl)

  pub some_offset : (w ≡ 0 → ⊥) → 81 * (n - 1) + (c - 1) ≡ field_offset f n c
  unfolding field_offset
  some_offset h = rw (of≢ {m = width_asked f n c} {n = 0} (λ z. h (e ∙ z)))

  pub some_contents : (w ≡ 0 → ⊥) → (k : ℕ) → k ≡ w → take k (drop (81 * (n - 1) + (c - 1)) f) ≡ field_of f n c
  unfolding field_of
  some_contents h k z = rw (z, e, some_offset h)
