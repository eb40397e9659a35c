-- A word that no field holds makes shelf_write answer 9 at that field: of every kind and every word, unless something to the left is wrong.
use mathlib.Core.Path.{◌≡◌, refl, sym, ◌∙◌, ap}
use mathlib.Core.Bool.{Bool, true, false, cond, not, false≢true}
use mathlib.Core.List.{List, [], ◌∷◌}
use Prim.Native.Nat.{ℕ, zero, suc, ◌+◌, ◌≤◌, ◌<◌}
use native.Mathlib.Omega.{arith}
use lib.ListN.{length, get_or, take, drop}
use lib.IntN.{ℤ, pos, negsuc}
use Rattle.rules.specs.Tests.{◌&◌, ◌≤?◌, ◌=?◌, within, all}
use Rattle.rules.specs.Characters.{is_printable, is_blank, member}
use Rattle.rules.specs.Items.{Value, Way, width, gap, num, text, Item, blank, constant, number, height, angle, month, media, word, Test, each, or_blank, passes, is_media, on_text, on_label, fits}
use Rattle.rules.specs.Fields.{Field, Expect, anything, Verdict, ok, fault, check, ◌⨾◌, is_ok, Entry, given, entries_of, agrees, judge_each, judge, covers}
use Rattle.rules.specs.Records.{Meaning, sequence, told, of_kind, judge_given}
use Rattle.rules.specs.Kinds.{kind_of, known}
use Rattle.rules.specs.Layouts.{kept, layouts, layout}
use Rattle.rules.specs.Calls.{write_verdict, write_output}
use Rattle.rules.specs.Chapter4.{chapter4}
use Rattle.rules.proofs.Truth.{both, to≤, to≡, no≤, of>, of≤, cases, not_true, all_get_d, and_false}
use Rattle.rules.proofs.FieldLaws.{⨾_assoc}
use Rattle.rules.proofs.Chapter4Laws.{layout-covers}
use Rattle.columns.specs.Types.{height_value, media_value, four_of, count_value}
use Rattle.kinds.specs.declared.Record.TheVariants as R
use Rattle.kinds.specs.Values.{two_text, three_text, kind_number, code_of, values_of, meaning_of, written_of}
use Rattle.kinds.proofs.ValueLaws.{code_kind}
use Rattle.kinds.proofs.TableLaws.{each_kind}
use Rattle.answers.specs.Answers.{answered, touched, fault_words, fault_in}
use Rattle.answers.specs.Given.{word_at, held_or, signed_of, is_least, height_of, sequence_of, character_at, number_at, two_at, three_at, four_at, media_at, project_given, occupation_given, measurement_given, point_given, heights_given, network_given, local_given, records_given, record_given, written_words}
use Rattle.answers.specs.Given as words
use Rattle.answers.specs.Held.{word_count, no_field, word_from, is_held, holds_number, holds_sequence, holds_signed, holds_characters, holds, left_of_code, left_of_field}
use Rattle.answers.specs.Promise.{words_verdict, words_output, Writes}
use Rattle.export.proofs.GivenLaws.{word_lacking, given_none}
use Rattle.export.proofs.Unheld.{refuses, layouts-refuse, kept_refuses, sequence_refuses, media_maker, media_day, media_year, media_session, first_unknown, second_unknown}

-- ---- one word that its type does not hold
held_other : (most other : ℕ) (z : ℤ) → is_held most z ≡ false → held_or most other z ≡ other
unfolding is_held held_or
held_other most other (pos n) h = rw h
held_other most other (negsuc n) h = refl

far_other : (z : ℤ) → holds_signed z ≡ false → signed_of z ≡ pos 100_000_000
unfolding holds_signed signed_of
far_other (pos n) h = rw h
far_other (negsuc n) h = rw h

least_far : (z : ℤ) → is_least z ≡ true → holds_signed z ≡ false
unfolding is_least holds_signed
least_far (pos n) h = absurd (false≢true h)
least_far (negsuc n) h = of> (omega (arith, to≡ h))

-- of two tests one fails
one_fails : (a b : Bool) → a & b ≡ false → (P : Type 0) → (a ≡ false → P) → (b ≡ false → P) → P
unfolding ◌&◌
one_fails true b h P f g = g h
one_fails false b h P f g = f refl

-- ---- the value that a field is taken to have, from its words or from the texts that are left
unfoldable characters : ℕ → List ℤ → ℕ → List ℕ
characters zero ws p = []
characters (suc w) ws p = character_at ws p ∷ characters w ws (p + 1)

unfoldable taken_as : Item → List ℤ → ℕ → List (List ℕ) → Value
taken_as (blank w) ws p ts = gap
taken_as (constant c) ws p ts = gap
taken_as (number w lo hi may) ws p ts = num (pos (number_at ws p))
taken_as (height w lo hi may) ws p ts = cond may (height_value (height_of (word_at ws p))) (num (signed_of (word_at ws p)))
taken_as (angle way) ws p ts = num (word_at ws p)
taken_as month ws p ts = num (pos (number_at ws p))
taken_as media ws p ts = media_value (media_at ws p)
taken_as (word w t) ws p ts = text (cond (w ≤? 4) (characters w ws p) (get_or ts 0 []))

unfoldable texts_after : Item → List (List ℕ) → List (List ℕ)
texts_after (blank w) ts = ts
texts_after (constant c) ts = ts
texts_after (number w lo hi may) ts = ts
texts_after (height w lo hi may) ts = ts
texts_after (angle way) ts = ts
texts_after month ts = ts
texts_after media ts = ts
texts_after (word w t) ts = cond (w ≤? 4) ts (drop 1 ts)

unfoldable all_taken : List Field → List ℤ → ℕ → List (List ℕ) → List Value
all_taken [] ws p ts = []
all_taken (f ∷ fs) ws p ts = taken_as f.item ws p ts ∷ all_taken fs ws (p + word_count f.item) (texts_after f.item ts)

abbrev Taken : List ℤ → (x y z : List ℕ) → ℕ → Type 0
Taken ws x y z k = values_of (record_given k ws) x y z ≡ all_taken (get_or layouts k kept) ws 2 (x ∷ y ∷ z ∷ [])

values_taken : (ws : List ℤ) (x y z : List ℕ) (k : ℕ) → k < 14 → Taken ws x y z k
unfolding record_given records_given project_given occupation_given measurement_given point_given heights_given network_given local_given two_at three_at four_at values_of two_text three_text four_of all_taken taken_as texts_after characters word_count layouts ◌≤?◌
values_taken ws x y z = each_kind (Taken ws x y z) refl refl refl refl refl refl refl refl refl refl refl refl refl refl

kind_taken : (ws : List ℤ) (k : ℕ) → k < 14 → kind_number (record_given k ws) ≡ k
unfolding record_given records_given kind_number
kind_taken ws = each_kind (λ k. kind_number (record_given k ws) ≡ k) refl refl refl refl refl refl refl refl refl refl refl refl refl refl

-- ---- what is not held is taken for a value that does not fit
module _ (ws : List ℤ) where
  none_of : (test : ℕ → Bool) → test 0 ≡ false → (w p : ℕ) → holds_characters w ws p ≡ false → all test (characters w ws p) ≡ false
  unfolding holds_characters characters all
  none_of test e zero p h = absurd (false≢true (sym h))
  none_of test e (suc w) p h =
      one_fails (is_held 255 (word_at ws p)) (holds_characters w ws (p + 1)) h _
      (λ a. rw (held_other 255 0 (word_at ws p) a, e) (unfold ◌&◌ in refl))
      (λ b. rw (none_of test e w (p + 1) b) (and_false (test (character_at ws p))))

  no_text : (w : ℕ) (t : Test) (p : ℕ) → refuses (word w t) ≡ true → holds_characters w ws p ≡ false → passes t (characters w ws p) ≡ false
  unfolding refuses passes
  no_text w (each s) p r h = none_of (member s) (not_true _ r) w p h
  no_text w (or_blank s) p r h =
      let e : is_blank 0 ≡ false = unfold is_blank ◌=?◌ in refl in
      rw (none_of is_blank e w p h, none_of (member s) (not_true _ r) w p h)

  four_characters : (p : ℕ) → four_of (four_at ws p) ≡ characters 4 ws p
  unfolding four_of four_at characters
  four_characters p =
      let two : p + 1 + 1 ≡ p + 2 = omega arith in
      let three : p + 2 + 1 ≡ p + 3 = omega arith in
      rw (two, three)

  no_mark : (p : ℕ) → holds_characters 4 ws p ≡ false → all is_printable (four_of (four_at ws p)) ≡ false
  no_mark p h = let e : is_printable 0 ≡ false = unfold is_printable within ◌&◌ ◌≤?◌ in refl in rw (four_characters p) (none_of is_printable e 4 p h)

  media-mark : (p a b c d : ℕ) → holds_characters 4 ws p ≡ false → is_media a b c d (four_of (four_at ws p)) ≡ false
  unfolding is_media
  media-mark p a b c d h = rw (no_mark p h, and_false (length (four_of (four_at ws p)) =? 4)) (and_false _)

  no_media : (p : ℕ) → holds media ws p ≡ false → fits media (media_value (media_at ws p)) ≡ false
  unfolding holds fits on_label media_value media_at
  no_media p h =
      one_fails (is_held 255 (word_at ws p)) _ h _
      (λ a. rw (held_other 255 0 (word_at ws p) a) (media_maker 0 _ _ _ _))
      (λ h. one_fails (holds_number ws (p + 1)) _ h _
      (λ a. rw (held_other 4_294_967_294 4_294_967_295 (word_at ws (p + 1)) (unfold holds_number in a)) (media_day _ 0 _ _ _))
      (λ h. one_fails (is_held 9 (word_at ws (p + 2))) _ h _
      (λ a. rw (held_other 9 10 (word_at ws (p + 2)) a) (media_year _ _ 0 _ _))
      (λ h. one_fails (is_held 255 (word_at ws (p + 3))) _ h _
      (λ a. rw (held_other 255 0 (word_at ws (p + 3)) a) (media_session _ _ _ 0 _))
      (λ h. media-mark (p + 4) _ _ _ _ h))))

  no_height : (w lo hi : ℕ) (may : Bool) (p : ℕ) (ts : List (List ℕ)) → refuses (height w lo hi may) ≡ true → holds (height w lo hi may) ws p ≡ false → fits (height w lo hi may) (taken_as (height w lo hi may) ws p ts) ≡ false
  unfolding refuses holds taken_as height_of
  no_height w lo hi true p ts r h =
      cases (is_least (word_at ws p))
      (λ e. absurd (false≢true (sym (rw e at h))))
      (λ e. rw (e, far_other (word_at ws p) (rw e at h)) (unfold height_value in not_true _ r))
  no_height w lo hi false p ts r h =
      cases (is_least (word_at ws p))
      (λ e. rw (far_other (word_at ws p) (least_far (word_at ws p) e)) (not_true _ r))
      (λ e. rw (far_other (word_at ws p) (rw e at h)) (not_true _ r))

  no_number : (i : Item) (p : ℕ) → not (fits i (num (pos 4_294_967_295))) ≡ true → holds_number ws p ≡ false → fits i (num (pos (number_at ws p))) ≡ false
  unfolding holds_number
  no_number i p r h = rw (held_other 4_294_967_294 4_294_967_295 (word_at ws p) h) (not_true _ r)

  no_angle : (way : Way) (p : ℕ) (ts : List (List ℕ)) → refuses (angle way) ≡ true → holds (angle way) ws p ≡ false → fits (angle way) (taken_as (angle way) ws p ts) ≡ false
  unfolding refuses holds taken_as
  no_angle way p ts r h = let lacks : length ws ≤ p = omega (arith, no≤ h) in rw (← word_lacking ws p lacks) (not_true _ r)

  no_word : (w : ℕ) (t : Test) (p : ℕ) (ts : List (List ℕ)) → refuses (word w t) ≡ true → holds (word w t) ws p ≡ false → fits (word w t) (taken_as (word w t) ws p ts) ≡ false
  unfolding holds taken_as fits on_text
  no_word w t p ts r h = cases (w ≤? 4) (λ e. rw (e, no_text w t p r (rw e at h)) (and_false _)) (λ e. absurd (false≢true (sym (rw e at h))))

  not_fitting : (i : Item) (p : ℕ) (ts : List (List ℕ)) → refuses i ≡ true → holds i ws p ≡ false → fits i (taken_as i ws p ts) ≡ false
  not_fitting (blank w) p ts r h = absurd (false≢true (sym (unfold holds in h)))
  not_fitting (constant c) p ts r h = absurd (false≢true (sym (unfold holds in h)))
  not_fitting (number w lo hi may) p ts r h = unfold taken_as in no_number (number w lo hi may) p (unfold refuses in r) (unfold holds in h)
  not_fitting (height w lo hi may) p ts r h = no_height w lo hi may p ts r h
  not_fitting (angle way) p ts r h = no_angle way p ts r h
  not_fitting month p ts r h = unfold taken_as in no_number month p (unfold refuses in r) (unfold holds in h)
  not_fitting media p ts r h = unfold taken_as in no_media p h
  not_fitting (word w t) p ts r h = no_word w t p ts r h

-- ---- the first fault from the left is there or before
stops_here : (e : Expect) (xs : List Entry) (y : Entry) (ys : List Entry) → y.formed ≡ false → y.spot ≡ 0 → judge_each e xs (y ∷ ys) ≡ fault 9 y.column
unfolding judge_each check ◌⨾◌
stops_here e xs y ys h s = let none : y.column + 0 ≡ y.column = omega arith in rw (h, s, none)

stops_later : (e : Expect) (xs : List Entry) (y : Entry) (ys zs : List Entry) (v : Verdict) → judge_each e xs ys ≡ judge_each e xs zs ⨾ v → judge_each e xs (y ∷ ys) ≡ judge_each e xs (y ∷ zs) ⨾ v
unfolding judge_each
stops_later e xs y ys zs v h =
    rw h (sym (⨾_assoc (check y.formed 9 (y.column + y.spot)) _ v ∙ ap (λ u. check y.formed 9 (y.column + y.spot) ⨾ u) (⨾_assoc (check (agrees e xs y) 10 y.column) _ v)))

stops : (xs : List Entry) (fs : List Field) (ws : List ℤ) (p : ℕ) (ts : List (List ℕ)) (i : ℕ) → i < length fs → all (λ f. refuses f.item) fs ≡ true
    → holds (get_or fs i no_field).item ws (word_from p i fs) ≡ false
    → judge_each anything xs (entries_of fs (all_taken fs ws p ts)) ≡ judge_each anything xs (take i (entries_of fs (all_taken fs ws p ts))) ⨾ fault 9 (get_or fs i no_field).from
unfolding word_from all_taken entries_of all
stops xs [] ws p ts i l r h = absurd (omega (arith, l))
stops xs (f ∷ fs) ws p ts zero l r h =
    stops_here anything xs (given f (taken_as f.item ws p ts)) _ (unfold given in not_fitting ws f.item p ts (both r).0 h) (unfold given in refl)
    ∙ (unfold judge_each ◌⨾◌ given in refl)
stops xs (f ∷ fs) ws p ts (suc i) l r h =
    stops_later anything xs (given f (taken_as f.item ws p ts)) _ _ _
    (stops xs fs ws (p + word_count f.item) (texts_after f.item ts) i (omega (arith, l)) (both r).1 h)

-- ---- and at no later column
unfoldable under : ℕ → Verdict → Bool
under b ok = true
under b (fault n c) = c ≤? b

under_then : (b : ℕ) (u v : Verdict) → under b u ≡ true → under b v ≡ true → under b (u ⨾ v) ≡ true
unfolding under ◌⨾◌
under_then b ok v h k = k
under_then b (fault n c) v h k = h

under_check : (b : ℕ) (t : Bool) (n c : ℕ) → c ≤ b → under b (check t n c) ≡ true
unfolding under check
under_check b true n c h = refl
under_check b false n c h = of≤ h

ok_under : (b : ℕ) → under b ok ≡ true
unfolding under
ok_under b = refl

fault_under : (b n c : ℕ) → c ≤ b → under b (fault n c) ≡ true
unfolding under
fault_under b n c h = of≤ h

none_under : (xs : List Entry) (b : ℕ) → under b (judge_each anything xs []) ≡ true
unfolding judge_each
none_under xs b = ok_under b

one_under : (xs : List Entry) (f : Field) (v : Value) (ys : List Entry) (b : ℕ) → f.from ≤ b → under b (judge_each anything xs ys) ≡ true → under b (judge_each anything xs (given f v ∷ ys)) ≡ true
unfolding judge_each given
one_under xs f v ys b h k =
    let far : f.from + 0 ≤ b = omega (arith, h) in
    under_then b (check (fits f.item v) 9 (f.from + 0)) _ (under_check b (fits f.item v) 9 (f.from + 0) far)
    (under_then b (check (agrees anything xs (given f v)) 10 f.from) _ (under_check b (agrees anything xs (given f v)) 10 f.from h) k)

left_under : (xs : List Entry) (fs : List Field) (vs : List Value) (i c : ℕ) → covers c fs ≡ true → i < length fs
    → (c ≤ (get_or fs i no_field).from) × (under (get_or fs i no_field).from (judge_each anything xs (take i (entries_of fs vs))) ≡ true)
unfolding covers entries_of
left_under xs [] vs i c h l = absurd (omega (arith, l))
left_under xs (f ∷ fs) vs zero c h l = (omega (arith, to≡ (both (both h).0).0), none_under xs f.from)
left_under xs (f ∷ fs) [] (suc i) c h l =
    let rest = left_under xs fs [] i (c + width f.item) (both h).1 (omega (arith, l)) in (omega (arith, rest.0), none_under xs (get_or fs i no_field).from)
left_under xs (f ∷ fs) (v ∷ vs) (suc i) c h l =
    let rest = left_under xs fs vs i (c + width f.item) (both h).1 (omega (arith, l)) in
    (omega (arith, rest.0), one_under xs f v _ _ (omega (arith, rest.0, to≡ (both (both h).0).0)) rest.1)

under_fault : (b : ℕ) (v : Verdict) (n c : ℕ) → under b v ≡ true → v ≡ fault n c → c ≤ b
unfolding under
under_fault b v n c h e = to≤ (rw e at h)

-- ---- the whole verdict
module _ (room : ℕ) (ws : List ℤ) (x y z : List ℕ) where
  abbrev whole : Meaning
  whole = meaning_of (words.given ws) x y z

  sequence_other : (z : ℤ) → holds_sequence z ≡ false → count_value (sequence_of z) ≡ num (pos 4_294_967_295)
  unfolding holds_sequence sequence_of count_value held_or
  sequence_other (pos n) h = rw h
  sequence_other (negsuc n) h = rw h

  -- the sequence number, at column 1
  pub sequence_refused : holds_sequence (word_at ws 1) ≡ false → words_verdict room ws x y z ≡ check (81 ≤? room) 1 0 ⨾ fault 9 1
  unfolding words_verdict write_verdict judge_given
  sequence_refused h =
      let e : fits sequence (num (pos 4_294_967_295)) ≡ false = unfold sequence in not_true _ (unfold sequence refuses in sequence_refuses) in
      rw (sequence_other (word_at ws 1) h, e) (unfold check ◌⨾◌ in refl)

  parted : words_verdict room ws x y z ≡ left_of_code room ws ⨾ (check (of_kind chapter4 (kind_number (words.given ws)) whole) 9 7 ⨾ judge anything (told chapter4 whole))
  unfolding words_verdict write_verdict judge_given left_of_code
  parted = sym (⨾_assoc _ _ _)

  -- the kind and the characters of a job code, at column 7
  code-refused : known (code_of (words.given ws)) ≡ false → words_verdict room ws x y z ≡ left_of_code room ws ⨾ fault 9 7
  code-refused h =
      let e : of_kind chapter4 (kind_number (words.given ws)) whole ≡ false = unfold of_kind meaning_of in rw h (unfold ◌&◌ in refl) in
      parted ∙ rw e (unfold check ◌⨾◌ in refl)

  pub kind_refused : 14 ≤ number_at ws 0 → words_verdict room ws x y z ≡ left_of_code room ws ⨾ fault 9 7
  kind_refused h = code-refused (rw (← given_none (number_at ws 0) ws h record { first = 0; second = 0 } refl) (unfold code_of in first_unknown 0))

  pub job_refused : number_at ws 0 ≡ 0 → holds_characters 2 ws 2 ≡ false → words_verdict room ws x y z ≡ left_of_code room ws ⨾ fault 9 7
  unfolding holds_characters
  job_refused k h =
      let e : words.given ws ≡ R.Job record { first = character_at ws 2; second = character_at ws 3 } = rw k (unfold record_given records_given in refl) in
      one_fails (is_held 255 (word_at ws 2)) _ h _
      (λ a. code-refused (rw (e, held_other 255 0 (word_at ws 2) a) (unfold code_of in first_unknown (character_at ws 3))))
      (λ h. one_fails (is_held 255 (word_at ws 3)) _ h _
      (λ a. code-refused (rw (e, held_other 255 0 (word_at ws 3) a) (unfold code_of in second_unknown (character_at ws 2))))
      (λ b. absurd (false≢true (sym b))))

  -- field i of any other kind, at its own column
  module _ (k i : ℕ) (kind : number_at ws 0 ≡ k) (low : 1 ≤ k) (high : k < 14) (there : i < length (get_or layouts k kept)) (bad : holds (get_or (get_or layouts k kept) i no_field).item ws (word_from 2 i (get_or layouts k kept)) ≡ false) where
    own_kind : kind_of (code_of (record_given k ws)) ≡ k
    own_kind = code_kind (record_given k ws) (λ e. absurd (omega (arith, e, kind_taken ws k high, low))) ∙ kind_taken ws k high

    layout_covered : covers 11 (get_or layouts k kept) ≡ true
    unfolding layout
    layout_covered = let h : covers 11 (get_or layouts (kind_of (code_of (record_given k ws))) kept) ≡ true = layout-covers (code_of (record_given k ws)) in rw own_kind at h

    told_is : told chapter4 whole ≡ entries_of (get_or layouts k kept) (all_taken (get_or layouts k kept) ws 2 (x ∷ y ∷ z ∷ []))
    unfolding told meaning_of layout
    told_is = rw (kind, own_kind, values_taken ws x y z k high)

    stopped : judge anything (told chapter4 whole) ≡ judge_each anything (told chapter4 whole) (take i (told chapter4 whole)) ⨾ fault 9 (get_or (get_or layouts k kept) i no_field).from
    unfolding judge
    stopped =
        rw told_is
        (stops _ (get_or layouts k kept) ws 2 (x ∷ y ∷ z ∷ []) i there (all_get_d (λ fs. all (λ f. refuses f.item) fs) layouts kept k layouts-refuse kept_refuses) bad)

    pub field_refused : words_verdict room ws x y z ≡ left_of_field room ws x y z i ⨾ fault 9 (get_or (get_or layouts k kept) i no_field).from
    unfolding left_of_field
    field_refused =
        parted ∙ rw stopped
        (sym (⨾_assoc (left_of_code room ws) _ _ ∙ ap (λ v. left_of_code room ws ⨾ v) (⨾_assoc (check (of_kind chapter4 (kind_number (words.given ws)) whole) 9 7) _ _)))

    low_column : 11 ≤ (get_or (get_or layouts k kept) i no_field).from
    low_column = (left_under [] (get_or layouts k kept) [] i 11 layout_covered there).0

    -- the fault is named there or before
    pub no_later : (n c : ℕ) → words_verdict room ws x y z ≡ fault n c → c ≤ (get_or (get_or layouts k kept) i no_field).from
    unfolding left_of_field left_of_code
    no_later n c e =
        let zero-under : 0 ≤ (get_or (get_or layouts k kept) i no_field).from = omega (arith, low_column) in
        let one_under : 1 ≤ (get_or (get_or layouts k kept) i no_field).from = omega (arith, low_column) in
        let seven-under : 7 ≤ (get_or (get_or layouts k kept) i no_field).from = omega (arith, low_column) in
        let same : (get_or (get_or layouts k kept) i no_field).from ≤ (get_or (get_or layouts k kept) i no_field).from = omega arith in
        under_fault _ _ n c
        (under_then _ _ (fault 9 (get_or (get_or layouts k kept) i no_field).from)
        (under_then _ _ _
        (under_then _ (check (81 ≤? room) 1 0) _ (under_check _ (81 ≤? room) 1 0 zero-under) (under_check _ _ 9 1 one_under))
        (under_then _ _ _ (under_check _ _ 9 7 seven-under) (rw told_is (left_under _ (get_or layouts k kept) _ i 11 layout_covered there).1)))
        (fault_under _ 9 _ same))
        (sym field_refused ∙ e)

-- ---- the answer of the call
refused_stays : (o : List ℕ) (ws : List ℤ) (x y z : List ℕ) (n c : ℕ) → words_verdict (length o) ws x y z ≡ fault n c → words_output ws x y z o ≡ o
unfolding words_verdict words_output write_output
refused_stays o ws x y z n c e = rw e (unfold is_ok in refl)

module _ (o : List ℕ) (ws : List ℤ) (x y z a p b : List ℕ) (w : Writes o ws x y z a p b) (long : 3 ≤ length a) where
  -- a verdict that is what stands to the left, and then 9 at column c: where nothing to the left is wrong, the answer is 9, 0, c, and the output stays
  pub answers_9 : (c : ℕ) (left : Verdict) → words_verdict (length o) ws x y z ≡ left ⨾ fault 9 c → left ≡ ok → (b ≡ 9 ∷ 0 ∷ c ∷ drop 3 a) × (p ≡ o)
  answers_9 c left e fine =
      let v : words_verdict (length o) ws x y z ≡ fault 9 c = e ∙ rw fine (unfold ◌⨾◌ in refl) in
      let told-so : answered 3 (written_words (written_of (fault 9 c))) a ≡ 9 ∷ 0 ∷ c ∷ drop 3 a = unfold answered written_words written_of fault_words fault_in in rw (of≤ long) in
      let stays : words_output ws x y z o ≡ o = refused_stays o ws x y z 9 c v in
      let same : touched 3 a (words_output ws x y z o) o ≡ words_output ws x y z o = unfold touched in rw (of≤ long) in
      (w.answer ∙ rw v told-so, w.out ∙ same ∙ stays)
