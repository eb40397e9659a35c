-- A file is accepted exactly when it is what the paper's tables say, record by record: each test of a record is what the paper says of it where those before it stand.
use mathlib.Core.Path.{◌≡◌, refl, sym, ◌∙◌, ap, ap₂, subst}
use mathlib.Core.Logic.{◌⊎◌, inl, inr, ◌↔◌}
use mathlib.Core.Bool.{true, false, cond, false≢true}
use mathlib.Core.List.{List, [], ◌∷◌, map}
use Prim.Native.Nat.{ℕ, zero, suc, ◌+◌, ◌*◌, ◌≤◌, ◌<◌}
use native.Mathlib.Omega.{arith}
use lib.ListN.{length, take, drop, get_or}
use lib.Seq.{take-length}
use Rattle.rules.specs.Tests.{all, ◌&◌, ◌≤?◌, ◌=?◌}
use Rattle.rules.specs.Characters.{is_printable, any_of}
use Rattle.rules.specs.Items.{value_of, good}
use Rattle.rules.specs.Fields.{expected, Field, Expect, anything, same, not_below, above, check, is_ok, columns_of, read, is_formed, formed, meets, agreeing, num_of}
use Rattle.rules.specs.Records.{Edition, sequence, bytes, code_at, entries, meaning, formed_line, permitted}
use Rattle.rules.specs.Files.{is_accept, line_at, begun, lines, meanings, passed, form_verdict, reference_verdict, verdict, accepted, formed_lines, orderly}
use Rattle.rules.specs.Faults.{before}
use Rattle.rules.specs.Kinds.{kind_of, known, *AA*, *25*, *27*, *70*, *72*, *80*, *86*}
use Rattle.rules.specs.Layouts.{layout}
use Rattle.rules.specs.Order.{may_come, place_named, place_after, ruled, order, goto, nothing, last_job}
use Rattle.rules.specs.References.{number_at}
use Rattle.rules.specs.Chapter4.{Past, at_start, same_bytes, may_stand, expectation, chapter4}
use Rattle.rules.specs.Members.{◌∈◌}
use Rattle.rules.specs.Conforms.{kind_at, record_at, Nearest, Place, Agreed, Stands, Formed, Conforms}
use Rattle.rules.proofs.Truth.{under, tried, all_members, members_all, both, and, to≤, of≤, no≤, to≡, of≡, no≡, of≢, cases, either, below_or_equal}
use Rattle.rules.proofs.SetLaws.{any-member, member-any, printed_in, printed_of}
use Rattle.rules.proofs.SpellLaws.{spelled_iff, code_iff}
use Rattle.rules.proofs.FieldLaws.{is_ok_⨾, is_ok_check}
use Rattle.rules.proofs.RecordLaws.{bytes-length, agreeing_line}
use Rattle.rules.proofs.FileLaws.{then_accept, walk_splits, records, length-take_most, line_at_lem}
use Rattle.rules.proofs.ReferenceLaws.{references_iff}
use Rattle.rules.proofs.Chapter4Laws.{order_is_the_table}
use Rattle.rules.proofs.Keeping.{kept_same, same_kept, past_kept, group_is, point_is, instrument_is, antenna_is, instrument-top, antenna-top, Placed, at_start_lem, place_one, placed, job_is}
use Rattle.rules.proofs.AgreeLaws.{waiting_kinds, lead_of, all_map, agreeing-each, each-agreeing, met, waits_met, number_from_1}

-- ---- bytes
bytes-parts : (n c : ℕ) (l : List ℕ) → is_ok (bytes n c l) ≡ true → (all is_printable (take n l) ≡ true) × (get_or l n 0 ≡ 10)
unfolding bytes is_ok all
bytes-parts zero c [] h = absurd (false≢true h)
bytes-parts zero c (b ∷ bs) h = (refl, to≡ (sym (is_ok_check (b =? 10) 5 c) ∙ h))
bytes-parts (suc n) c [] h = absurd (false≢true h)
bytes-parts (suc n) c (b ∷ bs) h =
    let t = both (sym (is_ok_⨾ (check (is_printable b) 4 c) (bytes n (c + 1) bs)) ∙ h) in
    let rest = bytes-parts n (c + 1) bs t.1 in
    (and (sym (is_ok_check (is_printable b) 4 c) ∙ t.0) rest.0, rest.1)

pub bytes_of : (n c : ℕ) (l : List ℕ) → n < length l → all is_printable (take n l) ≡ true → get_or l n 0 ≡ 10 → is_ok (bytes n c l) ≡ true
unfolding bytes all
bytes_of zero c [] k p q = absurd (omega arith)
bytes_of zero c (b ∷ bs) k p q = is_ok_check (b =? 10) 5 c ∙ of≡ q
bytes_of (suc n) c [] k p q = absurd (omega arith)
bytes_of (suc n) c (b ∷ bs) k p q =
    is_ok_⨾ (check (is_printable b) 4 c) (bytes n (c + 1) bs) ∙ and (is_ok_check (is_printable b) 4 c ∙ (both p).0) (bytes_of n (c + 1) bs (omega arith) (both p).1 q)

-- ---- what may follow what
leads_on : all (λ p. all (λ k. 1 ≤? place_after p k) (under 14)) (under 17) ≡ true
unfolding all under place_after place_named ◌≤?◌ ◌=?◌ ◌&◌
leads_on = refl

comes_iff : (p k : ℕ) → p < 17 → k < 14 → (1 ≤? goto order p k ≡ true) ↔ (any_of (get_or may_come p []) k ≡ true)
unfolding ruled
comes_iff p k h j = (
  (λ e. cases (any_of (get_or may_come p []) k) (λ t. t) (λ t. absurd (omega (arith, to≤ e, order_is_the_table p k h j ∙ zero_then t)))),
  (λ t. of≤ (omega (arith, order_is_the_table p k h j ∙ on_then t, to≤ (tried _ 14 k (tried _ 17 p leads_on h) j)))),
)
  where
    zero_then : any_of (get_or may_come p []) k ≡ false → ruled p k ≡ 0
    zero_then t = unfold ruled in rw t

    on_then : any_of (get_or may_come p []) k ≡ true → ruled p k ≡ place_after p k
    on_then t = unfold ruled in rw t

same_bytes_lem : (a b : List ℕ) → same_bytes a b ≡ true → a ≡ b
unfolding same_bytes
same_bytes_lem [] [] h = refl
same_bytes_lem [] (y ∷ b) h = absurd (false≢true h)
same_bytes_lem (x ∷ a) [] h = absurd (false≢true h)
same_bytes_lem (x ∷ a) (y ∷ b) h = ap₂ ◌∷◌ (to≡ (both h).0) (same_bytes_lem a b (both h).1)

bytes_same : (a : List ℕ) → same_bytes a a ≡ true
unfolding same_bytes
bytes_same [] = refl
bytes_same (x ∷ a) = and (of≡ {m = x} refl) (bytes_same a)

job_then : (s : Past) (c : List ℕ) → cond (kind_of c =? *AA*) (cond (s.place =? nothing) true (same_bytes c s.job)) true ≡ true → kind_of c ≡ *AA* → (s.place ≡ nothing) ⊎ (c ≡ s.job)
job_then s c h e =
    cases (s.place =? nothing) (λ z. inl (to≡ z)) (λ z. inr (same_bytes_lem c s.job (rw (of≡ e, z) at h)))

job_of : (s : Past) (c : List ℕ) → (kind_of c ≡ *AA* → (s.place ≡ nothing) ⊎ (c ≡ s.job)) → cond (kind_of c =? *AA*) (cond (s.place =? nothing) true (same_bytes c s.job)) true ≡ true
job_of s c f =
    cases (kind_of c =? *AA*)
    (λ e. rw e (either (λ z. rw (of≡ {m = s.place} {n = nothing} z)) (λ z. cases (s.place =? nothing) (λ y. rw y) (λ y. rw y (subst (λ x. same_bytes c x ≡ true) z (bytes_same c)))) (f (to≡ e))))
    (λ e. rw e)

-- ---- the fields
module _ (l : List ℕ) where
  field_good : formed (entries chapter4 l) ≡ true → (d : Field) → d ∈ layout (code_at l) → good d.item (columns_of d l) ≡ true
  unfolding formed entries
  field_good h d m = unfold is_formed read in all_members (λ x. is_formed (read l x)) (layout (code_at l)) (sym (all_map is_formed (read l) (layout (code_at l))) ∙ h) d m

  good_fields : ((d : Field) → d ∈ layout (code_at l) → good d.item (columns_of d l) ≡ true) → formed (entries chapter4 l) ≡ true
  unfolding formed entries
  good_fields f = all_map is_formed (read l) (layout (code_at l)) ∙ members_all (λ x. is_formed (read l x)) (layout (code_at l)) (λ d m. unfold is_formed read in f d m)

-- ---- column 11, by kind
module _ (s : Past) (c : List ℕ) where
  expects_27 : kind_of c ≡ *27* → expectation s c ≡ same s.group
  unfolding expectation ◌=?◌
  expects_27 e = rw e

  expects_86 : kind_of c ≡ *86* → expectation s c ≡ same s.point
  unfolding expectation ◌=?◌
  expects_86 e = rw e

  pub expects_70 : kind_of c ≡ *70* → expectation s c ≡ not_below s.instrument
  unfolding expectation ◌=?◌
  expects_70 e = rw e

  expects_72 : kind_of c ≡ *72* → expectation s c ≡ above s.antenna
  unfolding expectation ◌=?◌
  expects_72 e = rw e

  expects_none : (kind_of c ≡ *27* → ⊥) → (kind_of c ≡ *86* → ⊥) → (kind_of c ≡ *70* → ⊥) → (kind_of c ≡ *72* → ⊥) → expectation s c ≡ anything
  unfolding expectation
  expects_none p q r t = rw (of≢ p, of≢ q, of≢ r, of≢ t)

none_met : (e : Expect) (m : ℕ) → e ≡ anything → meets e m ≡ true
unfolding meets
none_met e m q = rw q

module _ (f : List ℕ) (i : ℕ) where
  kind_is : {k : ℕ} → kind_at f i ≡ k → kind_of (code_at (line_at f i)) ≡ k
  unfolding kind_at
  kind_is e = e

  waits_27 : kind_at f i ≡ *27* → kind_at f i ∈ waiting_kinds
  unfolding waiting_kinds ◌∈◌
  waits_27 e = inl e

  pub waits_70 : kind_at f i ≡ *70* → kind_at f i ∈ waiting_kinds
  unfolding waiting_kinds ◌∈◌
  waits_70 e = inr (inl e)

  waits_72 : kind_at f i ≡ *72* → kind_at f i ∈ waiting_kinds
  unfolding waiting_kinds ◌∈◌
  waits_72 e = inr (inr (inl e))

  waits_86 : kind_at f i ≡ *86* → kind_at f i ∈ waiting_kinds
  unfolding waiting_kinds ◌∈◌
  waits_86 e = inr (inr (inr (inl e)))

module _ (e : Expect) (k m : ℕ) where
  met_same : e ≡ same k → meets e m ≡ true → m ≡ k
  unfolding meets
  met_same q h = to≡ (rw q at h)

  same_met : e ≡ same k → m ≡ k → meets e m ≡ true
  unfolding meets
  same_met q h = rw q (of≡ h)

  met_not_below : e ≡ not_below k → meets e m ≡ true → k ≤ m
  unfolding meets
  met_not_below q h = to≤ (rw q at h)

  not_below_met : e ≡ not_below k → k ≤ m → meets e m ≡ true
  unfolding meets
  not_below_met q h = rw q (of≤ h)

  met_above : e ≡ above k → meets e m ≡ true → k + 1 ≤ m
  unfolding meets
  met_above q h = to≤ (rw q at h)

  above_met : e ≡ above k → k + 1 ≤ m → meets e m ≡ true
  unfolding meets
  above_met q h = rw q (of≤ h)

short_line : (f : List ℕ) (i : ℕ) → length (line_at f i) ≤ 81
unfolding line_at
short_line f i = length-take_most 81 (drop (81 * i) f)

-- ---- a judged record stands as the paper says
module _ (f : List ℕ) (n : ℕ) (many : n ≤ begun f) (form : (x : ℕ) → x < n → formed_line chapter4 (line_at f x) ≡ true) (turn : (x : ℕ) → x < n → permitted chapter4 (before chapter4 f x) (record_at f x) ≡ true) where
  known_here : (x : ℕ) → x < n → known (code_at (line_at f x)) ≡ true
  unfolding formed_line
  known_here x h = (both (both (both (form x h)).0).0).1

  kind_here : (x : ℕ) → x < n → kind_at f x ≤ 13
  unfolding known kind_at
  kind_here x h = to≤ (known_here x h)

  formed_here : (x : ℕ) → x < n → formed (entries chapter4 (line_at f x)) ≡ true
  unfolding formed_line
  formed_here x h = (both (form x h)).1

  agreeing_here : (x : ℕ) → x < n → agreeing (expectation (before chapter4 f x) (code_at (line_at f x))) (entries chapter4 (line_at f x)) ≡ true
  unfolding permitted record_at meaning
  agreeing_here x h = agreeing_line chapter4 (expectation (before chapter4 f x) (code_at (line_at f x))) (line_at f x) ∙ (unfold meaning in (both (turn x h)).1)

  place_here : (i : ℕ) → i ≤ n → Placed f i (before chapter4 f i).place
  place_here i h = placed f n many kind_here turn i h

  -- the number at column 11 is what was expected
  module _ (i : ℕ) (h : i < n) (waits : kind_at f i ∈ waiting_kinds) where
    met_here : meets (expectation (before chapter4 f i) (code_at (line_at f i))) (number_at 11 (record_at f i)) ≡ true
    unfolding record_at kind_at
    met_here = met _ (line_at f i) (lead_of (code_at (line_at f i)) waits) (agreeing_here i h)

    from_1 : 1 ≤ number_at 11 (record_at f i)
    unfolding record_at kind_at
    from_1 = number_from_1 anything (line_at f i) (lead_of (code_at (line_at f i)) waits) (formed_here i h)

  module _ (i : ℕ) (h : i < n) where
    measured_here : kind_at f i ≡ *27* → (j : ℕ) × Nearest f *25* *70* j i × (number_at 11 (record_at f i) ≡ number_at 11 (record_at f j))
    measured_here e =
        let m = met_here i h (waits_27 f i e) in
        kept_same f *25* *70* (before chapter4 f i).group i _ (group_is f i (omega arith)) (from_1 i h (waits_27 f i e)) (met_same _ _ _ (expects_27 (before chapter4 f i) _ (kind_is f i e)) m)

    paired_here : kind_at f i ≡ *86* → (j : ℕ) × Nearest f *80* *80* j i × (number_at 11 (record_at f i) ≡ number_at 11 (record_at f j))
    paired_here e =
        let m = met_here i h (waits_86 f i e) in
        kept_same f *80* *80* (before chapter4 f i).point i _ (point_is f i (omega arith)) (from_1 i h (waits_86 f i e)) (met_same _ _ _ (expects_86 (before chapter4 f i) _ (kind_is f i e)) m)

    not_below_70 : kind_at f i ≡ *70* → (before chapter4 f i).instrument ≤ number_at 11 (record_at f i)
    not_below_70 e = met_not_below _ _ _ (expects_70 (before chapter4 f i) _ (kind_is f i e)) (met_here i h (waits_70 f i e))

    above_72 : kind_at f i ≡ *72* → (before chapter4 f i).antenna + 1 ≤ number_at 11 (record_at f i)
    above_72 e = met_above _ _ _ (expects_72 (before chapter4 f i) _ (kind_is f i e)) (met_here i h (waits_72 f i e))

  never_falls_here : (i : ℕ) → i < n → kind_at f i ≡ *70* → (j : ℕ) → j < i → kind_at f j ≡ *70* → number_at 11 (record_at f j) ≤ number_at 11 (record_at f i)
  never_falls_here i h e j b q = omega (arith, not_below_70 i h e, instrument-top f i (omega arith) (λ x k y. not_below_70 x (omega arith) y) j b q)

  rises_here : (i : ℕ) → i < n → kind_at f i ≡ *72* → (j : ℕ) → j < i → kind_at f j ≡ *72* → number_at 11 (record_at f j) < number_at 11 (record_at f i)
  rises_here i h e j b q = omega (arith, above_72 i h e, antenna-top f i (omega arith) (λ x k y. omega (arith, above_72 x (omega arith) y)) j b q)

  job_here : (i : ℕ) → i < n → kind_at f i ≡ *AA* → (i ≡ 0) ⊎ (code_at (line_at f i) ≡ code_at (line_at f 0))
  job_here zero h e = inl refl
  job_here (suc i) h e =
      either
      (λ z. absurd (omega (arith, z, (place_here (suc i) (omega arith)).started (omega arith))))
      (λ z. inr (z ∙ job_is f n many kind_here turn (suc i) (omega arith) (omega arith)))
      (job_then (before chapter4 f (suc i)) (code_at (line_at f (suc i))) (unfold permitted may_stand record_at meaning in (both (both (turn (suc i) h)).0).1) (kind_is f (suc i) e))

  stands : (i : ℕ) → i < n → Stands f i
  stands i h =
      let l = line_at f i in
      let bytes_good : is_ok (bytes 80 1 l) ≡ true = unfold formed_line in (both (both (both (form i h)).0).0).0 in
      let long : 80 < length l = bytes-length 1 80 l bytes_good in
      let b = bytes-parts 80 1 l bytes_good in
      record {
        whole = omega (arith, short_line f i);
        printed = printed_in (take 80 l) b.0;
        fed = b.1;
        numbered = (value_of sequence (take 6 l), (spelled_iff sequence (take 6 l) _).0 (number-good (form i h), refl));
        coded = (code_iff (code_at l) (kind_at f i)).0 (known_here i h, kind_of_lem);
        comes = ((before chapter4 f i).place, (place_here i (omega arith)).place, any-member _ _ ((comes_iff _ (kind_at f i) (place_here i (omega arith)).small (omega (arith, kind_here i h))).0 (order-good (turn i h))));
        job = job_here i h;
        its_fields = λ d m. (value_of d.item (columns_of d l), (spelled_iff d.item (columns_of d l) _).0 (field_good l (formed_here i h) d m, refl), unfold record_at in agreeing-each _ l (agreeing_here i h) d m);
        measured = measured_here i h;
        paired = paired_here i h;
        never_falls = never_falls_here i h;
        rises = rises_here i h;
      }
    where
      number-good : formed_line chapter4 (line_at f i) ≡ true → good sequence (take 6 (line_at f i)) ≡ true
      number-good t = unfold formed_line in (both (both t).0).1

      kind_of_lem : kind_of (code_at (line_at f i)) ≡ kind_at f i
      kind_of_lem = unfold kind_at in refl

      order-good : permitted chapter4 (before chapter4 f i) (record_at f i) ≡ true → 1 ≤? goto order (before chapter4 f i).place (kind_at f i) ≡ true
      order-good t = unfold permitted may_stand record_at meaning kind_at in (both (both t).0).0

-- ---- a record that stands as the paper says is judged good
module _ (f : List ℕ) (i : ℕ) (t : Stands f i) where
  its_number : good sequence (take 6 (line_at f i)) ≡ true
  its_number = ((spelled_iff sequence (take 6 (line_at f i)) _).1 t.numbered.1).0

  its_code : known (code_at (line_at f i)) ≡ true
  its_code = ((code_iff (code_at (line_at f i)) (kind_at f i)).1 t.coded).0

  its_good : formed (entries chapter4 (line_at f i)) ≡ true
  its_good = good_fields (line_at f i) (λ d m. ((spelled_iff d.item (columns_of d (line_at f i)) _).1 (t.its_fields d m).1).0)

  pub stands_formed : formed_line chapter4 (line_at f i) ≡ true
  unfolding formed_line
  stands_formed = and (and (and (bytes_of 80 1 (line_at f i) (omega (arith, t.whole)) (printed_of (take 80 (line_at f i)) t.printed) t.fed) its_code) its_number) its_good

  its_kind : kind_at f i ≤ 13
  unfolding kind_at
  its_kind = to≤ (unfold known in its_code)

  its_agreement : (d : Field) → d ∈ layout (code_at (line_at f i)) → Agreed (meaning chapter4 (line_at f i)) d.bond (value_of d.item (columns_of d (line_at f i)))
  unfolding record_at
  its_agreement d m = let x = t.its_fields d m in subst (Agreed (meaning chapter4 (line_at f i)) d.bond) (sym ((spelled_iff d.item (columns_of d (line_at f i)) _).1 x.1).1) x.2

  module _ (many : i < begun f) (kinds : (x : ℕ) → x < i → kind_at f x ≤ 13) (turn : (x : ℕ) → x < i → permitted chapter4 (before chapter4 f x) (record_at f x) ≡ true) where
    place : Placed f i (before chapter4 f i).place
    place = placed f i (omega arith) kinds turn i (omega arith)

    in_order : 1 ≤? goto order (before chapter4 f i).place (kind_at f i) ≡ true
    in_order =
        let c = t.comes in
        let e : c.0 ≡ (before chapter4 f i).place = place_one f i _ _ c.1 place.place in
        (comes_iff (before chapter4 f i).place (kind_at f i) place.small (omega (arith, its_kind))).1 (subst (λ p. any_of (get_or may_come p []) (kind_at f i) ≡ true) e (member-any _ _ c.2))

    from_1_here : kind_at f i ∈ waiting_kinds → 1 ≤ number_at 11 (record_at f i)
    unfolding record_at kind_at
    from_1_here w = number_from_1 anything (line_at f i) (lead_of (code_at (line_at f i)) w) its_good

    -- what the records before ask of column 11
    asked_27 : kind_at f i ≡ *27* → meets (expectation (before chapter4 f i) (code_at (line_at f i))) (number_at 11 (record_at f i)) ≡ true
    asked_27 e = let x = t.measured e in same_met _ _ _ (expects_27 (before chapter4 f i) _ (kind_is f i e)) (same_kept f *25* *70* _ i _ (group_is f i (omega arith)) x.0 x.1 x.2)

    asked_86 : kind_at f i ≡ *86* → meets (expectation (before chapter4 f i) (code_at (line_at f i))) (number_at 11 (record_at f i)) ≡ true
    asked_86 e = let x = t.paired e in same_met _ _ _ (expects_86 (before chapter4 f i) _ (kind_is f i e)) (same_kept f *80* *80* _ i _ (point_is f i (omega arith)) x.0 x.1 x.2)

    asked_70 : kind_at f i ≡ *70* → meets (expectation (before chapter4 f i) (code_at (line_at f i))) (number_at 11 (record_at f i)) ≡ true
    asked_70 e =
        let past : (before chapter4 f i).instrument + 0 ≤ number_at 11 (record_at f i) = past_kept f *70* *70* _ i _ 0 (instrument_is f i (omega arith)) (omega arith) (λ j b q. omega (arith, t.never_falls e j b q)) in
        not_below_met _ _ _ (expects_70 (before chapter4 f i) _ (kind_is f i e)) (omega arith)

    asked_72 : kind_at f i ≡ *72* → meets (expectation (before chapter4 f i) (code_at (line_at f i))) (number_at 11 (record_at f i)) ≡ true
    asked_72 e =
        above_met _ _ _ (expects_72 (before chapter4 f i) _ (kind_is f i e))
        (past_kept f *72* *72* _ i _ 1 (antenna_is f i (omega arith)) (from_1_here (waits_72 f i e)) (λ j b q. omega (arith, t.rises e j b q)))

    waits_here : kind_at f i ∈ waiting_kinds → meets (expectation (before chapter4 f i) (code_at (line_at f i))) (number_at 11 (record_at f i)) ≡ true
        → (d : Field) → d ∈ layout (code_at (line_at f i)) → d.bond ≡ expected → meets (expectation (before chapter4 f i) (code_at (line_at f i))) (num_of (value_of d.item (columns_of d (line_at f i)))) ≡ true
    unfolding record_at kind_at
    waits_here w h = waits_met _ (line_at f i) (lead_of (code_at (line_at f i)) w) h

    none_here : (kind_at f i ≡ *27* → ⊥) → (kind_at f i ≡ *86* → ⊥) → (kind_at f i ≡ *70* → ⊥) → (kind_at f i ≡ *72* → ⊥) → expectation (before chapter4 f i) (code_at (line_at f i)) ≡ anything
    unfolding kind_at
    none_here p q r u = expects_none (before chapter4 f i) (code_at (line_at f i)) p q r u

    expected_here : (d : Field) → d ∈ layout (code_at (line_at f i)) → d.bond ≡ expected → meets (expectation (before chapter4 f i) (code_at (line_at f i))) (num_of (value_of d.item (columns_of d (line_at f i)))) ≡ true
    expected_here d m b =
        cases (kind_at f i =? *27*) (λ a. waits_here (waits_27 f i (to≡ a)) (asked_27 (to≡ a)) d m b)
        (λ p. cases (kind_at f i =? *86*) (λ a. waits_here (waits_86 f i (to≡ a)) (asked_86 (to≡ a)) d m b)
        (λ q. cases (kind_at f i =? *70*) (λ a. waits_here (waits_70 f i (to≡ a)) (asked_70 (to≡ a)) d m b)
        (λ r. cases (kind_at f i =? *72*) (λ a. waits_here (waits_72 f i (to≡ a)) (asked_72 (to≡ a)) d m b)
        (λ u. none_met _ _ (none_here (no≡ p) (no≡ q) (no≡ r) (no≡ u))))))

    its_job : kind_of (code_at (line_at f i)) ≡ *AA* → ((before chapter4 f i).place ≡ nothing) ⊎ (code_at (line_at f i) ≡ (before chapter4 f i).job)
    its_job e =
        either
        (λ z. inl (at_start_lem f i _ z place.place))
        (λ z. cases (1 ≤? i)
        (λ y. inr (z ∙ sym (job_is f i (omega arith) kinds turn i (to≤ y) (omega arith))))
        (λ y. inl (at_start_lem f i _ (omega (arith, no≤ y)) place.place)))
        (t.job (unfold kind_at in e))

    stands_permitted : permitted chapter4 (before chapter4 f i) (record_at f i) ≡ true
    unfolding permitted may_stand record_at meaning
    stands_permitted =
        and (and (unfold kind_at in in_order) (job_of (before chapter4 f i) (code_at (line_at f i)) its_job))
        (unfold meaning in sym (agreeing_line chapter4 (expectation (before chapter4 f i) (code_at (line_at f i))) (line_at f i)) ∙ each-agreeing _ (line_at f i) its_agreement expected_here)

-- ---- all records
module _ {S : Type 0} (E : Edition S) where
  formed-each : (r : ℕ) (ls : List (List ℕ)) → formed_lines E r ls ≡ true → (i : ℕ) → i < length ls → (r + i ≤ 99_999) × (formed_line E (get_or ls i []) ≡ true)
  unfolding formed_lines
  formed-each r [] h i k = absurd (omega arith)
  formed-each r (l ∷ ls) h zero k = (omega (arith, to≤ (both (both h).0).0), (both (both h).0).1)
  formed-each r (l ∷ ls) h (suc i) k = let rest = formed-each (r + 1) ls (both h).1 i (omega arith) in (omega (arith, rest.0), rest.1)

  formed-all : (r : ℕ) (ls : List (List ℕ)) → ((i : ℕ) → i < length ls → (r + i ≤ 99_999) × (formed_line E (get_or ls i []) ≡ true)) → formed_lines E r ls ≡ true
  unfolding formed_lines
  formed-all r [] f = refl
  formed-all r (l ∷ ls) f =
      and (and (of≤ (omega (arith, (f 0 (omega arith)).0))) (f 0 (omega arith)).1) (formed-all (r + 1) ls (λ i k. (omega (arith, (f (suc i) (omega arith)).0), (f (suc i) (omega arith)).1)))

  orderly-each : (s : S) (ls : List (List ℕ)) → orderly E s (map (meaning E) ls) ≡ true
      → ((i : ℕ) → i < length ls → permitted E (passed E s (map (meaning E) (take i ls))) (meaning E (get_or ls i [])) ≡ true) × (E.ends (passed E s (map (meaning E) ls)) ≡ true)
  unfolding orderly passed
  orderly-each s [] h = ((λ i k. absurd (omega arith)), h)
  orderly-each s (l ∷ ls) h =
      let rest = orderly-each (E.next s (meaning E l)) ls (both h).1 in (one (both h).0 rest.0, rest.1)
    where
      one : permitted E s (meaning E l) ≡ true
          → ((i : ℕ) → i < length ls → permitted E (passed E (E.next s (meaning E l)) (map (meaning E) (take i ls))) (meaning E (get_or ls i [])) ≡ true)
          → (i : ℕ) → i < suc (length ls) → permitted E (passed E s (map (meaning E) (take i (l ∷ ls)))) (meaning E (get_or (l ∷ ls) i [])) ≡ true
      one p f zero k = unfold passed in p
      one p f (suc i) k = unfold passed in f i (omega arith)

  orderly-all : (s : S) (ls : List (List ℕ)) → ((i : ℕ) → i < length ls → permitted E (passed E s (map (meaning E) (take i ls))) (meaning E (get_or ls i [])) ≡ true)
      → E.ends (passed E s (map (meaning E) ls)) ≡ true → orderly E s (map (meaning E) ls) ≡ true
  unfolding orderly passed
  orderly-all s [] f e = e
  orderly-all s (l ∷ ls) f e = and (f 0 (omega arith)) (orderly-all (E.next s (meaning E l)) ls (λ i k. f (suc i) (omega arith)) e)

-- ---- the file
whole_before : (f : List ℕ) → passed chapter4 at_start (map (meaning chapter4) (lines f)) ≡ before chapter4 f (begun f)
unfolding before
whole_before f = ap (λ ls. passed chapter4 at_start (map (meaning chapter4) ls)) (sym (take-length (lines f)) ∙ ap (λ n. take n (lines f)) (records f))

-- each record is judged good once those before it are
module _ (f : List ℕ) (each : (i : ℕ) → i < begun f → Stands f i) where
  each-permitted : (n : ℕ) → n ≤ begun f → (x : ℕ) → x < n → permitted chapter4 (before chapter4 f x) (record_at f x) ≡ true
  each-permitted zero h x k = absurd (omega arith)
  each-permitted (suc n) h x k =
      either
      (λ l. each-permitted n (omega arith) x l)
      (λ e. rw e (stands_permitted f n (each n (omega arith)) (omega arith) (λ y l. its_kind f y (each y (omega arith))) (each-permitted n (omega arith))))
      (below_or_equal x n (omega arith))

module _ (f : List ℕ) where
  has_form : is_accept (form_verdict chapter4 f) ≡ true → Formed f
  unfolding before meanings record_at
  has_form h =
      let parts = both (sym (walk_splits chapter4 at_start 1 (lines f)) ∙ h) in
      let form = formed-each chapter4 1 (lines f) parts.0 in
      let order = orderly-each chapter4 at_start (lines f) parts.1 in
      let good : (x : ℕ) → x < begun f → formed_line chapter4 (line_at f x) ≡ true = λ x k. subst (λ l. formed_line chapter4 l ≡ true) (line_at_lem f x k) (form x (rw (records f) k)).1 in
      let turn : (x : ℕ) → x < begun f → permitted chapter4 (before chapter4 f x) (record_at f x) ≡ true = λ x k. subst (λ l. permitted chapter4 (before chapter4 f x) (meaning chapter4 l) ≡ true) (line_at_lem f x k) (order.0 x (rw (records f) k)) in
      record {
        few = few_of (begun f) (λ i k. (form i (rw (records f) k)).0);
        each = stands f (begun f) (omega arith) good turn;
        ends = subst (Place f (begun f)) (to≡ (subst (λ s. s.place =? last_job ≡ true) (whole_before f) order.1)) (place_here f (begun f) (omega arith) good turn (begun f) (omega arith)).place;
      }
    where
      few_of : (n : ℕ) → ((i : ℕ) → i < n → 1 + i ≤ 99_999) → n ≤ 99_999
      few_of zero g = omega arith
      few_of (suc n) g = omega (arith, g n (omega arith))

  is_formed_lem : Formed f → is_accept (form_verdict chapter4 f) ≡ true
  unfolding before meanings record_at
  is_formed_lem c =
      let turn = each-permitted f c.each (begun f) (omega arith) in
      let kinds : (x : ℕ) → x < begun f → kind_at f x ≤ 13 = λ x k. its_kind f x (c.each x k) in
      let last : (before chapter4 f (begun f)).place ≡ last_job = place_one f (begun f) _ _ (placed f (begun f) (omega arith) kinds turn (begun f) (omega arith)).place c.ends in
      let form : (i : ℕ) → i < length (lines f) → (1 + i ≤ 99_999) × (formed_line chapter4 (get_or (lines f) i []) ≡ true)
      = λ i k. let j : i < begun f = rw (← records f) k in
      (omega (arith, c.few), subst (λ l. formed_line chapter4 l ≡ true) (sym (line_at_lem f i j)) (stands_formed f i (c.each i j))) in
      let order : (i : ℕ) → i < length (lines f) → permitted chapter4 (passed chapter4 at_start (map (meaning chapter4) (take i (lines f)))) (meaning chapter4 (get_or (lines f) i [])) ≡ true
      = λ i k. let j : i < begun f = rw (← records f) k in
      subst (λ l. permitted chapter4 (passed chapter4 at_start (map (meaning chapter4) (take i (lines f)))) (meaning chapter4 l) ≡ true) (sym (line_at_lem f i j)) (turn i j) in
      walk_splits chapter4 at_start 1 (lines f)
      ∙ and (formed-all chapter4 1 (lines f) form) (orderly-all chapter4 at_start (lines f) order (subst (λ s. s.place =? last_job ≡ true) (sym (whole_before f)) (of≡ last)))

  -- 02, T-05: the form is accepted exactly when the file has the records, order and fields
  pub form_formed : (is_accept (form_verdict chapter4 f) ≡ true) ↔ Formed f
  form_formed = (has_form, is_formed_lem)

  -- and the file exactly when its references hold besides
  pub accepted_conforms : (accepted chapter4 f ≡ true) ↔ Conforms f
  unfolding accepted verdict
  accepted_conforms = (
    (λ h. let parts = both (sym (then_accept (form_verdict chapter4 f) (reference_verdict chapter4 f)) ∙ h) in record { form = has_form parts.0; references = (references_iff (meanings chapter4 f)).0 parts.1 }),
    (λ c. then_accept (form_verdict chapter4 f) (reference_verdict chapter4 f) ∙ and (is_formed_lem c.form) ((references_iff (meanings chapter4 f)).1 c.references)),
  )
