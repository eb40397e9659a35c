-- A record made of values and texts is the record that its meaning gives back.
use mathlib.Core.Path.{◌≡◌, refl, sym, ◌∙◌, ap}
use mathlib.Core.Bool.{false≢true}
use mathlib.Core.List.{List}
use Prim.Native.Nat.{ℕ}
use lib.ListN.{get_or}
use Rattle.std.specs.Prelude.{Result, Ok, Err, is_ok, IsOk, IsErrAnd, MatchResult, Option, Some, None}
use Rattle.std.proofs.Common.{subst}
use Rattle.std.proofs.lemmas.Result.{err_from_is_err_and}
use Rattle.rules.specs.Tests.{◌&◌, ◌≤?◌, ◌=?◌, within}
use Rattle.rules.specs.Characters.{ascii, is_digit, is_letter}
use Rattle.rules.specs.Digits.{val}
use Rattle.rules.specs.Items.{gap}
use Rattle.rules.specs.Fields.{Verdict, ok, fault, ◌⨾◌}
use Rattle.rules.specs.Kinds.{data_codes, kind_from, starred, kind_between, kind_of}
use Rattle.columns.specs.Types.{nat_of, int_of, media_of, media_value, four, four_of, count_of, count_value}
use Rattle.columns.proofs.RoundTrip.{height_same}
use Rattle.kinds.specs.declared.Flaw.{Flaw}
use Rattle.kinds.specs.declared.Fault.{Fault}
use Rattle.kinds.specs.declared.Record.{Record}
use Rattle.kinds.specs.declared.Record.TheVariants as R
use Rattle.kinds.specs.Values.{text_of, two, two_text, three, three_text, kind_number, code_of, values_of, meaning_of, char_of, record_from, record_of, judged_of}

pub sequence_back : (s : Option ℕ) → count_of (count_value s) ≡ s
unfolding count_of count_value
sequence_back None = refl
sequence_back (Some n) = refl

-- ---- the answers of the judge
abbrev pub flaw : (number column : ℕ) → Flaw
flaw n c = record { number = n; column = c }

-- what a `?` hands on
pub handed_on : {T E : Type 0} {r : Result T E} {e : E} → IsErrAnd r (λ y. y ≡ e) → r ≡ Err e
handed_on {r} h = let p = err_from_is_err_and r h in rw (p.1, p.2)

-- a refusal is no acceptance
pub not_ok : {T E : Type 0} {r : Result T E} {e : E} → r ≡ Err e → IsOk r → ⊥
not_ok p q = false≢true (sym (ap is_ok p) ∙ q)

pub ok_is : {T E : Type 0} {r : Result T E} {x : T} → r ≡ Ok x → IsOk r
ok_is p = ap is_ok p

pub same_fault : {T E : Type 0} {r : Result T E} {e d : E} → r ≡ Err e → r ≡ Err d → e ≡ d
same_fault p q = cc

pub same_ok : {T E : Type 0} {r : Result T E} {x y : T} → r ≡ Ok x → r ≡ Ok y → x ≡ y
same_ok p q = cc

pub ok_not_err : {T E : Type 0} {r : Result T E} {x : T} {e : E} → r ≡ Ok x → r ≡ Err e → ⊥
ok_not_err p q = not_ok q (ok_is p)

-- values that are told alike are the same
pub same_values : {s q : Option ℕ} {w m : Record} → ◌≡◌ {A = Result (Option ℕ × Record) Fault} (Ok (s, w)) (Ok (q, m)) → (s ≡ q) × (w ≡ m)
same_values {s} {q} {w} {m} e =
    let p : (s, w) ≡ (q, m) = cc in
    (ap (λ (x : Option ℕ × Record). x.0) p, ap (λ (x : Option ℕ × Record). x.1) p)

-- what a fault mapped by `map_err` was
pub mapped_ok : {T E D : Type 0} (r : Result T E) {m : Result T D} (P : E → D → Type 0) {x : T} → MatchResult r (λ y. m ≡ Ok y) (λ e. IsErrAnd m (P e)) → m ≡ Ok x → r ≡ Ok x
mapped_ok (Ok y) P c h = cc
mapped_ok (Err e) P c h = absurd (subst (λ q. IsErrAnd q (P e)) h c)

pub mapped_err : {T E D : Type 0} (r : Result T E) {m : Result T D} (P : E → D → Type 0) {d : D} → MatchResult r (λ y. m ≡ Ok y) (λ e. IsErrAnd m (P e)) → m ≡ Err d → (e : E) × (r ≡ Err e) × P e d
mapped_err (Ok y) P c h = absurd (cc)
mapped_err (Err e) P c h = (e, refl, subst (λ q. IsErrAnd q (P e)) h c)

pub good_is : (v : Verdict) → judged_of v ≡ Ok tt → v ≡ ok
unfolding judged_of
good_is ok e = refl
good_is (fault n c) e = cc

pub bad_is : (v : Verdict) (w : Flaw) → judged_of v ≡ Err w → v ≡ fault w.number w.column
unfolding judged_of
bad_is ok w e = cc
bad_is (fault n c) w e = cc

-- one after the other
pub bad_then : (u v : Verdict) (w : Flaw) → judged_of u ≡ Err w → judged_of (u ⨾ v) ≡ Err w
unfolding ◌⨾◌
bad_then u v w e = rw (bad_is u w e) (unfold judged_of in refl)

pub good_then : (u v : Verdict) → judged_of u ≡ Ok tt → u ⨾ v ≡ v
unfolding ◌⨾◌
good_then u v e = rw (good_is u e)

pub ⨾_ok : (u : Verdict) → (u ⨾ ok) ≡ u
unfolding ◌⨾◌
⨾_ok ok = refl
⨾_ok (fault n c) = refl

-- what `?` hands on is the first fault
pub stop : (u v : Verdict) {x r : Result (Unit {0}) Flaw} {w : Flaw} → r ≡ judged_of u → r ≡ Err w → IsErrAnd x (λ y. y ≡ w) → x ≡ judged_of (u ⨾ v)
stop u v {w = w} e q h = handed_on h ∙ sym (bad_then u v w (sym e ∙ q))

pub past : (u v : Verdict) {x r : Result (Unit {0}) Flaw} → r ≡ judged_of u → r ≡ Ok tt → x ≡ judged_of v → x ≡ judged_of (u ⨾ v)
past u v e q h = h ∙ ap judged_of (sym (good_then u v (sym e ∙ q)))

pub last : (u : Verdict) {x : Result (Unit {0}) Flaw} → x ≡ judged_of u → x ≡ judged_of (u ⨾ ok)
last u e = e ∙ ap judged_of (sym (⨾_ok u))

-- of the kind that the record is
from_values : (r : Record) (a b c : List ℕ) → record_from (kind_number r) (code_of r) (λ i. get_or (values_of r a b c) i gap) ≡ r
unfolding record_from kind_number code_of values_of nat_of int_of media_of media_value four four_of text_of two two_text three three_text char_of ascii
from_values (R.Job r) a b c = refl
from_values (R.Title r) a b c = refl
from_values (R.Continuation r) a b c = refl
from_values (R.Project r) a b c = refl
from_values (R.Occupation r) a b c = refl
from_values (R.Comment r) a b c = refl
from_values (R.Measurement r) a b c = refl
from_values (R.Instrument r) a b c = refl
from_values (R.Antenna r) a b c = refl
from_values (R.Point r) a b c = refl
from_values (R.Heights r) a b c = rw (height_same r.orthometric, height_same r.geoid, height_same r.ellipsoid)
from_values (R.Network r) a b c = refl
from_values (R.Local r) a b c = refl
from_values (R.Factor r) a b c = refl

pub record-back : (r : Record) (a b c : List ℕ) → kind_of (code_of r) ≡ kind_number r → record_of (meaning_of r a b c) ≡ r
unfolding record_of meaning_of
record-back r a b c e = ap (λ k. record_from k (code_of r) (λ i. get_or (values_of r a b c) i gap)) e ∙ from_values r a b c

-- the code of every record but a job code is that of its kind
pub code_kind : (r : Record) → (kind_number r ≡ 0 → kind_of (code_of r) ≡ 0) → kind_of (code_of r) ≡ kind_number r
unfolding code_of kind_number kind_of starred kind_between kind_from data_codes is_digit is_letter within val ascii ◌&◌ ◌≤?◌ ◌=?◌
code_kind (R.Job r) f = f refl
code_kind (R.Title r) f = refl
code_kind (R.Continuation r) f = refl
code_kind (R.Project r) f = refl
code_kind (R.Occupation r) f = refl
code_kind (R.Comment r) f = refl
code_kind (R.Measurement r) f = refl
code_kind (R.Instrument r) f = refl
code_kind (R.Antenna r) f = refl
code_kind (R.Point r) f = refl
code_kind (R.Heights r) f = refl
code_kind (R.Network r) f = refl
code_kind (R.Local r) f = refl
code_kind (R.Factor r) f = refl
