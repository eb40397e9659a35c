-- Media identifiers and YYYYMM: the tests as the code writes them. Assumes nothing.
use mathlib.Core.Path.{◌≡◌, refl, sym, ap, ◌∙◌}
use mathlib.Core.Bool.{Bool, true, false, cond, ◌&&◌, ◌||◌, and_assoc, and-true}
use mathlib.Core.List.{List, [], ◌∷◌, ◌++◌}
use Prim.Native.Nat.{ℕ, ◌+◌, ◌/◌, ◌%◌, ◌≤◌}
use native.Mathlib.Omega.{arith}
use lib.Dec.{leb}
use lib.ListN.{length, get_or, take, drop, length-drop}
use lib.Seq.{get_or-drop}
use lib.IntN.{pos}
use Rattle.rules.specs.Tests.{◌&◌, ◌≤?◌, ◌=?◌, within, all}
use Rattle.rules.specs.Digits.{val, put}
use Rattle.rules.specs.Characters.{is_printable, is_digit, is_letter, letter, digit, ◌or◌, member}
use Rattle.rules.specs.Items.{month, media, num, is_month, is_media, on_number, on_label, width, shape, value_of, fits, render, good}
use Rattle.rules.proofs.Truth.{true_and, both, of≡, to≡, to≤, no≡, cases, of≢, or-cond}
use Rattle.columns.specs.Types.{four, four_of, media_of, media_value}
use Rattle.columns.specs.Leaves.{written}
use Rattle.columns.specs.declared.Four.{Four}
use Rattle.columns.specs.declared.Media.{Media}
use Rattle.columns.proofs.Loops.{&_is}
use Rattle.columns.proofs.WriteLaws.{kept-wide, now_written}

pub month_is : (n : ℕ) → ((leb 1 (n / 100) && leb (n / 100) 9_999) && (leb 1 (n % 100) && leb (n % 100) 12)) ≡ fits month (num (pos n))
unfolding fits on_number is_month within ◌≤?◌
month_is n = sym (simp &_is)

pub four_is : (t : Four) → ((leb 32 t.0 && leb t.0 126) && (leb 32 t.1 && leb t.1 126) && (leb 32 t.2 && leb t.2 126) && (leb 32 t.3 && leb t.3 126)) ≡ all is_printable (four_of t)
unfolding all four_of is_printable within ◌≤?◌
four_is t = sym (simp (&_is, and-true) (simp and_assoc))

four_long : (t : Four) → (length (four_of t) =? 4) ≡ true
unfolding four_of ◌=?◌
four_long t = refl

session_is : (s : ℕ) → (leb 65 s && leb s 90 || leb 48 s && leb s 57) ≡ member (letter or digit) s
unfolding member is_letter is_digit within ◌≤?◌
session_is s = sym (sym (or-cond (65 ≤? s & s ≤? 90) (48 ≤? s & s ≤? 57)) ∙ simp &_is)

pub media_is : (m : Media) {r : Bool} → r ≡ all is_printable (four_of m.mark)
    → ((leb 65 m.maker && leb m.maker 90) && (leb 1 m.day && leb m.day 366) && leb m.year 9 && (leb 65 m.session && leb m.session 90 || leb 48 m.session && leb m.session 57) && r)
    ≡ fits media (media_value m)
unfolding fits on_label media_value is_media is_letter within ◌≤?◌
media_is m e = rw (e, session_is m.session, four_long m.mark, true_and) (sym (simp &_is))

-- ---- reading
pub media-read : (bs : List ℕ) {m d y s a b c e : ℕ} → m ≡ get_or bs 0 0 → d ≡ val 0 (take 3 (drop 1 bs)) → y ≡ val 0 (take 1 (drop 4 bs)) → s ≡ get_or bs 5 0
    → a ≡ get_or bs 6 0 → b ≡ get_or bs 7 0 → c ≡ get_or bs 8 0 → e ≡ get_or bs 9 0
    → ◌≡◌ {A = Media} (record { maker = m; day = d; year = y; session = s; mark = record { 0 = a; 1 = b; 2 = c; 3 = e } }) (media_of (value_of media bs))
unfolding media_of value_of four
media-read bs m d y s a b c e =
    λ j. record {
      maker = m j;
      day = d j;
      year = y j;
      session = s j;
      mark = record { 0 = (a ∙ sym (get_or-drop 6 bs 0 0)) j; 1 = (b ∙ sym (get_or-drop 6 bs 1 0)) j; 2 = (c ∙ sym (get_or-drop 6 bs 2 0)) j; 3 = (e ∙ sym (get_or-drop 6 bs 3 0)) j };
    }

pub four_back : (t : List ℕ) → length t ≡ 4 → four_of (four t) ≡ t
unfolding four_of four
four_back [] h = absurd (omega arith)
four_back (a ∷ []) h = absurd (omega arith)
four_back (a ∷ b ∷ []) h = absurd (omega arith)
four_back (a ∷ b ∷ c ∷ []) h = absurd (omega arith)
four_back (a ∷ b ∷ c ∷ d ∷ []) h = refl
four_back (a ∷ b ∷ c ∷ d ∷ e ∷ t) h = absurd (omega arith)

pub media-wide : (bs : List ℕ) → (length bs ≡ 10 → ⊥) → false ≡ good media bs
unfolding good width ◌&◌
media-wide bs h = sym (rw (of≢ h))

pub media-good : (bs : List ℕ) {a r : Bool} {m : Media} → length bs ≡ 10 → a ≡ all (within 48 57) (take 4 (drop 1 bs)) → m ≡ media_of (value_of media bs)
    → r ≡ fits media (media_value m) → (a && r) ≡ good media bs
unfolding good width shape value_of media_of media_value is_digit
media-good bs h d e k =
    let t : length (drop 6 bs) ≡ 4 = rw length-drop (omega arith) in
    rw (k, e, d, four_back (drop 6 bs) t, of≡ h, true_and) (sym (&_is _ _))

-- ---- writing
media_long : width media ≡ 10
unfolding width
media_long = refl

put_three : (n : ℕ) (rest : List ℕ) → put 3 n ++ rest ≡ (48 + n / 10 / 10 % 10) ∷ (48 + n / 10 % 10) ∷ (48 + n % 10) ∷ rest
unfolding put
put_three n rest = refl

pub media-put : (m : Media) (old new : List ℕ) {a b c : ℕ} → a ≡ 48 + m.day / 10 / 10 % 10 → b ≡ 48 + m.day / 10 % 10 → c ≡ 48 + m.day % 10 → fits media (media_value m) ≡ true
    → new ≡ cond (10 =? length old) (m.maker ∷ a ∷ b ∷ c ∷ (48 + m.year) ∷ m.session ∷ m.mark.0 ∷ m.mark.1 ∷ m.mark.2 ∷ m.mark.3 ∷ []) old
    → new ≡ written media (media_value m) old
media-put m old new p q r h e =
    cases (length old =? 10)
    (λ k. now_written media (media_value m) old (to≡ k ∙ sym media_long) h (e ∙ rw (of≡ (sym (to≡ k)), p, q, r) (unfold render on_label media_value four_of in sym (ap (λ l. m.maker ∷ l) (put_three m.day _)))))
    (λ k. e ∙ rw (of≢ {m = 10} {n = length old} (λ z. no≡ k (sym z))) (kept-wide media (media_value m) old (λ z. no≡ k (z ∙ media_long))))

pub year_small : (m : Media) → fits media (media_value m) ≡ true → m.year ≤ 9
unfolding fits on_label media_value is_media
year_small m h = to≤ (both (both (both h).0).0).1
