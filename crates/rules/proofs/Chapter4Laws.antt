-- Chapter 4 is a sound edition: its codes have four characters, its layouts fill columns 11-80, its references are judged in the paper's order.
use mathlib.Core.Path.{◌≡◌, refl, sym, ◌∙◌, ap, ap₂}
use mathlib.Core.Bool.{true}
use mathlib.Core.Logic.{inl, inr}
use mathlib.Core.List.{List, [], ◌∷◌, ◌++◌, map}
use Prim.Native.Nat.{ℕ, suc, ◌+◌, ◌-◌, ◌≤◌, ◌<◌}
use native.Mathlib.Omega.{arith}
use lib.ListN.{length, length-append, take, drop, get_or}
use lib.Seq.{drop-drop}
use Rattle.rules.specs.Tests.{all, within, ◌&◌, ◌≤?◌, ◌=?◌}
use Rattle.rules.specs.Characters.{is_printable, any_of, letter, digit, ◌or◌}
use Rattle.rules.specs.Items.{columns, width, value_of}
use Rattle.rules.specs.Fields.{Field, columns_of, values, covers}
use Rattle.rules.specs.Records.{code_at, meaning}
use Rattle.rules.specs.Files.{lines, meanings}
use Rattle.rules.specs.Digits.{put}
use Rattle.rules.specs.Forms.{Code}
use Rattle.rules.specs.Kinds.{data_codes, kind_of, known}
use Rattle.rules.specs.Layouts.{kept, layouts, layout}
use Rattle.rules.specs.Order.{may_come, place_named, place_after, ruled, order, goto}
use Rattle.rules.specs.References.{ref_checks}
use Rattle.rules.specs.Faults.{stage, phase}
use Rattle.rules.specs.Chapter4.{chapter4}
use Rattle.rules.proofs.Truth.{all_append, under, tried, both, and, to≡, all_get_d}
use Rattle.rules.proofs.Lawful.{digits-printable, member-printable}
use Rattle.rules.proofs.DigitLaws.{length-put, digits-put}
use Rattle.rules.proofs.SetLaws.{of_set}
use Rattle.rules.proofs.SpellLaws.{code_iff}
use Rattle.rules.proofs.RecordLaws.{Sound}
use Rattle.rules.proofs.FaultLaws.{sorted, before_all}
use Rattle.rules.proofs.FileFaults.{SoundRefs, all_late}

-- ---- each layout covers columns 11-80 without gap or overlap: one computed test over all of them
layouts_cover : all (covers 11) layouts ≡ true
unfolding all covers layouts width columns ◌=?◌ ◌≤?◌ ◌&◌
layouts_cover = refl

kept-covers : covers 11 kept ≡ true
unfolding covers width ◌=?◌ ◌≤?◌ ◌&◌
kept-covers = refl

pub layout-covers : (c : List ℕ) → covers 11 (layout c) ≡ true
unfolding layout
layout-covers c = all_get_d (covers 11) layouts kept (kind_of c) layouts_cover kept-covers

-- ---- a known code is four printable characters
star : is_printable 42 ≡ true
unfolding is_printable within ◌≤?◌ ◌&◌
star = refl

code-four : (c : List ℕ) (k : ℕ) → Code c k → (length c ≡ 4) × (all is_printable c ≡ true)
unfolding Code all
code-four c k (inl (e, a, b, q, x, y)) =
    rw q (refl, and star (and (member-printable letter a (of_set letter a x)) (and (member-printable (letter or digit) b (of_set (letter or digit) b y)) (and star refl))))
code-four c k (inr (least, most, q)) =
    let n = get_or data_codes (k - 1) 0 in
    let size : length (put 2 n ++ 42 ∷ []) ≡ 3 = length-append (put 2 n) (42 ∷ []) ∙ omega (arith, length-put 2 n) in
    rw q (ap suc size, and star (all_append is_printable (put 2 n) (42 ∷ []) (digits-printable (put 2 n) (digits-put 2 n)) (and star refl)))

known-four : (c : List ℕ) → known c ≡ true → (length c ≡ 4) × (all is_printable c ≡ true)
known-four c h = code-four c (kind_of c) ((code_iff c (kind_of c)).0 (h, refl))

pub sound : Sound chapter4
sound = record { four = known-four; filled = λ c h. layout-covers c }

pub sound_refs : SoundRefs chapter4
sound_refs = record {
  in_order = λ file r m. unfold sorted before_all ref_checks stage ◌=?◌ ◌≤?◌ ◌&◌ in refl;
  late = λ file r m. unfold all_late ref_checks phase stage ◌=?◌ ◌≤?◌ ◌&◌ in refl;
}

-- ---- the array of rows is the paper's table: one computed test over all places and kinds, and a lemma that holds for any table
order-agrees : all (λ p. all (λ k. goto order p k =? ruled p k) (under 14)) (under 17) ≡ true
unfolding all under goto ruled order may_come place_after place_named any_of ◌=?◌ ◌&◌
order-agrees = refl

pub order_is_the_table : (place kind : ℕ) → place < 17 → kind < 14 → goto order place kind ≡ ruled place kind
order_is_the_table place kind p k = to≡ (tried _ 14 kind (tried _ 17 place order-agrees p) k)

-- ---- columns 1-6 have no meaning: lines that differ in them only mean the same, and so do files
columns-behind : (f : Field) (l k : List ℕ) → 7 ≤ f.from → drop 6 l ≡ drop 6 k → columns_of f l ≡ columns_of f k
unfolding columns_of
columns-behind f l k h e =
    let far : f.from - 1 ≡ 6 + (f.from - 7) = omega arith in
    ap (take (width f.item)) (ap (λ n. drop n l) far ∙ sym (drop-drop (f.from - 7) 6 l) ∙ ap (drop (f.from - 7)) e ∙ drop-drop (f.from - 7) 6 k ∙ ap (λ n. drop n k) (sym far))

values-behind : (c : ℕ) (fs : List Field) (l k : List ℕ) → 7 ≤ c → covers c fs ≡ true → drop 6 l ≡ drop 6 k → values fs l ≡ values fs k
unfolding covers values
values-behind c [] l k h t e = refl
values-behind c (f ∷ fs) l k h t e =
    let from : f.from ≡ c = to≡ (both (both t).0).0 in
    ap₂ ◌∷◌ (ap (value_of f.item) (columns-behind f l k (omega arith) e)) (values-behind (c + width f.item) fs l k (omega arith) (both t).1 e)

pub same_but_number : (l k : List ℕ) → drop 6 l ≡ drop 6 k → meaning chapter4 l ≡ meaning chapter4 k
unfolding meaning code_at
same_but_number l k e =
    let code : code_at l ≡ code_at k = unfold code_at in ap (take 4) e in
    ap₂ (λ c vs. record { code = c; values = vs }) code (ap (λ c. values (layout c) l) code ∙ values-behind 11 (layout (code_at k)) l k (omega arith) (layout-covers (code_at k)) e)

behind_numbers : (ls ks : List (List ℕ)) → map (drop 6) ls ≡ map (drop 6) ks → map (meaning chapter4) ls ≡ map (meaning chapter4) ks
behind_numbers [] [] e = refl
behind_numbers [] (k ∷ ks) e = absurd (let n : 0 ≡ suc (length (map (drop 6) ks)) = ap length e in omega arith)
behind_numbers (l ∷ ls) [] e = absurd (let n : suc (length (map (drop 6) ls)) ≡ 0 = ap length e in omega arith)
behind_numbers (l ∷ ls) (k ∷ ks) e = ap₂ ◌∷◌ (same_but_number l k (ap (λ xs. get_or xs 0 []) e)) (behind_numbers ls ks (ap (drop 1) e))

pub same_but_numbers : (f g : List ℕ) → map (drop 6) (lines f) ≡ map (drop 6) (lines g) → meanings chapter4 f ≡ meanings chapter4 g
unfolding meanings
same_but_numbers f g e = behind_numbers (lines f) (lines g) e
