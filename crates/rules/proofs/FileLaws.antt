-- A whole file: its lines, acceptance as tests of the lines and of the meaning, and demand 3.
use mathlib.Core.Path.{◌≡◌, refl, sym, ◌∙◌, ap, ap₂, subst}
use mathlib.Core.Logic.{◌↔◌}
use mathlib.Core.Bool.{Bool, true, false, cond, false≢true}
use mathlib.Core.List.{List, [], ◌∷◌, ◌++◌, append_assoc, append-nil, map}
use Prim.Native.Nat.{ℕ, zero, suc, ◌+◌, ◌-◌, ◌*◌, ◌/◌, ◌≤◌, ◌<◌}
use native.Mathlib.Omega.{arith}
use lib.ListN.{length, length-append, length-map, length-drop, take, drop, get_or, take-append-drop}
use lib.Seq.{take_at, drop_at, drop-drop, length-take-le, take-append-le, drop-append-le}
use lib.IntN.{pos}
use Rattle.rules.specs.Tests.{all, ◌&◌, ◌≤?◌, ◌=?◌}
use Rattle.rules.specs.Items.{num, value_of}
use Rattle.rules.specs.Fields.{Verdict, ok, fault, ◌⨾◌, check, is_ok}
use Rattle.rules.specs.Records.{Edition, sequence, code_at, judge_line, meaning, meant}
use Rattle.rules.specs.Files.{Result, accept, refuse, is_accept, in_record, and_then, line_at, begun, lines_from, lines, join, meanings, walk, refer, verdict, accepted, styles, house_style, rewritten, formed_lines, orderly}
use Rattle.rules.proofs.Truth.{both, and, to≤, to≡, of≡, map_at, &-sort, true_and}
use Rattle.rules.proofs.FieldLaws.{is_ok_⨾, is_ok_check}
use Rattle.rules.proofs.RecordLaws.{Sound, judge_line_splits, line_meant, line_long, style-meaning, style-formed, style-length, style-number}

-- ---- results
pub is_accept_lem : (v : Result) → is_accept v ≡ true → v ≡ accept
unfolding is_accept
is_accept_lem accept h = refl
is_accept_lem (refuse n r c) h = absurd (false≢true h)

pub in_record-accept : (r : ℕ) (v : Verdict) (q : Result) → is_accept (in_record r v q) ≡ is_ok v & is_accept q
unfolding is_accept in_record is_ok ◌&◌
in_record-accept r ok q = refl
in_record-accept r (fault n c) q = refl

pub then_accept : (p q : Result) → is_accept (and_then p q) ≡ is_accept p & is_accept q
unfolding is_accept and_then ◌&◌
then_accept accept q = refl
then_accept (refuse n r c) q = refl

final : (b : Bool) (n r c : ℕ) → is_accept (cond b accept (refuse n r c)) ≡ b
unfolding is_accept
final true n r c = refl
final false n r c = refl

-- ---- lines of 81 bytes
unfoldable pub is_line : List ℕ → Bool
is_line l = length l =? 81

pub length-join : (ls : List (List ℕ)) → all is_line ls ≡ true → length (join ls) ≡ 81 * length ls
unfolding join all is_line
length-join [] h = refl
length-join (l ∷ ls) h = length-append l (join ls) ∙ omega (arith, to≡ (both h).0, length-join ls (both h).1)

-- the lines from i on of lines put together behind i lines
join-lines : (p : List ℕ) (i : ℕ) (ls : List (List ℕ)) → length p ≡ 81 * i → all is_line ls ≡ true → lines_from (p ++ join ls) (length ls) i ≡ ls
unfolding join all is_line lines_from line_at
join-lines p i [] e h = refl
join-lines p i (l ∷ ls) e h =
    let here : take 81 (drop (81 * i) (p ++ (l ++ join ls))) ≡ l = ap (take 81) (drop_at p (l ++ join ls) (81 * i) e) ∙ take_at l (join ls) 81 (to≡ (both h).0) in
    let far : length (p ++ l) ≡ 81 * (i + 1) = length-append p l ∙ omega (arith, to≡ (both h).0) in
    ap₂ ◌∷◌ here (ap (λ z. lines_from z (length ls) (i + 1)) (sym (append_assoc p l (join ls))) ∙ join-lines (p ++ l) (i + 1) ls far (both h).1)

pub lines_join : (ls : List (List ℕ)) → all is_line ls ≡ true → lines (join ls) ≡ ls
unfolding lines begun
lines_join ls h =
    ap (λ n. lines_from (join ls) n 0) (count (length ls) (length (join ls)) (length-join ls h)) ∙ join-lines [] 0 ls refl h
  where
    count : (k n : ℕ) → n ≡ 81 * k → (n + 80) / 81 ≡ k
    count k n e = omega arith

-- one line after another, as a loop meets them
length-lines : (f : List ℕ) (n i : ℕ) → length (lines_from f n i) ≡ n
unfolding lines_from
length-lines f zero i = refl
length-lines f (suc n) i = ap suc (length-lines f n (i + 1))

pub records : (f : List ℕ) → length (lines f) ≡ begun f
unfolding lines
records f = length-lines f (begun f) 0

pub lines_more : (f : List ℕ) (n i : ℕ) → i < n → lines_from f (n - i) i ≡ line_at f i ∷ lines_from f (n - (i + 1)) (i + 1)
unfolding lines_from
lines_more f n i h = ap (λ k. lines_from f k i) e
  where
    e : n - i ≡ suc (n - (i + 1))
    e = omega arith

pub lines_none : (f : List ℕ) (n i : ℕ) → n ≤ i → lines_from f (n - i) i ≡ []
unfolding lines_from
lines_none f n i h = ap (λ k. lines_from f k i) e
  where
    e : n - i ≡ 0
    e = omega arith

lines_at : (f : List ℕ) (n i k : ℕ) → k < n → get_or (lines_from f n i) k [] ≡ line_at f (i + k)
unfolding lines_from
lines_at f zero i k h = absurd (omega arith)
lines_at f (suc n) i zero h = ap (line_at f) (omega arith)
lines_at f (suc n) i (suc k) h = lines_at f n (i + 1) k (omega arith) ∙ ap (line_at f) (omega arith)

-- line i of a file, counted from 0
pub line_at_lem : (f : List ℕ) (i : ℕ) → i < begun f → get_or (lines f) i [] ≡ line_at f i
unfolding lines
line_at_lem f i h = lines_at f (begun f) 0 i h ∙ ap (line_at f) (omega arith)

-- lines of 81 bytes that are made of the members of a list, put together: that of each stands at its place
module _ {A : Type 0} (make : A → List ℕ) (xs : List A) (h : all is_line (map make xs) ≡ true) where
  pub made_long : length (join (map make xs)) ≡ 81 * length xs
  made_long = length-join (map make xs) h ∙ ap (λ n. 81 * n) (length-map xs make)

  pub made_lines : lines (join (map make xs)) ≡ map make xs
  made_lines = lines_join (map make xs) h

  pub made_at : (d : A) (i : ℕ) → i < length xs → line_at (join (map make xs)) i ≡ make (get_or xs i d)
  made_at d i k =
      sym (line_at_lem (join (map make xs)) i (rw as_many k)) ∙ ap (λ ls. get_or ls i []) made_lines ∙ map_at make xs d [] i k
    where
      as_many : begun (join (map make xs)) ≡ length xs
      as_many = sym (records (join (map make xs))) ∙ ap length made_lines ∙ length-map xs make

-- a line of the first of two parts is that line of both together
pub line_within : (x y : List ℕ) (i : ℕ) → 81 * i + 81 ≤ length x → line_at (x ++ y) i ≡ line_at x i
unfolding line_at
line_within x y i h =
    ap (take 81) (drop-append-le (81 * i) x y (omega (arith, h))) ∙ take-append-le 81 (drop (81 * i) x) y (omega (arith, h, length-drop (81 * i) x))

-- a line of more than 80 bytes is there to its end
pub length-take_most : (n : ℕ) (l : List ℕ) → length (take n l) ≤ n
length-take_most zero l = omega arith
length-take_most (suc n) [] = omega arith
length-take_most (suc n) (b ∷ l) = omega (arith, length-take_most n l)

length-take-least : (k n : ℕ) (l : List ℕ) → k < length (take n l) → k < length l
length-take-least k zero l h = absurd (omega arith)
length-take-least k (suc n) [] h = absurd (omega arith)
length-take-least zero (suc n) (b ∷ l) h = omega arith
length-take-least (suc k) (suc n) (b ∷ l) h = let j : k < length l = length-take-least k n l (omega arith) in omega arith

pub reaches : (f : List ℕ) (i : ℕ) → 80 < length (line_at f i) → 80 < length f - 81 * i
unfolding line_at
reaches f i h = subst (λ n. 80 < n) (length-drop (81 * i) f) (length-take-least 80 81 (drop (81 * i) f) h)

-- a line laid into a part of 81 bytes from place a on: what stands before it and behind it stays
module _ (o : List ℕ) (a : ℕ) (s : List ℕ) (long : length s ≡ 81) (room : a + 81 ≤ length o) where
  front : length (take a o) ≡ a
  front = length-take-le a o (omega arith)

  both_long : length (take a o ++ s) ≡ a + 81
  both_long = length-append (take a o) s ∙ ap₂ ◌+◌ front long

  pub laid-take : take (a + 81) (take a o ++ (s ++ drop 81 (drop a o))) ≡ take a o ++ s
  laid-take = ap (take (a + 81)) (sym (append_assoc (take a o) s (drop 81 (drop a o)))) ∙ take_at (take a o ++ s) (drop 81 (drop a o)) (a + 81) both_long

  pub laid-drop : drop (a + 81) (take a o ++ (s ++ drop 81 (drop a o))) ≡ drop (a + 81) o
  laid-drop =
      ap (drop (a + 81)) (sym (append_assoc (take a o) s (drop 81 (drop a o)))) ∙ drop_at (take a o ++ s) (drop 81 (drop a o)) (a + 81) both_long
      ∙ drop-drop 81 a o

  pub laid_size : length (take a o ++ (s ++ drop 81 (drop a o))) ≡ length o
  laid_size =
      length-append (take a o) (s ++ drop 81 (drop a o))
      ∙ ap₂ ◌+◌ front (length-append s (drop 81 (drop a o)) ∙ ap₂ ◌+◌ long (length-drop 81 (drop a o) ∙ ap (λ n. n - 81) (length-drop a o)))
      ∙ omega arith

-- lines laid one after another: what is laid so far, with the lines that are left, is the whole, and what stands behind is as it was
pub record Laid (whole o₀ o : List ℕ) (i : ℕ) (left : List (List ℕ)) : Type 0 where
  pub size : length o ≡ length o₀
  pub laid : take (81 * i) o ++ join left ≡ whole
  pub rest : drop (81 * i) o ≡ drop (81 * i) o₀

pub laid_next : (whole o₀ o : List ℕ) (i : ℕ) (s : List ℕ) (left : List (List ℕ)) → Laid whole o₀ o i (s ∷ left) → length s ≡ 81 → 81 * i + 81 ≤ length o
    → Laid whole o₀ (take (81 * i) o ++ (s ++ drop 81 (drop (81 * i) o))) (i + 1) left
unfolding join
laid_next whole o₀ o i s left g long room = record {
  size = laid_size o (81 * i) s long room ∙ g.size;
  laid = ap (λ (t : List ℕ). t ++ join left) begin ∙ append_assoc (take (81 * i) o) s (join left) ∙ g.laid;
  rest = end;
}
  where
    next : 81 * (i + 1) ≡ 81 * i + 81
    next = omega arith

    begin : take (81 * (i + 1)) (take (81 * i) o ++ (s ++ drop 81 (drop (81 * i) o))) ≡ take (81 * i) o ++ s
    begin = ap (λ k. take k (take (81 * i) o ++ (s ++ drop 81 (drop (81 * i) o)))) next ∙ laid-take o (81 * i) s long room

    end : drop (81 * (i + 1)) (take (81 * i) o ++ (s ++ drop 81 (drop (81 * i) o))) ≡ drop (81 * (i + 1)) o₀
    end =
        ap (λ k. drop k (take (81 * i) o ++ (s ++ drop 81 (drop (81 * i) o)))) next ∙ laid-drop o (81 * i) s long room
        ∙ sym (drop-drop 81 (81 * i) o) ∙ ap (drop 81) g.rest ∙ drop-drop 81 (81 * i) o₀ ∙ ap (λ k. drop k o₀) (sym next)

pub laid_done : (whole o₀ o : List ℕ) (i : ℕ) → Laid whole o₀ o i [] → o ≡ whole ++ drop (81 * i) o₀
unfolding join
laid_done whole o₀ o i g = sym (take-append-drop (81 * i) o) ∙ ap₂ ◌++◌ (sym (append-nil (take (81 * i) o)) ∙ g.laid) g.rest

module _ {S : Type 0} (E : Edition S) where
  -- ---- acceptance splits into a test of the lines and tests of the meaning
  arrange : (a b c d e : Bool) → a & (b & c) & (d & e) ≡ a & b & d & (c & e)
  arrange a b c d e = simp &-sort

  pub walk_splits : (s : S) (r : ℕ) (ls : List (List ℕ)) → is_accept (walk E s r ls) ≡ formed_lines E r ls & orderly E s (map (meaning E) ls)
  unfolding walk formed_lines orderly
  walk_splits s r [] = final (E.ends s) 8 r 1 ∙ sym (true_and (E.ends s))
  walk_splits s r (l ∷ ls) =
      in_record-accept r (check (r ≤? 99_999) 2 1 ⨾ judge_line E s l) _
      ∙ rw (is_ok_⨾, is_ok_check, judge_line_splits E s l, walk_splits (E.next s (meaning E l)) (r + 1) ls) (arrange _ _ _ _ _)

  pub accepted_splits : (f : List ℕ)
      → accepted E f ≡ formed_lines E 1 (lines f) & orderly E E.start (meanings E f) & is_accept (refer E (meanings E f) 1 (meanings E f))
  unfolding accepted verdict meanings
  accepted_splits f = then_accept _ _ ∙ rw (walk_splits E.start 1 (lines f))

  pub accepted-parts : (f : List ℕ) → accepted E f ≡ true
      → (formed_lines E 1 (lines f) ≡ true) × (orderly E E.start (meanings E f) ≡ true) × (is_accept (refer E (meanings E f) 1 (meanings E f)) ≡ true)
  accepted-parts f h = let parts = both (sym (accepted_splits f) ∙ h) in ((both parts.0).0, (both parts.0).1, parts.1)

  -- every record of a file with formed lines is one that can be meant
  pub formed-meant : (r : ℕ) (ls : List (List ℕ)) → formed_lines E r ls ≡ true → all (meant E) (map (meaning E) ls) ≡ true
  unfolding formed_lines all
  formed-meant r [] h = refl
  formed-meant r (l ∷ ls) h = and (line_meant E l (both (both h).0).1) (formed-meant (r + 1) ls (both h).1)

  pub accepted-meant : (f : List ℕ) → accepted E f ≡ true → all (meant E) (meanings E f) ≡ true
  unfolding meanings
  accepted-meant f h = formed-meant 1 (lines f) (accepted-parts f h).0

  -- ---- the lines of a rewritten file
  module _ (sound : Sound E) where
    styled_formed : (r : ℕ) (ls : List (List ℕ)) → 1 ≤ r → formed_lines E r ls ≡ true → formed_lines E r (styles E r (map (meaning E) ls)) ≡ true
    unfolding formed_lines styles
    styled_formed r [] p h = refl
    styled_formed r (l ∷ ls) p h =
        and (and (both (both h).0).0 (style-formed E sound r (meaning E l) (line_meant E l (both (both h).0).1) p (to≤ (both (both h).0).0)))
        (styled_formed (r + 1) ls (omega arith) (both h).1)

    styled_means : (r : ℕ) (ls : List (List ℕ)) → 1 ≤ r → formed_lines E r ls ≡ true → map (meaning E) (styles E r (map (meaning E) ls)) ≡ map (meaning E) ls
    unfolding formed_lines styles
    styled_means r [] p h = refl
    styled_means r (l ∷ ls) p h =
        ap₂ ◌∷◌ (style-meaning E sound r (meaning E l) (line_meant E l (both (both h).0).1) p (to≤ (both (both h).0).0))
        (styled_means (r + 1) ls (omega arith) (both h).1)

    styled_lines : (r : ℕ) (ls : List (List ℕ)) → 1 ≤ r → formed_lines E r ls ≡ true → all is_line (styles E r (map (meaning E) ls)) ≡ true
    unfolding formed_lines styles all is_line
    styled_lines r [] p h = refl
    styled_lines r (l ∷ ls) p h =
        and (of≡ (style-length E sound r (meaning E l) (line_meant E l (both (both h).0).1) p (to≤ (both (both h).0).0)))
        (styled_lines (r + 1) ls (omega arith) (both h).1)

    styled_number : (r : ℕ) (ls : List (List ℕ)) → 1 ≤ r → formed_lines E r ls ≡ true → (i : ℕ) → i < length ls
        → value_of sequence (take 6 (get_or (styles E r (map (meaning E) ls)) i [])) ≡ num (pos (10 * (r + i)))
    unfolding formed_lines styles
    styled_number r [] p h i k = absurd (omega arith)
    styled_number r (l ∷ ls) p h zero k =
        style-number E sound r (meaning E l) (line_meant E l (both (both h).0).1) p (to≤ (both (both h).0).0) ∙ ap (λ n. num (pos n)) (omega arith)
    styled_number r (l ∷ ls) p h (suc i) k =
        styled_number (r + 1) ls (omega arith) (both h).1 i (omega arith) ∙ ap (λ n. num (pos n)) (omega arith)

  codes_of : (ls : List (List ℕ)) → map (λ m. m.code) (map (meaning E) ls) ≡ map code_at ls
  unfolding meaning
  codes_of [] = refl
  codes_of (l ∷ ls) = ap₂ ◌∷◌ refl (codes_of ls)

  -- formed lines are whole, so the file ends with a whole line
  formed_last : (f : List ℕ) (n i r : ℕ) → formed_lines E r (lines_from f (suc n) i) ≡ true → 80 < length (line_at f (i + n))
  unfolding formed_lines lines_from
  formed_last f zero i r h = let e : line_at f i ≡ line_at f (i + 0) = ap (line_at f) (omega arith) in subst (λ l. 80 < length l) e (line_long E (line_at f i) (both (both h).0).1)
  formed_last f (suc n) i r h =
      let e : line_at f (i + 1 + n) ≡ line_at f (i + suc n) = ap (line_at f) (omega arith) in
      subst (λ l. 80 < length l) e (formed_last f n (i + 1) (r + 1) (both h).1)

  whole_by : (f : List ℕ) (n r : ℕ) → begun f ≡ n → formed_lines E r (lines_from f n 0) ≡ true → length f ≡ 81 * n
  unfolding begun
  whole_by f zero r e h = omega arith
  whole_by f (suc n) r e h =
      let same : 0 + n ≡ n = omega arith in
      let long : 80 < length f - 81 * n = reaches f n (subst (λ i. 80 < length (line_at f i)) same (formed_last f n 0 r h)) in
      omega arith

  pub formed_whole : (f : List ℕ) (r : ℕ) → formed_lines E r (lines f) ≡ true → length f ≡ 81 * length (lines f)
  unfolding lines
  formed_whole f r h = whole_by f (begun f) r refl h ∙ ap (λ n. 81 * n) (sym (records f))

  -- ---- demand 3
  module _ (sound : Sound E) (f : List ℕ) (h : accepted E f ≡ true) where
    form : formed_lines E 1 (lines f) ≡ true
    form = (accepted-parts f h).0

    pub lines-rewritten : lines (rewritten E f) ≡ styles E 1 (meanings E f)
    unfolding rewritten house_style meanings
    lines-rewritten = lines_join (styles E 1 (meanings E f)) (styled_lines sound 1 (lines f) (omega arith) form)

    pub keeps_meaning : meanings E (rewritten E f) ≡ meanings E f
    unfolding meanings
    keeps_meaning = ap (map (meaning E)) lines-rewritten ∙ styled_means sound 1 (lines f) (omega arith) form

    styled : formed_lines E 1 (styles E 1 (meanings E f)) ≡ true
    unfolding meanings
    styled = styled_formed sound 1 (lines f) (omega arith) form

    pub keeps_accepted : accepted E (rewritten E f) ≡ true
    keeps_accepted =
        accepted_splits (rewritten E f)
        ∙ rw (lines-rewritten, keeps_meaning) (and (and styled (accepted-parts f h).1) (accepted-parts f h).2)

    pub settled : rewritten E (rewritten E f) ≡ rewritten E f
    unfolding rewritten
    settled = ap (house_style E) keeps_meaning

    pub keeps_codes : map code_at (lines (rewritten E f)) ≡ map code_at (lines f)
    unfolding meanings
    keeps_codes = sym (codes_of (lines (rewritten E f))) ∙ ap (map (λ m. m.code)) keeps_meaning ∙ codes_of (lines f)

    pub keeps_records : length (lines (rewritten E f)) ≡ length (lines f)
    unfolding meanings
    keeps_records = sym (length-map (lines (rewritten E f)) (meaning E)) ∙ ap length keeps_meaning ∙ length-map (lines f) (meaning E)

    -- an accepted file is whole lines, and so is its rewriting
    pub accepted_whole : length f ≡ 81 * length (lines f)
    accepted_whole = formed_whole f 1 form

    pub keeps_length : length (rewritten E f) ≡ length f
    keeps_length = formed_whole (rewritten E f) 1 (accepted-parts (rewritten E f) keeps_accepted).0 ∙ ap (λ n. 81 * n) keeps_records ∙ sym accepted_whole

    pub numbered_anew : (i : ℕ) → i < length (lines f) → value_of sequence (take 6 (get_or (lines (rewritten E f)) i [])) ≡ num (pos (10 * (1 + i)))
    unfolding meanings
    numbered_anew i k = rw lines-rewritten (styled_number sound 1 (lines f) (omega arith) form i k)

  pub same_style_same_meaning : Sound E → (a b : List ℕ) → accepted E a ≡ true → accepted E b ≡ true → (rewritten E a ≡ rewritten E b) ↔ (meanings E a ≡ meanings E b)
  unfolding rewritten
  same_style_same_meaning sound a b h k =
      ((λ e. sym (keeps_meaning sound a h) ∙ ap (meanings E) e ∙ keeps_meaning sound b k), (λ e. ap (house_style E) e))
