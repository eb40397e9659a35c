-- Words put into lent memory: nothing where the answer is too short, else from the first word on.
use mathlib.Core.Path.{◌≡◌, refl, sym, ◌∙◌, ap}
use mathlib.Core.List.{List, [], ◌∷◌, ◌++◌, append-nil}
use Prim.Native.Nat.{ℕ, ◌+◌, ◌-◌, ◌*◌, ◌≤◌, ◌<◌}
use native.Mathlib.Omega.{arith}
use lib.ListN.{replicate, length, drop, set, length-take, length-drop, drop_of_length-le}
use lib.Seq.{drop-drop}
use borrow.Rule.Slice.PartMut.{put_mid}
use Rattle.std.specs.Prelude.{Result, Ok, Err}
use Rattle.std.specs.Result.{result_unwrap_or}
use Rattle.rules.specs.Tests.{◌=?◌}
use Rattle.rules.specs.Calls.{field_offset, field_of, width_asked}
use Rattle.rules.proofs.Truth.{of≤, of>, to≡, no≡, above_0, cases}
use Rattle.reading.proofs.CallLaws.{inside, room, empty_offset, some_offset}
use Rattle.kinds.specs.declared.Fault.{Fault}
use Rattle.answers.specs.Answers.{answered, touched, fault_words, fault_in, counts_in, lines_in, checked_words, padded_words, field_words}

-- ---- too short an answer, and one that is long enough
module _ {A : Type 0} (n : ℕ) (old : List A) where
  pub short_answer : length old < n → (ws : List A) → old ≡ answered n ws old
  unfolding answered
  short_answer h ws = rw (of> h)

  pub long_answer : n ≤ length old → (u ws : List A) → u ≡ ws → u ++ drop n old ≡ answered n ws old
  unfolding answered
  long_answer h u ws e = rw (of≤ h, e)

  pub untouched : length old < n → (after before : List ℕ) → before ≡ touched n old after before
  unfolding touched
  untouched h after before = rw (of> h)

  pub long_touched : n ≤ length old → (u after before : List ℕ) → u ≡ after → u ≡ touched n old after before
  unfolding touched
  long_touched h u after before e = e ∙ rw (of≤ h)

-- ---- form and rewrite
pub checked_answer : (old : List ℕ) → 17 ≤ length old → (v w : Result (List ℕ) Fault) → v ≡ w → (u : List ℕ) → u ≡ checked_words v → u ++ drop 17 old ≡ answered 17 (checked_words w) old
checked_answer old h v w e u q = long_answer 17 old h u (checked_words w) (q ∙ ap checked_words e)

three-words : (old : List ℕ) (a b c : ℕ) → length old ≡ 3 → set (set (set old 0 a) 1 b) 2 c ≡ a ∷ b ∷ c ∷ []
three-words [] a b c h = absurd (omega arith)
three-words (x ∷ []) a b c h = absurd (omega arith)
three-words (x ∷ y ∷ []) a b c h = absurd (omega arith)
three-words (x ∷ y ∷ z ∷ []) a b c h = refl
three-words (x ∷ y ∷ z ∷ w ∷ old) a b c h = absurd (omega arith)

pub fault_words_lem : (old : List ℕ) (f : Fault) → length old ≡ 3 → set (set (set old 0 f.number) 1 f.«record») 2 f.column ≡ fault_words f
unfolding fault_words
fault_words_lem old f h = three-words old _ _ _ h

pub told_good : {T : Type 0} {v : Result T Fault} {x : T} → v ≡ Ok x → {g : Fault} → g ≡ record { number = 0; «record» = 0; column = 0 } → g ≡ fault_in v
unfolding fault_in
told_good e z = rw (e, z)

pub told_bad : {T : Type 0} {v : Result T Fault} (g : Fault) → v ≡ Err g → g ≡ fault_in v
unfolding fault_in
told_bad g e = rw e

counts_is : (v : Result (List ℕ) Fault) → result_unwrap_or v (replicate 14 0) ≡ counts_in v
unfolding counts_in
counts_is (Ok cs) = refl
counts_is (Err g) = refl

lines_is : (v : Result ℕ Fault) → result_unwrap_or v 0 ≡ lines_in v
unfolding lines_in
lines_is (Ok n) = refl
lines_is (Err g) = refl

pub counts_fourteen : (v : Result (List ℕ) Fault) → length (counts_in v) ≡ 14 → (cs : List ℕ) → cs ≡ result_unwrap_or v (replicate 14 0) → length cs ≡ 14
counts_fourteen v h cs e = ap length (e ∙ counts_is v) ∙ h

pub checked_words_lem : (old xs ys : List ℕ) (v : Result (List ℕ) Fault) → length old ≡ 17 → (g : Fault) → g ≡ fault_in v → xs ≡ fault_words g → (cs : List ℕ) → cs ≡ result_unwrap_or v (replicate 14 0) → ys ≡ cs
    → length (counts_in v) ≡ 14 → put_mid 3 14 (put_mid 0 3 old xs) ys ≡ checked_words v
unfolding checked_words fault_words
checked_words_lem old xs ys v h g z p cs y q k =
    let last : drop 14 (drop 3 old) ≡ [] = drop-drop 14 3 old ∙ drop_of_length-le old {i = 17} (omega arith) in
    let all : ys ≡ counts_in v = q ∙ y ∙ counts_is v in
    rw (p, z, all, last, append-nil {A = ℕ})

pub padded-words : (old xs : List ℕ) (v : Result ℕ Fault) → length old ≡ 4 → (g : Fault) → g ≡ fault_in v → xs ≡ fault_words g → (n : ℕ) → n ≡ result_unwrap_or v 0 → set (put_mid 0 3 old xs) 3 n ≡ padded_words v
unfolding padded_words fault_words
padded-words [] xs v h g z p n q = absurd (omega arith)
padded-words (a ∷ []) xs v h g z p n q = absurd (omega arith)
padded-words (a ∷ b ∷ []) xs v h g z p n q = absurd (omega arith)
padded-words (a ∷ b ∷ c ∷ []) xs v h g z p n q = absurd (omega arith)
padded-words (a ∷ b ∷ c ∷ d ∷ []) xs v h g z p n q = rw (p, z, q, lines_is v)
padded-words (a ∷ b ∷ c ∷ d ∷ e ∷ old) xs v h g z p n q = absurd (omega arith)

-- ---- field
field_width_lem : (f : List ℕ) (r c : ℕ) → length (field_of f r c) ≡ width_asked f r c
unfolding field_of
field_width_lem f r c =
    cases (width_asked f r c =? 0)
    (λ e. rw (to≡ e))
    (λ e.
    let h : width_asked f r c ≡ 0 → ⊥ = no≡ e in
    let k = inside f r c (above_0 (width_asked f r c) h) in
    simp (length-take, length-drop, ← some_offset f r c (width_asked f r c) refl h) (omega (arith, k.3)))

two-words : (old : List ℕ) (a b : ℕ) → 2 ≤ length old → set (set old 0 a) 1 b ≡ a ∷ b ∷ drop 2 old
two-words [] a b h = absurd (omega arith)
two-words (x ∷ []) a b h = absurd (omega arith)
two-words (x ∷ y ∷ old) a b h = refl

wide : (f : List ℕ) (r c : ℕ) (p : List ℕ) → p ≡ field_of f r c → length p ≡ width_asked f r c
wide f r c p e = ap length e ∙ field_width_lem f r c

module _ (f : List ℕ) (r c : ℕ) (old : List ℕ) (h : 2 ≤ length old) (p : List ℕ) (e : p ≡ field_of f r c) where
  field_words_lem : (a : ℕ) → a ≡ field_offset f r c → set (set old 0 a) 1 (length p) ≡ answered 2 (field_words f r c) old
  field_words_lem a q = two-words old a (length p) h ∙ long_answer 2 old h (a ∷ length p ∷ []) (field_words f r c) (unfold field_words in rw (q, e))

  pub field_none : length p ≡ 0 → set (set old 0 0) 1 0 ≡ answered 2 (field_words f r c) old
  field_none z = ap (λ n. set (set old 0 0) 1 n) (sym z) ∙ field_words_lem 0 (empty_offset f r c (length p) (wide f r c p e) z)

  pub field_some : (length p ≡ 0 → ⊥) → set (set old 0 (81 * (r - 1) + (c - 1))) 1 (length p) ≡ answered 2 (field_words f r c) old
  field_some z = field_words_lem (81 * (r - 1) + (c - 1)) (some_offset f r c (length p) (wide f r c p e) z)

module _ (f : List ℕ) (r c : ℕ) (p : List ℕ) (e : p ≡ field_of f r c) (h : length p ≡ 0 → ⊥) where
  pub field_row : 1 ≤ r
  field_row = (room f r c (length p) (wide f r c p e) h).0

  pub field_column : 1 ≤ c
  field_column = omega (arith, (room f r c (length p) (wide f r c p e) h).1)
