-- The loops turn by turn: what is still to do from here, with what was done, is what was to do at the start. Each law is over plain lists and numbers. Assumes nothing.
use mathlib.Core.Path.{◌≡◌, refl, sym, ◌∙◌}
use mathlib.Core.Bool.{Bool, true, false, cond, not, ◌&&◌, ◌||◌, and_assoc, and-true, or-false}
use mathlib.Core.List.{List, [], ◌∷◌, ◌++◌, append_assoc, append-nil}
use Prim.Native.Nat.{ℕ, zero, suc, ◌+◌, ◌-◌, ◌*◌, ◌/◌, ◌%◌, ◌^◌, ◌≤◌, ◌<◌}
use native.Mathlib.Nat.{le_refl, pow-suc, pow-le-pow_right}
use native.Mathlib.Numerals.{add-one}
use native.Mathlib.Omega.{arith}
use lib.Dec.{leb, eqb, lit≤}
use lib.ListN.{length, get_or, set, take, drop, drop_of_length-le}
use lib.Seq.{drop-length, drop-cons, take_all, get_or-set_same, drop-set-lt, lt-length-set, take-suc-set}
use borrow.Author.Tests.{eqb-true, ne_eqb}
use denote.Param.Members.{Mut}
use denote.Ref.{Bor}
use Rattle.std.specs.declared.slice.Iter.{Iter}
use Rattle.std.proofs.iter.Yields.{fronts}
use Rattle.std.specs.Slice.Iter.{iter_rest}
use Rattle.std.specs.Iterator.{Drains}
use Rattle.std.specs.Fn.{Called}
use Rattle.std.specs.List.{fold, FoldsTo}
use Rattle.std.proofs.lemmas.Iterator.{YieldsList-from_slice}
use Rattle.std.proofs.lemmas.Iterator.Consumers.{fold_from_yields_List}
use Rattle.rules.specs.Tests.{◌&◌, ◌≤?◌, ◌=?◌, within, all}
use Rattle.rules.specs.Characters.{is_blank, is_digit, any_of}
use Rattle.rules.specs.Digits.{val, put}
use Rattle.rules.specs.Items.{minus}
use Rattle.columns.specs.Leaves.{formed}

-- the code's test of two is the definitions'
pub &_is : (a b : Bool) → (a & b) ≡ (a && b)
unfolding ◌&◌
&_is true b = refl
&_is false b = refl

-- a chain that tests every column, whatever it tests: the closure's test is p
all_from : (p : ℕ → Bool) (good : Bool) (bs : List ℕ) → fold (λ g b. g && p b) good bs ≡ (good && all p bs)
unfolding all
all_from p good [] = sym (and-true good)
all_from p good (b ∷ bs) = all_from p (good && p b) bs ∙ rw (&_is) (and_assoc good _ _)

-- a chain that compares with every character of a list: t is the test as the code writes it
next_of : (found t : Bool) (rest : Bool) → ((found || t) || rest) ≡ (found || cond t true rest)
next_of true t rest = refl
next_of false true rest = refl
next_of false false rest = refl

pub any_turn : (f : List ℕ) (i b : ℕ) (found : Bool) → i < length f → ((found || eqb b (get_or f i 0)) || any_of (drop (i + 1) f) b) ≡ (found || any_of (drop i f) b)
unfolding any_of ◌=?◌
any_turn f i b found h = rw (add-one, drop-cons f i 0) (next_of found (eqb b (get_or f i 0)) (any_of (drop (suc i) f) b))

any_from : (b : ℕ) (found : Bool) (cs : List ℕ) → fold (λ g c. g || eqb b c) found cs ≡ (found || any_of cs b)
unfolding any_of
any_from b found [] = sym (or-false found)
any_from b found (c ∷ cs) = any_from b (found || eqb b c) cs ∙ any_turn (c ∷ cs) 0 b found (omega arith)

-- `fold` over the columns bs gives r: it calls the closure at each of them, and every call leaves the closure f as it was
module _ {F : Type 0} (g : Mut F (Bool × (Bor ℕ × Unit {0})) Bool) {f : F} {s : Iter ℕ} (r : Bool) (bs : List ℕ) where
  pub all_chain : (p : ℕ → Bool) → (xs : List (Bor ℕ)) × (q : F) × Drains fronts s xs × FoldsTo {P = F × Bool} (λ a x d. Called g a.0 (a.1, (x, tt)) d.1 d.0) (f, true) xs (q, r)
      → iter_rest s ≡ bs → ((a : Bool) (x : Bor ℕ) (d : Bool) (q : F) → Called g f (a, (x, tt)) d q → (q ≡ f) × (d ≡ (a && p x.now))) → r ≡ all p bs
  all_chain p ran e turn = fold_from_yields_List g (λ a b. a && p b) true r ran (YieldsList-from_slice bs e) turn ∙ all_from p true bs

  pub any_chain : (b : ℕ) → (xs : List (Bor ℕ)) × (q : F) × Drains fronts s xs × FoldsTo {P = F × Bool} (λ a x d. Called g a.0 (a.1, (x, tt)) d.1 d.0) (f, false) xs (q, r)
      → iter_rest s ≡ bs → ((a : Bool) (x : Bor ℕ) (d : Bool) (q : F) → Called g f (a, (x, tt)) d q → (q ≡ f) × (d ≡ (a || eqb b x.now))) → r ≡ any_of bs b
  any_chain b ran e turn = fold_from_yields_List g (λ a c. a || eqb b c) false r ran (YieldsList-from_slice bs e) turn ∙ any_from b false bs

-- a minus in front: not yet found, and nothing but blanks so far
first : (found blank z m : Bool) (b : ℕ) → eqb b 32 ≡ z → (found || blank && eqb b 45 || (blank && z) && m) ≡ (found || blank && cond z m (eqb b 45))
first true blank z m b e = refl
first false false z m b e = refl
first false true true m b e = rw (ne_eqb b 45 (λ k. omega (arith, k, eqb-true b 32 e)))
first false true false m b e = or-false (eqb b 45)

module _ (f : List ℕ) (i : ℕ) where
  pub minus_turn : (found blank : Bool) → i < length f
      → (found || blank && eqb (get_or f i 0) 45 || (blank && eqb (get_or f i 0) 32) && minus (drop (i + 1) f)) ≡ (found || blank && minus (drop i f))
  unfolding minus is_blank ◌=?◌
  minus_turn found blank h = rw (add-one, drop-cons f i 0) (first found blank (eqb (get_or f i 0) 32) (minus (drop (suc i) f)) (get_or f i 0) refl)

  pub minus_end : (found blank : Bool) → length f ≤ i → (found || blank && minus (drop i f)) ≡ found
  unfolding minus
  minus_end true blank h = refl
  minus_end false true h = rw (drop_of_length-le f h)
  minus_end false false h = refl

  pub formed_turn : (mark p : ℕ) (good : Bool) → i < length f
      → (good && (leb 48 (get_or f i 0) && leb (get_or f i 0) 57 || (eqb (get_or f i 0) 32 || eqb (get_or f i 0) mark) && eqb p 32) && formed mark (get_or f i 0) (drop (i + 1) f))
      ≡ (good && formed mark p (drop i f))
  unfolding formed is_digit within ◌≤?◌ ◌=?◌
  formed_turn mark p good h = rw (add-one, drop-cons f i 0) (simp &_is (and_assoc good _ _))

  pub formed_end : (mark p : ℕ) (good : Bool) → length f ≤ i → (good && formed mark p (drop i f)) ≡ (good && not (eqb p 45))
  unfolding formed ◌=?◌
  formed_end mark p good h = rw (drop_of_length-le f h)

  pub val_turn : (v d : ℕ) → d ≡ get_or f i 0 - 48 → i < length f → val (v * 10 + d) (drop (i + 1) f) ≡ val v (drop i f)
  unfolding val
  val_turn v d e h = rw (e, add-one, drop-cons f i 0)

  pub val_end : (v : ℕ) → length f ≤ i → val v (drop i f) ≡ v
  unfolding val
  val_end v h = rw (drop_of_length-le f h)

-- a loop that fills a list from the front with what `goal` has
module _ (goal out : List ℕ) (i : ℕ) (same : length goal ≡ length out) where
  pub fill_turn : (b : ℕ) → b ≡ get_or goal i 0 → i < length out → take (i + 1) (set out i b) ++ drop (i + 1) goal ≡ take i out ++ drop i goal
  fill_turn b e h =
      let k : i < length goal = omega arith in
      rw (e, add-one, take-suc-set out i (get_or goal i 0) h, drop-cons goal i 0 k, append_assoc)

  pub fill_end : length out ≤ i → take i out ++ drop i goal ≡ out
  fill_end h =
      let k : length goal ≤ i = omega arith in
      rw (take_all i out h, drop_of_length-le goal k, append-nil)

-- a loop that writes digits from the last column down
drop-set : (f : List ℕ) (i v : ℕ) → i < length f → drop i (set f i v) ≡ v ∷ drop (suc i) f
drop-set f i v h = drop-cons (set f i v) i 0 (lt-length-set f i v h) ∙ rw (get_or-set_same f i v 0 h, drop-set-lt (suc i) f i v (le_refl (suc i)))

pub suc_less_one : (i : ℕ) → suc i - 1 ≡ i
suc_less_one i = omega arith

pub put_turn : (f : List ℕ) (i v : ℕ) → 0 < i → i ≤ length f → put i v ++ drop i f ≡ put (i - 1) (v / 10) ++ drop (i - 1) (set f (i - 1) (48 + v % 10))
unfolding put
put_turn f zero v h k = absurd (omega arith)
put_turn f (suc i) v h k = rw (suc_less_one, drop-set f i (48 + v % 10) k, append_assoc)

pub put_start : (f : List ℕ) (v : ℕ) → put (length f) v ≡ put (length f) v ++ drop (length f) f
put_start f v = sym (rw (drop-length, append-nil))

pub put_end : (f : List ℕ) (i v : ℕ) → i ≤ 0 → put i v ++ drop i f ≡ f
unfolding put
put_end f zero v h = refl
put_end f (suc i) v h = absurd (omega arith)

-- a power of ten, and a sum of bytes, one column further
pub pow_next : (i : ℕ) → 10 ^ (i + 1) ≡ 10 ^ i * 10
pow_next i = rw (add-one, pow-suc)

pub pow_most : (i k : ℕ) → i ≤ k → 10 ^ i ≤ 10 ^ k
pow_most i k h = pow-le-pow_right (lit≤ tt) h
