-- Walks over the lines, from starts of lines to others. Lines passed and lines left are added up over the places at which the walks stand, so
-- it does not matter which of them has its turn.
use mathlib.Core.Path.{◌≡◌, refl, sym, ◌∙◌, ap}
use mathlib.Core.Bool.{true}
use mathlib.Core.List.{List, [], ◌∷◌, ◌++◌, append-nil}
use Prim.Native.Nat.{ℕ, zero, suc, ◌+◌, ◌-◌, ◌≤◌, ◌<◌}
use native.Mathlib.Nat.{le_trans}
use native.Mathlib.Numerals.{add-one}
use native.Mathlib.Omega.{arith}
use lib.ListN.{length, length-append, length-take, get_or, set, take, drop, drop_of_length-le}
use lib.Seq.{take-suc, take_all, drop-cons, drop_at}
use Rattle.rules.specs.Tests.{all, ◌≤?◌}
use Rattle.rules.specs.Files.{accept}
use Rattle.rules.specs.Padding.{texts, judge_texts, pad_answer_by}
use Rattle.rules.proofs.Truth.{and, of≤, cases, all_append}
use Rattle.rules.proofs.FileLaws.{is_accept_lem}
use Rattle.rules.proofs.PaddingLaws.{short_passed, short_texts}
use Rattle.std.specs.Prelude.{Ok}
use Rattle.padding.specs.Promise.{padded_of}
use Rattle.padding.specs.Lines.{feed_at, text_length}
use Rattle.padding.specs.Walks.{lines_ahead, too_long, long_ahead, sum, Passed, Told, Halved}
use Rattle.padding.proofs.FeedLaws.{feed_most, lent_rest}
use Rattle.padding.proofs.TextLaws.{texts_split}
use Rattle.padding.proofs.PassLaws.{no_texts, window, next_text, text_size, answer_is}

-- ---- numbers added up
module _ (g : ℕ → ℕ) where
  sum-append : (ps qs : List ℕ) → sum g (ps ++ qs) ≡ sum g ps + sum g qs
  unfolding sum
  sum-append [] qs = omega arith
  sum-append (p ∷ ps) qs = omega (arith, sum-append ps qs)

  -- one place is put for another
  sum-set : (ps : List ℕ) (k q : ℕ) → k < length ps → sum g (set ps k q) + g (get_or ps k 0) ≡ sum g ps + g q
  unfolding sum
  sum-set [] k q h = absurd (omega arith)
  sum-set (p ∷ ps) zero q h = omega arith
  sum-set (p ∷ ps) (suc k) q h = omega (arith, sum-set ps k q (omega arith))

-- an LF is looked for in 82 bytes
pub within_82 : (f : List ℕ) (m : ℕ) → m ≤ 82 → (n : ℕ) → n ≡ feed_at (take m f) → n ≤ 82
within_82 f m h n e = omega (arith, e, feed_most (take m f), length-take m f)

pub start_is : (f : List ℕ) (at : ℕ) (w : List ℕ) → w ≡ take 82 (drop at f) → (n : ℕ) → n ≡ feed_at w → at + n + 1 ≡ at + feed_at (take 82 (drop at f)) + 1
start_is f at w ew n en = ap (λ m. at + m + 1) (en ∙ ap feed_at ew)

-- ---- the walks
pub passed_none : (f ps : List ℕ) (before : ℕ) → before ≤ 99_999 → Passed f ps before ps before
passed_none f ps before h = record { count = refl; short = refl; few = h }

passed-join : (f ps : List ℕ) (before : ℕ) (qs : List ℕ) (lines : ℕ) → Passed f ps before qs lines
    → (rs : List ℕ) (more : ℕ) → Passed f qs lines rs more → Passed f ps before rs more
passed-join f ps before qs lines p rs more q = record {
  count = q.count ∙ p.count;
  short = q.short ∙ p.short;
  few = q.few;
}

-- a line that fits is passed, by the walk that stands before it
module _ (f from : List ℕ) (before : ℕ) (ps : List ℕ) (lines : ℕ) (g : Passed f from before ps lines) (j : ℕ) (here : j < length ps) (h : get_or ps j 0 < length f) (few : lines < 99_999) where
  module _ (w : List ℕ) (ew : w ≡ take 82 (drop (get_or ps j 0) f)) (n : ℕ) (en : n ≡ feed_at w) (k : ℕ) (ek : k ≡ text_length w n) (l : k ≤ 80) where
    first : texts (drop (get_or ps j 0) f) ≡ take k w ∷ texts (drop (get_or ps j 0 + (n + 1)) f)
    first = next_text f (get_or ps j 0) h w ew n en k ek l

    one_more : lines_ahead f (get_or ps j 0) ≡ lines_ahead f (get_or ps j 0 + (n + 1)) + 1
    unfolding lines_ahead
    one_more = omega (arith, ap length first)

    none_longer : long_ahead f (get_or ps j 0) ≡ long_ahead f (get_or ps j 0 + (n + 1))
    unfolding long_ahead too_long
    none_longer = let fits : length (take k w) ≤ 80 = omega (arith, text_size f (get_or ps j 0) h w ew n en k ek) in ap too_long first ∙ rw (of≤ fits)

    pub passed_next : Passed f from before (set ps j (get_or ps j 0 + (n + 1))) (lines + 1)
    passed_next = record {
      count = omega (arith, g.count, one_more, sum-set (lines_ahead f) ps j (get_or ps j 0 + (n + 1)) here);
      short = omega (arith, g.short, none_longer, sum-set (long_ahead f) ps j (get_or ps j 0 + (n + 1)) here);
      few = omega arith;
    }

  -- the 82 bytes from its place on
  pub turn_next : (n : ℕ) → n ≡ feed_at (take (get_or ps j 0 + 82 - get_or ps j 0) (drop (get_or ps j 0) f))
      → (k : ℕ) → k ≡ text_length (take (get_or ps j 0 + 82 - get_or ps j 0) (drop (get_or ps j 0) f)) n → k ≤ 80
      → Passed f from before (set ps j (get_or ps j 0 + (n + 1))) (lines + 1)
  turn_next n en k ek l = passed_next _ (window f (get_or ps j 0)) n en k ek l

-- one walk by itself
pub one_next : (f : List ℕ) (from before place lines : ℕ) → Passed f (from ∷ []) before (place ∷ []) lines → (end : ℕ) → place < end → end ≤ length f → (lines ≡ 99_999 → ⊥)
    → (w : List ℕ) → w ≡ take 82 (drop place f) → (n : ℕ) → n ≡ feed_at w → (k : ℕ) → k ≡ text_length w n → k ≤ 80
    → Passed f (from ∷ []) before ((place + (n + 1)) ∷ []) (lines + 1)
one_next f from before place lines g end p q z w ew n en k ek l =
    passed_next f (from ∷ []) before (place ∷ []) lines g 0 (omega arith) (omega arith) (omega (arith, g.few, z)) w ew n en k ek l

-- one walk after the other comes to its end
pub passed_out : (f ps es : List ℕ) (before lines k : ℕ) → k < length ps → k < length es → Passed f ps before (take k es ++ drop k ps) lines
    → (place more : ℕ) → Passed f (get_or ps k 0 ∷ []) lines (place ∷ []) more → place ≡ get_or es k 0
    → Passed f ps before (take (k + 1) es ++ drop (k + 1) ps) more
passed_out f ps es before lines k hp he g place more q e = record {
  count = omega (arith, g.count, q.count, both_sums (lines_ahead f), single (lines_ahead f) (get_or ps k 0), single (lines_ahead f) place);
  short = omega (arith, g.short, q.short, both_sums (long_ahead f), single (long_ahead f) (get_or ps k 0), single (long_ahead f) place);
  few = q.few;
}
  where
    single : (m : ℕ → ℕ) (p : ℕ) → sum m (p ∷ []) ≡ m p
    single m p = unfold sum in omega arith

    both_sums : (m : ℕ → ℕ) → sum m (take (k + 1) es ++ drop (k + 1) ps) + m (get_or ps k 0) ≡ sum m (take k es ++ drop k ps) + m place
    both_sums m =
        let front : sum m (take (k + 1) es) ≡ sum m (take k es) + m place = rw (add-one, take-suc es k 0, sum-append m, single m, e) in
        let back : sum m (drop k ps) ≡ m (get_or ps k 0) + sum m (drop (k + 1) ps) = rw (add-one, drop-cons ps k 0) (unfold sum in refl) in
        omega (arith, sum-append m (take (k + 1) es) (drop (k + 1) ps), sum-append m (take k es) (drop k ps), front, back)

-- all have
pub passed-all : (f ps es : List ℕ) (before lines k : ℕ) → length ps ≡ 4 → length es ≡ 4 → 4 ≤ k → Passed f ps before (take k es ++ drop k ps) lines → Passed f ps before es lines
passed-all f ps es before lines k p e h g =
    rw (take_all k es (omega arith), drop_of_length-le ps (le_trans (omega arith) h), append-nil) at g

-- ---- through
-- no line from a place on is too long, where none is counted
none_long : (ts : List (List ℕ)) → too_long ts ≡ 0 → all (λ t. length t ≤? 80) ts ≡ true
unfolding too_long all
none_long [] h = refl
none_long (t ∷ ts) h =
    cases (length t ≤? 80) (λ e. and e (none_long ts (rw e at h))) (λ e. let z : suc (too_long ts) ≡ 0 = rw e at h in absurd (omega arith))

none_too_long : too_long [] ≡ 0
unfolding too_long
none_too_long = refl

pub untold : (f : List ℕ) → Told f 0
untold f = record { passes = λ z. absurd (z refl); counted = λ z. absurd (z refl) }

-- four walks, each from where it started to where the next did
told : (f : List ℕ) (a b c e : ℕ) → e ≡ length f → (lines : ℕ) → Passed f (0 ∷ a ∷ b ∷ c ∷ []) 0 (a ∷ b ∷ c ∷ e ∷ []) lines
    → (judge_texts 1 (texts f) ≡ accept) × (lines ≡ length (texts f))
told f a b c e h lines g = (is_accept_lem _ (short_passed 1 (texts f) (none_long (texts f) short) (omega (arith, g.few, number))), number)
  where
    none : texts (drop e f) ≡ []
    none = no_texts f e (omega arith)

    number : lines ≡ length (texts f)
    number = unfold sum lines_ahead in omega (arith, g.count, ap length none)

    none_there : too_long (texts (drop e f)) ≡ 0
    none_there = ap too_long none ∙ none_too_long

    short : too_long (texts f) ≡ 0
    short = unfold sum long_ahead in omega (arith, g.short, none_there)

pub told_through : (f : List ℕ) (a b c e : ℕ) → e ≡ length f → (ps : List ℕ) (lines : ℕ) → Passed f (0 ∷ a ∷ b ∷ c ∷ []) 0 ps lines
    → (r : ℕ) → ((r ≡ 0 → ⊥) → Passed f ps lines (a ∷ b ∷ c ∷ e ∷ []) r) → Told f r
told_through f a b c e h ps lines p r q = record { passes = λ z. (through z).0; counted = λ z. (through z).1 }
  where
    through : (r ≡ 0 → ⊥) → (judge_texts 1 (texts f) ≡ accept) × (r ≡ length (texts f))
    through z = told f a b c e h r (passed-join f _ 0 ps lines p _ r (q z))

-- four numbers, none of them above m
pub four-within : (a b c e m : ℕ) → a ≤ m → b ≤ m → c ≤ m → e ≤ m → (k : ℕ) → k < 4 → get_or (a ∷ b ∷ c ∷ e ∷ []) k 0 ≤ m
four-within a b c e m ha hb hc he zero h = ha
four-within a b c e m ha hb hc he (suc zero) h = hb
four-within a b c e m ha hb hc he (suc (suc zero)) h = hc
four-within a b c e m ha hb hc he (suc (suc (suc zero))) h = he
four-within a b c e m ha hb hc he (suc (suc (suc (suc k)))) h = absurd (omega arith)

-- ---- two halves
pub halved_none : (f : List ℕ) (start near lines : ℕ) → start ≡ 0 → near ≡ 0 → lines ≡ 0 → Halved f start near lines
halved_none f start near lines s n l = record {
  told = rw l (untold f);
  within = omega arith;
  behind = rw (s, n);
}

pub told_few : (f : List ℕ) (lines : ℕ) → Told f lines → (lines ≡ 0 → ⊥) → lines ≤ 99_999
told_few f lines t z = omega (arith, (short_texts f (t.passes z)).1, t.counted z)

-- the parts are those that are lent: up to the start of a line, and from there on
module _ (f : List ℕ) (start : ℕ) (some : 1 ≤ start) (h : start ≤ length f) (fed : get_or f (start - 1) 0 ≡ 10) where
  module _ (near : ℕ) (tn₀ : Told (take (start - 0) f) near) (zn : near ≡ 0 → ⊥)
      (far : ℕ) (tf : Told (take (length f - start) (drop start f)) far) (zf : far ≡ 0 → ⊥) (few : far ≤ 99_999 - near) where
    tn : Told (take start f) near
    tn = let whole : start - 0 ≡ start = omega arith in rw whole at tn₀

    split : texts f ≡ texts (take start f) ++ texts (drop start f)
    split = texts_split f start some h fed

    number : near + far ≡ length (texts f)
    number = omega (arith, ap length split, length-append (texts (take start f)) (texts (drop start f)), tn.counted zn, tf.counted zf, ap (λ g. length (texts g)) (lent_rest f start))

    short : all (λ t. length t ≤? 80) (texts f) ≡ true
    short =
        rw split
        (all_append _ (texts (take start f)) (texts (drop start f)) (short_texts (take start f) (tn.passes zn)).0
        (rw lent_rest at (short_texts (take (length f - start) (drop start f)) (tf.passes zf)).0))

    pub halved : Halved f start near (near + far)
    halved = record {
      told = record { passes = λ _. is_accept_lem _ (short_passed 1 (texts f) short (omega (arith, number, told_few (take start f) near tn zn))); counted = λ _. number };
      within = omega (arith, number);
      behind = sym (ap (drop near) split ∙ drop_at (texts (take start f)) (texts (drop start f)) near (sym (tn.counted zn)));
    }

-- the answer
pub told-good : (f : List ℕ) (n : ℕ) → Told f n → (n ≡ 0 → ⊥) → Ok n ≡ padded_of (pad_answer_by (judge_texts 1 (texts f)) (length (texts f)))
told-good f n t z = answer_is f n (sym (t.passes z)) (t.counted z)
