-- The first line of an input, and the same in 82 bytes of it: in these a line of at most 80 bytes stands with its end, and a longer one is told.
use mathlib.Core.Path.{◌≡◌, refl, sym, ◌∙◌, ap, ap₂}
use mathlib.Core.Bool.{cond}
use mathlib.Core.List.{List, [], ◌∷◌, ◌++◌, map, map-append}
use Prim.Native.Nat.{ℕ, zero, suc, ◌+◌, ◌-◌, ◌≤◌, ◌<◌}
use native.Mathlib.Nat.{le_trans}
use native.Mathlib.Omega.{arith}
use lib.ListN.{length, get_or, take, drop, take-append-drop}
use lib.Seq.{length-take-le, take-suc, take_all, take-take, get_or-take}
use Rattle.rules.specs.Tests.{◌≤?◌, ◌=?◌}
use Rattle.rules.specs.Padding.{End, lf, crlf, closing, Line, line, behind, joined, lines_of, texts}
use Rattle.rules.proofs.Truth.{of≤, of>, to≤, no≤, of≡, of≢, cases}
use Rattle.padding.specs.Lines.{feed_at, text_length}
use Rattle.padding.proofs.FeedLaws.{feed_most, feed_near, feed_far}

-- ---- how many bytes are the line's
module _ (f : List ℕ) where
  pub text-all : (n : ℕ) → length f ≤ n → n ≡ text_length f n
  unfolding text_length
  text-all zero h = refl
  text-all (suc n) h = rw (of≤ h)

  pub text_none : (n : ℕ) → n ≡ 0 → 0 ≡ text_length f n
  unfolding text_length
  text_none n e = rw e

  by_last : (n b : ℕ) → suc n < length f → b ≡ get_or f n 0 → text_length f (suc n) ≡ cond (b =? 13) n (suc n)
  unfolding text_length
  by_last n b h e = rw (of> h, e)

  last_is : (n b : ℕ) → n < length f → (n ≡ 0 → ⊥) → b ≡ get_or f (n - 1) 0 → text_length f n ≡ cond (b =? 13) (n - 1) n
  last_is zero b h z e = absurd (z refl)
  last_is (suc n) b h z e =
      let less : suc n - 1 ≡ n = omega arith in
      by_last n b h (e ∙ ap (λ k. get_or f k 0) less) ∙ ap (λ k. cond (b =? 13) k (suc n)) (sym less)

  module _ (n b : ℕ) (h : n < length f) (z : n ≡ 0 → ⊥) (e : b ≡ get_or f (n - 1) 0) where
    pub text_return : b ≡ 13 → n - 1 ≡ text_length f n
    text_return t = sym (last_is n b h z e ∙ rw (of≡ t))

    pub text_whole : (b ≡ 13 → ⊥) → n ≡ text_length f n
    text_whole t = sym (last_is n b h z e ∙ rw (of≢ t))

  pub text_most : (n : ℕ) → text_length f n ≤ n
  unfolding text_length
  text_most zero = omega arith
  text_most (suc n) =
      cases (length f ≤? suc n) (λ e. rw e (omega arith))
      (λ e. cases (get_or f n 0 =? 13) (λ t. rw (e, t) (omega arith)) (λ t. rw (e, t) (omega arith)))

  -- at most one byte before the LF is not the line's
  text-least : (n : ℕ) → n ≤ text_length f n + 1
  unfolding text_length
  text-least zero = omega arith
  text-least (suc n) =
      cases (length f ≤? suc n) (λ e. rw e (omega arith))
      (λ e. cases (get_or f n 0 =? 13) (λ t. rw (e, t) (omega arith)) (λ t. rw (e, t) (omega arith)))

-- ---- the first line of an input
-- how it ends, where n bytes stand before the LF
unfoldable pub end_at : List ℕ → ℕ → End
end_at f zero = cond (length f ≤? 0) closing lf
end_at f (suc n) = cond (length f ≤? suc n) closing (cond (get_or f n 0 =? 13) crlf lf)

end_bare : (f : List ℕ) → 0 < length f → end_at f 0 ≡ lf
unfolding end_at
end_bare f h = rw (of> h)

end_past : (f : List ℕ) (n : ℕ) → length f ≤ n → end_at f n ≡ closing
unfolding end_at
end_past f zero h = rw (of≤ h)
end_past f (suc n) h = rw (of≤ h)

end_inside : (f : List ℕ) (n : ℕ) → suc n < length f → end_at f (suc n) ≡ cond (get_or f n 0 =? 13) crlf lf
unfolding end_at
end_inside f n h = rw (of> h)

-- a byte that is no LF before a line
crlf-behind : (b : ℕ) (t : List ℕ) → behind b t crlf ≡ line (b ∷ t) crlf
unfolding behind
crlf-behind b [] = refl
crlf-behind b (c ∷ t) = refl

lf-behind : (b c : ℕ) (f : List ℕ) → behind b [] lf ≡ line (take (cond (b =? 13) 0 1) (b ∷ c ∷ f)) (cond (b =? 13) crlf lf)
unfolding behind
lf-behind b c f = cases (b =? 13) (λ e. rw e) (λ e. rw e)

behind-inside : (b c n : ℕ) (f : List ℕ)
    → behind b (take (cond (get_or (c ∷ f) n 0 =? 13) n (suc n)) (c ∷ f)) (cond (get_or (c ∷ f) n 0 =? 13) crlf lf)
    ≡ line (take (cond (get_or (c ∷ f) n 0 =? 13) (suc n) (suc (suc n))) (b ∷ c ∷ f)) (cond (get_or (c ∷ f) n 0 =? 13) crlf lf)
behind-inside b c n f =
    cases (get_or (c ∷ f) n 0 =? 13) (λ e. rw e (crlf-behind b (take n (c ∷ f)))) (λ e. rw e (unfold behind in refl))

behind-first : (b : ℕ) (f : List ℕ) (n : ℕ) → 0 < length f
    → behind b (take (text_length f n) f) (end_at f n) ≡ line (take (text_length (b ∷ f) (suc n)) (b ∷ f)) (end_at (b ∷ f) (suc n))
behind-first b [] n h = absurd (omega arith)
behind-first b (c ∷ f) zero h =
    let few : 1 < length (b ∷ c ∷ f) = omega arith in
    rw (← text_none (c ∷ f) 0 refl, end_bare (c ∷ f) h, by_last (b ∷ c ∷ f) 0 b few refl, end_inside (b ∷ c ∷ f) 0 few) (lf-behind b c f)
behind-first b (c ∷ f) (suc n) h =
    cases (length (c ∷ f) ≤? suc n)
    (λ e. rw (← text-all (c ∷ f) (suc n) (to≤ e), end_past (c ∷ f) (suc n) (to≤ e), ← text-all (b ∷ c ∷ f) (suc (suc n)) (omega (arith, to≤ e)), end_past (b ∷ c ∷ f) (suc (suc n)) (omega (arith, to≤ e))) (unfold behind in refl))
    (λ e. rw (by_last (c ∷ f) n _ (no≤ e) refl, end_inside (c ∷ f) n (no≤ e), by_last (b ∷ c ∷ f) (suc n) _ (omega (arith, no≤ e)) refl, end_inside (b ∷ c ∷ f) (suc n) (omega (arith, no≤ e))) (behind-inside b c n f))

-- an LF first: the line is empty
empty_first : (b : ℕ) (f : List ℕ) → line [] lf ∷ lines_of f ≡ line (take (text_length (b ∷ f) 0) (b ∷ f)) (end_at (b ∷ f) 0) ∷ lines_of (drop (0 + 1) (b ∷ f))
empty_first b f =
    let some : 0 < length (b ∷ f) = omega arith in
    rw (← text_none (b ∷ f) 0 refl, end_bare (b ∷ f) some)

module _ (b : ℕ) where
  -- another byte first: it joins the line behind it
  joined-first : (f : List ℕ) → 0 < length f → lines_of f ≡ line (take (text_length f (feed_at f)) f) (end_at f (feed_at f)) ∷ lines_of (drop (feed_at f + 1) f)
      → joined b (lines_of f) ≡ line (take (text_length (b ∷ f) (suc (feed_at f))) (b ∷ f)) (end_at (b ∷ f) (suc (feed_at f))) ∷ lines_of (drop (suc (feed_at f) + 1) (b ∷ f))
  unfolding joined line
  joined-first f h e =
      let next : suc (feed_at f) + 1 ≡ suc (feed_at f + 1) = omega arith in
      ap (joined b) e ∙ ap₂ ◌∷◌ (behind-first b f (feed_at f) h) (ap (λ n. lines_of (drop n (b ∷ f))) (sym next))

  -- the last byte of all
  joined_last : joined b (lines_of []) ≡ line (take (text_length (b ∷ []) 1) (b ∷ [])) (end_at (b ∷ []) 1) ∷ lines_of (drop (1 + 1) (b ∷ []))
  unfolding lines_of joined
  joined_last = rw (← text-all (b ∷ []) 1 (omega arith), end_past (b ∷ []) 1 (omega arith))

pub first_line : (f : List ℕ) → 0 < length f → lines_of f ≡ line (take (text_length f (feed_at f)) f) (end_at f (feed_at f)) ∷ lines_of (drop (feed_at f + 1) f)
unfolding lines_of feed_at
first_line [] h = absurd (omega arith)
first_line (b ∷ []) h = cases (b =? 10) (λ e. rw e (empty_first b [])) (λ e. rw e (joined_last b))
first_line (b ∷ c ∷ f) h = cases (b =? 10) (λ e. rw e (empty_first b (c ∷ f))) (λ e. rw e (joined-first b (c ∷ f) (omega arith) (first_line (c ∷ f) (omega arith))))

pub first-text : (f : List ℕ) → 0 < length f → texts f ≡ take (text_length f (feed_at f)) f ∷ texts (drop (feed_at f + 1) f)
unfolding texts line
first-text f h = ap (map (λ l. l.text)) (first_line f h)

-- ---- an input in two parts, the first of which ends with an LF
joined-some : (b : ℕ) (ls : List Line) → 0 < length (joined b ls)
unfolding joined
joined-some b [] = omega arith
joined-some b (l ∷ ls) = omega arith

lines-some : (b : ℕ) (f : List ℕ) → 0 < length (lines_of (b ∷ f))
unfolding lines_of
lines-some b f = cases (b =? 10) (λ e. rw e (omega arith)) (λ e. rw e (joined-some b (lines_of f)))

joined-append : (b : ℕ) (ls ms : List Line) → 0 < length ls → joined b (ls ++ ms) ≡ joined b ls ++ ms
unfolding joined
joined-append b [] ms h = absurd (omega arith)
joined-append b (l ∷ ls) ms h = refl

-- a byte more before the first part
lines-behind : (b : ℕ) (f g : List ℕ) → 0 < length (lines_of f) → lines_of (f ++ g) ≡ lines_of f ++ lines_of g → lines_of (b ∷ (f ++ g)) ≡ lines_of (b ∷ f) ++ lines_of g
unfolding lines_of
lines-behind b f g some e =
    cases (b =? 10)
    (λ t. rw t (ap (line [] lf ∷◌) e))
    (λ t. rw t (ap (joined b) e ∙ joined-append b (lines_of f) (lines_of g) some))

fed_some : (f : List ℕ) → 0 < length (lines_of (f ++ (10 ∷ [])))
fed_some [] = lines-some 10 []
fed_some (b ∷ f) = lines-some b (f ++ (10 ∷ []))

lines_split : (f g : List ℕ) → lines_of ((f ++ (10 ∷ [])) ++ g) ≡ lines_of (f ++ (10 ∷ [])) ++ lines_of g
lines_split [] g = unfold lines_of ◌=?◌ in refl
lines_split (b ∷ f) g = lines-behind b (f ++ (10 ∷ [])) g (fed_some f) (lines_split f g)

module _ (f : List ℕ) (start : ℕ) (some : 1 ≤ start) (h : start ≤ length f) (e : get_or f (start - 1) 0 ≡ 10) where
  take_fed : take start f ≡ take (start - 1) f ++ (10 ∷ [])
  take_fed =
      let last : start ≡ suc (start - 1) = omega arith in
      ap (λ k. take k f) last ∙ take-suc f (start - 1) 0 (omega arith) ∙ ap (λ b. take (start - 1) f ++ (b ∷ [])) e

  lines_cut : lines_of (take start f ++ drop start f) ≡ lines_of (take start f) ++ lines_of (drop start f)
  lines_cut = rw take_fed (lines_split (take (start - 1) f) (drop start f))

  -- the lines of an input are those before a start of a line and those from there on
  pub texts_split : texts f ≡ texts (take start f) ++ texts (drop start f)
  unfolding texts
  texts_split =
      ap (map (λ l. l.text)) (ap lines_of (sym (take-append-drop start f)) ∙ lines_cut)
      ∙ map-append (λ l. l.text) (lines_of (take start f)) (lines_of (drop start f))

-- ---- the same in 82 bytes
-- n bytes before the LF, and the LF, stand in the first m
text_near : (m n : ℕ) (f : List ℕ) → n < m → text_length (take m f) n ≡ text_length f n
text_near m n f h = cases (length f ≤? m) (λ e. ap (λ g. text_length g n) (take_all m f (to≤ e))) (λ e. long n h (no≤ e))
  where
    long : (k : ℕ) → k < m → m < length f → text_length (take m f) k ≡ text_length f k
    long zero k g = sym (text_none (take m f) 0 refl) ∙ text_none f 0 refl
    long (suc k) l g =
        by_last (take m f) k _ (omega (arith, length-take-le m f (omega arith))) refl
        ∙ ap (λ b. cond (b =? 13) k (suc k)) (get_or-take m f k 0 (omega arith))
        ∙ sym (by_last f k _ (omega arith) refl)

module _ (f : List ℕ) (some : 0 < length f) (w : List ℕ) (ew : w ≡ take 82 f) (n : ℕ) (en : n ≡ feed_at w) (k : ℕ) (ek : k ≡ text_length w n) where
  near : feed_at f < 82 → (n ≡ feed_at f) × (k ≡ text_length f (feed_at f))
  near h =
      let e : n ≡ feed_at f = en ∙ ap feed_at ew ∙ feed_near 82 f h in
      (e, ek ∙ ap₂ text_length ew e ∙ text_near 82 (feed_at f) f h)

  far : 82 ≤ feed_at f → (81 ≤ text_length f (feed_at f)) × (k ≡ 82)
  far h =
      let e : n ≡ 82 = en ∙ ap feed_at ew ∙ (feed_far 82 f h).0 in
      let long : length w ≡ 82 = ap length ew ∙ length-take-le 82 f (omega (arith, feed_most f)) in
      (omega (arith, text-least f (feed_at f)), ek ∙ sym (text-all w n (omega arith)) ∙ e)

  -- a line of at most 80 bytes stands there with its end
  pub fitting_text : k ≤ 80 → texts f ≡ take k w ∷ texts (drop (n + 1) f)
  fitting_text h = cases (suc (feed_at f) ≤? 82) (λ e. fits (to≤ e)) (λ e. absurd (omega (arith, (far (omega (arith, no≤ e))).1)))
    where
      fits : feed_at f < 82 → texts f ≡ take k w ∷ texts (drop (n + 1) f)
      fits l =
          let e = near l in
          first-text f some ∙ ap₂ ◌∷◌ (ap (λ j. take j f) (sym e.1) ∙ sym (take-take k 82 f (omega (arith, h))) ∙ ap (take k) (sym ew)) (ap (λ j. texts (drop (j + 1) f)) (sym e.0))

  -- a longer one is told
  pub long_text : 80 < k → (t : List ℕ) × (ts : List (List ℕ)) × (texts f ≡ t ∷ ts) × (80 < length t)
  long_text h = (take (text_length f (feed_at f)) f, texts (drop (feed_at f + 1) f), first-text f some, long)
    where
      big : 80 < text_length f (feed_at f)
      big = cases (suc (feed_at f) ≤? 82) (λ e. omega (arith, h, (near (to≤ e)).1)) (λ e. omega (arith, (far (omega (arith, no≤ e))).0))

      long : 80 < length (take (text_length f (feed_at f)) f)
      long = omega (arith, length-take-le (text_length f (feed_at f)) f (le_trans (text_most f (feed_at f)) (feed_most f)), big)
