-- Lines laid into an output: a line at a time, and two stretches in turn, of which either may go first.
use mathlib.Core.Path.{◌≡◌, refl, sym, ◌∙◌, ap, ap₂}
use mathlib.Core.Logic.{inl, inr}
use mathlib.Core.List.{List, [], ◌∷◌, ◌++◌, append_assoc, map}
use Prim.Native.Nat.{ℕ, suc, ◌+◌, ◌-◌, ◌*◌, ◌≤◌, ◌<◌}
use native.Mathlib.Omega.{arith}
use lib.ListN.{length, length-drop, set, take, drop, take-append-drop}
use lib.Seq.{length-take-le, take_all, drop-drop, set_comm, sets, length-sets, sets-eq}
use Rattle.rules.specs.Tests.{all, ◌≤?◌}
use Rattle.rules.specs.Files.{accept, join}
use Rattle.rules.specs.Padding.{texts, padded_line, padded, judge_texts}
use Rattle.rules.proofs.Truth.{both, to≤, no≤, cases, all-parts}
use Rattle.rules.proofs.FileLaws.{laid-take, laid-drop, laid_size}
use Rattle.rules.proofs.PaddingLaws.{AllShort, line_81, lines_long, short_texts}
use Rattle.padding.specs.declared.stretches.Stretch.{Stretch}
use Rattle.padding.specs.Lines.{feed_at, text_length}
use Rattle.padding.specs.Walks.{laid_at, laid, Ready, Apart, Turned}
use Rattle.padding.proofs.TextLaws.{long_text}
use Rattle.padding.proofs.PassLaws.{next_text, text_size, no_texts}

-- an output after 81 bytes of it were lent and came back as p
abbrev pub put : List ℕ → ℕ → List ℕ → List ℕ
put o to p = take to o ++ (p ++ drop (to + 81 - to) (drop to o))

-- a stretch without its first line, before whose LF n bytes stand
abbrev pub rest_of : Stretch → ℕ → Stretch
rest_of s n = record { from = s.from + (n + 1); to = s.to + 81; lines = s.lines - 1 }

short_first : (t : List ℕ) (ts us : List (List ℕ)) → us ≡ t ∷ ts → AllShort us → (length t ≤ 80) × AllShort ts
unfolding all
short_first t ts us e h = let x = both (rw e at h) in (to≤ x.0, x.1)

short_take : (n : ℕ) (ts : List (List ℕ)) → AllShort ts → AllShort (take n ts)
short_take n ts h = (all-parts (λ t. length t ≤? 80) (take n ts) (drop n ts) (rw take-append-drop h)).0

-- ---- stores at different places can be made in any order
set_sets : (l : List ℕ) (k a i : ℕ) (vs : List ℕ) → k < i → sets (set l k a) i vs ≡ set (sets l i vs) k a
set_sets l k a i [] h = refl
set_sets l k a i (v ∷ vs) h = ap (λ m. sets m (suc i) vs) (set_comm l k i a v (λ e. omega arith)) ∙ set_sets (set l i v) k a (suc i) vs (omega arith)

sets_comm : (l : List ℕ) (i : ℕ) (vs : List ℕ) (j : ℕ) (ws : List ℕ) → i + length vs ≤ j → sets (sets l i vs) j ws ≡ sets (sets l j ws) i vs
sets_comm l i [] j ws h = refl
sets_comm l i (v ∷ vs) j ws h = sets_comm (set l i v) (suc i) vs j ws (omega arith) ∙ ap (λ m. sets m (suc i) vs) (set_sets l i v j ws (omega arith))

-- ---- lines laid
module _ (o : List ℕ) (to : ℕ) (ts : List (List ℕ)) (h : AllShort ts) (room : to + 81 * length ts ≤ length o) where
  laid_sets : laid_at o to ts ≡ sets o to (join (map padded_line ts))
  unfolding laid_at
  laid_sets =
      let long = lines_long ts h in
      sym (sets-eq (join (map padded_line ts)) o to (omega (arith, long)) ∙ append_assoc (take to o) (join (map padded_line ts)) _
      ∙ ap (λ n. take to o ++ (join (map padded_line ts) ++ drop (to + n) o)) long)

  laid_long : length (laid_at o to ts) ≡ length o
  laid_long = ap length laid_sets ∙ length-sets o to (join (map padded_line ts))

-- no line, and a line more
laid_none : (o : List ℕ) (to : ℕ) → laid_at o to [] ≡ o
unfolding laid_at join
laid_none o to = let same : to + 0 ≡ to = omega arith in rw same (take-append-drop to o)

module _ (o : List ℕ) (to : ℕ) (t : List ℕ) (fits : length t ≤ 80) (room : to + 81 ≤ length o) where
  -- the output with one line laid
  abbrev onto : List ℕ
  onto = take to o ++ (padded_line t ++ drop 81 (drop to o))

  laid_more : (ts : List (List ℕ)) → laid_at o to (t ∷ ts) ≡ laid_at onto (to + 81) ts
  unfolding laid_at join
  laid_more ts =
      let long = line_81 t fits in
      let count : to + 81 * suc (length ts) ≡ to + 81 + 81 * length ts = omega arith in
      ap (take to o ++◌) (append_assoc (padded_line t) (join (map padded_line ts)) _)
      ∙ sym (append_assoc (take to o) (padded_line t) _)
      ∙ ap₂ (λ x y. x ++ (join (map padded_line ts) ++ y)) (sym (laid-take o to (padded_line t) long room))
      (ap (λ n. drop n o) count ∙ sym (drop-drop (81 * length ts) (to + 81) o) ∙ ap (drop (81 * length ts)) (sym (laid-drop o to (padded_line t) long room)) ∙ drop-drop (81 * length ts) (to + 81) onto)

  onto_long : length onto ≡ length o
  onto_long = laid_size o to (padded_line t) (line_81 t fits) room

-- all lines from the first byte on
laid_whole : (o : List ℕ) (ts : List (List ℕ)) (n : ℕ) → n ≡ length ts → laid_at o 0 ts ≡ join (map padded_line ts) ++ drop (81 * n) o
unfolding laid_at
laid_whole o ts n e = let all_lines : 0 + 81 * length ts ≡ 81 * n = omega arith in ap (λ j. join (map padded_line ts) ++ drop j o) all_lines

-- lines behind lines
laid-append : (o : List ℕ) (to : ℕ) (ts us : List (List ℕ)) → AllShort ts → to + 81 * length ts ≤ length o → laid_at o to (ts ++ us) ≡ laid_at (laid_at o to ts) (to + 81 * length ts) us
unfolding all
laid-append o to [] us h room = let same : to + 0 ≡ to = omega arith in ap₂ (λ p n. laid_at p n us) (sym (laid_none o to)) (sym same)
laid-append o to (t ∷ ts) us h room =
    let fits : length t ≤ 80 = to≤ (both h).0 in
    let here : to + 81 ≤ length o = omega arith in
    let count : to + 81 + 81 * length ts ≡ to + 81 * suc (length ts) = omega arith in
    laid_more o to t fits here (ts ++ us)
    ∙ laid-append (onto o to t fits here) (to + 81) ts us (both h).1 (omega (arith, onto_long o to t fits here))
    ∙ ap₂ (λ p n. laid_at p n us) (sym (laid_more o to t fits here ts)) count

-- lines at different places
module _ (o : List ℕ) (a : ℕ) (ts : List (List ℕ)) (ht : AllShort ts) (ra : a + 81 * length ts ≤ length o)
    (b : ℕ) (us : List (List ℕ)) (hu : AllShort us) (rb : b + 81 * length us ≤ length o) where
  as_sets : laid_at (laid_at o a ts) b us ≡ sets (sets o a (join (map padded_line ts))) b (join (map padded_line us))
  as_sets =
      laid_sets (laid_at o a ts) b us hu (omega (arith, laid_long o a ts ht ra))
      ∙ ap (λ p. sets p b (join (map padded_line us))) (laid_sets o a ts ht ra)

laid-before : (o : List ℕ) (a : ℕ) (ts : List (List ℕ)) → AllShort ts → a + 81 * length ts ≤ length o → (b : ℕ) (us : List (List ℕ)) → AllShort us → b + 81 * length us ≤ length o
    → a + 81 * length ts ≤ b → laid_at (laid_at o a ts) b us ≡ laid_at (laid_at o b us) a ts
laid-before o a ts ht ra b us hu rb h =
    as_sets o a ts ht ra b us hu rb
    ∙ sets_comm o a (join (map padded_line ts)) b (join (map padded_line us)) (omega (arith, lines_long ts ht))
    ∙ sym (as_sets o b us hu rb a ts ht ra)

-- ---- a stretch
module _ (f o : List ℕ) (s : Stretch) (g : Ready f o s) where
  its_lines : length (take s.lines (texts (drop s.from f))) ≡ s.lines
  its_lines = length-take-le s.lines (texts (drop s.from f)) g.there

  its_short : AllShort (take s.lines (texts (drop s.from f)))
  its_short = short_take s.lines (texts (drop s.from f)) g.short

  its_room : s.to + 81 * length (take s.lines (texts (drop s.from f))) ≤ length o
  its_room = omega (arith, its_lines, g.room)

  pub stretch_long : length (laid f o s) ≡ length o
  unfolding laid
  stretch_long = laid_long o s.to _ its_short its_room

  -- nothing is left
  pub stretch_none : s.lines ≤ 0 → laid f o s ≡ o
  unfolding laid
  stretch_none h = let none : s.lines ≡ 0 = omega arith in rw none (laid_none o s.to)

  module _ (some : 0 < s.lines) where
    pub inside : s.from < length f
    inside = cases (length f ≤? s.from) (λ e. absurd (omega (arith, g.there, ap length (no_texts f s.from (to≤ e))))) no≤

    pub line_room : s.to + 81 ≤ length o
    line_room = omega (arith, g.room)

    pub line_wide : length (take (s.to + 81 - s.to) (drop s.to o)) ≡ 81
    line_wide =
        let width : s.to + 81 - s.to ≡ 81 = omega arith in
        rw width (length-take-le 81 (drop s.to o) (omega (arith, line_room, length-drop s.to o)))

    module _ (w : List ℕ) (ew : w ≡ take 82 (drop s.from f)) (n : ℕ) (en : n ≡ feed_at w) (k : ℕ) (ek : k ≡ text_length w n) where
      pub line_fits : k ≤ 80
      line_fits = cases (k ≤? 80) to≤ (λ e. absurd (too_long_lem (no≤ e)))
        where
          too_long_lem : 80 < k → ⊥
          too_long_lem l =
              let x = long_text (drop s.from f) (omega (arith, inside, length-drop s.from f)) w ew n en k ek l in
              omega (arith, x.3, (short_first x.0 x.1 (texts (drop s.from f)) x.2 g.short).0)

      first : texts (drop s.from f) ≡ take k w ∷ texts (drop (s.from + (n + 1)) f)
      first = next_text f s.from inside w ew n en k ek line_fits

      -- the line is laid: the rest of the stretch can be, and then all of it is
      module _ (p : List ℕ) (ep : p ≡ padded_line (take k w)) where
        fits : length (take k w) ≤ 80
        fits = omega (arith, text_size f s.from inside w ew n en k ek, line_fits)

        put_is : put o s.to p ≡ onto o s.to (take k w) fits line_room
        put_is = let width : s.to + 81 - s.to ≡ 81 = omega arith in rw (width, ep)

        put_long : length (put o s.to p) ≡ length o
        put_long = ap length put_is ∙ onto_long o s.to (take k w) fits line_room

        ready_rest : Ready f (put o s.to p) (rest_of s n)
        ready_rest = record {
          there = omega (arith, g.there, ap length first);
          short = (short_first (take k w) _ (texts (drop s.from f)) first g.short).1;
          room = omega (arith, put_long, g.room);
        }

        taken : take s.lines (texts (drop s.from f)) ≡ take k w ∷ take (s.lines - 1) (texts (drop (s.from + (n + 1)) f))
        taken = let one : s.lines ≡ suc (s.lines - 1) = omega arith in ap (λ m. take m (texts (drop s.from f))) one ∙ ap (take (suc (s.lines - 1))) first

        laid_rest : laid f (put o s.to p) (rest_of s n) ≡ laid f o s
        unfolding laid
        laid_rest =
            let more = take (s.lines - 1) (texts (drop (s.from + (n + 1)) f)) in
            sym (ap (laid_at o s.to) taken ∙ laid_more o s.to (take k w) fits line_room more ∙ ap (λ q. laid_at q (s.to + 81) more) (sym put_is))

-- in another output of that length it can be laid as well
ready_same : (f o p : List ℕ) (s : Stretch) → length p ≡ length o → Ready f o s → Ready f p s
ready_same f o p s e g = record { there = g.there; short = g.short; room = omega (arith, g.room) }

-- ---- two stretches in turn
stretches_comm : (f o : List ℕ) (s t : Stretch) → Ready f o s → Ready f o t → Apart s t → laid f (laid f o s) t ≡ laid f (laid f o t) s
unfolding laid Apart
stretches_comm f o s t g h (inl e) =
    laid-before o s.to _ (its_short f o s g) (its_room f o s g) t.to _ (its_short f o t h) (its_room f o t h) (omega (arith, its_lines f o s g))
stretches_comm f o s t g h (inr e) =
    sym (laid-before o t.to _ (its_short f o t h) (its_room f o t h) s.to _ (its_short f o s g) (its_room f o s g) (omega (arith, its_lines f o t h)))

pub turned_from : (f o : List ℕ) (near far : Stretch) → Ready f o near → Ready f o far → Apart near far → Turned f o near far o near far
turned_from f o near far n r a = record { size = refl; ready_here = n; ready_there = r; apart = a; both = refl }

-- the rest of the one goes where the other does not
apart_rest : (s t : Stretch) → Apart s t → 0 < s.lines → (n : ℕ) → Apart t (rest_of s n)
unfolding Apart
apart_rest s t (inl e) some n = inr (omega arith)
apart_rest s t (inr e) some n = inl (omega arith)

module _ (f o₀ : List ℕ) (near far : Stretch) (o : List ℕ) (here there : Stretch) (g : Turned f o₀ near far o here there) where
  pub turned_next : 0 < here.lines → (w : List ℕ) → w ≡ take 82 (drop here.from f) → (n : ℕ) → n ≡ feed_at w → (k : ℕ) → k ≡ text_length w n
      → (p : List ℕ) → p ≡ padded_line (take k w) → Turned f o₀ near far (put o here.to p) there (rest_of here n)
  turned_next some w ew n en k ek p ep = record {
    size = long ∙ g.size;
    ready_here = other;
    ready_there = rest;
    apart = apart;
    both =
        stretches_comm f _ there (rest_of here n) other rest apart
        ∙ ap (λ q. laid f q there) (laid_rest f o here g.ready_here some w ew n en k ek p ep)
        ∙ g.both;
  }
    where
      long : length (put o here.to p) ≡ length o
      long = put_long f o here g.ready_here some w ew n en k ek p ep

      rest : Ready f (put o here.to p) (rest_of here n)
      rest = ready_rest f o here g.ready_here some w ew n en k ek p ep

      other : Ready f (put o here.to p) there
      other = ready_same f o _ there long g.ready_there

      apart : Apart there (rest_of here n)
      apart = apart_rest here there g.apart some n

  -- the one laid, the other still can be, and with it all is laid
  module _ (p : List ℕ) (ep : p ≡ laid f o here) where
    pub turned_ready : Ready f p there
    turned_ready = ready_same f o p there (ap length ep ∙ stretch_long f o here g.ready_here) g.ready_there

    pub turned_done : (q : List ℕ) → q ≡ laid f p there → q ≡ laid f (laid f o₀ near) far
    turned_done q eq = eq ∙ ap (λ x. laid f x there) ep ∙ g.both

-- ---- one stretch, line by line
pub record Laying (f o₀ : List ℕ) (s : Stretch) (o : List ℕ) (left : Stretch) : Type 0 where
  pub size : length o ≡ length o₀
  pub ready : Ready f o left
  pub same : laid f o left ≡ laid f o₀ s

pub lay_from : (f o : List ℕ) (s : Stretch) → Ready f o s → Laying f o s o s
lay_from f o s g = record { size = refl; ready = g; same = refl }

module _ (f o₀ : List ℕ) (s : Stretch) (o : List ℕ) (left : Stretch) (g : Laying f o₀ s o left) where
  pub lay_next : 0 < left.lines → (w : List ℕ) → w ≡ take 82 (drop left.from f) → (n : ℕ) → n ≡ feed_at w → (k : ℕ) → k ≡ text_length w n
      → (p : List ℕ) → p ≡ padded_line (take k w) → Laying f o₀ s (put o left.to p) (rest_of left n)
  lay_next some w ew n en k ek p ep = record {
    size = put_long f o left g.ready some w ew n en k ek p ep ∙ g.size;
    ready = ready_rest f o left g.ready some w ew n en k ek p ep;
    same = laid_rest f o left g.ready some w ew n en k ek p ep ∙ g.same;
  }

  pub lay_done : left.lines ≤ 0 → o ≡ laid f o₀ s
  lay_done h = sym (stretch_none f o left g.ready h) ∙ g.same

-- ---- all lines: those before a start of a line, and those from there on
module _ (f o : List ℕ) (start m n : ℕ) (good : judge_texts 1 (texts f) ≡ accept) (count : n ≡ length (texts f)) (few : m ≤ n)
    (cut : texts (drop start f) ≡ drop m (texts f)) (room : 81 * n ≤ length o) where
  abbrev near : Stretch
  near = record { from = 0; to = 0; lines = m }

  abbrev far : Stretch
  far = record { from = start; to = 81 * m; lines = n - m }

  pub ready_near : Ready f o near
  ready_near = record { there = omega arith; short = (short_texts f good).0; room = omega arith }

  pub ready_far : Ready f o far
  ready_far = record {
    there = omega (arith, ap length cut, length-drop m (texts f));
    short = rw cut (all-parts (λ t. length t ≤? 80) (take m (texts f)) (drop m (texts f)) (rw take-append-drop (short_texts f good).0)).1;
    room = omega arith;
  }

  pub apart_halves : Apart near far
  unfolding Apart
  apart_halves = inl (omega arith)

  pub halves_laid : laid f (laid f o near) far ≡ padded f ++ drop (81 * n) o
  unfolding laid padded
  halves_laid =
      let before : length (take m (texts f)) ≡ m = length-take-le m (texts f) (omega arith) in
      let place : 81 * m ≡ 0 + 81 * length (take m (texts f)) = omega arith in
      let all-far : take (n - m) (texts (drop start f)) ≡ drop m (texts f) = take_all (n - m) _ (omega (arith, ap length cut, length-drop m (texts f))) ∙ cut in
      ap₂ (laid_at (laid_at o 0 (take m (texts f)))) place all-far
      ∙ sym (laid-append o 0 (take m (texts f)) (drop m (texts f)) (short_take m (texts f) (short_texts f good).0) (omega arith))
      ∙ ap (laid_at o 0) (take-append-drop m (texts f))
      ∙ laid_whole o (texts f) n count
