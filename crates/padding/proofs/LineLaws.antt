-- One line laid: its own bytes, blanks to column 80, the LF.
use mathlib.Core.Path.{◌≡◌, refl, sym, ◌∙◌, ap}
use mathlib.Core.List.{List, [], ◌∷◌, ◌++◌}
use Prim.Native.Nat.{ℕ, suc, ◌+◌, ◌-◌, ◌≤◌, ◌<◌}
use native.Mathlib.Omega.{arith}
use lib.ListN.{length, length-drop, length-replicate, length-set, get_or, set, take, drop, replicate, get_or-replicate, get_or-append}
use lib.Seq.{length-take-le, take-take, get_or-take, get_or-drop, get_or-append-add, get_or-append_seam}
use Rattle.rules.specs.Tests.{◌≤?◌}
use Rattle.rules.specs.Padding.{padded_line}
use Rattle.rules.proofs.Truth.{to≤, no≤, cases}
use Rattle.rules.proofs.PaddingLaws.{line_81}
use Rattle.columns.proofs.Loops.{fill_turn, fill_end}
use Rattle.padding.specs.Lines.{column_of, mask_bytes}

-- its columns, and what stands behind them
module _ (t : List ℕ) (h : length t ≤ 80) where
  column_text : (i : ℕ) → i < length t → get_or (padded_line t) i 0 ≡ get_or t i 0
  unfolding padded_line
  column_text i l = get_or-append t (replicate (80 - length t) 32 ++ (10 ∷ [])) 0 i l

  column_blank : (i : ℕ) → length t ≤ i → i < 80 → get_or (padded_line t) i 0 ≡ 32
  unfolding padded_line
  column_blank i l k =
      let split : i ≡ length t + (i - length t) = omega arith in
      ap (λ j. get_or (t ++ (replicate (80 - length t) 32 ++ (10 ∷ []))) j 0) split
      ∙ get_or-append-add t (replicate (80 - length t) 32 ++ (10 ∷ [])) (i - length t) 0
      ∙ get_or-append (replicate (80 - length t) 32) (10 ∷ []) 0 (i - length t) (omega (arith, length-replicate {A = ℕ} (80 - length t) 32))
      ∙ get_or-replicate (80 - length t) (i - length t) 32 0 (omega arith)

  column_feed : get_or (padded_line t) 80 0 ≡ 10
  unfolding padded_line
  column_feed =
      let split : 80 ≡ length t + (80 - length t) = omega arith in
      ap (λ j. get_or (t ++ (replicate (80 - length t) 32 ++ (10 ∷ []))) j 0) split
      ∙ get_or-append-add t (replicate (80 - length t) 32 ++ (10 ∷ [])) (80 - length t) 0
      ∙ ap (λ j. get_or (replicate (80 - length t) 32 ++ (10 ∷ [])) j 0) (sym (length-replicate (80 - length t) 32))
      ∙ get_or-append_seam (replicate (80 - length t) 32) 10 [] 0

-- ---- column by column
-- what the masks have: 80 that keep a byte, 80 that keep none, 80 blanks
mask_kept : (i : ℕ) → i < 80 → get_or mask_bytes i 0 ≡ 255
unfolding mask_bytes
mask_kept i h =
    get_or-append (replicate 80 255) (replicate 80 0 ++ replicate 80 32) 0 i (omega (arith, length-replicate {A = ℕ} 80 255))
    ∙ get_or-replicate 80 i 255 0 h

mask_none : (i : ℕ) → i < 80 → get_or mask_bytes (80 + i) 0 ≡ 0
unfolding mask_bytes
mask_none i h =
    get_or-append-add (replicate 80 255) (replicate 80 0 ++ replicate 80 32) i 0
    ∙ get_or-append (replicate 80 0) (replicate 80 32) 0 i (omega (arith, length-replicate {A = ℕ} 80 0))
    ∙ get_or-replicate 80 i 0 0 h

mask_blank : (i : ℕ) → i < 80 → get_or mask_bytes (160 + i) 0 ≡ 32
unfolding mask_bytes
mask_blank i h =
    let split : 160 + i ≡ 80 + (80 + i) = omega arith in
    ap (λ j. get_or (replicate 80 255 ++ (replicate 80 0 ++ replicate 80 32)) j 0) split
    ∙ get_or-append-add (replicate 80 255) (replicate 80 0 ++ replicate 80 32) (80 + i) 0
    ∙ get_or-append-add (replicate 80 0) (replicate 80 32) i 0
    ∙ get_or-replicate 80 i 32 0 h

pub masks_long : (ms : List ℕ) → ms ≡ mask_bytes → length ms ≡ 240
masks_long ms e = ap length e ∙ (unfold mask_bytes in refl)

-- those of a line of n bytes, as they are taken
pub own_masks : (n : ℕ) (ms : List ℕ) → ms ≡ mask_bytes → take (80 - n + 160 - (80 - n)) (drop (80 - n) ms) ≡ take 160 (drop (80 - n) mask_bytes)
own_masks n ms e = let width : 80 - n + 160 - (80 - n) ≡ 160 = omega arith in rw (width, e)

pub own_long : (n : ℕ) → n ≤ 80 → (ms : List ℕ) → ms ≡ mask_bytes → length (take (80 - n + 160 - (80 - n)) (drop (80 - n) ms)) ≡ 160
own_long n h ms e =
    let width : 80 - n + 160 - (80 - n) ≡ 160 = omega arith in
    rw width (length-take-le 160 (drop (80 - n) ms) (omega (arith, masks_long ms e, length-drop (80 - n) ms)))

column_kept : (b : ℕ) → b ≤ 255 → column_of b 255 0 ≡ b
unfolding column_of
column_kept b h = omega arith

column_filled : (b : ℕ) → column_of b 0 32 ≡ 32
unfolding column_of
column_filled b = omega arith

-- the 160 masks of a line of n bytes
module _ (n : ℕ) (few : n ≤ 80) (ms : List ℕ) (em : ms ≡ take 160 (drop (80 - n) mask_bytes)) where
  own_at : (j k : ℕ) → j < 160 → 80 - n + j ≡ k → get_or ms j 0 ≡ get_or mask_bytes k 0
  own_at j k h e = ap (λ (l : List ℕ). get_or l j 0) em ∙ get_or-take 160 (drop (80 - n) mask_bytes) j 0 h ∙ get_or-drop (80 - n) mask_bytes j 0 ∙ ap (λ i. get_or mask_bytes i 0) e

  column_own : (b i : ℕ) → b ≤ 255 → i < n → column_of b (get_or ms i 0) (get_or ms (80 + i) 0) ≡ b
  column_own b i h l =
      rw (own_at i (80 - n + i) (omega arith) refl, mask_kept (80 - n + i) (omega arith), own_at (80 + i) (80 + (80 - n + i)) (omega arith) (omega arith), mask_none (80 - n + i) (omega arith))
      (column_kept b h)

  column_none : (b i : ℕ) → n ≤ i → i < 80 → column_of b (get_or ms i 0) (get_or ms (80 + i) 0) ≡ 32
  column_none b i l h =
      rw (own_at i (80 + (i - n)) (omega arith) (omega arith), mask_none (i - n) (omega arith), own_at (80 + i) (160 + (i - n)) (omega arith) (omega arith), mask_blank (i - n) (omega arith))
      (column_filled b)

-- the first i columns of the output are those of the padded line
pub record Filling (f : List ℕ) (n : ℕ) (out : List ℕ) (i : ℕ) : Type 0 where
  pub there : n ≤ length f
  pub few : n ≤ 80
  pub wide : length out ≡ 81
  pub most : i ≤ 80
  pub begun : take i out ++ drop i (padded_line (take n f)) ≡ padded_line (take n f)

pub fill_from : (f : List ℕ) (n : ℕ) (out : List ℕ) → n ≤ length f → n ≤ 80 → length out ≡ 81 → Filling f n out 0
fill_from f n out there few wide = record { there = there; few = few; wide = wide; most = omega arith; begun = refl }

module _ (f : List ℕ) (n : ℕ) (out : List ℕ) (i : ℕ) (g : Filling f n out i) where
  size : length (take n f) ≡ n
  size = length-take-le n f g.there

  same : length (padded_line (take n f)) ≡ length out
  same = line_81 (take n f) (omega (arith, size, g.few)) ∙ sym g.wide

  next : i < 80 → (b : ℕ) → b ≡ get_or (padded_line (take n f)) i 0 → Filling f n (set out i b) (i + 1)
  next h b e = record {
    there = g.there;
    few = g.few;
    wide = length-set out i b ∙ g.wide;
    most = omega arith;
    begun = fill_turn (padded_line (take n f)) out i same b e (omega (arith, g.wide)) ∙ g.begun;
  }

  pub fill_next : i < 80 → (ms : List ℕ) → ms ≡ take 160 (drop (80 - n) mask_bytes) → (a : ℕ) → a ≡ get_or f i 0 → a ≤ 255
      → (b : ℕ) → b ≡ column_of a (get_or ms i 0) (get_or ms (80 + i) 0) → Filling f n (set out i b) (i + 1)
  fill_next h ms em a ea most b eb = next h b (eb ∙ cases (suc i ≤? n) (λ e. kept (to≤ e)) (λ e. blank (omega (arith, no≤ e))))
    where
      kept : i < n → column_of a (get_or ms i 0) (get_or ms (80 + i) 0) ≡ get_or (padded_line (take n f)) i 0
      kept l =
          column_own n g.few ms em a i most l ∙ ea
          ∙ sym (column_text (take n f) (omega (arith, size, g.few)) i (omega (arith, size)) ∙ get_or-take n f i 0 l)

      blank : n ≤ i → column_of a (get_or ms i 0) (get_or ms (80 + i) 0) ≡ get_or (padded_line (take n f)) i 0
      blank l = column_none n g.few ms em a i l h ∙ sym (column_blank (take n f) (omega (arith, size, g.few)) i (omega (arith, size)) h)

  pub fill_done : 80 ≤ i → set out 80 10 ≡ padded_line (take n f)
  fill_done h =
      let e : i ≡ 80 = omega (arith, g.most) in
      let at : take 80 out ++ drop 80 (padded_line (take n f)) ≡ padded_line (take n f) = rw e at g.begun in
      sym (fill_end (padded_line (take n f)) (set out 80 10) 81 (same ∙ sym (length-set out 80 10)) (omega (arith, g.wide, length-set out 80 10)))
      ∙ fill_turn (padded_line (take n f)) out 80 same 10 (sym (column_feed (take n f) (omega (arith, size, g.few)))) (omega (arith, g.wide))
      ∙ at

-- the first 80 bytes hold a line of at most 80
pub laid_80 : (f : List ℕ) (n : ℕ) → n ≤ 80 → (p : List ℕ) → p ≡ padded_line (take n (take 80 f)) → p ≡ padded_line (take n f)
laid_80 f n h p e = e ∙ ap padded_line (take-take n 80 f h)
