-- The loop over the entries: what stands for those so far, with what is still to stand for the rest, is what stands for all.
use mathlib.Core.Path.{◌≡◌, refl, sym, ◌∙◌, ap, ap₂}
use mathlib.Core.List.{List, [], ◌∷◌, ◌++◌, append_assoc, append-nil, map}
use Prim.Native.Nat.{ℕ, ◌+◌, ◌-◌, ◌*◌, ◌≤◌, ◌<◌}
use native.Mathlib.Numerals.{add-one}
use native.Mathlib.Omega.{arith}
use lib.ListN.{length, take, drop, get_or, set, length-set, take-append-drop, drop_of_length-le}
use lib.Seq.{drop-cons, drop-drop, take-suc-set, drop-set-lt}
use Rattle.rules.specs.Calls.{read_of}
use Rattle.rules.specs.Pulling.{pulled_line, pulled_fault, pulled_lines, pulled_faults}
use Rattle.rules.proofs.FileLaws.{Laid, laid_next, laid_done}
use Rattle.rules.proofs.PullingLaws.{line_81}
use Rattle.pulling.specs.Entries.{Entry, Entries}

pub record Drawing (f rs o₀ s₀ : List ℕ) (n : ℕ) (o s : List ℕ) (i : ℕ) : Type 0 where
  pub count : n ≡ length rs
  pub room : 81 * length rs ≤ length o₀
  pub places : length rs ≤ length s₀
  pub most : i ≤ n
  pub lines : Laid (pulled_lines f rs) o₀ o i (map (pulled_line f) (drop i rs))
  pub size : length s ≡ length s₀
  pub faults : take i s ++ map (pulled_fault f) (drop i rs) ≡ pulled_faults f rs
  pub rest : drop i s ≡ drop i s₀

pub draw_from : (f rs o s : List ℕ) → 81 * length rs ≤ length o → length rs ≤ length s → (n : ℕ) → n ≡ length rs → Drawing f rs o s n o s 0
unfolding pulled_lines pulled_faults
draw_from f rs o s room places n e = record {
  count = e;
  room = room;
  places = places;
  most = omega arith;
  lines = record { size = refl; laid = refl; rest = refl };
  size = refl;
  faults = refl;
  rest = refl;
}

module _ (f rs o₀ s₀ : List ℕ) (n : ℕ) (o s : List ℕ) (i : ℕ) (g : Drawing f rs o₀ s₀ n o s i) where
  module _ (h : i < n) where
    here : drop i rs ≡ get_or rs i 0 ∷ drop (i + 1) rs
    here = rw add-one (drop-cons rs i 0 (omega (arith, g.count)))

    pub draw_next : (v : ℕ) (l : List ℕ) → Entry (get_or rs i 0) (read_of f (get_or rs i 0)) v l
        → Drawing f rs o₀ s₀ n (take (81 * i) o ++ (l ++ drop (81 * i + 81 - 81 * i) (drop (81 * i) o))) (set s i v) (i + 1)
    draw_next v l e =
        rw width
        record {
          count = g.count;
          room = g.room;
          places = g.places;
          most = omega arith;
          lines = laid_next (pulled_lines f rs) o₀ o i l _ its_line long enough;
          size = length-set s i v ∙ g.size;
          faults = its_fault;
          rest = behind;
        }
      where
        width : 81 * i + 81 - 81 * i ≡ 81
        width = omega arith

        styled : l ≡ pulled_line f (get_or rs i 0)
        styled = e.line ∙ (unfold pulled_line in refl)

        long : length l ≡ 81
        long = ap length styled ∙ line_81 f (get_or rs i 0)

        enough : 81 * i + 81 ≤ length o
        enough = omega (arith, g.lines.size, g.room, g.count)

        its_line : Laid (pulled_lines f rs) o₀ o i (l ∷ map (pulled_line f) (drop (i + 1) rs))
        its_line = rw styled (rw here at g.lines)

        named : v ≡ pulled_fault f (get_or rs i 0)
        named = e.fault ∙ (unfold pulled_fault in refl)

        inside : i < length s
        inside = omega (arith, g.size, g.places, g.count)

        one_more : take (i + 1) (set s i v) ≡ take i s ++ (v ∷ [])
        one_more = rw add-one (take-suc-set s i v inside)

        its_fault : take (i + 1) (set s i v) ++ map (pulled_fault f) (drop (i + 1) rs) ≡ pulled_faults f rs
        its_fault =
            ap (λ (x : List ℕ). x ++ map (pulled_fault f) (drop (i + 1) rs)) one_more
            ∙ append_assoc (take i s) (v ∷ []) (map (pulled_fault f) (drop (i + 1) rs))
            ∙ ap (λ x. take i s ++ (x ∷ map (pulled_fault f) (drop (i + 1) rs))) named
            ∙ (rw here at g.faults)

        behind : drop (i + 1) (set s i v) ≡ drop (i + 1) s₀
        behind = drop-set-lt (i + 1) s i v (omega arith) ∙ further s ∙ ap (drop 1) g.rest ∙ sym (further s₀)
          where
            further : (x : List ℕ) → drop (i + 1) x ≡ drop 1 (drop i x)
            further x = sym (drop-drop 1 i x)

  pub draw_done : n ≤ i → Entries f rs o₀ s₀ o s
  draw_done h =
      let e : i ≡ length rs = omega (arith, g.most, g.count) in
      let none : drop i rs ≡ [] = drop_of_length-le rs {i = i} (omega (arith, e)) in
      let all_lines : Laid (pulled_lines f rs) o₀ o i [] = rw none at g.lines in
      let all-faults : take i s ++ [] ≡ pulled_faults f rs = rw none at g.faults in
      record {
        lines = laid_done (pulled_lines f rs) o₀ o i all_lines ∙ ap (λ k. pulled_lines f rs ++ drop (81 * k) o₀) e;
        faults = sym (take-append-drop i s) ∙ ap₂ ◌++◌ (sym (append-nil (take i s)) ∙ all-faults) (g.rest ∙ ap (λ k. drop k s₀) e);
      }
