-- The numbers that the code reads from the columns are those of the record's meaning, and the word that it defines is its own.
use mathlib.Core.Path.{◌≡◌, refl, sym, ◌∙◌, ap}
use mathlib.Core.Logic.{inl}
use mathlib.Core.Bool.{Bool, true, false, false≢true}
use mathlib.Core.List.{List, [], ◌∷◌}
use Prim.Native.Nat.{ℕ, ◌+◌}
use lib.ListN.{get_or}
use Rattle.rules.specs.Tests.{all, ◌=?◌}
use Rattle.rules.specs.Characters.{is_blank}
use Rattle.rules.specs.Items.{number, value_of, width}
use Rattle.rules.specs.Fields.{Field, given, entries_of, values, value_at, columns_of, num_of}
use Rattle.rules.specs.Records.{code_at, meaning}
use Rattle.rules.specs.Kinds.{kind_of, *25*}
use Rattle.rules.specs.Layouts.{kept, layouts, layout}
use Rattle.rules.specs.Members.{◌∈◌}
use Rattle.rules.specs.References.{Family, stations, families, Naming, names, namings, is_a, number_at, slot_of}
use Rattle.rules.specs.Chapter4.{chapter4}
use Rattle.rules.proofs.Truth.{to≡, cases}
use Rattle.rules.proofs.ReferenceLaws.{first_same}
use Rattle.rules.proofs.TableLaws.{has_number_at, number_is, own_field, named_field}
use Rattle.columns.specs.Types.{nat_of}
use Rattle.reading.specs.Values.{nat_in}
use Rattle.walk.specs.Words.{lead_width, lead_in, slot_in}
use Rattle.walk.proofs.WordLaws.{lead_width_lem}

-- a number that is missing counts as 0 on both sides
same_number : (w lo hi : ℕ) (may : Bool) (bs : List ℕ) → num_of (value_of (number w lo hi may) bs) ≡ nat_of (value_of (number 0 0 0 true) bs)
unfolding value_of num_of nat_of
same_number w lo hi may bs = cases (all is_blank bs) (λ e. rw e) (λ e. rw e)

module _ (l : List ℕ) where
  -- a field of a family's numbers, by the columns at which it starts
  field_number : (F : Family) (c : ℕ) (fs : List Field) → has_number_at F c fs ≡ true → num_of (value_at c (entries_of fs (values fs l))) ≡ nat_in c F.width l
  unfolding has_number_at value_at entries_of given values
  field_number F c [] h = absurd (false≢true h)
  field_number F c (f ∷ fs) h =
      cases (f.from =? c)
      (λ y. rw y (own (number_is F f.item (rw y at h)) (to≡ y)))
      (λ y. rw y (field_number F c fs (rw y at h)))
    where
      own : f.item ≡ number F.width 1 F.most false → f.from ≡ c → num_of (value_of f.item (columns_of f l)) ≡ nat_in c F.width l
      own e z = unfold columns_of nat_in width in rw (e, z) (same_number F.width 1 F.most false _)

  at_kind : (c k : ℕ) → kind_of (code_at l) ≡ k → number_at c (meaning chapter4 l) ≡ num_of (value_at c (entries_of (get_or layouts k kept) (values (get_or layouts k kept) l)))
  unfolding number_at meaning layout
  at_kind c k e = rw e

  -- the number that a record of the family's kind defines, and a number that a record names
  pub own_number : (F : Family) → F ∈ families → kind_of (code_at l) ≡ F.kind → number_at 11 (meaning chapter4 l) ≡ nat_in 11 F.width l
  own_number F i e = at_kind 11 F.kind e ∙ field_number F 11 (get_or layouts F.kind kept) (own_field F i)

  pub named-number : (N : Naming) → N ∈ namings → kind_of (code_at l) ≡ N.by → number_at N.column (meaning chapter4 l) ≡ nat_in N.column N.family.width l
  named-number N i e = at_kind N.column N.by e ∙ field_number N.family N.column (get_or layouts N.by kept) (named_field N i)

  -- ---- the number that is kept, and the word
  module _ (k : ℕ) (e : k ≡ kind_of (code_at l)) where
    pub lead_of_25 : k =? *25* ≡ true → lead_in k l ≡ number_at 11 (meaning chapter4 l)
    unfolding lead_in lead_width ◌=?◌
    lead_of_25 h = let z = to≡ {m = k} {n = *25*} h in rw z (sym (named-number (names *25* 11 stations) occupied (sym e ∙ z)))
      where
        occupied : names *25* 11 stations ∈ namings
        occupied = unfold ◌∈◌ in inl refl

    pub lead_of : (F : Family) → F ∈ families → k =? F.kind ≡ true → lead_in k l ≡ number_at 11 (meaning chapter4 l)
    unfolding lead_in
    lead_of F i h = let z = to≡ {m = k} {n = F.kind} h in rw (z, lead_width_lem F i) (sym (own_number F i (sym e ∙ z)))

    pub its_kind : (j : ℕ) → is_a j (meaning chapter4 l) ≡ k =? j
    unfolding is_a meaning
    its_kind j = rw (← e)

    pub its_slot : slot_of (meaning chapter4 l) ≡ slot_in k (lead_in k l)
    unfolding slot_of slot_in
    its_slot = first_same _ _ _ _ 12_000 families (λ F i. its_kind F.kind) (λ F i h. ap (λ n. F.base + n) (sym (lead_of F i h)))
