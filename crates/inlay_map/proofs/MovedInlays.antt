-- Inlays that a replacement of the text has moved, and the one of an id.
use Rattle.std.proofs.Common.{◌≡◌, ℕ, zero, suc, ◌+◌, ◌<◌, ◌≤◌, ◌==◌, ◌^◌, Bool, true, false, cond, List, [], ◌∷◌, length, map, count_by, get_or, Option, Some, position, refl, sym, ap, ◌∙◌, subst, inl, inr, arith}
use Rattle.std.specs.List.{All, Contains, find, list_any, slice_get}
use Rattle.std.specs.Option.{is_some}
use Rattle.std.specs.Str.{IsUtf8}
use Rattle.std.proofs.lemmas.Bool.{cases_lt, eq-eqb}
use Rattle.std.proofs.lemmas.Bool.Decides.{nat_tests}
use Rattle.std.proofs.lemmas.Option.{slice_get_cases}
use Rattle.cell_units.specs.declared.limits.TheConstants.{INLAY_LIMIT, LAID_LIMIT}
use Rattle.cell_units.specs.declared.place.Bias.{Bias}
use Rattle.cell_units.specs.declared.place.Shift.{Shift}
use Rattle.cell_units.specs.Anchor.{move}
use Rattle.cell_units.specs.Lawful.{AreInlays, IsInlayOf}
use Rattle.cell_units.specs.Operation.{move_inlay, moved_inlays, without_inlay}
use Rattle.cell_units.specs.Record.{Inlay, inlay_le}
use Rattle.cell_units.specs.Text.{IsBoundary}
use Rattle.cell_units.proofs.CutLists.{Every}
use Rattle.cell_units.proofs.Entries.{entries-moved}
use Rattle.cell_units.proofs.EntryOrders.{inlay_total, inlay_trans}
use Rattle.cell_units.proofs.FoundEntries.{All-from_Every, Every-from_All}
use Rattle.cell_units.proofs.SortedLists.{count-cons}
use Rattle.mark_tree.specs.declared.mark.Mark.{Mark}
use Rattle.mark_tree.specs.Marks as marks
use Rattle.mark_tree.proofs.Changing.{filter-one}
use Rattle.mark_tree.proofs.Finding.{position-any, position-some}
use Rattle.mark_tree.proofs.Moved.{move-before, move-behind, move-within}
use Rattle.inlay_map.specs.Splices.{inlay_of, without_at}
use Rattle.inlay_map.proofs.InlayMarks.{moved-marks}

-- an inlay but for where it is
abbrev HasText : Inlay → Type 0
HasText i = IsUtf8 i.text × (0 < length i.text) × (length i.text ≤ INLAY_LIMIT)

-- inlays that are at boundaries again fit the new text
pub moved-are : (s : Shift) (text new : List ℕ) (is : List Inlay) → AreInlays text is → All (λ i. IsBoundary new i.offset) (moved_inlays s.start s.end s.count is)
    → AreInlays new (moved_inlays s.start s.end s.count is)
moved-are s text new is are at =
    let e = entries-moved inlay_le inlay_total inlay_trans (λ i. i.id) (IsInlayOf text) HasText (move_inlay s.start s.end s.count) (λ i. refl) (λ i f. (f.utf8, f.some, f.short)) is are in
    record {
      in_order = e.in_order;
      distinct = e.distinct;
      few = e.few;
      each = λ k d lt. let h = e.each k d lt in record { boundary = at k d lt; utf8 = h.0; some = h.1; short = h.2 };
    }

-- ---- their marks

move-small : (p : ℕ) (bias : Bias) (a b n : ℕ) → a ≤ b → p ≤ LAID_LIMIT → a + n ≤ LAID_LIMIT → move p bias a b n < 2 ^ 32
move-small p bias a b n order small less = elim (cases_lt p a) [
  | inl before ↦ omega (arith, move-before p bias a b n before, small)
  | inr from ↦ elim (cases_lt b p) [
    | inl behind ↦ omega (arith, move-behind p bias a b n order behind, small, less)
    | inr within ↦ omega (arith, (move-within p bias a b n from within).1, less)
  ]
]

pub offsets-fit : (s : Shift) (text : List ℕ) (ms : List (Mark (List ℕ))) → AreInlays text (map inlay_of ms) → length text ≤ LAID_LIMIT → s.start + s.count ≤ LAID_LIMIT
    → All (λ m. m.offset < 2 ^ 32) (map (marks.move_mark s) ms)
offsets-fit s text ms are short less =
    All-from_Every (λ (m : Mark (List ℕ)). m.offset < 2 ^ 32) (map (marks.move_mark s) ms) (each ms (Every-from_All (IsInlayOf text) (map inlay_of ms) are.each))
  where
    each : (ns : List (Mark (List ℕ))) → Every (IsInlayOf text) (map inlay_of ns) → Every (λ (m : Mark (List ℕ)). m.offset < 2 ^ 32) (map (marks.move_mark s) ns)
    each [] e = tt
    each (n ∷ ns) e = (move-small n.offset n.bias s.start s.end s.count s.ordered (omega (arith, e.0.boundary.0, short)) less, each ns e.1)

pub marks-are : (s : Shift) (text new : List ℕ) (ms : List (Mark (List ℕ))) → AreInlays text (map inlay_of ms) → All (λ i. IsBoundary new i.offset) (moved_inlays s.start s.end s.count (map inlay_of ms))
    → AreInlays new (map inlay_of (marks.moved_marks s ms))
marks-are s text new ms are at = subst (AreInlays new) (sym (moved-marks s ms)) (moved-are s text new (map inlay_of ms) are at)

-- ---- the inlay of an id

abbrev counted : ℕ → List Inlay → ℕ
counted id is = count_by (λ (i : Inlay). i.id == id) is

one-of : (id : ℕ) (i : Inlay) (is : List Inlay) → counted id (i ∷ is) ≡ cond (i.id == id) 1 0 + counted id is
one-of id i is = count-cons (λ (j : Inlay). j.id == id) i is

some-same : {X : Type 0} (x y : X) → Some x ≡ Some y → x ≡ y
some-same x y p = cc

some-counted : (id : ℕ) (is : List Inlay) (k : ℕ) (i : Inlay) → slice_get is k ≡ Some i → i.id ≡ id → 1 ≤ counted id is
some-counted id [] k i e f = absurd (cc)
some-counted id (j ∷ js) zero i e f =
    omega (arith, one-of id j js, ap {B = ℕ} (λ (b : Bool). cond b 1 0) (eq-eqb j.id id (ap (λ (x : Inlay). x.id) (some-same j i e) ∙ f)))
some-counted id (j ∷ js) (suc k) i e f = omega (arith, one-of id j js, some-counted id js k i e f)

contained : (is : List Inlay) (k : ℕ) (i : Inlay) → k < length is → get_or is k i ≡ i → slice_get is k ≡ Some i
contained [] k i lt e = absurd (omega (arith, lt))
contained (j ∷ js) zero i lt e = ap Some e
contained (j ∷ js) (suc k) i lt e = contained js k i (omega (arith, lt)) e

-- ---- the one that a search finds

pub found-contained : (id : ℕ) (is : List Inlay) (i : Inlay) → find (λ j. j.id == id) is ≡ Some i → Contains is i × (i.id ≡ id)
found-contained id [] i e = absurd (cc)
found-contained id (j ∷ js) i e = go (j.id == id) refl e (found-contained id js i) where
  equal : (m n : ℕ) → (m == n) ≡ true → m ≡ n
  equal m n h = grind (arith, nat_tests)

  go : (b : Bool) → (j.id == id) ≡ b → cond b (Some j) (find (λ x. x.id == id) js) ≡ Some i → (find (λ x. x.id == id) js ≡ Some i → Contains js i × (i.id ≡ id)) → Contains (j ∷ js) i × (i.id ≡ id)
  go true t h rest =
      let same : j ≡ i = some-same j i h in
      ((0, omega arith, same), sym (ap (λ (x : Inlay). x.id) same) ∙ equal j.id id t)
  go false t h rest =
      let r = rest h in
      ((suc r.0.0, omega (arith, r.0.1), r.0.2), r.1)

pub contained-found : (id : ℕ) (is : List Inlay) (i : Inlay) → counted id is ≤ 1 → Contains is i → i.id ≡ id → find (λ j. j.id == id) is ≡ Some i
contained-found id is i few c same = go is c.0 few (contained is c.0 i c.1 c.2) where
  go : (js : List Inlay) (k : ℕ) → counted id js ≤ 1 → slice_get js k ≡ Some i → find (λ j. j.id == id) js ≡ Some i
  go [] k less e = absurd (cc)
  go (j ∷ js) zero less e =
      let this : j ≡ i = some-same j i e in
      ap (λ (b : Bool). cond b (Some j) (find (λ x. x.id == id) js)) (eq-eqb j.id id (ap (λ (x : Inlay). x.id) this ∙ same)) ∙ ap Some this
  go (j ∷ js) (suc k) less e = further (j.id == id) (one-of id j js) (go js k) where
    further : (b : Bool) → counted id (j ∷ js) ≡ cond b 1 0 + counted id js → (counted id js ≤ 1 → slice_get js k ≡ Some i → find (λ x. x.id == id) js ≡ Some i)
        → cond b (Some j) (find (λ x. x.id == id) js) ≡ Some i
    further true sum rest = absurd (omega (arith, sum, less, some-counted id js k i e same))
    further false sum rest = rest (omega (arith, sum, less)) e

-- the inlay of the id, which is at the index that a search finds
pub record IsAt (id : ℕ) (is : List Inlay) (index : ℕ) : Type 0 where
  pub inlay : Inlay
  pub stands : slice_get is index ≡ Some inlay
  pub same : inlay.id ≡ id
  pub found : find (λ j. j.id == inlay.id) is ≡ Some inlay
  pub left : without_at index is ≡ without_inlay inlay.id is

pub at-position : (id : ℕ) (is : List Inlay) (index : ℕ) → counted id is ≤ 1 → position (λ j. j.id == id) is ≡ Some index → IsAt id is index
at-position id is index few e = elim (slice_get_cases is index).1 [
  | inl here ↦
      let i = here.0 in
      let p = λ (j : Inlay). j.id == id in
      let at = position-some p is index e in
      let same : i.id ≡ id = equal i.id id (ap p (sym here.3) ∙ at.1 i) in
      record {
        inlay = i;
        stands = here.2;
        same = same;
        found = subst (λ n. find (λ j. j.id == n) is ≡ Some i) (sym same) (contained-found id is i few (index, here.1, here.3) same);
        left = subst (λ n. without_at index is ≡ without_inlay n is) (sym same) (sym (filter-one p is index at.0 at.1 few));
      }
  | inr past ↦ absurd (omega (arith, (position-some (λ (j : Inlay). j.id == id) is index e).0, past.0))
] where
  equal : (m n : ℕ) → (m == n) ≡ true → m ≡ n
  equal m n h = grind (arith, nat_tests)

-- one has the id exactly where one is found
pub found-any : (id : ℕ) (is : List Inlay) (found : Option ℕ) → found ≡ position (λ j. j.id == id) is → list_any (λ j. j.id == id) is ≡ is_some found
found-any id is found e = sym (position-any (λ (j : Inlay). j.id == id) is) ∙ ap is_some (sym e)
