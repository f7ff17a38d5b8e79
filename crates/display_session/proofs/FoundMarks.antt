-- Which marks are found, and where one is that is added.
use Rattle.std.proofs.Common.{◌≡◌, ℕ, cond, not, ltb, Bool, true, false, List, length, refl, sym, ap, ◌∙◌}
use Rattle.std.specs.Prelude.{Option, Some, None, option_map, slice_get}
use Rattle.std.specs.List.{find, list_any, position, position_or_len}
use Rattle.std.proofs.lemmas.Bool.{eq-eqb, ltb-false}
use Rattle.std.proofs.lemmas.List.Folds.{find_at}
use Rattle.std.proofs.lemmas.Map.Keys.{any_passes_from_place}
use Rattle.std.proofs.lemmas.Option.{slice_get_past}
use Rattle.cell_units.specs.declared.fault.Fault.{Fault}
use Rattle.cell_units.specs.declared.fault.Fault.TheVariants as faults
use Rattle.cell_units.specs.declared.fault.Refusal.{Refusal}
use Rattle.cell_units.specs.declared.fault.Refusal.TheVariants.{BadRange, IdInUse, TooLong, UnknownId}
use Rattle.cell_units.specs.Text.{is_boundary}
use Rattle.mark_tree.specs.Marks.{IsRefusedFor, has_id}
use Rattle.display_sheet.specs.Changes.{is_full}
use Rattle.display_session.specs.HostMarks.{HostMark, mark_refusal, offset_of, unmark_refusal}
use Rattle.display_session.specs.Troubles.{IsOwed, trouble_of}

-- ---- the mark of an id

some-is : (x y : ℕ) → Some x ≡ Some y → x ≡ y
some-is x y e = cc e

place-is : (b : Bool) (n k : ℕ) → cond b (Some n) None ≡ Some k → n ≡ k
place-is true n k e = some-is n k e
place-is false n k e = absurd (cc e)

no-place : (b : Bool) (n : ℕ) → cond b (Some n) None ≡ None → b ≡ false
no-place true n e = absurd (cc e)
no-place false n e = refl

pub found-some : (id : ℕ) (marks : List HostMark) (k : ℕ) → position (has_id id) marks ≡ Some k → find (has_id id) marks ≡ slice_get marks k
found-some id marks k e =
    let n = position_or_len (has_id id) marks in
    find_at (has_id id) marks ∙ ap (slice_get marks) (place-is (ltb n (length marks)) n k e)

pub found-none : (id : ℕ) (marks : List HostMark) → position (has_id id) marks ≡ None → None ≡ offset_of id marks
found-none id marks e =
    let n = position_or_len (has_id id) marks in
    ap (λ (m : Option HostMark). option_map (λ m. m.offset) m)
    (sym (find_at (has_id id) marks ∙ slice_get_past marks n (ltb-false n (length marks) (no-place (ltb n (length marks)) n e))))

pub found-at : (id : ℕ) (marks : List HostMark) (k : ℕ) (m : HostMark) → position (has_id id) marks ≡ Some k → slice_get marks k ≡ Some m → Some m.offset ≡ offset_of id marks
found-at id marks k m e is =
    ap (λ (m : Option HostMark). option_map (λ m. m.offset) m) (sym (found-some id marks k e ∙ is))

-- ---- why a mark isn't added

-- the offset of one that is added is a boundary
pub accepted-at : (text : List ℕ) (marks : List HostMark) (id offset : ℕ) → mark_refusal text marks id offset ≡ None → is_boundary text offset ≡ true
accepted-at text marks id offset e = go (list_any (has_id id) marks) (is_boundary text offset) (cond (is_full marks) (Some TooLong) None) e where
  go : (there at : Bool) (rest : Option Refusal) → cond there (Some IdInUse) (cond (not at) (Some BadRange) rest) ≡ None → at ≡ true
  go true at rest e = absurd (cc e)
  go false true rest e = refl
  go false false rest e = absurd (cc e)

-- ---- why a mark isn't removed

-- one that is removed was there
pub removed-accepted : (id : ℕ) (marks : List HostMark) (k : ℕ) (m : HostMark) → slice_get marks k ≡ Some m → m.id ≡ id → unmark_refusal marks id ≡ None
removed-accepted id marks k m at is =
    ap (λ (there : Bool). cond (not there) (Some UnknownId) None) (any_passes_from_place (has_id id) marks k m at (eq-eqb m.id id is))

pub unremoved-owed : (id : ℕ) (marks : List HostMark) (fault : Fault) → IsRefusedFor UnknownId (not (list_any (has_id id) marks)) fault →
    IsOwed (unmark_refusal marks id) (trouble_of fault)
unremoved-owed id marks (faults.Refused refusal) it =
    ap (λ (none : Bool). cond none (Some UnknownId) None) it.1 ∙ ap Some (sym it.0)
unremoved-owed id marks faults.NoMemory it = tt
