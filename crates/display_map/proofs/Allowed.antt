-- What isn't refused is allowed.
use Rattle.std.proofs.Common.{◌≡◌, not, eqb, leb, ◌&&◌, cond, Bool, true, false, [], ◌∷◌, map, refl, inl, inr, arith}
use Rattle.std.specs.Prelude.{Option, Some, None}
use Rattle.std.specs.Str.{IsUtf8}
use Rattle.std.proofs.lemmas.Bool.{and_parts, eqb-true, leb-true, or_cases}
use Rattle.std.proofs.lemmas.List.Elements.{All-cons, All-nil}
use Rattle.cell_units.specs.declared.fault.Refusal.{Refusal}
use Rattle.cell_units.specs.declared.fault.Refusal.TheVariants.{BadNumber, BadRange}
use Rattle.cell_units.specs.declared.limits.TheConstants.{LEAST_WIDTH, TAB_LIMIT, WIDTH_LIMIT}
use Rattle.cell_units.specs.Lawful.{IsAllowed}
use Rattle.cell_units.specs.Operation.{Operation, Replace, AddBlock, AddFold, AddInlay, RemoveBlock, RemoveFold, RemoveInlay, SetTab, SetWidth}
use Rattle.cell_units.specs.Record.{Record}
use Rattle.cell_units.specs.Text.{IsText}
use Rattle.display_sheet.specs.declared.change.Splice.{Splice}
use Rattle.display_sheet.specs.Changes.{ChangeParts, Edit, One, are_ranges, is_tab_size, is_width, operation_refusal, operations_in, refusal_of, splice_of}
use Rattle.display_sheet.proofs.Refused.{block-allowed, fold-allowed, inlay-allowed}
use Rattle.display_map.specs.Events.{Did}
use Rattle.display_map.specs.LawfulStates.{ChangeInsertsUtf8, EventsFit, InsertsUtf8}
use Rattle.display_map.specs.Replay.{State}
use Rattle.display_map.proofs.Batches.{are_ordered}
use Rattle.display_map.proofs.FittingBatches.{at_boundaries, fitting_edit}

passed : (b : Bool) (refusal : Refusal) (rest : Option Refusal) → cond (not b) (Some refusal) rest ≡ None → b ≡ true
passed true refusal rest e = refl
passed false refusal rest e = absurd (cc e)

pub operation-allowed : (r : Record) (operation : Operation) → IsText r.text → InsertsUtf8 operation → operation_refusal r operation ≡ None → IsAllowed operation r
operation-allowed r (Replace start end text) is utf8 e =
    let splices = splice_of start end text ∷ [] in
    let ok = passed (are_ranges r.text 0 splices) BadRange _ e in
    let at = at_boundaries r.text 0 splices is.0 ok in
    (at.0.0, at.0.1, (are_ordered r.text 0 splices (omega arith) ok).1, utf8)
operation-allowed r (AddInlay inlay) is utf8 e = inlay-allowed r inlay is.0 utf8 e
operation-allowed r (RemoveInlay id) is utf8 e = tt
operation-allowed r (AddFold fold) is utf8 e = fold-allowed r fold is.0 e
operation-allowed r (RemoveFold id) is utf8 e = tt
operation-allowed r (AddBlock row id side lines) is utf8 e = block-allowed r row id lines side utf8 e
operation-allowed r (RemoveBlock id) is utf8 e = tt
operation-allowed r (SetTab size) is utf8 e =
    let both = and_parts (leb 1 size) (leb size TAB_LIMIT) (passed (is_tab_size size) BadNumber None e) in
    (leb-true 1 size both.0, leb-true size TAB_LIMIT both.1)
operation-allowed r (SetWidth cells) is utf8 e =
    let wide = leb LEAST_WIDTH cells && leb cells WIDTH_LIMIT in
    elim (or_cases (eqb cells 0) wide (passed (is_width cells) BadNumber None e)) [
      | inl none ↦ inl (eqb-true cells 0 none)
      | inr some ↦
          let both = and_parts (leb LEAST_WIDTH cells) (leb cells WIDTH_LIMIT) some in
          inr (leb-true LEAST_WIDTH cells both.0, leb-true cells WIDTH_LIMIT both.1)
    ]

-- the operations of a change, each in the record that it finds
pub change-fits : (s : State) (change : ChangeParts) → IsText s.present.text → ChangeInsertsUtf8 change → refusal_of s.present change ≡ None →
    EventsFit s (map Did (operations_in change))
change-fits s (Edit splices) is utf8 e = fitting_edit s splices is utf8 e
change-fits s (One (Replace start end text)) is utf8 e =
    let P : Splice → Type 0 = λ (x : Splice). IsUtf8 x.text in
    fitting_edit s (splice_of start end text ∷ []) is (All-cons P (splice_of start end text) [] utf8 (All-nil P)) e
change-fits s (One (AddInlay inlay)) is utf8 e = (operation-allowed s.present (AddInlay inlay) is utf8 e, tt)
change-fits s (One (RemoveInlay id)) is utf8 e = (tt, tt)
change-fits s (One (AddFold fold)) is utf8 e = (operation-allowed s.present (AddFold fold) is utf8 e, tt)
change-fits s (One (RemoveFold id)) is utf8 e = (tt, tt)
change-fits s (One (AddBlock row id side lines)) is utf8 e = (operation-allowed s.present (AddBlock row id side lines) is utf8 e, tt)
change-fits s (One (RemoveBlock id)) is utf8 e = (tt, tt)
change-fits s (One (SetTab size)) is utf8 e = (operation-allowed s.present (SetTab size) is utf8 e, tt)
change-fits s (One (SetWidth cells)) is utf8 e = (operation-allowed s.present (SetWidth cells) is utf8 e, tt)
