-- What both maps are asked once they were given an operation, and what they make of it.
use Rattle.std.proofs.Common.{IsSome, ◌≡◌, ◌==◌, ℕ, ◌≤◌, find, List, length, Option, option_map, Some, None, refl, sym, ap, ◌∙◌, subst}
use Rattle.cell_units.specs.declared.limits.TheConstants.{LAID_LIMIT}
use Rattle.cell_units.specs.declared.place.Shift.{Shift}
use Rattle.cell_units.specs.Lawful.{HasLawfulEntries, IsAllowed, IsWellFormed, source_of}
use Rattle.cell_units.specs.Layers.{Source, inlay_source, unfolded}
use Rattle.cell_units.specs.Operation.{AddBlock, AddFold, AddInlay, Operation, RemoveBlock, RemoveFold, RemoveInlay, Replace, SetTab, SetWidth, operated, without_fold, without_inlay}
use Rattle.cell_units.specs.Record.{Fold, Inlay, Record}
use Rattle.cell_units.specs.Text.{clean}
use Rattle.cell_units.specs.Touched.{EachLine, NoLine, Rows, Touched, touched}
use Rattle.cell_units.proofs.Characters.{clean-utf8}
use Rattle.cell_units.proofs.FoundEntries.{none_found}
use Rattle.cell_units.proofs.LawfulOperations.{lawful-operated}
use Rattle.edit_patch.specs.LayerLeads.{LayerLeads}
use Rattle.edit_patch.specs.Leads.{LeadsIfAny, Reach, reach_of, unmoved}
use Rattle.inlay_map.specs.Maps as inlaying
use Rattle.inlay_map.specs.Maps.{InlayState}
use Rattle.fold_map.specs.Maps.{FoldState, state_of}
use Rattle.fold_map.specs.Snapshots.{with_folds}
use Rattle.fold_map.specs.Synced as folding
use Rattle.fold_map.specs.Synced.{Follows}
use Rattle.folded_text.specs.Answered.{AnswersMeet, AnswersSuffice, IsAnswered, IsLaid, LeadsFollow, MeetsTouched, folds_told, folds_without, inlaid_of, inlays_told, inlays_without, text_shift}
use Rattle.folded_text.specs.Shown.{put_at}
use Rattle.folded_text.proofs.AnsweredLines.{found-there}
use Rattle.folded_text.proofs.Texts.{inlays-stand, replaced-leads}
use Rattle.layered_text.specs.Layered.{IsChanged, record_of, source_after}
use Rattle.layered_text.specs.inside.Kept.{AreRows, AreTold, IsLayered}
use Rattle.layered_text.proofs.Records.{lawful-record, meets-each}

-- ---- a record, of which both maps were given an operation

-- an inlay that is removed leaves the text
text-left : (r : Record) (found : Option Inlay) → r.text ≡ (inlays_without r found).current.text
text-left r None = refl
text-left r (Some i) = refl

told-leads : (operation : Operation) (r : Record) → IsAllowed operation r
    → LeadsIfAny unmoved (inlays_told operation r).current.text (operated operation r).text (text_shift operation)
told-leads (Replace a b t) r ok =
    replaced-leads r.text (operated (Replace a b t) r).text (Some (put_at a b (clean t)))
    (record { put = clean t; utf8 = clean-utf8 t ok.3; range = (ok.2, ok.0, ok.1); text = refl; count = refl })
told-leads (AddInlay i) r ok = refl
told-leads (RemoveInlay id) r ok = text-left r (find (λ i. i.id == id) r.inlays)
told-leads (AddFold f) r ok = refl
told-leads (RemoveFold id) r ok = refl
told-leads (AddBlock row id side lines) r ok = refl
told-leads (RemoveBlock id) r ok = refl
told-leads (SetTab tab) r ok = refl
told-leads (SetWidth width) r ok = refl

told-stand : (operation : Operation) (r : Record) → HasLawfulEntries r → IsAllowed operation r
    → inlaying.StandAfter (operated operation r).text (text_shift operation) (inlays_told operation r).current.inlays
told-stand (Replace a b t) r is ok =
    inlays-stand r.text (operated (Replace a b t) r).text (Some (put_at a b (clean t)))
    (record { put = clean t; utf8 = clean-utf8 t ok.3; range = (ok.2, ok.0, ok.1); text = refl; count = refl })
    is.source.text.0 r.inlays is.source.inlays
told-stand (AddInlay i) r is ok = tt
told-stand (RemoveInlay id) r is ok = tt
told-stand (AddFold f) r is ok = tt
told-stand (RemoveFold id) r is ok = tt
told-stand (AddBlock row id side lines) r is ok = tt
told-stand (RemoveBlock id) r is ok = tt
told-stand (SetTab tab) r is ok = tt
told-stand (SetWidth width) r is ok = tt

-- the map of inlays shows those after the operation
inlays-left : (id : ℕ) (r : Record) (found : Option Inlay) → find (λ i. i.id == id) r.inlays ≡ found
    → inlay_source r.text (inlays_without r found).current.inlays ≡ inlay_source r.text (without_inlay id r.inlays)
inlays-left id r None e = ap (inlay_source r.text) (sym (none_found (λ i. i.id == id) r.inlays e))
inlays-left id r (Some i) e =
    ap (λ (k : ℕ). inlay_source r.text (without_inlay k r.inlays)) (found-there (λ (x : Inlay). x.id) id r.inlays i e).same

told-inlays : (operation : Operation) (r : Record)
    → inlaying.source_after (operated operation r).text (text_shift operation) (inlays_told operation r).current ≡ inlaid_of (operated operation r)
told-inlays (Replace a b t) r = refl
told-inlays (AddInlay i) r = refl
told-inlays (RemoveInlay id) r = inlays-left id r (find (λ i. i.id == id) r.inlays) refl
told-inlays (AddFold f) r = refl
told-inlays (RemoveFold id) r = refl
told-inlays (AddBlock row id side lines) r = refl
told-inlays (RemoveBlock id) r = refl
told-inlays (SetTab tab) r = refl
told-inlays (SetWidth width) r = refl

-- and that of folds the folds
folds-left : (id : ℕ) (r : Record) (found : Option Fold) → find (λ f. f.id == id) r.folds ≡ found
    → with_folds (inlaid_of r) (folds_without r found).current.folds ≡ with_folds (inlaid_of r) (without_fold id r.folds)
folds-left id r None e = ap (with_folds (inlaid_of r)) (sym (none_found (λ f. f.id == id) r.folds e))
folds-left id r (Some f) e =
    ap (λ (k : ℕ). with_folds (inlaid_of r) (without_fold k r.folds)) (found-there (λ (x : Fold). x.id) id r.folds f e).same

told-folds : (operation : Operation) (r : Record)
    → folding.source_after (inlaid_of (operated operation r)) (text_shift operation) (folds_told operation r).current ≡ source_of (operated operation r)
told-folds (Replace a b t) r = refl
told-folds (AddInlay i) r = refl
told-folds (RemoveInlay id) r = refl
told-folds (AddFold f) r = refl
told-folds (RemoveFold id) r = folds-left id r (find (λ f. f.id == id) r.folds) refl
told-folds (AddBlock row id side lines) r = refl
told-folds (RemoveBlock id) r = refl
told-folds (SetTab tab) r = refl
told-folds (SetWidth width) r = refl

-- what was shown last is the record before it
shown-without : (r : Record) (found : Option Fold) → (folds_without r found).shown ≡ source_of r
shown-without r None = refl
shown-without r (Some f) = refl

told-shown : (operation : Operation) (r : Record) → (folds_told operation r).shown ≡ source_of r
told-shown (Replace a b t) r = refl
told-shown (AddInlay i) r = refl
told-shown (RemoveInlay id) r = refl
told-shown (AddFold f) r = refl
told-shown (RemoveFold id) r = shown-without r (find (λ f. f.id == id) r.folds)
told-shown (AddBlock row id side lines) r = refl
told-shown (RemoveBlock id) r = refl
told-shown (SetTab tab) r = refl
told-shown (SetWidth width) r = refl

-- where lines of rows are touched, they are met
some-met : (t : Touched) (r r' : Record) (answer : Option Shift) → AreRows t → MeetsTouched t r r' answer → IsSome answer
some-met (Rows before after) r r' None rows m = absurd m
some-met (Rows before after) r r' (Some s) rows m = refl
some-met NoLine r r' answer rows m = absurd rows
some-met EachLine r r' answer rows m = absurd rows

-- ---- a layered text, whose maps were given an operation

module _ (operation : Operation) (s : Source) (rope : List ℕ) (inlays : InlayState) (folds : FoldState) (shift : Option Shift)
    (told : AreTold operation s rope inlays folds shift) (is : IsWellFormed s) where
  abbrev r : Record
  r = record_of s

  abbrev r' : Record
  r' = operated operation r

  abbrev moved : Option Reach
  moved = option_map reach_of shift

  lawful : HasLawfulEntries r
  lawful = lawful-record s is

  -- `next` is the rope once more
  module _ (next : List ℕ) (same : next ≡ rope) where
    -- what the map of inlays is asked
    pub inlays-lead : LeadsIfAny unmoved inlays.current.text next moved
    inlays-lead =
        subst (λ (p : InlayState × List ℕ × Option Reach). LeadsIfAny unmoved p.0.current.text p.1 p.2)
        (λ i. (sym told.inlays_are i, sym (same ∙ told.rope_is) i, sym told.shift_is i)) (told-leads operation r told.allowed)

    pub inlays-fit : inlaying.StandAfter next moved inlays.current.inlays
    inlays-fit =
        subst (λ (p : InlayState × List ℕ × Option Reach). inlaying.StandAfter p.1 p.2 p.0.current.inlays)
        (λ i. (sym told.inlays_are i, sym (same ∙ told.rope_is) i, sym told.shift_is i)) (told-stand operation r lawful told.allowed)

    module _ (short : length rope ≤ LAID_LIMIT) (inlaid : Source) (below : Option Shift)
        (synced : inlaying.IsSynced next moved inlays inlaid (option_map reach_of below)) where
      inlaid-is : inlaid ≡ inlaid_of r'
      inlaid-is =
          synced.made ∙ (λ i. inlaying.source_after ((same ∙ told.rope_is) i) (told.shift_is i) (told.inlays_are i).current) ∙ told-inlays operation r

      pub laid : IsLaid operation r shift below
      laid = record {
        shift_is = told.shift_is;
        synced =
            subst (λ (p : List ℕ × InlayState × Source). inlaying.IsSynced p.0 moved p.1 p.2 (option_map reach_of below))
            (λ i. ((same ∙ told.rope_is) i, told.inlays_are i, inlaid-is i)) synced;
      }

      -- `lower` is what that shows once more
      module _ (suffice : AnswersSuffice) (lower : Source) (same' : lower ≡ inlaid) where
        lower-is : lower ≡ inlaid_of r'
        lower-is = same' ∙ inlaid-is

        pub laid-follows : Follows (folds_told operation r).current (inlaid_of r') moved (option_map reach_of below)
        laid-follows =
            suffice operation r shift below lawful told.allowed (subst (λ (t : List ℕ). length t ≤ LAID_LIMIT) told.rope_is short) laid

        -- what the map of folds is asked
        pub follows : Follows folds.current lower moved (option_map reach_of below)
        follows =
            subst (λ (p : FoldState × Source). Follows p.0.current p.1 moved (option_map reach_of below))
            (λ i. (sym told.folds_are i, sym lower-is i)) laid-follows

        module _ (layer : Source) (answer : Option Shift)
            (synced' : folding.IsSynced lower moved (option_map reach_of below) folds layer (option_map reach_of answer)) where
          layer-is : layer ≡ source_after operation s
          layer-is =
              synced'.made_is ∙ (λ i. folding.source_after (lower-is i) (told.shift_is i) (told.folds_are i).current) ∙ told-folds operation r

          answered : IsAnswered operation r shift below answer
          answered = record {
            laid = laid;
            follows = laid-follows;
            synced =
                subst (λ (p : Source × FoldState × Source). folding.IsSynced p.0 moved (option_map reach_of below) p.1 p.2 (option_map reach_of answer))
                (λ i. (lower-is i, told.folds_are i, layer-is i)) synced';
          }

          met : AnswersMeet → MeetsTouched (touched operation r) r r' answer
          met meet = meet operation r shift below answer lawful told.allowed answered

          -- so something of what is shown is replaced
          pub replaces : AnswersMeet → IsSome answer
          replaces meet = some-met (touched operation r) r r' answer told.rows (met meet)

          leads : LayerLeads moved s layer (option_map reach_of answer)
          leads =
              subst (λ (v : Source). LayerLeads moved v layer (option_map reach_of answer))
              (ap (λ (m : FoldState). m.shown) told.folds_are ∙ told-shown operation r) synced'.leads

          pub is-changed : AnswersMeet → LeadsFollow → (shown : Shift) → answer ≡ Some shown → IsChanged operation s layer shown
          is-changed meet follow shown e = record {
            made = layer-is;
            meets = meets-each operation s shown (subst (MeetsTouched (touched operation r) r r') e (met meet));
            follow =
                follow moved s layer (Some shown) is
                (subst IsWellFormed (sym layer-is) (lawful-operated r lawful operation told.allowed).source)
                (subst (λ (o : Option Shift). LayerLeads moved s layer (option_map reach_of o)) e leads);
          }

          -- and all of it is shown then
          pub is-layered : IsLayered rope (inlaying.synced next moved inlays) inlaid (folding.synced lower moved folds) layer
          is-layered =
              let low : inlaid ≡ unfolded layer = inlaid-is ∙ ap unfolded (sym layer-is) in
              record {
                rope_is = told.rope_is ∙ sym (ap (λ (v : Source). v.text) layer-is);
                inlays_are = (let e = sym synced.made ∙ low in λ i. record { current = e i; shown = e i; pending = None });
                inlaid_is = low;
                folds_are = ap state_of (sym synced'.made_is);
              }
