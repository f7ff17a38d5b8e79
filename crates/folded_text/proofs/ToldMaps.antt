-- What the map of folds asks for, where the map of inlays is given one operation on a text all of which was shown.
use Rattle.std.proofs.Common.{◌≡◌, ◌==◌, ℕ, ◌≤◌, find, List, length, Option, option_map, Some, None, refl, sym, ap, ◌∙◌, subst, arith}
use Rattle.cell_units.specs.declared.place.Bias.TheVariants.{Right}
use Rattle.cell_units.specs.declared.place.Shift.{Shift}
use Rattle.cell_units.specs.Lawful.{AreFolds, HasLawfulEntries, IsAllowed, IsFoldOf, IsWellFormed, source_of}
use Rattle.cell_units.specs.Layers.{Source, shown_text, unfolded}
use Rattle.cell_units.specs.Operation.{AddBlock, AddFold, AddInlay, Operation, RemoveBlock, RemoveFold, RemoveInlay, Replace, SetTab, SetWidth, operated, without_fold}
use Rattle.cell_units.specs.Record.{Fold, Inlay, Record, fold_le}
use Rattle.cell_units.specs.Text.{clean}
use Rattle.cell_units.proofs.Characters.{clean-utf8}
use Rattle.cell_units.proofs.FoundEntries.{none_found, some_is}
use Rattle.cell_units.proofs.LawfulOperations.{lawful-operated}
use Rattle.cell_units.proofs.PlainLayers.{no_entries}
use Rattle.cell_units.proofs.ShownPlaces.{place-le}
use Rattle.cell_units.specs.declared.limits.TheConstants.{LAID_LIMIT}
use Rattle.edit_patch.specs.LayerLeads.{LayerLeads}
use Rattle.edit_patch.specs.Leads.{Reach, reach_of}
use Rattle.inlay_map.specs.InlaidShifts.{inlaid_shift}
use Rattle.inlay_map.specs.Maps as inlaid
use Rattle.fold_map.specs.Maps.{FoldState}
use Rattle.fold_map.specs.Snapshots.{PlacesFit, with_folds}
use Rattle.fold_map.specs.Synced.{Follows, folds_after, source_after}
use Rattle.folded_text.specs.Answered.{AnswersSuffice, FollowsLaid, IsLaid, folds_settled, folds_told, folds_without, inlaid_of, inlays_without}
use Rattle.folded_text.specs.Shown.{IsReplaced}
use Rattle.folded_text.proofs.AnsweredLines.{found-there}
use Rattle.folded_text.proofs.Reaches.{ReachesOver, meets-rows}
use Rattle.folded_text.proofs.Texts.{folds-stand, places-fit, replaced-leads}

module _ (operation : Operation) (r : Record) (is : HasLawfulEntries r) (ok : IsAllowed operation r) (short : length (operated operation r).text ≤ LAID_LIMIT) where
  abbrev r' : Record
  r' = operated operation r

  abbrev layer : Source
  layer = inlaid_of r'

  after-formed : IsWellFormed (source_of r')
  after-formed = (lawful-operated r is operation ok).source

  fits : PlacesFit (source_of r')
  fits = places-fit (source_of r') after-formed short

  low-formed : IsWellFormed (inlaid_of r)
  low-formed = record { text = is.source.text; inlays = is.source.inlays; folds = no_entries fold_le (λ g. g.id) (IsFoldOf r.text) }

  -- where the text stays, whatever the folds are
  stays : (folds : FoldState) (shift below : Option Shift) → option_map reach_of shift ≡ None → r'.text ≡ r.text → unfolded folds.current ≡ inlaid_of r
      → with_folds layer folds.current.folds ≡ source_of r' → LayerLeads (option_map reach_of shift) (inlaid_of r) layer (option_map reach_of below)
      → Follows folds.current layer (option_map reach_of shift) (option_map reach_of below)
  stays folds (Some x) below none text low same leads = absurd (cc none)
  stays folds None below none text low same leads = record {
    bare = refl;
    text = text ∙ sym (ap (λ (v : Source). v.text) low);
    leads = subst (λ (v : Source). LayerLeads None v layer (option_map reach_of below)) (sym low) leads;
    meets = tt;
    stand = tt;
    fits = subst PlacesFit (sym same) fits;
  }

-- a replacement of the text
replaced-follows : (a b : ℕ) (t : List ℕ) (r : Record) (shift below : Option Shift) → HasLawfulEntries r → IsAllowed (Replace a b t) r
    → length (operated (Replace a b t) r).text ≤ LAID_LIMIT → IsLaid (Replace a b t) r shift below → FollowsLaid (Replace a b t) r shift below
replaced-follows a b t r None below is ok short w = let e = w.shift_is in absurd (cc e)
replaced-follows a b t r (Some x) None is ok short w = let e = w.synced.answered in absurd (cc e)
replaced-follows a b t r (Some x) (Some y) is ok short w =
    let op = Replace a b t in
    let v = inlaid_of r in
    let text : List ℕ = (operated op r).text in
    let put : Reach = record { start = a; end = b; count = length (clean t) } in
    let is-put : reach_of x ≡ put = some_is (reach_of x) put w.shift_is in
    let replaced : IsReplaced r.text text (reach_of x) = subst (λ (q : Reach). IsReplaced r.text text q) (sym is-put)
    (record { put = clean t; utf8 = clean-utf8 t ok.3; range = (ok.2, ok.0, ok.1); text = refl; count = refl }) in
    let change : Reach = inlaid_shift v (inlaid.source_after text (Some (reach_of x)) v) (reach_of x) in
    let same : reach_of y ≡ change = some_is (reach_of y) change w.synced.answered in
    let over : ReachesOver v x.start x.end (reach_of y) =
    subst (λ (q : Reach). ReachesOver v x.start x.end q) (sym same) (record { first = omega arith; last = omega arith }) in
    let within : x.end ≤ length r.text = replaced.range.2.0 in
    let shown : y.end ≤ length (shown_text v) = omega (arith, ap (λ (q : Reach). q.end) same, place-le v x.end Right within) in
    record {
      bare = refl;
      text = replaced-leads r.text text (Some (reach_of x)) replaced;
      leads = w.synced.leads;
      meets = meets-rows r.text r.inlays (low-formed op r is ok short) (reach_of x) (reach_of y) x.ordered within y.ordered shown over;
      stand =
          folds-stand text (Some (reach_of x)) r.folds
          (subst (λ (q : Reach). AreFolds text (folds_after (Some q) r.folds)) (sym is-put) (after-formed op r is ok short).folds);
      fits = subst (λ (q : Reach). PlacesFit (source_after (inlaid_of (operated op r)) (Some q) (source_of r))) (sym is-put) (fits op r is ok short);
    }

inlays-shown : (r : Record) (found : Option Inlay) → (inlays_without r found).shown ≡ inlaid_of r
inlays-shown r None = refl
inlays-shown r (Some i) = refl

removed-follows : (id : ℕ) (r : Record) (shift below : Option Shift) → HasLawfulEntries r → length r.text ≤ LAID_LIMIT
    → IsLaid (RemoveInlay id) r shift below → FollowsLaid (RemoveInlay id) r shift below
removed-follows id r shift below is short w =
    stays (RemoveInlay id) r is tt short (folds_settled r) shift below w.shift_is refl refl refl
    (subst (λ (v : Source). LayerLeads (option_map reach_of shift) v (inlaid_of (operated (RemoveInlay id) r)) (option_map reach_of below))
    (inlays-shown r (find (λ i. i.id == id) r.inlays)) w.synced.leads)

opened-follows : (id : ℕ) (r : Record) (shift below : Option Shift) → HasLawfulEntries r → length r.text ≤ LAID_LIMIT
    → IsLaid (RemoveFold id) r shift below → FollowsLaid (RemoveFold id) r shift below
opened-follows id r shift below is short w = go (find (λ f. f.id == id) r.folds) refl where
  op : Operation
  op = RemoveFold id

  go : (found : Option Fold) → find (λ f. f.id == id) r.folds ≡ found → FollowsLaid op r shift below
  go found e = subst (λ (x : Option Fold). Follows (folds_without r x).current (inlaid_of (operated op r)) (option_map reach_of shift) (option_map reach_of below)) (sym e) (at found e) where
    at : (found : Option Fold) → find (λ f. f.id == id) r.folds ≡ found
        → Follows (folds_without r found).current (inlaid_of (operated op r)) (option_map reach_of shift) (option_map reach_of below)
    at None e =
        stays op r is tt short (folds_settled r) shift below w.shift_is refl refl
        (λ j. record { text = r.text; inlays = r.inlays; folds = sym (none_found (λ f. f.id == id) r.folds e) j }) w.synced.leads
    at (Some f) e =
        let there = found-there (λ (x : Fold). x.id) id r.folds f e in
        stays op r is tt short (folds_without r (Some f)) shift below w.shift_is refl refl
        (λ j. record { text = r.text; inlays = r.inlays; folds = without_fold (there.same j) r.folds }) w.synced.leads

pub answers-suffice : AnswersSuffice
answers-suffice (Replace a b t) r shift below is ok short w = replaced-follows a b t r shift below is ok short w
answers-suffice (AddInlay i) r shift below is ok short w = stays (AddInlay i) r is ok short (folds_settled r) shift below w.shift_is refl refl refl w.synced.leads
answers-suffice (RemoveInlay id) r shift below is ok short w = removed-follows id r shift below is short w
answers-suffice (AddFold f) r shift below is ok short w = stays (AddFold f) r is ok short (folds_told (AddFold f) r) shift below w.shift_is refl refl refl w.synced.leads
answers-suffice (RemoveFold id) r shift below is ok short w = opened-follows id r shift below is short w
answers-suffice (AddBlock row id side lines) r shift below is ok short w =
    stays (AddBlock row id side lines) r is ok short (folds_settled r) shift below w.shift_is refl refl refl w.synced.leads
answers-suffice (RemoveBlock id) r shift below is ok short w = stays (RemoveBlock id) r is ok short (folds_settled r) shift below w.shift_is refl refl refl w.synced.leads
answers-suffice (SetTab tab) r shift below is ok short w = stays (SetTab tab) r is ok short (folds_settled r) shift below w.shift_is refl refl refl w.synced.leads
answers-suffice (SetWidth width) r shift below is ok short w = stays (SetWidth width) r is ok short (folds_settled r) shift below w.shift_is refl refl refl w.synced.leads
