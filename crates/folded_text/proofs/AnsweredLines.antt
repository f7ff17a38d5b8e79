-- The lines that what the maps return meets are those that the operation touches.
use Rattle.std.proofs.Common.{◌≡◌, ◌==◌, ℕ, suc, ◌+◌, ◌<◌, ◌≤◌, ◌↔◌, ◌&&◌, ◌||◌, nat_le, nat_lt, not, cond, Bool, true, false, IsTrue, count_by, find, List, [], ◌∷◌, length, Option, option_map, Some, None, refl, sym, ap, ◌∙◌, subst, arith}
use Rattle.std.specs.List.{Contains, list_any}
use Rattle.std.proofs.lemmas.Bool.{eqb-true}
use Rattle.std.proofs.lemmas.Bool.Decides.{nat_tests}
use Rattle.cell_units.specs.declared.limits.TheConstants.{ENTRY_LIMIT}
use Rattle.cell_units.specs.declared.fault.Refusal.TheVariants.{BadRange, IdInUse, TooLong}
use Rattle.cell_units.specs.declared.place.Bias.TheVariants.{Right}
use Rattle.cell_units.specs.declared.place.Shift.{Shift}
use Rattle.cell_units.specs.Folded.{folded_to}
use Rattle.cell_units.specs.Lawful.{HasLawfulEntries, IsAllowed, IsFoldOf, IsInlayOf, IsWellFormed, source_of}
use Rattle.cell_units.specs.Layers.{Source, inlay_source, shown_lines, shown_text, span_of}
use Rattle.cell_units.specs.Operation.{AddBlock, AddFold, AddInlay, Operation, RemoveBlock, RemoveFold, RemoveInlay, Replace, SetTab, SetWidth, operated, without_inlay}
use Rattle.cell_units.specs.Record.{Fold, Inlay, Record, fold_le}
use Rattle.cell_units.specs.Text.{clean, is_boundary, row_of}
use Rattle.cell_units.specs.Touched.{EachLine, NoLine, RowRange, Rows, Touched, row_range, rows_of_fold, rows_of_inlay, touched}
use Rattle.cell_units.proofs.LawfulOperations.{lawful-operated}
use Rattle.cell_units.proofs.PlainLayers.{no_entries}
use Rattle.cell_units.proofs.SortedLists.{count-cons}
use Rattle.cell_units.proofs.TextLaws.{tells_boundaries}
use Rattle.cell_units.proofs.FoundEntries.{some_is}
use Rattle.edit_patch.specs.LayerLeads.{LayerLeads}
use Rattle.edit_patch.specs.Leads.{Leads, Reach, reach_of, unmoved}
use Rattle.edit_patch.proofs.TokenPlaces.{length-at_places}
use Rattle.inlay_map.specs.Met as inlays
use Rattle.inlay_map.specs.Met.{AddedTouches, RemovedTouches, ReplacedTouches, TouchesRowOf, TouchesRows}
use Rattle.inlay_map.specs.InlaidShifts.{inlaid_shift, inlay_shift}
use Rattle.inlay_map.specs.Maps as inlaid
use Rattle.inlay_map.specs.Maps.{added}
use Rattle.fold_map.specs.Maps.{state_of}
use Rattle.fold_map.specs.MetLines.{FoldedMeets, HasRowOf, IsOverMet, MeetsJust, OpenedMeets, ReplacedMeets, SpansMeet}
use Rattle.fold_map.specs.Snapshots.{fold_refusal, is_range}
use Rattle.fold_map.specs.Synced.{Follows, IsSynced, answer_of}
use Rattle.folded_text.specs.Answered.{AnswersMeet, IsAnswered, MeetsRun, MeetsTouched, folds_told, folds_without, inlaid_of, inlays_settled, inlays_told, inlays_without, text_shift}
use Rattle.folded_text.proofs.MetRuns.{meets-run}

-- ---- lines over lines of rows

-- where places of a layer meet the lines of rows, a line over one of these is a line of the rows
over-rows : (s layer : Source) (first last : ℕ) (rows : RowRange) → inlays.MeetsRows layer first last rows → (line : ℕ)
    → IsOverMet s layer first last line ↔ ((line < length (shown_lines s)) × SpansMeet (span_of s line) (rows.first, rows.last))
over-rows s layer first last rows meets line = (into, back) where
  into : IsOverMet s layer first last line → (line < length (shown_lines s)) × SpansMeet (span_of s line) (rows.first, rows.last)
  into m =
      let row = m.spans.0 in
      let lower : inlays.MeetsLine layer first last m.lower = let l = m.met in record { there = l.there; start = l.start; end = l.end } in
      (m.there, (row, m.spans.1, (meets row).0 (m.lower, lower, m.spans.2)))

  back : (line < length (shown_lines s)) × SpansMeet (span_of s line) (rows.first, rows.last) → IsOverMet s layer first last line
  back m =
      let row = m.1.0 in
      let met = (meets row).1 m.1.2 in
      let l = met.1 in
      record {
        there = m.0;
        lower = met.0;
        met = record { there = l.there; start = l.start; end = l.end };
        spans = (row, m.1.1, met.2);
      }

chained : {P Q R : Type 0} → P ↔ Q → Q ↔ R → P ↔ R
chained f g = ((λ p. g.0 (f.0 p)), (λ r. f.1 (g.1 r)))

-- ---- places of what is shown

old-in : (shift : Option Reach) (old new : Source) (s : Reach) → LayerLeads shift old new (Some s) → s.end ≤ length (shown_text old)
old-in shift old new s leads = let w = leads.within in omega (arith, w, length-at_places (folded_to old.text old.inlays old.folds (length old.text) Right))

new-in : (shift : Option Reach) (old new : Source) (s : Reach) → LayerLeads shift old new (Some s) → s.start + s.count ≤ length (shown_text new)
new-in shift old new s leads = let w = leads.reaches in omega (arith, w, length-at_places (folded_to new.text new.inlays new.folds (length new.text) Right))

-- ---- entries

some-same : {X : Type 0} (x y : X) → Some x ≡ Some y → x ≡ y
some-same x y e = some_is x y e

-- what is found by its id is there and has it
pub record IsFound {X : Type 0} (id_of : X → ℕ) (id : ℕ) (xs : List X) (x : X) : Type 0 where
  pub there : Contains xs x
  pub same : id_of x ≡ id

pub found-there : {X : Type 0} (id_of : X → ℕ) (id : ℕ) (xs : List X) (x : X) → find (λ y. id_of y == id) xs ≡ Some x → IsFound id_of id xs x
found-there id_of id [] x e = absurd (cc)
found-there id_of id (y ∷ ys) x e = go (id_of y == id) refl e (found-there id_of id ys x) where
  go : (b : Bool) → (id_of y == id) ≡ b → cond b (Some y) (find (λ z. id_of z == id) ys) ≡ Some x
      → (find (λ z. id_of z == id) ys ≡ Some x → IsFound id_of id ys x) → IsFound id_of id (y ∷ ys) x
  go true t h rest =
      let is : y ≡ x = some_is y x h in
      record { there = (0, omega arith, is); same = sym (ap id_of is) ∙ eqb-true (id_of y) id t }
  go false t h rest =
      let r = rest h in
      let c = r.there in
      record { there = (suc c.0, (let l = c.1 in omega (arith, l)), c.2); same = r.same }

none-there : {X : Type 0} (p : X → Bool) (xs : List X) → count_by p xs ≡ 0 → list_any p xs ≡ false
none-there p [] h = refl
none-there p (x ∷ xs) h = go (p x) (count-cons p x xs) (none-there p xs) where
  go : (b : Bool) → count_by p (x ∷ xs) ≡ cond b 1 0 + count_by p xs → (count_by p xs ≡ 0 → list_any p xs ≡ false) → (b || list_any p xs) ≡ false
  go true e rest = absurd (omega (arith, e, h))
  go false e rest = rest (omega (arith, e, h))

-- a fold that is allowed is accepted
accepted : (r : Record) (f : Fold) → HasLawfulEntries r → IsAllowed (AddFold f) r → fold_refusal (source_of r) f.id f.start f.end ≡ None
accepted r f is ok =
    let fits = ok.0 in
    let utf8 = is.source.text.0 in
    let fresh : list_any (λ g. g.id == f.id) r.folds ≡ false = none-there (λ g. g.id == f.id) r.folds ok.1.fresh in
    let range : is_range r.text f.start f.end ≡ true =
    all-three (nat_lt f.start f.end) (is_boundary r.text f.start) (is_boundary r.text f.end) (less f.start f.end fits.some)
    ((tells_boundaries r.text utf8 f.start).1 fits.start) ((tells_boundaries r.text utf8 f.end).1 fits.end) in
    let room : nat_le ENTRY_LIMIT (length r.folds) ≡ false = more ENTRY_LIMIT (length r.folds) ok.1.room in
    λ i. cond (fresh i) (Some IdInUse) (cond (not (range i)) (Some BadRange) (cond (room i) (Some TooLong) None))
  where
    less : (m n : ℕ) → m < n → nat_lt m n ≡ true
    less m n l = grind (arith, nat_tests)

    more : (m n : ℕ) → n < m → nat_le m n ≡ false
    more m n l = grind (arith, nat_tests)

    all-three : (x y z : Bool) → x ≡ true → IsTrue y → IsTrue z → (x && (y && z)) ≡ true
    all-three x y z e f g = λ i. e i && (f i && g i)

-- ---- what is said of what is returned

abbrev Meets : Operation → Record → Option Shift → Type 0
Meets operation r answer = MeetsTouched (touched operation r) r (operated operation r) answer

-- by the laws of both maps
module _ (added-touches : AddedTouches) (removed-touches : RemovedTouches) (replaced-touches : ReplacedTouches)
    (folded-meets : FoldedMeets) (opened-meets : OpenedMeets) (replaced-meets : ReplacedMeets) where
  module _ (operation : Operation) (r : Record) (is : HasLawfulEntries r) (ok : IsAllowed operation r) where
    abbrev r' : Record
    r' = operated operation r

    abbrev old : Source
    old = source_of r

    abbrev new : Source
    new = source_of r'

    abbrev layer : Source
    layer = inlaid_of r'

    -- the line meets the rows from that of one offset to that of another
    abbrev IsRowed : Source → ℕ → ℕ → ℕ → Type 0
    IsRowed s a b line = (line < length (shown_lines s)) × SpansMeet (span_of s line) (row_of s.text a, row_of s.text b)

    low-formed : IsWellFormed (inlaid_of r)
    low-formed = record { text = is.source.text; inlays = is.source.inlays; folds = no_entries fold_le (λ g. g.id) (IsFoldOf r.text) }

    new-formed : IsWellFormed layer
    new-formed =
        let w = (lawful-operated r is operation ok).source in
        record { text = w.text; inlays = w.inlays; folds = no_entries fold_le (λ g. g.id) (IsFoldOf r'.text) }

    -- nothing is touched, and nothing is returned
    pub none-meets : (t : Touched) → touched operation r ≡ t → MeetsTouched t r r' None → (answer : Option Shift) → option_map reach_of answer ≡ None → Meets operation r answer
    none-meets t e m None none = subst (λ (x : Touched). MeetsTouched x r r' None) (sym e) m
    none-meets t e m (Some s) none = absurd (cc none)

    -- lines of rows are touched, and met
    module _ (a b a' b' : ℕ) (order : a ≤ b) (within : b ≤ length r.text) (order' : a' ≤ b') (within' : b' ≤ length r'.text)
        (e : touched operation r ≡ Rows (row_range r.text a b) (row_range r'.text a' b')) where
      rows-meet : (shift : Option Reach) (s : Shift) → LayerLeads shift old new (Some (reach_of s)) → MeetsJust old new s (IsRowed old a b) (IsRowed new a' b') → Meets operation r (Some s)
      rows-meet shift s leads just =
          let run : MeetsRun (touched operation r) r r' s =
          meets-run operation r is ok a b a' b' e s
          (record { order = s.ordered; within = old-in shift old new (reach_of s) leads; ordered = order; in_text = within; meets = just.before_it })
          (record { order = omega arith; within = new-in shift old new (reach_of s) leads; ordered = order'; in_text = within'; meets = just.after_it }) in
          subst (λ (t : Touched). MeetsTouched t r r' (Some s)) (sym e) (subst (λ (t : Touched). MeetsRun t r r' s) e run)

      -- what the map of inlays returns touches the rows
      pub over-meet : (shift : Option Shift) (below s : Shift) (change : Reach) → reach_of below ≡ change
          → TouchesRows (inlaid_of r) layer change (row_range r.text a b) (row_range r'.text a' b')
          → Follows old layer (option_map reach_of shift) (Some (reach_of below))
          → IsSynced layer (option_map reach_of shift) (Some (reach_of below)) (state_of old) new (Some (reach_of s)) → Meets operation r (Some s)
      over-meet shift below s change same touches follows synced =
          let t : TouchesRows (inlaid_of r) layer (reach_of below) (row_range r.text a b) (row_range r'.text a' b') =
          subst (λ (x : Reach). TouchesRows (inlaid_of r) layer x (row_range r.text a b) (row_range r'.text a' b')) (sym same) touches in
          let m = replaced-meets old layer new shift below s is.source (record { well_formed = new-formed; follows = follows; synced = synced }) in
          rows-meet (option_map reach_of shift) s synced.leads (record {
            before_it = λ line. chained (m.before_it line) (over-rows old (inlaid_of r) below.start below.end (row_range r.text a b) t.before_it line);
            after_it = λ line. chained (m.after_it line) (over-rows new layer below.start (below.start + below.count) (row_range r'.text a' b') t.after_it line);
          })

    -- a fold's rows are touched
    module _ (f : Fold) (fits : IsFoldOf r.text f) (same : r'.text ≡ r.text) (e : touched operation r ≡ Rows (row_range r.text f.start f.end) (row_range r'.text f.start f.end)) where
      pub fold-meets : (s : Shift) → LayerLeads None old new (Some (reach_of s)) → MeetsJust old new s (HasRowOf old f) (HasRowOf new f) → Meets operation r (Some s)
      fold-meets s leads just =
          let some = fits.some in
          let within = fits.end.0 in
          let long : length r'.text ≡ length r.text = ap (λ (t : List ℕ). length t) same in
          rows-meet f.start f.end f.start f.end (omega (arith, some)) within (omega (arith, some)) (omega (arith, within, long)) e None s leads (record {
            before_it = λ line. chained (just.before_it line) ((λ h. (h.there, h.spans)), (λ h. record { there = h.0; spans = h.1 }));
            after_it = λ line. chained (just.after_it line) ((λ h. (h.there, h.spans)), (λ h. record { there = h.0; spans = h.1 }));
          })

  -- ---- each operation

  -- a replacement of the text
  replaced-meet : (a b : ℕ) (t : List ℕ) (r : Record) (shift below answer : Option Shift) → HasLawfulEntries r → IsAllowed (Replace a b t) r
      → IsAnswered (Replace a b t) r shift below answer → Meets (Replace a b t) r answer
  replaced-meet a b t r None below answer is ok w = let e = w.laid.shift_is in absurd (cc e)
  replaced-meet a b t r (Some x) None answer is ok w = let e = w.laid.synced.answered in absurd (cc e)
  replaced-meet a b t r (Some x) (Some y) None is ok w = let e = w.synced.answered in absurd (cc e)
  replaced-meet a b t r (Some x) (Some y) (Some s) is ok w =
      let op = Replace a b t in
      let n : ℕ = length (clean t) in
      let put : Reach = record { start = a; end = b; count = n } in
      let text : List ℕ = (operated op r).text in
      let is-put : reach_of x ≡ put = some-same (reach_of x) put w.laid.shift_is in
      let leads : Leads unmoved r.text text put = subst (λ (q : Reach). Leads unmoved r.text text q) is-put w.follows.text in
      let change : Reach = inlaid_shift (inlaid_of r) (inlaid_of (operated op r)) put in
      over-meet op r is ok a b a (a + n) ok.2 ok.1.0 (omega arith) leads.reaches refl (Some x) y s change (some-same (reach_of y) change (w.laid.synced.answered ∙ ap (λ (q : Option Reach). inlaid.answer_of text q (inlays_settled r)) w.laid.shift_is))
      (replaced-touches (inlaid_of r) text put (low-formed op r is ok, refl) (new-formed op r is ok) ok.2 leads)
      w.follows w.synced

  -- other inlays at one offset
  module _ (operation : Operation) (r : Record) (is : HasLawfulEntries r) (ok : IsAllowed operation r) (i : Inlay) (fits : IsInlayOf r.text i) (same : (operated operation r).text ≡ r.text)
      (e : touched operation r ≡ Rows (row_range r.text i.offset i.offset) (row_range (operated operation r).text i.offset i.offset)) where
    abbrev change : Reach
    change = inlay_shift (inlaid_of r) (inlaid_of (operated operation r)) i.offset

    turned-meet : (shift below answer : Option Shift) → option_map reach_of shift ≡ None → option_map reach_of below ≡ Some change
        → TouchesRows (inlaid_of r) (inlaid_of (operated operation r)) change (row_range r.text i.offset i.offset) (row_range (operated operation r).text i.offset i.offset)
        → Follows (source_of r) (inlaid_of (operated operation r)) (option_map reach_of shift) (option_map reach_of below)
        → IsSynced (inlaid_of (operated operation r)) (option_map reach_of shift) (option_map reach_of below) (state_of (source_of r)) (source_of (operated operation r)) (option_map reach_of answer)
        → Meets operation r answer
    turned-meet (Some x) below answer none some touches follows synced = absurd (cc none)
    turned-meet None None answer none some touches follows synced = absurd (cc some)
    turned-meet None (Some y) None none some touches follows synced = let h = synced.answered in absurd (cc h)
    turned-meet None (Some y) (Some s) none some touches follows synced =
        let within : i.offset ≤ length r.text = fits.boundary.0 in
        let long : length (operated operation r).text ≡ length r.text = ap (λ (t : List ℕ). length t) same in
        over-meet operation r is ok i.offset i.offset i.offset i.offset (omega arith) within (omega arith) (omega (arith, within, long)) e None y s change
        (some-same (reach_of y) change some) touches follows synced

  added-meet : (i : Inlay) (r : Record) (shift below answer : Option Shift) → HasLawfulEntries r → IsAllowed (AddInlay i) r
      → IsAnswered (AddInlay i) r shift below answer → Meets (AddInlay i) r answer
  added-meet i r shift below answer is ok w =
      turned-meet (AddInlay i) r is ok i ok.0 refl refl shift below answer w.laid.shift_is (w.laid.synced.answered ∙ ap (λ (q : Option Reach). inlaid.answer_of r.text q (added i (inlays_settled r))) w.laid.shift_is)
      (added-touches (inlaid_of r) i (low-formed (AddInlay i) r is ok, refl) ok.0 ok.1) w.follows w.synced

  removed-meet : (id : ℕ) (r : Record) (shift below answer : Option Shift) → HasLawfulEntries r
      → IsAnswered (RemoveInlay id) r shift below answer → Meets (RemoveInlay id) r answer
  removed-meet id r shift below answer is w = go (find (λ i. i.id == id) r.inlays) refl where
    op : Operation
    op = RemoveInlay id

    go : (found : Option Inlay) → find (λ i. i.id == id) r.inlays ≡ found → Meets op r answer
    go None e =
        let none : option_map reach_of below ≡ None =
        w.laid.synced.answered ∙ (λ j. inlaid.answer_of r.text (w.laid.shift_is j) (inlays_without r (e j))) in
        none-meets op r is tt NoLine (ap (rows_of_inlay r.text) e) tt answer
        (w.synced.answered ∙ (λ j. answer_of (inlaid_of (operated op r)) (w.laid.shift_is j) (none j) (state_of (source_of r))))
    go (Some i) e =
        let there = found-there (λ (x : Inlay). x.id) id r.inlays i e in
        let fits : IsInlayOf r.text i = let c = there.there in subst (IsInlayOf r.text) c.2 (is.source.inlays.each c.0 i c.1) in
        let touches : TouchesRows (inlaid_of r) (inlaid_of (operated op r)) (inlay_shift (inlaid_of r) (inlaid_of (operated op r)) i.offset)
        (row_range r.text i.offset i.offset) (row_range r.text i.offset i.offset) =
        subst (λ (k : ℕ). find (λ j. j.id == k) r.inlays ≡ Some i → TouchesRowOf i.offset (inlaid_of r) (without_inlay k r.inlays)) there.same
        (removed-touches (inlaid_of r) i (low-formed op r is tt, refl)) e in
        let some : option_map reach_of below ≡ Some (inlay_shift (inlaid_of r) (inlaid_of (operated op r)) i.offset) =
        w.laid.synced.answered
        ∙ (λ j. inlaid.answer_of r.text (w.laid.shift_is j) (inlays_without r (e j)))
        ∙ ap (λ (k : ℕ). Some (inlay_shift (inlaid_of r) (inlay_source r.text (without_inlay k r.inlays)) i.offset)) there.same in
        turned-meet op r is tt i fits refl (ap (rows_of_inlay r.text) e) shift below answer w.laid.shift_is some touches w.follows w.synced

  -- a fold more or less
  folded-meet : (f : Fold) (r : Record) (shift below answer : Option Shift) → HasLawfulEntries r → IsAllowed (AddFold f) r
      → IsAnswered (AddFold f) r shift below answer → Meets (AddFold f) r answer
  folded-meet f r (Some x) below answer is ok w = let e = w.laid.shift_is in absurd (cc e)
  folded-meet f r None (Some y) answer is ok w = let e = w.laid.synced.answered in absurd (cc e)
  folded-meet f r None None None is ok w = let e = w.synced.answered in absurd (cc e)
  folded-meet f r None None (Some s) is ok w =
      let op = AddFold f in
      fold-meets op r is ok f ok.0 refl refl s w.synced.leads
      (folded-meets (source_of r) (inlaid_of (operated op r)) (source_of (operated op r)) f s is.source (accepted r f is ok)
      (record { well_formed = new-formed op r is ok; follows = w.follows; synced = w.synced }))

  opened-meet : (id : ℕ) (r : Record) (shift below answer : Option Shift) → HasLawfulEntries r
      → IsAnswered (RemoveFold id) r shift below answer → Meets (RemoveFold id) r answer
  opened-meet id r (Some x) below answer is w = let e = w.laid.shift_is in absurd (cc e)
  opened-meet id r None (Some y) answer is w = let e = w.laid.synced.answered in absurd (cc e)
  opened-meet id r None None answer is w = go (find (λ f. f.id == id) r.folds) refl answer w.follows w.synced where
    op : Operation
    op = RemoveFold id

    layer : Source
    layer = inlaid_of (operated op r)

    go : (found : Option Fold) → find (λ f. f.id == id) r.folds ≡ found → (answer : Option Shift)
        → Follows (folds_without r (find (λ f. f.id == id) r.folds)).current layer None None
        → IsSynced layer None None (folds_without r (find (λ f. f.id == id) r.folds)) (source_of (operated op r)) (option_map reach_of answer)
        → Meets op r answer
    go None e answer follows synced =
        none-meets op r is tt NoLine (ap (rows_of_fold r.text) e) tt answer
        (synced.answered ∙ ap (λ (found : Option Fold). answer_of layer None None (folds_without r found)) e)
    go (Some f) e None follows synced =
        let h = synced.answered ∙ ap (λ (found : Option Fold). answer_of layer None None (folds_without r found)) e in absurd (cc h)
    go (Some f) e (Some s) follows synced =
        let there = (found-there (λ (x : Fold). x.id) id r.folds f e).there in
        let fits : IsFoldOf r.text f = subst (IsFoldOf r.text) there.2 (is.source.folds.each there.0 f there.1) in
        let follows' : Follows (folds_without r (Some f)).current layer None None = subst (λ (found : Option Fold). Follows (folds_without r found).current layer None None) e follows in
        let synced' : IsSynced layer None None (folds_without r (Some f)) (source_of (operated op r)) (Some (reach_of s)) =
        subst (λ (found : Option Fold). IsSynced layer None None (folds_without r found) (source_of (operated op r)) (Some (reach_of s))) e synced in
        fold-meets op r is tt f fits refl (ap (rows_of_fold r.text) e) s synced'.leads
        (opened-meets (source_of r) layer (source_of (operated op r)) f s is.source there
        (record { well_formed = new-formed op r is tt; follows = follows'; synced = synced' }))

  -- what shows nothing else
  still-meet : (operation : Operation) (r : Record) (shift below answer : Option Shift) → HasLawfulEntries r → IsAllowed operation r
      → IsAnswered operation r shift below answer → (t : Touched) → touched operation r ≡ t → MeetsTouched t r (operated operation r) None
      → text_shift operation ≡ None → inlays_told operation r ≡ inlays_settled r → folds_told operation r ≡ state_of (source_of r)
      → Meets operation r answer
  still-meet operation r shift below answer is ok w t e m no-shift no-inlay no-fold =
      none-meets operation r is ok t e m answer
      (w.synced.answered ∙ (λ j. answer_of (inlaid_of (operated operation r)) ((w.laid.shift_is ∙ no-shift) j) (no-below j) (no-fold j)))
    where
      no-below : option_map reach_of below ≡ None
      no-below = w.laid.synced.answered ∙ (λ j. inlaid.answer_of (operated operation r).text ((w.laid.shift_is ∙ no-shift) j) (no-inlay j))

  pub answers-meet : AnswersMeet
  answers-meet (Replace a b t) r shift below answer is ok w = replaced-meet a b t r shift below answer is ok w
  answers-meet (AddInlay i) r shift below answer is ok w = added-meet i r shift below answer is ok w
  answers-meet (RemoveInlay id) r shift below answer is ok w = removed-meet id r shift below answer is w
  answers-meet (AddFold f) r shift below answer is ok w = folded-meet f r shift below answer is ok w
  answers-meet (RemoveFold id) r shift below answer is ok w = opened-meet id r shift below answer is w
  answers-meet (AddBlock row id side lines) r shift below answer is ok w = still-meet (AddBlock row id side lines) r shift below answer is ok w NoLine refl tt refl refl refl
  answers-meet (RemoveBlock id) r shift below answer is ok w = still-meet (RemoveBlock id) r shift below answer is ok w NoLine refl tt refl refl refl
  answers-meet (SetTab tab) r shift below answer is ok w = still-meet (SetTab tab) r shift below answer is ok w EachLine refl tt refl refl refl
  answers-meet (SetWidth width) r shift below answer is ok w = still-meet (SetWidth width) r shift below answer is ok w NoLine refl tt refl refl refl
