-- What the calls of a map show, from what its parts show.
use Rattle.std.proofs.Common.{◌≡◌, ℕ, ◌+◌, ◌<◌, ◌≤◌, List, [], length, map, get_or, Option, refl, ap, sym, subst, ◌∙◌, arith}
use Rattle.std.proofs.lemmas.Bool.{cond_both}
use Rattle.std.proofs.lemmas.List.{get_or-map, length-map}
use Rattle.std.proofs.lemmas.List.Elements.{All-from_get_or, All-get_or}
use Rattle.cell_line.specs.declared.element.Element.{Element}
use Rattle.cell_line.specs.declared.lines.Run.{Run}
use Rattle.cell_line.specs.Lines.{line_at}
use Rattle.cell_line.specs.Wrapping.{cuts_of}
use Rattle.cell_units.specs.declared.place.Shift.{Shift}
use Rattle.cell_units.specs.Lawful.{IsWidth}
use Rattle.edit_patch.specs.declared.edit.Edit.{Edit}
use Rattle.wrap_map.specs.Landing.{IsLanded, IsPatchOfLanded, cuts_of_run, is_landed, marks_landed, standing_landed}
use Rattle.edit_patch.specs.Leads.{LeadsBy}
use Rattle.wrap_map.specs.Standing.{HasRoom, IsStanding, IsSynced, StandSo, Standing, Wrapped, standing_after, standing_of, stood_of}
use Rattle.wrap_map.specs.Stood.{Stood, marks_in}
use Rattle.wrap_map.specs.inside.Changes.{AreRowsIfAny, cleared_if_any}
use Rattle.wrap_map.specs.inside.Landings.{IsPut}
use Rattle.wrap_map.proofs.Carried.{length-marks_landed, length-wraps, mark-landed, wrap-is}
use Rattle.wrap_map.proofs.Synced.{length-stood_of, marks-stood, standing-after, sync-long, sync-stood, synced}

-- a map of lines as they are wrapped
abbrev pub map_of : Standing → ℕ → Wrapped
map_of s width = record { standing = s; width = width }

pub seen-as : (s : Standing) (lines : List (List Element)) (ls : List Stood) → lines ≡ s.lines → ls ≡ stood_of s → length s.marks ≡ length s.lines
    → standing_of lines ls ≡ s
seen-as s lines ls e h one_each = λ i. record { lines = e i; marks = (ap marks_in h ∙ marks-stood s.lines s.marks one_each) i }

pub kept-as : (s : Standing) (lines : List (List Element)) (ls : List Stood) → lines ≡ s.lines → ls ≡ stood_of s → IsStanding s
    → StandSo lines ls
kept-as s lines ls e h is =
    let q = seen-as s lines ls e h is.one_each in
    (subst IsStanding (sym q) is, h ∙ ap stood_of (sym q))

pub view-long : (now : Wrapped) (s : Standing) (ls : List Stood) (width : ℕ) → map_of s width ≡ now → ls ≡ stood_of s → IsStanding s
    → length ls ≡ length now.standing.lines
view-long now s ls width view h is = ap length h ∙ length-stood_of s is.one_each ∙ ap (λ (m : Wrapped). length m.standing.lines) view

-- ---- sync

pub leads-now : (now : Wrapped) (s : Standing) (width : ℕ) (lines : List (List Element)) (below : Option Shift) → map_of s width ≡ now
    → LeadsBy now.standing.lines lines below → LeadsBy s.lines lines below
leads-now now s width lines below view l = subst (λ (m : Wrapped). LeadsBy m.standing.lines lines below) (sym view) l

pub room-now : (now : Wrapped) (s : Standing) (width : ℕ) (lines : List (List Element)) (below : Option Shift) → map_of s width ≡ now
    → HasRoom (standing_after now.standing lines below) → HasRoom (standing_after s lines below)
room-now now s width lines below view r = subst (λ (m : Wrapped). HasRoom (standing_after m.standing lines below)) (sym view) r

pub sync-kept : (now : Wrapped) (s : Standing) (ls : List Stood) (width : ℕ) (lines shares : List (List Element)) (below : Option Shift) (after copy : List Stood)
    → map_of s width ≡ now → ls ≡ stood_of s → IsStanding s → LeadsBy now.standing.lines lines below → HasRoom (standing_after now.standing lines below)
    → after ≡ cleared_if_any below ls → shares ≡ lines → copy ≡ after
    → StandSo shares copy
sync-kept now s ls width lines shares below after copy view h is l room after-is same copy-is =
    let leads = leads-now now s width lines below view l in
    kept-as (standing_after s lines below) shares copy same (copy-is ∙ after-is ∙ sync-stood s lines below ls h is leads)
    (standing-after s lines below is leads (room-now now s width lines below view room))

pub sync-synced : (now : Wrapped) (s : Standing) (ls : List Stood) (width : ℕ) (lines shares : List (List Element)) (below rows : Option Shift) (after copy : List Stood)
    → map_of s width ≡ now → ls ≡ stood_of s → IsStanding s → LeadsBy now.standing.lines lines below → HasRoom (standing_after now.standing lines below)
    → after ≡ cleared_if_any below ls → AreRowsIfAny ls below rows → shares ≡ lines → copy ≡ after
    → IsSynced now lines below (map_of (standing_of lines after) width) (standing_of shares copy) rows
sync-synced now s ls width lines shares below rows after copy view h is l room after-is rows-is same copy-is =
    let leads = leads-now now s width lines below view l in
    let s' = standing_after s lines below in
    let stands = after-is ∙ sync-stood s lines below ls h is leads in
    let one_each = (standing-after s lines below is leads (room-now now s width lines below view room)).one_each in
    subst (λ (m : Wrapped). IsSynced m lines below (map_of (standing_of lines after) width) (standing_of shares copy) rows) view
    (synced (map_of s width) lines below (map_of (standing_of lines after) width) (standing_of shares copy) rows is leads
    (subst (λ (xs : List Stood). AreRowsIfAny xs below rows) h rows-is)
    (λ i. map_of (seen-as s' lines after refl stands one_each i) width)
    (seen-as s' shares copy same (copy-is ∙ stands) one_each))

pub sync-lengths : (now : Wrapped) (s : Standing) (ls : List Stood) (width : ℕ) (lines : List (List Element)) (below : Option Shift)
    → map_of s width ≡ now → ls ≡ stood_of s → IsStanding s → LeadsBy now.standing.lines lines below → HasRoom (standing_after now.standing lines below)
    → (length ls ≡ length now.standing.lines) × (length (cleared_if_any below ls) ≡ length lines)
sync-lengths now s ls width lines below view h is l room =
    (view-long now s ls width view h is, sync-long s lines below ls h is (leads-now now s width lines below view l) (room-now now s width lines below view room))

-- ---- land

-- the wrap at a place is that of the run's line there
pub wrap-item : {X : Type 0} (f : X → List ℕ) (ws : List X) (place : ℕ) (w : X) (lines : List (List Element)) (run : Run) (width : ℕ)
    → place < length ws → w ≡ get_or ws place w → map f ws ≡ cuts_of_run lines run width → run.first + run.count ≤ length lines
    → (f w ≡ cuts_of (line_at lines (run.first + place)) width) × (place < run.count)
wrap-item f ws place w lines run width h w-is wraps within =
    let long = sym (length-map ws f) ∙ ap length wraps ∙ length-wraps lines run width within in
    let there : place < run.count = omega (arith, h, long) in (
      ap f w-is ∙ sym (get_or-map f ws place w [] h) ∙ ap (λ (xs : List (List ℕ)). get_or xs place []) wraps ∙ wrap-is lines run width place within there,
      there,
    )

pub wraps-long : {X : Type 0} (f : X → List ℕ) (ws : List X) (lines : List (List Element)) (run : Run) (width : ℕ)
    → map f ws ≡ cuts_of_run lines run width → run.first + run.count ≤ length lines → length ws ≡ run.count
wraps-long f ws lines run width wraps within = sym (length-map ws f) ∙ ap length wraps ∙ length-wraps lines run width within

pub standing-landed : (s : Standing) (since : List Edit) (run : Run) (width : ℕ) → IsStanding s → IsWidth width
    → HasRoom (standing_landed since run width s) → IsStanding (standing_landed since run width s)
standing-landed s since run width is lawful room =
    let long = length-marks_landed since run width s.marks in
    record {
      one_each = long ∙ is.one_each;
      lawful = All-from_get_or IsWidth (marks_landed since run width s.marks) 0
          (λ i h. let h' : i < length s.marks = omega (arith, long, h) in
          subst IsWidth (sym (mark-landed since run width s.marks i h'))
          (cond_both (is_landed since run i) width (get_or s.marks i 0) IsWidth (λ t. lawful) (λ f. All-get_or IsWidth s.marks i 0 h' is.lawful)));
      room = room;
    }

-- what landed at the present width
pub land-landed : (now : Wrapped) (s : Standing) (width0 : ℕ) (since : List Edit) (run : Run) (width : ℕ) (ls : List Stood) (patch : List Edit)
    → map_of s width0 ≡ now → IsStanding s → width ≡ now.width → IsPut s since run width ls patch
    → IsLanded now since run (map_of (standing_of s.lines ls) width0) patch
land-landed now s width0 since run width ls patch view is width-is put =
    let w : width ≡ width0 = width-is ∙ sym (ap (λ (m : Wrapped). m.width) view) in
    let new = standing_landed since run width s in
    let one_each = length-marks_landed since run width s.marks ∙ is.one_each in
    let see : standing_of s.lines ls ≡ new = seen-as new s.lines ls refl put.lines_are one_each in
    subst (λ (m : Wrapped). IsLanded m since run (map_of (standing_of s.lines ls) width0) patch) view
    (record {
      map = (λ i. map_of (see i) width0) ∙ ap (λ (n : ℕ). map_of (standing_landed since run n s) width0) w;
      rows = subst (λ (x : Standing). IsPatchOfLanded s x since run patch) (sym see) put.rows;
    })
