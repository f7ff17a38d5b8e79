-- Histories of one text, over what a split does with them.
use Rattle.std.proofs.Common.{◌≡◌, ℕ, ◌<◌, ◌≤◌, true, false, List, [], length, map, set, replicate, refl, sym, ap, ◌∙◌, arith}
use Rattle.std.specs.Prelude.{fold}
use Rattle.std.specs.List.{All}
use Rattle.std.proofs.lemmas.List.{length-map, length-replicate, length-set}
use Rattle.std.proofs.lemmas.List.Elements.{All-get_or, All-map, All-replicate, All-set, All-weaker}
use Rattle.display_sheet.specs.declared.change.Change.{Change}
use Rattle.display_sheet.specs.Changes.{change_refusal, parts_of}
use Rattle.display_map.specs.Events.{Event}
use Rattle.display_map.specs.Replay.{History, appended, present_of}
use Rattle.split_views.specs.declared.split.TheConstants.{VIEW_LIMIT}
use Rattle.split_views.specs.Views.{AreOfOneText, HaveOneText, added, appended_in, history_of, is_edit}
use Rattle.split_views.proofs.Texts.{judged-alike, text-appended, text-kept, text_on}

abbrev pub unopened : History
unopened = record { opening = []; events = [] }

abbrev pub text_of : History → List ℕ
text_of h = (present_of h).text

-- ---- the start

pub one-opened : (views : ℕ) (h : History) → 1 ≤ views → views ≤ VIEW_LIMIT → AreOfOneText (replicate views h)
one-opened views h some few =
    let long : length (replicate views h) ≡ views = length-replicate views h in
    record {
      some = omega (arith, some, long);
      few = omega (arith, few, long);
      opening = (h.opening, All-replicate (λ (k : History). k.opening ≡ h.opening) views h refl);
      present = (text_of h, All-replicate (λ (k : History). text_of k ≡ text_of h) views h refl);
    }

-- ---- one view

set-one : (text_in : History → List ℕ) (hs : List History) (view : ℕ) (h : History) → view < length hs → text_in h ≡ text_in (history_of hs view) →
    HaveOneText text_in hs → HaveOneText text_in (set hs view h)
set-one text_in hs view h lt same (text, all) =
    (text, All-set (λ (k : History). text_in k ≡ text) hs view h (same ∙ All-get_or (λ (k : History). text_in k ≡ text) hs view unopened lt all) all)

pub one-set : (hs : List History) (view : ℕ) (h : History) → view < length hs → h.opening ≡ (history_of hs view).opening → text_of h ≡ text_of (history_of hs view) →
    AreOfOneText hs → AreOfOneText (set hs view h)
one-set hs view h lt opening text one =
    let long : length (set hs view h) ≡ length hs = length-set hs view h in
    record {
      some = omega (arith, one.some, long);
      few = omega (arith, one.few, long);
      opening = set-one (λ (k : History). k.opening) hs view h lt opening one.opening;
      present = set-one text_of hs view h lt text one.present;
    }

pub one-appended : (hs : List History) (view : ℕ) (es : List Event) → view < length hs → ((text : List ℕ) → fold text_on text es ≡ text) →
    AreOfOneText hs → AreOfOneText (appended_in hs view es)
one-appended hs view es lt kept one =
    let h = history_of hs view in
    one-set hs view (appended h es) lt refl (text-appended h es ∙ kept (text_of h)) one

pub one-changed : (hs : List History) (view number : ℕ) (change : Change) → view < length hs → is_edit (parts_of change) ≡ false →
    AreOfOneText hs → AreOfOneText (appended_in hs view (added number change))
one-changed hs view number change lt other one =
    one-appended hs view (added number change) lt (λ text. text-kept text number (parts_of change) other) one

-- ---- every view

pub one-in_each : (hs : List History) (es : List Event) → AreOfOneText hs → AreOfOneText (map (λ h. appended h es) hs)
one-in_each hs es one =
    let long : length (map (λ h. appended h es) hs) ≡ length hs = length-map hs (λ (h : History). appended h es) in
    let opening = one.opening.0 in
    let text = one.present.0 in
    record {
      some = omega (arith, one.some, long);
      few = omega (arith, one.few, long);
      opening = (opening, All-map (λ (h : History). h.opening ≡ opening) (λ (h : History). appended h es) hs one.opening.1);
      present = (
        fold text_on text es,
        All-map (λ (h : History). text_of h ≡ fold text_on text es) (λ (h : History). appended h es) hs
            (All-weaker (λ (h : History). text_of h ≡ text) (λ (h : History). text_of (appended h es) ≡ fold text_on text es)
            (λ h same. text-appended h es ∙ ap (λ (t : List ℕ). fold text_on t es) same) hs one.present.1),
      );
    }

-- all owe the same refusal of an edit
pub owe-alike : (hs : List History) (view : ℕ) (change : Change) → view < length hs → is_edit (parts_of change) ≡ true → AreOfOneText hs →
    All (λ h. change_refusal (present_of h) change ≡ change_refusal (present_of (history_of hs view)) change) hs
owe-alike hs view change lt edit one =
    let text = one.present.0 in
    let here : text_of (history_of hs view) ≡ text = All-get_or (λ (h : History). text_of h ≡ text) hs view unopened lt one.present.1 in
    All-weaker (λ (h : History). text_of h ≡ text) (λ (h : History). change_refusal (present_of h) change ≡ change_refusal (present_of (history_of hs view)) change)
    (λ h same. judged-alike (present_of h) (present_of (history_of hs view)) (parts_of change) edit (same ∙ sym here)) hs one.present.1
