-- A split still keeps what it keeps, after what was done with one of its displays or with each.
use Rattle.std.proofs.Common.{◌≡◌, ℕ, ◌<◌, ◌≤◌, List, [], length, map, get_or, set, Result, Ok, Err, sym, ap, ◌∙◌, subst, arith}
use Rattle.std.specs.Prelude.{OnErr, OnOk, None, fold, replicate, vec_len}
use Rattle.std.specs.List.{All}
use Rattle.std.specs.declared.vec.Vec.{Vec}
use Rattle.std.specs.Vec.{vec_capacity}
use Rattle.std.proofs.lemmas.List.{get_or_read, length-map, length-replicate, length-set}
use Rattle.std.proofs.lemmas.List.Elements.{All-get_or}
use Rattle.display_sheet.specs.declared.change.Change.{Change}
use Rattle.display_sheet.specs.Changes.{change_refusal}
use Rattle.display_map.specs.Events.{Event}
use Rattle.display_map.specs.Replay.{History, appended, present_of}
use Rattle.split_views.specs.declared.split.TheConstants.{VIEW_LIMIT}
use Rattle.split_views.specs.Kept.{KeepsSplit}
use Rattle.split_views.specs.Views.{AreOfOneText, history_of}
use Rattle.split_views.specs.Wrapping.{HasBegun, HasWrapped}
use Rattle.split_views.proofs.OneText.{one-in_each, one-opened, one-set, text_of, unopened}
use Rattle.split_views.proofs.Texts.{text-appended, text_on}
use Rattle.split_views.proofs.Wraps.{begun-still, wrapped-still}

-- a history of the same text
pub record IsStill (h new : History) : Type 0 where
  pub opening : new.opening ≡ h.opening
  pub present : text_of new ≡ text_of h

pub still-appended : {A E : Type 0} (r : Result A E) (h new : History) (es : List Event) → ((text : List ℕ) → fold text_on text es ≡ text) →
    OnOk r (new ≡ appended h es) → OnErr r (new ≡ h) → IsStill h new
still-appended (Ok x) h new es kept is none =
    record {
      opening = ap (λ (k : History). k.opening) is;
      present = ap text_of is ∙ text-appended h es ∙ kept (text_of h);
    }
still-appended (Err e) h new es kept none is = record { opening = ap (λ (k : History). k.opening) is; present = ap text_of is }

pub still-settled : {A E : Type 0} (r : Result A E) (h new : History) → OnOk r (HasWrapped h new) → OnErr r (HasBegun h new) → IsStill h new
still-settled (Ok x) h new wrapped none = let same = wrapped-still h new wrapped in record { opening = same.0; present = same.1 }
still-settled (Err e) h new none begun = let same = begun-still h new begun in record { opening = same.0; present = same.1 }

pub kept-in_one : {Z : Type 0} (hs : List History) (journals : Vec (List Event) Z) (view : ℕ) (h new : History) → view < length hs → h ≡ get_or hs view h → IsStill h new →
    KeepsSplit hs journals → KeepsSplit (set hs view new) journals
kept-in_one hs journals view h new lt read still kept =
    let is : h ≡ history_of hs view = get_or_read hs view h lt read unopened in
    record {
      one_text = one-set hs view new lt (still.opening ∙ ap (λ (k : History). k.opening) is) (still.present ∙ ap text_of is) kept.one_text;
      none = kept.none;
      empty = kept.empty;
      room = omega (arith, kept.room, length-set hs view new);
    }

pub kept-in_each : {A E Z : Type 0} (r : Result A E) (hs new : List History) (journals : Vec (List Event) Z) (es : List Event) →
    OnOk r (new ≡ map (λ h. appended h es) hs) → OnErr r (new ≡ hs) → KeepsSplit hs journals → KeepsSplit new journals
kept-in_each (Ok x) hs new journals es is none kept =
    let long : length new ≡ length hs = ap length is ∙ length-map hs (λ (h : History). appended h es) in
    record {
      one_text = subst AreOfOneText (sym is) (one-in_each hs es kept.one_text);
      none = kept.none;
      empty = kept.empty;
      room = omega (arith, kept.room, long);
    }
kept-in_each {Z = Z} (Err e) hs new journals es none is kept = subst (λ (hs : List History). KeepsSplit hs journals) (sym is) kept

pub kept-opened : {Z : Type 0} (hs : List History) (journals : Vec (List Event) Z) (views : ℕ) (h : History) → 1 ≤ views → views ≤ VIEW_LIMIT → hs ≡ replicate views h →
    journals.items ≡ [] → vec_len journals ≡ 0 → views ≤ vec_capacity journals → KeepsSplit hs journals
kept-opened hs journals views h some few is none empty room =
    record {
      one_text = subst AreOfOneText (sym is) (one-opened views h some few);
      none = none;
      empty = empty;
      room = omega (arith, room, ap length is, length-replicate views h);
    }

-- ---- what a view owes

pub on_ok-map : {A E P Q : Type 0} (r : Result A E) → (P → Q) → OnOk r P → OnOk r Q
on_ok-map (Ok x) f p = f p
on_ok-map (Err e) f p = tt

pub owes-none : (hs : List History) (view : ℕ) (change : Change) → view < length hs → All (λ h. change_refusal (present_of h) change ≡ None) hs →
    change_refusal (present_of (history_of hs view)) change ≡ None
owes-none hs view change lt all = All-get_or (λ (h : History). change_refusal (present_of h) change ≡ None) hs view unopened lt all
