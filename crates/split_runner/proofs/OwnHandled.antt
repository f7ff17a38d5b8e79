-- How the handling of a line of a view ends that changes nothing, or is refused.
use Rattle.std.proofs.Common.{◌≡◌, ℕ, ◌<◌, Bool, List, [], ◌∷◌, ◌++◌, length, Result, Ok, refl, sym, ap, ◌∙◌, subst}
use Rattle.std.specs.Prelude.{◌||◌}
use Rattle.std.specs.Result.{IsErrAnd}
use Rattle.display_map.specs.Events.{Line}
use Rattle.display_map.specs.Replay.{History}
use Rattle.edit_script.specs.declared.asked.Form.TheVariants.{First}
use Rattle.edit_script.specs.Verdict.{Verdict}
use Rattle.script_runner.specs.declared.stop.Stop.{Stop}
use Rattle.script_runner.specs.declared.stop.Stop.TheVariants as stops
use Rattle.script_runner.specs.Entries.{Bytes}
use Rattle.script_runner.specs.Outside.{SinkState, Takes}
use Rattle.script_runner.specs.Output.{printed_with, verdict_lines}
use Rattle.script_runner.specs.Writing.{IsUnwritten}
use Rattle.split_views.specs.Views.{appended_in, history_of}
use Rattle.undo_line.specs.UndoParts.{UndoParts}
use Rattle.split_script.specs.Lines.{Own, SplitLine, prefixed}
use Rattle.split_script.specs.Met.{Met, edit_in, met, steps_of}
use Rattle.split_script.specs.Output.{is_refused}
use Rattle.split_script.specs.Parts.{part_of}
use Rattle.split_runner.specs.Going.{HandlesOwn, HandlesReady, IsCut, IsGoing, at, on}
use Rattle.split_runner.proofs.OwnAnswers.{IsCalmVerdict, going-answered, moved-in, own-printed}
use Rattle.split_runner.proofs.OwnLines.{in_view, is-met, own-stays, starts}
use Rattle.split_runner.proofs.ViewLines.{under-line}
use Rattle.split_runner.proofs.Within.{cut-before, cut-within, handled-err, nothing-written}

-- a line for which there was no memory before anything was done
pub line-short : (number : ℕ) (line : SplitLine) (hs new : List History) (undo undo' : UndoParts) (sink : SinkState) (r : Result Bool Stop)
    → IsErrAnd r (λ e. e ≡ stops.Memory) → new ≡ hs → HandlesReady number line (at hs undo sink) (at new undo' sink) r
line-short number line hs new undo undo' sink r e same course done refused next ready =
    handled-err course (done ++ (number, line) ∷ []) refused (at new undo' sink) r stops.Memory e
    (λ later. subst (λ h. IsCut (on course ((done ++ (number, line) ∷ []) ++ later)) (at h undo' sink) stops.Memory) (sym same)
    (cut-before course done later refused hs undo undo' sink (number, line) ready.going next sink stops.Memory (nothing-written _ sink)))

module _ (number view : ℕ) (hs new : List History) (undo : UndoParts) (sink sink' : SinkState) (v : Verdict) (calm : IsCalmVerdict v)
    (there : view < length hs) (noted : new ≡ appended_in hs view (Line number ∷ [])) where
  abbrev noted-in : List History
  noted-in = appended_in hs view (Line number ∷ [])

  -- its line was noted, and its answer not written whole
  pub own-unwritten : (r : Result Bool Stop) (stop : Stop) → IsErrAnd r (λ e. e ≡ stop)
      → IsUnwritten (printed_with (prefixed view []) (verdict_lines (history_of hs view) v)) sink sink' stop
      → HandlesOwn number view v (at hs undo sink) (at new undo sink') r
  own-unwritten r stop e why bytes is course done refused next ready =
      let lt : view < course.views = subst (λ n. view < n) ready.going.views.count there in
      let m : Met = record { number = number; line = Own view bytes; before = history_of hs view; past = steps_of hs done } in
      let moved = moved-in hs view (Line number ∷ []) there in
      handled-err course (done ++ (number, Own view bytes) ∷ []) refused (at new undo sink') r stop e
      (λ later. subst (λ h. IsCut (on course ((done ++ (number, Own view bytes) ∷ []) ++ later)) (at h undo sink') stop) (sym noted)
      (cut-within course done later refused hs noted-in undo sink (number, Own view bytes) m (in_view view (Line number ∷ [])) ready.going next moved
      (starts course done refused hs noted-in undo sink sink' number view bytes [] ready.going next lt moved refl)
      (is-met course done refused hs noted-in undo sink sink' number view bytes [] ready.going next lt moved refl)
      undo sink' stop
      (own-stays course done refused hs noted-in undo sink sink' number view bytes [] ready.going next lt moved refl (ap edit_in is ∙ calm.calm)
      (under-line (part_of course.text view (met hs done)) (history_of hs view) number (Bytes First bytes) (ready.going.under_way view lt)
      (ready.settled view lt) (λ command f. calm.idle command (sym is ∙ f))).orderly)
      (subst (λ b. IsUnwritten b sink sink' stop)
      (ap (λ x. printed_with (prefixed view []) (verdict_lines (history_of hs view) x)) (sym is) ∙ own-printed course.text m view bytes refl) why)))

  -- ... and its answer was written
  pub own-written : (b : Bool) → b ≡ is_refused v → Takes (printed_with (prefixed view []) (verdict_lines (history_of hs view) v)) sink sink'
      → HandlesOwn number view v (at hs undo sink) (at new undo sink') (Ok b)
  own-written b same written bytes is course done refused next ready =
      let lt : view < course.views = subst (λ n. view < n) ready.going.views.count there in
      subst (λ h. IsGoing course (done ++ (number, Own view bytes) ∷ []) (refused || b) (at h undo sink')) (sym noted)
      (subst (λ x. IsGoing course (done ++ (number, Own view bytes) ∷ []) (refused || x) (at noted-in undo sink')) (sym same)
      (going-answered course done refused hs undo sink sink' number view bytes v ready.going next lt (ready.settled view lt) is calm written))
