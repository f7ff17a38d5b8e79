use Rattle.std.proofs.Common.{◌≡◌, List, None, map, sym, ap, ◌∙◌, subst}
use Rattle.std.specs.List.{All}
use Rattle.display_sheet.specs.Changes.{change_refusal}
use Rattle.display_map.specs.Prepared.{IsOwed}
use Rattle.display_map.specs.Replay.{History, appended, present_of}
use Rattle.display_map.proofs.EditedDisplays.{err-same}
use Rattle.split_views.specs.Views.{added}
use Rattle.split_views.proofs.each.apply.Goals as goal

pub returns-in_err-ready-clause-refused : goal.returns-in_err-ready-clause-refused
returns-in_err-ready-clause-refused g c = λ owed all.
    err-same c.from_residual.result c.in_err-ready.field-0.0 (IsOwed owed) c.from_residual.ensures.1
    (c.in_err-ready.ensures.refused owed
    (subst (λ (hs : List History). All (λ (h : History). change_refusal (present_of h) c.args.change.now ≡ owed) hs) (sym c.deref.ensures.value) all))

pub returns-clause-accepted : goal.returns-clause-accepted
returns-clause-accepted g c =
    subst (λ (hs : List History). All (λ (h : History). change_refusal (present_of h) c.args.change.now ≡ None) hs) c.deref.ensures.value c.in_ok-ready.ensures.accepted

pub returns-clause-done : goal.returns-clause-done
returns-clause-done g c =
    c.commit.ensures ∙ c.in_ok-ready.ensures.after
    ∙ ap (map (λ (h : History). appended h (added c.args.number c.args.change.now))) c.deref.ensures.value
