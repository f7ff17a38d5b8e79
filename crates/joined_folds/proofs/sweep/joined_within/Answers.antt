use Rattle.std.proofs.Common.{List, ℕ, ◌+◌, ◌<◌, ◌≤◌, length, [], ◌∷◌, drop, get_or, sym, ap, ◌∙◌, subst}
use Rattle.std.proofs.lemmas.List.{drop_all, drop_more}
use Rattle.cell_units.specs.Record.{Fold}
use Rattle.mark_tree.specs.declared.mark.RangeMark.{RangeMark}
use Rattle.joined_folds.specs.declared.joined_fold.JoinedFold.{JoinedFold}
use Rattle.joined_folds.specs.JoinedLists.{AreJoined}
use Rattle.joined_folds.specs.Sweeps.{with_one}
use Rattle.joined_folds.specs.declared.window.Window.{Window}
use Rattle.joined_folds.proofs.Sweeps.{Swept, finished-over, finished-within, gone-on, joined-on}
use Rattle.joined_folds.proofs.sweep.joined_within.Goals.{then-range-last, else-range-last+in_ok-put, then-window-last, else-window-last}
use Rattle.joined_folds.proofs.sweep.joined_within.Goals as goal

-- the folds that are left, the next one first
next_first : (folds : List Fold) (w : Window) (met : List RangeMark) (i : ℕ) (joined : List JoinedFold) (last : JoinedFold) → i < length met → Swept folds w (drop i met) joined last
    → Swept folds w (get_or met i (record { start = 0; end = 0; id = 0 }) ∷ drop (i + 1) met) joined last
next_first folds w met i joined last l s = subst (λ (rest : List RangeMark). Swept folds w rest joined last) (drop_more met i (record { start = 0; end = 0; id = 0 }) l) s

-- none is left
none_left : (folds : List Fold) (w : Window) (met : List RangeMark) (i : ℕ) (joined : List JoinedFold) (last : JoinedFold) → length met ≤ i → Swept folds w (drop i met) joined last
    → Swept folds w [] joined last
none_left folds w met i joined last l s = subst (λ (rest : List RangeMark). Swept folds w rest joined last) (drop_all i met l) s

pub loop-range-preserved : goal.loop-range-preserved
loop-range-preserved c folds win are =
    let s = next_first folds c.args.window c.args.met.now c.loop-range.range-index c.loop-range.joined.items c.loop-range.last c.loop-range-test.true (c.loop-range.invariant folds win are) in
    elim c.if-range-last.branch [
      | then-range-last w ↦
          let r = get_or c.args.met.now c.loop-range.range-index (record { start = 0; end = 0; id = 0 }) in
          subst (λ (xs : List JoinedFold). Swept folds c.args.window (drop (c.loop-range.range-index + 1) c.args.met.now) xs c.if-range-last.last)
          (ap (λ v. v.items) (sym w.joined-is))
          (subst (λ (l : JoinedFold). Swept folds c.args.window (drop (c.loop-range.range-index + 1) c.args.met.now) c.loop-range.joined.items l)
          (sym (w.last-is ∙ (λ i. record { start = c.loop-range.last.start; end = w.max.ensures i })))
          (joined-on folds c.args.window win r (drop (c.loop-range.range-index + 1) c.args.met.now) c.loop-range.joined.items c.loop-range.last s w.if-range-last.true))
      | else-range-last+in_ok-put w ↦
          let r = get_or c.args.met.now c.loop-range.range-index (record { start = 0; end = 0; id = 0 }) in
          subst (λ (xs : List JoinedFold). Swept folds c.args.window (drop (c.loop-range.range-index + 1) c.args.met.now) xs c.if-range-last.last)
          (sym w.in_ok-put.ensures.ok ∙ ap (λ v. v.items) (sym w.joined-is))
          (subst (λ (l : JoinedFold). Swept folds c.args.window (drop (c.loop-range.range-index + 1) c.args.met.now) (with_one c.loop-range.joined.items c.loop-range.last) l) (sym w.last-is)
          (gone-on folds c.args.window win r (drop (c.loop-range.range-index + 1) c.args.met.now) c.loop-range.joined.items c.loop-range.last s w.if-range-last.false))
    ]

pub returns : goal.returns
returns c = record {
  joined = λ folds win are.
      let s = none_left folds c.args.window c.args.met.now c.loop-range.range-index c.loop-range.joined.items c.loop-range.last c.loop-range-test.false (c.loop-range.invariant folds win are) in
      subst (λ (xs : List JoinedFold). AreJoined folds c.args.window.from xs c.args.window.to) (sym c.in_ok-put-2.ensures.ok)
      (elim c.if-window-last.branch [
        | then-window-last w ↦ subst (λ (l : JoinedFold). AreJoined folds c.args.window.from (with_one c.loop-range.joined.items l) c.args.window.to) (sym w.last-is)
            (finished-over folds c.args.window win c.loop-range.joined.items c.loop-range.last s w.if-window-last.true)
        | else-window-last w ↦ subst (λ (l : JoinedFold). AreJoined folds c.args.window.from (with_one c.loop-range.joined.items l) c.args.window.to) (sym w.last-is)
            (finished-within folds c.args.window win c.loop-range.joined.items c.loop-range.last s w.if-window-last.false)
      ]);
}
