use Rattle.std.proofs.Common.{◌+◌, count_by, ◌<◌, ◌≤◌, ◌^◌, ◌∙◌, List, ℕ, length, map, ap, sym, subst, arith}
use Rattle.std.specs.List.{All}
use Rattle.cell_units.specs.Lawful.{AreInlays}
use Rattle.cell_units.specs.Layers.{Source, inlay_source}
use Rattle.cell_units.specs.Operation.{moved_inlays}
use Rattle.cell_units.specs.Text.{IsBoundary}
use Rattle.mark_tree.specs.declared.mark.Mark.{Mark}
use Rattle.mark_tree.specs.Marks.{is_met, move_mark, moved_marks}
use Rattle.edit_patch.specs.Leads.{reach_of}
use Rattle.inlay_map.specs.Splices.{inlay_of}
use Rattle.inlay_map.proofs.InlayMarks.{moved-marks}
use Rattle.inlay_map.proofs.MovedInlays.{marks-are, offsets-fit}
use Rattle.mark_tree.specs.Bounds.{moving}
use Rattle.inlay_map.specs.Bounds.{met}
use Rattle.inlay_map.proofs.StepSums.{marks-count, met-marks}
use Rattle.inlay_map.proofs.inlaid.Inlaid.moved.Goals as goal

pub apply-requires : goal.apply-requires
apply-requires c =
    let len = c.len-len.ensures in
    record {
      fits =
          subst (λ (ms : List (Mark (List ℕ))). All (λ m. m.offset < 2 ^ 32) (map (move_mark c.args.shift) ms)) (sym c.in_ok-marks.ensures)
          (offsets-fit c.args.shift c.self.inside.rope c.self.inside.marks c.self.invariant
          (omega (arith, len.value, len.lawful.short, ap (λ (s : Source). length s.text) c.self.view_is))
          (omega (arith, c.requires.within, c.len-after.ensures.value, c.len-after.ensures.within)));
    }

pub invariant_of-result : goal.invariant_of-result
invariant_of-result c =
    let ms = c.self.inside.marks in
    subst (λ (l : List (Mark (List ℕ))). AreInlays c.args.rope (map inlay_of l)) (sym (c.in_ok-apply.ensures.ok ∙ ap (moved_marks c.args.shift) c.in_ok-marks.ensures))
    (marks-are c.args.shift c.self.inside.rope c.args.rope ms c.self.invariant
    (subst (λ (s : Source). All (λ i. IsBoundary c.args.rope i.offset) (moved_inlays c.args.shift.start c.args.shift.end c.args.shift.count s.inlays)) (sym c.self.view_is) c.requires.boundaries))

pub returns-clause-ok : goal.returns-clause-ok
returns-clause-ok c =
    let ms = c.self.inside.marks in
    ap (λ (l : List (Mark (List ℕ))). inlay_source c.args.rope (map inlay_of l)) (c.in_ok-apply.ensures.ok ∙ ap (moved_marks c.args.shift) c.in_ok-marks.ensures)
    ∙ ap (inlay_source c.args.rope) (moved-marks c.args.shift ms)
    ∙ ap (λ (s : Source). inlay_source c.args.rope (moved_inlays c.args.shift.start c.args.shift.end c.args.shift.count s.inlays)) c.self.view_is

pub returns-clause-steps : goal.returns-clause-steps
returns-clause-steps c h lt =
    let same = marks-count c.self.inside.rope c.self.inside.marks c.args.self.now c.self.view_is in
    let shared = c.in_ok-marks.ensures in
    let count =
    ap (λ (l : List (Mark (List ℕ))). count_by (is_met c.args.shift) l) shared
    ∙ met-marks c.args.shift c.self.inside.marks
    ∙ ap (λ (s : Source). met (reach_of c.args.shift) s.inlays) c.self.view_is in
    subst (λ (n : ℕ). c.apply.new.steps ≤ c.args.steps.now + moving n h) count (c.apply.ensures.steps h (omega (arith, lt, same, ap (λ (l : List (Mark (List ℕ))). length l) shared)))

pub returns-in_err-apply-clause-steps : goal.returns-in_err-apply-clause-steps
returns-in_err-apply-clause-steps c h lt =
    let same = marks-count c.self.inside.rope c.self.inside.marks c.args.self.now c.self.view_is in
    let shared = c.in_ok-marks.ensures in
    let count =
    ap (λ (l : List (Mark (List ℕ))). count_by (is_met c.args.shift) l) shared
    ∙ met-marks c.args.shift c.self.inside.marks
    ∙ ap (λ (s : Source). met (reach_of c.args.shift) s.inlays) c.self.view_is in
    subst (λ (n : ℕ). c.apply.new.steps ≤ c.args.steps.now + moving n h) count (c.apply.ensures.steps h (omega (arith, lt, same, ap (λ (l : List (Mark (List ℕ))). length l) shared)))
