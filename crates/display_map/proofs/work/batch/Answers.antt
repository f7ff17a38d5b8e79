use Rattle.std.proofs.Common.{◌≡◌, ℕ, ◌+◌, ◌-◌, List, length, map, drop, sym, ap, subst, ◌∙◌, arith}
use Rattle.std.specs.List.{All}
use Rattle.std.proofs.lemmas.List.{with_items_is}
use Rattle.cell_units.specs.Record.{Record}
use Rattle.display_sheet.specs.Changes.{batch, replacement}
use Rattle.display_sheet.specs.declared.change.Splice.{Splice}
use Rattle.display_map.specs.Events.{Did}
use Rattle.display_map.specs.Outs.{AreBelow, OutParts, carried_out}
use Rattle.display_map.specs.Replay.{History, appended}
use Rattle.display_map.specs.Works.{KeepsWork}
use Rattle.display_map.proofs.Displays.{kept-did}
use Rattle.display_map.proofs.WorkedBatches.{allowed-next, history-next, history-passed, short-next}
use Rattle.display_map.proofs.SplicedWorks.{only-done, only-passed, passed-by}
use Rattle.display_map.proofs.Works.{below-sheet, splice-after, splice-order, splice-within}
use Rattle.display_map.proofs.work.batch.Goals as goal

-- the history whose splices from `i` on are done
abbrev done : History → List Splice → ℕ → History
done h splices i = appended h (map Did (batch (drop i splices)))

pub replaced-requires-clause-fits : goal.replaced-requires-clause-fits
replaced-requires-clause-fits g c =
    let q = c.requires.kept in
    short-next q.0 (g.S.Sheet.kept c.args.sheet.now) c.args.outs.now q.1 q.2 q.3 c.args.splices.now c.requires.ranges c.requires.short c.requires.short_after
    c.loop-i.i c.index-splices-i.result (omega arith) (omega arith) c.index-splices-i.is (g.S.Sheet.kept c.loop-i.now) c.loop-i.carried.items (c.loop-i.invariant.kept q.0 q.1 q.2 q.3)

pub replaced-requires-clause-allowed : goal.replaced-requires-clause-allowed
replaced-requires-clause-allowed g c =
    let q = c.requires.kept in
    allowed-next q.0 (g.S.Sheet.kept c.args.sheet.now) c.args.outs.now q.1 q.2 q.3 c.args.splices.now c.requires.ranges c.requires.short c.requires.short_after
    c.loop-i.i c.index-splices-i.result (omega arith) (omega arith) c.index-splices-i.is (g.S.Sheet.kept c.loop-i.now) c.loop-i.carried.items (c.loop-i.invariant.kept q.0 q.1 q.2 q.3) c.is_operation.ensures.utf8

pub carry-requires-clause-below : goal.carry-requires-clause-below
carry-requires-clause-below g c =
    let q = c.requires.kept in
    let now = (g.S.Sheet.kept c.loop-i.now) in
    let outs = c.loop-i.carried.items in
    let h = done q.0 c.args.splices.now c.loop-i.i in
    let k = c.loop-i.invariant.kept q.0 q.1 q.2 q.3 in
    let lines : length now.marks ≡ c.lines.result = sym c.lines.ensures.value in
    subst (λ (outs : List OutParts). All (λ out. AreBelow c.lines.result out.lines) outs) (sym c.as_mut_slice.ensures.value)
    (subst (λ (n : ℕ). All (λ (out : OutParts). AreBelow n out.lines) outs) lines (below-sheet h now outs q.1 q.2 0 k))

pub carry-requires-clause-order : goal.carry-requires-clause-order
carry-requires-clause-order g c =
    let q = c.requires.kept in
    splice-order (done q.0 c.args.splices.now c.loop-i.i) (g.S.Sheet.kept c.loop-i.now) c.loop-i.carried.items q.1 q.2 (c.loop-i.invariant.kept q.0 q.1 q.2 q.3)
    (replacement c.index-splices-i.result) (g.S.Sheet.kept c.in_ok-done.done.0) c.in_ok-done.done.1 c.in_ok-done.ensures.done

pub carry-requires-clause-within : goal.carry-requires-clause-within
carry-requires-clause-within g c =
    let q = c.requires.kept in
    let within = splice-within (done q.0 c.args.splices.now c.loop-i.i) (g.S.Sheet.kept c.loop-i.now) c.loop-i.carried.items q.1 q.2 (c.loop-i.invariant.kept q.0 q.1 q.2 q.3)
    (replacement c.index-splices-i.result) (g.S.Sheet.kept c.in_ok-done.done.0) c.in_ok-done.done.1 c.in_ok-done.ensures.done in
    omega (arith, within, c.lines.ensures.value, c.lines.ensures.lawful.marked)

pub carry-requires-clause-after : goal.carry-requires-clause-after
carry-requires-clause-after g c =
    let q = c.requires.kept in
    let splice = c.in_ok-done.done.1 in
    c.lines-lines.ensures.value
    ∙ c.lines-lines.ensures.lawful.marked
    ∙ splice-after (done q.0 c.args.splices.now c.loop-i.i) (g.S.Sheet.kept c.loop-i.now) c.loop-i.carried.items q.1 q.2 (c.loop-i.invariant.kept q.0 q.1 q.2 q.3)
    (replacement c.index-splices-i.result) (g.S.Sheet.kept c.in_ok-done.done.0) splice c.in_ok-done.ensures.done
    ∙ ap (λ (n : ℕ). splice.first + (splice.count + (n - splice.end))) (sym (c.lines.ensures.value ∙ c.lines.ensures.lawful.marked))

kept-next : {h : History} {sheet : Record} {outs outs' : List OutParts} {versions jobs : ℕ} → outs' ≡ outs → KeepsWork h sheet outs versions jobs → KeepsWork h sheet outs' versions jobs
kept-next {h} {sheet} {outs} {outs'} {versions} {jobs} is k = subst (λ (os : List OutParts). KeepsWork h sheet os versions jobs) (sym is) k

pub loop-i-preserved-then-is_operation : goal.loop-i-preserved-then-is_operation
loop-i-preserved-then-is_operation g c = record {
  kept = λ h versions jobs k.
      let i = c.loop-i.i in
      let x = c.index-splices-i.result in
      let splices = c.args.splices.now in
      let sheet = g.S.Sheet.kept c.args.sheet.now in
      let now = g.S.Sheet.kept c.loop-i.now in
      let outs = c.loop-i.carried.items in
      let splice = c.in_ok-done.done.1 in
      let sheet' = g.S.Sheet.kept c.in_ok-done.done.0 in
      let outs' = map (carried_out splice.first splice.end splice.count) outs in
      let k' = c.loop-i.invariant.kept h versions jobs k in
      let allowed = allowed-next h sheet c.args.outs.now versions jobs k splices c.requires.ranges c.requires.short c.requires.short_after
      i x (omega arith) (omega arith) c.index-splices-i.is now outs k' c.is_operation.ensures.utf8 in
      let step = kept-did (done h splices i) now outs versions jobs 0 k' (replacement x) allowed sheet' splice c.in_ok-done.ensures.done in
      let next = history-next h sheet c.args.outs.now versions jobs k splices c.requires.ranges c.requires.short c.requires.short_after
      i x (omega arith) (omega arith) c.index-splices-i.is now outs k' (sym c.is_operation.ensures.operation ∙ c.if-is_operation.true) in
      let is = with_items_is c.loop-i.carried c.carry.new.outs (omega (arith, c.carry.auto.outs, c.as_mut_slice.ensures.len))
      ∙ c.carry.ensures ∙ ap (map (carried_out splice.first splice.end splice.count)) c.as_mut_slice.ensures.value in
      kept-next is (subst (λ (h : History). KeepsWork h sheet' outs' versions jobs) next step);
  counted = omega (arith, c.loop-i.invariant.counted, c.replaced.ensures.counted);
  unbegun = λ full. absurd (omega (arith, full));
  took = λ splice only last.
      only-done c.args.splices.now c.index-splices-i.result c.loop-i.i c.index-splices-i.is (g.S.Sheet.kept c.loop-i.now) (g.S.Sheet.kept c.args.sheet.now)
      c.args.steps.now c.loop-i.steps c.loop-i.invariant.unbegun splice only (omega (arith, last)) c.replaced.new.steps c.replaced.ensures.steps;
}

pub loop-i-preserved : goal.loop-i-preserved
loop-i-preserved g c = record {
  kept = λ h versions jobs k.
      let sheet = g.S.Sheet.kept c.args.sheet.now in
      let now = g.S.Sheet.kept c.loop-i.now in
      let k' = c.loop-i.invariant.kept h versions jobs k in
      let passed = history-passed h sheet c.args.outs.now versions jobs k c.args.splices.now c.requires.ranges c.requires.short c.requires.short_after
      c.loop-i.i c.index-splices-i.result (omega arith) (omega arith) c.index-splices-i.is now c.loop-i.carried.items k'
      (sym c.is_operation.ensures.operation ∙ c.if-is_operation.false) in
      subst (λ (h : History). KeepsWork h now c.loop-i.carried.items versions jobs) passed k';
  counted = c.loop-i.invariant.counted;
  unbegun = λ full. absurd (omega (arith, full));
  took = λ splice only last.
      only-passed c.args.splices.now c.index-splices-i.result c.loop-i.i c.index-splices-i.is (g.S.Sheet.kept c.loop-i.now) (g.S.Sheet.kept c.args.sheet.now)
      c.args.steps.now c.loop-i.steps c.loop-i.invariant.unbegun splice only (omega (arith, last));
}

pub returns-clause-done : goal.returns-clause-done
returns-clause-done g c =
    let splices = c.args.splices.now in
    let last : c.loop-i.i ≡ 0 = omega (arith, c.loop-i-test.false) in
    let none : drop c.loop-i.i splices ≡ splices = ap (λ (n : ℕ). drop n splices) last in
    λ h versions jobs k.
    subst (λ (l : List Splice). KeepsWork (appended h (map Did (batch l))) (g.S.Sheet.kept c.loop-i.now) c.loop-i.carried.items versions jobs) none
    (c.loop-i.invariant.kept h versions jobs k)

pub returns-clause-steps : goal.returns-clause-steps
returns-clause-steps g c splice only = c.loop-i.invariant.took splice only (omega (arith, c.loop-i-test.false))

pub returns-in_err-done-clause-steps : goal.returns-in_err-done-clause-steps
returns-in_err-done-clause-steps g c splice only =
    only-done c.args.splices.now c.index-splices-i.result c.loop-i.i c.index-splices-i.is (g.S.Sheet.kept c.loop-i.now) (g.S.Sheet.kept c.args.sheet.now)
    c.args.steps.now c.loop-i.steps c.loop-i.invariant.unbegun splice only (omega (arith, ap length only)) c.replaced.new.steps c.replaced.ensures.steps

pub returns-in_err-now-clause-steps : goal.returns-in_err-now-clause-steps
returns-in_err-now-clause-steps g c splice only = passed-by splice (g.S.Sheet.kept c.args.sheet.now) c.args.steps.now

pub returns-in_err-carried-clause-steps : goal.returns-in_err-carried-clause-steps
returns-in_err-carried-clause-steps g c splice only = passed-by splice (g.S.Sheet.kept c.args.sheet.now) c.args.steps.now
