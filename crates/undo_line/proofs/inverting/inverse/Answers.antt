use Rattle.std.proofs.Common.{◌≡◌, ℕ, ◌+◌, ◌-◌, List, [], ◌∷◌, ◌++◌, length, drop, sym, ap, subst, ◌∙◌, arith}
use Rattle.std.specs.Str.{IsUtf8}
use Rattle.cell_units.specs.Text.{IsBoundary, clean}
use Rattle.cell_units.proofs.FoundEntries.{All-from_Every}
use Rattle.display_sheet.specs.declared.change.Splice.{Splice}
use Rattle.display_sheet.specs.Changes.{splice_of}
use Rattle.display_map.specs.Replay.{present_of}
use Rattle.display_map.proofs.Batches.{are_ordered}
use Rattle.display_map.proofs.FittingBatches.{at_boundaries}
use Rattle.display_map.proofs.SplicedLengths.{ordered-next, passed}
use Rattle.undo_line.specs.Inverse.{Leads, text_after}
use Rattle.undo_line.proofs.Inverses.{fits, inverse-leads, short_after}
use Rattle.undo_line.proofs.RunningInverses.{each-end, each-more, each-next, running, running-end, running-passed, running-put}
use Rattle.undo_line.proofs.inverting.inverse.Goals as goal
use Rattle.undo_line.proofs.inverting.inverse.Goals.{then-is_operation+in_ok-text+in_ok-push, else-is_operation}

pub loop-splice-init : goal.loop-splice-init
loop-splice-init g c =
    let r = present_of c.args.view.now in
    let splices = c.args.batch.now in
    let ok = fits r splices c.requires in
    record {
      told = ap (λ (l : List Splice). l ++ running r.text 0 0 splices) c.new-back.ensures.items;
      fits = omega arith;
      ordered = are_ordered r.text 0 splices (omega arith) ok.0;
      boundaries = at_boundaries r.text 0 splices c.lawful.ensures.lawful.entries.source.text.0 ok.0;
      utf8 = λ h. h;
      counted = omega arith;
    }

pub overflow_add-start : goal.overflow_add-start
overflow_add-start g c =
    let r = present_of c.args.view.now in
    let l = c.loop-splice in
    let step = passed r.text c.args.batch.now l.from l.splice-index c.splice-item.result c.loop-splice-test.true c.splice-item.is l.invariant.ordered in
    omega (arith, step, l.invariant.fits, short_after r c.args.batch.now c.requires)

pub overflow_cast-end : goal.overflow_cast-end
overflow_cast-end g c =
    let r = present_of c.args.view.now in
    let l = c.loop-splice in
    let step = passed r.text c.args.batch.now l.from l.splice-index c.splice-item.result c.loop-splice-test.true c.splice-item.is l.invariant.ordered in
    let long : c.clean_len.result ≡ length (clean c.splice-item.result.text) = c.clean_len.ensures ∙ ap (λ (t : List ℕ). length (clean t)) c.as_str.ensures in
    omega (arith, long, step, l.invariant.fits, short_after r c.args.batch.now c.requires)

pub overflow_add-end : goal.overflow_add-end
overflow_add-end g c =
    let r = present_of c.args.view.now in
    let l = c.loop-splice in
    let step = passed r.text c.args.batch.now l.from l.splice-index c.splice-item.result c.loop-splice-test.true c.splice-item.is l.invariant.ordered in
    let long : c.clean_len.result ≡ length (clean c.splice-item.result.text) = c.clean_len.ensures ∙ ap (λ (t : List ℕ). length (clean t)) c.as_str.ensures in
    omega (arith, long, step, l.invariant.fits, short_after r c.args.batch.now c.requires)

pub loop-splice-preserved : goal.loop-splice-preserved
loop-splice-preserved g c =
    let text = (present_of c.args.view.now).text in
    let splices = c.args.batch.now in
    let l = c.loop-splice in
    let i = l.splice-index in
    let s = c.splice-item.result in
    let there = c.loop-splice-test.true in
    let is = c.splice-item.is in
    let step = passed text splices l.from i s there is l.invariant.ordered in
    let start : ℕ = l.at + (s.start - l.from) in
    let long : c.clean_len.result ≡ length (clean s.text) = c.clean_len.ensures ∙ ap (λ (t : List ℕ). length (clean t)) c.as_str.ensures in
    let end : start + c.clean_len.result ≡ start + length (clean s.text) = ap (λ (n : ℕ). start + n) long in
    let whole = running text 0 0 splices in
    let found = c.if-is_operation.back.items in
    record {
      told =
          ap (λ (n : ℕ). found ++ running text s.end n (drop (i + 1) splices)) end
          ∙ elim c.if-is_operation.branch [
            | then-is_operation+in_ok-text+in_ok-push w ↦
                running-put text splices l.from l.at i s there is (sym c.is_operation.ensures.operation ∙ w.if-is_operation.true) whole l.back.items found l.invariant.told
                (ap (λ b. b.items) w.back-is ∙ w.in_ok-push.ensures.items ∙ (λ j. l.back.items ++ splice_of start (end j) (w.in_ok-text.ensures.text j) ∷ []))
            | else-is_operation w ↦
                ap (λ (b : List Splice). b ++ running text s.end (start + length (clean s.text)) (drop (i + 1) splices)) (ap (λ b. b.items) w.back-is)
                ∙ running-passed text splices l.from l.at i s there is (sym c.is_operation.ensures.operation ∙ w.if-is_operation.false) whole l.back.items l.invariant.told
          ];
      fits = omega (arith, long, step, l.invariant.fits);
      ordered = ordered-next text splices l.from i s there is l.invariant.ordered;
      boundaries = (each-next text splices l.from l.at i s there is (λ (x : Splice). IsBoundary text x.start × IsBoundary text x.end) l.invariant.boundaries).1;
      utf8 = λ h. l.invariant.utf8 (each-more text splices l.from l.at i s there is (λ (x : Splice). IsUtf8 x.text) c.is_operation.ensures.utf8 h);
      counted = elim c.if-is_operation.branch [
        | then-is_operation+in_ok-text+in_ok-push w ↦ omega (arith, w.steps-is, w.in_ok-text.ensures.counted, l.invariant.counted)
        | else-is_operation w ↦ omega (arith, w.steps-is, l.invariant.counted)
      ];
    }

pub returns-clause-inverse : goal.returns-clause-inverse
returns-clause-inverse g c =
    let r = present_of c.args.view.now in
    let splices = c.args.batch.now in
    let l = c.loop-splice in
    let ok = fits r splices c.requires in
    running-end r.text splices l.from l.at l.splice-index c.loop-splice-test.false l.back.items (are_ordered r.text 0 splices (omega arith) ok.0) l.invariant.told

pub returns-clause-leads : goal.returns-clause-leads
returns-clause-leads g c =
    let r = present_of c.args.view.now in
    let splices = c.args.batch.now in
    let l = c.loop-splice in
    let ok = fits r splices c.requires in
    let past = c.loop-splice-test.false in
    let found = running-end r.text splices l.from l.at l.splice-index past l.back.items (are_ordered r.text 0 splices (omega arith) ok.0) l.invariant.told in
    let utf8 = l.invariant.utf8 (each-end r.text splices l.from l.at l.splice-index past (λ (x : Splice). IsUtf8 x.text)) in
    subst (λ (b : List Splice). Leads (text_after r.text splices) b r.text) (sym found)
    (inverse-leads r.text splices (record {
      is_text = c.lawful.ensures.lawful.entries.source.text;
      ranges = ok.0;
      utf8 = All-from_Every (λ (x : Splice). IsUtf8 x.text) splices utf8;
    }) c.lawful.ensures.short)
