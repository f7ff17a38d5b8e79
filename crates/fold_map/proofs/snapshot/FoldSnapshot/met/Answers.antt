use Rattle.std.proofs.Common.{length, ap, sym, subst, arith}
use Rattle.joined_folds.specs.Windows.{moved_on}
use Rattle.fold_map.specs.declared.met.Met.{Met}
use Rattle.fold_map.specs.declared.met.MetEnd.{MetEnd}
use Rattle.fold_map.specs.Met.{IsMetBy}
use Rattle.fold_map.proofs.MetFolds.{end-offset, met-found, next-index}
use Rattle.fold_map.proofs.snapshot.FoldSnapshot.met.Goals as goal

pub end_met-end-requires : goal.end_met-end-requires
end_met-end-requires g c j e =
    let s = c.args.self.now in
    let is = c.text_len-len.ensures.lawful in
    let ca = c.cut_at-front.ensures.cut is.joined is.all in
    let cb = c.cut_at-back.ensures.cut is.joined is.all in
    let long = c.text_len-len.type_inv in
    omega (arith, next-index s.folds (length s.text) is.joined is.all c.args.change c.cut_at-front.result c.cut_at-back.result ca cb c.requires.order j e, c.text_len-len.ensures.value, long)

pub overflow_sub-result : goal.overflow_sub-result
overflow_sub-result g c =
    let s = c.args.self.now in
    let is = c.text_len-len.ensures.lawful in
    let ca = c.cut_at-front.ensures.cut is.joined is.all in
    let cb = c.cut_at-back.ensures.cut is.joined is.all in
    let ends = end-offset s.folds (length s.text) is.joined is.all c.args.change c.cut_at-front.result c.cut_at-back.result ca cb c.requires.order c.requires.within in
    omega (arith, ends.0, ap (λ (m : MetEnd). m.offset) c.end_met-end.ensures)

pub overflow_add-result : goal.overflow_add-result
overflow_add-result g c =
    let s = c.args.self.now in
    let is = c.text_len-len.ensures.lawful in
    let ca = c.cut_at-front.ensures.cut is.joined is.all in
    let cb = c.cut_at-back.ensures.cut is.joined is.all in
    let ends = end-offset s.folds (length s.text) is.joined is.all c.args.change c.cut_at-front.result c.cut_at-back.result ca cb c.requires.order c.requires.within in
    omega (arith, ends.0, ends.1, ap (λ (m : MetEnd). m.offset) c.end_met-end.ensures, c.requires.reaches)

pub returns-clause-met : goal.returns-clause-met
returns-clause-met g c js all =
    let s = c.args.self.now in
    let ca = c.cut_at-front.ensures.cut js all in
    let cb = c.cut_at-back.ensures.cut js all in
    let ch = c.args.change in
    subst (λ (m : Met). IsMetBy js ch m)
    (λ i. record {
      first = c.cut_at-front.result.index;
      last = (sym c.end_met-end.ensures i).index;
      base = c.cut_at-front.result.base;
      window = record { from = sym c.start_met.ensures i; start = ch.start; end = ch.last; to = moved_on ch.end ch.last (sym c.end_met-end.ensures i).offset };
    })
    (met-found s.folds (length s.text) js all ch c.cut_at-front.result c.cut_at-back.result ca cb c.requires.order)

pub returns-clause-steps : goal.returns-clause-steps
returns-clause-steps g c h lt = omega (arith, c.cut_at-front.ensures.steps h lt, c.cut_at-back.ensures.steps h lt)
