use Rattle.std.proofs.Common.{◌+◌, ◌++◌, ◌∷◌, [], ap, sym, subst, ◌∙◌, arith}
use Rattle.plain_rows.specs.declared.folded_lines.Part.{Part}
use Rattle.plain_rows.specs.declared.folded_lines.Part.TheVariants.{Feed}
use Rattle.std.proofs.Common.{List, ◌<◌}
use Rattle.plain_rows.specs.FoldedLines.{is_buffer, seen}
use Rattle.plain_rows.specs.inside.Laying.{Lays, last_of}
use Rattle.plain_rows.proofs.LaidParts.{break-found, line-laid-feed, line-laid-whole}
use Rattle.plain_rows.proofs.laying.push_line.Goals as goal

pub overflow_cast-end : goal.overflow_cast-end
overflow_cast-end c =
    let f = break-found c.args.source.now.text.now c.as_bytes-bytes.result.now c.args.at c.args.to c.run_len.result c.run_len.ensures c.as_bytes-bytes.ensures.value c.requires.span in
    omega (arith, f.within, c.ranges.to)

pub overflow_add-end : goal.overflow_add-end
overflow_add-end c =
    let f = break-found c.args.source.now.text.now c.as_bytes-bytes.result.now c.args.at c.args.to c.run_len.result c.run_len.ensures c.as_bytes-bytes.ensures.value c.requires.span in
    omega (arith, f.within, c.ranges.to)

pub returns-then-end-to-clause-lays : goal.returns-then-end-to-clause-lays
returns-then-end-to-clause-lays c =
    let s = seen c.args.source.now in
    let f = break-found c.args.source.now.text.now c.as_bytes-bytes.result.now c.args.at c.args.to c.run_len.result c.run_len.ensures c.as_bytes-bytes.ensures.value c.requires.span in
    let laid = line-laid-whole s c.args.parts.now.items c.args.at c.args.to (c.args.at + c.run_len.result) c.requires.reaches c.requires.apart c.requires.span c.requires.span.ends.0 c.requires.some f c.if-end-to.true in
    subst (λ (new : List Part). Lays s c.args.parts.now.items new c.args.at c.args.to) (sym c.in_ok-push_run.ensures) laid.lays

pub overflow_add-result : goal.overflow_add-result
overflow_add-result c =
    let f = break-found c.args.source.now.text.now c.as_bytes-bytes.result.now c.args.at c.args.to c.run_len.result c.run_len.ensures c.as_bytes-bytes.ensures.value c.requires.span in
    omega (arith, f.within, c.ranges.to, c.if-end-to.false)

pub returns-clause-lays : goal.returns-clause-lays
returns-clause-lays c =
    let s = seen c.args.source.now in
    let f = break-found c.args.source.now.text.now c.as_bytes-bytes.result.now c.args.at c.args.to c.run_len.result c.run_len.ensures c.as_bytes-bytes.ensures.value c.requires.span in
    let lt : c.args.at + c.run_len.result < c.args.to = omega (arith, f.within, c.if-end-to.false) in
    let laid = line-laid-feed s c.args.parts.now.items c.args.at c.args.to (c.args.at + c.run_len.result) c.requires.lawful.text c.requires.reaches c.requires.apart c.requires.span c.requires.span.ends.0 f lt in
    let is = c.in_ok-push.ensures.items ∙ ap (λ (l : List Part). l ++ Feed (c.args.at + c.run_len.result) ∷ []) c.in_ok-push_run.ensures in
    subst (λ (new : List Part). Lays s c.args.parts.now.items new c.args.at (c.args.at + c.run_len.result + 1)) (sym is) laid.lays

pub returns-clause-span : goal.returns-clause-span
returns-clause-span c =
    let s = seen c.args.source.now in
    let f = break-found c.args.source.now.text.now c.as_bytes-bytes.result.now c.args.at c.args.to c.run_len.result c.run_len.ensures c.as_bytes-bytes.ensures.value c.requires.span in
    let lt : c.args.at + c.run_len.result < c.args.to = omega (arith, f.within, c.if-end-to.false) in
    let laid = line-laid-feed s c.args.parts.now.items c.args.at c.args.to (c.args.at + c.run_len.result) c.requires.lawful.text c.requires.reaches c.requires.apart c.requires.span c.requires.span.ends.0 f lt in
    (laid.further, laid.span)

pub returns-clause-apart : goal.returns-clause-apart
returns-clause-apart c =
    let s = seen c.args.source.now in
    let f = break-found c.args.source.now.text.now c.as_bytes-bytes.result.now c.args.at c.args.to c.run_len.result c.run_len.ensures c.as_bytes-bytes.ensures.value c.requires.span in
    let lt : c.args.at + c.run_len.result < c.args.to = omega (arith, f.within, c.if-end-to.false) in
    let laid = line-laid-feed s c.args.parts.now.items c.args.at c.args.to (c.args.at + c.run_len.result) c.requires.lawful.text c.requires.reaches c.requires.apart c.requires.span c.requires.span.ends.0 f lt in
    let is = c.in_ok-push.ensures.items ∙ ap (λ (l : List Part). l ++ Feed (c.args.at + c.run_len.result) ∷ []) c.in_ok-push_run.ensures in
    λ below. ap (λ (l : List Part). is_buffer (last_of l)) is ∙ laid.apart below
