use Rattle.std.proofs.Common.{◌+◌, ◌<◌, ℕ, length, ap, sym, subst, arith}
use Rattle.cell_units.specs.Record.{Inlay}
use Rattle.plain_rows.specs.FoldedLines.{inlay_at, seen}
use Rattle.plain_rows.specs.inside.Laying.{IsFree, IsLaid, IsSpan, Lays}
use Rattle.plain_rows.proofs.LaidSteps.{free-within, from-on, inlay_at-read, laid-inlay, laid-text, length-inlays, past-on, stands, stands-not}
use Rattle.plain_rows.proofs.laying.push_stretch.Goals as goal

pub push_text-requires-clause-span : goal.push_text-requires-clause-span
push_text-requires-clause-span c =
    let src = c.args.source.now in
    let s = seen src in
    let n : ℕ = c.inlays.next in
    let there = stands s c.requires.lawful n (c.args.to + 1) (sym c.inlays-test.ensures) in
    let lt : n < length src.inlays.now = omega (arith, there.0, length-inlays src.text.now src.inlays.now src.folds.now) in
    let same = ap (λ (i : Inlay). i.offset) (inlay_at-read src.text.now src.inlays.now src.folds.now n c.index-source-next.result lt) in
    let i = c.inlays.invariant in
    let free = free-within s c.requires.lawful c.inlays.at c.args.to n there.0 i.free (i.laid.behind n (omega arith) there.0) (omega (arith, there.1)) in
    subst (IsSpan s.text c.inlays.at) same free.0.span

pub inlays-preserved : goal.inlays-preserved
inlays-preserved c =
    let src = c.args.source.now in
    let s = seen src in
    let n : ℕ = c.inlays.next in
    let there = stands s c.requires.lawful n (c.args.to + 1) (sym c.inlays-test.ensures) in
    let lt : n < length src.inlays.now = omega (arith, there.0, length-inlays src.text.now src.inlays.now src.folds.now) in
    let same = ap (λ (i : Inlay). i.offset) (inlay_at-read src.text.now src.inlays.now src.folds.now n c.index-source-next.result lt) in
    let i = c.inlays.invariant in
    let o : ℕ = (inlay_at s n).offset in
    let free = free-within s c.requires.lawful c.inlays.at c.args.to n there.0 i.free (i.laid.behind n (omega arith) there.0) (omega (arith, there.1)) in
    let lays : Lays s c.inlays.parts.items c.push_text.new.parts.items c.inlays.at o =
    subst (Lays s c.inlays.parts.items c.push_text.new.parts.items c.inlays.at) (sym same) c.in_ok-push_text.ensures in
    let text = laid-text s c.requires.lawful n c.inlays.at o c.inlays.parts.items c.push_text.new.parts.items i.laid lays free.0 (from-on s c.requires.lawful n o (λ _. omega arith)) in
    let inlay = c.in_ok-push_inlay.ensures in
    let laid = laid-inlay s c.requires.lawful n c.push_text.new.parts.items c.push_inlay.new.parts.items there.0 text inlay.reaches inlay.shows inlay.inlays in
    record {
      laid = subst (λ (at : ℕ). IsLaid s (n + 1) at c.push_inlay.new.parts.items) same laid;
      apart = inlay.apart;
      free = subst (λ (at : ℕ). IsFree s at c.args.to) same free.1;
    }

pub returns-clause-laid : goal.returns-clause-laid
returns-clause-laid c =
    let s = seen c.args.source.now in
    let n : ℕ = c.inlays.next in
    let i = c.inlays.invariant in
    let past = stands-not s c.requires.lawful n (c.args.to + 1) (sym c.inlays-test.ensures) in
    laid-text s c.requires.lawful n c.inlays.at c.args.to c.inlays.parts.items c.push_text-2.new.parts.items i.laid c.in_ok-push_text-2.ensures i.free
    (from-on s c.requires.lawful n c.args.to (λ lt. omega (arith, past lt)))

pub returns-clause-past : goal.returns-clause-past
returns-clause-past c =
    let s = seen c.args.source.now in
    let past = stands-not s c.requires.lawful c.inlays.next (c.args.to + 1) (sym c.inlays-test.ensures) in
    past-on s c.requires.lawful c.inlays.next c.args.to (λ lt. omega (arith, past lt))
