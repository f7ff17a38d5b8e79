use Rattle.std.proofs.Common.{◌≡◌, ℕ, List, length, get_or, ap, sym, subst, ◌∙◌, arith}
use Rattle.std.specs.Str.{IsCharBoundary}
use Rattle.std.proofs.lemmas.Str.{IsCharBoundary-start}
use Rattle.plain_rows.specs.declared.folded_lines.Joined.{Joined}
use Rattle.plain_rows.specs.declared.folded_lines.Part.{Part}
use Rattle.plain_rows.specs.FoldedLines.{AreShown, is_buffer, seen}
use Rattle.plain_rows.specs.inside.Laying.{IsFree, IsLaid, last_of}
use Rattle.plain_rows.proofs.JoinedFolds.{end_before}
use Rattle.plain_rows.proofs.LaidSteps.{free-before, free-last, laid-all, laid-none, range-ends, range-folds}
use Rattle.plain_rows.proofs.RangesApart.{end_before-more, end_before-none}
use Rattle.plain_rows.proofs.laying.lay_out.Goals as goal

abbrev none : Joined
none = record { start = 0; end = 0 }

pub loop-fold-init : goal.loop-fold-init
loop-fold-init c =
    let s = seen c.args.source.now in
    record {
      laid = subst (IsLaid s 0 0) (sym c.new-parts.ensures.items) (laid-none s c.requires.lawful);
      apart = ap (λ (ps : List Part). is_buffer (last_of ps)) c.new-parts.ensures.items;
      at_end = sym (end_before-none 0 c.args.joined.now);
      boundary = IsCharBoundary-start s.text c.requires.lawful.text.0;
    }

pub push_stretch-requires-clause-free : goal.push_stretch-requires-clause-free
push_stretch-requires-clause-free c =
    let s = seen c.args.source.now in
    let js = c.args.joined.now in
    let k : ℕ = c.loop-fold.fold-index in
    let i = c.loop-fold.invariant in
    let boundary = subst (IsCharBoundary s.text) i.at_end i.boundary in
    subst (λ (at : ℕ). IsFree s at (get_or js k none).start) (sym i.at_end) (free-before s c.requires.lawful js c.requires.joins k none c.loop-fold-test.true boundary)

pub push_placeholder-requires-clause-joined : goal.push_placeholder-requires-clause-joined
push_placeholder-requires-clause-joined c =
    range-folds (seen c.args.source.now) c.requires.lawful c.args.joined.now c.requires.joins c.loop-fold.fold-index none c.loop-fold-test.true

pub loop-fold-preserved : goal.loop-fold-preserved
loop-fold-preserved c =
    let s = seen c.args.source.now in
    let js = c.args.joined.now in
    let k : ℕ = c.loop-fold.fold-index in
    let i = c.loop-fold.invariant in
    record {
      laid = c.in_ok-next-2.ensures.laid;
      apart = c.in_ok-next-2.ensures.apart;
      at_end = sym (end_before-more 0 js k none c.loop-fold-test.true);
      boundary = range-ends s c.requires.lawful js c.requires.joins k none c.loop-fold-test.true;
    }

pub push_stretch-requires-2-clause-free : goal.push_stretch-requires-2-clause-free
push_stretch-requires-2-clause-free c =
    let s = seen c.args.source.now in
    let js = c.args.joined.now in
    let k : ℕ = c.loop-fold.fold-index in
    let i = c.loop-fold.invariant in
    let last : k ≡ length js = omega (arith, c.loop-fold-test.false, c.loop-fold.auto) in
    let at : c.loop-fold.at ≡ end_before 0 js (length js) = i.at_end ∙ ap (end_before 0 js) last in
    subst (λ (o : ℕ). IsFree s o (length s.text)) (sym at) (free-last s c.requires.lawful js c.requires.joins (subst (IsCharBoundary s.text) at i.boundary))

pub returns : goal.returns
returns c =
    let s = seen c.args.source.now in
    subst (AreShown s) (sym c.in_ok-push.ensures.items)
    (laid-all s c.requires.lawful c.in_ok-push_stretch.field-0 c.push_stretch-2.new.parts.items c.in_ok-push_stretch.ensures.laid c.in_ok-push_stretch.ensures.past)
