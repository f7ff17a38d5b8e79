use Rattle.std.proofs.Common.{List, ap, sym, subst, ◌∙◌}
use Rattle.plain_rows.specs.declared.folded_lines.Part.{Part}
use Rattle.plain_rows.specs.declared.folded_lines.Part.TheVariants.{Placeholder}
use Rattle.plain_rows.specs.FoldedLines.{before_all, is_buffer, seen}
use Rattle.plain_rows.specs.inside.Laying.{IsHidden, last_of}
use Rattle.plain_rows.proofs.LaidParts.{last-push}
use Rattle.plain_rows.proofs.LaidSteps.{from-on, laid-behind, laid-hidden, laid-placeholder, stands, stands-not}
use Rattle.plain_rows.proofs.laying.push_placeholder.Goals as goal

pub hidden-init : goal.hidden-init
hidden-init c =
    let s = seen c.args.source.now in
    subst (λ (ps : List Part). IsHidden s c.args.next c.args.joined.start c.args.joined.end ps) (sym c.in_ok-push.ensures.items)
    (laid-placeholder s c.requires.lawful c.args.next c.args.parts.now.items c.args.joined c.requires.laid c.requires.past c.requires.joined)

pub hidden-preserved : goal.hidden-preserved
hidden-preserved c =
    let s = seen c.args.source.now in
    let there = stands s c.requires.lawful c.hidden.next c.args.joined.end (sym c.hidden-test.ensures) in
    laid-hidden s c.requires.lawful c.hidden.next c.push.new.self.items c.args.joined c.hidden.invariant c.requires.joined there.0 there.1

pub returns-clause-laid : goal.returns-clause-laid
returns-clause-laid c =
    let s = seen c.args.source.now in
    let past = stands-not s c.requires.lawful c.hidden.next c.args.joined.end (sym c.hidden-test.ensures) in
    laid-behind s c.requires.lawful c.hidden.next c.push.new.self.items c.args.joined c.hidden.invariant (from-on s c.requires.lawful c.hidden.next c.args.joined.end past)

pub returns-clause-apart : goal.returns-clause-apart
returns-clause-apart c =
    ap (λ (ps : List Part). is_buffer (last_of ps)) c.in_ok-push.ensures.items
    ∙ ap is_buffer (last-push before_all c.args.parts.now.items (Placeholder c.args.joined.start c.args.joined.end))
