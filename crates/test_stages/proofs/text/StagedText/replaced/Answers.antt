use Rattle.std.proofs.Common.{◌≡◌, ◌∙◌, List, ℕ, length, ap, sym, subst, arith, Some}
use Rattle.cell_units.specs.Layers.{Source, plain_source}
use Rattle.cell_units.specs.Text.{clean}
use Rattle.tab_map.specs.TabLines.{AreMet, lines_at}
use Rattle.wrapped_lines.specs.Changed.{IsRewrapped}
use Rattle.wrapped_lines.specs.WrappedSource.{HaveRoom}
use Rattle.test_stages.proofs.Texts.{count-told, met-lines, replaced-follow, text-room}
use Rattle.test_stages.proofs.text.StagedText.replaced.Goals as goal
use Rattle.test_stages.proofs.text.StagedText.replaced.Goals.{In_ok-share}

-- the count from the lengths is that of what was put in
count : (c : In_ok-share) → c.new-bytes.result.count ≡ length (clean c.args.put.now)
count c =
    let made = c.in_ok-rope.ensures.cases in
    count-told c.args.self.now.rope c.in_ok-rope.rope (clean c.args.put.now) c.args.start c.args.end c.len.result c.len-2.result c.new-bytes.result.count
    made.range made.text c.len.ensures.value c.len-2.ensures.value c.new-bytes.ensures.count

pub after-requires-clause-follow : goal.after-requires-clause-follow
after-requires-clause-follow c κs =
    let made = c.in_ok-rope.ensures.cases in
    let bytes = c.new-bytes.ensures in
    replaced-follow c.args.self.now.rope c.in_ok-share.field-0 (clean c.args.put.now) c.args.start c.args.end c.new-bytes.result
    c.args.self.now.lines.source c.args.self.now.of_text made.range (c.in_ok-share.ensures ∙ made.text) bytes.start bytes.end
    (count (goal.at.after-requires-clause-follow c).In_ok-share)

pub after-requires-clause-room : goal.after-requires-clause-room
after-requires-clause-room c κs =
    let text = c.in_ok-share.field-0 in
    subst (λ (tab : ℕ). HaveRoom (lines_at (plain_source text) tab)) (sym c.args.self.now.tab)
    (text-room text (omega (arith, ap (λ (t : List ℕ). length t) c.in_ok-share.ensures, c.len-2.ensures.value, c.len-2.ensures.within)))

pub returns-clause-replaced : goal.returns-clause-replaced
returns-clause-replaced c =
    let made = c.in_ok-rope.ensures.cases in
    let bytes = c.new-bytes.ensures in
    let s = (goal.at.returns-clause-replaced c).In_ok-share in
    let old = c.args.self.now in
    let source : plain_source c.in_ok-share.field-0 ≡ plain_source c.in_ok-rope.rope = ap plain_source c.in_ok-share.ensures in
    record {
      range = made.range;
      small = made.small;
      text = made.text;
      bytes_are = λ i. record { start = bytes.start i; end = bytes.end i; count = count s i };
      met = met-lines old.rope c.in_ok-rope.rope (clean c.args.put.now) c.args.start c.args.end c.new-bytes.result c.in_ok-made.made.run
          old.lines.source old.of_text bytes.start bytes.end (count s)
          (subst (λ (o : Source). AreMet old.lines.source o (Some c.new-bytes.result) (Some c.in_ok-made.made.run)) source c.in_ok-made.ensures.met);
      rewrapped = subst (λ (tab : ℕ). IsRewrapped old.lines (plain_source c.in_ok-rope.rope) tab c.in_ok-made.made.lines c.in_ok-made.made.run c.in_ok-made.made.rows)
          old.tab
          (subst (λ (o : Source). IsRewrapped old.lines o old.lines.tab c.in_ok-made.made.lines c.in_ok-made.made.run c.in_ok-made.made.rows) source
          c.in_ok-made.ensures.rewrapped);
    }
