-- A skipped line changes nothing, and any other is handled.
use Rattle.std.proofs.Common.{◌≡◌, ◌∙◌, false, length, Ok, sym, ap, subst, arith}
use Rattle.split_script.specs.Lines.{SplitLine, line_of, split_line}
use Rattle.split_runner.specs.Going.{Handles, IsOfViews, stage}
use Rattle.split_runner.proofs.LineHandled.{line-skipped, of-views}
use Rattle.split_runner.proofs.runner.Runner.run_line.Goals as goal

pub split_line-requires : goal.split_line-requires
split_line-requires g c = let few = c.of_one_text.ensures.few in omega (arith, few, c.views.ensures)

pub handle_line-requires-clause-there : goal.handle_line-requires-clause-there
handle_line-requires-clause-there g c =
    let views = length c.args.self.now.split in
    let is : line_of c.split_line.result ≡ split_line views c.args.line.now =
    c.split_line.ensures ∙ ap (λ n. split_line n c.args.line.now) c.views.ensures in
    subst (IsOfViews views) (sym is) (of-views views c.args.line.now)

pub returns-in-Skipped-clause-handled : goal.returns-in-Skipped-clause-handled
returns-in-Skipped-clause-handled g c =
    let old = stage g.K.Sink.state c.args.self.now in
    let H : SplitLine → Type 0 = λ l. Handles c.args.number l old old (Ok false) in
    let is : line_of c.split_line.result ≡ split_line (length c.args.self.now.split) c.args.line.now =
    c.split_line.ensures ∙ ap (λ n. split_line n c.args.line.now) c.views.ensures in
    subst H (sym (ap line_of c.in-Skipped.is) ∙ is) (line-skipped c.args.number old.histories old.undo old.sink)

pub returns-in_default-clause-handled : goal.returns-in_default-clause-handled
returns-in_default-clause-handled g c =
    let H : SplitLine → Type 0 = λ l. Handles c.args.number l (stage g.K.Sink.state c.args.self.now) (stage g.K.Sink.state c.handle_line.new.self) c.handle_line.result in
    let is : line_of c.split_line.result ≡ split_line (length c.args.self.now.split) c.args.line.now =
    c.split_line.ensures ∙ ap (λ n. split_line n c.args.line.now) c.views.ensures in
    subst H is c.handle_line.ensures.handled
