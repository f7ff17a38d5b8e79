-- The one line that is written is the summary's.
use Rattle.std.proofs.Common.{◌≡◌, ℕ, List, [], ◌∷◌, ◌++◌, sym, ap, ◌∙◌, subst}
use Rattle.std.specs.Prelude.{IfErr}
use Rattle.std.proofs.lemmas.List.{append-nil}
use Rattle.cell_units.specs.Text.{line_feed}
use Rattle.display_map.specs.Replay.{present_of}
use Rattle.script_runner.specs.Output.{printed, summary_at, summary_line}
use Rattle.script_runner.specs.Writing.{IsUnwritten}
use Rattle.script_runner.proofs.summary.write_summary.Goals as goal

pub returns-clause-stopped : goal.returns-clause-stopped
returns-clause-stopped g c =
    let line : List ℕ = summary_line (summary_at (present_of c.args.display.now) c.args.tally) in
    let is : c.as_str.result.now ≡ line = c.as_str.ensures ∙ (c.in_ok-line.ensures ∙ ap summary_line c.in_ok-summary.ensures) in
    let all : c.as_str.result.now ++ line_feed ∷ [] ≡ printed (line ∷ []) =
    ap (λ l. l ++ line_feed ∷ []) is ∙ sym (append-nil (line ++ line_feed ∷ [])) in
    let P : List ℕ → Type 0 = λ bytes. IfErr c.write_line.result
    (IsUnwritten bytes (g.K.Sink.state c.args.out.now) (g.K.Sink.state c.write_line.new.out)) in
    subst P all c.write_line.ensures.stopped
