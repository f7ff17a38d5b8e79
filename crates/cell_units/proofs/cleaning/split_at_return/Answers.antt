use Rattle.std.proofs.Common.{◌≢◌, ℕ, Some, arith}
use Rattle.std.proofs.lemmas.List.Elements.{All-from_get_or}
use Rattle.std.proofs.lemmas.Str.Pattern.{NoCharPasses-char, split_parts, strip_prefix_char}
use Rattle.cell_units.specs.Text.{carriage_return}
use Rattle.cell_units.proofs.TextLaws.{clean-same}
use Rattle.cell_units.proofs.Returns.{split_feed, split_return}
use Rattle.cell_units.proofs.cleaning.split_at_return.Goals as goal

pub returns-in_err-line : goal.returns-in_err-line
returns-in_err-line c =
    let text = c.args.text.now in
    rw c.from_residual.ensures (clean-same text (All-from_get_or (λ (b : ℕ). b ≢ carriage_return) text 0 (λ i h. NoCharPasses-char 13 text i c.in_err-line.ensures.cases (omega arith) h)))

pub returns-in-Some : goal.returns-in-Some
returns-in-Some c =
    let line = c.in_ok-line.line in
    let behind = c.in_ok-line.behind in
    let parts = split_parts 13 c.args.text.now (Some (line, behind)) c.in_ok-line.ensures.cases (omega arith) in
    let strip = strip_prefix_char 10 behind.now (Some c.in-Some.rest) c.in-Some.ensures.cases (omega arith) in
    split_feed c.args.text.now line.now behind.now c.in-Some.rest.now parts.0 strip parts.1

pub returns-in-None : goal.returns-in-None
returns-in-None c =
    let line = c.in_ok-line.line in
    let behind = c.in_ok-line.behind in
    let parts = split_parts 13 c.args.text.now (Some (line, behind)) c.in_ok-line.ensures.cases (omega arith) in
    let strip = strip_prefix_char 10 behind.now c.strip_prefix.result c.strip_prefix.ensures.cases (omega arith) in
    split_return c.args.text.now line.now behind.now parts.0 (rw c.in-None.is at strip) parts.1
