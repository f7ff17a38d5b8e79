use Rattle.std.proofs.Common.{◌≡◌, ◌++◌, ◌≤◌, ℕ, List, length, take, drop, subst, ◌∙◌, arith}
use Rattle.std.specs.Result.{OnOk}
use Rattle.std.proofs.lemmas.List.{take_all}
use Rattle.cell_line.specs.Elements.{elements_of}
use Rattle.cell_line.specs.RowTexts.{row_texts_of}
use Rattle.plain_rows.specs.Plain.{row_pairs}
use Rattle.plain_rows.specs.Rows.{head_and_more}
use Rattle.plain_rows.proofs.RowCounts.{rows-size}
use Rattle.plain_rows.proofs.rows.push_texts.Goals as goal

pub returns : goal.returns
returns c =
    let es = elements_of c.args.pieces.now c.args.tab in
    let width : ℕ = c.args.width in
    let bounds = c.line_laws.ensures.bounds c.args.pieces.now c.args.tab c.requires.tab.1 in
    let short : length (row_texts_of es width) ≤ 4294967295 = omega (arith, rows-size es width, bounds.1, c.requires.size) in
    let whole : take 4294967295 (drop 0 (row_texts_of es width)) ≡ row_texts_of es width = take_all 4294967295 (row_texts_of es width) short in
    let all : c.in_ok-texts.texts.items ≡ row_texts_of es width = c.in_ok-texts.ensures ∙ whole in
    subst (λ (texts : List (List ℕ)). OnOk c.push_line.result (c.push_line.new.rows.items ≡ c.args.rows.now.items ++ row_pairs (head_and_more texts))) all c.push_line.ensures
