use Rattle.std.proofs.Common.{ℕ, [], ◌∷◌, get_or, take, sym, subst, ◌∙◌, arith}
use Rattle.std.specs.List.{All}
use Rattle.std.specs.Str.{IsUtf8}
use Rattle.std.proofs.lemmas.List.{take_all, take_more}
use Rattle.std.proofs.lemmas.List.Elements.{All-append}
use Rattle.cell_units.proofs.FoundEntries.{All-from_Every}
use Rattle.map_sheet.proofs.changes.are_texts.Goals as goal

pub loop-line-preserved : goal.loop-line-preserved
loop-line-preserved c =
    let lines = c.args.lines.now in
    let k : ℕ = c.loop-line.line-index in
    let d = c.line-item.result in
    let utf8 : IsUtf8 (get_or lines k d) = subst IsUtf8 (c.as_str-text.ensures ∙ c.line-item.is) c.as_str-text.utf8 in
    subst (All IsUtf8) (sym (take_more lines k d (omega (arith, c.loop-line-test.true))))
    (All-append IsUtf8 (take k lines) (get_or lines k d ∷ []) c.loop-line.invariant (All-from_Every IsUtf8 (get_or lines k d ∷ []) (utf8, tt)))

pub returns : goal.returns
returns c = subst (All IsUtf8) (take_all c.loop-line.line-index c.args.lines.now (omega (arith, c.loop-line-test.false))) c.loop-line.invariant
