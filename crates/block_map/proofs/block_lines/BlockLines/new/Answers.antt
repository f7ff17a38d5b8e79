use Rattle.std.proofs.Common.{◌≡◌, ℕ, [], ◌∷◌, ◌++◌, get_or, ap, sym, subst, ◌∙◌, arith}
use Rattle.std.specs.List.{All}
use Rattle.std.specs.Str.{IsUtf8}
use Rattle.std.proofs.lemmas.List.{take_more}
use Rattle.std.proofs.lemmas.List.Elements.{All-append}
use Rattle.cell_units.proofs.FoundEntries.{All-from_Every}
use Rattle.block_map.proofs.block_lines.BlockLines.new.Goals as goal

pub loop-line-preserved : goal.loop-line-preserved
loop-line-preserved c =
    let lines = c.args.lines.now in
    let k : ℕ = c.loop-line.line-index in
    let d = c.line-item.result in
    let line = c.in_ok-from_str.field-0 in
    let is : line ≡ get_or lines k d = c.in_ok-from_str.ensures ∙ c.as_str.ensures ∙ c.line-item.is in
    let utf8 : IsUtf8 line = subst IsUtf8 (sym c.in_ok-from_str.ensures) c.as_str.utf8 in
    let pushed : c.push.new.self.items ≡ c.loop-line.copied.items ++ line ∷ [] = c.in_ok-push.ensures.items in
    record {
      copied = pushed ∙ (λ i. c.loop-line.invariant.copied i ++ is i ∷ []) ∙ sym (take_more lines k d (omega (arith, c.loop-line-test.true)));
      utf8 =
          subst (All IsUtf8) (sym pushed)
          (All-append IsUtf8 c.loop-line.copied.items (line ∷ []) c.loop-line.invariant.utf8 (All-from_Every IsUtf8 (line ∷ []) (utf8, tt)));
    }

pub returns-clause-utf8 : goal.returns-clause-utf8
returns-clause-utf8 c =
    let same : c.in_ok-new.field-0.value.items ≡ c.loop-line.copied.items = ap (λ v. v.items) c.in_ok-new.ensures.ok in
    subst (All IsUtf8) (sym same) c.loop-line.invariant.utf8
