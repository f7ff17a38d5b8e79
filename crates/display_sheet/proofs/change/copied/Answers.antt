use Rattle.std.proofs.Common.{◌≡◌, ℕ, [], ◌∷◌, ◌++◌, get_or, sym, subst, ◌∙◌, arith}
use Rattle.std.specs.List.{All}
use Rattle.std.specs.Str.{IsUtf8}
use Rattle.std.proofs.lemmas.List.{take_more}
use Rattle.std.proofs.lemmas.List.Elements.{All-append}
use Rattle.cell_units.proofs.FoundEntries.{All-from_Every}
use Rattle.display_sheet.proofs.change.copied.Goals as goal

pub loop-text-preserved : goal.loop-text-preserved
loop-text-preserved c =
    let texts = c.args.texts.now in
    let k : ℕ = c.loop-text.text-index in
    let d = c.text-item.result in
    let text = c.in_ok-from_str.field-0 in
    let is : text ≡ get_or texts k d = c.in_ok-from_str.ensures ∙ c.as_str.ensures ∙ c.text-item.is in
    let utf8 : IsUtf8 text = subst IsUtf8 (sym c.in_ok-from_str.ensures) c.as_str.utf8 in
    let pushed : c.push.new.self.items ≡ c.loop-text.copy.items ++ text ∷ [] = c.in_ok-push.ensures.items in
    record {
      copied = pushed ∙ (λ i. c.loop-text.invariant.copied i ++ is i ∷ []) ∙ sym (take_more texts k d (omega (arith, c.loop-text-test.true)));
      utf8 =
          subst (All IsUtf8) (sym pushed)
          (All-append IsUtf8 c.loop-text.copy.items (text ∷ []) c.loop-text.invariant.utf8 (All-from_Every IsUtf8 (text ∷ []) (utf8, tt)));
    }
