use Rattle.std.proofs.Common.{◌++◌, ◌∷◌, [], ℕ, List, length, ap, sym, ◌∙◌, arith, append_assoc, length-append}
use Rattle.std.proofs.lemmas.Iterator.Adapters.{YieldsList-from_vec}
use Rattle.std.proofs.lemmas.Iterator.Consumers.{YieldsList-end}
use Rattle.std.proofs.lemmas.List.{map-id}
use Rattle.plain_rows.specs.ShownRows.{letter_of}
use Rattle.display_sheet.specs.Windows.{kind_and_more, shown_pairs}
use Rattle.display_sheet.proofs.Windows.{Pairs, after, after-push, kind-push, shown-push}
use Rattle.display_sheet.proofs.window.Window.keep.Goals as goal

pub loop-text-preserved : goal.loop-text-preserved
loop-text-preserved c =
    let i = c.loop-text.invariant in
    let old = shown_pairs c.args.self.now.rows.items in
    let kind = letter_of c.args.kind in
    let before = c.loop-text.yielded in
    let text = c.in-Some.text in
    record {
      kept =
          ap shown_pairs c.in_ok-push.ensures.items
          ∙ shown-push c.loop-text.self.rows.items (record { kind = c.loop-text.kind; text = text })
          ∙ (λ k. i.kept k ++ (i.kind k, text) ∷ [])
          ∙ append_assoc old (kind_and_more kind before) ((after kind before, text) ∷ [])
          ∙ ap (λ (l : Pairs). old ++ l) (sym (kind-push kind before text));
      skip = i.skip;
      left = omega (arith, i.left, length-append before (text ∷ []), c.saturating_sub-self.ensures);
      kind = sym (after-push kind before text);
    }

pub returns-clause-kept : goal.returns-clause-kept
returns-clause-kept c =
    let given = c.into_iter-text-iterator.ensures.into_iter_gives in
    let texts = c.args.texts.items in
    let all = YieldsList-end (YieldsList-from_vec {s = c.into_iter-text-iterator.result} texts given.0 (omega arith)) c.loop-text.yielded c.loop-text.text-iterator c.loop-text.yielded_by c.next.result c.next.new.self c.in-None.is c.next.ensures.steps in
    c.loop-text.invariant.kept ∙ ap (λ (l : List (List ℕ)). shown_pairs c.args.self.now.rows.items ++ kind_and_more (letter_of c.args.kind) l) (sym (map-id c.loop-text.yielded) ∙ all.0)

pub returns-clause-left : goal.returns-clause-left
returns-clause-left c =
    let given = c.into_iter-text-iterator.ensures.into_iter_gives in
    let texts = c.args.texts.items in
    let all = YieldsList-end (YieldsList-from_vec {s = c.into_iter-text-iterator.result} texts given.0 (omega arith)) c.loop-text.yielded c.loop-text.text-iterator c.loop-text.yielded_by c.next.result c.next.new.self c.in-None.is c.next.ensures.steps in
    omega (arith, c.loop-text.invariant.left, ap length (sym (map-id c.loop-text.yielded) ∙ all.0))
