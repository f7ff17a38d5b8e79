use Rattle.std.proofs.Common.{◌++◌, ◌∷◌, [], ℕ, List, ap, sym, ◌∙◌, arith, append_assoc}
use Rattle.std.proofs.lemmas.Iterator.Adapters.{YieldsList-from_vec}
use Rattle.std.proofs.lemmas.Iterator.Consumers.{YieldsList-end}
use Rattle.std.proofs.lemmas.List.{map-id}
use Rattle.plain_rows.specs.Plain.{row_pairs}
use Rattle.plain_rows.specs.Rows.{head_and_more}
use Rattle.plain_rows.proofs.BuiltRows.{Pairs, kind-more, kind_after, pairs-more}
use Rattle.plain_rows.proofs.rows.push_line.Goals as goal

pub loop-text-preserved : goal.loop-text-preserved
loop-text-preserved c =
    let i = c.loop-text.invariant in
    let old = c.args.rows.now.items in
    let before = c.loop-text.yielded in
    record {
      rows =
          c.in_ok-push.ensures.items
          ∙ (λ k. i.rows k ++ (i.kind k, c.in-Some.text) ∷ [])
          ∙ append_assoc old (row_pairs (head_and_more before)) ((kind_after before, c.in-Some.text) ∷ [])
          ∙ ap (λ (l : Pairs). old ++ l) (sym (pairs-more before c.in-Some.text));
      kind = sym (kind-more before c.in-Some.text);
    }

pub returns : goal.returns
returns c =
    let i = c.loop-text.invariant in
    let given = c.into_iter-text-iterator.ensures.into_iter_gives in
    let texts = c.args.texts.items in
    let all = YieldsList-end (YieldsList-from_vec {s = c.into_iter-text-iterator.result} texts given.0 (omega arith)) c.loop-text.yielded c.loop-text.text-iterator c.loop-text.yielded_by c.next.result c.next.new.self c.in-None.is c.next.ensures.steps in
    i.rows ∙ ap (λ (l : List (List ℕ)). c.args.rows.now.items ++ row_pairs (head_and_more l)) (sym (map-id c.loop-text.yielded) ∙ all.0)
