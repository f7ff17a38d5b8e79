use Rattle.std.proofs.Common.{◌≡◌, ◌++◌, [], map, drop, sym, subst, ap, ◌∙◌, arith}
use Rattle.std.proofs.lemmas.List.{drop_all}
use Rattle.plain_rows.specs.FoldedLines.{Joins}
use Rattle.plain_rows.specs.Plain.{fold_of}
use Rattle.plain_rows.proofs.JoinedFolds.{joined_from, joins-from_first}
use Rattle.plain_rows.proofs.joining.joined_folds.Goals as goal

pub returns : goal.returns
returns c =
    let folds = c.args.folds.now in
    let first = c.in-Some.first.now in
    let none : drop c.loop-fold.fold-index folds ≡ [] = drop_all c.loop-fold.fold-index folds (omega arith) in
    let all : c.push-2.new.self.items ≡ joined_from first.start first.end folds =
    c.in_ok-push-2.ensures.items
    ∙ ap (λ fs. c.loop-fold.joined.items ++ joined_from c.loop-fold.start c.loop-fold.end fs) (sym none)
    ∙ c.loop-fold.invariant in
    subst (Joins (map fold_of folds)) (sym all) (joins-from_first first folds c.in-Some.ensures.value c.requires.in_order c.requires.none_empty)
