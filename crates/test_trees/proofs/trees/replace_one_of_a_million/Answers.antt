use Rattle.std.proofs.Common.{◌≡◌, ℕ, ◌+◌, ◌≤◌, List, ◌++◌, take, drop, arith, length, length-append}
use Rattle.std.proofs.lemmas.List.{length-take, length-drop}
use Rattle.test_trees.proofs.trees.replace_one_of_a_million.Goals as goal

replaced : {X : Type 0} (xs ys : List X) (at : ℕ) → length xs ≡ 1000000 → at + 1 ≤ 1000000 → length ys ≡ 1 → length ((take at xs ++ ys) ++ drop (at + 1) xs) ≡ 1000000
replaced xs ys at n le one = omega (arith, length-append (take at xs ++ ys) (drop (at + 1) xs), length-append (take at xs) ys, length-take at xs, length-drop (at + 1) xs)

pub replace-requires-clause-small : goal.replace-requires-clause-small
replace-requires-clause-small c = omega (arith, replaced c.args.tree.now c.args.items.items c.args.at c.requires.million c.requires.at c.requires.one)

pub returns : goal.returns
returns c =
    let new = replaced c.args.tree.now c.args.items.items c.args.at c.requires.million c.requires.at c.requires.one in
    omega (arith, c.replace.ensures.steps 7 (omega (arith, c.requires.million)) (omega (arith, new)), c.requires.one)
