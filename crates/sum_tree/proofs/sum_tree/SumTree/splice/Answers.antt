use Rattle.std.proofs.Common.{◌≡◌, ◌≤◌, ◌++◌, ◌∙◌, sym, arith, take, drop, length, ap}
use Rattle.std.proofs.lemmas.List.{length-drop}
use Rattle.sum_core.proofs.Children.{fits-left}
use Rattle.sum_tree.proofs.sum_tree.SumTree.splice.Goals as goal

pub concat-requires-clause-fits : goal.concat-requires-clause-fits
concat-requires-clause-fits g c =
    let m = g.T.Sum.Summary in
    let front : c.split_off.new.self ≡ take c.args.from c.args.self.now = c.in_ok-back.ensures.ok ∙ ap (take c.args.from) c.in_ok-front.ensures in
    let parts : (take c.args.from c.args.self.now ++ c.args.middle) ++ drop c.args.to c.args.self.now ≡ (c.split_off.new.self ++ c.args.middle) ++ drop c.args.to c.args.self.now =
    ap (λ l. (l ++ c.args.middle) ++ drop c.args.to c.args.self.now) (sym front) in
    fits-left m.empty m.joined m.fits g.T.Item.summary g.met.T.Sum.Summary.laws _ (c.split_off.new.self ++ c.args.middle) (drop c.args.to c.args.self.now) parts c.requires.fits

pub returns-in_err-back-2-clause-steps : goal.returns-in_err-back-2-clause-steps
returns-in_err-back-2-clause-steps g c h few =
    let same : length c.in_ok-front.front ≡ length c.args.self.now = ap length c.in_ok-front.ensures in
    let one = c.in_ok-back.ensures.steps h (omega (arith, few, same)) in
    let shorter : length c.in_ok-back.back ≤ length c.args.self.now = omega (arith, ap length c.in_ok-back.ensures.tail, length-drop c.args.from c.in_ok-front.front, same) in
    let two = c.in_err-back-2.ensures.steps h (omega (arith, few, shorter)) in
    omega (arith, one, two)

pub returns-in_err-back-clause-steps : goal.returns-in_err-back-clause-steps
returns-in_err-back-clause-steps g c h few =
    let same : length c.in_ok-front.front ≡ length c.args.self.now = ap length c.in_ok-front.ensures in
    let one = c.in_err-back.ensures.steps h (omega (arith, few, same)) in
    omega (arith, one)

pub returns-in_err-concat-clause-steps : goal.returns-in_err-concat-clause-steps
returns-in_err-concat-clause-steps g c h few =
    let same : length c.in_ok-front.front ≡ length c.args.self.now = ap length c.in_ok-front.ensures in
    let one = c.in_ok-back.ensures.steps h (omega (arith, few, same)) in
    let shorter : length c.in_ok-back.back ≤ length c.args.self.now = omega (arith, ap length c.in_ok-back.ensures.tail, length-drop c.args.from c.in_ok-front.front, same) in
    let two = c.in_ok-back-2.ensures.steps h (omega (arith, few, shorter)) in
    let three = c.in_err-concat.ensures.steps in
    omega (arith, one, two, three)

pub returns-in_err-concat-2-clause-steps : goal.returns-in_err-concat-2-clause-steps
returns-in_err-concat-2-clause-steps g c h few =
    let same : length c.in_ok-front.front ≡ length c.args.self.now = ap length c.in_ok-front.ensures in
    let one = c.in_ok-back.ensures.steps h (omega (arith, few, same)) in
    let shorter : length c.in_ok-back.back ≤ length c.args.self.now = omega (arith, ap length c.in_ok-back.ensures.tail, length-drop c.args.from c.in_ok-front.front, same) in
    let two = c.in_ok-back-2.ensures.steps h (omega (arith, few, shorter)) in
    let three = c.in_ok-concat.ensures.steps in
    let four = c.in_err-concat-2.ensures.steps in
    omega (arith, one, two, three, four)

pub returns-clause-steps : goal.returns-clause-steps
returns-clause-steps g c h few =
    let same : length c.in_ok-front.front ≡ length c.args.self.now = ap length c.in_ok-front.ensures in
    let one = c.in_ok-back.ensures.steps h (omega (arith, few, same)) in
    let shorter : length c.in_ok-back.back ≤ length c.args.self.now = omega (arith, ap length c.in_ok-back.ensures.tail, length-drop c.args.from c.in_ok-front.front, same) in
    let two = c.in_ok-back-2.ensures.steps h (omega (arith, few, shorter)) in
    let three = c.in_ok-concat.ensures.steps in
    let four = c.in_ok-concat-2.ensures.steps in
    omega (arith, one, two, three, four)
