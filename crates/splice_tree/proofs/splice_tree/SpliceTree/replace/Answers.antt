use Rattle.std.proofs.Common.{◌≡◌, ◌+◌, ◌*◌, ◌^◌, ◌<◌, ◌≤◌, ◌++◌, ◌∙◌, OnOk, OnErr, ap, sym, subst, length, take, drop, append_assoc, arith, le_trans}
use Rattle.splice_tree.specs.Sides.{BothFit}
use Rattle.splice_tree.specs.Splices.{covered, replaced}
use Rattle.splice_tree.proofs.splice_tree.SpliceTree.replace.Goals as goal

pub replace-requires-clause-order : goal.replace-requires-clause-order
replace-requires-clause-order g c = omega (arith, c.requires.order, c.in_ok-refill.ensures.refill.order)

pub replace-requires-clause-within : goal.replace-requires-clause-within
replace-requires-clause-within g c =
    subst (λ l. c.in_ok-refill.refill.end ≤ length l) (sym c.self.view_is) c.in_ok-refill.ensures.refill.within

pub replace-requires-clause-fits : goal.replace-requires-clause-fits
replace-requires-clause-fits g c =
    let es = c.self.inside.splices in
    let r = c.in_ok-refill.refill in
    let made = take c.args.from es ++ r.splices.items ++ drop r.end es in
    let same : made ≡ replaced c.args.from c.args.to c.args.fresh.items c.args.gap c.args.self.now =
    append_assoc (take c.args.from es) r.splices.items (drop r.end es)
    ∙ ap (λ l. take c.args.from l ++ (r.splices.items ++ drop r.end l)) c.self.view_is
    ∙ ap (λ l. take c.args.from c.args.self.now ++ l) c.in_ok-refill.ensures.refill.same in
    subst (λ l. BothFit g.S.Summary.fits (covered g.S.Summary.empty g.S.Summary.joined l)) (sym same) c.requires.fits

pub replace-requires-clause-small : goal.replace-requires-clause-small
replace-requires-clause-small g c =
    let es = c.self.inside.splices in
    let r = c.in_ok-refill.refill in
    let made = take c.args.from es ++ r.splices.items ++ drop r.end es in
    let same : made ≡ replaced c.args.from c.args.to c.args.fresh.items c.args.gap c.args.self.now =
    append_assoc (take c.args.from es) r.splices.items (drop r.end es)
    ∙ ap (λ l. take c.args.from l ++ (r.splices.items ++ drop r.end l)) c.self.view_is
    ∙ ap (λ l. take c.args.from c.args.self.now ++ l) c.in_ok-refill.ensures.refill.same in
    subst (λ l. length l < 2 ^ 32) (sym same) c.requires.small

pub returns-in_err-refill-clause-steps : goal.returns-in_err-refill-clause-steps
returns-in_err-refill-clause-steps g c h few few' =
    let one = c.in_err-refill.ensures.steps h few in
    omega (arith, one)

pub returns-clause-ok : goal.returns-clause-ok
returns-clause-ok g c =
    let es = c.self.inside.splices in
    let r = c.in_ok-refill.refill in
    let made = take c.args.from es ++ r.splices.items ++ drop r.end es in
    let same : made ≡ replaced c.args.from c.args.to c.args.fresh.items c.args.gap c.args.self.now =
    append_assoc (take c.args.from es) r.splices.items (drop r.end es)
    ∙ ap (λ l. take c.args.from l ++ (r.splices.items ++ drop r.end l)) c.self.view_is
    ∙ ap (λ l. take c.args.from c.args.self.now ++ l) c.in_ok-refill.ensures.refill.same in
    subst (λ l. OnOk c.replace.result (c.replace.new.self ≡ l)) same c.replace.ensures.ok

pub returns-clause-unchanged : goal.returns-clause-unchanged
returns-clause-unchanged g c = subst (λ l. OnErr c.replace.result (c.replace.new.self ≡ l)) c.self.view_is c.replace.ensures.unchanged

pub returns-clause-counted : goal.returns-clause-counted
returns-clause-counted g c = le_trans c.in_ok-refill.ensures.counted c.replace.ensures.counted

pub returns-clause-steps : goal.returns-clause-steps
returns-clause-steps g c h few few' =
    let es = c.self.inside.splices in
    let r = c.in_ok-refill.refill in
    let made = take c.args.from es ++ r.splices.items ++ drop r.end es in
    let same : made ≡ replaced c.args.from c.args.to c.args.fresh.items c.args.gap c.args.self.now =
    append_assoc (take c.args.from es) r.splices.items (drop r.end es)
    ∙ ap (λ l. take c.args.from l ++ (r.splices.items ++ drop r.end l)) c.self.view_is
    ∙ ap (λ l. take c.args.from c.args.self.now ++ l) c.in_ok-refill.ensures.refill.same in
    let old : length es < 2 * 6 ^ (h + 1) = omega (arith, few, ap length c.self.view_is) in
    let new : length made < 2 * 6 ^ (h + 1) = omega (arith, few', ap length same) in
    let one = c.in_ok-refill.ensures.steps h few in
    let two = c.replace.ensures.steps h old new in
    let size = c.in_ok-refill.ensures.refill.few in
    omega (arith, one, two, size)
