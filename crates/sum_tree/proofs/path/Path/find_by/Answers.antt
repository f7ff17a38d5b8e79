use Rattle.std.proofs.Common.{◌≡◌, ◌+◌, ◌∙◌, length, subst, sym, ap, arith}
use Rattle.std.proofs.lemmas.Option.{slice_get_past}
use Rattle.sum_core.specs.ByMeasures.{by_sum}
use Rattle.sum_tree.specs.Cursors.{measure_to}
use Rattle.sum_tree.specs.Firsts.{IsShort, IsReaching, number_to}
use Rattle.sum_tree.specs.inside.Paths.{items_seen}
use Rattle.sum_tree.proofs.Firsts.{short-from_test, reaching-from_test}
use Rattle.sum_tree.proofs.path.Path.find_by.Goals as goal

pub returns-in-None-clause-first : goal.returns-in-None-clause-first
returns-in-None-clause-first g c =
    let m = g.T.Sum.Summary in
    let items = items_seen c.args.self.root in
    let t = c.target.result in
    let n = c.count.result in
    let is : n ≡ length items = c.count.ensures ∙ ap (λ r. length (items_seen r)) c.in-None.ensures.root in
    record {
      within = omega arith;
      short = λ some. subst (λ x. IsShort c.args.bias x (number_to m.empty m.joined g.T.Item.summary g.M.Measure.number items n)) c.target.ensures.at
          (subst (λ k. IsShort c.args.bias t.at (number_to m.empty m.joined g.T.Item.summary g.M.Measure.number items k)) (sym is)
          (short-from_test c.args.bias t (measure_to m.empty m.joined g.T.Item.summary (by_sum g.M.Measure.number) items (length items)) (c.in-None.ensures.found (omega arith))));
      reaching = λ lt. absurd (omega arith);
    }

pub returns-in-None-clause-item : goal.returns-in-None-clause-item
returns-in-None-clause-item g c =
    let items = items_seen c.args.self.root in
    let is : c.count.result ≡ length items = c.count.ensures ∙ ap (λ r. length (items_seen r)) c.in-None.ensures.root in
    sym (slice_get_past items c.count.result (omega arith))

pub returns-clause-first : goal.returns-clause-first
returns-clause-first g c =
    let m = g.T.Sum.Summary in
    let items = items_seen c.args.self.root in
    let t = c.target.result in
    let f = c.in-Some.ensures.found in
    let n = c.in-Some.found.index in
    let within = f.item.within in
    record {
      within = omega arith;
      short = λ some. subst (λ x. IsShort c.args.bias x (number_to m.empty m.joined g.T.Item.summary g.M.Measure.number items n)) c.target.ensures.at
          (subst (λ u. IsShort c.args.bias t.at u.at) f.item.start_is (short-from_test c.args.bias t c.in-Some.found.start (f.not_before some)));
      reaching = λ lt. subst (λ x. IsReaching c.args.bias x (number_to m.empty m.joined g.T.Item.summary g.M.Measure.number items (n + 1))) c.target.ensures.at
          (subst (λ u. IsReaching c.args.bias t.at u.at) f.item.end_is (reaching-from_test c.args.bias t c.in-Some.found.end f.met));
    }
