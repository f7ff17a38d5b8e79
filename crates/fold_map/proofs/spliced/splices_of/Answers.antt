use Rattle.std.proofs.Common.{◌≡◌, ℕ, ◌+◌, [], ◌∷◌, ◌++◌, take, drop, get_or, ap, sym, ◌∙◌, subst, arith}
use Rattle.std.proofs.lemmas.List.{take_all, take_more}
use Rattle.cell_units.specs.declared.place.Bias.TheVariants.{Left, Right}
use Rattle.joined_folds.specs.JoinedLists.{last_end}
use Rattle.fold_map.specs.Positions.{AreInText, IsBefore, hiding, position_of}
use Rattle.fold_map.specs.declared.position.Position.{Position}
use Rattle.fold_map.specs.Splices.{splice_of, splices_from}
use Rattle.fold_map.proofs.Positions.{base-at, last-more, left-right, next-one, right-left, splices-more}
use Rattle.fold_map.proofs.spliced.splices_of.Goals as goal

pub of-from-requires-after_bounds : goal.of-from-requires-after_bounds
of-from-requires-after_bounds g c κs h = base-at (g.L.Layer.source c.args.layer.now) c.args.base c.args.joined.now c.requires.stand

pub loop-one-init : goal.loop-one-init
loop-one-init g c = record { from = c.of-from.ensures; spliced = c.in_ok-splices.ensures.items; rest = c.requires.stand }

pub of-start-requires-after_bounds : goal.of-start-requires-after_bounds
of-start-requires-after_bounds g c κs h =
    (next-one (g.L.Layer.source c.args.layer.now) (last_end c.args.base (take c.loop-one.one-index c.args.joined.now)) c.args.joined.now c.loop-one.one-index (record { start = 0; end = 0 }) c.loop-one-test.true c.loop-one.invariant.rest).0.start_at

pub of-end-requires-after_bounds : goal.of-end-requires-after_bounds
of-end-requires-after_bounds g c κs h =
    (next-one (g.L.Layer.source c.args.layer.now) (last_end c.args.base (take c.loop-one.one-index c.args.joined.now)) c.args.joined.now c.loop-one.one-index (record { start = 0; end = 0 }) c.loop-one-test.true c.loop-one.invariant.rest).0.end_at

pub hiding-requires-clause-first : goal.hiding-requires-clause-first
hiding-requires-clause-first g c =
    let s = g.L.Layer.source c.args.layer.now in
    let b = last_end c.args.base (take c.loop-one.one-index c.args.joined.now) in
    let j = get_or c.args.joined.now c.loop-one.one-index (record { start = 0; end = 0 }) in
    let is = (next-one s b c.args.joined.now c.loop-one.one-index (record { start = 0; end = 0 }) c.loop-one-test.true c.loop-one.invariant.rest).0 in
    subst (λ (p : Position). IsBefore p c.of-start.result) (sym c.loop-one.invariant.from)
    (subst (λ (p : Position). IsBefore (position_of s b Left) p) (sym c.of-start.ensures) (left-right s c.requires.bare b j.start is.order is.start_at.0))

pub hiding-requires-clause-second : goal.hiding-requires-clause-second
hiding-requires-clause-second g c =
    let s = g.L.Layer.source c.args.layer.now in
    let b = last_end c.args.base (take c.loop-one.one-index c.args.joined.now) in
    let j = get_or c.args.joined.now c.loop-one.one-index (record { start = 0; end = 0 }) in
    let is = (next-one s b c.args.joined.now c.loop-one.one-index (record { start = 0; end = 0 }) c.loop-one-test.true c.loop-one.invariant.rest).0 in
    subst (λ (p : Position). IsBefore p c.of-end.result) (sym c.of-start.ensures)
    (subst (λ (p : Position). IsBefore (position_of s j.start Right) p) (sym c.of-end.ensures) (right-left s c.requires.bare j.start j.end is.some is.end_at.0))

pub hiding-requires-clause-fits : goal.hiding-requires-clause-fits
hiding-requires-clause-fits g c =
    let s = g.L.Layer.source c.args.layer.now in
    let b = last_end c.args.base (take c.loop-one.one-index c.args.joined.now) in
    let is = (next-one s b c.args.joined.now c.loop-one.one-index (record { start = 0; end = 0 }) c.loop-one-test.true c.loop-one.invariant.rest).0 in
    let from = ap (λ (p : Position). p.place) c.loop-one.invariant.from in
    let start = ap (λ (p : Position). p.place) c.of-start.ensures in
    omega (arith, is.fits, from, start)

pub loop-one-preserved : goal.loop-one-preserved
loop-one-preserved g c =
    let s = g.L.Layer.source c.args.layer.now in
    let i = c.loop-one.one-index in
    let js = c.args.joined.now in
    let b = last_end c.args.base (take i js) in
    let j = get_or js i (record { start = 0; end = 0 }) in
    let rest = next-one s b js i (record { start = 0; end = 0 }) c.loop-one-test.true c.loop-one.invariant.rest in
    let more = take_more js i (record { start = 0; end = 0 }) c.loop-one-test.true in
    let last : last_end c.args.base (take (i + 1) js) ≡ j.end = ap (last_end c.args.base) more ∙ last-more c.args.base (take i js) j in
    let hidden : c.hiding.result ≡ splice_of s b j = c.hiding.ensures ∙ (λ k. hiding (c.loop-one.invariant.from k) (c.of-start.ensures k) (c.of-end.ensures k)) in
    record {
      from = c.of-end.ensures ∙ ap (λ (o : ℕ). position_of s o Left) (sym last);
      spliced =
          c.in_ok-push.ensures.items
          ∙ (λ k. c.loop-one.invariant.spliced k ++ hidden k ∷ [])
          ∙ sym (splices-more s c.args.base (take i js) j)
          ∙ ap (splices_from s c.args.base) (sym more);
      rest = subst (λ (o : ℕ). AreInText s o (drop (i + 1) js)) (sym last) rest.1;
    }

pub returns : goal.returns
returns g c = record { ok = c.loop-one.invariant.spliced ∙ ap (splices_from (g.L.Layer.source c.args.layer.now) c.args.base) (take_all c.loop-one.one-index c.args.joined.now c.loop-one-test.false) }
