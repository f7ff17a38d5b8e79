use Rattle.std.proofs.Common.{◌≡◌, ◌∙◌, false, true, get_or, None, sym, subst, refl, arith}
use Rattle.std.specs.Prelude.{List}
use Rattle.edit_patch.specs.declared.edit.Edit.{Edit}
use Rattle.edit_patch.specs.Patch.{IsPatch}
use Rattle.wrapped_lines.specs.inside.Since.{IsSince}
use Rattle.wrapped_lines.proofs.Between.{all-since, next-place-fits, passed-all, passed-more}
use Rattle.wrapped_lines.proofs.since.lines_since.Goals as goal

pub pass-requires-clause-place : goal.pass-requires-clause-place
pass-requires-clause-place c =
    let places = c.args.places.now in
    let k = c.loop-k.k in
    let fits = next-place-fits c.args.old c.args.now c.args.first places k c.loop-k.kept c.loop-k.edits.items (get_or places k None)
    c.loop-k-test.true refl c.loop-k.invariant in
    omega (arith, fits, c.ranges.now.fits)

pub loop-k-preserved : goal.loop-k-preserved
loop-k-preserved c =
    let places = c.args.places.now in
    let k = c.loop-k.k in
    passed-more c.args.old c.args.now c.args.first places k c.loop-k.kept c.in_ok-kept.kept c.loop-k.edits.items c.pass.new.edits.items (get_or places k None)
    c.loop-k-test.true refl c.loop-k.invariant c.in_ok-kept.ensures.edits c.in_ok-kept.ensures.kept

pub unreachable-requires : goal.unreachable-requires
unreachable-requires c =
    let places = c.args.places.now in
    let edits = c.push_between.new.edits.items in
    let are = passed-all c.args.old c.args.now c.args.first places c.loop-k.kept c.loop-k.edits.items edits c.loop-k.k
    (omega (arith, c.loop-k-test.false)) c.loop-k.invariant c.in_ok-push_between.ensures in
    let all = all-since c.args.old c.args.now c.args.first places c.requires.within c.requires.rising c.requires.there in
    let no : false ≡ true = c.in-Err.ensures.accepted.1 (subst IsPatch (sym are) all.normal) in
    cc

pub returns : goal.returns
returns c =
    let places = c.args.places.now in
    let edits = c.push_between.new.edits.items in
    let are = passed-all c.args.old c.args.now c.args.first places c.loop-k.kept c.loop-k.edits.items edits c.loop-k.k
    (omega (arith, c.loop-k-test.false)) c.loop-k.invariant c.in_ok-push_between.ensures in
    subst (λ (es : List Edit). IsSince c.args.old c.args.now c.args.first places es) (sym (c.in-Ok.ensures.value ∙ are))
    (all-since c.args.old c.args.now c.args.first places c.requires.within c.requires.rising c.requires.there)
