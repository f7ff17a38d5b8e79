use Rattle.std.proofs.Common.{◌≡◌, ◌∙◌, ℕ, ◌<◌, List, length, map, Option, sym, ap, subst, arith}
use Rattle.std.specs.Prelude.{All}
use Rattle.std.proofs.lemmas.List.{length-map, with_items_is}
use Rattle.cell_line.specs.declared.element.Element.{Element}
use Rattle.kept_sheet.specs.Kept.{AreLinesAt, IsRising, lines_in, standing}
use Rattle.wrapped_lines.specs.WrappedSource.{lines_of}
use Rattle.wrapped_lines.proofs.Placed.{all-there}
use Rattle.test_stages.specs.Places.{IsOutOf, carried}
use Rattle.test_stages.proofs.Places.{carried-lines, carried-rises, lengths}
use Rattle.test_stages.proofs.out_run.OutRun.follow.Goals as goal

pub carry-requires-clause-there : goal.carry-requires-clause-there
carry-requires-clause-there g c =
    let old = lines_of c.args.before.now in
    let es = lines_in c.self.inside.taken c.self.inside.run in
    let was : AreLinesAt old c.self.inside.places.items es = subst (IsOutOf old) (sym c.self.view_is) c.requires.out in
    let total : c.lines-total.result ≡ length old = c.lines-total.ensures ∙ ap (λ (ls : List (List Element)). length ls) c.lines.ensures in
    subst (λ (n : ℕ). All (λ line. line < n) (standing c.as_mut_slice.result.now)) (sym total)
    (subst (λ (ps : List (Option ℕ)). All (λ line. line < length old) (standing ps)) (sym c.as_mut_slice.ensures.value)
    (all-there old c.self.inside.places.items es was))

pub carry-requires-clause-after : goal.carry-requires-clause-after
carry-requires-clause-after g c =
    let total : c.lines-total.result ≡ length (lines_of c.args.before.now) = c.lines-total.ensures ∙ ap (λ (ls : List (List Element)). length ls) c.lines.ensures in
    let after : c.lines-after.result ≡ length (lines_of c.args.now.now) = c.lines-after.ensures ∙ ap (λ (ls : List (List Element)). length ls) c.lines-2.ensures in
    omega (arith, total, after, lengths c.args.run (lines_of c.args.before.now) (lines_of c.args.now.now) c.requires.leads, c.requires.leads.within)

pub invariant_of-self : goal.invariant_of-self
invariant_of-self g c =
    let places : c.carry.new.places ≡ map (carried c.args.run) c.self.inside.places.items = c.carry.ensures ∙ ap (map (carried c.args.run)) c.as_mut_slice.ensures.value in
    let long : length c.carry.new.places ≡ c.self.inside.places.len = ap (λ (ps : List (Option ℕ)). length ps) places ∙ length-map c.self.inside.places.items (carried c.args.run) ∙ sym c.self.inside.places.ok.0 in (
      c.self.invariant.0,
      subst (λ (ps : List (Option ℕ)). IsRising 0 (standing ps)) (sym (with_items_is c.self.inside.places c.carry.new.places long ∙ places))
          (carried-rises c.args.run 0 c.self.inside.places.items (omega arith) c.self.invariant.1),
    )

pub returns-clause-out : goal.returns-clause-out
returns-clause-out g c =
    let old = lines_of c.args.before.now in
    let es = lines_in c.self.inside.taken c.self.inside.run in
    let was : AreLinesAt old c.self.inside.places.items es = subst (IsOutOf old) (sym c.self.view_is) c.requires.out in
    let places : c.carry.new.places ≡ map (carried c.args.run) c.self.inside.places.items = c.carry.ensures ∙ ap (map (carried c.args.run)) c.as_mut_slice.ensures.value in
    let long : length c.carry.new.places ≡ c.self.inside.places.len = ap (λ (ps : List (Option ℕ)). length ps) places ∙ length-map c.self.inside.places.items (carried c.args.run) ∙ sym c.self.inside.places.ok.0 in
    subst (λ (ps : List (Option ℕ)). AreLinesAt (lines_of c.args.now.now) ps es) (sym (with_items_is c.self.inside.places c.carry.new.places long ∙ places))
    (carried-lines c.args.run old (lines_of c.args.now.now) c.requires.leads c.self.inside.places.items es was)
