use Rattle.std.proofs.Common.{◌≡◌, ℕ, ◌∙◌, List, length, replicate, refl, ap, sym}
use Rattle.cell_line.specs.declared.element.Element.{Element}
use Rattle.wrap_map.specs.Standing.{all_at, stood_of}
use Rattle.wrap_map.specs.Stood.{Stood, unwrapped}
use Rattle.wrap_map.proofs.Standings.{all-unwrapped}
use Rattle.wrap_map.proofs.Calls.{kept-as, seen-as}
use Rattle.wrap_map.proofs.Synced.{standing-unwrapped}
use Rattle.wrap_map.proofs.map.WrapMap.new.Goals as goal

unwrapped-stood : (lines : List (List Element)) (ls : List Stood) (count : ℕ) → ls ≡ replicate count unwrapped → count ≡ length lines → ls ≡ stood_of (all_at 0 lines)
unwrapped-stood lines ls count made count-is =
    made ∙ ap (λ (n : ℕ). replicate n unwrapped) count-is ∙ sym (all-unwrapped lines (length lines) refl)

pub invariant_of-result : goal.invariant_of-result
invariant_of-result g c =
    let lines = g.N.Lines.elements_by_line c.args.lines in
    let ls = c.in_ok-stretches.stretches in
    let e = unwrapped-stood lines ls c.lines.result c.in_ok-stretches.ensures.made c.lines.ensures in
    (kept-as (all_at 0 lines) lines ls refl e (standing-unwrapped lines c.requires.fits), c.requires.lawful)

pub returns-clause-made : goal.returns-clause-made
returns-clause-made g c =
    let lines = g.N.Lines.elements_by_line c.args.lines in
    let ls = c.in_ok-stretches.stretches in
    let e = unwrapped-stood lines ls c.lines.result c.in_ok-stretches.ensures.made c.lines.ensures in
    let one_each = (standing-unwrapped lines c.requires.fits).one_each in
    λ i. record { standing = seen-as (all_at 0 lines) lines ls refl e one_each i; width = c.args.width }
