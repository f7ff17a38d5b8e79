use Rattle.std.proofs.Common.{◌<◌, ◌^◌, ◌∙◌, length, ap, sym, subst, arith}
use Rattle.mark_tree.specs.Entries.{IsCodable, placed_from}
use Rattle.mark_tree.proofs.Coding.{length-placed, codable-placed}
use Rattle.mark_tree.proofs.spaced.Spaced.len.Goals as goal

pub returns-clause-len : goal.returns-clause-len
returns-clause-len g c = c.len.ensures ∙ sym (length-placed 0 c.self.inside.entries) ∙ ap length c.self.view_is

pub returns-clause-codable : goal.returns-clause-codable
returns-clause-codable g c =
    let small : length (placed_from 0 c.self.inside.entries) < 2 ^ 32 = omega (arith, length-placed 0 c.self.inside.entries, c.len.ensures, c.len.type_inv) in
    subst IsCodable c.self.view_is (codable-placed c.self.inside.entries c.self.invariant small)
