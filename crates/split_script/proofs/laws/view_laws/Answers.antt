use Rattle.std.proofs.Common.{◌∙◌}
use Rattle.std.proofs.lemmas.Bool.{cond-false, cond-true}
use Rattle.edit_script.specs.Verdict.{is_blank}
use Rattle.split_script.specs.Lines.{Own, Skipped}
use Rattle.split_script.proofs.Lines.{own-read, own-written}
use Rattle.split_script.proofs.laws.view_laws.Goals as goal

pub returns-clause-own : goal.returns-clause-own
returns-clause-own c views view bytes lt filled = own-written view bytes views lt ∙ cond-false (is_blank bytes) Skipped (Own view bytes) filled

pub returns-clause-blank : goal.returns-clause-blank
returns-clause-blank c views view bytes lt blank = own-written view bytes views lt ∙ cond-true (is_blank bytes) Skipped (Own view bytes) blank

pub returns-clause-only : goal.returns-clause-only
returns-clause-only c views view line bytes e =
    let it = own-read views line view bytes e in (it.there, it.written, it.filled)
