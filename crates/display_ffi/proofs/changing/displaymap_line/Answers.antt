-- A refused line has the status of its verdict.
use Rattle.std.proofs.Common.{◌≡◌, Some, ◌∙◌, arith, rules}
use Rattle.display_session.specs.declared.session.Session.{Session}
use Rattle.display_session.specs.Lines.{verdict_on}
use Rattle.display_ffi.specs.Statuses.{status_of, verdict_status}
use Rattle.display_ffi.proofs.Statuses.{both_some, refused_status}
use Rattle.display_ffi.proofs.changing.displaymap_line.Goals as goal

pub returns-in-Err-clause-refused : goal.returns-in-Err-clause-refused
returns-in-Err-clause-refused c some few =
    let a : Session = c.deref_mut.result.now in
    let b : Session = c.apply-done.new.self in
    let value : c.status_of.result ≡ status_of c.in-Err.trouble = c.status_of.ensures.value in
    let it = refused_status (verdict_on a.display c.args.line.now) a.display b.display c.in-Err.trouble c.in-Err.ensures.failed (omega (arith, few, value)) in
    let is : Some a ≡ c.args.handle.now.kept.session = search rules in
    let then : c.put.new.handle.kept.session ≡ Some b = search rules in
    both_some (λ a b. (c.status_of.result ≡ verdict_status (verdict_on a.display c.args.line.now)) × (b.display ≡ a.display))
    c.args.handle.now.kept.session c.put.new.handle.kept.session a b is then (value ∙ it.0, it.1)
