use Rattle.std.proofs.Common.{◌≡◌, ◌∙◌, ℕ, ◌<◌, ap, min, length, refl, List, sym, subst, arith}
use Rattle.std.specs.Prelude.{All, Option}
use Rattle.cell_line.specs.declared.element.Element.{Element}
use Rattle.cell_line.specs.declared.lines.Run.{Run}
use Rattle.edit_patch.specs.Fits.{Fits}
use Rattle.wrap_map.specs.Standing.{Wrapped}
use Rattle.kept_sheet.specs.Kept.{cuts_in, standing}
use Rattle.wrapped_lines.specs.WrappedSource.{HaveRoom, WrappedSource, lines_of, standing_lines}
use Rattle.wrapped_lines.specs.inside.Since.{IsSince}
use Rattle.wrapped_lines.proofs.LandedPlaces.{all-at, cuts-there, is-there, landed-at, landing-more, patch-fits, places-within}
use Rattle.wrapped_lines.proofs.lines.WrappedLines.landed.Goals as goal

abbrev run_of : ℕ → List (Option ℕ) → Run
run_of first places = record { first = first; count = length places }

pub overflow_cast-there : goal.overflow_cast-there
overflow_cast-there g c =
    let old = c.args.old.now in
    let places = c.args.places.now in
    let first = c.min.ensures ∙ ap (min c.args.run.first) c.lines.ensures in
    let within = places-within c.args.self.now old c.args.run (run_of c.min.result places) places first refl c.requires.lines in
    omega (arith, within, c.lines.ensures, c.lines.type_inv)

pub lines_since-requires-clause-within : goal.lines_since-requires-clause-within
lines_since-requires-clause-within g c =
    let old = c.args.old.now in
    let places = c.args.places.now in
    let first = c.min.ensures ∙ ap (min c.args.run.first) c.lines.ensures in
    let within = places-within c.args.self.now old c.args.run (run_of c.min.result places) places first refl c.requires.lines in
    omega (arith, within, c.lines-2.ensures)

pub lines_since-requires-clause-there : goal.lines_since-requires-clause-there
lines_since-requires-clause-there g c =
    let now = c.args.self.now in
    let old = c.args.old.now in
    let places = c.args.places.now in
    let first = c.min.ensures ∙ ap (min c.args.run.first) c.lines.ensures in
    let lines : c.lines-3.result ≡ length (lines_of now) =
    c.lines-3.ensures ∙ ap length c.self.invariant.lines_are ∙ ap (λ (w : WrappedSource). length (lines_of w)) c.self.view_is in
    subst (λ (n : ℕ). All (λ line. line < n) (standing places)) (sym lines)
    (all-at now old c.args.run (run_of c.min.result places) places first refl c.requires.lines)

pub land_run-requires-clause-room : goal.land_run-requires-clause-room
land_run-requires-clause-room g c κs within =
    subst (λ (o : Wrapped). HaveRoom o.standing.lines) (sym c.self.invariant.wraps_are) c.self.invariant.room

pub land_run-requires-clause-since : goal.land_run-requires-clause-since
land_run-requires-clause-since g c κs within =
    let now = c.args.self.now in
    let old = c.args.old.now in
    let places = c.args.places.now in
    let since = c.in_ok-since.since in
    let first = c.min.ensures ∙ ap (min c.args.run.first) c.lines.ensures in
    let lines : c.lines-3.result ≡ length (lines_of now) =
    c.lines-3.ensures ∙ ap length c.self.invariant.lines_are ∙ ap (λ (w : WrappedSource). length (lines_of w)) c.self.view_is in
    let is : IsSince (length old) (length (lines_of now)) c.min.result places since =
    subst (λ (n : ℕ). IsSince n (length (lines_of now)) c.min.result places since) c.lines-2.ensures
    (subst (λ (n : ℕ). IsSince c.lines-2.result n c.min.result places since) lines c.in_ok-since.ensures) in
    let same : c.self.inside.wraps.standing.lines ≡ lines_of now =
    ap (λ (o : Wrapped). o.standing.lines) c.self.invariant.wraps_are ∙ ap lines_of c.self.view_is in
    subst (λ (xs : List (List Element)). Fits since old xs) (sym same)
    (patch-fits now old c.args.run (run_of c.min.result places) places first refl c.requires.lines since is)

pub land_run-requires-clause-within : goal.land_run-requires-clause-within
land_run-requires-clause-within g c κs within =
    let old = c.args.old.now in
    let places = c.args.places.now in
    let first = c.min.ensures ∙ ap (min c.args.run.first) c.lines.ensures in
    places-within c.args.self.now old c.args.run (run_of c.min.result places) places first refl c.requires.lines

pub land_run-requires-clause-wraps : goal.land_run-requires-clause-wraps
land_run-requires-clause-wraps g c κs within =
    let now = c.args.self.now in
    let old = c.args.old.now in
    let places = c.args.places.now in
    let first = c.min.ensures ∙ ap (min c.args.run.first) c.lines.ensures in
    let width : now.width ≡ c.self.inside.width = sym (ap (λ (w : WrappedSource). w.width) c.self.view_is) in
    cuts-there now old c.args.run (run_of c.min.result places) places first refl c.requires.lines _ c.self.inside.width
    (c.requires.wraps ∙ ap (cuts_in old c.args.run) width)

pub returns-in_err-map-clause-steps : goal.returns-in_err-map-clause-steps
returns-in_err-map-clause-steps g c h high =
    let now = c.args.self.now in
    let old = c.args.old.now in
    let places = c.args.places.now in
    let first = c.min.ensures ∙ ap (min c.args.run.first) c.lines.ensures in
    let there = is-there now old c.args.run (run_of c.min.result places) places first refl c.requires.lines in
    let same : length c.self.inside.wraps.standing.lines ≡ length (lines_of now) =
    ap (λ (o : Wrapped). length o.standing.lines) c.self.invariant.wraps_are ∙ ap (λ (w : WrappedSource). length (lines_of w)) c.self.view_is in
    let more = landing-more (length places) c.args.run.count h there.few in
    let took = c.land_run.ensures.steps h (omega (arith, same, high)) in
    omega (arith, more, took)

pub returns-in_err-with_wraps-clause-steps : goal.returns-in_err-with_wraps-clause-steps
returns-in_err-with_wraps-clause-steps g c h high =
    let now = c.args.self.now in
    let old = c.args.old.now in
    let places = c.args.places.now in
    let first = c.min.ensures ∙ ap (min c.args.run.first) c.lines.ensures in
    let there = is-there now old c.args.run (run_of c.min.result places) places first refl c.requires.lines in
    let same : length c.self.inside.wraps.standing.lines ≡ length (lines_of now) =
    ap (λ (o : Wrapped). length o.standing.lines) c.self.invariant.wraps_are ∙ ap (λ (w : WrappedSource). length (lines_of w)) c.self.view_is in
    let more = landing-more (length places) c.args.run.count h there.few in
    let took = c.land_run.ensures.steps h (omega (arith, same, high)) in
    omega (arith, more, took)

pub returns-clause-steps : goal.returns-clause-steps
returns-clause-steps g c h high =
    let now = c.args.self.now in
    let old = c.args.old.now in
    let places = c.args.places.now in
    let first = c.min.ensures ∙ ap (min c.args.run.first) c.lines.ensures in
    let there = is-there now old c.args.run (run_of c.min.result places) places first refl c.requires.lines in
    let same : length c.self.inside.wraps.standing.lines ≡ length (lines_of now) =
    ap (λ (o : Wrapped). length o.standing.lines) c.self.invariant.wraps_are ∙ ap (λ (w : WrappedSource). length (lines_of w)) c.self.view_is in
    let more = landing-more (length places) c.args.run.count h there.few in
    let took = c.land_run.ensures.steps h (omega (arith, same, high)) in
    omega (arith, more, took)

pub returns-clause-landed : goal.returns-clause-landed
returns-clause-landed g c =
    let now = c.args.self.now in
    let old = c.args.old.now in
    let places = c.args.places.now in
    let since = c.in_ok-since.since in
    let first = c.min.ensures ∙ ap (min c.args.run.first) c.lines.ensures in
    let lines : c.lines-3.result ≡ length (lines_of now) =
    c.lines-3.ensures ∙ ap length c.self.invariant.lines_are ∙ ap (λ (w : WrappedSource). length (lines_of w)) c.self.view_is in
    let is : IsSince (length old) (length (lines_of now)) c.min.result places since =
    subst (λ (n : ℕ). IsSince n (length (lines_of now)) c.min.result places since) c.lines-2.ensures
    (subst (λ (n : ℕ). IsSince c.lines-2.result n c.min.result places since) lines c.in_ok-since.ensures) in
    let was : c.self.inside.wraps ≡ record { standing = standing_lines now; width = now.width } =
    c.self.invariant.wraps_are ∙ ap (λ (w : WrappedSource). let o : Wrapped = record { standing = standing_lines w; width = w.width } in o) c.self.view_is in
    landed-at now old c.args.run (run_of c.min.result places) places first refl c.requires.lines since c.in_ok-map.rows
    c.self.inside.wraps c.in_ok-map.map c.in_ok-with_wraps.field-0 c.self.inside.width
    is was c.in_ok-map.ensures.landed c.in_ok-map.ensures.few (ap (λ (w : WrappedSource). w.width) c.self.view_is) c.in_ok-with_wraps.ensures
