-- The parse is that of `words_app`, so its matches and its faults are those of the walk.
use Rattle.std.proofs.Common.{◌≡◌, ◌∙◌, IfSome, [], ap, false, map, string_bytes, subst, sym}
use Rattle.std.specs.List.{list_any}
use Rattle.std.proofs.lemmas.Result.{IfOk-weaker}
use Rattle.clap.specs.Matches.{found_of}
use Rattle.clap.specs.Simple.{app_of, is_simple, matches_of}
use Rattle.clap.specs.Faults.{fault_of, is_simple_and_free}
use Rattle.clap.specs.Kinds.{HasKind}
use Rattle.clap.specs.Walk.{rows_of}
use Rattle.clap.proofs.WalkLemmas.{list_any-map}
use Rattle.command_line.specs.Words.{IsWithinLimits, is_dashes}
use Rattle.command_line.specs.inside.Command.{words_app}
use Rattle.command_line.proofs.Bounds.{reading_within}
use Rattle.command_line.proofs.Parsed.{dashes_refused, error_refused, parsed_plan}
use Rattle.command_line.proofs.Rules.{free, simple}
use Rattle.command_line.proofs.read.read_words.Goals as goal

pub returns-then-has_dashes-clause-read : goal.returns-then-has_dashes-clause-read
returns-then-has_dashes-clause-read c =
    sym (dashes_refused (map string_bytes c.args.words.now)
    (sym (list_any-map is_dashes string_bytes c.args.words.now) ∙ (sym c.has_dashes.ensures ∙ c.if-has_dashes.true)))

pub returns-in-Ok : goal.returns-in-Ok
returns-in-Ok c =
    let words = map string_bytes c.args.words.now in
    let fine : list_any is_dashes words ≡ false =
    sym (list_any-map is_dashes string_bytes c.args.words.now) ∙ (sym c.has_dashes.ensures ∙ c.if-has_dashes.false) in
    let app_is : app_of c.in_ok-command.command ≡ words_app = c.in_ok-command.ensures in
    let no_fault : fault_of words_app words ≡ [] = ap (λ a. fault_of a words) (sym app_is) ∙ c.in-Ok.ensures.kinds (ap is_simple_and_free app_is ∙ free) in
    let rows : rows_of (found_of c.in-Ok.matches) ≡ matches_of words_app words =
    (c.in-Ok.ensures.matches (ap is_simple app_is ∙ simple)).0 ∙ ap (λ a. matches_of a words) app_is in
    let plan_is = parsed_plan words (found_of c.in-Ok.matches) fine no_fault rows in
    record {
      read = IfOk-weaker c.plan_in.result _ _ (λ plan e. e ∙ plan_is) c.plan_in.ensures;
      lawful = IfOk-weaker c.plan_in.result _ _ (λ plan e. subst (λ p. IfSome p IsWithinLimits) (sym (e ∙ plan_is)) (reading_within words)) c.plan_in.ensures;
    }

pub returns : goal.returns
returns c =
    let words = map string_bytes c.args.words.now in
    let fine : list_any is_dashes words ≡ false =
    sym (list_any-map is_dashes string_bytes c.args.words.now) ∙ (sym c.has_dashes.ensures ∙ c.if-has_dashes.false) in
    let app_is : app_of c.in_ok-command.command ≡ words_app = c.in_ok-command.ensures in
    let has = subst (λ a. HasKind (fault_of a words) c.in-Err.error) app_is (c.in-Err.ensures.kinds (ap is_simple_and_free app_is ∙ free)) in
    record { read = sym (error_refused words c.in-Err.error fine has (λ out. c.in_default.not-OutOfMemory (c.kind.ensures ∙ out))); lawful = tt }
