use Rattle.std.proofs.Common.{◌≡◌, ◌∙◌, ap, ap₂, codes, rules, true}
use Rattle.std.proofs.lemmas.Result.{IfOk-weaker}
use Rattle.clap.specs.Walk.{rule_of}
use Rattle.clap.specs.Simple.{app_of, app_of_fields, new_rule, on_top, with_rule}
use Rattle.command_line.specs.inside.Command.{bare_app, option_rule}
use Rattle.command_line.proofs.command.words_command.Goals as goal

pub returns : goal.returns
returns c =
    let workers_is : rule_of c.long-workers.result ≡ option_rule (codes "workers") = search rules in
    let watch_is : rule_of c.long-watch.result ≡ option_rule (codes "watch") = search rules in
    let make_is : rule_of c.long-make.result ≡ option_rule (codes "make") = search rules in
    let text_is : rule_of c.new-text.result ≡ new_rule (codes "text") = search rules in
    let script_is : rule_of c.new-script.result ≡ new_rule (codes "script") = search rules in
    let bare_is : app_of c.disable_version_flag.result ≡ bare_app =
    ap app_of_fields c.disable_version_flag.ensures ∙ ap (on_top (λ s. record s { disable_version_flag = true }))
    (ap app_of_fields c.disable_help_flag.ensures ∙ ap (on_top (λ s. record s { disable_help_flag = true }))
    (ap app_of_fields c.no_binary_name.ensures ∙ ap (on_top (λ s. record s { no_binary_name = true })) c.new-4.ensures.app)) in
    IfOk-weaker c.arg-5.result _ _ (λ command added. added.shape (search rules) ∙ ap₂ with_rule
    (c.in_ok-arg-4.ensures.shape (search rules) ∙ ap₂ with_rule
    (c.in_ok-arg-3.ensures.shape (search rules) ∙ ap₂ with_rule
    (c.in_ok-arg-2.ensures.shape (search rules) ∙ ap₂ with_rule
    (c.in_ok-arg.ensures.shape (search rules) ∙ ap₂ with_rule bare_is workers_is) watch_is) make_is) text_is) script_is) c.arg-5.ensures
