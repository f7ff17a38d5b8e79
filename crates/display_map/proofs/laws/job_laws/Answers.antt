use Rattle.std.proofs.Common.{◌≡◌, ℕ, ◌||◌, ◌∷◌, [], ◌++◌, List, false, map, refl, sym, ap, ◌∙◌, append_assoc}
use Rattle.std.specs.List.{list_any}
use Rattle.std.proofs.lemmas.List.Folds.{list_any-append}
use Rattle.cell_units.specs.Operation.{Operation}
use Rattle.cell_line.specs.declared.element.Element.{Element}
use Rattle.plain_rows.specs.Rows.{line_elements}
use Rattle.wrap_workers.specs.Jobs.{JobParts}
use Rattle.display_map.specs.Events.{Event, Did}
use Rattle.display_map.specs.Replay.{History, appended, present_of}
use Rattle.display_map.specs.Sending.{IsOutstanding, is_landing, sending}
use Rattle.display_map.proofs.laws.job_laws.Goals as goal

stays : (h : History) (events : List Event) (job : JobParts (List (List Element))) → list_any (is_landing job.number) events ≡ false → IsOutstanding h job → IsOutstanding (appended h events) job
stays h events job other out = record {
  before = out.before;
  after = out.after ++ events;
  events_are = ap (λ (l : List Event). l ++ events) out.events_are ∙ append_assoc out.before (sending job ∷ out.after) events;
  width_is = out.width_is;
  lines_are = out.lines_are;
  not_landed = list_any-append (is_landing job.number) out.after events ∙ (λ i. out.not_landed i || other i);
}

no_landing : (number : ℕ) (ops : List Operation) → list_any (is_landing number) (map Did ops) ≡ false
no_landing number [] = refl
no_landing number (op ∷ ops) = no_landing number ops

pub returns-clause-sent : goal.returns-clause-sent
returns-clause-sent c = λ before after job sent. record {
  before = before.events;
  after = [];
  events_are = ap (λ (h : History). h.events) sent.event_is;
  width_is = sent.width_is ∙ ap (λ (opening : List ℕ). (present_of (record { opening = opening; events = before.events })).width) (sym (ap (λ (h : History). h.opening) sent.event_is));
  lines_are = sent.lines_are ∙ ap (λ (opening : List ℕ). line_elements (present_of (record { opening = opening; events = before.events }))) (sym (ap (λ (h : History). h.opening) sent.event_is));
  not_landed = refl;
}

pub returns-clause-stays : goal.returns-clause-stays
returns-clause-stays c = λ h e job other out. stays h (e ∷ []) job (λ i. other i || false) out

pub returns-clause-over_operations : goal.returns-clause-over_operations
returns-clause-over_operations c = λ h ops job out. stays h (map Did ops) job (no_landing job.number ops) out
