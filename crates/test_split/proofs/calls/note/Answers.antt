use Rattle.std.proofs.Common.{◌≡◌, List, [], ◌∷◌, length, refl, ◌∙◌, arith}
use Rattle.std.proofs.lemmas.List.{length-set}
use Rattle.display_map.specs.Events.{Line}
use Rattle.display_map.specs.Replay.{History, appended}
use Rattle.split_views.specs.Views.{appended_in, history_of}
use Rattle.split_views.specs.Wrapping.{IsIdle}
use Rattle.test_split.proofs.After.{after}
use Rattle.test_split.proofs.calls.note.Goals as goal

pub note_line-requires-clause-room : goal.note_line-requires-clause-room
note_line-requires-clause-room g c =
    omega (arith, c.room.ensures.within 0 (record { opening = []; events = [] }) (omega (arith, c.requires)))

pub returns-clause-len : goal.returns-clause-len
returns-clause-len g c =
    let hs = c.args.split.now in
    let es = Line 1 ∷ [] in
    after (λ (l : List History). length l ≡ 2) c.note_line.result hs c.note_line.new.self (appended_in hs 0 es) c.note_line.ensures.noted c.note_line.ensures.unchanged
    (length-set hs 0 (appended (history_of hs 0) es) ∙ c.requires) c.requires

pub returns-clause-idle : goal.returns-clause-idle
returns-clause-idle g c = λ view idle.
    let hs = c.args.split.now in
    let es = Line 1 ∷ [] in
    after (λ (l : List History). IsIdle (history_of l view)) c.note_line.result hs c.note_line.new.self (appended_in hs 0 es) c.note_line.ensures.noted c.note_line.ensures.unchanged
    (c.idle_laws.ensures.appended hs 0 view es refl idle) idle
