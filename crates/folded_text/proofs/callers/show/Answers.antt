use Rattle.std.proofs.Common.{option_map, arith}
use Rattle.edit_patch.specs.Leads.{reach_of}
use Rattle.inlay_map.proofs.Sent.{sent}
use Rattle.folded_text.proofs.Follows.{belong-made, follows-made, is-shown}
use Rattle.folded_text.proofs.Texts.{inlays-stand, replaced-leads}
use Rattle.folded_text.proofs.callers.show.Goals as goal

pub len-requires-3-send-L : goal.len-requires-3-send-L
len-requires-3-send-L c κs = search sent depth 60 fits 20000

pub len-requires-3-sync-L : goal.len-requires-3-sync-L
len-requires-3-sync-L c κs = search sent depth 60 fits 20000

pub sync-requires-clause-leads : goal.sync-requires-clause-leads
sync-requires-clause-leads c = replaced-leads c.args.inlays.now.current.text c.args.rope (option_map reach_of c.args.shift) c.requires.text

pub sync-requires-clause-boundaries : goal.sync-requires-clause-boundaries
sync-requires-clause-boundaries c =
    let e = c.len-2.ensures.lawful in
    inlays-stand c.args.inlays.now.current.text c.args.rope (option_map reach_of c.args.shift) c.requires.text e.text.0 c.args.inlays.now.current.inlays e.inlays

pub sync-requires-2-send-L : goal.sync-requires-2-send-L
sync-requires-2-send-L c κs = search sent depth 60 fits 20000

pub sync-requires-2-sync-L : goal.sync-requires-2-sync-L
sync-requires-2-sync-L c κs = search sent depth 60 fits 20000

pub sync-requires-2-clause-follows : goal.sync-requires-2-clause-follows
sync-requires-2-clause-follows c κs =
    follows-made c.args.inlays.now c.args.folds.now c.args.rope c.requires.belong c.len-2.ensures.lawful c.len-3.ensures.lawful c.args.shift c.requires.text
    (omega (arith, c.len.ensures.value, c.len.ensures.within)) c.in_ok-layer.layer c.buffer_len-len.ensures.well_formed c.in_ok-layer.below c.in_ok-layer.ensures.synced

pub returns-clause-belong : goal.returns-clause-belong
returns-clause-belong c =
    belong-made c.args.inlays.now c.args.folds.now c.args.rope c.requires.belong c.len-2.ensures.lawful c.len-3.ensures.lawful c.args.shift c.requires.text
    (omega (arith, c.len.ensures.value, c.len.ensures.within)) c.in_ok-layer.layer c.in_ok-layer.below c.in_ok-layer.ensures.synced c.sync.new.self c.in_ok-layer.ensures.ok c.sync-2.new.self c.sync-2.result c.sync-2.ensures.ok

pub returns-clause-shown : goal.returns-clause-shown
returns-clause-shown c =
    is-shown c.args.inlays.now c.args.folds.now c.args.rope (option_map reach_of c.args.shift) c.in_ok-layer.layer (option_map reach_of c.in_ok-layer.below) c.in_ok-layer.ensures.synced
    c.sync-2.result c.sync-2.ensures.synced
