use Rattle.plain_rows.specs.Plain.{record_of}
use Rattle.test_display.proofs.Typed.{is-lawful, behind-name}
use Rattle.test_display.proofs.plain.assert_places.Goals as goal

pub show-requires-clause-lawful : goal.show-requires-clause-lawful
show-requires-clause-lawful g c = is-lawful (record_of c.args.plain.now) c.requires

pub show-requires-clause-boundary : goal.show-requires-clause-boundary
show-requires-clause-boundary g c = behind-name (record_of c.args.plain.now) c.requires

pub clip-requires-clause-lawful : goal.clip-requires-clause-lawful
clip-requires-clause-lawful g c = is-lawful (record_of c.args.plain.now) c.requires

pub back-requires-clause-lawful : goal.back-requires-clause-lawful
back-requires-clause-lawful g c = is-lawful (record_of c.args.plain.now) c.requires
