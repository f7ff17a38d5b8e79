use Rattle.cell_units.proofs.LineSpans.{place-line, span-has}
use Rattle.cell_units.proofs.PlaceColumns.{place-column}
use Rattle.cell_units.proofs.PlainLayers.{place_of_plain, text_of_plain}
use Rattle.cell_units.proofs.ShownPlaces.{place-le, places-left_first, places-rise}
use Rattle.cell_units.proofs.Sources.{copied, ends_open, lines-are, no-feeds}
use Rattle.cell_units.proofs.laws.layer_laws.Goals as goal

pub returns-clause-lines : goal.returns-clause-lines
returns-clause-lines c = lines-are

pub returns-clause-no_feeds : goal.returns-clause-no_feeds
returns-clause-no_feeds c = no-feeds

pub returns-clause-copied : goal.returns-clause-copied
returns-clause-copied c = copied

pub returns-clause-rise : goal.returns-clause-rise
returns-clause-rise c = places-rise

pub returns-clause-left_first : goal.returns-clause-left_first
returns-clause-left_first c = places-left_first

pub returns-clause-within : goal.returns-clause-within
returns-clause-within c = place-le

pub returns-clause-line : goal.returns-clause-line
returns-clause-line c = λ source o bias w le. place-line source (ends_open source w) o bias le

pub returns-clause-column : goal.returns-clause-column
returns-clause-column c = λ source o bias w le. place-column source (ends_open source w) o bias le

pub returns-clause-spanned : goal.returns-clause-spanned
returns-clause-spanned c = λ source o bias w le. span-has source (ends_open source w) o bias le

pub returns-clause-shows_itself : goal.returns-clause-shows_itself
returns-clause-shows_itself c = text_of_plain

pub returns-clause-own_place : goal.returns-clause-own_place
returns-clause-own_place c = place_of_plain
