use Rattle.plain_rows.proofs.spots.searching.aim_at.Goals as goal

pub row_line-requires : goal.row_line-requires
row_line-requires g c = c.line_of_row-number.ensures.line.within

pub returns-clause-aim : goal.returns-clause-aim
returns-clause-aim g c =
    let begun = c.line_of_row-number.ensures.line in
    record {
      lawful = c.text_len.ensures.lawful;
      short = c.text_len.ensures.short;
      within = begun.within;
      elements = c.in_ok-line.ensures.elements;
      width = c.in_ok-line.ensures.width;
      begins = begun.begins;
      ends = begun.ends;
    }
