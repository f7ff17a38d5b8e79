-- How many line feeds what is drawn has.
use Rattle.std.proofs.Common.{◌≡◌, ◌≢◌, ℕ, ◌+◌, ◌^◌, ◌<◌, zero, suc, Bool, false, min, nat_le, ◌==◌, cond, List, [], ◌∷◌, ◌++◌, length, replicate, refl, ap, ◌∙◌, arith, lit<}
use Rattle.std.specs.Prelude.{codes, count_by, decimal}
use Rattle.std.specs.List.{concat, join_with_byte}
use Rattle.std.specs.Str.Parse.{AllDigits}
use Rattle.std.proofs.lemmas.Bool.Decides.{nat_tests}
use Rattle.std.proofs.lemmas.Fmt.{decimal_is_IsNumeral}
use Rattle.cell_units.specs.Record.{line_count}
use Rattle.cell_units.specs.Text.{is_feed}
use Rattle.cell_units.proofs.BufferLines.{feeds-append, feeds-cons, line_count-is}
use Rattle.generated_input.specs.Drawing.{Drawing, draw, times}
use Rattle.generated_input.specs.Made.{ScriptLine, block_line, display_line, drawn_input, edit_line, fold_line, inlay_line, letter, line, made_of, other_line, rows_line, script_line, script_lines, text_lines, width_line, word}
use Rattle.generated_input.proofs.Sizes.{draw-fits, times-length, if_both}

-- bytes with so many line feeds
pub record Feeds (count : ℕ) (bytes : List ℕ) : Type 0 where
  pub are : count_by is_feed bytes ≡ count

feeds_cons : (count b : ℕ) (bytes : List ℕ) → b ≢ 10 → Feeds count bytes → Feeds count (b ∷ bytes)
feeds_cons count b bytes other feeds =
    let no : is_feed b ≡ false = grind (arith, nat_tests, other) in
    record { are = feeds-cons b bytes ∙ ap (λ (t : Bool). cond t 1 0 + count_by is_feed bytes) no ∙ omega (arith, feeds.are) }

feeds_behind : (count : ℕ) (bytes : List ℕ) → Feeds count bytes → Feeds (suc count) (10 ∷ bytes)
feeds_behind count bytes feeds = record { are = feeds-cons 10 bytes ∙ omega (arith, feeds.are) }

feeds_append : (m n : ℕ) (xs ys : List ℕ) → Feeds m xs → Feeds n ys → Feeds (m + n) (xs ++ ys)
feeds_append m n xs ys first second = record { are = omega (arith, feeds-append xs ys, first.are, second.are) }

none_append : (xs ys : List ℕ) → Feeds 0 xs → Feeds 0 ys → Feeds 0 (xs ++ ys)
none_append xs ys first second = record { are = omega (arith, feeds-append xs ys, first.are, second.are) }

none_in_digits : (bytes : List ℕ) → AllDigits 10 bytes → Feeds 0 bytes
none_in_digits [] h = record { are = refl }
none_in_digits (b ∷ bytes) h = feeds_cons 0 b bytes (λ e. grind (arith, nat_tests, e, h.0)) (none_in_digits bytes h.1)

none_in_decimal : (n : ℕ) → n < 2 ^ 64 → Feeds 0 (decimal n)
none_in_decimal n h = none_in_digits (decimal n) (decimal_is_IsNumeral n h).0.1

none_in_replicate : (n b : ℕ) → b ≢ 10 → Feeds 0 (replicate n b)
none_in_replicate zero b other = record { are = refl }
none_in_replicate (suc n) b other = feeds_cons 0 b (replicate n b) other (none_in_replicate n b other)

-- each of some texts has so many
EachFeeds : ℕ → List (List ℕ) → Type 0
EachFeeds count [] = Unit {0}
EachFeeds count (bytes ∷ rest) = Feeds count bytes × EachFeeds count rest

each_feeds : (feeds count : ℕ) (drawing : Drawing (List ℕ)) → ((state : ℕ) → Feeds feeds (drawing state).value) → (state : ℕ) → EachFeeds feeds (times count drawing state).value
unfolding EachFeeds times
each_feeds feeds zero drawing all state = tt
each_feeds feeds (suc n) drawing all state = (all state, each_feeds feeds n drawing all (drawing state).state)

one_each : (texts : List (List ℕ)) → EachFeeds 1 texts → Feeds (length texts) (concat texts)
unfolding EachFeeds
one_each [] each = record { are = refl }
one_each (bytes ∷ rest) each = record { are = omega (arith, (feeds_append 1 (length rest) bytes (concat rest) each.0 (one_each rest each.1)).are) }

none_joined : (texts : List (List ℕ)) → EachFeeds 0 texts → Feeds 0 (join_with_byte 32 texts)
unfolding EachFeeds
none_joined [] each = record { are = refl }
none_joined (bytes ∷ []) each = each.0
none_joined (bytes ∷ next ∷ rest) each =
    let joined = join_with_byte 32 (next ∷ rest) in
    none_append bytes (32 ∷ joined) each.0 (feeds_cons 0 32 joined (λ e. omega (arith, e)) (none_joined (next ∷ rest) each.1))

none_in_letters : (count state : ℕ) → Feeds 0 (times count letter state).value
unfolding times letter
none_in_letters zero state = record { are = refl }
none_in_letters (suc n) state =
    let number = draw 26 state in
    feeds_cons 0 (97 + number.value) (times n letter number.state).value (λ e. omega (arith, e)) (none_in_letters n number.state)

none_in_word : (state : ℕ) → Feeds 0 (word state).value
unfolding word
none_in_word state = none_in_letters (1 + (draw 9 state).value) (draw 9 state).state

one_in_line : (state : ℕ) → Feeds 1 (line state).value
unfolding line
one_in_line state =
    let tabs = draw 4 state in
    let count = draw 20 tabs.state in
    let joined = join_with_byte 32 (times count.value word count.state).value in
    feeds_append 0 1 (replicate tabs.value 9) (joined ++ (10 ∷ [])) (none_in_replicate tabs.value 9 (λ e. omega (arith, e)))
    (feeds_append 0 1 joined (10 ∷ []) (none_joined (times count.value word count.state).value (each_feeds 0 count.value word none_in_word count.state)) (record { are = refl }))

text_feeds : (count state : ℕ) → Feeds count (text_lines count state).value
unfolding text_lines
text_feeds count state =
    let drawn = times count line state in
    record { are = (one_each drawn.value (each_feeds 1 count line one_in_line state)).are ∙ times-length count line state }

none_in_edit : (text_length state : ℕ) → Feeds 0 (edit_line text_length state).value.bytes
unfolding edit_line
none_in_edit text_length state =
    let start = draw (text_length + 1) state in
    let more = draw 40 start.state in
    let end = min text_length (start.value + more.value) in
    let start_fits = draw-fits (text_length + 1) state in
    let more_fits = draw-fits 40 start.state in
    let end_fits : end < 2 ^ 64 = omega (arith, start_fits, more_fits) in
    none_append (codes "{\"edit\":[[") _ (record { are = refl })
    (none_append (decimal start.value) _ (none_in_decimal start.value (omega (arith, start_fits)))
    (none_append (codes ",") _ (record { are = refl })
    (none_append (decimal end) _ (none_in_decimal end end_fits)
    (none_append (codes ",\"") _ (record { are = refl })
    (none_append (word more.state).value (codes "\"]]}") (none_in_word more.state) (record { are = refl }))))))

none_in_inlay : (id text_length state : ℕ) → id < 2 ^ 64 → Feeds 0 (inlay_line id text_length state).value
unfolding inlay_line
none_in_inlay id text_length state id_fits =
    let offset = draw (text_length + 1) state in
    none_append (codes "{\"inlay\":[") _ (record { are = refl })
    (none_append (decimal id) _ (none_in_decimal id id_fits)
    (none_append (codes ",") _ (record { are = refl })
    (none_append (decimal offset.value) _ (none_in_decimal offset.value (omega (arith, draw-fits (text_length + 1) state)))
    (none_append (codes ",\"right\",\": ") _ (record { are = refl })
    (none_append (word offset.state).value (codes "\"]}") (none_in_word offset.state) (record { are = refl }))))))

none_in_fold : (id text_length state : ℕ) → id < 2 ^ 64 → Feeds 0 (fold_line id text_length state).value
unfolding fold_line
none_in_fold id text_length state id_fits =
    let start = draw (text_length + 1) state in
    let more = draw 200 start.state in
    let end = min text_length (start.value + 1 + more.value) in
    let start_fits = draw-fits (text_length + 1) state in
    let more_fits = draw-fits 200 start.state in
    let end_fits : end < 2 ^ 64 = omega (arith, start_fits, more_fits) in
    none_append (codes "{\"fold\":[") _ (record { are = refl })
    (none_append (decimal id) _ (none_in_decimal id id_fits)
    (none_append (codes ",") _ (record { are = refl })
    (none_append (decimal start.value) _ (none_in_decimal start.value (omega (arith, start_fits)))
    (none_append (codes ",") _ (record { are = refl })
    (none_append (decimal end) (codes "]}") (none_in_decimal end end_fits) (record { are = refl }))))))

none_in_block : (id state : ℕ) → id < 2 ^ 64 → Feeds 0 (block_line id state).value
unfolding block_line
none_in_block id state id_fits =
    let row = draw 20000 state in
    none_append (codes "{\"block\":[") _ (record { are = refl })
    (none_append (decimal id) _ (none_in_decimal id id_fits)
    (none_append (codes ",\"above\",") _ (record { are = refl })
    (none_append (decimal row.value) _ (none_in_decimal row.value (omega (arith, draw-fits 20000 state)))
    (none_append (codes ",[\"") _ (record { are = refl })
    (none_append (word row.state).value (codes "\"]]}") (none_in_word row.state) (record { are = refl }))))))

none_in_width : (state : ℕ) → Feeds 0 (width_line state).value
unfolding width_line
none_in_width state =
    let width = 20 + (draw 100 state).value in
    none_append (codes "{\"width\":") _ (record { are = refl })
    (none_append (decimal width) (codes "}") (none_in_decimal width (omega (arith, draw-fits 100 state))) (record { are = refl }))

none_in_rows : (state : ℕ) → Feeds 0 (rows_line state).value
unfolding rows_line
none_in_rows state =
    let first = (draw 20000 state).value in
    none_append (codes "{\"rows\":[") _ (record { are = refl })
    (none_append (decimal first) (codes ",5]}") (none_in_decimal first (omega (arith, draw-fits 20000 state))) (record { are = refl }))

none_in_display : (text_length state : ℕ) → Feeds 0 (display_line text_length state).value
unfolding display_line
none_in_display text_length state =
    let offset = (draw (text_length + 1) state).value in
    none_append (codes "{\"display\":[") _ (record { are = refl })
    (none_append (decimal offset) (codes ",\"left\"]}") (none_in_decimal offset (omega (arith, draw-fits (text_length + 1) state))) (record { are = refl }))

none_in_other : (choice number text_length state : ℕ) → number < 2 ^ 64 → Feeds 0 (other_line choice number text_length state).value
none_in_other choice number text_length state fits =
    let P : Drawing (List ℕ) → Type 0 = λ drawing. Feeds 0 (drawing state).value in
    if_both P (choice == 4) _ _ (none_in_inlay number text_length state fits)
    (if_both P (choice == 5) _ _ (none_in_fold number text_length state fits)
    (if_both P (choice == 6) _ _ (none_in_block number state fits)
    (if_both P (choice == 7) _ _ (none_in_width state)
    (if_both P (choice == 8) _ _ (none_in_rows state) (none_in_display text_length state)))))

none_in_script_line : (number text_length state : ℕ) → number < 2 ^ 64 → Feeds 0 (script_line number text_length state).value.bytes
unfolding script_line
none_in_script_line number text_length state fits =
    let choice = draw 10 state in
    let P : Drawing ScriptLine → Type 0 = λ drawing. Feeds 0 (drawing choice.state).value.bytes in
    if_both P (nat_le choice.value 3) _ _ (none_in_edit text_length choice.state) (none_in_other choice.value number text_length choice.state fits)

script_feeds : (count number text_length state : ℕ) → number + count < 2 ^ 64 → Feeds count (script_lines count number text_length state).value
unfolding script_lines
script_feeds zero number text_length state fits = record { are = refl }
script_feeds (suc n) number text_length state fits =
    let first = script_line number text_length state in
    let rest = script_lines n (number + 1) first.value.text_length first.state in
    record {
      are = omega (
        arith,
        (feeds_append 0 (suc n) first.value.bytes (10 ∷ rest.value) (none_in_script_line number text_length state (omega (arith, fits)))
            (feeds_behind n rest.value (script_feeds n (number + 1) first.value.text_length first.state (omega (arith, fits))))).are,
      );
    }

pub made_text-lines : (number : ℕ) → line_count (made_of number).text ≡ 20001
unfolding made_of drawn_input
made_text-lines number = line_count-is (text_lines 20000 number).value ∙ ap (λ (n : ℕ). n + 1) (text_feeds 20000 number).are

pub made_script-lines : (number : ℕ) → line_count (made_of number).script ≡ 401
unfolding made_of drawn_input
made_script-lines number =
    let text = text_lines 20000 number in
    line_count-is (script_lines 400 1 (length text.value) text.state).value ∙ ap (λ (n : ℕ). n + 1) (script_feeds 400 1 (length text.value) text.state (lit< tt)).are
