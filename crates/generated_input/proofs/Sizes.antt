-- How long what is drawn is, and of which bytes.
use Rattle.std.proofs.Common.{◌≡◌, ◌≢◌, ℕ, ◌+◌, ◌*◌, ◌/◌, ◌^◌, ◌<◌, ◌≤◌, zero, suc, Bool, true, false, ◌==◌, ◌&&◌, not, nat_lt, nat_le, min, if◌then◌else◌, List, [], ◌∷◌, ◌++◌, length, replicate, refl, ap, subst, arith, length-append, lit<, lit≤}
use Rattle.std.specs.Prelude.{codes, decimal}
use Rattle.std.specs.List.{concat, join_with_byte}
use Rattle.std.specs.Str.Parse.{AllDigits}
use Rattle.std.proofs.Math.Nat.{mod-lt, mod-le, div-lt_iff_lt-mul}
use Rattle.std.proofs.lemmas.Bool.{and_parts}
use Rattle.std.proofs.lemmas.Bool.Decides.{nat_tests}
use Rattle.std.proofs.lemmas.Fmt.{IsAscii-decimal, decimal_is_IsNumeral, length-decimal-le}
use Rattle.std.proofs.lemmas.List.Elements.{All-append}
use Rattle.std.proofs.lemmas.Str.{IsAscii-append}
use Rattle.std.proofs.lemmas.Str.Ascii.{IsAscii-nil, IsAscii-cons}
use Rattle.cell_units.specs.Text.{carriage_return}
use Rattle.cell_units.specs.Laws.{HasNoReturn}
use Rattle.generated_input.specs.Drawing.{Drawing, draw, next, times}
use Rattle.generated_input.specs.Laws.{IsPlain}
use Rattle.generated_input.specs.Made.{letter, word, line, text_lines, ScriptLine, other_line, edit_line, inlay_line, fold_line, block_line, width_line, rows_line, display_line, script_line, script_lines}

-- at most so many bytes, each of them ASCII and no carriage return
pub record IsShort (most : ℕ) (bytes : List ℕ) : Type 0 where
  pub size : length bytes ≤ most
  pub plain : IsPlain bytes

pub short_nil : IsShort 0 []
short_nil = record { size = lit≤ tt; plain = record { ascii = IsAscii-nil; no_return = λ k d h. absurd (omega (arith, h)) } }

no_return_cons : (b : ℕ) (bytes : List ℕ) → b ≢ 13 → HasNoReturn bytes → HasNoReturn (b ∷ bytes)
no_return_cons b bytes other rest zero d h = other
no_return_cons b bytes other rest (suc k) d h = rest k d (omega (arith, h))

pub short_cons : (most b : ℕ) (bytes : List ℕ) → b < 128 → b ≢ 13 → IsShort most bytes → IsShort (suc most) (b ∷ bytes)
short_cons most b bytes ascii other short =
    record {
      size = omega (arith, short.size);
      plain = record { ascii = IsAscii-cons b bytes ascii short.plain.ascii; no_return = no_return_cons b bytes other short.plain.no_return };
    }

pub short_append : (m n : ℕ) (xs ys : List ℕ) → IsShort m xs → IsShort n ys → IsShort (m + n) (xs ++ ys)
short_append m n xs ys first second =
    record {
      size = omega (arith, length-append xs ys, first.size, second.size);
      plain = record {
        ascii = IsAscii-append xs ys first.plain.ascii second.plain.ascii;
        no_return = All-append (λ b. b ≢ carriage_return) xs ys first.plain.no_return second.plain.no_return;
      };
    }

pub short_within : (m n : ℕ) (bytes : List ℕ) → m ≤ n → IsShort m bytes → IsShort n bytes
short_within m n bytes within short = record { size = omega (arith, short.size); plain = short.plain }

-- whether each byte is ASCII and no carriage return
abbrev pub plain_test : List ℕ → Bool
plain_test [] = true
plain_test (b ∷ bytes) = (nat_lt b 128 && not (b == 13)) && plain_test bytes

pub short_tested : (bytes : List ℕ) → plain_test bytes ≡ true → IsShort (length bytes) bytes
short_tested [] h = short_nil
short_tested (b ∷ bytes) h =
    let parts = and_parts (nat_lt b 128 && not (b == 13)) (plain_test bytes) h in
    let tests = and_parts (nat_lt b 128) (not (b == 13)) parts.0 in
    short_cons (length bytes) b bytes (grind (arith, nat_tests, tests.0)) (λ e. grind (arith, nat_tests, tests.1, e)) (short_tested bytes parts.1)

-- digits are no carriage returns
no_return_in_digits : (bytes : List ℕ) → AllDigits 10 bytes → HasNoReturn bytes
no_return_in_digits [] h = λ k d l. absurd (omega (arith, l))
no_return_in_digits (b ∷ bytes) h = no_return_cons b bytes (λ e. grind (arith, nat_tests, e, h.0)) (no_return_in_digits bytes h.1)

pub short_decimal : (n : ℕ) → n < 2 ^ 64 → IsShort 20 (decimal n)
short_decimal n h =
    record {
      size = length-decimal-le 20 n (lit< tt) (omega (arith, h)) h;
      plain = record { ascii = IsAscii-decimal n h; no_return = no_return_in_digits (decimal n) (decimal_is_IsNumeral n h).0.1 };
    }

pub short_replicate : (n b : ℕ) → b < 128 → b ≢ 13 → IsShort n (replicate n b)
short_replicate zero b ascii other = short_nil
short_replicate (suc n) b ascii other = short_cons n b (replicate n b) ascii other (short_replicate n b ascii other)

pub draw-below : (m state : ℕ) → 0 < m → (draw m state).value < m
unfolding draw
draw-below m state some = mod-lt (next state / 2 ^ 33) some

pub draw-fits : (m state : ℕ) → (draw m state).value < 2 ^ 31
unfolding draw
draw-fits m state =
    let small : next state < 2 ^ 64 = mod-lt (state * 6364136223846793005 + 1442695040888963407) (lit< tt) in
    let quotient : next state / 2 ^ 33 < 2 ^ 31 = (div-lt_iff_lt-mul {k = 2 ^ 33} {x = next state} {y = 2 ^ 31} (lit< tt)).1 small in
    omega (arith, mod-le (next state / 2 ^ 33) m, quotient)

-- each of some texts is at most so long
EachShort : ℕ → List (List ℕ) → Type 0
EachShort most [] = Unit {0}
EachShort most (bytes ∷ rest) = IsShort most bytes × EachShort most rest

each_drawn : (most count : ℕ) (drawing : Drawing (List ℕ)) → ((state : ℕ) → IsShort most (drawing state).value) → (state : ℕ) → EachShort most (times count drawing state).value
unfolding EachShort times
each_drawn most zero drawing short state = tt
each_drawn most (suc n) drawing short state = (short state, each_drawn most n drawing short (drawing state).state)

pub times-length : {A : Type 0} (count : ℕ) (drawing : Drawing A) (state : ℕ) → length (times count drawing state).value ≡ count
unfolding times
times-length zero drawing state = refl
times-length (suc n) drawing state = ap (λ (k : ℕ). suc k) (times-length n drawing (drawing state).state)

short_concat : (most : ℕ) (texts : List (List ℕ)) → EachShort most texts → IsShort (length texts * most) (concat texts)
unfolding EachShort
short_concat most [] each = short_within 0 (0 * most) [] (omega arith) short_nil
short_concat most (bytes ∷ rest) each =
    short_within (most + length rest * most) (suc (length rest) * most) (bytes ++ concat rest) (omega arith)
    (short_append most (length rest * most) bytes (concat rest) each.0 (short_concat most rest each.1))

short_joined : (most : ℕ) (texts : List (List ℕ)) → EachShort most texts → IsShort (length texts * (most + 1)) (join_with_byte 32 texts)
unfolding EachShort
short_joined most [] each = short_within 0 (0 * (most + 1)) [] (omega arith) short_nil
short_joined most (bytes ∷ []) each = short_within most (1 * (most + 1)) bytes (omega arith) each.0
short_joined most (bytes ∷ next ∷ rest) each =
    let joined = join_with_byte 32 (next ∷ rest) in
    let size = length (next ∷ rest) * (most + 1) in
    short_within (most + suc size) (suc (length (next ∷ rest)) * (most + 1)) (bytes ++ (32 ∷ joined)) (omega arith)
    (short_append most (suc size) bytes (32 ∷ joined) each.0
    (short_cons size 32 joined (lit< tt) (λ e. omega (arith, e)) (short_joined most (next ∷ rest) each.1)))

letters_short : (count state : ℕ) → IsShort count (times count letter state).value
unfolding times letter
letters_short zero state = short_nil
letters_short (suc n) state =
    let number = draw 26 state in
    let below = draw-below 26 state (lit< tt) in
    short_cons n (97 + number.value) (times n letter number.state).value (omega (arith, below)) (λ e. omega (arith, e)) (letters_short n number.state)

pub word_short : (state : ℕ) → IsShort 9 (word state).value
unfolding word
word_short state =
    let more = draw 9 state in
    short_within (1 + more.value) 9 (word state).value (omega (arith, draw-below 9 state (lit< tt))) (letters_short (1 + more.value) more.state)

pub line_short : (state : ℕ) → IsShort 194 (line state).value
unfolding line
line_short state =
    let tabs = draw 4 state in
    let count = draw 20 tabs.state in
    let words = times count.value word count.state in
    let few = times-length count.value word count.state in
    let tabs_below = draw-below 4 state (lit< tt) in
    let words_below = draw-below 20 tabs.state (lit< tt) in
    let joined = join_with_byte 32 words.value in
    let size = length words.value * 10 in
    short_within (tabs.value + (size + 1)) 194 (line state).value (omega (arith, tabs_below, words_below, few))
    (short_append tabs.value (size + 1) (replicate tabs.value 9) (joined ++ (10 ∷ [])) (short_replicate tabs.value 9 (lit< tt) (λ e. omega (arith, e)))
    (short_append size 1 joined (10 ∷ []) (short_joined 9 words.value (each_drawn 9 count.value word word_short count.state)) (short_tested (10 ∷ []) refl)))

pub text_short : (count state : ℕ) → IsShort (count * 194) (text_lines count state).value
unfolding text_lines
text_short count state =
    let drawn = times count line state in
    let short = short_concat 194 drawn.value (each_drawn 194 count line line_short state) in
    subst (λ (n : ℕ). IsShort (n * 194) (concat drawn.value)) (times-length count line state) short

pub if_both : {A : Type 0} (P : A → Type 0) (b : Bool) (x y : A) → P x → P y → P (if b then x else y)
if_both P true x y p q = p
if_both P false x y p q = q

edit_short : (text_length state : ℕ) → IsShort 80 (edit_line text_length state).value.bytes
unfolding edit_line
edit_short text_length state =
    let start = draw (text_length + 1) state in
    let more = draw 40 start.state in
    let text = word more.state in
    let end = min text_length (start.value + more.value) in
    let start_fits = draw-fits (text_length + 1) state in
    let more_fits = draw-fits 40 start.state in
    let end_fits : end < 2 ^ 64 = omega (arith, start_fits, more_fits) in
    short_within 66 80 (edit_line text_length state).value.bytes (lit≤ tt)
    (short_append 10 56 _ _ (short_tested (codes "{\"edit\":[[") refl)
    (short_append 20 36 _ _ (short_decimal start.value (omega (arith, start_fits)))
    (short_append 1 35 _ _ (short_tested (codes ",") refl)
    (short_append 20 15 _ _ (short_decimal end end_fits)
    (short_append 2 13 _ _ (short_tested (codes ",\"") refl)
    (short_append 9 4 _ _ (word_short more.state) (short_tested (codes "\"]]}") refl)))))))

inlay_short : (id text_length state : ℕ) → id < 2 ^ 64 → IsShort 80 (inlay_line id text_length state).value
unfolding inlay_line
inlay_short id text_length state id_fits =
    let offset = draw (text_length + 1) state in
    short_within 75 80 (inlay_line id text_length state).value (lit≤ tt)
    (short_append 10 65 _ _ (short_tested (codes "{\"inlay\":[") refl)
    (short_append 20 45 _ _ (short_decimal id id_fits)
    (short_append 1 44 _ _ (short_tested (codes ",") refl)
    (short_append 20 24 _ _ (short_decimal offset.value (omega (arith, draw-fits (text_length + 1) state)))
    (short_append 12 12 _ _ (short_tested (codes ",\"right\",\": ") refl)
    (short_append 9 3 _ _ (word_short offset.state) (short_tested (codes "\"]}") refl)))))))

fold_short : (id text_length state : ℕ) → id < 2 ^ 64 → IsShort 80 (fold_line id text_length state).value
unfolding fold_line
fold_short id text_length state id_fits =
    let start = draw (text_length + 1) state in
    let more = draw 200 start.state in
    let end = min text_length (start.value + 1 + more.value) in
    let start_fits = draw-fits (text_length + 1) state in
    let more_fits = draw-fits 200 start.state in
    let end_fits : end < 2 ^ 64 = omega (arith, start_fits, more_fits) in
    short_within 73 80 (fold_line id text_length state).value (lit≤ tt)
    (short_append 9 64 _ _ (short_tested (codes "{\"fold\":[") refl)
    (short_append 20 44 _ _ (short_decimal id id_fits)
    (short_append 1 43 _ _ (short_tested (codes ",") refl)
    (short_append 20 23 _ _ (short_decimal start.value (omega (arith, start_fits)))
    (short_append 1 22 _ _ (short_tested (codes ",") refl)
    (short_append 20 2 _ _ (short_decimal end end_fits) (short_tested (codes "]}") refl)))))))

block_short : (id state : ℕ) → id < 2 ^ 64 → IsShort 80 (block_line id state).value
unfolding block_line
block_short id state id_fits =
    let row = draw 20000 state in
    short_within 75 80 (block_line id state).value (lit≤ tt)
    (short_append 10 65 _ _ (short_tested (codes "{\"block\":[") refl)
    (short_append 20 45 _ _ (short_decimal id id_fits)
    (short_append 9 36 _ _ (short_tested (codes ",\"above\",") refl)
    (short_append 20 16 _ _ (short_decimal row.value (omega (arith, draw-fits 20000 state)))
    (short_append 3 13 _ _ (short_tested (codes ",[\"") refl)
    (short_append 9 4 _ _ (word_short row.state) (short_tested (codes "\"]]}") refl)))))))

width_short : (state : ℕ) → IsShort 80 (width_line state).value
unfolding width_line
width_short state =
    short_within 30 80 (width_line state).value (lit≤ tt)
    (short_append 9 21 _ _ (short_tested (codes "{\"width\":") refl)
    (short_append 20 1 _ _ (short_decimal (20 + (draw 100 state).value) (omega (arith, draw-fits 100 state))) (short_tested (codes "}") refl)))

rows_short : (state : ℕ) → IsShort 80 (rows_line state).value
unfolding rows_line
rows_short state =
    short_within 33 80 (rows_line state).value (lit≤ tt)
    (short_append 9 24 _ _ (short_tested (codes "{\"rows\":[") refl)
    (short_append 20 4 _ _ (short_decimal (draw 20000 state).value (omega (arith, draw-fits 20000 state))) (short_tested (codes ",5]}") refl)))

display_short : (text_length state : ℕ) → IsShort 80 (display_line text_length state).value
unfolding display_line
display_short text_length state =
    short_within 41 80 (display_line text_length state).value (lit≤ tt)
    (short_append 12 29 _ _ (short_tested (codes "{\"display\":[") refl)
    (short_append 20 9 _ _ (short_decimal (draw (text_length + 1) state).value (omega (arith, draw-fits (text_length + 1) state))) (short_tested (codes ",\"left\"]}") refl)))

other_short : (choice number text_length state : ℕ) → number < 2 ^ 64 → IsShort 80 (other_line choice number text_length state).value
other_short choice number text_length state fits =
    let P : Drawing (List ℕ) → Type 0 = λ drawing. IsShort 80 (drawing state).value in
    if_both P (choice == 4) _ _ (inlay_short number text_length state fits)
    (if_both P (choice == 5) _ _ (fold_short number text_length state fits)
    (if_both P (choice == 6) _ _ (block_short number state fits)
    (if_both P (choice == 7) _ _ (width_short state)
    (if_both P (choice == 8) _ _ (rows_short state) (display_short text_length state)))))

pub edit-length : (text_length state : ℕ) → (edit_line text_length state).value.text_length ≤ text_length + 9
unfolding edit_line
edit-length text_length state =
    let start = draw (text_length + 1) state in
    let more = draw 40 start.state in
    omega (arith, (word_short more.state).size)

script_line_short : (number text_length state : ℕ) → number < 2 ^ 64 → IsShort 80 (script_line number text_length state).value.bytes
unfolding script_line
script_line_short number text_length state fits =
    let choice = draw 10 state in
    let P : Drawing ScriptLine → Type 0 = λ drawing. IsShort 80 (drawing choice.state).value.bytes in
    if_both P (nat_le choice.value 3) _ _ (edit_short text_length choice.state) (other_short choice.value number text_length choice.state fits)

pub script_short : (count number text_length state : ℕ) → number + count < 2 ^ 64 → IsShort (count * 81) (script_lines count number text_length state).value
unfolding script_lines
script_short zero number text_length state fits = short_within 0 (0 * 81) [] (omega arith) short_nil
script_short (suc n) number text_length state fits =
    let first = script_line number text_length state in
    let rest = script_lines n (number + 1) first.value.text_length first.state in
    short_within (80 + suc (n * 81)) (suc n * 81) (first.value.bytes ++ (10 ∷ rest.value)) (omega arith)
    (short_append 80 (suc (n * 81)) first.value.bytes (10 ∷ rest.value) (script_line_short number text_length state (omega (arith, fits)))
    (short_cons (n * 81) 10 rest.value (lit< tt) (λ e. omega (arith, e))
    (script_short n (number + 1) first.value.text_length first.state (omega (arith, fits)))))
