-- Each text of a value that is read from UTF-8 is UTF-8.
use Rattle.std.proofs.Common.{◌≡◌, ℕ, zero, suc, ◌==◌, Bool, true, false, cond, List, [], ◌∷◌, ◌++◌, length, Option, Some, None, option_and_then, option_map, IfSome, IsUtf8, sym, subst, arith, append_assoc}
use Rattle.std.specs.Prelude.{⊤}
use Rattle.std.specs.List.{AllByRecursion}
use Rattle.std.specs.Ordering.{match_ordering, nat_cmp}
use Rattle.std.specs.Cmp.Lexicographic.{slice_cmp}
use Rattle.std.specs.declared.cmp.Ordering.{Ordering}
use Rattle.std.specs.declared.cmp.Ordering.TheVariants.{Less, Equal, Greater}
use Rattle.std.proofs.lemmas.Bool.{cond_both, eqb-true}
use Rattle.json.specs.Ascii as ascii
use Rattle.json.specs.Token.{Token}
use Rattle.json.specs.Text.{content, plain}
use Rattle.json.specs.Word.{after_number, ends_word, head, is_operator, is_space, number_before, word}
use Rattle.json.specs.Lex.{Class, Lexeme, Mode, Place, after_comma, after_key, after_value, backslash, begins_colon, between, class, colon, comma, fresh, if_allowed, in_escape, in_string, in_word, lex, lex_byte, may_begin, may_close, operator, operator_lexeme, other, place_token, punctuate, quote, space, string_token, token, tokens}
use Rattle.json.specs.Json as json
use Rattle.json.specs.Json.{Parse, after_end_array, if_last, items_step, members_step, parse_map, read_key, value_with}
use Rattle.serde_json.specs.Data.{Data, Num, Items, Members, array, boolean, item, member, no_items, no_members, null, number, object, put, string}
use Rattle.serde_json.specs.Read.{max_depth, number_of, of_items, of_json, of_members, read}
use Rattle.display_cli.proofs.SpelledStrings.{after_byte, content-utf8}

-- ---- lexemes

-- a string that is read is UTF-8
abbrev IsGoodToken : Token → Type 0
IsGoodToken (Token.string s) = IsUtf8 s
IsGoodToken _ = ⊤

abbrev IsGoodLexeme : Lexeme → Type 0
IsGoodLexeme (token t) = IsGoodToken t
IsGoodLexeme comma = ⊤
IsGoodLexeme colon = ⊤

abbrev AreGoodLexemes : List Lexeme → Type 0
AreGoodLexemes lexemes = AllByRecursion IsGoodLexeme lexemes

abbrev AreGoodTokens : List Token → Type 0
AreGoodTokens tokens = AllByRecursion IsGoodToken tokens

good_string : (o : Option (List ℕ)) → IfSome o IsUtf8 → IsGoodToken (string_token o)
good_string None h = tt
good_string (Some s) h = h

good_literal : (b : Bool) (t : Token) → IsGoodToken t → IsGoodToken (cond b t Token.bad)
good_literal true t h = h
good_literal false t h = tt

good_number : (text : List ℕ) (o : Option (List ℕ)) → IsGoodToken (number_before text o)
good_number text None = tt
good_number text (Some rest) = good_literal (ends_word rest) (Token.number _) tt

good_word : (text : List ℕ) → IsGoodToken (word text)
unfolding word
good_word text =
    cond_both (head text == ascii.lower_t) _ _ IsGoodToken (λ e. good_literal _ (Token.boolean true) tt)
    (λ e. cond_both (head text == ascii.lower_f) _ _ IsGoodToken (λ e. good_literal _ (Token.boolean false) tt)
    (λ e. cond_both (head text == ascii.lower_n) _ _ IsGoodToken (λ e. good_literal _ Token.null tt) (λ e. good_number text (after_number text))))

good_operator : (x : ℕ) → IsGoodLexeme (operator_lexeme x)
good_operator x =
    cond_both (x == ascii.open_brace) _ _ IsGoodLexeme (λ e. tt)
    (λ e. cond_both (x == ascii.close_brace) _ _ IsGoodLexeme (λ e. tt)
    (λ e. cond_both (x == ascii.open_bracket) _ _ IsGoodLexeme (λ e. tt)
    (λ e. cond_both (x == ascii.close_bracket) _ _ IsGoodLexeme (λ e. tt)
    (λ e. cond_both (x == ascii.comma) _ _ IsGoodLexeme (λ e. tt) (λ e. tt)))))

-- after a quote comes the content of a string
abbrev GoesOn : Class → List ℕ → Type 0
GoesOn quote xs = IfSome (content plain xs) IsUtf8
GoesOn backslash xs = ⊤
GoesOn operator xs = ⊤
GoesOn space xs = ⊤
GoesOn other xs = ⊤

goes_on : (x : ℕ) (xs : List ℕ) → (x ≡ 34 → IsUtf8 xs) → GoesOn (class x) xs
goes_on x xs h =
    let P : Class → Type 0 = λ c. GoesOn c xs in
    cond_both (x == ascii.quote) quote _ P (λ e. content-utf8 xs (h (eqb-true x 34 e)))
    (λ e. cond_both (x == ascii.backslash) backslash _ P (λ e. tt)
    (λ e. cond_both (is_operator x) operator _ P (λ e. tt) (λ e. cond_both (is_space x) space other P (λ e. tt) (λ e. tt))))

good_byte : (m : Mode) (c : Class) (x : ℕ) (xs : List ℕ) (k : Mode → List Lexeme) → GoesOn c xs → ((next : Mode) → AreGoodLexemes (k next)) → AreGoodLexemes (lex_byte m c x xs k)
good_byte between quote x xs k h rest = (good_string (content plain xs) h, rest in_string)
good_byte between backslash x xs k h rest = (tt, rest in_word)
good_byte between operator x xs k h rest = (good_operator x, rest between)
good_byte between space x xs k h rest = rest between
good_byte between other x xs k h rest = (good_word (x ∷ xs), rest in_word)
good_byte in_word quote x xs k h rest = rest in_word
good_byte in_word backslash x xs k h rest = rest in_word
good_byte in_word operator x xs k h rest = (good_operator x, rest between)
good_byte in_word space x xs k h rest = rest between
good_byte in_word other x xs k h rest = rest in_word
good_byte in_string quote x xs k h rest = rest between
good_byte in_string backslash x xs k h rest = rest in_escape
good_byte in_string operator x xs k h rest = rest in_string
good_byte in_string space x xs k h rest = rest in_string
good_byte in_string other x xs k h rest = rest in_string
good_byte in_escape c x xs k h rest = rest in_string

good_lexemes : (m : Mode) (before xs : List ℕ) → IsUtf8 (before ++ xs) → AreGoodLexemes (lex m xs)
unfolding lex
good_lexemes m before [] u = tt
good_lexemes m before (x ∷ xs) u =
    good_byte m (class x) x xs (λ next. lex next xs) (goes_on x xs (λ e. after_byte before x xs (omega (arith, e)) u))
    (λ next. good_lexemes next (before ++ x ∷ []) xs (subst IsUtf8 (sym (append_assoc before (x ∷ []) xs)) u))

-- ---- tokens

good_allowed : (b : Bool) (t : Token) (k : Place → List Token) (next : Place) → IsGoodToken t → AreGoodTokens (k next) → AreGoodTokens (if_allowed b t k next)
good_allowed true t k next h rest = (h, rest)
good_allowed false t k next h rest = (tt, tt)

good_place : (p : Place) (t : Token) (before_colon : Bool) (k : Place → List Token) → IsGoodToken t → ((next : Place) → AreGoodTokens (k next)) → AreGoodTokens (place_token p t before_colon k)
good_place p Token.begin_object before_colon k h rest = good_allowed (may_begin p) Token.begin_object k fresh tt (rest fresh)
good_place p Token.end_object before_colon k h rest = good_allowed (may_close p) Token.end_object k after_value tt (rest after_value)
good_place p Token.begin_array before_colon k h rest = good_allowed (may_begin p) Token.begin_array k fresh tt (rest fresh)
good_place p Token.end_array before_colon k h rest = good_allowed (may_close p) Token.end_array k after_value tt (rest after_value)
good_place p (Token.key s) before_colon k h rest = (tt, tt)
good_place p (Token.string s) true k h rest = good_allowed (may_begin p) (Token.key s) k after_key tt (rest after_key)
good_place p (Token.string s) false k h rest = good_allowed (may_begin p) (Token.string s) k after_value h (rest after_value)
good_place p (Token.number s) before_colon k h rest = good_allowed (may_begin p) (Token.number s) k after_value tt (rest after_value)
good_place p (Token.boolean b) before_colon k h rest = good_allowed (may_begin p) (Token.boolean b) k after_value tt (rest after_value)
good_place p Token.null before_colon k h rest = good_allowed (may_begin p) Token.null k after_value tt (rest after_value)
good_place p Token.bad before_colon k h rest = (tt, tt)

good_tokens : (p : Place) (ls : List Lexeme) → AreGoodLexemes ls → AreGoodTokens (punctuate p ls)
unfolding punctuate
good_tokens fresh [] h = tt
good_tokens after_value [] h = tt
good_tokens after_comma [] h = (tt, tt)
good_tokens after_key [] h = (tt, tt)
good_tokens fresh (token t ∷ ls) h = good_place fresh t (begins_colon ls) (λ next. punctuate next ls) h.0 (λ next. good_tokens next ls h.1)
good_tokens after_value (token t ∷ ls) h = good_place after_value t (begins_colon ls) (λ next. punctuate next ls) h.0 (λ next. good_tokens next ls h.1)
good_tokens after_comma (token t ∷ ls) h = good_place after_comma t (begins_colon ls) (λ next. punctuate next ls) h.0 (λ next. good_tokens next ls h.1)
good_tokens after_key (token t ∷ ls) h = good_place after_key t (begins_colon ls) (λ next. punctuate next ls) h.0 (λ next. good_tokens next ls h.1)
good_tokens fresh (comma ∷ ls) h = (tt, tt)
good_tokens after_value (comma ∷ ls) h = good_tokens after_comma ls h.1
good_tokens after_comma (comma ∷ ls) h = (tt, tt)
good_tokens after_key (comma ∷ ls) h = (tt, tt)
good_tokens fresh (colon ∷ ls) h = (tt, tt)
good_tokens after_value (colon ∷ ls) h = (tt, tt)
good_tokens after_comma (colon ∷ ls) h = (tt, tt)
good_tokens after_key (colon ∷ ls) h = good_tokens fresh ls h.1

-- ---- values

-- each text of a value is UTF-8, but for the keys
abbrev mutual
  HasUtf8 : json.Json → Type 0
  HasUtf8 json.null = ⊤
  HasUtf8 (json.boolean b) = ⊤
  HasUtf8 (json.number s) = ⊤
  HasUtf8 (json.string s) = IsUtf8 s
  HasUtf8 (json.array js) = HaveUtf8 js
  HasUtf8 (json.object ms) = MembersHaveUtf8 ms

  HaveUtf8 : json.Items → Type 0
  HaveUtf8 json.no_items = ⊤
  HaveUtf8 (json.item j js) = HasUtf8 j × HaveUtf8 js

  MembersHaveUtf8 : json.Members → Type 0
  MembersHaveUtf8 json.no_members = ⊤
  MembersHaveUtf8 (json.member k j ms) = HasUtf8 j × MembersHaveUtf8 ms

-- what was read, and the tokens after it
abbrev Reads : {A : Type 0} → (A → Type 0) → Option (A × List Token) → Type 0
Reads P o = IfSome o (λ p. P p.0 × AreGoodTokens p.1)

abbrev AlwaysReads : {A : Type 0} → (A → Type 0) → Parse A → Type 0
AlwaysReads P p = (ts : List Token) → AreGoodTokens ts → Reads P (p ts)

mapped : {A B : Type 0} (P : A → Type 0) (Q : B → Type 0) (f : A → B) → ((a : A) → P a → Q (f a)) → (o : Option (A × List Token)) → Reads P o → Reads Q (parse_map f o)
mapped P Q f k None h = tt
mapped P Q f k (Some p) h = (k p.0 h.0, h.1)

and_more : {B : Type 0} (Q : B → Type 0) (f : json.Json → B → B) → ((j : json.Json) (b : B) → HasUtf8 j → Q b → Q (f j b)) → (more : Parse B) → AlwaysReads Q more
    → (o : Option (json.Json × List Token)) → Reads HasUtf8 o → Reads Q (option_and_then (λ q. parse_map (f q.0) (more q.1)) o)
and_more Q f k more again None h = tt
and_more Q f k more again (Some q) h = mapped Q Q (f q.0) (λ b y. k q.0 b h.0 y) (more q.1) (again q.1 h.1)

after_array : (ts : List Token) → AreGoodTokens ts → IfSome (after_end_array ts) AreGoodTokens
after_array [] h = tt
after_array (Token.begin_object ∷ ts) h = tt
after_array (Token.end_object ∷ ts) h = tt
after_array (Token.begin_array ∷ ts) h = tt
after_array (Token.end_array ∷ ts) h = h.1
after_array (Token.key s ∷ ts) h = tt
after_array (Token.string s ∷ ts) h = tt
after_array (Token.number s ∷ ts) h = tt
after_array (Token.boolean b ∷ ts) h = tt
after_array (Token.null ∷ ts) h = tt
after_array (Token.bad ∷ ts) h = tt

after_key_read : (ts : List Token) → AreGoodTokens ts → IfSome (read_key ts) (λ q. AreGoodTokens q.1)
after_key_read [] h = tt
after_key_read (Token.begin_object ∷ ts) h = tt
after_key_read (Token.end_object ∷ ts) h = h.1
after_key_read (Token.begin_array ∷ ts) h = tt
after_key_read (Token.end_array ∷ ts) h = tt
after_key_read (Token.key s ∷ ts) h = h.1
after_key_read (Token.string s ∷ ts) h = tt
after_key_read (Token.number s ∷ ts) h = tt
after_key_read (Token.boolean b ∷ ts) h = tt
after_key_read (Token.null ∷ ts) h = tt
after_key_read (Token.bad ∷ ts) h = tt

module _ (p : Parse json.Json) (reads : AlwaysReads HasUtf8 p) where
  item_turn : (more : Parse json.Items) → AlwaysReads HaveUtf8 more → (ts : List Token) → AreGoodTokens ts → (o : Option (List Token)) → IfSome o AreGoodTokens
      → Reads HaveUtf8 (items_step p more ts o)
  item_turn more again ts h (Some r) g = (tt, g)
  item_turn more again ts h None g = and_more HaveUtf8 json.item (λ j b x y. (x, y)) more again (p ts) (reads ts h)

  good_items : (n : ℕ) → AlwaysReads HaveUtf8 (json.items p n)
  unfolding json.items
  good_items zero ts h = tt
  good_items (suc n) ts h = item_turn (json.items p n) (good_items n) ts h (after_end_array ts) (after_array ts h)

  member_turn : (more : Parse json.Members) → AlwaysReads MembersHaveUtf8 more → (o : Option (Option (List ℕ) × List Token)) → IfSome o (λ q. AreGoodTokens q.1)
      → Reads MembersHaveUtf8 (option_and_then (λ q. members_step p more q.0 q.1) o)
  member_turn more again None g = tt
  member_turn more again (Some (None, s)) g = (tt, g)
  member_turn more again (Some (Some k, s)) g = and_more MembersHaveUtf8 (json.member k) (λ j b x y. (x, y)) more again (p s) (reads s g)

  good_members : (n : ℕ) → AlwaysReads MembersHaveUtf8 (json.members p n)
  unfolding json.members
  good_members zero ts h = tt
  good_members (suc n) ts h = member_turn (json.members p n) (good_members n) (read_key ts) (after_key_read ts h)

one_level : (a : Parse json.Items) (o : Parse json.Members) → ((ts : List Token) → AreGoodTokens ts → Reads HasUtf8 (parse_map json.array (a ts)))
    → ((ts : List Token) → AreGoodTokens ts → Reads HasUtf8 (parse_map json.object (o ts))) → AlwaysReads HasUtf8 (value_with a o)
one_level a o x y [] h = tt
one_level a o x y (Token.begin_object ∷ ts) h = y ts h.1
one_level a o x y (Token.end_object ∷ ts) h = tt
one_level a o x y (Token.begin_array ∷ ts) h = x ts h.1
one_level a o x y (Token.end_array ∷ ts) h = tt
one_level a o x y (Token.key s ∷ ts) h = tt
one_level a o x y (Token.string s ∷ ts) h = h
one_level a o x y (Token.number s ∷ ts) h = h
one_level a o x y (Token.boolean b ∷ ts) h = h
one_level a o x y (Token.null ∷ ts) h = h
one_level a o x y (Token.bad ∷ ts) h = tt

good_value : (d : ℕ) → AlwaysReads HasUtf8 (json.value d)
unfolding json.value
good_value zero = one_level (λ ts. None) (λ ts. None) (λ ts h. tt) (λ ts h. tt)
good_value (suc d) =
    one_level (λ ts. json.items (json.value d) (length ts) ts) (λ ts. json.members (json.value d) (length ts) ts)
    (λ ts h. mapped HaveUtf8 HasUtf8 json.array (λ js x. x) _ (good_items (json.value d) (good_value d) (length ts) ts h))
    (λ ts h. mapped MembersHaveUtf8 HasUtf8 json.object (λ ms x. x) _ (good_members (json.value d) (good_value d) (length ts) ts h))

-- ---- data

abbrev mutual
  pub IsUtf8Data : Data → Type 0
  IsUtf8Data null = ⊤
  IsUtf8Data (boolean b) = ⊤
  IsUtf8Data (number n) = ⊤
  IsUtf8Data (string s) = IsUtf8 s
  IsUtf8Data (array ds) = AreUtf8Items ds
  IsUtf8Data (object ms) = AreUtf8Members ms

  pub AreUtf8Items : Items → Type 0
  AreUtf8Items no_items = ⊤
  AreUtf8Items (item d ds) = IsUtf8Data d × AreUtf8Items ds

  pub AreUtf8Members : Members → Type 0
  AreUtf8Members no_members = ⊤
  AreUtf8Members (member k d ms) = IsUtf8Data d × AreUtf8Members ms

ordered : (P : Members → Type 0) (o : Ordering) (a b c : Members) → P a → P b → P c → P (match_ordering o a b c)
ordered P Less a b c x y z = x
ordered P Equal a b c x y z = y
ordered P Greater a b c x y z = z

put-utf8 : (k : List ℕ) (d : Data) (ms : Members) → IsUtf8Data d → AreUtf8Members ms → AreUtf8Members (put k d ms)
put-utf8 k d no_members x y = (x, tt)
put-utf8 k d (member l e ms) x y = ordered AreUtf8Members (slice_cmp nat_cmp k l) _ _ _ (x, y) (x, y.1) (y.0, put-utf8 k d ms x y.1)

pub all_mapped : {A B : Type 0} (P : A → Type 0) (Q : B → Type 0) (f : A → B) → ((a : A) → P a → Q (f a)) → (o : Option A) → IfSome o P → IfSome (option_map f o) Q
all_mapped P Q f k None h = tt
all_mapped P Q f k (Some a) h = k a h

pub chained : {A B : Type 0} (P : A → Type 0) (Q : B → Type 0) (f : A → Option B) → ((a : A) → P a → IfSome (f a) Q) → (o : Option A) → IfSome o P → IfSome (option_and_then f o) Q
chained P Q f k None h = tt
chained P Q f k (Some a) h = k a h

numbers : (o : Option Num) → IfSome (option_map number o) IsUtf8Data
numbers None = tt
numbers (Some n) = tt

mutual
  of_json-utf8 : (j : json.Json) → HasUtf8 j → IfSome (of_json j) IsUtf8Data
  of_json-utf8 json.null h = tt
  of_json-utf8 (json.boolean b) h = tt
  of_json-utf8 (json.number s) h = numbers (number_of s)
  of_json-utf8 (json.string s) h = h
  of_json-utf8 (json.array js) h = all_mapped AreUtf8Items IsUtf8Data array (λ ds x. x) (of_items js) (of_items-utf8 js h)
  of_json-utf8 (json.object ms) h = all_mapped AreUtf8Members IsUtf8Data object (λ ds x. x) (of_members ms no_members) (of_members-utf8 ms h no_members tt)

  of_items-utf8 : (js : json.Items) → HaveUtf8 js → IfSome (of_items js) AreUtf8Items
  of_items-utf8 json.no_items h = tt
  of_items-utf8 (json.item j js) h =
      chained IsUtf8Data AreUtf8Items (λ d. option_map (item d) (of_items js))
      (λ d x. all_mapped AreUtf8Items AreUtf8Items (item d) (λ ds y. (x, y)) (of_items js) (of_items-utf8 js h.1)) (of_json j) (of_json-utf8 j h.0)

  of_members-utf8 : (ms : json.Members) → MembersHaveUtf8 ms → (found : Members) → AreUtf8Members found → IfSome (of_members ms found) AreUtf8Members
  of_members-utf8 json.no_members h found g = g
  of_members-utf8 (json.member k j ms) h found g =
      chained IsUtf8Data AreUtf8Members (λ d. of_members ms (put k d found)) (λ d x. of_members-utf8 ms h.1 (put k d found) (put-utf8 k d found x g)) (of_json j) (of_json-utf8 j h.0)

good_last : (j : json.Json) (ts : List Token) → HasUtf8 j → IfSome (if_last j ts) HasUtf8
good_last j [] h = h
good_last j (t ∷ ts) h = tt

pub read-utf8 : (text : List ℕ) → IsUtf8 text → IfSome (read text) IsUtf8Data
read-utf8 text u =
    let all = good_value max_depth (tokens text) (good_tokens fresh (lex between text) (good_lexemes between [] text u)) in
    chained HasUtf8 IsUtf8Data of_json of_json-utf8 _
    (chained (λ p. HasUtf8 p.0 × AreGoodTokens p.1) HasUtf8 (λ p. if_last p.0 p.1) (λ p h. good_last p.0 p.1 h.0) (json.value max_depth (tokens text)) all)
