-- What the tables of clusters and of widths give on characters that are clusters by themselves.
use Rattle.std.proofs.Common.{◌≡◌, ◌⊎◌, inl, inr, ℕ, ◌<◌, ◌≤◌, Bool, true, false, not, cond, ◌&&◌, ◌||◌, ◌==◌, nat_eq, nat_lt, nat_le, unwrap_or, Some, None, add-zero, append-nil, eqb-true, List, [], ◌∷◌, refl, sym, ap, ap₂, ◌∙◌, arith}
use Rattle.std.specs.Char.{IsScalar, encode_utf8}
use Rattle.std.specs.Str.{bytes_eq}
use Rattle.std.proofs.lemmas.Bool.{and_from, and_parts, cases_lt, not-true, or_right}
use Rattle.std.proofs.lemmas.Bool.Decides.{nat_tests, same_from_decides}
use Rattle.std.proofs.lemmas.List.Sums.{sum_by-cons}
use Rattle.std.proofs.lemmas.Slice.Eq.{bytes_eq-Decides}
use Rattle.std.proofs.lemmas.Str.{char_from_byte, encode_ascii}
use Rattle.std.specs.Int.{is_in_range}
use Rattle.ucd_table.specs.Rows.{Range, in_ranges}
use Rattle.ucd_table.specs.Steps.{step_value}
use Rattle.ucd_table.proofs.Computing.{tables}
use Rattle.ucd_table.proofs.Stepped.{Stepped, of_ranges, zip_stepped}
use Rattle.ucd_table.proofs.Facts.{Stepped-everywhere}
use Rattle.ucd_breaks.specs.GraphemeClusterBreak.{grapheme_cluster_break}
use Rattle.ucd_breaks.specs.declared.GraphemeClusterBreak.{GraphemeClusterBreak}
use Rattle.ucd_breaks.specs.declared.GraphemeClusterBreak.TheVariants.{Control, Other}
use Rattle.ucd_breaks.proofs.GraphemeClusterBreakLemmas.{grapheme_cluster_break_stepped}
use Rattle.ucd_derived.specs.IndicConjunctBreak.{indic_conjunct_break}
use Rattle.ucd_derived.specs.declared.IndicConjunctBreak.{IndicConjunctBreak}
use Rattle.ucd_derived.specs.declared.IndicConjunctBreak.TheVariants as InCb
use Rattle.ucd_derived.proofs.IndicConjunctBreakLemmas.{indic_conjunct_break_stepped}
use Rattle.ucd_emoji.specs.Binary.{is_extended_pictographic}
use Rattle.ucd_emoji.proofs.BinaryLemmas.{is_extended_pictographic_stepped}
use Rattle.unicode_width.specs.Kind.{kind}
use Rattle.unicode_width.specs.Width.{alone, char_width, of_kind, str_width}
use Rattle.unicode_width.specs.declared.kind.Kind.{Kind}
use Rattle.unicode_width.specs.declared.kind.Kind.TheVariants as kinds
use Rattle.unicode_width.proofs.KindLemmas.{kind_stepped}
use Rattle.unicode_width.proofs.Rules.{is_simple_kind, str_width-simple, width_or_zero}
use Rattle.cell_line.specs.inside.Quiet.{has_one_cell, has_two_cells, quiet_cells, is_alone}

-- a character that no rule of clusters looks past or joins to its like
pub record IsQuiet (c : ℕ) : Type 0 where
  pub scalar : IsScalar c
  pub apart : (grapheme_cluster_break c ≡ Other) ⊎ (grapheme_cluster_break c ≡ Control)
  pub conjunct : indic_conjunct_break c ≡ InCb.None
  pub pictograph : is_extended_pictographic c ≡ false

abbrev is_apart : GraphemeClusterBreak → Bool
is_apart Other = true
is_apart Control = true
is_apart _ = false

is_apart-cases : (v : GraphemeClusterBreak) → is_apart v ≡ true → (v ≡ Other) ⊎ (v ≡ Control)
is_apart-cases Other h = inl refl
is_apart-cases Control h = inr refl
is_apart-cases _ h = absurd (cc)

abbrev is_none : IndicConjunctBreak → Bool
is_none InCb.None = true
is_none _ = false

is_none-true : (v : IndicConjunctBreak) → is_none v ≡ true → v ≡ InCb.None
is_none-true InCb.None h = refl
is_none-true _ h = absurd (cc)

implied : (s t : Bool) → (not s || t) ≡ true → s ≡ true → t ≡ true
implied true t h e = h
implied false t h e = absurd (cc)

-- ---- the tables

or_five : (a b c d e : Bool) → (a || b || c || d || e) ≡ (a || (b || (c || (d || (e || false)))))
or_five true b c d e = refl
or_five false true c d e = refl
or_five false false true d e = refl
or_five false false false true e = refl
or_five false false false false true = refl
or_five false false false false false = refl

abbrev one_ranges : List Range
one_ranges = (0x20, 0x7E) ∷ (0xAF, 0x2FF) ∷ (0x370, 0x482) ∷ (0x48A, 0x52F) ∷ (0x1E00, 0x1FFF) ∷ []

abbrev two_ranges : List Range
two_ranges = (0x3000, 0x3029) ∷ (0x3041, 0x3096) ∷ (0x309B, 0x30FF) ∷ (0x3400, 0x9FFF) ∷ (0xFF01, 0xFF60) ∷ []

one_same : (c : ℕ) → has_one_cell c ≡ in_ranges one_ranges c
unfolding in_ranges
one_same c = or_five (is_in_range 0x20 0x7E c) (is_in_range 0xAF 0x2FF c) (is_in_range 0x370 0x482 c) (is_in_range 0x48A 0x52F c) (is_in_range 0x1E00 0x1FFF c)

two_same : (c : ℕ) → has_two_cells c ≡ in_ranges two_ranges c
unfolding in_ranges
two_same c = or_five (is_in_range 0x3000 0x3029 c) (is_in_range 0x3041 0x3096 c) (is_in_range 0x309B 0x30FF c) (is_in_range 0x3400 0x9FFF c) (is_in_range 0xFF01 0xFF60 c)

abbrev along : {V : Type 0} (f g : ℕ → V) → ((c : ℕ) → f c ≡ g c) → Stepped g → Stepped f
along f g e s = record { default = s.default; steps = s.steps; gives = λ c. e c ∙ s.gives c }

unfoldable quiet_stepped : Stepped quiet_cells
unfolding tables
quiet_stepped =
    zip_stepped (λ two one. cond two 2 (cond one 1 0)) has_two_cells has_one_cell
    (along has_two_cells (in_ranges two_ranges) two_same (of_ranges two_ranges refl))
    (along has_one_cell (in_ranges one_ranges) one_same (of_ranges one_ranges refl))

tab_steps : (c : ℕ) → nat_eq c 9 ≡ step_value false ((9, false) ∷ (10, true) ∷ []) c
unfolding tables
tab_steps c = grind (arith, nat_tests)

unfoldable alone_stepped : Stepped is_alone
unfolding quiet_stepped
alone_stepped =
    zip_stepped (λ tab n. tab || nat_lt 0 n) (λ c. nat_eq c 9) quiet_cells
    (record { default = false; steps = (9, false) ∷ (10, true) ∷ []; gives = tab_steps }) quiet_stepped

break_table : (c : ℕ) → (not (is_alone c) || is_apart (grapheme_cluster_break c)) ≡ true
unfolding tables grapheme_cluster_break_stepped alone_stepped
break_table =
    Stepped-everywhere _ (zip_stepped (λ q v. not q || is_apart v) is_alone grapheme_cluster_break alone_stepped grapheme_cluster_break_stepped) refl

conjunct_table : (c : ℕ) → (not (is_alone c) || is_none (indic_conjunct_break c)) ≡ true
unfolding tables indic_conjunct_break_stepped alone_stepped
conjunct_table =
    Stepped-everywhere _ (zip_stepped (λ q v. not q || is_none v) is_alone indic_conjunct_break alone_stepped indic_conjunct_break_stepped) refl

pictograph_table : (c : ℕ) → (not (is_alone c) || not (is_extended_pictographic c)) ≡ true
unfolding tables is_extended_pictographic_stepped alone_stepped
pictograph_table =
    Stepped-everywhere _ (zip_stepped (λ q v. not q || not v) is_alone is_extended_pictographic alone_stepped is_extended_pictographic_stepped) refl

-- the kind of a character with so many cells
abbrev has_cells : ℕ → Kind → Bool
has_cells n k = is_simple_kind k && ((of_kind false 0 k).0 == n)

width_table : (c : ℕ) → (not (nat_lt 0 (quiet_cells c)) || has_cells (quiet_cells c) (kind c)) ≡ true
unfolding tables kind_stepped quiet_stepped
width_table =
    Stepped-everywhere _ (zip_stepped (λ n k. not (nat_lt 0 n) || has_cells n k) quiet_cells kind quiet_stepped kind_stepped) refl

-- ---- what they say of one character

quiet_from : (c : ℕ) → nat_lt 0 (quiet_cells c) ≡ true → 32 ≤ c
quiet_from c h = grind (arith, nat_tests)

no_control : (c : ℕ) → nat_lt 0 (quiet_cells c) ≡ true → 0x7F ≤ c → 0xA0 < c
no_control c h le = grind (arith, nat_tests)

quiet_bounds : (c : ℕ) → nat_lt 0 (quiet_cells c) ≡ true → (32 ≤ c) × ((c < 0x7F) ⊎ (0xA0 < c))
quiet_bounds c h = (quiet_from c h, elim (cases_lt c 0x7F) [ inl low ↦ inl low | inr high ↦ inr (no_control c h high) ])

alone_scalar : (c : ℕ) → is_alone c ≡ true → IsScalar c
alone_scalar c h = grind (arith, nat_tests)

pub alone_is_quiet : (c : ℕ) → is_alone c ≡ true → IsQuiet c
alone_is_quiet c h =
    record {
      scalar = alone_scalar c h;
      apart = is_apart-cases (grapheme_cluster_break c) (implied (is_alone c) (is_apart (grapheme_cluster_break c)) (break_table c) h);
      conjunct = is_none-true (indic_conjunct_break c) (implied (is_alone c) (is_none (indic_conjunct_break c)) (conjunct_table c) h);
      pictograph = not-true (is_extended_pictographic c) (implied (is_alone c) (not (is_extended_pictographic c)) (pictograph_table c) h);
    }

-- ---- cells

same_cells : (c : ℕ) (k : Kind) → is_simple_kind k ≡ true → (of_kind false c k).0 ≡ (of_kind false 0 k).0
same_cells c kinds.Zero h = refl
same_cells c kinds.Narrow h = refl
same_cells c kinds.Wide h = refl
same_cells c kinds.Ambiguous h = refl
same_cells c _ h = absurd (cc)

ascii_cells : (c : ℕ) → c < 0x7F → nat_lt 0 (quiet_cells c) ≡ true → quiet_cells c ≡ 1
ascii_cells c lt h = grind (arith, nat_tests)

ascii_width : (c : ℕ) → 32 ≤ c → c < 0x7F → width_or_zero false c ≡ 1
unfolding char_width
ascii_width c le lt = grind (arith, nat_tests)

high_width : (c : ℕ) → 0xA0 < c → width_or_zero false c ≡ (alone false c).0
unfolding char_width
high_width c lt =
    let low : nat_lt c 0x7F ≡ false = grind (arith, nat_tests) in
    let high : nat_le 0xA0 c ≡ true = grind (arith, nat_tests) in
    ap₂ (λ x y. unwrap_or (cond x (cond (nat_le 0x20 c) (Some 1) None) (cond y (Some (alone false c).0) None)) 0) low high

kind_width : (c : ℕ) → has_cells (quiet_cells c) (kind c) ≡ true → (alone false c).0 ≡ quiet_cells c
unfolding alone
kind_width c h =
    let parts = and_parts (is_simple_kind (kind c)) ((of_kind false 0 (kind c)).0 == quiet_cells c) h in
    same_cells c (kind c) parts.0 ∙ eqb-true _ _ parts.1

one_width : (c : ℕ) → nat_lt 0 (quiet_cells c) ≡ true → has_cells (quiet_cells c) (kind c) ≡ true → width_or_zero false c ≡ quiet_cells c
one_width c h has =
    let bounds = quiet_bounds c h in
    elim bounds.1 [
      | inl low ↦ ascii_width c bounds.0 low ∙ sym (ascii_cells c low h)
      | inr high ↦ high_width c high ∙ kind_width c has
    ]

adds_up : (c : ℕ) → (32 ≤ c) × ((c < 0x7F) ⊎ (0xA0 < c)) → is_simple_kind (kind c) ≡ true →
    (is_in_range 0x20 0x7E c || (nat_lt 0xA0 c && is_simple_kind (kind c))) ≡ true
adds_up c bounds simple = elim bounds.1 [
  | inl low ↦ let le = bounds.0 in grind (arith, nat_tests)
  | inr high ↦ let e : nat_lt 0xA0 c ≡ true = grind (arith, nat_tests) in or_right _ _ (and_from _ _ e simple)
]

-- the cells of a quiet character by itself
pub quiet_width : (c : ℕ) → nat_lt 0 (quiet_cells c) ≡ true → str_width false (c ∷ []) ≡ quiet_cells c
quiet_width c h =
    let has = implied (nat_lt 0 (quiet_cells c)) (has_cells (quiet_cells c) (kind c)) (width_table c) h in
    let simple = (and_parts (is_simple_kind (kind c)) ((of_kind false 0 (kind c)).0 == quiet_cells c) has).0 in
    str_width-simple false (c ∷ []) (and_from _ true (adds_up c (quiet_bounds c h) simple) refl)
    ∙ sum_by-cons (width_or_zero false) c [] ∙ add-zero (width_or_zero false c) ∙ one_width c h has

-- ---- bytes

-- a character is one byte where it is that byte
pub char_byte : (c b : ℕ) → b < 128 → bytes_eq (encode_utf8 c) (b ∷ []) ≡ nat_eq c b
char_byte c b lt = same_from_decides _ _ (bytes_eq-Decides (encode_utf8 c) (b ∷ [])) (
  (λ e. ap encode_utf8 (eqb-true c b e) ∙ encode_ascii b lt),
  λ same. let e : c ≡ b = char_from_byte (b ∷ []) [] c (sym same ∙ sym (append-nil (encode_utf8 c))) lt (omega arith) in grind (arith, nat_tests),
)
