-- Boundaries: one is near each place of a text, and those of a part are those of the text.
use Rattle.std.proofs.Common.{◌≡◌, ℕ, ◌+◌, ◌-◌, ◌<◌, ◌≤◌, ◌++◌, List, [], ◌∷◌, length, length-append, drop, refl, ap, sym, subst, inl, inr, arith}
use Rattle.std.specs.Prelude.{encode_utf8, encode_utf8_all}
use Rattle.std.specs.Char.{len_utf8}
use Rattle.std.specs.Str.{IsCharBoundary, IsUtf8}
use Rattle.std.proofs.lemmas.Bool.{cases_lt}
use Rattle.std.proofs.lemmas.Str.{IsCharBoundary-end, IsCharBoundary-from_rest, IsCharBoundary-start, IsUtf8-past_char, drop_past_char, len_utf8_bounds, length-encode}

pub record IsNear (text : List ℕ) (i : ℕ) : Type 0 where
  pub at : ℕ
  pub before : at ≤ i
  pub close : i ≤ at + 3
  pub boundary : IsCharBoundary text at

near_by : (cs text : List ℕ) (i : ℕ) → IsUtf8 text → encode_utf8_all cs ≡ text → i ≤ length text → IsNear text i
near_by [] text i utf8 e within = record {
  at = 0;
  before = omega arith;
  close = omega (arith, ap length e, within);
  boundary = IsCharBoundary-start text utf8;
}
near_by (c ∷ cs) text i utf8 e within = elim (cases_lt i (len_utf8 c)) [
  | inl in_first ↦ record {
    at = 0;
    before = omega arith;
    close = omega (arith, len_utf8_bounds c, in_first);
    boundary = IsCharBoundary-start text utf8;
  }
  | inr past ↦
      let rest : List ℕ = encode_utf8_all cs in
      let spell : text ≡ encode_utf8 c ++ rest = sym e in
      let behind : drop (0 + len_utf8 c) text ≡ rest = drop_past_char text rest 0 c spell in
      let long : length text ≡ len_utf8 c + length rest = omega (arith, ap length e, length-append (encode_utf8 c) rest, length-encode c) in
      let r = near_by cs rest (i - len_utf8 c) (IsUtf8-past_char text rest c utf8 spell) refl (omega (arith, long, within)) in
      record {
        at = 0 + len_utf8 c + r.at;
        before = omega (arith, r.before, past);
        close = omega (arith, r.close, past);
        boundary = IsCharBoundary-from_rest text (0 + len_utf8 c) r.at (omega (arith, long)) (subst (λ (t : List ℕ). IsCharBoundary t r.at) (sym behind) r.boundary);
      }
]

-- the last boundary at or before a place of a text is at most three bytes before it
pub floor_close : (text : List ℕ) (k index : ℕ) → IsUtf8 text → index ≤ length text → ((i : ℕ) → k < i → i ≤ index → ¬ (IsCharBoundary text i)) → index ≤ k + 3
floor_close text k index utf8 within nearest =
    let r = near_by utf8.0 text index utf8 utf8.1.1 within in
    elim (cases_lt k r.at) [
      | inl past ↦ absurd (nearest r.at past r.before r.boundary)
      | inr at ↦ omega (arith, r.close, at)
    ]

-- at the text's end it is that end
pub floor_end : (text : List ℕ) (k : ℕ) → k ≤ length text → ((i : ℕ) → k < i → i ≤ length text → ¬ (IsCharBoundary text i)) → k ≡ length text
floor_end text k within nearest = elim (cases_lt k (length text)) [
  | inl before ↦ absurd (nearest (length text) before (omega arith) (IsCharBoundary-end text))
  | inr at ↦ omega (arith, at, within)
]
