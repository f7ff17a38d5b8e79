-- The bytes of a character: the first begins it, and the others go on.
use Rattle.std.proofs.Common.{◌≡◌, ◌≢◌, ℕ, ◌+◌, ◌/◌, ◌%◌, ◌<◌, ◌≤◌, Bool, true, false, cond, List, [], ◌∷◌, ◌++◌, map, encode_utf8_all, append-nil, refl, sym, ap, ◌∙◌, subst, inl, inr, ◌⊎◌, arith}
use lib.Utf8.{encode, scalar}
use Rattle.std.specs.Str.{IsUtf8, all_scalars}
use Rattle.std.proofs.lemmas.Bool.{and_from, and_parts, cases_eq, cases_lt, lt-ltb, le-ltb, le-leb}
use Rattle.std.proofs.lemmas.Bool.Decides.{nat_tests}
use Rattle.std.proofs.lemmas.Str.{IsUtf8-append, IsUtf8-nil, encode_ascii}
use Rattle.cell_units.specs.Text.{begins_with_feed, carriage_return, clean, goes_on, line_feed, without_returns_before_feeds}
use Rattle.cell_units.specs.Laws.{HasNoReturn}
use Rattle.cell_units.proofs.CutLists.{Every}
use Rattle.cell_units.proofs.FoundEntries.{All-from_Every}
use Rattle.cell_units.proofs.Returns.{clean-front}
use Rattle.cell_units.proofs.TextLaws.{fed}

-- each of the bytes goes on
abbrev pub GoOn : List ℕ → Type 0
GoOn [] = Unit {0}
GoOn (b ∷ bs) = (goes_on b ≡ true) × GoOn bs

pub record Spelled (c : ℕ) : Type 0 where
  pub first : ℕ
  pub rest : List ℕ
  pub is : encode c ≡ first ∷ rest
  pub on : GoOn rest
  pub small : ((first ≡ c) × (first < 128) × (rest ≡ [])) ⊎ (128 ≤ first)

next-goes_on : (n : ℕ) → goes_on (128 + n % 64) ≡ true
next-goes_on n = and_from _ _ (le-leb 128 (128 + n % 64) (omega arith)) (lt-ltb (128 + n % 64) 192 (omega arith))

pub spelled : (c : ℕ) → Spelled c
unfolding encode
spelled c = go (cases_lt c 128) (cases_lt c 2048) (cases_lt c 65536) where
  go : (c < 128) ⊎ (128 ≤ c) → (c < 2048) ⊎ (2048 ≤ c) → (c < 65536) ⊎ (65536 ≤ c) → Spelled c
  go (inl a) y z = record { first = c; rest = []; is = rw (lt-ltb c 128 a) refl; on = tt; small = inl (refl, a, refl) }
  go (inr a) (inl b) z = record { first = 192 + c / 64; rest = (128 + c % 64) ∷ []; is = rw (le-ltb c 128 a, lt-ltb c 2048 b) refl; on = (next-goes_on c, tt); small = inr (omega arith) }
  go (inr a) (inr b) (inl d) = record { first = 224 + c / 4096; rest = (128 + c / 64 % 64) ∷ (128 + c % 64) ∷ []; is = rw (le-ltb c 128 a, le-ltb c 2048 b, lt-ltb c 65536 d) refl; on = (next-goes_on (c / 64), (next-goes_on c, tt)); small = inr (omega arith) }
  go (inr a) (inr b) (inr d) = record { first = 240 + c / 262144; rest = (128 + c / 4096 % 64) ∷ (128 + c / 64 % 64) ∷ (128 + c % 64) ∷ []; is = rw (le-ltb c 128 a, le-ltb c 2048 b, le-ltb c 65536 d) refl; on = (next-goes_on (c / 4096), (next-goes_on (c / 64), (next-goes_on c, tt))); small = inr (omega arith) }

pub goes_on-high : (b : ℕ) → goes_on b ≡ true → 128 ≤ b
goes_on-high b h = grind (arith, nat_tests, h)

-- ---- a cleaned text is a text

no_return : (bs : List ℕ) → GoOn bs → Every (λ b. b ≢ carriage_return) bs
no_return [] h = tt
no_return (b ∷ bs) h = ((λ e. let high = goes_on-high b h.0 in omega (arith, e, high)), no_return bs h.1)

encode-no_return : (c : ℕ) → c ≢ carriage_return → HasNoReturn (encode c)
encode-no_return c other =
    let s = spelled c in
    subst HasNoReturn (sym s.is) (All-from_Every (λ b. b ≢ carriage_return) (s.first ∷ s.rest) (first s.first s.small, no_return s.rest s.on)) where
      first : (b : ℕ) → ((b ≡ c) × (b < 128) × ((spelled c).rest ≡ [])) ⊎ (128 ≤ b) → b ≢ carriage_return
      first b (inl x) = λ e. other (sym x.0 ∙ e)
      first b (inr x) = λ e. omega (arith, x, e)

pub one_utf8 : (c : ℕ) → scalar c ≡ true → IsUtf8 (encode c)
one_utf8 c h = (c ∷ [], (and_from (scalar c) true h refl, append-nil (encode c)))

feed_utf8 : IsUtf8 (line_feed ∷ [])
unfolding encode
feed_utf8 = (line_feed ∷ [], (refl, refl))

return-utf8 : (rest : List ℕ) → IsUtf8 (clean rest) → IsUtf8 (clean (carriage_return ∷ rest))
return-utf8 rest h = go (begins_with_feed rest) where
  go : (b : Bool) → IsUtf8 (map fed (cond b (without_returns_before_feeds rest) (carriage_return ∷ without_returns_before_feeds rest)))
  go true = h
  go false = IsUtf8-append (line_feed ∷ []) (clean rest) feed_utf8 h

cleaned-utf8 : (cs : List ℕ) → all_scalars cs ≡ true → IsUtf8 (clean (encode_utf8_all cs))
cleaned-utf8 [] h = IsUtf8-nil
cleaned-utf8 (c ∷ cs) h = go (cases_eq c carriage_return) (cleaned-utf8 cs (and_parts (scalar c) (all_scalars cs) h).1) where
  go : (c ≡ carriage_return) ⊎ (c ≡ carriage_return → ⊥) → IsUtf8 (clean (encode_utf8_all cs)) → IsUtf8 (clean (encode c ++ encode_utf8_all cs))
  go (inr other) rest =
      subst IsUtf8 (sym (clean-front (encode c) (encode_utf8_all cs) (encode-no_return c other)))
      (IsUtf8-append (encode c) (clean (encode_utf8_all cs)) (one_utf8 c (and_parts (scalar c) (all_scalars cs) h).0) rest)
  go (inl e) rest =
      subst (λ (l : List ℕ). IsUtf8 (clean (l ++ encode_utf8_all cs))) (sym (ap encode e ∙ encode_ascii carriage_return (omega arith)))
      (return-utf8 (encode_utf8_all cs) rest)

pub clean-utf8 : (bytes : List ℕ) → IsUtf8 bytes → IsUtf8 (clean bytes)
clean-utf8 bytes u = subst (λ (l : List ℕ). IsUtf8 (clean l)) u.1.1 (cleaned-utf8 u.0 u.1.0)
