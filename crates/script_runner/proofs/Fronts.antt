-- What a sink took, and what was read, piece after piece.
use Rattle.std.proofs.Common.{◌≡◌, ℕ, ◌+◌, ◌<◌, ◌≤◌, if◌then◌else◌, List, [], ◌∷◌, ◌++◌, length, map, take, drop, get_or, Option, Some, None, refl, sym, ap, ◌∙◌, subst, append_assoc, arith}
use Rattle.std.specs.Prelude.{slice_get}
use Rattle.std.proofs.lemmas.List.{append-nil, drop_more}
use Rattle.std.proofs.Math.Seq.{take-add}
use Rattle.cell_units.specs.Text.{line_feed}
use Rattle.script_runner.specs.Outside.{SinkState, HasRisen, Appends, Takes, TakesFront, Refuses}
use Rattle.script_runner.specs.Output.{printed_with}
use Rattle.script_runner.specs.declared.stop.Stop.{Stop}
use Rattle.script_runner.specs.declared.stop.Stop.TheVariants as stops
use Rattle.script_runner.specs.Writing.{IsUnwritten}

pub appends-more : (a b c : Option (List ℕ)) (x y : List ℕ) → Appends a b x → Appends b c y → Appends a c (x ++ y)
appends-more None b c x y p q = tt
appends-more (Some t) b c x y p q =
    let P : Option (List ℕ) → Type 0 = λ o. Appends o c y in
    let e : c ≡ Some ((t ++ x) ++ y) = subst P p q in
    e ∙ ap Some (append_assoc t x y)

pub appends-none : (a : Option (List ℕ)) → Appends a a []
appends-none None = tt
appends-none (Some t) = ap Some (sym (append-nil t))

pub takes-more : (a b c : SinkState) (x y : List ℕ) → Takes x a b → Takes y b c → Takes (x ++ y) a c
takes-more a b c x y p q = record {
  taken = appends-more a.taken b.taken c.taken x y p.taken q.taken;
  passed = q.passed ∙ p.passed;
}

pub takes-none : (a : SinkState) → Takes [] a a
takes-none a = record { taken = appends-none a.taken; passed = refl }

pub takes-same : (a b : SinkState) (x y : List ℕ) → x ≡ y → Takes x a b → Takes y a b
takes-same a b x y e p = let P : List ℕ → Type 0 = λ z. Takes z a b in subst P e p

-- all of a part that was taken is a front of what goes on behind it
pub front-all : (a b : SinkState) (p q whole : List ℕ) → Takes p a b → p ++ q ≡ whole → TakesFront whole a b
front-all a b p q whole before e = record { front = p; rest = q; is_front = e; taken = before.taken }

pub front-none : (a : SinkState) (whole : List ℕ) → TakesFront whole a a
front-none a whole = front-all a a [] whole whole (takes-none a) refl

-- a part that was taken behind others, of a whole that goes on behind it
pub front-behind : (a b c : SinkState) (p x q whole : List ℕ)
    → Takes p a b → TakesFront x b c → (p ++ x) ++ q ≡ whole → TakesFront whole a c
front-behind a b c p x q whole before it e = record {
  front = p ++ it.front;
  rest = it.rest ++ q;
  is_front = append_assoc p it.front (it.rest ++ q)
      ∙ (ap (λ l. p ++ l) (sym (append_assoc it.front it.rest q) ∙ ap (λ l. l ++ q) it.is_front)
      ∙ (sym (append_assoc p x q) ∙ e));
  taken = appends-more a.taken b.taken c.taken p it.front before.taken it.taken;
}

-- a write that was refused behind others
pub front-refused : (a b c : SinkState) (p q whole : List ℕ) → Takes p a b → Refuses b c → p ++ q ≡ whole → TakesFront whole a c
front-refused a b c p q whole before refused e =
    let P : Option (List ℕ) → Type 0 = λ o. Appends a.taken o p in
    record { front = p; rest = q; is_front = e; taken = subst P (sym refused.taken) before.taken }

-- a count that rose behind calls that passed
pub risen-behind : (a b c : ℕ) → b ≡ a → HasRisen b c → HasRisen a c
risen-behind a b c e risen = let P : ℕ → Type 0 = λ n. HasRisen n c in subst P e risen

pub piece-more : (a b c : SinkState) (piece : List ℕ) (at n : ℕ)
    → Takes (take at piece) a b → Takes (take n (drop at piece)) b c → Takes (take (at + n) piece) a c
piece-more a b c piece at n before more =
    takes-same a c (take at piece ++ take n (drop at piece)) (take (at + n) piece) (sym (take-add at n piece))
    (takes-more a b c (take at piece) (take n (drop at piece)) before more)

-- why a line wasn't written, behind other lines of a whole
pub unwritten-behind : (a b c : SinkState) (p x q whole : List ℕ) (stop : Stop)
    → Takes p a b → IsUnwritten x b c stop → (p ++ x) ++ q ≡ whole → IsUnwritten whole a c stop
unwritten-behind a b c p x q whole stops.Write before it e =
    (front-behind a b c p x q whole before it.0 e, risen-behind a.faults b.faults c.faults before.passed it.1)
unwritten-behind a b c p x q whole stops.JournalFull before it e = absurd it
unwritten-behind a b c p x q whole stops.Memory before it e =
    (front-behind a b c p x q whole before it.0 e, it.1 ∙ before.passed)

-- lines of an answer that were written, each behind a prefix, before those that are left
pub record AreWrittenWith (prefix : List ℕ) (all left : List (List ℕ)) (old new : SinkState) : Type 0 where
  pub front : List ℕ
  pub taken : Takes front old new
  pub is_front : front ++ printed_with prefix left ≡ printed_with prefix all

-- ... without one
abbrev pub AreWritten : (all left : List (List ℕ)) (old new : SinkState) → Type 0
AreWritten = AreWrittenWith []

module _ (prefix : List ℕ) where
  -- a line with its prefix and its line feed
  abbrev full : List ℕ → List ℕ
  full line = prefix ++ (line ++ line_feed ∷ [])

  -- the next line, and the lines behind it
  line-first : (left rest : List (List ℕ)) (line : List ℕ) → Some line ≡ slice_get left 0 → rest ≡ drop 1 left
      → full line ++ printed_with prefix rest ≡ printed_with prefix left
  line-first [] rest line is e = cc
  line-first (l ∷ ls) rest line is e =
      let same : line ≡ l = cc in ap (λ r. full line ++ printed_with prefix r) e ∙ ap (λ l. full l ++ printed_with prefix ls) same

  pub written-more : (all left rest : List (List ℕ)) (a b c : SinkState) (line : List ℕ) → AreWrittenWith prefix all left a b
      → Some line ≡ slice_get left 0 → rest ≡ drop 1 left → Takes (prefix ++ (line ++ line_feed ∷ [])) b c → AreWrittenWith prefix all rest a c
  written-more all left rest a b c line before is e taken = record {
    front = before.front ++ full line;
    taken = takes-more a b c before.front (full line) before.taken taken;
    is_front = append_assoc before.front (full line) (printed_with prefix rest)
        ∙ (ap (λ l. before.front ++ l) (line-first left rest line is e) ∙ before.is_front);
  }

  -- the line wasn't written whole
  pub written-stopped : (all left rest : List (List ℕ)) (a b c : SinkState) (line : List ℕ) (stop : Stop) → AreWrittenWith prefix all left a b
      → Some line ≡ slice_get left 0 → rest ≡ drop 1 left → IsUnwritten (prefix ++ (line ++ line_feed ∷ [])) b c stop
      → IsUnwritten (printed_with prefix all) a c stop
  written-stopped all left rest a b c line stop before is e why =
      unwritten-behind a b c before.front (full line) (printed_with prefix rest) (printed_with prefix all) stop before.taken why
      (append_assoc before.front (full line) (printed_with prefix rest)
      ∙ (ap (λ l. before.front ++ l) (line-first left rest line is e) ∙ before.is_front))

  -- a first line of some, and the lines after it
  module _ (line : List ℕ) (lines : List (List ℕ)) (a b c : SinkState) (text : List ℕ) (stop : Stop) (e : text ≡ line) where
    pub first-unwritten : IsUnwritten (prefix ++ (text ++ line_feed ∷ [])) a b stop → IsUnwritten (printed_with prefix (line ∷ lines)) a b stop
    first-unwritten why =
        unwritten-behind a a b [] (full text) (printed_with prefix lines) (printed_with prefix (line ∷ lines)) stop (takes-none a) why
        (ap (λ t. full t ++ printed_with prefix lines) e)

    pub others-unwritten : (some : List (List ℕ)) → some ≡ lines → Takes (prefix ++ (text ++ line_feed ∷ [])) a b
        → IsUnwritten (printed_with prefix some) b c stop → IsUnwritten (printed_with prefix (line ∷ lines)) a c stop
    others-unwritten some f taken why =
        unwritten-behind a b c (full text) (printed_with prefix some) [] (printed_with prefix (line ∷ lines)) stop taken why
        (append-nil (full text ++ printed_with prefix some)
        ∙ (ap (λ t. full t ++ printed_with prefix some) e ∙ ap (λ ls. full line ++ printed_with prefix ls) f))

  -- the lines of a list, one after the other
  module _ {X : Type 0} (line_of : X → List ℕ) (all : List X) (i : ℕ) (d : X) (lt : i < length all) (a b c : SinkState)
      (before : AreWrittenWith prefix (map line_of all) (map line_of (drop i all)) a b) where
    next-listed : AreWrittenWith prefix (map line_of all) (line_of (get_or all i d) ∷ map line_of (drop (i + 1) all)) a b
    next-listed =
        let P : List X → Type 0 = λ rest. AreWrittenWith prefix (map line_of all) (map line_of rest) a b in subst P (drop_more all i d lt) before

    pub listed-written : (line : List ℕ) → line ≡ line_of (get_or all i d) → Takes (prefix ++ (line ++ line_feed ∷ [])) b c
        → AreWrittenWith prefix (map line_of all) (map line_of (drop (i + 1) all)) a c
    listed-written line e taken =
        written-more (map line_of all) (line_of (get_or all i d) ∷ map line_of (drop (i + 1) all)) (map line_of (drop (i + 1) all)) a b c line
        next-listed (ap Some e) refl taken

    pub listed-unwritten : (line : List ℕ) (stop : Stop) → line ≡ line_of (get_or all i d) → IsUnwritten (prefix ++ (line ++ line_feed ∷ [])) b c stop
        → IsUnwritten (printed_with prefix (map line_of all)) a c stop
    listed-unwritten line stop e why =
        written-stopped (map line_of all) (line_of (get_or all i d) ∷ map line_of (drop (i + 1) all)) (map line_of (drop (i + 1) all)) a b c line stop
        next-listed (ap Some e) refl why

-- no line is left
pub none-first : (left : List (List ℕ)) → None ≡ slice_get left 0 → left ≡ []
none-first [] e = refl
none-first (l ∷ ls) e = cc

-- one line is left less
pub one-fewer : (left rest : List (List ℕ)) (line : List ℕ) → Some line ≡ slice_get left 0 → rest ≡ drop 1 left → 1 + length rest ≡ length left
one-fewer [] rest line is e = cc
one-fewer (l ∷ ls) rest line is e = let same = ap length e in omega arith

pub fewer-left : (left rest : List (List ℕ)) (line : List ℕ) → Some line ≡ slice_get left 0 → rest ≡ drop 1 left → length rest < length left
fewer-left [] rest line is e = cc
fewer-left (l ∷ ls) rest line is e = let same = ap length e in omega arith
