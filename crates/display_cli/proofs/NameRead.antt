-- What was read of a name, read after read, and how many bytes that was.
use Rattle.std.proofs.Common.{◌≡◌, ℕ, ◌+◌, ◌≤◌, true, false, if◌then◌else◌, List, [], ◌∷◌, ◌++◌, length, take, drop, Option, Some, None, Result, Ok, refl, sym, ap, ◌∙◌, subst, append_assoc, arith}
use Rattle.std.specs.Prelude.{IfSome, IfOk}
use Rattle.std.proofs.lemmas.List.{take-append-le, length-drop, length-take}
use Rattle.std.proofs.lemmas.List.Sums.{sum_by-append, sum_by-cons}
use Rattle.std.proofs.Math.Seq.{drop-append_seam, take-add}
use Rattle.script_runner.specs.declared.outside.Part.{Part}
use Rattle.script_runner.specs.declared.outside.Part.TheVariants.{Text, Script}
use Rattle.script_runner.specs.Outside.{Read, InputState, IsGiven, count_between, count_read, is_part}
use Rattle.display_cli.specs.declared.read.Unread.{Unread}
use Rattle.display_cli.specs.Ended.{AreReadsOf}
use Rattle.display_cli.specs.inside.Reading.{HasFront, ReadsOnce, ReadsName}

-- ---- what was read so far

pub front-more : (told : Option (List ℕ)) (old before room rest new : List ℕ) (n at : ℕ)
    → at ≡ length old → n ≤ length room → HasFront told old → IfSome told (IsGiven at before room n)
    → new ≡ old ++ take n (room ++ rest) → HasFront told new
front-more None old before room rest new n at e le front given is = tt
front-more (Some b) old before room rest new n at e le front given is =
    let piece : take n (room ++ rest) ≡ take n (drop (length old) b) =
    take-append-le n room rest le ∙ (given.same ∙ ap (λ k. take n (drop k b)) e) in
    let joined : new ≡ take (length old + n) b =
    is ∙ (ap (λ l. old ++ l) piece
    ∙ (ap (λ l. l ++ take n (drop (length old) b)) front.1 ∙ sym (take-add (length old) n b))) in
    let left = length-drop at b in
    let most = front.0 in
    let all = given.there in
    let within : length old + n ≤ length b = omega arith in
    let counted : length new ≡ length old + n = ap length joined ∙ (length-take (length old + n) b ∙ (omega arith)) in
    (omega arith, joined ∙ ap (λ k. take k b) (sym counted))

-- ---- reads in order

-- where reads that begin at a byte end
abbrev pub reads_end : ℕ → List Read → ℕ
reads_end at [] = at
reads_end at (read ∷ reads) = reads_end (at + read.count) reads

pub reads_end-snoc : (at : ℕ) (reads : List Read) (read : Read) → reads_end at (reads ++ read ∷ []) ≡ reads_end at reads + read.count
reads_end-snoc at [] read = refl
reads_end-snoc at (r ∷ reads) read = reads_end-snoc (at + r.count) reads read

-- one more read from where the others end
pub reads-snoc : (part : Part) (name : List ℕ) (limit at : ℕ) (reads : List Read) (from count : ℕ) → AreReadsOf part name limit at reads → from ≡ reads_end at reads
    → from + count ≤ limit + 1 → AreReadsOf part name limit at (reads ++ record { part = part; name = name; at = from; count = count } ∷ [])
reads-snoc part name limit at [] from count are e within = let W : ℕ → Type 0 = λ k. k + count ≤ limit + 1 in (refl, refl, e, subst W e within, tt)
reads-snoc part name limit at (r ∷ reads) from count are e within =
    (are.0, are.1, are.2, are.3, reads-snoc part name limit (at + r.count) reads from count are.4 e within)

-- reads of a name so far, up to a byte, behind those of a state
pub record ReadsUpTo (part : Part) (name : List ℕ) (limit end : ℕ) (old new : InputState) : Type 0 where
  pub tells : (any : List ℕ) → new.told any ≡ old.told any
  pub reads : List Read
  pub made : new.reads ≡ old.reads ++ reads
  pub in_order : AreReadsOf part name limit 0 reads
  pub end_is : end ≡ reads_end 0 reads
  pub passed : new.faults ≡ old.faults

-- whatever became of one more read, the reads are in order
pub reads-once-more : (part : Part) (name : List ℕ) (limit end : ℕ) (result : Result ℕ Unread) (a b c : InputState)
    → ReadsUpTo part name limit end a b → ReadsOnce part name limit end result b c → ReadsName part name limit a c
reads-once-more part name limit end result a b c before once = record {
  tells = λ any. once.tells any ∙ before.tells any;
  reads = before.reads ++ record { part = part; name = name; at = end; count = once.count } ∷ [];
  made = once.made ∙ (ap (λ l. l ++ record { part = part; name = name; at = end; count = once.count } ∷ []) before.made
      ∙ append_assoc a.reads before.reads (record { part = part; name = name; at = end; count = once.count } ∷ []));
  in_order = reads-snoc part name limit 0 before.reads end once.count before.in_order before.end_is once.within;
}

-- where it passed, they go on to its end
pub up-to-more : (part : Part) (name : List ℕ) (limit end n new_end : ℕ) (result : Result ℕ Unread) (a b c : InputState)
    → ReadsUpTo part name limit end a b → ReadsOnce part name limit end result b c → result ≡ Ok n → new_end ≡ end + n → c.faults ≡ b.faults
    → ReadsUpTo part name limit new_end a c
unfolding reads-once-more
up-to-more part name limit end n new_end result a b c before once is grows passed =
    let P : Result ℕ Unread → Type 0 = λ r. IfOk r (λ n. n ≡ once.count) in
    let counted : n ≡ once.count = subst P is once.counted in
    let more = reads-once-more part name limit end result a b c before once in
    record {
      tells = more.tells;
      reads = before.reads ++ record { part = part; name = name; at = end; count = once.count } ∷ [];
      made = more.made;
      in_order = more.in_order;
      end_is = grows ∙ (ap (λ k. end + k) counted ∙ (ap (λ k. k + once.count) before.end_is
          ∙ sym (reads_end-snoc 0 before.reads (record { part = part; name = name; at = end; count = once.count }))));
      passed = passed ∙ before.passed;
    }

-- ---- how many bytes were read

same-part : (part : Part) → is_part part part ≡ true
same-part Text = refl
same-part Script = refl

count-cons : (part : Part) (r : Read) (reads : List Read)
    → count_read part (r ∷ reads) ≡ (if is_part part r.part then r.count else 0) + count_read part reads
count-cons part r reads = sum_by-cons (λ (read : Read). if is_part part read.part then read.count else 0) r reads

-- reads of a part gave as many bytes of it as they reach
ends-counted : (part : Part) (name : List ℕ) (limit at : ℕ) (reads : List Read) → AreReadsOf part name limit at reads
    → reads_end at reads ≡ at + count_read part reads
ends-counted part name limit at [] are = omega arith
ends-counted part name limit at (r ∷ reads) are =
    let here : (if is_part part r.part then r.count else 0) ≡ r.count =
    ap (λ p. if is_part part p then r.count else 0) are.0 ∙ ap (λ b. if b then r.count else 0) (same-part part) in
    let rest = ends-counted part name limit (at + r.count) reads are.4 in
    let all = count-cons part r reads in
    omega arith

-- ... and none of the other
none-counted : (part other : Part) (name : List ℕ) (limit at : ℕ) (reads : List Read) → is_part part other ≡ false → AreReadsOf other name limit at reads
    → count_read part reads ≡ 0
none-counted part other name limit at [] apart are = refl
none-counted part other name limit at (r ∷ reads) apart are =
    let here : (if is_part part r.part then r.count else 0) ≡ 0 =
    ap (λ p. if is_part part p then r.count else 0) are.0 ∙ ap (λ b. if b then r.count else 0) apart in
    let rest = none-counted part other name limit (at + r.count) reads apart are.4 in
    let all = count-cons part r reads in
    omega arith

since : (old new reads : List Read) → new ≡ old ++ reads → drop (length old) new ≡ reads
since old new reads made = ap (λ l. drop (length old) l) made ∙ drop-append_seam old reads

pub counted-up-to : (part : Part) (name : List ℕ) (limit end : ℕ) (a b : InputState) → ReadsUpTo part name limit end a b → end ≡ count_between part a b
counted-up-to part name limit end a b up =
    let all = ends-counted part name limit 0 up.reads up.in_order in
    let these : count_between part a b ≡ count_read part up.reads = ap (count_read part) (since a.reads b.reads up.reads up.made) in
    let reached = up.end_is in
    omega arith

-- the reads of a text and then of a script
module _ (text_name script_name : List ℕ) (text_limit script_limit : ℕ) (a b c : InputState)
    (of_text : ReadsName Text text_name text_limit a b) (of_script : ReadsName Script script_name script_limit b c) where
  both : c.reads ≡ a.reads ++ (of_text.reads ++ of_script.reads)
  both = of_script.made ∙ (ap (λ l. l ++ of_script.reads) of_text.made ∙ append_assoc a.reads of_text.reads of_script.reads)

  counts-both : (part : Part) → count_between part a c ≡ count_read part of_text.reads + count_read part of_script.reads
  counts-both part =
      ap (count_read part) (since a.reads c.reads (of_text.reads ++ of_script.reads) both)
      ∙ sum_by-append (λ (read : Read). if is_part part read.part then read.count else 0) of_text.reads of_script.reads

  pub text-counted : count_between Text a c ≡ count_between Text a b
  text-counted =
      let all = counts-both Text in
      let these : count_between Text a b ≡ count_read Text of_text.reads = ap (count_read Text) (since a.reads b.reads of_text.reads of_text.made) in
      let none = none-counted Text Script script_name script_limit 0 of_script.reads refl of_script.in_order in
      omega arith

  pub script-counted : count_between Script a c ≡ count_between Script b c
  script-counted =
      let all = counts-both Script in
      let these : count_between Script b c ≡ count_read Script of_script.reads = ap (count_read Script) (since b.reads c.reads of_script.reads of_script.made) in
      let none = none-counted Script Text text_name text_limit 0 of_text.reads refl of_text.in_order in
      omega arith
