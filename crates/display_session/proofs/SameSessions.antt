-- When two sessions are the same.
use Rattle.std.proofs.Common.{◌≡◌, true, sym, subst}
use Rattle.std.specs.Prelude.{Option, Result, Ok, Err, OnErr}
use Rattle.std.proofs.Math.Bool.{Bool-set}
use Rattle.display_map.specs.Replay.{History, present_of}
use Rattle.display_session.specs.declared.session.Session.{Session}
use Rattle.display_session.specs.declared.watch.Watch.{Watch}
use Rattle.display_session.specs.HostMarks.{are_placed}
use Rattle.display_session.specs.Watches.{is_watched}

pub on-err : {A E : Type 0} (r : Result A E) (Q : Type 0) → Q → OnErr r Q
on-err (Ok x) Q q = tt
on-err (Err e) Q q = q

abbrev with-display : (s : Session) (d : History) (w : Option Watch) → are_placed (present_of d).text s.marks ≡ true → is_watched d w ≡ true → Session
with-display s d w p q = record { display = d; answer = s.answer; marks = s.marks; watch = w; placed = p; watched = q }

abbrev IsSame : (s : Session) (d : History) (w : Option Watch) → Type 0
IsSame s d w = (p : are_placed (present_of d).text s.marks ≡ true) (q : is_watched d w ≡ true) → with-display s d w p q ≡ s

here : (s : Session) → IsSame s s.display s.watch
here s p q =
    let p_is : p ≡ s.placed = Bool-set (are_placed (present_of s.display).text s.marks) true p s.placed in
    let q_is : q ≡ s.watched = Bool-set (is_watched s.display s.watch) true q s.watched in
    λ i. with-display s s.display s.watch (p_is i) (q_is i)

-- those whose displays, answers, marks and what is kept of changed rows are
pub same-session : (s : Session) (d : History) (w : Option Watch) (p : are_placed (present_of d).text s.marks ≡ true) (q : is_watched d w ≡ true) →
    d ≡ s.display → w ≡ s.watch → with-display s d w p q ≡ s
same-session s d w p q e f =
    subst (λ (d : History). IsSame s d w) (sym e)
    (subst (λ (w : Option Watch). IsSame s s.display w) (sym f) (here s)) p q
