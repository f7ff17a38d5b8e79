use Rattle.std.proofs.Common.{◌≡◌, ◌+◌, ◌++◌, ◌∷◌, ◌<◌, ◌≤◌, [], List, ℕ, length, drop, ap, sym, subst, ◌∙◌, arith, length-drop}
use Rattle.std.specs.List.{slice_index_or}
use Rattle.std.proofs.lemmas.List.{take_rest}
use Rattle.cell_units.specs.Record.{Inlay}
use Rattle.plain_rows.specs.declared.folded_lines.Part.{Part}
use Rattle.plain_rows.specs.declared.folded_lines.Part.TheVariants.{InlayFeed}
use Rattle.plain_rows.specs.FoldedLines.{inlay_at, next_inlay, no_inlay, seen}
use Rattle.plain_rows.specs.inside.Laying.{LaysInlay, break_len, inlay_run, last_of}
use Rattle.plain_rows.proofs.LaidInlays.{feed-last, inlay-found, inlay-laid-feed, inlay-laid-whole}
use Rattle.plain_rows.proofs.LaidSteps.{inlay-utf8, inlay_at-read, length-inlays}
use Rattle.plain_rows.proofs.laying.push_inlay_line.Goals as goal

pub overflow_add-end : goal.overflow_add-end
overflow_add-end c =
    let src = c.args.source.now in
    let s = seen src in
    let number = c.args.number in
    let text = (inlay_at s number).text in
    let there : number < length s.inlays = omega (arith, length-inlays src.text.now src.inlays.now src.folds.now, c.requires.number) in
    let same = inlay_at-read src.text.now src.inlays.now src.folds.now number c.index-source-number.result c.requires.number in
    let bytes : c.as_bytes-bytes.result.now ≡ text = c.as_bytes-bytes.ensures.value ∙ c.as_str.ensures ∙ sym (ap (λ (i : Inlay). i.text) same) in
    let size : length c.as_bytes-bytes.result.now ≡ length text = ap length bytes in
    let f = inlay-found text c.as_bytes-bytes.result.now c.args.at c.run_len.result c.run_len.ensures bytes c.requires.boundary in
    let small : length text ≤ 1024 = (c.requires.lawful.inlays_size number no_inlay there).1 in
    omega (arith, f.within, small)

pub push_inlay_run-requires : goal.push_inlay_run-requires
push_inlay_run-requires c =
    let src = c.args.source.now in
    let s = seen src in
    let number = c.args.number in
    let text = (inlay_at s number).text in
    let there : number < length s.inlays = omega (arith, length-inlays src.text.now src.inlays.now src.folds.now, c.requires.number) in
    let same = inlay_at-read src.text.now src.inlays.now src.folds.now number c.index-source-number.result c.requires.number in
    let bytes : c.as_bytes-bytes.result.now ≡ text = c.as_bytes-bytes.ensures.value ∙ c.as_str.ensures ∙ sym (ap (λ (i : Inlay). i.text) same) in
    let size : length c.as_bytes-bytes.result.now ≡ length text = ap length bytes in
    let f = inlay-found text c.as_bytes-bytes.result.now c.args.at c.run_len.result c.run_len.ensures bytes c.requires.boundary in
    let small : length text ≤ 1024 = (c.requires.lawful.inlays_size number no_inlay there).1 in
    omega (arith, f.within, small)

pub returns-then-end-bytes-clause-lays : goal.returns-then-end-bytes-clause-lays
returns-then-end-bytes-clause-lays c =
    let src = c.args.source.now in
    let s = seen src in
    let number = c.args.number in
    let text = (inlay_at s number).text in
    let there : number < length s.inlays = omega (arith, length-inlays src.text.now src.inlays.now src.folds.now, c.requires.number) in
    let same = inlay_at-read src.text.now src.inlays.now src.folds.now number c.index-source-number.result c.requires.number in
    let bytes : c.as_bytes-bytes.result.now ≡ text = c.as_bytes-bytes.ensures.value ∙ c.as_str.ensures ∙ sym (ap (λ (i : Inlay). i.text) same) in
    let size : length c.as_bytes-bytes.result.now ≡ length text = ap length bytes in
    let f = inlay-found text c.as_bytes-bytes.result.now c.args.at c.run_len.result c.run_len.ensures bytes c.requires.boundary in
    let end : ℕ = c.args.at + c.run_len.result in
    let old = c.args.parts.now.items in
    let offset : (slice_index_or src.inlays.now number c.index-source-number.result).offset ≡ (inlay_at s number).offset = sym (ap (λ (i : Inlay). i.offset) same) in
    let run = c.in_ok-push_inlay_run.ensures ∙ ap (λ (o : ℕ). old ++ inlay_run number o c.args.at end) offset in
    let laid = inlay-laid-whole s number (inlay-utf8 s c.requires.lawful number there) there old c.args.at end c.requires.reaches c.requires.apart c.requires.boundary c.requires.some f (c.if-end-bytes.true ∙ size) in
    subst (λ (new : List Part). LaysInlay s number old new c.args.at end) (sym run) laid

pub returns-then-end-bytes-clause-apart : goal.returns-then-end-bytes-clause-apart
returns-then-end-bytes-clause-apart c =
    let src = c.args.source.now in
    let s = seen src in
    let number = c.args.number in
    let text = (inlay_at s number).text in
    let there : number < length s.inlays = omega (arith, length-inlays src.text.now src.inlays.now src.folds.now, c.requires.number) in
    let same = inlay_at-read src.text.now src.inlays.now src.folds.now number c.index-source-number.result c.requires.number in
    let bytes : c.as_bytes-bytes.result.now ≡ text = c.as_bytes-bytes.ensures.value ∙ c.as_str.ensures ∙ sym (ap (λ (i : Inlay). i.text) same) in
    let size : length c.as_bytes-bytes.result.now ≡ length text = ap length bytes in
    let f = inlay-found text c.as_bytes-bytes.result.now c.args.at c.run_len.result c.run_len.ensures bytes c.requires.boundary in
    λ lt. absurd (omega (arith, lt, c.if-end-bytes.true, size))

pub slice_bounds-break_len-count : goal.slice_bounds-break_len-count
slice_bounds-break_len-count c =
    let src = c.args.source.now in
    let s = seen src in
    let number = c.args.number in
    let text = (inlay_at s number).text in
    let there : number < length s.inlays = omega (arith, length-inlays src.text.now src.inlays.now src.folds.now, c.requires.number) in
    let same = inlay_at-read src.text.now src.inlays.now src.folds.now number c.index-source-number.result c.requires.number in
    let bytes : c.as_bytes-bytes.result.now ≡ text = c.as_bytes-bytes.ensures.value ∙ c.as_str.ensures ∙ sym (ap (λ (i : Inlay). i.text) same) in
    let size : length c.as_bytes-bytes.result.now ≡ length text = ap length bytes in
    let f = inlay-found text c.as_bytes-bytes.result.now c.args.at c.run_len.result c.run_len.ensures bytes c.requires.boundary in
    omega (arith, f.within, size)

pub slice_bounds-break_len-start : goal.slice_bounds-break_len-start
slice_bounds-break_len-start c =
    let src = c.args.source.now in
    let s = seen src in
    let number = c.args.number in
    let text = (inlay_at s number).text in
    let there : number < length s.inlays = omega (arith, length-inlays src.text.now src.inlays.now src.folds.now, c.requires.number) in
    let same = inlay_at-read src.text.now src.inlays.now src.folds.now number c.index-source-number.result c.requires.number in
    let bytes : c.as_bytes-bytes.result.now ≡ text = c.as_bytes-bytes.ensures.value ∙ c.as_str.ensures ∙ sym (ap (λ (i : Inlay). i.text) same) in
    let size : length c.as_bytes-bytes.result.now ≡ length text = ap length bytes in
    let f = inlay-found text c.as_bytes-bytes.result.now c.args.at c.run_len.result c.run_len.ensures bytes c.requires.boundary in
    omega (arith, f.within, size)

pub break_len-requires : goal.break_len-requires
break_len-requires c =
    let src = c.args.source.now in
    let s = seen src in
    let number = c.args.number in
    let text = (inlay_at s number).text in
    let there : number < length s.inlays = omega (arith, length-inlays src.text.now src.inlays.now src.folds.now, c.requires.number) in
    let same = inlay_at-read src.text.now src.inlays.now src.folds.now number c.index-source-number.result c.requires.number in
    let bytes : c.as_bytes-bytes.result.now ≡ text = c.as_bytes-bytes.ensures.value ∙ c.as_str.ensures ∙ sym (ap (λ (i : Inlay). i.text) same) in
    let size : length c.as_bytes-bytes.result.now ≡ length text = ap length bytes in
    let f = inlay-found text c.as_bytes-bytes.result.now c.args.at c.run_len.result c.run_len.ensures bytes c.requires.boundary in
    let rest = take_rest c.as_bytes-bytes.result.now (c.args.at + c.run_len.result) in
    omega (arith, f.within, size, c.if-end-bytes.false, ap length rest, length-drop (c.args.at + c.run_len.result) c.as_bytes-bytes.result.now)

pub overflow_add-result : goal.overflow_add-result
overflow_add-result c =
    let src = c.args.source.now in
    let s = seen src in
    let number = c.args.number in
    let text = (inlay_at s number).text in
    let there : number < length s.inlays = omega (arith, length-inlays src.text.now src.inlays.now src.folds.now, c.requires.number) in
    let same = inlay_at-read src.text.now src.inlays.now src.folds.now number c.index-source-number.result c.requires.number in
    let bytes : c.as_bytes-bytes.result.now ≡ text = c.as_bytes-bytes.ensures.value ∙ c.as_str.ensures ∙ sym (ap (λ (i : Inlay). i.text) same) in
    let size : length c.as_bytes-bytes.result.now ≡ length text = ap length bytes in
    let f = inlay-found text c.as_bytes-bytes.result.now c.args.at c.run_len.result c.run_len.ensures bytes c.requires.boundary in
    let small : length text ≤ 1024 = (c.requires.lawful.inlays_size number no_inlay there).1 in
    let end : ℕ = c.args.at + c.run_len.result in
    let old = c.args.parts.now.items in
    let offset : (slice_index_or src.inlays.now number c.index-source-number.result).offset ≡ (inlay_at s number).offset = sym (ap (λ (i : Inlay). i.offset) same) in
    let run = c.in_ok-push_inlay_run.ensures ∙ ap (λ (o : ℕ). old ++ inlay_run number o c.args.at end) offset in
    let lt : end < length text = omega (arith, f.within, size, c.if-end-bytes.false) in
    let laid = inlay-laid-feed s number (inlay-utf8 s c.requires.lawful number there) there old c.args.at end c.requires.reaches c.requires.apart c.requires.boundary c.requires.some f lt in
    let is : c.push.new.self.items ≡ (old ++ inlay_run number (inlay_at s number).offset c.args.at end) ++ InlayFeed number (inlay_at s number).offset ∷ [] =
    c.in_ok-push.ensures.items ∙ (λ i. run i ++ InlayFeed number (offset i) ∷ []) in
    let len : c.break_len.result ≡ break_len (drop end text) =
    c.break_len.ensures ∙ ap break_len (take_rest c.as_bytes-bytes.result.now end) ∙ ap (λ (t : List ℕ). break_len (drop end t)) bytes in
    omega (arith, laid.boundary.0, len, small)

pub returns-clause-lays : goal.returns-clause-lays
returns-clause-lays c =
    let src = c.args.source.now in
    let s = seen src in
    let number = c.args.number in
    let text = (inlay_at s number).text in
    let there : number < length s.inlays = omega (arith, length-inlays src.text.now src.inlays.now src.folds.now, c.requires.number) in
    let same = inlay_at-read src.text.now src.inlays.now src.folds.now number c.index-source-number.result c.requires.number in
    let bytes : c.as_bytes-bytes.result.now ≡ text = c.as_bytes-bytes.ensures.value ∙ c.as_str.ensures ∙ sym (ap (λ (i : Inlay). i.text) same) in
    let size : length c.as_bytes-bytes.result.now ≡ length text = ap length bytes in
    let f = inlay-found text c.as_bytes-bytes.result.now c.args.at c.run_len.result c.run_len.ensures bytes c.requires.boundary in
    let end : ℕ = c.args.at + c.run_len.result in
    let old = c.args.parts.now.items in
    let offset : (slice_index_or src.inlays.now number c.index-source-number.result).offset ≡ (inlay_at s number).offset = sym (ap (λ (i : Inlay). i.offset) same) in
    let run = c.in_ok-push_inlay_run.ensures ∙ ap (λ (o : ℕ). old ++ inlay_run number o c.args.at end) offset in
    let lt : end < length text = omega (arith, f.within, size, c.if-end-bytes.false) in
    let laid = inlay-laid-feed s number (inlay-utf8 s c.requires.lawful number there) there old c.args.at end c.requires.reaches c.requires.apart c.requires.boundary c.requires.some f lt in
    let is : c.push.new.self.items ≡ (old ++ inlay_run number (inlay_at s number).offset c.args.at end) ++ InlayFeed number (inlay_at s number).offset ∷ [] =
    c.in_ok-push.ensures.items ∙ (λ i. run i ++ InlayFeed number (offset i) ∷ []) in
    let len : c.break_len.result ≡ break_len (drop end text) =
    c.break_len.ensures ∙ ap break_len (take_rest c.as_bytes-bytes.result.now end) ∙ ap (λ (t : List ℕ). break_len (drop end t)) bytes in
    subst (λ (n : ℕ). LaysInlay s number old c.push.new.self.items c.args.at (end + n)) (sym len)
    (subst (λ (new : List Part). LaysInlay s number old new c.args.at (end + break_len (drop end text))) (sym is) laid)

pub returns-clause-apart : goal.returns-clause-apart
returns-clause-apart c =
    let src = c.args.source.now in
    let s = seen src in
    let number = c.args.number in
    let text = (inlay_at s number).text in
    let there : number < length s.inlays = omega (arith, length-inlays src.text.now src.inlays.now src.folds.now, c.requires.number) in
    let same = inlay_at-read src.text.now src.inlays.now src.folds.now number c.index-source-number.result c.requires.number in
    let bytes : c.as_bytes-bytes.result.now ≡ text = c.as_bytes-bytes.ensures.value ∙ c.as_str.ensures ∙ sym (ap (λ (i : Inlay). i.text) same) in
    let size : length c.as_bytes-bytes.result.now ≡ length text = ap length bytes in
    let f = inlay-found text c.as_bytes-bytes.result.now c.args.at c.run_len.result c.run_len.ensures bytes c.requires.boundary in
    let end : ℕ = c.args.at + c.run_len.result in
    let old = c.args.parts.now.items in
    let offset : (slice_index_or src.inlays.now number c.index-source-number.result).offset ≡ (inlay_at s number).offset = sym (ap (λ (i : Inlay). i.offset) same) in
    let run = c.in_ok-push_inlay_run.ensures ∙ ap (λ (o : ℕ). old ++ inlay_run number o c.args.at end) offset in
    let lt : end < length text = omega (arith, f.within, size, c.if-end-bytes.false) in
    let laid = inlay-laid-feed s number (inlay-utf8 s c.requires.lawful number there) there old c.args.at end c.requires.reaches c.requires.apart c.requires.boundary c.requires.some f lt in
    let is : c.push.new.self.items ≡ (old ++ inlay_run number (inlay_at s number).offset c.args.at end) ++ InlayFeed number (inlay_at s number).offset ∷ [] =
    c.in_ok-push.ensures.items ∙ (λ i. run i ++ InlayFeed number (offset i) ∷ []) in
    let none = feed-last s number (inlay-utf8 s c.requires.lawful number there) there old c.args.at end in
    λ _. omega (arith, ap (λ (l : List Part). next_inlay (last_of l)) is ∙ none)
