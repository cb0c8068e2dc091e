use Rattle.std.proofs.Common.{ℕ, rules, arith, ◌-◌, ◌<◌, ◌≤◌, sym, refl, ◌∙◌, ap, subst, map, take}
use Rattle.std.proofs.Common.{drop, length, get_or, Some, None}
use Rattle.esc_read.proofs.Readings.{Declares-fails, Declares-stops, Declares-then, gives, next}
use Rattle.esc_read.proofs.Readings.{plain, refused, stops}
use Rattle.esc_read.proofs.Slices.{parted}
use Rattle.esc_read.proofs.Readings.{Going-ends, Going-fails, Going-next}
use Rattle.esc_form.specs.declared.form.Form.TheVariants as form
use Rattle.esc_form.specs.Forms.{form_of}
use Rattle.esc_form.specs.Formulas.{formula, middle, note_of_part, noted, part_of}
use Rattle.esc_form.specs.Patterns.{all_notes}
use Rattle.esc_read.specs.Reading.{ReadsIn, each, ◌<$>◌}
use Rattle.esc_form.proofs.FormulaLemmas.{and_list, distinction_list, headed, no_junction}
use Rattle.esc_form.proofs.FormulaLemmas.{no_labelling, no_negation, no_quantifier, or_list}
use Rattle.esc_form.proofs.FormulaLemmas.{predicate_list, quantified_list, relation_list, between}
use Rattle.esc_form.proofs.FormulaLemmas.{second_part, unheaded, yes_junction, yes_labelling}
use Rattle.esc_form.proofs.FormulaLemmas.{yes_negation}
use Rattle.esc_names.specs.declared.key.Note.TheVariants as says
use Rattle.esc_form.proofs.NoteLoops.{Gathering, Gathering-ends, Gathering-fails, Gathering-next}
use Rattle.esc_form.proofs.NoteLoops.{Gathering-starts, length_middle, middle_at, note_readings}
use Rattle.esc_form.proofs.NoteLoops.{step_back}
use Rattle.esc_form.proofs.PatternLemmas.{note_is}
use Rattle.esc_form.proofs.reader.FormReader.+read_formula.Goals as goal

pub read_formula-returns-in_default : goal.read_formula-returns-in_default
read_formula-returns-in_default t c =
    rw (unheaded c.args.sexp.now c.in-List.place c.in-List.items c.as_slice-in-List.result.now
    c.in-List.is c.as_slice-in-List.ensures c.in_default.len_below)
    (refused c.refusal.ensures)

pub read_formula-returns-in-Predicate : goal.read_formula-returns-in-Predicate
read_formula-returns-in-Predicate t c =
    let s = c.as_slice-in-List.result.now in let ps = take (length s - 1) (drop 1 s) in
    rw (headed c.args.sexp.now c.in-List.place c.in-List.items s c.head-item.result ps
    form.Predicate
    c.in-List.is c.as_slice-in-List.ensures
    (parted s c.head-item.result c.in-len1-up.len_at_least c.head-item.is)
    (c.in-Predicate.ensures ∙ ap form_of c.token_of.ensures)
    ∙ predicate_list c.in-List.place c.head-item.result ps)
    (rw (c.place_of.ensures, c.text_of.ensures) at c.read_predicate.ensures)

pub read_formula-returns-in-And : goal.read_formula-returns-in-And
read_formula-returns-in-And t c =
    let s = c.as_slice-in-List.result.now in let ps = take (length s - 1) (drop 1 s) in
    rw (headed c.args.sexp.now c.in-List.place c.in-List.items s c.head-item.result ps form.And
    c.in-List.is c.as_slice-in-List.ensures
    (parted s c.head-item.result c.in-len1-up.len_at_least c.head-item.is)
    (c.in-And.ensures ∙ ap form_of c.token_of.ensures)
    ∙ and_list c.in-List.place c.head-item.result ps)
    c.read_and.ensures

pub read_formula-returns-in-Or : goal.read_formula-returns-in-Or
read_formula-returns-in-Or t c =
    let s = c.as_slice-in-List.result.now in let ps = take (length s - 1) (drop 1 s) in
    rw (headed c.args.sexp.now c.in-List.place c.in-List.items s c.head-item.result ps form.Or
    c.in-List.is c.as_slice-in-List.ensures
    (parted s c.head-item.result c.in-len1-up.len_at_least c.head-item.is)
    (c.in-Or.ensures ∙ ap form_of c.token_of.ensures)
    ∙ or_list c.in-List.place c.head-item.result ps)
    c.read_or.ensures

pub read_formula-returns-in-Not : goal.read_formula-returns-in-Not
read_formula-returns-in-Not t c =
    let s = c.as_slice-in-List.result.now in let ps = take (length s - 1) (drop 1 s) in
    rw (headed c.args.sexp.now c.in-List.place c.in-List.items s c.head-item.result ps form.Not
    c.in-List.is c.as_slice-in-List.ensures
    (parted s c.head-item.result c.in-len1-up.len_at_least c.head-item.is)
    (c.in-Not.ensures ∙ ap form_of c.token_of.ensures))
    c.read_negation.ensures

pub read_formula-returns-in-Join : goal.read_formula-returns-in-Join
read_formula-returns-in-Join t c =
    let s = c.as_slice-in-List.result.now in let ps = take (length s - 1) (drop 1 s) in
    rw (headed c.args.sexp.now c.in-List.place c.in-List.items s c.head-item.result ps
    (form.Join c.in-Join.join)
    c.in-List.is c.as_slice-in-List.ensures
    (parted s c.head-item.result c.in-len1-up.len_at_least c.head-item.is)
    (c.in-Join.ensures ∙ ap form_of c.token_of.ensures))
    c.read_junction.ensures

pub read_formula-returns-in-Bind : goal.read_formula-returns-in-Bind
read_formula-returns-in-Bind t c =
    let s = c.as_slice-in-List.result.now in let ps = take (length s - 1) (drop 1 s) in
    rw (headed c.args.sexp.now c.in-List.place c.in-List.items s c.head-item.result ps
    (form.Bind c.in-Bind.binder)
    c.in-List.is c.as_slice-in-List.ensures
    (parted s c.head-item.result c.in-len1-up.len_at_least c.head-item.is)
    (c.in-Bind.ensures ∙ ap form_of c.token_of.ensures))
    c.read_quantifier.ensures

pub read_formula-returns-in-Relate : goal.read_formula-returns-in-Relate
read_formula-returns-in-Relate t c =
    let s = c.as_slice-in-List.result.now in let ps = take (length s - 1) (drop 1 s) in
    rw (headed c.args.sexp.now c.in-List.place c.in-List.items s c.head-item.result ps
    (form.Relate c.in-Relate.relation)
    c.in-List.is c.as_slice-in-List.ensures
    (parted s c.head-item.result c.in-len1-up.len_at_least c.head-item.is)
    (c.in-Relate.ensures ∙ ap form_of c.token_of.ensures)
    ∙ relation_list c.in-List.place c.head-item.result ps c.in-Relate.relation)
    c.read_relation.ensures

pub read_formula-returns-in-Distinct : goal.read_formula-returns-in-Distinct
read_formula-returns-in-Distinct t c =
    let s = c.as_slice-in-List.result.now in let ps = take (length s - 1) (drop 1 s) in
    rw (headed c.args.sexp.now c.in-List.place c.in-List.items s c.head-item.result ps form.Distinct
    c.in-List.is c.as_slice-in-List.ensures
    (parted s c.head-item.result c.in-len1-up.len_at_least c.head-item.is)
    (c.in-Distinct.ensures ∙ ap form_of c.token_of.ensures)
    ∙ distinction_list c.in-List.place c.head-item.result ps)
    c.read_distinction.ensures

pub read_formula-returns-in-Label : goal.read_formula-returns-in-Label
read_formula-returns-in-Label t c =
    let s = c.as_slice-in-List.result.now in let ps = take (length s - 1) (drop 1 s) in
    rw (headed c.args.sexp.now c.in-List.place c.in-List.items s c.head-item.result ps
    (form.Label c.in-Label.labelling)
    c.in-List.is c.as_slice-in-List.ensures
    (parted s c.head-item.result c.in-len1-up.len_at_least c.head-item.is)
    (c.in-Label.ensures ∙ ap form_of c.token_of.ensures))
    c.read_labelling.ensures

pub read_formula-returns-in-Misplaced : goal.read_formula-returns-in-Misplaced
read_formula-returns-in-Misplaced t c =
    let s = c.as_slice-in-List.result.now in let ps = take (length s - 1) (drop 1 s) in
    rw (headed c.args.sexp.now c.in-List.place c.in-List.items s c.head-item.result ps
    form.Misplaced
    c.in-List.is c.as_slice-in-List.ensures
    (parted s c.head-item.result c.in-len1-up.len_at_least c.head-item.is)
    (c.in-Misplaced.ensures ∙ ap form_of c.token_of.ensures))
    (refused (search rules))

pub read_formula-returns-in-Other : goal.read_formula-returns-in-Other
read_formula-returns-in-Other t c =
    let s = c.as_slice-in-List.result.now in let ps = take (length s - 1) (drop 1 s) in
    rw (headed c.args.sexp.now c.in-List.place c.in-List.items s c.head-item.result ps form.Other
    c.in-List.is c.as_slice-in-List.ensures
    (parted s c.head-item.result c.in-len1-up.len_at_least c.head-item.is)
    (c.in-Other.ensures ∙ ap form_of c.token_of.ensures))
    (refused (search rules))

pub read_and-returns-in_err-parts : goal.read_and-returns-in_err-parts
read_and-returns-in_err-parts t c =
    stops c.in_err-parts.field-0.0 _ c.read_formulas.ensures c.in_err-parts.was (search rules)

pub read_and-returns : goal.read_and-returns
read_and-returns t c = next c.in_ok-parts.parts _ c.read_formulas.ensures c.in_ok-parts.was
    (gives refl)

pub read_or-returns-in_err-parts : goal.read_or-returns-in_err-parts
read_or-returns-in_err-parts t c =
    stops c.in_err-parts.field-0.0 _ c.read_formulas.ensures c.in_err-parts.was (search rules)

pub read_or-returns : goal.read_or-returns
read_or-returns t c = next c.in_ok-parts.parts _ c.read_formulas.ensures c.in_ok-parts.was
    (gives refl)

pub read_formulas-returns-in_err-formula : goal.read_formulas-returns-in_err-formula
read_formulas-returns-in_err-formula t c =
    Going-fails formula c.args.parts.now c.parts.part-index c.part-item.result
    c.in_err-formula.field-0.0 c.parts-test.true c.part-item.is c.parts.invariant
    c.read_formula.ensures c.in_err-formula.was (search rules)

pub read_formulas-parts-preserved : goal.read_formulas-parts-preserved
read_formulas-parts-preserved t c =
    Going-next formula c.args.parts.now c.parts.part-index c.part-item.result
    c.in_ok-formula.formula c.parts-test.true c.part-item.is c.parts.invariant
    c.read_formula.ensures c.in_ok-formula.was (search rules)

pub read_formulas-returns : goal.read_formulas-returns
read_formulas-returns t c =
    Going-ends formula c.args.parts.now c.parts.part-index c.parts-test.false c.parts.invariant

pub read_negation-returns-then-parts-ne1 : goal.read_negation-returns-then-parts-ne1
read_negation-returns-then-parts-ne1 t c =
    rw (no_negation c.args.place c.args.parts.now c.if-parts-ne1.true) (refused c.refusal.ensures)

pub read_negation-returns-in_err-part : goal.read_negation-returns-in_err-part
read_negation-returns-in_err-part t c =
    rw (yes_negation c.args.place c.args.parts.now c.index-parts-0.result c.if-parts-ne1.false
    c.index-parts-0.is)
    (stops c.in_err-part.field-0.0 _ c.read_formula.ensures c.in_err-part.was
    (search rules))

pub read_negation-returns : goal.read_negation-returns
read_negation-returns t c =
    rw (yes_negation c.args.place c.args.parts.now c.index-parts-0.result c.if-parts-ne1.false
    c.index-parts-0.is) (next c.in_ok-part.part _ c.read_formula.ensures c.in_ok-part.was
    (plain (c.built.ensures _ c.not.ensures)))

pub read_junction-returns-then-parts-ne2 : goal.read_junction-returns-then-parts-ne2
read_junction-returns-then-parts-ne2 t c =
    rw (no_junction c.args.place c.args.join c.args.parts.now c.if-parts-ne2.true)
    (refused c.refusal.ensures)

pub read_junction-returns-in_err-left : goal.read_junction-returns-in_err-left
read_junction-returns-in_err-left t c =
    rw (yes_junction c.args.place c.args.join c.args.parts.now c.index-parts-0.result
    (get_or c.args.parts.now 1 c.index-parts-0.result) c.if-parts-ne2.false c.index-parts-0.is
    (second_part c.args.parts.now c.index-parts-0.result c.if-parts-ne2.false))
    (stops c.in_err-left.field-0.0 _ c.read_formula.ensures c.in_err-left.was (search rules))

pub read_junction-returns-in-Err : goal.read_junction-returns-in-Err
read_junction-returns-in-Err t c =
    rw (yes_junction c.args.place c.args.join c.args.parts.now c.index-parts-0.result
    c.index-parts-1.result c.if-parts-ne2.false c.index-parts-0.is c.index-parts-1.is)
    (next c.in_ok-left.left _ c.read_formula.ensures c.in_ok-left.was
    (stops c.in-Err.stop _ c.read_formula-2.ensures c.in-Err.is refl))

pub read_junction-returns : goal.read_junction-returns
read_junction-returns t c =
    rw (yes_junction c.args.place c.args.join c.args.parts.now c.index-parts-0.result
    c.index-parts-1.result c.if-parts-ne2.false c.index-parts-0.is c.index-parts-1.is)
    (next c.in_ok-left.left _ c.read_formula.ensures c.in_ok-left.was
    (next c.in-Ok.right _ c.read_formula-2.ensures c.in-Ok.is
    (plain (c.built.ensures _ c.joined.ensures))))

pub read_labelling-returns-then-parts-ne2 : goal.read_labelling-returns-then-parts-ne2
read_labelling-returns-then-parts-ne2 t c =
    rw (no_labelling c.args.place c.args.labelling c.args.parts.now c.if-parts-ne2.true)
    (refused c.refusal.ensures)

pub read_labelling-returns-in_err-name : goal.read_labelling-returns-in_err-name
read_labelling-returns-in_err-name t c =
    rw (yes_labelling c.args.place c.args.labelling c.args.parts.now c.index-parts-0.result
    (get_or c.args.parts.now 1 c.index-parts-0.result) c.if-parts-ne2.false c.index-parts-0.is
    (second_part c.args.parts.now c.index-parts-0.result c.if-parts-ne2.false))
    (stops c.in_err-name.field-0.0 _ c.read_label.ensures c.in_err-name.was (search rules))

pub read_labelling-returns-in_err-part : goal.read_labelling-returns-in_err-part
read_labelling-returns-in_err-part t c =
    rw (yes_labelling c.args.place c.args.labelling c.args.parts.now c.index-parts-0.result
    c.index-parts-1.result c.if-parts-ne2.false c.index-parts-0.is c.index-parts-1.is)
    (next c.in_ok-name.name _ c.read_label.ensures c.in_ok-name.was
    (stops c.in_err-part.field-0.0 _ c.read_formula.ensures c.in_err-part.was (search rules)))

pub read_labelling-returns : goal.read_labelling-returns
read_labelling-returns t c =
    rw (yes_labelling c.args.place c.args.labelling c.args.parts.now c.index-parts-0.result
    c.index-parts-1.result c.if-parts-ne2.false c.index-parts-0.is c.index-parts-1.is)
    (next c.in_ok-name.name _ c.read_label.ensures c.in_ok-name.was
    (next c.in_ok-part.part _ c.read_formula.ensures c.in_ok-part.was
    (plain (c.built.ensures _ c.labelled.ensures))))

pub read_quantifier-returns-in_default : goal.read_quantifier-returns-in_default
read_quantifier-returns-in_default t c =
    rw (no_quantifier c.args.place c.args.binder c.args.parts.now c.in_default.len_below)
    (refused c.refusal.ensures)

pub read_quantifier-returns-in_err-count : goal.read_quantifier-returns-in_err-count
read_quantifier-returns-in_err-count t c =
    rw (quantified_list c.args.binder c.args.place c.args.parts.now c.list-item.result
    c.body-item.result (middle c.args.parts.now)
    (between c.args.parts.now c.list-item.result c.body-item.result c.in-len2-up.len_at_least
    c.list-item.is c.body-item.is))
    (Declares-stops _ c.in_err-count.field-0.0 c.read_variables.ensures c.in_err-count.was
    (search rules))

pub read_quantifier-returns-in_err-notes : goal.read_quantifier-returns-in_err-notes
read_quantifier-returns-in_err-notes t c =
    let noted_by =
    λ (n : ℕ). noted c.args.binder n c.args.place (map part_of (middle c.args.parts.now))
    (part_of c.body-item.result) in
    rw (quantified_list c.args.binder c.args.place c.args.parts.now c.list-item.result
    c.body-item.result (middle c.args.parts.now)
    (between c.args.parts.now c.list-item.result c.body-item.result c.in-len2-up.len_at_least
    c.list-item.is c.body-item.is))
    (Declares-fails noted_by c.in_ok-count.count c.in_err-notes.field-0.0 c.read_variables.ensures
    c.in_ok-count.was
    (stops c.in_err-notes.field-0.0 _
    (subst
    (λ rs. ReadsIn c.read_variables.new.self c.read_notes.new.self.terms c.read_notes.result
    (all_notes <$> each rs))
    (sym (note_readings c.args.place (middle c.args.parts.now)))
    c.read_notes.ensures) c.in_err-notes.was (search rules))
    (search rules))

pub read_quantifier-returns-in_err-body : goal.read_quantifier-returns-in_err-body
read_quantifier-returns-in_err-body t c =
    let noted_by =
    λ (n : ℕ). noted c.args.binder n c.args.place (map part_of (middle c.args.parts.now))
    (part_of c.body-item.result) in
    rw (quantified_list c.args.binder c.args.place c.args.parts.now c.list-item.result
    c.body-item.result (middle c.args.parts.now)
    (between c.args.parts.now c.list-item.result c.body-item.result c.in-len2-up.len_at_least
    c.list-item.is c.body-item.is))
    (Declares-fails noted_by c.in_ok-count.count c.in_err-body.field-0.0 c.read_variables.ensures
    c.in_ok-count.was
    (next c.in_ok-notes.notes _
    (subst
    (λ rs. ReadsIn c.read_variables.new.self c.read_notes.new.self.terms c.read_notes.result
    (all_notes <$> each rs))
    (sym (note_readings c.args.place (middle c.args.parts.now)))
    c.read_notes.ensures) c.in_ok-notes.was
    (stops c.in_err-body.field-0.0 _ c.read_formula.ensures c.in_err-body.was (search rules)))
    (search rules))

pub read_quantifier-returns : goal.read_quantifier-returns
read_quantifier-returns t c =
    let noted_by =
    λ (n : ℕ). noted c.args.binder n c.args.place (map part_of (middle c.args.parts.now))
    (part_of c.body-item.result) in
    rw (quantified_list c.args.binder c.args.place c.args.parts.now c.list-item.result
    c.body-item.result (middle c.args.parts.now)
    (between c.args.parts.now c.list-item.result c.body-item.result c.in-len2-up.len_at_least
    c.list-item.is c.body-item.is))
    (Declares-then noted_by c.in_ok-count.count c.read_variables.ensures c.in_ok-count.was
    (next c.in_ok-notes.notes _
    (subst
    (λ rs. ReadsIn c.read_variables.new.self c.read_notes.new.self.terms c.read_notes.result
    (all_notes <$> each rs))
    (sym (note_readings c.args.place (middle c.args.parts.now)))
    c.read_notes.ensures) c.in_ok-notes.was
    (next c.in_ok-body.body _ c.read_formula.ensures c.in_ok-body.was
    (plain (c.built.ensures _ c.bound.ensures))))
    c.leave.ensures.names c.leave.ensures.scope)

pub read_notes-parts-init : goal.read_notes-parts-init
read_notes-parts-init t c = Gathering-starts _ _ _ c.new-notes.ensures

pub read_notes-parts-preserved : goal.read_notes-parts-preserved
read_notes-parts-preserved t c =
    let ps = middle c.args.parts.now in
    let low : 1 ≤ c.parts.at = omega arith in
    let high : c.parts.at < length c.args.parts.now - 1 = omega arith in
    let within : c.parts.at - 1 < length ps = rw (length_middle c.args.parts.now) (omega arith) in
    subst
    (λ k. Gathering c.args.self.now.terms c.read_note.new.self.terms c.add.new.self
    (map (note_of_part c.args.place) (drop k ps)) (map (note_of_part c.args.place) ps))
    (step_back c.parts.at low)
    (Gathering-next (note_of_part c.args.place) ps
    (c.parts.at - 1) c.index-parts-at.result c.in_ok-note.note within
    (middle_at c.args.parts.now c.parts.at c.index-parts-at.result low high c.index-parts-at.is)
    c.parts.invariant c.read_note.ensures c.in_ok-note.was (search rules))

pub read_notes-returns-in_err-note : goal.read_notes-returns-in_err-note
read_notes-returns-in_err-note t c =
    let ps = middle c.args.parts.now in
    let low : 1 ≤ c.parts.at = omega arith in
    let high : c.parts.at < length c.args.parts.now - 1 = omega arith in
    let within : c.parts.at - 1 < length ps = rw (length_middle c.args.parts.now) (omega arith) in
    Gathering-fails (note_of_part c.args.place) ps
    (c.parts.at - 1) c.index-parts-at.result c.in_err-note.field-0.0 within
    (middle_at c.args.parts.now c.parts.at c.index-parts-at.result low high c.index-parts-at.is)
    c.parts.invariant c.read_note.ensures c.in_err-note.was (search rules)

pub read_notes-returns : goal.read_notes-returns
read_notes-returns t c =
    let ps = middle c.args.parts.now in
    let past : length ps ≤ c.parts.at - 1 = rw (length_middle c.args.parts.now) (omega arith) in
    Gathering-ends (note_of_part c.args.place) ps (c.parts.at - 1) past c.parts.invariant

pub read_note-returns-in-Some-Patterns : goal.read_note-returns-in-Some-Patterns
read_note-returns-in-Some-Patterns t c =
    note_is c.args.place c.args.part.now (Some says.Patterns) (first_of (search rules, cc))
    (rw c.args_of.ensures at c.read_pattern_note.ensures)

pub read_note-returns-in-Some-Exempt : goal.read_note-returns-in-Some-Exempt
read_note-returns-in-Some-Exempt t c =
    note_is c.args.place c.args.part.now (Some says.Exempt) (first_of (search rules, cc))
    (rw c.args_of-in-Some-Exempt.ensures at c.read_exempt_note.ensures)

pub read_note-returns-in-Some-Id : goal.read_note-returns-in-Some-Id
read_note-returns-in-Some-Id t c =
    note_is c.args.place c.args.part.now (Some says.Id) (first_of (search rules, cc))
    (gives (sym c.new.ensures))

pub read_note-returns-in_err-read_formula-in-None :
    goal.read_note-returns-in_err-read_formula-in-None
read_note-returns-in_err-read_formula-in-None t c =
    note_is c.args.place c.args.part.now None (first_of (search rules, cc))
    (stops c.in_err-read_formula-in-None.field-0.0 _ c.read_formula.ensures
    c.in_err-read_formula-in-None.was (search rules))

pub read_note-returns-in_ok-read_formula-in-None : goal.read_note-returns-in_ok-read_formula-in-None
read_note-returns-in_ok-read_formula-in-None t c =
    note_is c.args.place c.args.part.now None (first_of (search rules, cc))
    (next c.in_ok-read_formula-in-None.field-0 _ c.read_formula.ensures
    c.in_ok-read_formula-in-None.was (refused c.refusal.ensures))
