use Rattle.std.proofs.Common.{ℕ, get_or, ap, sym, ◌∙◌, arith}
use Rattle.std.proofs.lemmas.List.{get_or-map, length-map}
use Rattle.esc_term.specs.declared.term.Term.{Term}
use Rattle.sharing_cases.specs.ConstantTerms.{number_of_constant, numbers_in}
use Rattle.sharing_cases.proofs.constants.ConstantsTheory.number_at.Goals as goal

pub returns : goal.returns
returns c =
    let v = c.args.self.now in
    let read = c.index-as_slice-place.result in
    let number = number_of_constant read in
    ap (λ cs. (get_or cs c.args.place read).node) c.as_slice.ensures
    ∙ sym (get_or-map (λ (n : ℕ × Term). n.0) (numbers_in v) c.args.place number 0
    c.requires.place
    ∙ ap (λ (n : ℕ × Term). n.0) (get_or-map number_of_constant v.list c.args.place read number
    (omega (arith, c.requires.place, length-map v.list number_of_constant))))
