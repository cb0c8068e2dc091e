use Rattle.std.proofs.Common.{ℕ, get_or, ap, sym, ◌∙◌, arith}
use Rattle.std.proofs.lemmas.List.{get_or-map, length-map}
use Rattle.esc_term.specs.declared.term.Term.{Term}
use Rattle.esc_simplex.specs.Senses.{term_at}
use Rattle.esc_simplex.specs.View.{numbers_in}
use Rattle.esc_sharing.proofs.arithmetic.SimplexTheory.number_at.Goals as goal

pub returns : goal.returns
returns c =
    let v = c.args.self.now in
    let read = c.index-bound_nodes-place.result in
    let number : ℕ × ℕ → ℕ × Term = λ pair. (pair.0, term_at v.made pair.1) in
    ap (λ bound. (get_or bound c.args.place read).0) c.bound_nodes.ensures
    ∙ sym (get_or-map (λ (n : ℕ × Term). n.0) (numbers_in v) c.args.place (number read) 0
    c.requires.place
    ∙ ap (λ (n : ℕ × Term). n.0) (get_or-map number v.bound c.args.place read (number read)
    (omega (arith, c.requires.place, length-map v.bound number))))
