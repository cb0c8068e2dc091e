use Rattle.std.proofs.Common.{◌≡◌, List, [], ◌∷◌, ◌++◌, sym, ap, ap₂, ◌∙◌, subst, subst₂}
use Rattle.std.specs.Prelude.{MatchOption}
use Rattle.esc_tableau.specs.Table.{Table}
use Rattle.esc_simplex.specs.SimplexUndo.{AreSame}
use Rattle.esc_simplex.specs.SimplexLaws.{simplex_lawful}
use Rattle.esc_simplex.specs.View.{IsSimplex}
use Rattle.esc_simplex.specs.declared.made.Made.{Made}
use Rattle.esc_simplex.proofs.Copied.{made_fill}
use Rattle.esc_simplex.proofs.Lists.{popped}
use Rattle.esc_simplex.proofs.RowMade.{parts_inside, row_same, row_simplex}
use Rattle.esc_simplex.proofs.simplex.Simplex.make_row.Goals as goal

pub returns-in_default-clause-err : goal.returns-in_default-clause-err
returns-in_default-clause-err c = ap (λ (ms : List Made). record c.args.self.now { made = ms })
    c.in_default.ensures.err

pub returns-in_default-clause-simplex : goal.returns-in_default-clause-simplex
returns-in_default-clause-simplex c = subst (λ (ms : List Made). IsSimplex
    (record c.args.self.now { made = ms })) (sym c.in_default.ensures.err) c.requires.simplex

pub returns-in_default-clause-same : goal.returns-in_default-clause-same
returns-in_default-clause-same c = subst (λ (ms : List Made). AreSame
    (record c.args.self.now { made = ms }) c.args.self.now) (sym c.in_default.ensures.err)
    (simplex_lawful.reflexive c.args.self.now)

pub add_row-requires : goal.add_row-requires
add_row-requires c = parts_inside c.args.self.now c.requires.simplex c.args.entry c.args.parts.now
    c.args.constant c.requires.parts

pub returns-in-Ok-add_row-clause-unknown : goal.returns-in-Ok-add_row-clause-unknown
returns-in-Ok-add_row-clause-unknown c = c.in-Ok-add_row.ensures.unknown
    ∙ made_fill c.args.self.now c.requires.simplex

pub returns-in-Ok-add_row-clause-simplex : goal.returns-in-Ok-add_row-clause-simplex
returns-in-Ok-add_row-clause-simplex c = subst (λ (ms : List Made). IsSimplex
    (record c.args.self.now { tableau = c.add_row.new.tableau; made = ms }))
    (sym c.in-Ok.ensures.ok)
    (row_simplex c.args.self.now c.requires.simplex c.args.entry c.args.parts.now c.args.constant
    c.requires.parts c.requires.built c.requires.looked_into c.add_row.new.tableau
    c.in-Ok-add_row.ensures.table c.in-Ok-add_row.ensures.adds)

pub returns-in-Ok-add_row-clause-same : goal.returns-in-Ok-add_row-clause-same
returns-in-Ok-add_row-clause-same c = subst (λ (ms : List Made). AreSame
    (record c.args.self.now { tableau = c.add_row.new.tableau; made = ms }) c.args.self.now)
    (sym c.in-Ok.ensures.ok)
    (row_same c.args.self.now c.requires.simplex c.args.entry c.args.parts.now c.args.constant
    c.requires.parts c.requires.built c.requires.looked_into c.add_row.new.tableau
    c.in-Ok-add_row.ensures.table c.in-Ok-add_row.ensures.adds)

pub returns-in-Err-clause-err : goal.returns-in-Err-clause-err
returns-in-Err-clause-err c = ap₂ (λ (t : Table) (ms : List Made). record c.args.self.now
    { tableau = t; made = ms }) c.in-Err.ensures.err
    (popped c.args.self.now.made c.pop.new.self c.args.entry c.pop.result
    (subst (λ xs. MatchOption c.pop.result ((xs ≡ []) × (c.pop.new.self ≡ [])) (λ last. xs
    ≡ c.pop.new.self ++ last ∷ [])) c.in-Ok.ensures.ok c.pop.ensures))

pub returns-in-Err-clause-simplex : goal.returns-in-Err-clause-simplex
returns-in-Err-clause-simplex c = subst₂ (λ (t : Table) (ms : List Made). IsSimplex
    (record c.args.self.now { tableau = t; made = ms })) (sym c.in-Err.ensures.err)
    (sym (popped c.args.self.now.made c.pop.new.self c.args.entry c.pop.result
    (subst (λ xs. MatchOption c.pop.result ((xs ≡ []) × (c.pop.new.self ≡ [])) (λ last. xs
    ≡ c.pop.new.self ++ last ∷ [])) c.in-Ok.ensures.ok c.pop.ensures))) c.requires.simplex

pub returns-in-Err-clause-same : goal.returns-in-Err-clause-same
returns-in-Err-clause-same c = subst₂ (λ (t : Table) (ms : List Made). AreSame
    (record c.args.self.now { tableau = t; made = ms }) c.args.self.now)
    (sym c.in-Err.ensures.err)
    (sym (popped c.args.self.now.made c.pop.new.self c.args.entry c.pop.result
    (subst (λ xs. MatchOption c.pop.result ((xs ≡ []) × (c.pop.new.self ≡ [])) (λ last. xs
    ≡ c.pop.new.self ++ last ∷ [])) c.in-Ok.ensures.ok c.pop.ensures)))
    (simplex_lawful.reflexive c.args.self.now)

pub returns-in-Err-clause-stops : goal.returns-in-Err-clause-stops
returns-in-Err-clause-stops c = c.in-Err.ensures.stops
