use Rattle.std.proofs.Common.{◌≡◌, [], ◌∷◌, ◌++◌, refl, sym, ap, ◌∙◌, subst, subst₂, List}
use Rattle.std.specs.Prelude.{MatchOption}
use Rattle.esc_tableau.specs.Table.{Table}
use Rattle.esc_simplex.specs.SimplexUndo.{AreSame}
use Rattle.esc_simplex.specs.SimplexLaws.{simplex_lawful}
use Rattle.esc_simplex.specs.View.{IsSimplex}
use Rattle.esc_simplex.specs.declared.made.Made.{Made}
use Rattle.esc_simplex.specs.declared.made.Made.TheVariants.{Term}
use Rattle.esc_simplex.proofs.Columns.{column_same, column_simplex}
use Rattle.esc_simplex.proofs.Copied.{made_fill}
use Rattle.esc_simplex.proofs.Lists.{popped}
use Rattle.esc_simplex.proofs.Making.{makes_kept, makes_made, stands_new}
use Rattle.esc_simplex.proofs.simplex.Simplex.make_column.Goals as goal

pub returns-in_err-copy-clause-makes : goal.returns-in_err-copy-clause-makes
returns-in_err-copy-clause-makes c = makes_kept c.args.self.now c.args.self.now _ refl refl refl
    refl

pub returns-in_err-copy-clause-same : goal.returns-in_err-copy-clause-same
returns-in_err-copy-clause-same c = simplex_lawful.reflexive c.args.self.now

pub returns-in_err-push-clause-makes : goal.returns-in_err-push-clause-makes
returns-in_err-push-clause-makes c = makes_kept c.args.self.now
    (record c.args.self.now { made = c.push.new.self }) _ c.in_err-push.ensures.err refl refl refl

pub returns-in_err-push-clause-simplex : goal.returns-in_err-push-clause-simplex
returns-in_err-push-clause-simplex c = subst (λ (ms : List Made). IsSimplex
    (record c.args.self.now { made = ms })) (sym c.in_err-push.ensures.err) c.requires.simplex

pub returns-in_err-push-clause-same : goal.returns-in_err-push-clause-same
returns-in_err-push-clause-same c = subst (λ (ms : List Made). AreSame
    (record c.args.self.now { made = ms }) c.args.self.now) (sym c.in_err-push.ensures.err)
    (simplex_lawful.reflexive c.args.self.now)

pub returns-in-Ok-clause-stands : goal.returns-in-Ok-clause-stands
returns-in-Ok-clause-stands c = stands_new c.args.self.now c.requires.simplex
    (Term c.args.term.now) refl (record c.args.self.now
    { tableau = c.add_column.new.self; made = c.push.new.self })
    (c.in_ok-push.ensures.ok ∙ ap (λ t. c.args.self.now.made ++ Term t ∷ []) c.in_ok-copy.ensures)
    c.in-Ok.unknown (c.in-Ok.ensures.unknown ∙ made_fill c.args.self.now c.requires.simplex)

pub returns-in-Ok-clause-makes : goal.returns-in-Ok-clause-makes
returns-in-Ok-clause-makes c = makes_made c.args.self.now c.requires.simplex
    (Term c.args.term.now) refl (record c.args.self.now
    { tableau = c.add_column.new.self; made = c.push.new.self })
    (c.in_ok-push.ensures.ok ∙ ap (λ t. c.args.self.now.made ++ Term t ∷ []) c.in_ok-copy.ensures)
    _ refl refl refl refl

pub returns-in-Ok-clause-simplex : goal.returns-in-Ok-clause-simplex
returns-in-Ok-clause-simplex c = subst (λ (ms : List Made). IsSimplex (record c.args.self.now
    { tableau = c.add_column.new.self; made = ms }))
    (sym (c.in_ok-push.ensures.ok ∙ ap (λ t. c.args.self.now.made ++ Term t ∷ [])
    c.in_ok-copy.ensures))
    (column_simplex c.args.self.now c.requires.simplex c.args.term.now c.requires.new
    c.requires.opaque c.add_column.new.self c.add_column.ensures.table c.in-Ok.ensures.adds)

pub returns-in-Ok-clause-same : goal.returns-in-Ok-clause-same
returns-in-Ok-clause-same c = subst (λ (ms : List Made). AreSame (record c.args.self.now
    { tableau = c.add_column.new.self; made = ms }) c.args.self.now)
    (sym (c.in_ok-push.ensures.ok ∙ ap (λ t. c.args.self.now.made ++ Term t ∷ [])
    c.in_ok-copy.ensures))
    (column_same c.args.self.now c.requires.simplex c.args.term.now c.requires.new
    c.requires.opaque c.add_column.new.self c.add_column.ensures.table c.in-Ok.ensures.adds)

pub returns-in-Err-clause-makes : goal.returns-in-Err-clause-makes
returns-in-Err-clause-makes c = makes_kept c.args.self.now (record c.args.self.now
    { tableau = c.add_column.new.self; made = c.pop.new.self }) _
    (popped c.args.self.now.made c.pop.new.self (Term c.in_ok-copy.copy) c.pop.result
    (subst (λ xs. MatchOption c.pop.result ((xs ≡ []) × (c.pop.new.self ≡ [])) (λ last. xs
    ≡ c.pop.new.self ++ last ∷ [])) c.in_ok-push.ensures.ok c.pop.ensures)) refl refl refl

pub returns-in-Err-clause-simplex : goal.returns-in-Err-clause-simplex
returns-in-Err-clause-simplex c = subst₂ (λ (t : Table) (ms : List Made). IsSimplex
    (record c.args.self.now { tableau = t; made = ms })) (sym c.in-Err.ensures.err)
    (sym (popped c.args.self.now.made c.pop.new.self (Term c.in_ok-copy.copy) c.pop.result
    (subst (λ xs. MatchOption c.pop.result ((xs ≡ []) × (c.pop.new.self ≡ [])) (λ last. xs
    ≡ c.pop.new.self ++ last ∷ [])) c.in_ok-push.ensures.ok c.pop.ensures))) c.requires.simplex

pub returns-in-Err-clause-same : goal.returns-in-Err-clause-same
returns-in-Err-clause-same c = subst₂ (λ (t : Table) (ms : List Made). AreSame
    (record c.args.self.now { tableau = t; made = ms }) c.args.self.now)
    (sym c.in-Err.ensures.err)
    (sym (popped c.args.self.now.made c.pop.new.self (Term c.in_ok-copy.copy) c.pop.result
    (subst (λ xs. MatchOption c.pop.result ((xs ≡ []) × (c.pop.new.self ≡ [])) (λ last. xs
    ≡ c.pop.new.self ++ last ∷ [])) c.in_ok-push.ensures.ok c.pop.ensures)))
    (simplex_lawful.reflexive c.args.self.now)
