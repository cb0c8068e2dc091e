use Rattle.std.proofs.Common.{List, take, sym, ap, ap₂, ◌∙◌, subst₂}
use Rattle.esc_tableau.specs.Table.{Table, size}
use Rattle.esc_simplex.specs.SimplexUndo.{AreSame}
use Rattle.esc_simplex.specs.View.{IsSimplex}
use Rattle.esc_simplex.specs.declared.made.Made.{Made}
use Rattle.esc_simplex.proofs.Put.{put_same, put_simplex}
use Rattle.esc_simplex.proofs.simplex.Simplex.put_rows.Goals as goal

pub returns-clause-rows : goal.returns-clause-rows
returns-clause-rows c = ap₂ (λ (t : Table) (ms : List Made). record c.args.self.now
    { tableau = t; made = ms }) c.put.ensures.rows (c.shorten.ensures
    ∙ ap (λ n. take n c.args.self.now.made) (c.count.ensures ∙ ap size c.put.ensures.rows))

pub returns-clause-simplex : goal.returns-clause-simplex
returns-clause-simplex c = subst₂ (λ (t : Table) (ms : List Made). IsSimplex
    (record c.args.self.now { tableau = t; made = ms })) (sym c.put.ensures.rows)
    (sym (c.shorten.ensures ∙ ap (λ n. take n c.args.self.now.made) (c.count.ensures
    ∙ ap size c.put.ensures.rows)))
    (put_simplex c.args.self.now c.requires.simplex c.args.rows c.requires.rows)

pub returns-clause-same : goal.returns-clause-same
returns-clause-same c = subst₂ (λ (t : Table) (ms : List Made). AreSame
    (record c.args.self.now { tableau = t; made = ms }) c.args.self.now)
    (sym c.put.ensures.rows)
    (sym (c.shorten.ensures ∙ ap (λ n. take n c.args.self.now.made) (c.count.ensures
    ∙ ap size c.put.ensures.rows)))
    (put_same c.args.self.now c.requires.simplex c.args.rows c.requires.rows)
