use Rattle.std.proofs.Common.{ap, length, refl, subst, sym, take, ◌<◌, ◌≤◌, ◌∙◌}
use Rattle.std.specs.List.{All}
use Rattle.esc_book.specs.Book.{BookView}
use Rattle.esc_live.specs.View.{logged}
use Rattle.esc_live.specs.declared.branch.LiveBranch.{LiveBranch}
use Rattle.esc_simplex.specs.Calls.{AreRowsFor}
use Rattle.esc_simplex.specs.View.{IsSimplex}
use Rattle.esc_simplex.specs.declared.simplex.Simplex.{Simplex}
use Rattle.esc_tableau.specs.Listed.{tabled}
use Rattle.esc_tableau.specs.Table.{size}
use Rattle.esc_search.proofs.LevelEnds.{back_at, branch_alike, can_end, cut_same}
use Rattle.esc_search.proofs.LevelEnds.{formulas_within, given_alike, live_within, mark_within}
use Rattle.esc_search.proofs.LevelEnds.{ready_alike, rewound_to, there_fits, there_simplex}
use Rattle.esc_search.proofs.search.Search.end_level.Goals as goal

pub pop_to-requires-clause-within : goal.pop_to-requires-clause-within
pop_to-requires-clause-within c =
    mark_within c.args.self.now c.requires.returns.there c.args.level c.requires.returns.begun
    c.requires.returns.back

pub pop_to-requires-clause-undoable : goal.pop_to-requires-clause-undoable
pop_to-requires-clause-undoable c =
    can_end c.args.self.now c.requires.returns.there c.args.level c.requires.returns.begun
    c.requires.returns.back

pub put_rows-requires-clause-simplex : goal.put_rows-requires-clause-simplex
put_rows-requires-clause-simplex c =
    subst (λ (v : LiveBranch). IsSimplex v.sharing.theory) (sym c.pop_to.ensures.rewound)
    (there_simplex c.args.self.now c.requires.returns.there c.args.level
    c.requires.returns.begun c.requires.returns.back c.live_laws.ensures.rewound
    c.requires.returns.given)

pub put_rows-requires-clause-rows : goal.put_rows-requires-clause-rows
put_rows-requires-clause-rows c =
    subst (λ (v : LiveBranch). AreRowsFor v.sharing.theory c.args.level.rows)
    (sym c.pop_to.ensures.rewound)
    (there_fits c.args.self.now c.requires.returns.there c.args.level
    c.requires.returns.begun c.requires.returns.back c.live_laws.ensures.rewound
    c.requires.returns.given)

pub cut-requires-clause-within : goal.cut-requires-clause-within
cut-requires-clause-within c =
    subst (λ (v : LiveBranch). c.args.level.formulas ≤ length (logged v))
    (sym c.pop_to.ensures.rewound)
    (formulas_within c.args.self.now c.requires.returns.there c.args.level
    c.requires.returns.begun c.requires.returns.back c.live_laws.ensures.rewound
    c.requires.returns.given)

pub cut-requires-clause-live : goal.cut-requires-clause-live
cut-requires-clause-live c =
    subst (λ (v : LiveBranch). All (λ place. place < c.args.level.formulas) v.book.live)
    (sym c.pop_to.ensures.rewound)
    (live_within c.args.self.now c.requires.returns.there c.args.level
    c.requires.returns.begun c.requires.returns.back)

pub returns-clause-back : goal.returns-clause-back
returns-clause-back c =
    back_at c.args.self.now c.args.level _ c.live_laws.ensures.rewound c.requires.returns.given
    (record {
      same = cut_same c.pop_to.new.state (rewound_to c.args.self.now c.args.level)
          c.put_rows.new.self c.cut.new.self c.args.level.formulas c.pop_to.ensures.rewound
          c.put_rows.ensures.rest c.put_rows.ensures.same c.cut.ensures.cut;
      rows = ap (λ (x : Simplex). x.tableau) c.put_rows.ensures.rows;
      made = ap (λ (x : Simplex). x.made) c.put_rows.ensures.rows
          ∙ ap (λ (v : LiveBranch). take (size (tabled c.args.level.rows)) v.sharing.theory.made)
          c.pop_to.ensures.rewound;
      formulas = ap (λ (b : BookView). b.logged) c.cut.ensures.cut
          ∙ ap (λ (v : LiveBranch). take c.args.level.formulas (logged v))
          c.pop_to.ensures.rewound;
      log = c.cut-2.ensures;
      sides = c.cut_sides.ensures;
      splits = c.cut_splits.ensures;
      under = refl;
      records = c.pop_to.ensures.records;
      limits = refl;
    })

pub returns-clause-ready : goal.returns-clause-ready
returns-clause-ready c = λ base t begun back ready.
    let before = (returns-clause-back c).as_before t begun back in
    ready_alike _ t before begun.branch c.live_laws.ensures.branch c.live_laws.ensures.sound
    (given_alike _ t before c.put_rows.ensures.simplex begun.given) base ready

pub returns-clause-given : goal.returns-clause-given
returns-clause-given c =
    let at = c.requires.returns in
    given_alike _ at.there ((returns-clause-back c).as_before at.there at.begun at.back)
    c.put_rows.ensures.simplex at.begun.given

pub returns-clause-branch : goal.returns-clause-branch
returns-clause-branch c =
    let at = c.requires.returns in
    branch_alike _ at.there ((returns-clause-back c).as_before at.there at.begun at.back)
    at.begun.branch c.live_laws.ensures.branch (returns-clause-given c)
