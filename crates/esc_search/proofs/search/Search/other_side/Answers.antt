use Rattle.std.proofs.Common.{[], false, subst, subst₂, sym, Some, ◌++◌, ◌∷◌}
use Rattle.esc_live.specs.declared.branch.LiveBranch.{LiveBranch}
use Rattle.esc_search.specs.SearchInside.{IsKept, IsSearch, IsToDecide}
use Rattle.esc_search.proofs.GoingBack.{kept_other, other_to_decide, search_back}
use Rattle.esc_search.proofs.search.Search.other_side.Goals as goal

pub returns-clause-search : goal.returns-clause-search
returns-clause-search c =
    subst₂ (λ (b : LiveBranch) starts. IsSearch c.args.base.now (record c.args.self.now {
      branch = b;
      trail = c.pop_to.new.self;
      under = Some (c.args.last.number, false);
    }) (record c.args.course.now { starts = starts })) (sym c.pop_to.ensures.rewound)
    (sym c.cut_starts.ensures)
    (search_back c.live_laws.ensures.branch c.live_laws.ensures.sound c.live_laws.ensures.rewound
    c.fact_laws.ensures.closed c.args.base.now c.args.self.now c.args.course.now c.args.last
    c.requires.here.0 c.requires.here.1 c.pop_to.new.self c.pop_to.ensures.records)

pub returns-clause-ready : goal.returns-clause-ready
returns-clause-ready c =
    subst₂ (λ (b : LiveBranch) starts. IsToDecide c.args.base.now (record c.args.self.now {
      branch = b;
      trail = c.pop_to.new.self;
      under = Some (c.args.last.number, false);
    }) starts c.args.last.split.at false) (sym c.pop_to.ensures.rewound)
    (sym c.cut_starts.ensures)
    (other_to_decide c.live_laws.ensures.branch c.live_laws.ensures.sound
    c.live_laws.ensures.rewound c.fact_laws.ensures.closed c.args.base.now c.args.self.now
    c.args.course.now c.args.last
    c.requires.here.0 c.requires.here.1 c.pop_to.new.self c.pop_to.ensures.records)

pub returns-clause-kept : goal.returns-clause-kept
returns-clause-kept c =
    subst (λ (b : LiveBranch). IsKept c.args.base.now c.args.self.now
    (c.args.course.now.waiting ++ c.args.last ∷ []) (record c.args.self.now {
      branch = b;
      trail = c.pop_to.new.self;
      under = Some (c.args.last.number, false);
    }) c.args.course.now.waiting) (sym c.pop_to.ensures.rewound)
    (kept_other c.live_laws.ensures.branch c.live_laws.ensures.sound c.live_laws.ensures.rewound
    c.fact_laws.ensures.closed c.args.base.now c.args.self.now c.args.course.now c.args.last
    c.requires.here.0 c.requires.here.1 c.pop_to.new.self c.pop_to.ensures.records)
