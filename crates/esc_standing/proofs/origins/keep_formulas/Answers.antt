use Rattle.std.proofs.Common.{◌≡◌, ◌++◌, ap, map, subst, sym, ◌∙◌}
use Rattle.std.specs.List.{range_with_len}
use Rattle.esc_term.specs.declared.term.Head.TheVariants.{Skolem}
use Rattle.esc_term.specs.declared.term.Term.TheVariants.{App}
use Rattle.esc_fact.specs.Fact.{formula_of}
use Rattle.esc_rounds.specs.Origins.{origins_at, origins_in}
use Rattle.esc_standing.specs.Keeping.{Keeps, outer_atoms}
use Rattle.esc_standing.proofs.FactOrigins.{names_fact}
use Rattle.esc_standing.proofs.KeepingCalls.{inst_brought, inst_keeps, keeps_none}
use Rattle.esc_standing.proofs.KeepingCalls.{skolem_brought, skolem_keeps, skolem_named}
use Rattle.esc_standing.proofs.KeptAfter.{keeps_formulas}
use Rattle.esc_standing.proofs.origins.keep_formulas.Goals as goal

pub keep_brought-requires : goal.keep_brought-requires
keep_brought-requires c =
    let whole = c.in_ok-append-in-Inst.ensures in
    let front = c.in_ok-inside-in-Inst.ensures in
    let back = c.in_ok-copied-in-Inst.ensures in
    let joined : c.append.new.self ≡ c.in-Inst.outer ++ c.in-Inst.terms = cc in
    inst_brought c.args.base.now c.in-Inst.number c.in-Inst.outer c.args.formula.now
    c.in-Inst.terms c.append.new.self
    (ap (formula_of c.args.base.now) (sym c.in-Inst.is) ∙ c.requires.named) joined

pub count_of-count-requires : goal.count_of-count-requires
count_of-count-requires c =
    skolem_named c.args.base.now c.in-Skolem.number c.in-Skolem.outer c.args.formula.now
    (ap (formula_of c.args.base.now) (sym c.in-Skolem.is) ∙ c.requires.named)

pub keep_brought-requires-in-Skolem : goal.keep_brought-requires-in-Skolem
keep_brought-requires-in-Skolem c =
    let at = ap (formula_of c.args.base.now) (sym c.in-Skolem.is) ∙ c.requires.named in
    let q = skolem_named c.args.base.now c.in-Skolem.number c.in-Skolem.outer
    c.args.formula.now at in
    skolem_brought c.args.base.now c.in-Skolem.number c.in-Skolem.outer c.args.formula.now at
    c.in_ok-inside-in-Skolem.inside
    (c.in_ok-inside-in-Skolem.ensures ∙ ap (λ n. c.in-Skolem.outer
    ++ map (λ i. App (Skolem c.in-Skolem.number i) c.in-Skolem.outer) (range_with_len 0 n))
    (c.count_of-count.ensures q.0 q.1))

pub returns-in_ok-keep_given-in-Given : goal.returns-in_ok-keep_given-in-Given
returns-in_ok-keep_given-in-Given c =
    keeps_formulas c.args.base.now c.args.fact.now c.args.formula.now c.args.depth
    c.args.formulas.now c.keep_given.new.formulas c.requires.is_fact c.requires.named
    (subst (λ x. Keeps c.args.depth (origins_in c.args.base.now x)
    (outer_atoms c.args.formula.now) c.args.formulas.now c.keep_given.new.formulas)
    (sym c.in-Given.is) c.in_ok-keep_given-in-Given.ensures)

pub returns-in_ok-keep_given-in-NegGoal : goal.returns-in_ok-keep_given-in-NegGoal
returns-in_ok-keep_given-in-NegGoal c =
    keeps_formulas c.args.base.now c.args.fact.now c.args.formula.now c.args.depth
    c.args.formulas.now c.keep_given-in-NegGoal.new.formulas c.requires.is_fact
    c.requires.named
    (subst (λ x. Keeps c.args.depth (origins_in c.args.base.now x)
    (outer_atoms c.args.formula.now) c.args.formulas.now c.keep_given-in-NegGoal.new.formulas)
    (sym c.in-NegGoal.is)
    (subst (λ n. Keeps c.args.depth (origins_at c.args.base.now n)
    (outer_atoms c.args.formula.now) c.args.formulas.now c.keep_given-in-NegGoal.new.formulas)
    c.len-place.ensures c.in_ok-keep_given-in-NegGoal.ensures))

pub returns-in_ok-keep_brought-in-Inst : goal.returns-in_ok-keep_brought-in-Inst
returns-in_ok-keep_brought-in-Inst c =
    let whole = c.in_ok-append-in-Inst.ensures in
    let front = c.in_ok-inside-in-Inst.ensures in
    let back = c.in_ok-copied-in-Inst.ensures in
    let joined : c.append.new.self ≡ c.in-Inst.outer ++ c.in-Inst.terms = cc in
    keeps_formulas c.args.base.now c.args.fact.now c.args.formula.now c.args.depth
    c.args.formulas.now c.keep_brought.new.formulas c.requires.is_fact c.requires.named
    (subst (λ x. Keeps c.args.depth (origins_in c.args.base.now x)
    (outer_atoms c.args.formula.now) c.args.formulas.now c.keep_brought.new.formulas)
    (sym c.in-Inst.is)
    (inst_keeps c.args.base.now c.in-Inst.number c.in-Inst.outer c.args.formula.now
    c.in-Inst.terms c.append.new.self
    (ap (formula_of c.args.base.now) (sym c.in-Inst.is) ∙ c.requires.named) joined
    c.args.depth c.args.formulas.now c.keep_brought.new.formulas
    c.in_ok-keep_brought-in-Inst.ensures))

pub returns-in_ok-keep_brought-in-Skolem : goal.returns-in_ok-keep_brought-in-Skolem
returns-in_ok-keep_brought-in-Skolem c =
    let at = ap (formula_of c.args.base.now) (sym c.in-Skolem.is) ∙ c.requires.named in
    let q = skolem_named c.args.base.now c.in-Skolem.number c.in-Skolem.outer
    c.args.formula.now at in
    keeps_formulas c.args.base.now c.args.fact.now c.args.formula.now c.args.depth
    c.args.formulas.now c.keep_brought-in-Skolem.new.formulas c.requires.is_fact
    c.requires.named
    (subst (λ x. Keeps c.args.depth (origins_in c.args.base.now x)
    (outer_atoms c.args.formula.now) c.args.formulas.now c.keep_brought-in-Skolem.new.formulas)
    (sym c.in-Skolem.is)
    (skolem_keeps c.args.base.now c.in-Skolem.number c.in-Skolem.outer c.args.formula.now at
    c.in_ok-inside-in-Skolem.inside
    (c.in_ok-inside-in-Skolem.ensures ∙ ap (λ n. c.in-Skolem.outer
    ++ map (λ i. App (Skolem c.in-Skolem.number i) c.in-Skolem.outer) (range_with_len 0 n))
    (c.count_of-count.ensures q.0 q.1))
    c.args.depth c.args.formulas.now c.keep_brought-in-Skolem.new.formulas
    c.in_ok-keep_brought-in-Skolem.ensures))

pub returns-in-Map1 : goal.returns-in-Map1
returns-in-Map1 c =
    keeps_formulas c.args.base.now c.args.fact.now c.args.formula.now c.args.depth
    c.args.formulas.now c.args.formulas.now c.requires.is_fact c.requires.named
    (keeps_none c.args.base.now c.args.depth (origins_in c.args.base.now c.args.fact.now)
    (outer_atoms c.args.formula.now) c.args.formulas.now
    (ap (origins_in c.args.base.now) c.in-Map1.is)
    (names_fact c.args.base.now c.args.fact.now c.args.formula.now c.requires.is_fact
    c.requires.named))

pub returns-in-Map2 : goal.returns-in-Map2
returns-in-Map2 c =
    keeps_formulas c.args.base.now c.args.fact.now c.args.formula.now c.args.depth
    c.args.formulas.now c.args.formulas.now c.requires.is_fact c.requires.named
    (keeps_none c.args.base.now c.args.depth (origins_in c.args.base.now c.args.fact.now)
    (outer_atoms c.args.formula.now) c.args.formulas.now
    (ap (origins_in c.args.base.now) c.in-Map2.is)
    (names_fact c.args.base.now c.args.fact.now c.args.formula.now c.requires.is_fact
    c.requires.named))
