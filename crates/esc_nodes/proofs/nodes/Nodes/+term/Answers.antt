use Rattle.std.proofs.Common.{rules, ◌≡◌, map, ap, sym, subst, ◌∙◌}
use Rattle.std.proofs.lemmas.List.{take_all}
use Rattle.esc_term.specs.declared.term.Term.TheVariants as term
use Rattle.esc_nodes.specs.Nodes.{AreTerms, shape_at}
use Rattle.esc_nodes.specs.Terms.{term_of}
use Rattle.esc_nodes.proofs.Tops.{term_of-Num, term_of-App}
use Rattle.esc_nodes.proofs.nodes.Nodes.+term.Goals as goal

pub returns-in-Num : goal.returns-in-Num
returns-in-Num t c =
    let are : AreTerms c.args.self.now = subst AreTerms c.self.view_is c.self.invariant.terms in
    let is : term_of c.args.self.now c.args.node ≡ term.Num c.in-Num.n =
    term_of-Num c.args.self.now c.args.node c.in-Num.n are c.requires (sym c.top.ensures
    ∙ c.in-Num.is) in
    rw is (search rules)

pub returns-after-places : goal.returns-after-places
returns-after-places t c =
    let are : AreTerms c.args.self.now = subst AreTerms c.self.view_is c.self.invariant.terms in
    let is : term_of c.args.self.now c.args.node ≡ term.App c.in-App.head
    (map (term_of c.args.self.now) (shape_at c.args.self.now c.args.node).args) =
    term_of-App c.args.self.now c.args.node c.in-App.head are c.requires (sym c.top.ensures
    ∙ c.in-App.is) in
    rw (is, ← c.args-args.ensures)
    (ap (λ ts. term.App c.in-App.head ts) (c.places.invariant
    ∙ ap (λ ns. map (term_of c.args.self.now) ns) (take_all c.places.arg-index
    c.args-args.result.now c.places-test.false)))
