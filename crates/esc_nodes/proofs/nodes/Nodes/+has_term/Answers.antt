use Rattle.std.proofs.Common.{rules, ◌≡◌, map, sym, ◌∙◌}
use Rattle.esc_term.specs.declared.term.Term.TheVariants as term
use Rattle.esc_term.proofs.Parts.{term_parts}
use Rattle.esc_nodes.specs.Nodes.{shape_at}
use Rattle.esc_nodes.specs.Terms.{term_of}
use Rattle.esc_nodes.proofs.Tops.{term_of-Num, term_of-App}
use Rattle.esc_nodes.proofs.nodes.Nodes.+has_term.Goals as goal

pub has_term-returns-in-Num : goal.has_term-returns-in-Num
has_term-returns-in-Num t c =
    let is : term_of c.args.self.now c.args.node ≡ term.Num c.in-Num.n =
    term_of-Num c.args.self.now c.args.node c.in-Num.n c.requires.terms c.requires.there
    (sym c.top.ensures ∙ c.in-Num.is) in
    rw is (search rules)

pub has_term-returns-then-ne : goal.has_term-returns-then-ne
has_term-returns-then-ne t c =
    let is : term_of c.args.self.now c.args.node ≡ term.App c.in-App.head
    (map (term_of c.args.self.now) (shape_at c.args.self.now c.args.node).args) =
    term_of-App c.args.self.now c.args.node c.in-App.head c.requires.terms c.requires.there
    (sym c.top.ensures ∙ c.in-App.is) in
    rw (is, c.in-App-term.is) (search (rules, term_parts))

pub has_term-returns-else-ne : goal.has_term-returns-else-ne
has_term-returns-else-ne t c =
    let is : term_of c.args.self.now c.args.node ≡ term.App c.in-App.head
    (map (term_of c.args.self.now) (shape_at c.args.self.now c.args.node).args) =
    term_of-App c.args.self.now c.args.node c.in-App.head c.requires.terms c.requires.there
    (sym c.top.ensures ∙ c.in-App.is) in
    rw (is, c.in-App-term.is) (search (rules, term_parts))

pub has_term-returns-in-Num-term : goal.has_term-returns-in-Num-term
has_term-returns-in-Num-term t c =
    let is : term_of c.args.self.now c.args.node ≡ term.App c.in-App.head
    (map (term_of c.args.self.now) (shape_at c.args.self.now c.args.node).args) =
    term_of-App c.args.self.now c.args.node c.in-App.head c.requires.terms c.requires.there
    (sym c.top.ensures ∙ c.in-App.is) in
    rw (is, c.in-Num-term.is) (λ h. cc, λ e. cc)

pub has_term-returns-in-Num-term-2 : goal.has_term-returns-in-Num-term-2
has_term-returns-in-Num-term-2 t c =
    let is : term_of c.args.self.now c.args.node ≡ term.App c.in-App.head
    (map (term_of c.args.self.now) (shape_at c.args.self.now c.args.node).args) =
    term_of-App c.args.self.now c.args.node c.in-App.head c.requires.terms c.requires.there
    (sym c.top.ensures ∙ c.in-App.is) in
    rw (is, c.in-Num-term.is) (λ h. cc, λ e. cc)
