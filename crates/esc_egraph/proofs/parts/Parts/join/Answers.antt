use Rattle.std.proofs.Common.{length, refl, ap}
use Rattle.std.proofs.lemmas.Result.{on_ok_weaker}
use Rattle.esc_egraph.specs.Graph.{number_of}
use Rattle.esc_egraph.specs.GraphUndo.{graph_undo, graph_back, CanGoBack}
use Rattle.esc_egraph.specs.PartsInside.{graph_in}
use Rattle.esc_egraph.proofs.Closing.{IsClosing-done, least_united, least_same, others_united, adds_united}
use Rattle.esc_egraph.proofs.Settled.{settled_start}
use Rattle.esc_egraph.proofs.Waiting.{settled_joined}
use Rattle.esc_trail.proofs.Lawful.{equal_is_lawful}
use Rattle.esc_trail.proofs.Noting.{notes_both}
use Rattle.esc_egraph.proofs.parts.Parts.join.Goals as goal

pub returns-then-same-clause-broken : goal.returns-then-same-clause-broken
returns-then-same-clause-broken g c = (
  λ never. cc never,
  λ broken. absurd
      (c.requires.met.whole broken),
)

pub returns-then-same-clause-least : goal.returns-then-same-clause-least
returns-then-same-clause-least g c =
    least_same c.args.self.now.nodes (number_of (graph_in c.args.self.now)) c.args.a c.args.b
    (c.if-same.ensures.0 refl) c.requires.met.closed

pub unite-requires-clause-broken : goal.unite-requires-clause-broken
unite-requires-clause-broken g c = (
  λ never. cc never,
  λ broken. absurd
      (c.requires.met.whole broken),
)

pub close-requires-clause-settled : goal.close-requires-clause-settled
close-requires-clause-settled g c =
    settled_joined c.args.self.now c.unite.new.self c.args.a c.args.b
    (length c.merges-start.result.now) c.requires.sound c.unite.ensures.table
    (ap length c.merges-start.ensures)
    (settled_start c.args.self.now.nodes c.args.self.now.classes.merges c.args.self.now.table
    (λ n. ⊥) (c.requires.sound.tabled c.requires.whole) c.requires.met.closed)
    c.in_ok-broken.ensures.ok

pub returns-clause-others : goal.returns-clause-others
returns-clause-others g c =
    others_united (graph_in c.args.self.now) (graph_in c.unite.new.self) (graph_in c.close.new.self)
    c.args.a c.args.b c.in_ok-broken.ensures.ok c.close.ensures.step.others

pub returns-clause-more : goal.returns-clause-more
returns-clause-more g c =
    adds_united (graph_in c.args.self.now) (graph_in c.unite.new.self) (graph_in c.close.new.self)
    c.args.a c.args.b c.in_ok-broken.ensures.ok c.close.ensures.step.more

pub returns-clause-undo : goal.returns-clause-undo
returns-clause-undo g c =
    notes_both graph_undo (equal_is_lawful graph_back CanGoBack) g.R.CarriesNodes.carried_node _ _ _
    _ _ _ c.unite.ensures.undo c.close.ensures.step.undo

pub returns-clause-least : goal.returns-clause-least
returns-clause-least g c =
    on_ok_weaker c.close.result
    (λ closed. least_united (graph_in c.args.self.now) (graph_in c.unite.new.self) c.args.a c.args.b
    (number_of (graph_in c.close.new.self))
    c.requires.a_is_there c.requires.b_is_there c.in_ok-broken.ensures.ok
    (IsClosing-done g.R.CarriesNodes.carried_node (graph_in c.unite.new.self) _
    (graph_in c.close.new.self) _ c.close.ensures.step closed)) c.close.ensures.closed
