use Rattle.std.proofs.Common.{subst, sym}
use Rattle.std.specs.List.{All, Contains}
use Rattle.esc_term.specs.Formula.{terms_of}
use Rattle.esc_sharing.specs.Nodes.{terms_in}
use Rattle.esc_live.proofs.LiveNotes.{book_notes}
use Rattle.esc_live.proofs.branch.LiveBranch.go_live.Goals as goal

pub go_live-requires-clause-terms : goal.go_live-requires-clause-terms
go_live-requires-clause-terms c f there =
    subst (λ g. All (Contains (terms_in g)) (terms_of f)) (sym c.graph.ensures)
    (c.requires.terms f there)

pub returns-clause-undo : goal.returns-clause-undo
returns-clause-undo c =
    book_notes c.args.self.now _ _ c.go_live.new.self c.go_live.ensures.undo
