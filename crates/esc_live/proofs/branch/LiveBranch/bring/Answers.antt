use Rattle.std.proofs.Common.{◌∙◌, sym, subst}
use Rattle.std.specs.Prelude.{IsTrue}
use Rattle.std.specs.List.{Contains}
use Rattle.esc_term.specs.Formula.{is_closed}
use Rattle.esc_live.specs.View.{logged}
use Rattle.esc_live.proofs.FactLive.{brings_there, formula_closed, formula_is, formula_there}
use Rattle.esc_live.proofs.LiveNotes.{shared_notes}
use Rattle.esc_live.proofs.branch.LiveBranch.bring.Goals as goal

pub put_in_play-requires-clause-shared : goal.put_in_play-requires-clause-shared
put_in_play-requires-clause-shared c = c.requires.branch.shared.shared

pub put_in_play-requires-clause-closed : goal.put_in_play-requires-clause-closed
put_in_play-requires-clause-closed c =
    subst (λ f. IsTrue (is_closed f)) (sym c.index-as_slice-place.is)
    (formula_closed (logged c.args.self.now) c.as_slice.result.now
    (c.as_slice.ensures ∙ c.formulas.ensures) c.args.place c.index-as_slice-place.result
    c.requires.there c.requires.branch.closed)

pub returns-clause-ends : goal.returns-clause-ends
returns-clause-ends c f there =
    brings_there c.args.self.now c.requires.branch c.requires.given c.book_laws.ensures.stays
    c.put_in_play.new.sharing c.args.place c.index-as_slice-place.result
    (subst (Contains (logged c.args.self.now)) (sym c.index-as_slice-place.is)
    (formula_there (logged c.args.self.now) c.as_slice.result.now
    (c.as_slice.ensures ∙ c.formulas.ensures) c.args.place c.index-as_slice-place.result
    c.requires.there))
    (λ g h. c.index-as_slice-place.is
    ∙ formula_is (logged c.args.self.now) c.as_slice.result.now
    (c.as_slice.ensures ∙ c.formulas.ensures) c.args.place c.index-as_slice-place.result
    c.requires.there g h)
    c.put_in_play.result c.put_in_play.ensures.ends c.put_in_play.ensures.stop f there

pub returns-clause-given : goal.returns-clause-given
returns-clause-given c = record {
  sound = c.put_in_play.ensures.sound;
  given = c.put_in_play.ensures.given (logged c.args.self.now)
      (subst (Contains (logged c.args.self.now)) (sym c.index-as_slice-place.is)
      (formula_there (logged c.args.self.now) c.as_slice.result.now
      (c.as_slice.ensures ∙ c.formulas.ensures) c.args.place c.index-as_slice-place.result
      c.requires.there))
      c.requires.given.given;
}

pub returns-clause-means : goal.returns-clause-means
returns-clause-means c = c.put_in_play.ensures.means

pub returns-clause-undo : goal.returns-clause-undo
returns-clause-undo c =
    shared_notes c.args.self.now _ _ c.put_in_play.new.sharing c.put_in_play.ensures.undo
