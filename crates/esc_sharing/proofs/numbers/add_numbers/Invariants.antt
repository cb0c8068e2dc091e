use Rattle.std.proofs.Common.{◌<◌, ℕ, [], ◌++◌, get_or}
use Rattle.esc_trail.specs.Undo.{Notes}
use Rattle.esc_sharing.specs.Calls.{terms_at}
use Rattle.esc_sharing.specs.Admitted.{AdmitsWith}
use Rattle.esc_sharing.specs.Calls.{AddsNumbers}
use Rattle.esc_sharing.specs.Numbers.{AddsMade, AreNumbersOf, IsNumber, number_terms}
use Rattle.esc_sharing.proofs.numbers.add_numbers.Given as goal

abbrev pub invariant-nodes : goal.invariant-nodes
invariant-nodes g l = record {
  all : (i d : ℕ) → i < l.place → IsNumber (g.T.Theory.numbers l.theory) (get_or l.nodes i d);
  of : AreNumbersOf l.graph (g.T.Theory.numbers l.theory);
  numbers : AddsNumbers (g.T.Theory.numbers l.fn.theory) (g.T.Theory.numbers l.theory)
      (terms_at l.graph l.nodes);
  admits : AdmitsWith (g.T.Theory.admits l.fn.theory) (g.T.Theory.admits l.theory) [];
  sound : g.T.Theory.sound l.theory;
  made : AddsMade (g.T.Theory.made l.fn.theory) (g.T.Theory.made l.theory)
      (number_terms (g.T.Theory.numbers l.fn.theory) ++ terms_at l.graph l.nodes);
  undo : Notes g.T.Undoable.undo g.R.Carries.carried l.fn.trail.records l.trail.records
      l.fn.theory l.theory;
}
