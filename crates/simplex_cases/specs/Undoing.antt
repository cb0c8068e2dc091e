-- How restrictions take the records of an undo stack back.
use Rattle.esc_trail.specs.Undo.{IsLawful, Undo}
use Rattle.esc_simplex.specs.SimplexLaws.{simplex_lawful}
use Rattle.esc_simplex.specs.SimplexUndo.{AreSame, CanGoBack, simplex_back}
use Rattle.esc_simplex.specs.declared.record.SimplexRec.{SimplexRec}
use Rattle.simplex_cases.specs.declared.undoing.Rec.{Rec}
use Rattle.simplex_cases.specs.declared.undoing.Restrictions.{Restrictions}

abbrev pub record_of : SimplexRec → Rec
record_of rec = record { simplex = rec }

abbrev pub restrictions_undo : Undo Restrictions Rec
restrictions_undo = record {
  back = λ v rec. record { simplex = simplex_back v.simplex rec.simplex };
  can = λ v rec. CanGoBack v.simplex rec.simplex;
  same = λ v w. AreSame v.simplex w.simplex;
}

pub lawful : IsLawful restrictions_undo
lawful = record {
  reflexive = λ v. simplex_lawful.reflexive v.simplex;
  symmetric = λ v w. simplex_lawful.symmetric v.simplex w.simplex;
  transitive = λ u v w. simplex_lawful.transitive u.simplex v.simplex w.simplex;
  can_alike = λ v w rec. simplex_lawful.can_alike v.simplex w.simplex rec.simplex;
  back_alike = λ v w rec. simplex_lawful.back_alike v.simplex w.simplex rec.simplex;
}
