-- What holds of the sessions of a run.
use Rattle.std.specs.Prelude.{◌≡◌, List, [], ◌∷◌, ◌++◌, None}
use Rattle.esc_term.specs.declared.formula.Formula.{Formula}
use Rattle.esc_form.specs.declared.command.Kind.{Kind}
use Rattle.esc_report.specs.declared.report.Report.{Report}
use Rattle.esc_session.specs.Acts.{Acts, Drops, Joins}
use Rattle.esc_session.specs.Back.{IsAgain}
use Rattle.esc_session.specs.declared.batch.Batch.{Batch}
use Rattle.esc_session.specs.declared.session.Session.{Session}

abbrev pub IsFront : List Batch → List Batch → Type 0
IsFront front bs = (newer : List Batch) × (bs ≡ front ++ newer)

-- commands with these reports lead from the one session to the other, and none of them ends one of
-- these batches
abbrev pub LeadsAbove : List Batch → List (Kind × Report) → Session → Session → Type 0
LeadsAbove front [] s t = s ≡ t
LeadsAbove front ((k, r) ∷ more) s u =
    (t : Session) × Acts k r s t × IsFront front t.batches × LeadsAbove front more t u

-- Whatever was asked, assumed and popped since a push: once that push is popped, the search is again
-- as it was before it.
abbrev pub PopsGoBack : Type 0
PopsGoBack = (before pushed now popped : Session) (fs : List Formula)
    (since : List (Kind × Report)) → Joins before pushed None fs
    → LeadsAbove pushed.batches since pushed now → Drops now popped
    → popped.batches ≡ before.batches
    → IsAgain before.search popped.search
