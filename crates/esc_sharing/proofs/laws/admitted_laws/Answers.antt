use Rattle.esc_sharing.proofs.AdmittedSuits.{admits_what_suits}
use Rattle.esc_sharing.specs.Shared.{seen}
use Rattle.esc_sharing.proofs.laws.admitted_laws.Goals as goal

pub returns : goal.returns
returns g c s shared = admits_what_suits (seen g.T.Theory.sound g.T.Theory.admits g.T.Theory.numbers s) shared
