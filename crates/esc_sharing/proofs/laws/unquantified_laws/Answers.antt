use Rattle.esc_sharing.proofs.BesideQuantified.{consistent_stays, least_stays, parted_stays, satisfies_stays}
use Rattle.esc_sharing.proofs.laws.unquantified_laws.Goals as goal

pub returns : goal.returns
returns c = record {
  least = least_stays;
  consistent = consistent_stays;
  satisfies = satisfies_stays;
  parted = parted_stays;
}
