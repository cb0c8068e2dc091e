use Rattle.esc_live.proofs.BackAt.{back_is_branch, back_is_sound}
use Rattle.esc_live.proofs.Rewound.{rewound_is_given}
use Rattle.esc_live.proofs.laws.live_laws.Goals as goal

pub returns-clause-branch : goal.returns-clause-branch
returns-clause-branch c = back_is_branch

pub returns-clause-sound : goal.returns-clause-sound
returns-clause-sound c = back_is_sound

pub returns-clause-rewound : goal.returns-clause-rewound
returns-clause-rewound c = rewound_is_given
