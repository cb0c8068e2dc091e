use Rattle.std.proofs.Common.{map}
use Rattle.std.specs.Prelude.{string_bytes}
use Rattle.esc_top.proofs.RanLemmas.{ran_broken, ran_short, ran_whole}
use Rattle.esc_top.proofs.top.run.Goals as goal

pub returns-in-Ok-finish-clause-ran : goal.returns-in-Ok-finish-clause-ran
returns-in-Ok-finish-clause-ran g c =
    ran_whole (map string_bytes c.args.words.now) (g.S.Source.faults c.args.source.now)
    (g.S.Source.faults c.answer.new.source) c.in-Ok.status c.in-Ok.ensures.meets
    c.in-Ok.ensures.reads c.in-Ok-finish.ensures.bytes

pub returns-in-Err-clause-ran : goal.returns-in-Err-clause-ran
returns-in-Err-clause-ran g c =
    ran_short (map string_bytes c.args.words.now) (g.S.Source.faults c.args.source.now)
    (g.S.Source.faults c.answer.new.source) c.in-Ok.status c.in-Err.field-0
    c.in-Ok.ensures.meets c.in-Ok.ensures.reads c.in-Err.ensures.bytes

pub returns-in_default-clause-ran : goal.returns-in_default-clause-ran
returns-in_default-clause-ran g c =
    let meets = c.in_default.ensures.meets in
    ran_broken (map string_bytes c.args.words.now) (g.S.Source.faults c.args.source.now)
    (g.S.Source.faults c.answer.new.source) meets.0 meets.1 meets.2 c.in_default.ensures.reads

pub returns-in-Ok-finish-clause-sound : goal.returns-in-Ok-finish-clause-sound
returns-in-Ok-finish-clause-sound g c ran = c.run_laws.ensures.sound _ _ _ _ _ _ _ _ ran

pub returns-in-Err-clause-sound : goal.returns-in-Err-clause-sound
returns-in-Err-clause-sound g c ran = c.run_laws.ensures.sound _ _ _ _ _ _ _ _ ran

pub returns-in_default-clause-sound : goal.returns-in_default-clause-sound
returns-in_default-clause-sound g c ran = c.run_laws.ensures.sound _ _ _ _ _ _ _ _ ran

pub returns-in-Ok-finish-clause-sharp : goal.returns-in-Ok-finish-clause-sharp
returns-in-Ok-finish-clause-sharp g c ran = c.run_laws.ensures.sharp _ _ _ _ _ _ _ _ ran

pub returns-in-Err-clause-sharp : goal.returns-in-Err-clause-sharp
returns-in-Err-clause-sharp g c ran = c.run_laws.ensures.sharp _ _ _ _ _ _ _ _ ran

pub returns-in_default-clause-sharp : goal.returns-in_default-clause-sharp
returns-in_default-clause-sharp g c ran = c.run_laws.ensures.sharp _ _ _ _ _ _ _ _ ran
