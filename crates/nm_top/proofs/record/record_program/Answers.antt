use Rattle.std.proofs.Common.{refl}
use Rattle.nm_top.proofs.RecordLaws.{none_recorded}
use Rattle.nm_top.proofs.record.record_program.Goals as goal

pub returns-in_default : goal.returns-in_default
returns-in_default g c = λ program schedule.
    none_recorded program c.args.processes schedule c.args.to.trace.now c.args.to.version c.args.to.mask c.args.demanded.now.source.program c.args.demanded.now.source.digest
    c.args.demanded.now.schedule _ _ _ _ _ _ _ _ _ _ refl refl _ _ refl refl
