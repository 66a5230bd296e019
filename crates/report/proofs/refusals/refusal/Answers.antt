use Rattle.report.proofs.refusals.refusal.Goals as goal

pub returns-in-Absent : goal.returns-in-Absent
returns-in-Absent g c = rw c.in-Absent.is c.put_name.ensures

pub returns-in-ReadFault : goal.returns-in-ReadFault
returns-in-ReadFault g c = rw c.in-ReadFault.is c.put_name-in-ReadFault.ensures

pub returns-in-TooLong : goal.returns-in-TooLong
returns-in-TooLong g c = rw c.in-TooLong.is c.put_name-in-TooLong.ensures

pub returns-in-ProgramRefused : goal.returns-in-ProgramRefused
returns-in-ProgramRefused g c = rw c.in-ProgramRefused.is c.put_kind.ensures

pub returns-in-ScheduleRefused : goal.returns-in-ScheduleRefused
returns-in-ScheduleRefused g c = rw c.in-ScheduleRefused.is c.put_kind-in-ScheduleRefused.ensures

pub returns-in-TraceDamaged : goal.returns-in-TraceDamaged
returns-in-TraceDamaged g c = rw c.in-TraceDamaged.is c.put_kind-in-TraceDamaged.ensures

pub returns-in-NotItsTrace : goal.returns-in-NotItsTrace
returns-in-NotItsTrace g c = rw c.in-NotItsTrace.is c.put_letter.ensures

pub returns-in-InputFault : goal.returns-in-InputFault
returns-in-InputFault g c = rw c.in-InputFault.is c.put_pieces-in-InputFault.ensures
