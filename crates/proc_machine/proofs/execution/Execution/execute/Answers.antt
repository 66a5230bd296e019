use Rattle.stack_code.specs.declared.instr.Instr.TheVariants as instr
use Rattle.stack_code.specs.View.{seen_code}
use Rattle.proc_machine.proofs.Moving.{moves_by}
use Rattle.proc_machine.proofs.execution.Execution.execute.Goals as goal

pub returns-in-Line : goal.returns-in-Line
returns-in-Line c =
    moves_by (seen_code c.args.at.code.now) c.args.at.count c.args.at.me.no c.args.instr (instr.Line c.in-Line.line) c.args.self.now c.at_line.new.self c.at_line.result c.in-Line.is c.at_line.ensures

pub returns-in-Push : goal.returns-in-Push
returns-in-Push c =
    moves_by (seen_code c.args.at.code.now) c.args.at.count c.args.at.me.no c.args.instr
    (instr.Push c.in-Push.bits) c.args.self.now c.push_bits.new.self c.push_bits.result c.in-Push.is c.push_bits.ensures

pub returns-in-Drop : goal.returns-in-Drop
returns-in-Drop c =
    moves_by (seen_code c.args.at.code.now) c.args.at.count c.args.at.me.no c.args.instr instr.Drop c.args.self.now c.drop_top.new.self c.drop_top.result c.in-Drop.is c.drop_top.ensures

pub returns-in-Dup : goal.returns-in-Dup
returns-in-Dup c =
    moves_by (seen_code c.args.at.code.now) c.args.at.count c.args.at.me.no c.args.instr instr.Dup c.args.self.now c.duplicate.new.self c.duplicate.result c.in-Dup.is c.duplicate.ensures

pub returns-in-Swap : goal.returns-in-Swap
returns-in-Swap c =
    moves_by (seen_code c.args.at.code.now) c.args.at.count c.args.at.me.no c.args.instr instr.Swap c.args.self.now c.swap.new.self c.swap.result c.in-Swap.is c.swap.ensures

pub returns-in-GlobalPlace : goal.returns-in-GlobalPlace
returns-in-GlobalPlace c =
    moves_by (seen_code c.args.at.code.now) c.args.at.count c.args.at.me.no c.args.instr
    (instr.GlobalPlace c.in-GlobalPlace.slot) c.args.self.now c.global_place.new.self c.global_place.result c.in-GlobalPlace.is c.global_place.ensures

pub returns-in-LocalPlace : goal.returns-in-LocalPlace
returns-in-LocalPlace c =
    moves_by (seen_code c.args.at.code.now) c.args.at.count c.args.at.me.no c.args.instr
    (instr.LocalPlace c.in-LocalPlace.slot) c.args.self.now c.local_place.new.self c.local_place.result c.in-LocalPlace.is c.local_place.ensures

pub returns-in-GlobalArray : goal.returns-in-GlobalArray
returns-in-GlobalArray c =
    moves_by (seen_code c.args.at.code.now) c.args.at.count c.args.at.me.no c.args.instr
    (instr.GlobalArray c.in-GlobalArray.base c.in-GlobalArray.len) c.args.self.now c.global_array.new.self c.global_array.result c.in-GlobalArray.is c.global_array.ensures

pub returns-in-LocalArray : goal.returns-in-LocalArray
returns-in-LocalArray c =
    moves_by (seen_code c.args.at.code.now) c.args.at.count c.args.at.me.no c.args.instr
    (instr.LocalArray c.in-LocalArray.base c.in-LocalArray.len) c.args.self.now c.local_array.new.self c.local_array.result c.in-LocalArray.is c.local_array.ensures

pub returns-in-ParamArray : goal.returns-in-ParamArray
returns-in-ParamArray c =
    moves_by (seen_code c.args.at.code.now) c.args.at.count c.args.at.me.no c.args.instr
    (instr.ParamArray c.in-ParamArray.slot) c.args.self.now c.param_array.new.self c.param_array.result c.in-ParamArray.is c.param_array.ensures

pub returns-in-Load : goal.returns-in-Load
returns-in-Load c =
    moves_by (seen_code c.args.at.code.now) c.args.at.count c.args.at.me.no c.args.instr instr.Load c.args.self.now c.load.new.self c.load.result c.in-Load.is c.load.ensures

pub returns-in-Store : goal.returns-in-Store
returns-in-Store c =
    moves_by (seen_code c.args.at.code.now) c.args.at.count c.args.at.me.no c.args.instr instr.Store c.args.self.now c.store.new.self c.store.result c.in-Store.is c.store.ensures

pub returns-in-Jump : goal.returns-in-Jump
returns-in-Jump c =
    moves_by (seen_code c.args.at.code.now) c.args.at.count c.args.at.me.no c.args.instr (instr.Jump c.in-Jump.target) c.args.self.now c.jump.new.self c.jump.result c.in-Jump.is c.jump.ensures

pub returns-in-JumpZero : goal.returns-in-JumpZero
returns-in-JumpZero c =
    moves_by (seen_code c.args.at.code.now) c.args.at.count c.args.at.me.no c.args.instr
    (instr.JumpZero c.in-JumpZero.target) c.args.self.now c.jump_zero.new.self c.jump_zero.result c.in-JumpZero.is c.jump_zero.ensures

pub returns-in-Zero : goal.returns-in-Zero
returns-in-Zero c =
    moves_by (seen_code c.args.at.code.now) c.args.at.count c.args.at.me.no c.args.instr
    (instr.Zero c.in-Zero.base c.in-Zero.len) c.args.self.now c.zero.new.self c.zero.result c.in-Zero.is c.zero.ensures

pub returns-in-Call : goal.returns-in-Call
returns-in-Call c =
    moves_by (seen_code c.args.at.code.now) c.args.at.count c.args.at.me.no c.args.instr (instr.Call c.in-Call.function) c.args.self.now c.call.new.self c.call.result c.in-Call.is c.call.ensures

pub returns-in-Return : goal.returns-in-Return
returns-in-Return c =
    moves_by (seen_code c.args.at.code.now) c.args.at.count c.args.at.me.no c.args.instr instr.Return c.args.self.now c.give_back.new.self c.give_back.result c.in-Return.is c.give_back.ensures

pub returns-in-SelfNo : goal.returns-in-SelfNo
returns-in-SelfNo c =
    moves_by (seen_code c.args.at.code.now) c.args.at.count c.args.at.me.no c.args.instr instr.SelfNo c.args.self.now c.self_no.new.self c.self_no.result c.in-SelfNo.is c.self_no.ensures

pub returns-in-Count : goal.returns-in-Count
returns-in-Count c =
    moves_by (seen_code c.args.at.code.now) c.args.at.count c.args.at.me.no c.args.instr instr.Count c.args.self.now c.count.new.self c.count.result c.in-Count.is c.count.ensures
