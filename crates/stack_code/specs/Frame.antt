-- What the call of a function needs to know of it.
use Rattle.stack_code.specs.declared.code.FunctionFrame.{FunctionFrame}
use Rattle.stack_code.specs.Code.{FunctionCode}

abbrev pub frame_of : FunctionCode → FunctionFrame
frame_of f = record { line = f.line; param_words = f.param_words; frame_words = f.frame_words }
