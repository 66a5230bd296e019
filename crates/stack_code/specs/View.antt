-- What the definitions of the machine see of code.
use Rattle.stack_code.specs.declared.code.Code.{Code as Kept}
use Rattle.stack_code.specs.Code.{Code}
use Rattle.stack_code.specs.Layout.{laid_view}

abbrev pub seen_code : Kept → Code
seen_code code = laid_view code.layout code.main code.texts code.globals.items code.variables.items
