use Rattle.command_line.proofs.RequestLemmas.{line_taken, line_held}
use Rattle.command_line.proofs.laws.lines_are_taken.Goals as goal

pub returns-clause-taken : goal.returns-clause-taken
returns-clause-taken c app line request is_line asks = line_taken app line is_line request asks

pub returns-clause-held : goal.returns-clause-held
returns-clause-held c app line request is_line asks matches has = line_held app line is_line request asks matches has
