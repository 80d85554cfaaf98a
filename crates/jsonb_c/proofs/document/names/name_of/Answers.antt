use Rattle.std.proofs.Common.{ap, option_copied}
use Rattle.jsonb_c.proofs.Names.{name_ok, name_err}
use Rattle.jsonb_c.proofs.document.names.name_of.Goals as goal

pub returns-in-Ok : goal.returns-in-Ok
returns-in-Ok c = name_ok _ _ _ (ap option_copied c.in-Some.is) c.in-Ok.ensures.cases.0 c.in-Ok.ensures.cases.1

pub returns-in-Err : goal.returns-in-Err
returns-in-Err c = name_err _ _ (ap option_copied c.in-Some.is) c.in-Err.ensures.cases.0
