use Rattle.jsonb_c.specs.Answers.{Delivers}
use Rattle.std.proofs.Common.{Ok}
use Rattle.jsonb_c.specs.Private.Numbers.{status_name}
use Rattle.jsonb_c.proofs.StatusNames.{delivers, name_of, no_name}
use Rattle.jsonb_c.proofs.status_name.jdoc_status_name.Goals as goal

pub returns-clause-name : goal.returns-clause-name
returns-clause-name c = λ s is.
    rw (name_of s c.args.status is) at (delivers c.name.result (status_name c.args.status) _ _ _ _ c.name.ensures c.deliver_found_text.ensures)

pub returns-clause-other : goal.returns-clause-other
returns-clause-other c = λ none.
    rw (no_name c.args.status none) at (delivers c.name.result (status_name c.args.status) _ _ _ _ c.name.ensures c.deliver_found_text.ensures)
