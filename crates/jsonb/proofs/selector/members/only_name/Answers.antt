use Rattle.jsonb.proofs.Lemmas.{named_alone}
use Rattle.jsonb.proofs.selector.members.only_name.Goals as goal

pub returns-in-len1 : goal.returns-in-len1
returns-in-len1 c = named_alone _ c.args.steps.now c.step-item.result c.member_name.result c.in-len1.len_at_least c.in-len1.len_below c.step-item.is c.member_name.ensures
