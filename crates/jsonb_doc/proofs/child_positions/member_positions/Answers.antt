use Rattle.jsonb_doc.proofs.Lemmas.{rules, keys_end, object_opened}
use Rattle.jsonb_doc.proofs.child_positions.member_positions.Goals as goal

pub returns-in_err-values-clause-members : goal.returns-in_err-values-clause-members
returns-in_err-values-clause-members c = λ t d.
    absurd (keys_end c.args.bytes.now t d c.args.parts c.requires c.in_err-values.ensures.contents)

pub returns-clause-members : goal.returns-clause-members
returns-clause-members c = λ t d. search (rules, object_opened)
