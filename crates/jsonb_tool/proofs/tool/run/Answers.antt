use Rattle.jsonb_tool.proofs.tool.run.Goals as goal

pub returns-in-Ok : goal.returns-in-Ok
returns-in-Ok _ c = (_, c.in-Ok.ensures.bytes, rw (c.as_bytes.ensures.value, c.as_str.ensures.value) (c.answer_to-answer.ensures))
