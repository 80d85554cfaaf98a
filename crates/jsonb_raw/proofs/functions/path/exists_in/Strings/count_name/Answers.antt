use Rattle.jsonb_raw.proofs.functions.path.exists_in.Strings.count_name.Goals as goal

pub returns-then-self-many : goal.returns-then-self-many
returns-then-self-many c = λ form ss h. record { left = h.left; table = c.set_if_allocated-table.ensures form ss h.left }
