use Rattle.jsonb_doc.proofs.container.lone_entry.Goals as goal

pub returns-in_err-split_scalar : goal.returns-in_err-split_scalar
returns-in_err-split_scalar c = rw c.from_residual.ensures (λ kind words content headed lone.
    c.in_err-split_scalar.ensures kind words content headed lone.start)
