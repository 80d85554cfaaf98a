use Rattle.jsonb_raw.proofs.functions.array.hashes.container_hash.Goals as goal

pub returns-in-Ok-Array : goal.returns-in-Ok-Array
returns-in-Ok-Array c = λ form t stored.
    let stands = rw c.in-Ok-Array.field-0-is at (c.in-Ok-Array.ensures.decodes form t stored.content) in
    rw stands.1 (c.array_hash.ensures form stands.0 stands.2)

pub returns-in-Ok-Object : goal.returns-in-Ok-Object
returns-in-Ok-Object c = λ form t stored.
    let stands = rw c.in-Ok-Object.field-0-is at (c.in-Ok-Object.ensures.decodes form t stored.content) in
    rw stands.1 (c.object_hash.ensures form stands.0 stands.2)
