use Rattle.jsonb_raw.proofs.Lemmas.{arith, inl, inr, ℕ, List, subst, AppendsKey, width_of, text_reads, other_reads, plain_shape, scalar_tree}
use Rattle.jsonb_raw.proofs.KeyRoom.{room_kept, room_more}
use Rattle.jsonb_doc.specs.declared.shape.Shape.TheVariants.{Array, Object}
use Rattle.jsonb_raw.proofs.sortable_key.push_sortable_key.Goals as goal

pub returns-in-Array-clause-reads : goal.returns-in-Array-clause-reads
returns-in-Array-clause-reads c =
    elim c.in-Array.is [
      | inl e ↦ other_reads c.args.bytes Array _ tt (rw e at c.in_ok-root.ensures.readable) tt
      | inr e ↦ other_reads c.args.bytes Object _ tt (rw e at c.in_ok-root.ensures.readable) tt
    ]

pub returns-in-Text-clause-reads : goal.returns-in-Text-clause-reads
returns-in-Text-clause-reads c =
    text_reads c.args.bytes.now c.in-Text.text _ (rw c.in-Text.is at c.in_ok-root.ensures.readable) c.push_root_text.ensures.utf8

pub returns-in_default-clause-key : goal.returns-in_default-clause-key
returns-in_default-clause-key c = λ form tree decodes.
    let shape = c.in_ok-root.ensures.shape form tree decodes in
    let scalar = scalar_tree _ tree shape c.in_default.not-Array c.in_default.not-Object in
    subst (λ (old : List ℕ). AppendsKey (width_of c.args.width) tree old c.push_shape.result c.push_shape.new.out.items) c.reserve.ensures.items
    (rw scalar.1 (c.push_shape.ensures.key tree shape scalar.0))

pub returns-in_default-clause-room : goal.returns-in_default-clause-room
returns-in_default-clause-room c = λ form tree decodes room.
    c.push_shape.ensures.room tree (c.in_ok-root.ensures.shape form tree decodes) (omega arith)
    (room_kept tree _ _ _ _ _ room c.reserve.ensures.len c.reserve.ensures.capacity)

pub returns-in_default-clause-reads : goal.returns-in_default-clause-reads
returns-in_default-clause-reads c =
    other_reads c.args.bytes _ _ (plain_shape _ c.in_default.not-Text) c.in_ok-root.ensures.readable c.in_ok-root.ensures.normal

pub returns-in_err-reserve-clause-room : goal.returns-in_err-reserve-clause-room
returns-in_err-reserve-clause-room c = λ form tree decodes room.
    let more = room_more tree _ _ _ room in grind (arith, more)
