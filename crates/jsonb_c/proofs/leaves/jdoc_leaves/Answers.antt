use Rattle.std.proofs.Common.{◌≤◌, ◌∙◌, ◌∷◌, [], ap, inl, inr, false, length, refl, sym, Ok, Err}
use Rattle.std.proofs.lemmas.List.{length-map}
use Rattle.std.specs.List.{AllZip, concat}
use Rattle.jsonb_raw.specs.Leaves.{leaves}
use Rattle.jsonb_c.specs.Columns.{positions_from}
use Rattle.jsonb_c.specs.Private.LeafColumns.{LeafRow, documents_of, paths_of}
use Rattle.jsonb_c.proofs.LeafRows.{columns_of, no_room}
use Rattle.jsonb_c.proofs.leaves.jdoc_leaves.Goals as goal
use Rattle.jsonb_c.proofs.leaves.jdoc_leaves.Goals.{then-not-has_room-via-then-not-has_room, then-not-has_room-via-else-not-has_room+then-not-has_room-2}

pub returns-then-not-has_room : goal.returns-then-not-has_room
returns-then-not-has_room c =
    let (found, has, rows) = c.in-Ok.ensures.leaves in
    let none : AllZip (λ list room. length list ≤ length room)
    (concat (paths_of found) ∷ positions_from 0 (paths_of found) ∷ concat (documents_of found) ∷ positions_from 0 (documents_of found) ∷ [])
    (c.args.paths.now ∷ c.args.path_positions.now ∷ c.args.documents.now ∷ c.args.positions.now ∷ []) → ⊥ =
    elim c.then-not-has_room.branch [
      | then-not-has_room-via-then-not-has_room w ↦ λ fits.
          no_room (paths_of found) _ _ c.args.paths.now c.args.path_positions.now _ c.has_room.ensures w.if-not-has_room.true has.0 fits.0 fits.1.0
      | then-not-has_room-via-else-not-has_room+then-not-has_room-2 w ↦ λ fits.
          no_room (documents_of found) _ _ c.args.documents.now c.args.positions.now _
          w.has_room-else-not-has_room.ensures w.if-not-has_room-2.true has.1 fits.1.1.0 fits.1.1.1.0
    ] in (
      Ok (paths_of found, documents_of found),
      λ form t d. columns_of form (leaves false t) found (rows form t d),
      tt,
      (
        (c.sizes.ensures.rows found has ∙ sym (length-map found (λ (row : LeafRow). row.0)), c.sizes.ensures.rows found has ∙ sym (length-map found (λ (row : LeafRow). row.1)), c.sizes.ensures.path_bytes ∙ ap length has.0.0, c.sizes.ensures.document_bytes ∙ ap length has.1.0),
        inr (c.to_u32.ensures, none, refl),
      ),
    )

pub returns-else-not-has_room-2 : goal.returns-else-not-has_room-2
returns-else-not-has_room-2 c =
    let (found, has, rows) = c.in-Ok.ensures.leaves in (
      Ok (paths_of found, documents_of found),
      λ form t d. columns_of form (leaves false t) found (rows form t d),
      tt,
      (
        (c.sizes.ensures.rows found has ∙ sym (length-map found (λ (row : LeafRow). row.0)), c.sizes.ensures.rows found has ∙ sym (length-map found (λ (row : LeafRow). row.1)), c.sizes.ensures.path_bytes ∙ ap length has.0.0, c.sizes.ensures.document_bytes ∙ ap length has.1.0),
        inl (
          c.to_u32-in-Ok.ensures,
          (
            rw has.0.0 at c.write.ensures.bytes,
            (
              rw has.0.1 at c.write.ensures.positions,
              (rw has.1.0 at c.write-in-Ok.ensures.bytes, (rw has.1.1 at c.write-in-Ok.ensures.positions, tt)),
            ),
          ),
        ),
      ),
    )

pub returns-in-Err : goal.returns-in-Err
returns-in-Err c = (Err c.in-Err.error, c.in-Err.ensures.leaves, c.in-Err.ensures.errors, ((refl, refl, refl, refl), refl, c.to_u32-in-Err.ensures))
